use Rattle.std.proofs.Common.{◌≡◌, None, Some, sym, subst}
use Rattle.std.specs.Prelude.{MatchResult}
use Rattle.rc_base.specs.declared.scene.Decl.{Decl}
use Rattle.rc_base.specs.Formats.Limits.{layout_limit}
use Rattle.run_words.proofs.asked.tiles_asked.Goals as goal

pub returns : goal.returns
unfolding layout_limit
returns c = λ scene same.
    let cluster = c.args.cluster in
    subst (λ (d : Decl). MatchResult c.layout.result
    (λ l. (layout_limit d.width d.height cluster.columns cluster.rows cluster.depth ≡ None)
    × (l ≡ record { width = d.width; height = d.height; columns = cluster.columns; rows = cluster.rows }))
    (λ limit. layout_limit d.width d.height cluster.columns cluster.rows cluster.depth ≡ Some limit)) (sym same) c.layout.ensures.layout
