use Rattle.std.proofs.Common.{◌≡◌, ℕ, ◌∙◌, ap, sym, Some, Ok, Err}
use Rattle.std.specs.Prelude.{MatchResult, Result}
use Rattle.std.specs.Option.{option_or}
use Rattle.std.specs.declared.option.Option.{Option}
use Rattle.rc_base.specs.Formats.Limits.{size_limit}
use Rattle.scene_file.specs.Generator.{generated_scene}
use Rattle.rc_base.specs.declared.scene.Limit.{Limit}
use Rattle.run_words.specs.Asked.{tile_limit, word_limit}
use Rattle.run_words.specs.declared.job.Cluster.{Cluster}
use Rattle.render_core.proofs.Judging.{made_words}
use Rattle.render_core.proofs.generated.rounds_for.Goals as goal

-- of the words nothing is outside its range but what is of the rounds
judged : (words rounds : Option Limit) (P : ℕ → Type 0) (r : Result ℕ Limit) → words ≡ rounds → MatchResult r P (λ limit. rounds ≡ Some limit)
    → MatchResult r P (λ limit. words ≡ Some limit)
judged words rounds P (Ok n) e h = h
judged words rounds P (Err limit) e h = e ∙ h

pub returns-in-Some : goal.returns-in-Some
returns-in-Some c =
    let scene = generated_scene c.args.seed c.args.size in
    let tiles = ap (λ (cluster : Option Cluster). tile_limit cluster scene) c.cluster.ensures in
    made_words c.args.job c.args.seed c.args.size scene c.requires
    ∙ ap (λ (o : Option Limit). option_or o (size_limit c.args.size)) (sym tiles ∙ sym (c.tiles_past.ensures c.args.seed c.args.size) ∙ c.in-Some.is)

pub returns-in-None : goal.returns-in-None
returns-in-None c =
    let scene = generated_scene c.args.seed c.args.size in
    let tiles = ap (λ (cluster : Option Cluster). tile_limit cluster scene) c.cluster.ensures in
    let words = made_words c.args.job c.args.seed c.args.size scene c.requires
    ∙ ap (λ (o : Option Limit). option_or o (size_limit c.args.size)) (sym tiles ∙ sym (c.tiles_past.ensures c.args.seed c.args.size) ∙ c.in-None.is) in
    judged (word_limit c.args.job scene) (size_limit c.args.size) _ c.rounds_of.result words c.rounds_of.ensures
