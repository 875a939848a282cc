use Rattle.std.proofs.Common.{◌≡◌, ◌∙◌, ◌*◌, ◌-◌, true, ◌&&◌, sym, rules}
use Rattle.std.specs.Prelude.{nat_le, ◌||◌}
use Rattle.rc_base.specs.Orders.Journal.{has}
use Rattle.bounds_bucket.proofs.TileSets.{has_either}
use Rattle.bounds_bucket.proofs.tiles.with_row.Goals as goal

pub returns-then-has : goal.returns-then-has
returns-then-has c t few =
    let a = c.args in
    let yes : has c.args.rows c.args.row ≡ true = sym c.has.ensures ∙ c.if-has.true in
    let row : c.from.result ≡ c.args.row = search rules in
    let columns : c.from-then-has.result ≡ c.args.layout.now.columns = search rules in
    let start : c.from.result * c.from-then-has.result ≡ c.args.row * c.args.layout.now.columns = λ i. row i * columns i in
    has_either a.met c.tiles_from.result t
    ∙ (λ i. (c.tiles_from.ensures t few ∙ (λ j. nat_le (start j) t && has a.columns (t - start j))) i || has a.met t)
    ∙ (λ i. (sym yes i && (nat_le (a.row * a.layout.now.columns) t && has a.columns (t - a.row * a.layout.now.columns))) || has a.met t)
