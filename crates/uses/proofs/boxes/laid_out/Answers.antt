use Rattle.std.proofs.Common.{◌≡◌, ◌<◌, ℕ, ◌*◌, min, true, [], ◌∷◌, Result, Ok, Err, Option, Some, None, ap, sym, ◌∙◌, arith}
use Rattle.std.specs.Prelude.{MatchResult}
use Rattle.std.proofs.lemmas.Bool.{cond-true}
use Rattle.std.proofs.lemmas.Bool.Decides.{nat_tests}
use Rattle.rc_base.specs.Formats.Limits.{Quantity, quantity, first_outside, is_outside, layout_limit}
use Rattle.rc_base.specs.declared.scene.Limit.{Limit}
use Rattle.rc_base.specs.declared.window.Layout.{Layout}
use Rattle.uses.proofs.boxes.laid_out.Goals as goal

too_many : (width height columns rows depth : ℕ) → 8 < columns → layout_limit width height columns rows depth ≡ Some (record { what = 14; value = columns })
unfolding layout_limit
too_many width height columns rows depth many =
    let q : Quantity = quantity 14 columns 1 (min 8 width) in
    let rest = quantity 15 rows 1 (min 8 height) ∷ quantity 16 (columns * rows) 1 32 ∷ quantity 17 depth 1 16 ∷ [] in
    let test : is_outside q ≡ true = grind (arith, nat_tests) in
    cond-true (is_outside q) (Some (record { what = 14; value = columns })) (first_outside rest) test

told : (r : Result Layout Limit) (l : Layout) (o : Option Limit) (limit : Limit) → MatchResult r (λ made. (o ≡ None) × (made ≡ l)) (λ e. o ≡ Some e) → o ≡ Some limit → r ≡ Err limit
told (Ok made) l o limit is first = absurd (let none = is.0 in cc)
told (Err e) l o limit is first = ap Err (let some = sym is ∙ first in cc)

pub returns : goal.returns
returns c =
    told c.layout.result _ (layout_limit c.args.width c.args.height c.args.columns c.args.rows c.args.depth) _ c.layout.ensures.layout
    (too_many c.args.width c.args.height c.args.columns c.args.rows c.args.depth c.requires)
