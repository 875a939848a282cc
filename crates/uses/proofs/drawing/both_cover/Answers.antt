use Rattle.std.proofs.Common.{◌≡◌, ◌&&◌, Bool, true, false, sym, ap, ◌∙◌, to_z-of_z}
use Rattle.rc_base.specs.Drawing.Cover.{is_inside}
use Rattle.uses.proofs.drawing.both_cover.Goals as goal

behind : (a b : Bool) → a ≡ true → (a && b) ≡ false → b ≡ false
behind a b has none = ap (λ (v : Bool). v && b) (sym has) ∙ none

pub returns-then-covers : goal.returns-then-covers
returns-then-covers c i j low high opposite =
    let v = c.args.first.now.v in
    let w = c.args.second.now.v in
    let x = c.args.x in
    let y = c.args.y in
    let first : c.covers.result ≡ is_inside v x y = simp (to_z-of_z c.ranges.x, to_z-of_z c.ranges.y) at c.covers.ensures in
    let second : c.covers-then-covers.result ≡ is_inside w x y = simp (to_z-of_z c.ranges.x, to_z-of_z c.ranges.y) at c.covers-then-covers.ensures in
    let none = (c.no_double_edge.ensures.never v w i j x y low high opposite).0 in
    second ∙ behind (is_inside v x y) (is_inside w x y) (sym first ∙ c.if-covers.true) none
