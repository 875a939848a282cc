use Rattle.std.proofs.Common.{◌≡◌, ◌∙◌, ◌<ℤ◌, pos, true, rules, w32, w64, to_z, of_z, to_z-of_z, FitsSigned}
use Rattle.rc_base.specs.Numbers.{entry}
use Rattle.rc_base.specs.Drawing.Window.{axis_of}
use Rattle.plain_lemmas.proofs.Numbers.{from_int_le_false}
use Rattle.bounds_bucket.proofs.Seen.{stands}
use Rattle.bounds_bucket.proofs.still.place_of.Goals as goal

pub returns : goal.returns
returns c =
    let v = c.args.v.now in
    let s = c.args.state.now in
    let x : to_z w32 (of_z w32 (entry c.args.v.now.pos 0)) ≡ entry c.args.v.now.pos 0 = search rules in
    let y : to_z w32 (of_z w32 (entry c.args.v.now.pos 1)) ≡ entry c.args.v.now.pos 1 = search rules in
    let z : to_z w32 (of_z w32 (entry c.args.v.now.pos 2)) ≡ entry c.args.v.now.pos 2 = search rules in
    let w : to_z w32 (of_z w32 (entry c.args.v.now.pos 3)) ≡ entry c.args.v.now.pos 3 = search rules in
    let left : to_z w32 (of_z w32 (entry c.args.state.now.viewport 0)) ≡ entry c.args.state.now.viewport 0 = search rules in
    let bottom : to_z w32 (of_z w32 (entry c.args.state.now.viewport 1)) ≡ entry c.args.state.now.viewport 1 = search rules in
    let width : to_z w32 (of_z w32 (entry c.args.state.now.viewport 2)) ≡ entry c.args.state.now.viewport 2 = search rules in
    let height : to_z w32 (of_z w32 (entry c.args.state.now.viewport 3)) ≡ entry c.args.state.now.viewport 3 = search rules in
    let above : pos 0 <ℤ entry c.args.v.now.pos 3 = from_int_le_false (entry v.pos 3) (pos 0) (simp w at c.if-w-le0.false) in
    let inside : c.is_inside.result ≡ true = c.if-not-is_inside.false in
    let fx : FitsSigned w64 c.axis-x.result = record { sfits = c.axis-x.type_inv } in
    let fy : FitsSigned w64 c.axis-y.result = record { sfits = c.axis-y.type_inv } in
    let px : c.axis-x.result ≡ axis_of (entry s.viewport 0) (entry s.viewport 2) (entry v.pos 0) (entry v.pos 3) = simp (left, width, x, w) at c.axis-x.ensures in
    let py : c.axis-y.result ≡ axis_of (entry s.viewport 1) (entry s.viewport 3) (entry v.pos 1) (entry v.pos 3) = simp (bottom, height, y, w) at c.axis-y.ensures in
    stands s v c.vertex_at.result c.requires above (simp (w, z) at (c.is_inside.ensures.low inside)) (simp (w, z) at (c.is_inside.ensures.high inside))
    (c.vertex_at.ensures.x ∙ to_z-of_z fx ∙ px) (c.vertex_at.ensures.y ∙ to_z-of_z fy ∙ py) c.vertex_at.ensures.bounds
