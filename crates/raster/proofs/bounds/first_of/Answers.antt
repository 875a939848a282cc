use Rattle.std.proofs.Common.{◌≡◌, refl, sym, subst, arith, ℤ, ◌≤ℤ◌, to_z, of_z, to_z-of_z, w32, FitsSigned}
use Rattle.std.specs.Int.{int_min}
use Rattle.std.proofs.lemmas.Int.{ints}
use Rattle.raster.proofs.Fragments.{min_within}
use Rattle.rc_base.specs.Drawing.Cover.{centre}
use Rattle.rc_base.specs.Drawing.Window.{place_bound}
use Rattle.raster.proofs.bounds.first_of.Goals as goal

pub first_from-requires : goal.first_from-requires
first_from-requires c =
    let t = min_within c.args.a c.args.b c.args.c place_bound c.requires.first c.requires.second c.requires.third in
    let f = c.ranges.a in let g = c.ranges.b in let h = c.ranges.c in
    search (arith, ints, to_z-of_z, t)

pub returns : goal.returns
returns c p h =
    let f : FitsSigned w32 c.min.result = record { sfits = c.min.type_inv } in
    let g : FitsSigned w32 c.min-2.result = record { sfits = c.min-2.type_inv } in
    let k : FitsSigned w32 c.first_from.result = record { sfits = c.first_from.type_inv } in
    let e : to_z w32 (of_z w32 c.min-2.result) ≡ int_min (int_min c.args.a c.args.b) c.args.c =
    rw (to_z-of_z g, c.min-2.ensures.value, to_z-of_z f, c.min.ensures.value, to_z-of_z c.ranges.a, to_z-of_z c.ranges.b, to_z-of_z c.ranges.c) refl in
    rw (to_z-of_z k) (c.first_from.ensures p (subst (λ (z : ℤ). z ≤ℤ centre p) (sym e) h))
