use Rattle.std.proofs.Common.{◌≡◌, refl, sym, subst, arith, ℤ, ◌≤ℤ◌, to_z, of_z, to_z-of_z, w32, FitsSigned}
use Rattle.std.specs.Int.{int_max}
use Rattle.std.proofs.lemmas.Int.{ints}
use Rattle.raster.proofs.Fragments.{max_within}
use Rattle.rc_base.specs.Drawing.Cover.{centre}
use Rattle.rc_base.specs.Drawing.Window.{place_bound}
use Rattle.raster.proofs.bounds.end_of.Goals as goal

pub end_after-requires : goal.end_after-requires
end_after-requires c =
    let t = max_within c.args.a c.args.b c.args.c place_bound c.requires.first c.requires.second c.requires.third in
    let f = c.ranges.a in let g = c.ranges.b in let h = c.ranges.c in
    search (arith, ints, to_z-of_z, t)

pub returns : goal.returns
returns c p h =
    let f : FitsSigned w32 c.max.result = record { sfits = c.max.type_inv } in
    let g : FitsSigned w32 c.max-2.result = record { sfits = c.max-2.type_inv } in
    let k : FitsSigned w32 c.end_after.result = record { sfits = c.end_after.type_inv } in
    let e : to_z w32 (of_z w32 c.max-2.result) ≡ int_max (int_max c.args.a c.args.b) c.args.c =
    rw (to_z-of_z g, c.max-2.ensures.value, to_z-of_z f, c.max.ensures.value, to_z-of_z c.ranges.a, to_z-of_z c.ranges.b, to_z-of_z c.ranges.c) refl in
    rw (to_z-of_z k) (c.end_after.ensures p (subst (λ (z : ℤ). centre p ≤ℤ z) (sym e) h))
