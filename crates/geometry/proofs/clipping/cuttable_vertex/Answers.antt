use Rattle.std.proofs.Common.{◌≡◌, ◌∙◌, true, to_z, of_z, to_z-of_z, FitsSigned, w32, w64, sym, rules, refl}
use mir.Syntax.{w128}
use Rattle.rc_base.specs.Numbers.{entry, is_within}
use Rattle.rc_base.specs.Drawing.Pieces.{clip_bound, is_cuttable}
use Rattle.geometry.proofs.clipping.cuttable_vertex.Goals as goal

pub returns : goal.returns
unfolding is_cuttable
returns c =
    let l = c.clip-at.result in
    let same = c.clip-at.ensures.value in
    let f0 : FitsSigned w128 (entry l 0) = search rules in
    let f1 : FitsSigned w128 (entry l 1) = search rules in
    let f2 : FitsSigned w128 (entry l 2) = search rules in
    let f3 : FitsSigned w128 (entry l 3) = search rules in
    let g0 : FitsSigned w64 c.small.result = record { sfits = c.small.type_inv } in
    let g1 : FitsSigned w64 c.small-2.result = record { sfits = c.small-2.type_inv } in
    let g2 : FitsSigned w64 c.small-3.result = record { sfits = c.small-3.type_inv } in
    let g3 : FitsSigned w64 c.small-4.result = record { sfits = c.small-4.type_inv } in
    let fs : FitsSigned w32 c.args.v.now.s = search rules in
    let ft : FitsSigned w32 c.args.v.now.t = search rules in
    let e0 : is_within clip_bound (entry l 0) ≡ true = rw (to_z-of_z f0) at (sym c.is_small.ensures ∙ c.if-not-is_small.false) in
    let e1 : is_within clip_bound (entry l 1) ≡ true = rw (to_z-of_z f1) at (sym c.is_small-2.ensures ∙ c.if-not-is_small-2.false) in
    let e2 : is_within clip_bound (entry l 2) ≡ true = rw (to_z-of_z f2) at (sym c.is_small-3.ensures ∙ c.if-not-is_small-3.false) in
    let e3 : is_within clip_bound (entry l 3) ≡ true = rw (to_z-of_z f3) at (sym c.is_small-4.ensures ∙ c.if-not-is_small-4.false) in
    let x : to_z w64 (of_z w64 c.small.result) ≡ entry l 0 = to_z-of_z g0 ∙ c.small.ensures ∙ to_z-of_z f0 in
    let y : to_z w64 (of_z w64 c.small-2.result) ≡ entry l 1 = to_z-of_z g1 ∙ c.small-2.ensures ∙ to_z-of_z f1 in
    let z : to_z w64 (of_z w64 c.small-3.result) ≡ entry l 2 = to_z-of_z g2 ∙ c.small-3.ensures ∙ to_z-of_z f2 in
    let w : to_z w64 (of_z w64 c.small-4.result) ≡ entry l 3 = to_z-of_z g3 ∙ c.small-4.ensures ∙ to_z-of_z f3 in
    rw (← same) (rw (e0, e1, e2, e3) refl, rw (x, y, z, w, to_z-of_z fs, to_z-of_z ft) refl)
