use Rattle.std.proofs.Common.{◌≡◌, ◌∙◌, to_z, of_z, to_z-of_z, FitsSigned, pos, ◌-ℤ◌, w64, rules}
use Rattle.geometry.proofs.Sharing.{cuttable_bounds, cut_is, word_within}
use Rattle.geometry.proofs.clipping.fraction_of.Goals as goal

pub apart-requires-clause-to : goal.apart-requires-clause-to
apart-requires-clause-to c = word_within _ (cuttable_bounds c.args.a.now c.requires.from).3

pub apart-requires-2-clause-to : goal.apart-requires-2-clause-to
apart-requires-2-clause-to c = word_within _ (cuttable_bounds c.args.a.now c.requires.from).3

pub apart-requires-2-clause-from : goal.apart-requires-2-clause-from
apart-requires-2-clause-from c = word_within _ (cuttable_bounds c.args.b.now c.requires.to).3

pub invariant_of-result : goal.invariant_of-result
invariant_of-result c =
    let f : FitsSigned w64 c.apart.result = record { sfits = c.apart.type_inv } in
    let g : FitsSigned w64 c.apart-2.result = record { sfits = c.apart-2.type_inv } in
    let a : to_z w64 (of_z w64 c.args.a.now.w) ≡ c.args.a.now.w = let h : FitsSigned w64 c.args.a.now.w = search rules in to_z-of_z h in
    let b : to_z w64 (of_z w64 c.args.b.now.w) ≡ c.args.b.now.w = let h : FitsSigned w64 c.args.b.now.w = search rules in to_z-of_z h in
    let part : to_z w64 (of_z w64 c.apart.result) ≡ c.args.a.now.w -ℤ pos 256 = to_z-of_z f ∙ rw a at c.apart.ensures.value in
    let whole : to_z w64 (of_z w64 c.apart-2.result) ≡ c.args.a.now.w -ℤ c.args.b.now.w = to_z-of_z g ∙ rw (a, b) at c.apart-2.ensures.value in
    record { cut = cut_is c.args.a.now c.args.b.now _ _ c.requires.front c.requires.behind c.requires.from part whole }
