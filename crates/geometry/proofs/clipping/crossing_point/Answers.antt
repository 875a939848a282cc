use Rattle.std.proofs.Common.{◌≡◌, ◌∙◌, ap, to_z, of_z, to_z-of_z, FitsSigned, ℤ, pos, ◌-ℤ◌, ◌+ℤ◌, ◌*ℤ◌, w32, w64, rules}
use Rattle.rc_base.specs.Numbers.{floor_quotient, natural}
use Rattle.rc_base.specs.Drawing.Pieces.{crossing_point, crossing_value, crossing_channel}
use Rattle.geometry.proofs.Sharing.{cuttable_bounds, word_within}
use Rattle.geometry.proofs.clipping.crossing_point.Goals as goal

pub crossing_value-requires-clause-from : goal.crossing_value-requires-clause-from
crossing_value-requires-clause-from c = word_within _ (cuttable_bounds c.args.a.now c.requires.from).0

pub crossing_value-requires-clause-to : goal.crossing_value-requires-clause-to
crossing_value-requires-clause-to c = word_within _ (cuttable_bounds c.args.b.now c.requires.to).0

pub crossing_value-requires-2-clause-from : goal.crossing_value-requires-2-clause-from
crossing_value-requires-2-clause-from c = word_within _ (cuttable_bounds c.args.a.now c.requires.from).1

pub crossing_value-requires-2-clause-to : goal.crossing_value-requires-2-clause-to
crossing_value-requires-2-clause-to c = word_within _ (cuttable_bounds c.args.b.now c.requires.to).1

pub crossing_value-requires-3-clause-from : goal.crossing_value-requires-3-clause-from
crossing_value-requires-3-clause-from c = word_within _ (cuttable_bounds c.args.a.now c.requires.from).2

pub crossing_value-requires-3-clause-to : goal.crossing_value-requires-3-clause-to
crossing_value-requires-3-clause-to c = word_within _ (cuttable_bounds c.args.b.now c.requires.to).2

met_at : (r from to part whole from' to' part' whole' : ℤ) → r ≡ from' +ℤ floor_quotient ((to' -ℤ from') *ℤ part') whole'
    → from' ≡ from → to' ≡ to → part' ≡ part → whole' ≡ whole → r ≡ from +ℤ floor_quotient ((to -ℤ from) *ℤ part) whole
met_at r from to part whole from' to' part' whole' e f t p w = e ∙ (λ i. f i +ℤ floor_quotient ((t i -ℤ f i) *ℤ p i) (w i))

pub returns : goal.returns
unfolding crossing_point
returns c =
    let a = c.args.a.now in
    let b = c.args.b.now in
    let part = c.fraction_of-fraction.ensures.part in
    let whole = c.fraction_of-fraction.ensures.whole in
    let ax : to_z w64 (of_z w64 a.x) ≡ a.x = let f : FitsSigned w64 a.x = search rules in to_z-of_z f in
    let bx : to_z w64 (of_z w64 b.x) ≡ b.x = let f : FitsSigned w64 b.x = search rules in to_z-of_z f in
    let ay : to_z w64 (of_z w64 a.y) ≡ a.y = let f : FitsSigned w64 a.y = search rules in to_z-of_z f in
    let by : to_z w64 (of_z w64 b.y) ≡ b.y = let f : FitsSigned w64 b.y = search rules in to_z-of_z f in
    let az : to_z w64 (of_z w64 a.z) ≡ a.z = let f : FitsSigned w64 a.z = search rules in to_z-of_z f in
    let bz : to_z w64 (of_z w64 b.z) ≡ b.z = let f : FitsSigned w64 b.z = search rules in to_z-of_z f in
    let asl : to_z w32 (of_z w32 a.s) ≡ a.s = let f : FitsSigned w32 a.s = search rules in to_z-of_z f in
    let bs : to_z w32 (of_z w32 b.s) ≡ b.s = let f : FitsSigned w32 b.s = search rules in to_z-of_z f in
    let at : to_z w32 (of_z w32 a.t) ≡ a.t = let f : FitsSigned w32 a.t = search rules in to_z-of_z f in
    let bt : to_z w32 (of_z w32 b.t) ≡ b.t = let f : FitsSigned w32 b.t = search rules in to_z-of_z f in
    let m1 : FitsSigned w64 c.crossing_value.result = record { sfits = c.crossing_value.type_inv } in
    let m2 : FitsSigned w64 c.crossing_value-2.result = record { sfits = c.crossing_value-2.type_inv } in
    let m3 : FitsSigned w64 c.crossing_value-3.result = record { sfits = c.crossing_value-3.type_inv } in
    let m4 : FitsSigned w32 c.crossing_word.result = record { sfits = c.crossing_word.type_inv } in
    let m5 : FitsSigned w32 c.crossing_word-2.result = record { sfits = c.crossing_word-2.type_inv } in
    let x : to_z w64 (of_z w64 c.crossing_value.result) ≡ crossing_value a b a.x b.x = to_z-of_z m1 ∙ met_at _ _ _ _ _ _ _ _ _ c.crossing_value.ensures.value ax bx part whole in
    let y : to_z w64 (of_z w64 c.crossing_value-2.result) ≡ crossing_value a b a.y b.y = to_z-of_z m2 ∙ met_at _ _ _ _ _ _ _ _ _ c.crossing_value-2.ensures.value ay by part whole in
    let z : to_z w64 (of_z w64 c.crossing_value-3.result) ≡ crossing_value a b a.z b.z = to_z-of_z m3 ∙ met_at _ _ _ _ _ _ _ _ _ c.crossing_value-3.ensures.value az bz part whole in
    let s : to_z w32 (of_z w32 c.crossing_word.result) ≡ crossing_value a b a.s b.s = to_z-of_z m4 ∙ met_at _ _ _ _ _ _ _ _ _ c.crossing_word.ensures asl bs part whole in
    let t : to_z w32 (of_z w32 c.crossing_word-2.result) ≡ crossing_value a b a.t b.t = to_z-of_z m5 ∙ met_at _ _ _ _ _ _ _ _ _ c.crossing_word-2.ensures at bt part whole in
    let r : c.crossing_channel.result ≡ crossing_channel a b a.color.r b.color.r = c.crossing_channel.ensures ∙ ap natural (λ i. pos a.color.r +ℤ floor_quotient ((pos b.color.r -ℤ pos a.color.r) *ℤ part i) (whole i)) in
    let g : c.crossing_channel-2.result ≡ crossing_channel a b a.color.g b.color.g = c.crossing_channel-2.ensures ∙ ap natural (λ i. pos a.color.g +ℤ floor_quotient ((pos b.color.g -ℤ pos a.color.g) *ℤ part i) (whole i)) in
    let l : c.crossing_channel-3.result ≡ crossing_channel a b a.color.b b.color.b = c.crossing_channel-3.ensures ∙ ap natural (λ i. pos a.color.b +ℤ floor_quotient ((pos b.color.b -ℤ pos a.color.b) *ℤ part i) (whole i)) in
    let o : c.crossing_channel-4.result ≡ crossing_channel a b a.color.a b.color.a = c.crossing_channel-4.ensures ∙ ap natural (λ i. pos a.color.a +ℤ floor_quotient ((pos b.color.a -ℤ pos a.color.a) *ℤ part i) (whole i)) in
    λ i. record { x = x i; y = y i; z = z i; w = pos 256; color = record { r = r i; g = g i; b = l i; a = o i }; s = s i; t = t i }
