use Rattle.std.proofs.Common.{◌≡◌, slice_set, ℕ, Some, None, true, false, rules, refl, sym, ap, ◌∙◌, arith}
use Rattle.std.proofs.lemmas.Grind.{common_steps, get_or-set_at}
use Rattle.std.proofs.lemmas.List.{get_or-set_other}
use Rattle.rc_base.specs.declared.cluster.TilePart.{TilePart}
use Rattle.plain_lemmas.proofs.Numbers.{at_one_or_other}
use Rattle.assembler.specs.Drawn.{IsDrawn}
use Rattle.assembler.specs.Places.{fits, in_place, is_misfit}
use Rattle.assembler.proofs.Drawn.{stays_drawn}
use Rattle.assembler.proofs.Waiting.{place_below}
use Rattle.assembler.proofs.lanes.take_parts.Goals.{then-misfit, else-misfit}
use Rattle.assembler.proofs.lanes.take_parts.Goals as goal

pub loop-tile-preserved : goal.loop-tile-preserved
loop-tile-preserved g c =
    let l = c.args.layout.now in
    let places = c.loop-tile.places in
    let tile = c.loop-tile.tile in
    let o = c.take_part-odd.new.place in
    let rgb = c.take_part-odd.new.rgb in
    let inside = c.loop-tile-test.true in
    let here : in_place (slice_set places tile o) tile ≡ o = get_or-set_at places tile tile o None refl (omega (arith, c.loop-tile.auto.places, c.requires.places, c.requires.lanes, inside, c.loop-tile.auto.lanes)) in
    let there : (k : ℕ) → (k ≡ tile → ⊥) → in_place (slice_set places tile o) k ≡ in_place places k = λ k differs. get_or-set_other places tile k o None differs in
    record {
      lane_of = grind (arith, common_steps);
      found = grind (arith, common_steps);
      later = search rules;
      waiting = search rules;
      size = c.take_part-odd.ensures.written.size ∙ c.loop-tile.invariant.size;
      misfit = elim c.if-misfit.branch [
        | then-misfit w ↦ λ _.
            let m = c.loop-tile.invariant.misfit w.if-misfit.true in
            (m.0, omega (arith, m.1), ap (is_misfit l m.0) (there m.0 (λ same. absurd (omega (arith, same, m.1)))) ∙ m.2)
        | else-misfit w ↦ λ is. (tile, omega arith, ap (is_misfit l tile) here ∙ sym c.take_part-odd.ensures.written.misfit ∙ sym w.misfit-is ∙ is)
      ];
      fit = elim c.if-misfit.branch [
        | then-misfit w ↦ λ is. let e = w.misfit-is in let f = w.if-misfit.true in absurd (cc)
        | else-misfit w ↦ λ is.
            at_one_or_other (λ (k : ℕ). is_misfit l k (in_place (slice_set places tile o) k) ≡ false) tile
            (ap (is_misfit l tile) here ∙ sym c.take_part-odd.ensures.written.misfit ∙ sym w.misfit-is ∙ is)
            (λ k differs. ap (is_misfit l k) (there k differs) ∙ c.loop-tile.invariant.fit w.if-misfit.false k)
      ];
      drawn = at_one_or_other (λ (k : ℕ). (p : TilePart) → in_place (slice_set places tile o) k ≡ Some p → fits l k p ≡ true → IsDrawn l rgb k p) tile
          (λ p is fit. c.take_part-odd.ensures.written.drawn p (sym here ∙ is) fit)
          (λ k differs p is fit.
          let was : in_place places k ≡ Some p = sym (there k differs) ∙ is in
          let low = place_below places k p was in
          stays_drawn l tile k p c.loop-tile.rgb rgb c.requires.bytes.columns c.requires.bytes.rows (omega (arith, low, c.loop-tile.auto.places, c.requires.places)) differs
          c.take_part-odd.ensures.written.others (c.loop-tile.invariant.drawn k p was fit));
    }
