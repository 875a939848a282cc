use Rattle.std.proofs.Common.{◌≡◌, ◌<◌, true, length, None, Some, inl, inr, arith, refl, sym, ap, ◌∙◌, subst, true≢false, rules}
use Rattle.std.proofs.lemmas.Bool.{not-true, not-false}
use Rattle.rc_base.specs.Drawing.Texel.{samples_shared}
use Rattle.rc_base.specs.declared.state.Effect.TheVariants as eff
use Rattle.race_check.specs.Touches.{AreTouched, SomePasses, block_has}
use Rattle.race_check.specs.declared.cells.Cells.{Cells}
use Rattle.race_check.proofs.CarriedUses.{use_of, passes, block_touched, bare_finds, sampled_finds}
use Rattle.race_check.proofs.carry.carry_block.Goals as goal

pub returns-then-not-seen-clause-visited : goal.returns-then-not-seen-clause-visited
returns-then-not-seen-clause-visited c f effect =
    let s = c.args.state.now in
    let v = c.args.visit.now in
    let m = c.args.marks.now in
    let block = c.args.block.now in
    let t = c.touch_block-seen.ensures.touched in
    let none : SomePasses v.width v.height (block_has s block) → ⊥ = λ k. true≢false (sym (t.some.1 (inr k)) ∙ not-true _ c.if-not-seen.true) in
    passes f v s (eff.Block block) (block_has s block) None None m _ _ effect
    (use_of v.width v.height s (eff.Block block) (block_has s block) None (block_touched s block) (λ q k. absurd (true≢false (sym k))) (λ q k r. absurd (none r)) (λ q k. absurd cc))
    (record {
      size = c.touch_block-seen.ensures.size;
      pixels = t.cells;
      writers = refl;
      readers = refl;
      best = bare_finds v (block_has s block) m _ _ c.nothing_seen.ensures.best t.best;
    })
    c.requires.client

pub returns-in-Some-clause-visited : goal.returns-in-Some-clause-visited
returns-in-Some-clause-visited c f effect =
    let s = c.args.state.now in
    let v = c.args.visit.now in
    let m = c.args.marks.now in
    let block = c.args.block.now in
    let t = c.touch_block-seen.ensures.touched in
    let some : SomePasses v.width v.height (block_has s block) = elim (t.some.0 (not-false _ c.if-not-seen.false)) [
      | inl k ↦ absurd (true≢false (sym k ∙ c.nothing_seen.ensures.some))
      | inr k ↦ k
    ] in
    let o = c.in-Some.texture in
    let e = c.sample.ensures in
    let shared : samples_shared s o ≡ true = search rules in
    let low : o < 256 = omega arith in
    passes f v s (eff.Block block) (block_has s block) (Some o) None m _ _ effect
    (use_of v.width v.height s (eff.Block block) (block_has s block) (Some o) (block_touched s block) (λ q k. absurd (true≢false (sym k)))
    (λ q k r. sym c.in-Some.is ∙ c.sampled_texture.ensures.only q k)
    (λ q k. let same : o ≡ q = cc in (subst (λ k. samples_shared s k ≡ true) same shared, some, subst (λ k. k < 256) same low)))
    (record {
      size = ap (λ (x : Cells). length x.cells.items) e.same.0 ∙ c.touch_block-seen.ensures.size;
      pixels = subst (λ (x : Cells). AreTouched (block_has s block) v m.pixels.cells.items x.cells.items) (sym e.same.0) t.cells;
      writers = ap (λ (x : Cells). x.cells.items) e.same.1;
      readers = e.readers;
      best = sampled_finds v (block_has s block) o m _ _ _ c.nothing_seen.ensures.best t.best e.best;
    })
    c.requires.client

pub returns-in-None-clause-visited : goal.returns-in-None-clause-visited
returns-in-None-clause-visited c f effect =
    let s = c.args.state.now in
    let v = c.args.visit.now in
    let m = c.args.marks.now in
    let block = c.args.block.now in
    let t = c.touch_block-seen.ensures.touched in
    passes f v s (eff.Block block) (block_has s block) None None m _ _ effect
    (use_of v.width v.height s (eff.Block block) (block_has s block) None (block_touched s block) (λ q k. absurd (true≢false (sym k)))
    (λ q k r. sym c.in-None.is ∙ c.sampled_texture.ensures.only q k) (λ q k. absurd cc))
    (record {
      size = c.touch_block-seen.ensures.size;
      pixels = t.cells;
      writers = refl;
      readers = refl;
      best = bare_finds v (block_has s block) m _ _ c.nothing_seen.ensures.best t.best;
    })
    c.requires.client
