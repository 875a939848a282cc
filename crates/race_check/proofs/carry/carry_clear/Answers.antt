use Rattle.std.proofs.Common.{None, refl, sym, true≢false}
use Rattle.rc_base.specs.declared.state.Effect.TheVariants as eff
use Rattle.race_check.specs.Touches.{clear_has}
use Rattle.race_check.proofs.CarriedUses.{use_of, passes, clear_touched, bare_finds}
use Rattle.race_check.proofs.carry.carry_clear.Goals as goal

pub returns-clause-visited : goal.returns-clause-visited
returns-clause-visited c f effect =
    let s = c.args.state.now in
    let v = c.args.visit.now in
    let m = c.args.marks.now in
    let t = c.touch_clear.ensures.touched in
    passes f v s (eff.Clear c.args.mask) (clear_has s) None None m _ _ effect
    (use_of v.width v.height s (eff.Clear c.args.mask) (clear_has s) None (clear_touched s c.args.mask) (λ q k. absurd (true≢false (sym k))) (λ q k r. absurd (true≢false (sym k))) (λ q k. absurd cc))
    (record { size = c.touch_clear.ensures.size; pixels = t.cells; writers = refl; readers = refl; best = bare_finds v (clear_has s) m _ _ c.nothing_seen.ensures.best t.best })
    c.requires.client
