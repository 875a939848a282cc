use Rattle.std.proofs.Common.{◌≡◌, ◌==◌, ◌&&◌, ◌<◌, nat_lt, length, arith, subst, None, Some, false, refl, sym, ap, ◌∙◌, true≢false, eq-eqb, eqb-true}
use Rattle.std.proofs.lemmas.Bool.{and_parts, and_from}
use Rattle.rc_base.specs.declared.state.Effect.TheVariants as eff
use Rattle.race_check.specs.declared.cells.Cells.{Cells}
use Rattle.race_check.proofs.CarriedUses.{part_use, passes, no_finds, untouched_cells, written_finds}
use Rattle.race_check.proofs.carry.carry_part.Goals as goal

pub returns-then-not-has_texel-clause-visited : goal.returns-then-not-has_texel-clause-visited
returns-then-not-has_texel-clause-visited c f effect =
    let s = c.args.state.now in
    let v = c.args.visit.now in
    let m = c.args.marks.now in
    let p = c.args.part.now in
    passes f v s (eff.Shared p) (λ x y. false) None None m m None effect
    (part_use v.width v.height s p None
    (λ t k. absurd (true≢false (sym (and_parts (p.name == t) (nat_lt 0 p.w && nat_lt 0 p.h) k).1 ∙ sym c.has_texel.ensures ∙ c.if-not-has_texel.true))) (λ t k. absurd cc))
    (record { size = refl; pixels = untouched_cells v m.pixels.cells.items m.pixels.cells.items refl; writers = refl; readers = refl; best = no_finds v m })
    c.requires.client

pub returns-clause-visited : goal.returns-clause-visited
returns-clause-visited c f effect =
    let s = c.args.state.now in
    let v = c.args.visit.now in
    let m = c.args.marks.now in
    let p = c.args.part.now in
    let e = c.write.ensures in
    let low : p.name < 256 = omega arith in
    let some = sym c.has_texel.ensures ∙ c.if-not-has_texel.false in
    let same = ap (λ (x : Cells). x.cells.items) e.same.0 in
    passes f v s (eff.Shared p) (λ x y. false) None (Some p.name) m c.write.new.self c.write.result effect
    (part_use v.width v.height s p (Some p.name)
    (λ t k. ap (λ q. Some q) (eqb-true p.name t (and_parts (p.name == t) (nat_lt 0 p.w && nat_lt 0 p.h) k).0))
    (λ t k. let e : p.name ≡ t = cc in (and_from (p.name == t) (nat_lt 0 p.w && nat_lt 0 p.h) (eq-eqb p.name t e) some, subst (λ k. k < 256) e low)))
    (record {
      size = ap length same;
      pixels = untouched_cells v m.pixels.cells.items c.write.new.self.pixels.cells.items same;
      writers = e.writers;
      readers = ap (λ (x : Cells). x.cells.items) e.same.1;
      best = written_finds v p.name m c.write.result e.best;
    })
    c.requires.client
