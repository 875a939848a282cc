use Rattle.std.proofs.Common.{◌≡◌, ◌+◌, ◌<◌, cond, nat_lt, length, Some, None, Option, inl, inr, sym, ◌∙◌, refl, arith, eq-eqb, lt-ltb}
use Rattle.std.specs.Prelude.{slice_get}
use Rattle.std.proofs.lemmas.Bool.{cases_lt, le-ltb}
use Rattle.std.proofs.lemmas.Option.{slice_get-get_or}
use Rattle.rc_base.specs.declared.sync.Entry.TheVariants.{Take}
use Rattle.rc_base.specs.declared.sync.Name.{Name}
use Rattle.order_model.proofs.RecordedByCounts.{zeros}
use Rattle.happens_before.specs.declared.semaphores.Semaphore.{Semaphore}
use Rattle.happens_before.proofs.WalkedEntries.{first_here, take_here, giver_here, no_place, some_place, kept_ordered, late_here, place_here}
use Rattle.happens_before.proofs.walk.Walk.take.Goals as goal

-- no unit is left of the first ones where a giver is told
none_left : (s : Semaphore) (g : Name) → cond (nat_lt 0 s.left) None (slice_get s.givers s.next) ≡ Some g → (s.left ≡ 0) × (slice_get s.givers s.next ≡ Some g)
none_left s g h = elim (cases_lt 0 s.left) [
  | inl lt ↦ let one : None ≡ Some g = rw (lt-ltb 0 s.left lt) at h in absurd cc
  | inr ge ↦ (omega arith, rw (le-ltb 0 s.left ge) at h)
]

-- and one is left where none is told
some_left : (s : Semaphore) → (s.left ≡ 0 → s.next < length s.givers) → cond (nat_lt 0 s.left) None (slice_get s.givers s.next) ≡ None → 0 < s.left
some_left s lt h = elim (cases_lt 0 s.left) [
  | inl some ↦ some
  | inr ge ↦
      let g : Option Name = slice_get s.givers s.next in
      let gone : g ≡ None = rw (le-ltb 0 s.left ge) at h in
      let there = slice_get-get_or s.givers s.next record { client = 0; place = 0 } (lt (omega arith)) in
      absurd (cc (gone, there))
]

next_is : (s new : Semaphore) → new.next ≡ cond (nat_lt 0 s.left) s.next (cond (nat_lt s.next (length s.givers)) (s.next + 1) s.next) → (s.left ≡ 0 → s.next < length s.givers)
    → new.next ≡ cond (nat_lt 0 s.left) s.next (s.next + 1)
next_is s new h lt = elim (cases_lt 0 s.left) [
  | inl some ↦ rw (lt-ltb 0 s.left some) (rw (lt-ltb 0 s.left some) at h)
  | inr ge ↦ let l : s.next < length s.givers = lt (omega arith) in rw (le-ltb 0 s.left ge) (rw (le-ltb 0 s.left ge, lt-ltb s.next (length s.givers) l) at h)
]

pub count-requires-clause-timelines : goal.count-requires-clause-timelines
count-requires-clause-timelines c = let w = c.args.self.now in kept_ordered _ _ _ w.semaphores.items w.timelines.clients.items c.requires.next.along.read.kept

pub raise-requires-clause-timelines : goal.raise-requires-clause-timelines
raise-requires-clause-timelines c = let w = c.args.self.now in kept_ordered _ _ _ w.semaphores.items w.timelines.clients.items c.requires.next.along.read.kept

pub raise-requires-clause-late : goal.raise-requires-clause-late
raise-requires-clause-late c =
    let w = c.args.self.now in
    let e = Take c.args.semaphore c.args.client in
    late_here c.args.syncs.now c.args.journal.now w.read e w.used w.semaphores.items w.timelines.clients.items c.requires.next.along.read c.args.client c.in-Some-place_of.place c.requires.client
    (place_here c.args.syncs.now c.args.journal.now w.read e w.used w.semaphores.items w.timelines.clients.items c.requires.next.along.read c.args.client c.requires.client (eq-eqb c.args.client c.args.client refl)
    ∙ sym c.place_of.ensures.place ∙ c.in-Some-place_of.is)

pub returns-in_ok-raise : goal.returns-in_ok-raise
returns-in_ok-raise c =
    let w = c.args.self.now in
    let r = c.index_mut.result.now in
    let named : c.args.semaphore < 256 = omega (arith, c.ranges.semaphore.fits) in
    let told = none_left r c.in-Some.giver (sym c.take.ensures.giver ∙ c.in-Some.is) in
    let there : r.left ≡ 0 → r.next < length r.givers =
    giver_here c.args.syncs.now c.args.journal.now w.read c.args.semaphore c.args.client w.used w.semaphores.items w.timelines.clients.items r c.requires.next.along.legal c.requires.next.here named c.requires.next.along.read c.index_mut.ensures.value in
    record {
      far = (refl, refl);
      kept = take_here c.args.syncs.now c.args.journal.now w.read c.args.semaphore c.args.client c.in-Some-place_of.place c.in-Some.giver w.used c.count.new.gate w.semaphores.items w.timelines.clients.items
          c.raise.new.self.clients.items r c.take.new.self c.requires.next.along.lists c.requires.next.along.legal c.requires.next.here named c.requires.client (sym c.place_of.ensures.place ∙ c.in-Some-place_of.is) c.requires.next.along.read
          c.index_mut.ensures.value told.0 told.1 c.take.ensures.left c.take.ensures.givers (next_is r c.take.new.self c.take.ensures.next there)
          (λ d. omega (arith, c.count.ensures d, zeros 8 d)) c.in_ok-raise.ensures.clock c.in_ok-raise.ensures.changes c.in_ok-raise.ensures.others c.in_ok-raise.ensures.count;
    }

pub returns-in_default-place_of : goal.returns-in_default-place_of
returns-in_default-place_of c =
    let w = c.args.self.now in
    absurd (no_place c.args.syncs.now c.args.journal.now w.read (Take c.args.semaphore c.args.client) w.used w.semaphores.items w.timelines.clients.items c.requires.next.along.legal c.requires.next.here c.requires.next.along.read
    c.args.client c.requires.client (eq-eqb c.args.client c.args.client refl) (sym c.place_of.ensures.place ∙ c.in_default-place_of.is))

pub returns-in_default : goal.returns-in_default
returns-in_default c =
    let w = c.args.self.now in
    let r = c.index_mut.result.now in
    let named : c.args.semaphore < 256 = omega (arith, c.ranges.semaphore.fits) in
    let there : r.left ≡ 0 → r.next < length r.givers =
    giver_here c.args.syncs.now c.args.journal.now w.read c.args.semaphore c.args.client w.used w.semaphores.items w.timelines.clients.items r c.requires.next.along.legal c.requires.next.here named c.requires.next.along.read c.index_mut.ensures.value in
    let some = some_left r there (sym c.take.ensures.giver ∙ c.in_default.is) in
    let p = some_place c.args.syncs.now c.args.journal.now w.read (Take c.args.semaphore c.args.client) w.used w.semaphores.items w.timelines.clients.items c.requires.next.along.legal c.requires.next.here c.requires.next.along.read
    c.args.client c.requires.client (eq-eqb c.args.client c.args.client refl) in
    record {
      far = (refl, refl);
      kept = first_here c.args.syncs.now c.args.journal.now w.read c.args.semaphore c.args.client p.0 w.used w.semaphores.items w.timelines.clients.items r c.take.new.self c.requires.next.along.lists c.requires.next.along.legal c.requires.next.here
          named c.requires.client p.1 c.requires.next.along.read c.index_mut.ensures.value some c.take.ensures.left c.take.ensures.givers (next_is r c.take.new.self c.take.ensures.next there);
    }
