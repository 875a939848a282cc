-- A finished run has a whole record, and its picks determine it.
use Rattle.std.proofs.Common.{◌≡◌, ◌++◌, inl, inr, sym, ap, ◌∙◌, subst, arith}
use Rattle.std.proofs.lemmas.Bool.{cases_lt}
use Rattle.rc_base.specs.Orders.Journal.{waiting_of}
use Rattle.rc_base.specs.Orders.Sync.{sync_lists_of}
use Rattle.world_model.specs.Laws.{SteppedRunsAreSound, EndedWorldsAreLawful, EndedWorldsShowFrames, EndedWorldsWaitAlike, EndedWorldsTallyAll, OneScheduleHasOneRun, FinishedRunsAreWhole, FinishedRunsAreOne}
use Rattle.world_model.specs.Runs.{rounds_of, IsSteppedRun}

pub finished_whole : SteppedRunsAreSound → EndedWorldsAreLawful → EndedWorldsShowFrames → EndedWorldsWaitAlike → EndedWorldsTallyAll → FinishedRunsAreWhole
finished_whole sound lawful frames waiting tallies scene l depth rounds picks moves w kept range sides h r =
    let s = sound scene l depth (picks ++ rounds_of scene l rounds) moves w range sides h.run in
    record {
      lawful = lawful scene l w kept range s h.ended r;
      frames = frames scene l w kept s h.ended r;
      waiting = λ client. waiting scene l w range s h.ended client ∙ ap (λ js. waiting_of (sync_lists_of scene) js client) (sym r.journal);
      tallies = tallies scene l w s h.ended;
    }

pub finished_one : OneScheduleHasOneRun → FinishedRunsAreOne
finished_one one scene l depth rounds count picks moves others w v range sides h k =
    let same : count ≡ rounds = elim (cases_lt count rounds) [
      | inl lt ↦ absurd (h.fewest count others v lt k.run k.ended)
      | inr ge ↦ elim (cases_lt rounds count) [ inl lt ↦ absurd (k.fewest rounds moves w lt h.run h.ended) | inr le ↦ omega (arith, ge, le) ]
    ] in
    let r = one scene l depth (picks ++ rounds_of scene l rounds) moves others w v range sides h.run (subst (λ n. IsSteppedRun scene l depth (picks ++ rounds_of scene l n) others v) same k.run) in
    (same, r.0, r.1)
