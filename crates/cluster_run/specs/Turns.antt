-- Turns of a worker, one behind the other.
use Rattle.std.specs.Prelude.{◌≡◌, List, [], ◌∷◌}
use Rattle.worker_crew.specs.declared.worker.Attempt.{Attempt}

module _ {W D : Type 0} (turn : W → D → W → Type 0) where
  -- each begins where the one before it ended
  abbrev pub AreWorkerTurns : W → List D → W → Type 0
  AreWorkerTurns first [] last = last ≡ first
  AreWorkerTurns first (did ∷ turns) last = (next : W) × turn first did next × AreWorkerTurns next turns last

  -- turns lead from the one worker to the other
  pub record TurnsLead (first last : W) : Type 0 where
    pub turns : List D
    pub are : AreWorkerTurns first turns last

  -- from whatever worker turns lead to the one, from that they lead to the other
  abbrev pub TurnsGoOn : W → W → Type 0
  TurnsGoOn before after = (first : W) → TurnsLead first before → TurnsLead first after

  -- one turn, and what it comes to for who steps the worker
  abbrev pub IsWorkerTurn : (D → Attempt) → W → Attempt → W → Type 0
  IsWorkerTurn attempt_of before came after = (did : D) × turn before did after × (came ≡ attempt_of did)
