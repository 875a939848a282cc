-- What a thread does that found nothing to do.
use Rattle.std.specs.Prelude.{ℕ, nat_lt, not, ◌&&◌, Bool, true, false, cond}
use Rattle.worker_crew.specs.declared.waits.Next.{Next}
use Rattle.worker_crew.specs.declared.waits.Next.TheVariants.{Look, Yield, Announce, Sleep}

-- It sleeps where it has announced that. Else it looks, where it has looks and the processors aren't crowded; else it yields, where it has yields; else it announces a sleep.
abbrev pub next_after : Bool → ℕ → ℕ → Bool → Next
next_after true looks yields crowded = Sleep
next_after false looks yields crowded = cond (nat_lt 0 looks && not crowded) (Look looks) (cond (nat_lt 0 yields) Yield Announce)
