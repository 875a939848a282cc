use Rattle.std.proofs.Common.{◌≡◌, ◌⊎◌, Result, Ok, Err, inl, inr, ap}
use Rattle.std.specs.Prelude.{IfErr, OnOk}
use Rattle.uses.proofs.lanes.pushed.Goals as goal

in_or_back : {T : Type 0} (r : Result (Unit {0}) T) (item : T) (P Q : Type 0) → OnOk r P → IfErr r (λ x. (x ≡ item) × Q) → P ⊎ (r ≡ Err item)
in_or_back (Ok done) item P Q went back = inl went
in_or_back (Err x) item P Q went back = inr (ap Err back.0)

pub returns : goal.returns
returns g c = in_or_back c.push.result c.args.item _ _ c.push.ensures.appended c.push.ensures.handed_back
