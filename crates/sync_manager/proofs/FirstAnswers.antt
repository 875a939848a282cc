-- A search for the first answer goes on where a number gives none.
use Rattle.std.proofs.Common.{◌≡◌, ℕ, suc, ◌+◌, Option, None, ap, sym}
use Rattle.std.specs.Option.{option_or}
use Rattle.rc_base.specs.Orders.Grant.{first}

pub goes_on : {A : Type 0} (f : ℕ → Option A) (k n m : ℕ) → n ≡ suc m → f k ≡ None → first f (k + 1) m ≡ first f k n
goes_on f k n m e none = rw e (sym (ap (λ o. option_or o (first f (k + 1) m)) none))
