use Rattle.std.proofs.Common.{◌≡◌, ℕ, ◌+◌, ◌<◌, Bool, true, List, length, set, get_or, inl, inr, arith, ap, sym, ◌∙◌, get_or-set_same, get_or-set_other}
use Rattle.std.proofs.Math.ListN.{length-set}
use Rattle.std.proofs.lemmas.Bool.{cases_lt}
use Rattle.tile_server.specs.Tasks.{asks_in}
use Rattle.tile_server.proofs.tile_core.TileCore.asked.Goals as goal

-- one place more of a list has a function's value
one_more : (xs : List Bool) (f : ℕ → Bool) (n : ℕ) (x : Bool) → n < length xs → x ≡ f n → ((k : ℕ) → k < n → get_or xs k true ≡ f k)
    → (k : ℕ) → k < n + 1 → get_or (set xs n x) k true ≡ f k
one_more xs f n x within is below k low = elim (cases_lt k n) [
  | inl lt ↦ get_or-set_other xs n k x true (λ e. absurd (omega (arith, lt, e))) ∙ below k lt
  | inr ge ↦
      let here : k ≡ n = omega (arith, ge, low) in
      ap (λ m. get_or (set xs n x) m true) here ∙ get_or-set_same xs n x true within ∙ is ∙ ap f (sym here)
]

pub loop-client-preserved : goal.loop-client-preserved
loop-client-preserved c =
    let l = c.loop-client in (
      length-set l.asks l.client c.asks.result ∙ l.invariant.0,
      one_more l.asks (asks_in c.args.self.now) l.client c.asks.result (omega (arith, l.invariant.0, c.loop-client-test.true, c.clients-client-end.ensures, c.args.self.now.few)) c.asks.ensures l.invariant.1,
    )
