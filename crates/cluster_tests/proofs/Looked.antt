-- Lists of a scene that were looked through one by one.
use Rattle.std.proofs.Common.{◌≡◌, ℕ, zero, suc, ◌+◌, ◌<◌, ◌≤◌, List, [], drop, length, Some, get_or, sym, subst, arith}
use Rattle.std.specs.Prelude.{slice_get}
use Rattle.std.specs.Option.{unwrap_or}
use Rattle.std.proofs.lemmas.Option.{slice_get_within, slice_get_past, get_or_from_slice_get}
use Rattle.std.proofs.lemmas.List.{drop_all}
use Rattle.rc_base.specs.Lists.{at_name, AreRising}
use Rattle.rc_base.specs.Orders.Sync.{places_of}
use Rattle.rc_base.specs.declared.sync.SyncRow.{SyncRow}
use Rattle.rc_base.specs.declared.sync.WaitAt.{WaitAt}
use Rattle.plain_lemmas.proofs.Lists.{drop_is_item_first}

pub positive : (counts : List ℕ) (n : ℕ) → length counts ≤ n → ((k : ℕ) → k < n → k < length counts → 0 < get_or counts k 1) → (barrier count : ℕ) → at_name counts barrier ≡ Some count → 0 < count
positive counts n all each zero count is = absurd cc
positive counts n all each (suc k) count is =
    let low = slice_get_within counts k count is in
    omega (arith, each k (omega (arith, low, all)) low, get_or_from_slice_get counts k count 1 is)

pub rising_step : (ops : List WaitAt) (k : ℕ) (w : WaitAt) (from end : ℕ) → k < length ops → w ≡ get_or ops k w → from ≤ w.place → w.place < end
    → AreRising (w.place + 1) (places_of (drop (k + 1) ops)) end → AreRising from (places_of (drop k ops)) end
rising_step ops k w from end lt is low below rest = subst (λ ws. AreRising from (places_of ws) end) (sym (drop_is_item_first ops k w lt is)) (low, below, rest)

pub rising_end : (ops : List WaitAt) (k from end : ℕ) → length ops ≤ k → from ≤ end → AreRising from (places_of (drop k ops)) end
rising_end ops k from end le low = subst (λ ws. AreRising from (places_of ws) end) (sym (drop_all k ops le)) low

abbrev pub row_at : List SyncRow → ℕ → SyncRow
row_at rows c = unwrap_or (slice_get rows c) record { ops = []; length = 0 }

pub rows_past : (rows : List SyncRow) (c : ℕ) → length rows ≤ c → AreRising 0 (places_of (row_at rows c).ops) (row_at rows c).length
rows_past rows c le = rw (slice_get_past rows c le) (omega arith)
