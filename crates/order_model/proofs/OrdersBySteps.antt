-- Orders that are made step by step.
use Rattle.std.specs.Prelude.{◌≡◌, ℕ, zero, suc, ◌+◌, ◌-◌, ◌≤◌, ◌==◌, max, Bool, cond, List, [], ◌∷◌, ◌++◌}
use Rattle.rc_base.specs.Orders.Journal.{SyncState, is_member, after, stop}
use Rattle.rc_base.specs.Orders.Order.{names_from}
use Rattle.rc_base.specs.Orders.Sync.{client_count}
use Rattle.rc_base.specs.declared.sync.Entry.{Entry}
use Rattle.rc_base.specs.declared.sync.Name.{Name}
use Rattle.rc_base.specs.declared.sync.SyncLists.{SyncLists}

-- a step adds a client's names below a place, performs the journal's next entry, or adds the names of some clients below their next operations
pub data Step : Type 0 where
  Upto : (client place : ℕ) → Step
  Perform : Step
  Issue : (meant : ℕ → Bool) → Step

-- a client's cursor stands at a place
abbrev pub moved : (ℕ → ℕ) → ℕ → ℕ → ℕ → ℕ
moved cursor c p d = cond (d == c) p (cursor d)

-- a cursor doesn't fall
abbrev pub raised : (ℕ → ℕ) → ℕ → ℕ → ℕ → ℕ
raised cursor c p = moved cursor c (max (cursor c) p)

-- the cursors of those that are meant stand at their places
abbrev pub passed : (ℕ → Bool) → (ℕ → ℕ) → (ℕ → ℕ) → ℕ → ℕ
passed meant places cursor c = cond (meant c) (max (cursor c) (places c)) (cursor c)

-- of the first n clients, the names of those that are meant up to their places
abbrev pub spread : (ℕ → Bool) → (ℕ → ℕ) → (ℕ → ℕ) → ℕ → List Name
spread meant places cursor zero = []
spread meant places cursor (suc n) = spread meant places cursor n ++ cond (meant n) (names_from n (cursor n) (places n - cursor n)) []

-- behind a client's next operation
abbrev pub behind : SyncLists → SyncState → ℕ → ℕ
behind syncs s c = stop syncs s c + 1

-- the cursors of an entry's members stand behind their operations
abbrev pub passed_by : SyncLists → SyncState → Entry → (ℕ → ℕ) → ℕ → ℕ
passed_by syncs s e cursor = passed (is_member (client_count syncs) e) (behind syncs s) cursor

-- the names that it adds
abbrev pub performed_by : SyncLists → SyncState → Entry → (ℕ → ℕ) → ℕ → List Name
performed_by syncs s e cursor n = spread (is_member (client_count syncs) e) (behind syncs s) cursor n

-- the cursors of those that are meant stand at their next operations
abbrev pub issued_by : SyncLists → SyncState → (ℕ → Bool) → (ℕ → ℕ) → ℕ → ℕ
issued_by syncs s meant cursor = passed meant (stop syncs s) cursor

-- what steps add to an order, along a journal
abbrev pub order_of : SyncLists → SyncState → (ℕ → ℕ) → List Entry → List Step → List Name
order_of syncs s cursor js [] = []
order_of syncs s cursor js (Upto c p ∷ steps) = names_from c (cursor c) (p - cursor c) ++ order_of syncs s (raised cursor c p) js steps
order_of syncs s cursor [] (Perform ∷ steps) = []
order_of syncs s cursor (e ∷ js) (Perform ∷ steps) =
    performed_by syncs s e cursor (client_count syncs) ++ order_of syncs (after syncs s e) (passed_by syncs s e cursor) js steps
order_of syncs s cursor js (Issue meant ∷ steps) =
    spread meant (stop syncs s) cursor (client_count syncs) ++ order_of syncs s (issued_by syncs s meant cursor) js steps

-- no step passes an operation but to perform its entry; at the end all entries are performed, and each cursor stands at the first operation that isn't used
abbrev pub IsRight : SyncLists → SyncState → (ℕ → ℕ) → List Entry → List Step → Type 0
IsRight syncs s cursor js [] = (js ≡ []) × ((c : ℕ) → cursor c ≡ stop syncs s c)
IsRight syncs s cursor js (Upto c p ∷ steps) = (cursor c ≤ p) × (p ≤ stop syncs s c) × IsRight syncs s (raised cursor c p) js steps
IsRight syncs s cursor [] (Perform ∷ steps) = ⊥
IsRight syncs s cursor (e ∷ js) (Perform ∷ steps) = IsRight syncs (after syncs s e) (passed_by syncs s e cursor) js steps
IsRight syncs s cursor js (Issue meant ∷ steps) = IsRight syncs s (issued_by syncs s meant cursor) js steps
