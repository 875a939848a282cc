-- The machine of synchronisation, and its journals.
use Rattle.std.specs.Prelude.{◌≡◌, ℕ, zero, suc, ◌+◌, ◌-◌, ◌^◌, ◌<◌, ◌==◌, nat_lt, Bool, true, cond, List, [], ◌∷◌, drop, Option, Some, None, option_map}
use Rattle.std.specs.Int.{bit_at}
use Rattle.std.specs.Option.{option_map_or}
use Rattle.rc_base.specs.Orders.Sync.{client_count, ops_of, length_of, count_of, units_of}
use Rattle.rc_base.specs.declared.sync.Entry.{Entry}
use Rattle.rc_base.specs.declared.sync.Entry.TheVariants.{Meet, Swap, Give, Take}
use Rattle.rc_base.specs.declared.sync.SyncLists.{SyncLists}
use Rattle.rc_base.specs.declared.sync.SyncOp.{SyncOp}
use Rattle.rc_base.specs.declared.sync.SyncOp.TheVariants.{Barrier, SemP, SemV, Swap as SwapOp}
use Rattle.rc_base.specs.declared.sync.WaitAt.{WaitAt}

-- the operations that each client hasn't used, and the units of each semaphore
pub record SyncState : Type 0 where
  pub rest : ℕ → List WaitAt
  pub units : ℕ → ℕ

-- no operation is used, and the units are the declared ones
abbrev pub start : SyncLists → SyncState
start syncs = record { rest = ops_of syncs; units = units_of syncs }

-- the first operation of a list
abbrev pub head_wait : List WaitAt → Option WaitAt
head_wait [] = None
head_wait (w ∷ ws) = Some w

-- the next operation of a client
abbrev pub next : SyncState → ℕ → Option SyncOp
next s client = option_map (λ (w : WaitAt). w.op) (head_wait (s.rest client))

-- its place, else the end of the client's stream
abbrev pub stop : SyncLists → SyncState → ℕ → ℕ
stop syncs s client = option_map_or (λ (w : WaitAt). w.place) (head_wait (s.rest client)) (length_of syncs client)

-- ---- members

-- client c is in the set: bit c is set
abbrev pub has : ℕ → ℕ → Bool
has members client = bit_at members client == 1

-- how many of the first n clients pass a test
abbrev pub how_many : (ℕ → Bool) → ℕ → ℕ
how_many passes zero = 0
how_many passes (suc n) = how_many passes n + cond (passes n) 1 0

-- the clients of which the entry uses an operation: of Swap all n
abbrev pub is_member : ℕ → Entry → ℕ → Bool
is_member n (Meet barrier members) c = has members c
is_member n Swap c = nat_lt c n
is_member n (Give semaphore client) c = c == client
is_member n (Take semaphore client) c = c == client

-- the operation that it uses of each
abbrev pub op_of : Entry → SyncOp
op_of (Meet barrier members) = Barrier barrier
op_of Swap = SwapOp
op_of (Give semaphore client) = SemV semaphore
op_of (Take semaphore client) = SemP semaphore

-- ---- which entries are lawful, and what they do

-- A barrier is declared and counts exactly the members, all of them clients; a taken unit is there.
abbrev pub IsCounted : SyncLists → SyncState → Entry → Type 0
IsCounted syncs s (Meet barrier members) =
    (members < 2 ^ client_count syncs) × (count_of syncs barrier ≡ Some (how_many (has members) (client_count syncs)))
IsCounted syncs s Swap = Unit {0}
IsCounted syncs s (Give semaphore client) = Unit {0}
IsCounted syncs s (Take semaphore client) = 0 < s.units semaphore

-- the next operation of each member is the entry's
pub record IsLawful (syncs : SyncLists) (s : SyncState) (e : Entry) : Type 0 where
  pub next : (client : ℕ) → is_member (client_count syncs) e client ≡ true → next s client ≡ Some (op_of e)
  pub counted : IsCounted syncs s e

abbrev pub units_after : Entry → (ℕ → ℕ) → ℕ → ℕ
units_after (Meet barrier members) units k = units k
units_after Swap units k = units k
units_after (Give semaphore client) units k = units k + cond (semaphore == k) 1 0
units_after (Take semaphore client) units k = units k - cond (semaphore == k) 1 0

-- each member uses one operation, and a unit is gained or lost
abbrev pub after : SyncLists → SyncState → Entry → SyncState
after syncs s e = record {
  rest = λ client. cond (is_member (client_count syncs) e client) (drop 1 (s.rest client)) (s.rest client);
  units = units_after e s.units;
}

abbrev pub end_of : SyncLists → SyncState → List Entry → SyncState
end_of syncs s [] = s
end_of syncs s (e ∷ es) = end_of syncs (after syncs s e) es

-- ---- journals

-- the entries are lawful one after the other, from a state on
abbrev pub IsLegalFrom : SyncLists → SyncState → List Entry → Type 0
IsLegalFrom syncs s [] = Unit {0}
IsLegalFrom syncs s (e ∷ es) = IsLawful syncs s e × IsLegalFrom syncs (after syncs s e) es

-- no entry is lawful
abbrev pub NothingIsLawful : SyncLists → SyncState → Type 0
NothingIsLawful syncs s = (e : Entry) → IsLawful syncs s e → ⊥

abbrev pub IsMaximalFrom : SyncLists → SyncState → List Entry → Type 0
IsMaximalFrom syncs s journal = IsLegalFrom syncs s journal × NothingIsLawful syncs (end_of syncs s journal)

abbrev pub sync_state_after : SyncLists → List Entry → SyncState
sync_state_after syncs journal = end_of syncs (start syncs) journal

-- lawful one after the other, from the declared units
abbrev pub IsLegal : SyncLists → List Entry → Type 0
IsLegal syncs journal = IsLegalFrom syncs (start syncs) journal

-- legal, and no entry is lawful after it
abbrev pub IsMaximal : SyncLists → List Entry → Type 0
IsMaximal syncs journal = IsLegal syncs journal × NothingIsLawful syncs (sync_state_after syncs journal)

-- the first operation of a client that the journal doesn't use: there it is left waiting
abbrev pub waiting_of : SyncLists → List Entry → ℕ → Option WaitAt
waiting_of syncs journal client = head_wait ((sync_state_after syncs journal).rest client)

-- a client's commands below this place are carried out: that of this operation, else the end of its stream
abbrev pub reach_of : SyncLists → List Entry → ℕ → ℕ
reach_of syncs journal client = stop syncs (sync_state_after syncs journal) client
