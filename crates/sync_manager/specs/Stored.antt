-- What a book stores: where each client waits, and the units of each semaphore; and the first lawful entry, read off it.
use Rattle.std.specs.Prelude.{◌≡◌, ℕ, ◌+◌, ◌<◌, ◌≤◌, ◌==◌, ◌&&◌, nat_lt, nat_le, Bool, true, cond, is_some, List, length, slice_index_or, Option, Some, None, option_map, option_to_list}
use Rattle.std.specs.Option.{option_or, option_map_or, unwrap_or}
use Rattle.rc_base.specs.Lists.{at_name}
use Rattle.rc_base.specs.Orders.Grant.{first, give_by, take_by, is_at_barrier, is_at_swap, lowest}
use Rattle.rc_base.specs.Orders.Journal.{SyncState, how_many, is_member}
use Rattle.rc_base.specs.declared.sync.Entry.{Entry}
use Rattle.rc_base.specs.declared.sync.Entry.TheVariants.{Meet, Swap, Give, Take}
use Rattle.rc_base.specs.declared.sync.SyncOp.{SyncOp}
use Rattle.rc_base.specs.declared.sync.SyncOp.TheVariants as op
use Rattle.rc_base.specs.declared.sync.WaitAt.{WaitAt}

-- a name of one of n things
abbrev pub is_name : ℕ → ℕ → Bool
is_name n name = nat_lt 0 name && nat_le name n

-- the operation at which a client waits, with its place
abbrev pub wait_at : List (Option WaitAt) → ℕ → Option WaitAt
wait_at waiting client = slice_index_or waiting client None

-- that operation
abbrev pub op_at : List (Option WaitAt) → ℕ → Option SyncOp
op_at waiting client = option_map (λ (w : WaitAt). w.op) (wait_at waiting client)

-- how many of the first n clients wait
abbrev pub how_many_wait : List (Option WaitAt) → ℕ → ℕ
how_many_wait waiting n = how_many (λ client. is_some (wait_at waiting client)) n

-- the units of a semaphore
abbrev pub units_at : List ℕ → ℕ → ℕ
units_at units semaphore = unwrap_or (at_name units semaphore) 0

-- the semaphore to which the entry gives has a name, and that from which it takes has a unit
abbrev pub IsUnitThere : List ℕ → Entry → Type 0
IsUnitThere units (Meet barrier members) = Unit {0}
IsUnitThere units Swap = Unit {0}
IsUnitThere units (Give semaphore client) = is_name (length units) semaphore ≡ true
IsUnitThere units (Take semaphore client) = 0 < units_at units semaphore

-- the state that they stand for: of what arrived, the waiting operations are left
abbrev pub state_of : List (Option WaitAt) → List ℕ → SyncState
state_of waiting units = record { rest = λ client. option_to_list (wait_at waiting client); units = units_at units }

-- the operation names one of so many barriers or semaphores
abbrev pub is_named : ℕ → ℕ → SyncOp → Bool
is_named barriers semaphores (op.Barrier name) = is_name barriers name
is_named barriers semaphores (op.SemP name) = is_name semaphores name
is_named barriers semaphores (op.SemV name) = is_name semaphores name
is_named barriers semaphores op.Swap = true

-- ---- the first lawful entry

-- the meeting at a barrier, where enough clients wait there
abbrev pub meet_at : List ℕ → List (Option WaitAt) → ℕ → ℕ → Option Entry
meet_at counts waiting n barrier = option_map_or (λ count.
    cond (nat_le count (how_many (λ c. is_at_barrier barrier (op_at waiting c)) n))
    (Some (Meet barrier (lowest (λ c. is_at_barrier barrier (op_at waiting c)) count n))) None) (at_name counts barrier) None

abbrev pub swap_at : List (Option WaitAt) → ℕ → Option Entry
swap_at waiting n = cond (how_many (λ c. is_at_swap (op_at waiting c)) n == n) (Some Swap) None

-- of n clients each has a slot, and they are eight at most
pub record HaveSlots (waiting : List (Option WaitAt)) (n : ℕ) : Type 0 where
  pub slots : n ≤ length waiting
  pub most : n ≤ 8

-- and the barriers can be named by a byte
pub record CanBeSearched (counts : List ℕ) (waiting : List (Option WaitAt)) (n : ℕ) : Type 0 where
  pub clients : HaveSlots waiting n
  pub names : length counts < 256

-- of n clients, with these counts of barriers
abbrev pub grant_at : List ℕ → List ℕ → List (Option WaitAt) → ℕ → Option Entry
grant_at counts units waiting n =
    option_or (first (λ c. give_by c (op_at waiting c)) 0 n)
    (option_or (first (λ c. take_by (units_at units) c (op_at waiting c)) 0 n)
    (option_or (first (meet_at counts waiting n) 1 (length counts)) (swap_at waiting n)))

-- ---- what an entry does to what is stored

-- its members wait no more, and every other client waits as before
abbrev pub AreReleased : ℕ → Entry → List (Option WaitAt) → List (Option WaitAt) → Type 0
AreReleased clients entry before after = (c : ℕ) → wait_at after c ≡ cond (is_member clients entry c) None (wait_at before c)

-- ---- what holds of every book

-- each barrier counts one client or more
abbrev pub CountSomeone : List ℕ → Type 0
CountSomeone counts = (barrier count : ℕ) → at_name counts barrier ≡ Some count → 0 < count

-- There are 1 to 8 clients, each barrier counts one or more, only clients wait, at what is declared; and there is room for an entry of each that waits.
pub record IsSoundBook (clients : ℕ) (counts units : List ℕ) (waiting : List (Option WaitAt)) (entries capacity : ℕ) : Type 0 where
  pub some : 0 < clients
  pub most : clients ≤ 8
  pub slots : length waiting ≡ 8
  pub names : length counts < 256
  pub counted : CountSomeone counts
  pub beyond : (client : ℕ) → clients ≤ client → wait_at waiting client ≡ None
  pub named : (client : ℕ) (w : WaitAt) → wait_at waiting client ≡ Some w → is_named (length counts) (length units) w.op ≡ true
  pub bounded : (k : ℕ) → slice_index_or units k 0 ≤ 65535 + entries
  pub room : entries + how_many_wait waiting clients ≤ capacity
