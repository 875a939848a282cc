-- Which entry is granted first.
use Rattle.std.specs.Prelude.{ℕ, zero, suc, ◌+◌, ◌^◌, ◌==◌, ◌&&◌, nat_lt, nat_le, Bool, true, false, cond, List, [], ◌∷◌, length, Option, Some, None, bit_or}
use Rattle.std.specs.Option.{option_or, option_map_or}
use Rattle.rc_base.specs.Orders.Sync.{client_count, count_of}
use Rattle.rc_base.specs.Orders.Journal.{SyncState, after, next, has, how_many}
use Rattle.rc_base.specs.declared.sync.Entry.{Entry}
use Rattle.rc_base.specs.declared.sync.Entry.TheVariants.{Meet, Swap, Give, Take}
use Rattle.rc_base.specs.declared.sync.SyncLists.{SyncLists}
use Rattle.rc_base.specs.declared.sync.SyncOp.{SyncOp}
use Rattle.rc_base.specs.declared.sync.SyncOp.TheVariants.{Barrier, SemP, SemV, Swap as SwapOp}
use Rattle.rc_base.specs.declared.sync.WaitAt.{WaitAt}

-- the first answer of n numbers from k on
abbrev pub first : {A : Type 0} → (ℕ → Option A) → ℕ → ℕ → Option A
first f k zero = None
first f k (suc n) = option_or (f k) (first f (k + 1) n)

-- a client at SemV gives
abbrev pub give_by : ℕ → Option SyncOp → Option Entry
give_by client None = None
give_by client (Some (SemV semaphore)) = Some (Give semaphore client)
give_by client (Some _) = None

-- a client at SemP takes, where there is a unit
abbrev pub take_by : (ℕ → ℕ) → ℕ → Option SyncOp → Option Entry
take_by units client None = None
take_by units client (Some (SemP semaphore)) = cond (nat_lt 0 (units semaphore)) (Some (Take semaphore client)) None
take_by units client (Some _) = None

abbrev pub is_at_barrier : ℕ → Option SyncOp → Bool
is_at_barrier barrier None = false
is_at_barrier barrier (Some (Barrier k)) = k == barrier
is_at_barrier barrier (Some _) = false

abbrev pub is_at_swap : Option SyncOp → Bool
is_at_swap None = false
is_at_swap (Some SwapOp) = true
is_at_swap (Some _) = false

-- the set of the lowest k of those of the first n clients that pass a test
abbrev pub lowest : (ℕ → Bool) → ℕ → ℕ → ℕ
lowest passes k zero = 0
lowest passes k (suc n) =
    cond (passes n && nat_lt (how_many (has (lowest passes k n)) n) k) (bit_or (lowest passes k n) (2 ^ n)) (lowest passes k n)

-- at least as many wait at the barrier as it counts: the lowest of them meet
abbrev pub meet_by : SyncLists → SyncState → ℕ → Option Entry
meet_by syncs s barrier = option_map_or (λ count.
    cond (nat_le count (how_many (λ c. is_at_barrier barrier (next s c)) (client_count syncs)))
    (Some (Meet barrier (lowest (λ c. is_at_barrier barrier (next s c)) count (client_count syncs)))) None) (count_of syncs barrier) None

-- all wait at Swap
abbrev pub swap_by : SyncLists → SyncState → Option Entry
swap_by syncs s = cond (how_many (λ c. is_at_swap (next s c)) (client_count syncs) == client_count syncs) (Some Swap) None

-- The first lawful entry: the Give of the lowest client that can; else the Take of the lowest; else the Meet of the lowest barrier; else Swap.
abbrev pub grant : SyncLists → SyncState → Option Entry
grant syncs s =
    option_or (first (λ c. give_by c (next s c)) 0 (client_count syncs))
    (option_or (first (λ c. take_by s.units c (next s c)) 0 (client_count syncs))
    (option_or (first (meet_by syncs s) 1 (length syncs.counts)) (swap_by syncs s)))

-- the entries that are granted from a state on, until none is or n are
abbrev pub granted_from : SyncLists → ℕ → SyncState → List Entry
granted_from syncs zero s = []
granted_from syncs (suc n) s = option_map_or (λ e. e ∷ granted_from syncs n (after syncs s e)) (grant syncs s) []

-- how many operations the first n clients have left
abbrev pub operations_left : (ℕ → List WaitAt) → ℕ → ℕ
operations_left rest zero = 0
operations_left rest (suc n) = operations_left rest n + length (rest n)
