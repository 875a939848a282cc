-- What a ledger stands for, and what is made of it.
use Rattle.std.specs.Prelude.{◌≡◌, ℕ, ◌+◌, Bool, true, false, cond, List, Option, Some, None, is_none, length, slice_get, slice_index_or}
use Rattle.rc_base.specs.Orders.Journal.{is_member}
use Rattle.rc_base.specs.declared.sync.Entry.{Entry}
use Rattle.order_model.specs.Standing.{Progress, performed_in}
use Rattle.tile_server.specs.declared.ledger.Ledger.{Ledger}

-- the entry that is learnt and not yet performed, if there is one
abbrev pub IsKnownOf : Option Entry → Progress → Type 0
IsKnownOf None p = performed_in p.log ≡ length p.learnt
IsKnownOf (Some e) p = (length p.learnt ≡ performed_in p.log + 1) × (slice_get p.learnt (performed_in p.log) ≡ Some e)

-- the client waits at an operation
abbrev pub held_in : Ledger → ℕ → Bool
held_in ledger client = slice_index_or ledger.held client false

-- the End of the client was taken
abbrev pub closed_in : Ledger → ℕ → Bool
closed_in ledger client = slice_index_or ledger.closed client false

-- nothing will be performed any more
abbrev pub is_over_in : Ledger → Bool
is_over_in ledger = cond ledger.no_more (is_none ledger.known) false

-- what a tile that isn't short knows: whom it holds, and what is to be performed
pub record IsWholeLedger (ledger : Ledger) (p : Progress) : Type 0 where
  pub held : (client : ℕ) → p.held client ≡ held_in ledger client
  pub known : IsKnownOf ledger.known p

-- The ledger stands for how far a tile is: of a tile that is short it tells only its log, who is closed, and whether no more is granted.
pub record IsLedgerOf (short : Bool) (ledger : Ledger) (p : Progress) : Type 0 where
  pub count : p.count ≡ ledger.clients
  pub closed : (client : ℕ) → p.closed client ≡ closed_in ledger client
  pub no_more : p.no_more ≡ ledger.no_more
  pub log : p.log ≡ ledger.log.items
  pub whole : short ≡ false → IsWholeLedger ledger p

-- ---- what is made of it

-- The later ledger is of the same clients, and stands for what is made of all that the ledger stands for; short tells of each whether its tile is.
pub record IsLedgerStep (short : Bool) (ledger : Ledger) (made : Progress → Progress) (short_later : Bool) (later : Ledger) : Type 0 where
  pub clients : later.clients ≡ ledger.clients
  pub after : (p : Progress) → IsLedgerOf short ledger p → IsLedgerOf short_later later (made p)

-- so it is where the tile is short neither before nor after
abbrev pub KeepsUp : Ledger → (Progress → Progress) → Ledger → Type 0
KeepsUp ledger made later = IsLedgerStep false ledger made false later

-- so it is where the tile is as short as it was
abbrev pub KeepsUpShortOrNot : Ledger → (Progress → Progress) → Ledger → Type 0
KeepsUpShortOrNot ledger made later = (short : Bool) → IsLedgerStep short ledger made short later

-- ---- the members of an entry

-- each client of the set is held
abbrev pub HoldsEach : List Bool → (ℕ → Bool) → Type 0
HoldsEach held members = (client : ℕ) → members client ≡ true → slice_index_or held client false ≡ true

-- a client of the set isn't held
abbrev pub LacksSome : List Bool → (ℕ → Bool) → Type 0
LacksSome held members = (client : ℕ) × (members client ≡ true) × (slice_index_or held client false ≡ false)

-- each member of the entry is held
abbrev pub HoldsAll : List Bool → ℕ → Entry → Type 0
HoldsAll held clients e = HoldsEach held (is_member clients e)

-- the members of the entry are held no more, and all others as before
abbrev pub AreReleased : ℕ → Entry → List Bool → List Bool → Type 0
AreReleased clients e before after =
    (client : ℕ) → slice_index_or after client false ≡ cond (is_member clients e client) false (slice_index_or before client false)

-- ---- the same ledger

-- they tell the same
pub record IsSameLedger (ledger later : Ledger) : Type 0 where
  pub clients : later.clients ≡ ledger.clients
  pub held : later.held ≡ ledger.held
  pub closed : later.closed ≡ ledger.closed
  pub known : later.known ≡ ledger.known
  pub no_more : later.no_more ≡ ledger.no_more
  pub log : later.log.items ≡ ledger.log.items
