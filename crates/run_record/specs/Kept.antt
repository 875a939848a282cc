-- What is kept of the clients, one after the other.
use Rattle.std.specs.Prelude.{◌≡◌, ℕ, ◌+◌, ◌<◌, ◌≤◌, min, List, ◌∷◌, [], ◌++◌, length, slice_index_or}
use Rattle.rc_base.specs.Outside.Causes.{last_count}
use Rattle.rc_base.specs.declared.cluster.Tally.{Tally}
use Rattle.client_issue.specs.Cores.{no_tally}
use Rattle.client_issue.specs.declared.client.ClientCore.{ClientCore}
use Rattle.client_issue.specs.declared.client.ClientKept.{ClientKept}
use Rattle.rc_base.specs.Lists.{ArePaired}
use Rattle.run_record.specs.Gathering.{IsRowOf, AreFaultsOf, AreSums}
use Rattle.run_record.specs.declared.kept.KeptLists.{KeptLists}

-- two tallies as one; a count stands still at its type's end
abbrev pub together : Tally → Tally → Tally
together a b = record {
  parcels = min (a.parcels + b.parcels) last_count;
  sets = min (a.sets + b.sets) last_count;
  looks = min (a.looks + b.looks) last_count;
}

-- each of them grew by the tally of its number, where there is one
pub record AreAdded (old more new : List Tally) : Type 0 where
  pub count : length new ≡ length old
  pub at : (i : ℕ) → i < length old → slice_index_or new i no_tally ≡ together (slice_index_or old i no_tally) (slice_index_or more i no_tally)

-- the first ones did, and the others are as they were
pub record AreAddedBelow (n : ℕ) (old more new : List Tally) : Type 0 where
  pub count : length new ≡ length old
  pub at : (i : ℕ) → i < n → i < length old → slice_index_or new i no_tally ≡ together (slice_index_or old i no_tally) (slice_index_or more i no_tally)
  pub rest : (i : ℕ) → n ≤ i → slice_index_or new i no_tally ≡ slice_index_or old i no_tally

-- the lists are of these clients and so many tiles
pub record AreKept (cores : List ClientCore) (tiles : ℕ) (lists : KeptLists) : Type 0 where
  pub rows : ArePaired IsRowOf cores lists.rows.items
  pub faults : ArePaired AreFaultsOf cores lists.faults.items
  pub tallies : AreSums cores tiles lists.tallies.items

-- the lists grew by what is kept of one client
pub record HasAdded (old : KeptLists) (kept : ClientKept) (new : KeptLists) : Type 0 where
  pub rows : new.rows.items ≡ old.rows.items ++ kept.syncs ∷ []
  pub faults : new.faults.items ≡ old.faults.items ++ kept.faults ∷ []
  pub tallies : AreAdded old.tallies.items kept.tallies new.tallies.items
