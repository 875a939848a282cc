-- What a tile does that may be short of memory: one that is short performs nothing, and takes its lanes' items up to their ends.
use Rattle.std.specs.Prelude.{◌≡◌, ℕ, ◌<◌, not, Bool, true, false, cond}
use Rattle.rc_base.specs.Cluster.Parcels.{is_end}
use Rattle.rc_base.specs.declared.sync.Entry.{Entry}
use Rattle.order_model.specs.Standing.{Progress, is_asked, is_listening, is_over}
use Rattle.tile_model.specs.Items.{Item, after_end, after_no_more, after_parcel, IsAwaited}
use Rattle.tile_model.specs.Items.Item.{Nothing, Due, Granted, NoMore, Sent}

-- no entry is to be performed; a short tile performs none
abbrev pub NothingIsDue : Bool → Progress → Type 0
NothingIsDue short p = short ≡ false → (e : Entry) → IsAwaited p (Due e) → ⊥

-- it takes what is granted: a short tile until no more comes
abbrev pub listens : Bool → Progress → Bool
listens short p = cond short (not p.no_more) (is_listening p)

-- it takes from the client: a short tile up to the client's End
abbrev pub asks : Bool → Progress → ℕ → Bool
asks short p client = cond short (not (p.closed client)) (is_asked p client)

-- nothing is left to do: no more comes, each entry is performed (a short tile performs none), and each client is closed
pub record IsFinished (short : Bool) (p : Progress) : Type 0 where
  pub no_more : p.no_more ≡ true
  pub performed : short ≡ false → is_over p ≡ true
  pub closed : (client : ℕ) → client < p.count → p.closed client ≡ true

-- A tile that is short, or becomes so, keeps of an item only that it was the last one of its lane.
abbrev pub after_lost : Progress → Item → Progress
after_lost p Nothing = p
after_lost p (Due e) = p
after_lost p (Granted e) = p
after_lost p NoMore = after_no_more p
after_lost p (Sent client parcel) = cond (is_end parcel.act) (after_end p client) (after_parcel p client)
