-- What a step makes of a client's core and of its lanes.
use Rattle.std.specs.Prelude.{◌≡◌, ◌≢◌, ℕ, ◌<◌, true, false, cond, List, [], ◌∷◌, ◌++◌, None}
use Rattle.rc_base.specs.Cluster.Lanes.{EachLane}
use Rattle.rc_base.specs.Cluster.Sending.{Sending, ToTile, ToManager, sent_last}
use Rattle.rc_base.specs.Cluster.Tiles.{tile_count}
use Rattle.rc_base.specs.Outside.Causes.{Rose}
use Rattle.rc_base.specs.declared.scene.Scene.{Scene}
use Rattle.rc_base.specs.declared.state.Parcel.{Parcel}
use Rattle.rc_base.specs.declared.sync.Request.{Request}
use Rattle.rc_base.specs.declared.window.Layout.{Layout}
use Rattle.client_issue.specs.Cores.{commands_of, issued_of, layout_of, left_in, short_of, AreSameTallies, IsClientOf, IsSameCore, IsTallied}
use Rattle.client_issue.specs.Deeds.{is_loss, issued_up_to, ClientDeed}
use Rattle.client_issue.specs.Deeds.ClientDeed.{Appends, Requests, FindsTileFull, FindsManagerFull, Finishes, Loses}
use Rattle.client_issue.specs.Sequence.{IsOver}
use Rattle.client_issue.specs.declared.client.ClientCore.{ClientCore}

-- ---- what comes next, and what is left

-- the item comes next
pub record ComesNext (item : Sending) (core : ClientCore) : Type 0 where
  pub rest : List Sending
  pub next : left_in core ≡ item ∷ rest

-- Of what was to be sent the End parcels and the End request are left, all of them.
pub record IsCutShort (core later : ClientCore) : Type 0 where
  pub dropped : List Sending
  pub left : left_in core ≡ dropped ++ left_in later
  pub ends : (scene : Scene) (client : ℕ) (l : Layout) → IsClientOf later scene client l → left_in later ≡ sent_last scene l client

-- The deed is with the next item, which is gone after it, or is still the next; it finishes where none is left.
abbrev pub IsNextDeed : ClientCore → ClientDeed → ClientCore → Type 0
IsNextDeed core (Appends tile parcel) later = (tile < tile_count (layout_of core)) × (left_in core ≡ ToTile tile parcel ∷ left_in later)
IsNextDeed core (Requests r) later = left_in core ≡ ToManager r ∷ left_in later
IsNextDeed core (FindsTileFull tile parcel) later =
    (tile < tile_count (layout_of core)) × ComesNext (ToTile tile parcel) core × (left_in later ≡ left_in core)
IsNextDeed core (FindsManagerFull r) later = ComesNext (ToManager r) core × (left_in later ≡ left_in core)
IsNextDeed core Finishes later = (left_in core ≡ []) × (left_in later ≡ [])
IsNextDeed core Loses later = IsCutShort core later

-- Memory may lack: the core isn't short, no item waits for its lane, and not all that the commands give was given.
pub record MayLack (core : ClientCore) : Type 0 where
  pub ample : core.short ≡ false
  pub empty : core.ready ≡ None
  pub commands : IsOver core.sender → ⊥

-- ---- tallies

-- a parcel that is appended counts in its tile's tally
abbrev pub AreTallied : ClientCore → ClientDeed → ClientCore → Type 0
AreTallied core (Appends tile parcel) later = IsTallied core later tile parcel
AreTallied core (Requests r) later = AreSameTallies core later
AreTallied core (FindsTileFull tile parcel) later = AreSameTallies core later
AreTallied core (FindsManagerFull r) later = AreSameTallies core later
AreTallied core Finishes later = AreSameTallies core later
AreTallied core Loses later = AreSameTallies core later

-- ---- a step

-- A step does this. A core that is short issues nothing more; one that isn't has issued the commands up to the item's own.
pub record IsClientStep (core : ClientCore) (deed : ClientDeed) (later : ClientCore) : Type 0 where
  pub same : IsSameCore core later
  pub short : short_of later ≡ cond (is_loss deed) true (short_of core)
  pub ample : is_loss deed ≡ true → MayLack core
  pub next : IsNextDeed core deed later
  pub issued : is_loss deed ≡ false → issued_of later ≡ cond (short_of core) (issued_of core) (issued_up_to (commands_of core) deed)
  pub tallied : AreTallied core deed later

-- ---- its lanes

module _ {T L : Type 0} (sent : L → List T) (full_seen : L → ℕ) (full : L → Type 0) where
  -- the lane got the item, and wasn't found full
  pub record HasGot (item : T) (before after : L) : Type 0 where
    pub appended : sent after ≡ sent before ++ item ∷ []
    pub counted : full_seen after ≡ full_seen before

  -- the lane was found full, which it counted, and got nothing
  pub record IsFoundFull (before after : L) : Type 0 where
    pub same : sent after ≡ sent before
    pub cause : Rose (full_seen before) (full_seen after)
    pub full_is : full after

-- this became of one tile's lane, and nothing of the others
pub record IsLaneAlone {L : Type 0} (tile : ℕ) (became : L → L → Type 0) (before after : List L) : Type 0 where
  pub here : EachLane (λ i a b. i ≡ tile → became a b) before after
  pub others : EachLane (λ i a b. i ≢ tile → b ≡ a) before after

module _ {P : Type 0} (sent : P → List Parcel) (full_seen : P → ℕ) (full : P → Type 0) where
  -- the tile's lane got just the parcel, or was found full; no other tile's lane was touched
  abbrev pub AreSent : ClientDeed → List P → List P → Type 0
  AreSent (Appends tile parcel) before after = IsLaneAlone tile (HasGot sent full_seen full parcel) before after
  AreSent (Requests r) before after = after ≡ before
  AreSent (FindsTileFull tile parcel) before after = IsLaneAlone tile (IsFoundFull sent full_seen full) before after
  AreSent (FindsManagerFull r) before after = after ≡ before
  AreSent Finishes before after = after ≡ before
  AreSent Loses before after = after ≡ before

module _ {Q : Type 0} (sent : Q → List Request) (full_seen : Q → ℕ) (full : Q → Type 0) where
  -- the manager's lane alike
  abbrev pub IsRequested : ClientDeed → Q → Q → Type 0
  IsRequested (Appends tile parcel) before after = after ≡ before
  IsRequested (Requests r) before after = HasGot sent full_seen full r before after
  IsRequested (FindsTileFull tile parcel) before after = after ≡ before
  IsRequested (FindsManagerFull r) before after = IsFoundFull sent full_seen full before after
  IsRequested Finishes before after = after ≡ before
  IsRequested Loses before after = after ≡ before
