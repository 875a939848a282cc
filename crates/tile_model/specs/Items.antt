-- What a step of a tile does, and what it makes of the tile's progress.
use Rattle.std.specs.Prelude.{Bool, ◌≡◌, ℕ, ◌+◌, ◌^◌, ◌<◌, ◌==◌, nat_lt, true, false, cond, List, [], ◌∷◌, ◌++◌, length, map, take, Option, Some, None, slice_get}
use Rattle.rc_base.specs.Cluster.Parcels.{parcels_of}
use Rattle.rc_base.specs.Orders.Journal.{is_member}
use Rattle.rc_base.specs.declared.scene.Scene.{Scene}
use Rattle.rc_base.specs.declared.state.Act.{Act}
use Rattle.rc_base.specs.declared.state.Act.TheVariants as act
use Rattle.rc_base.specs.declared.state.Parcel.{Parcel}
use Rattle.rc_base.specs.declared.sync.Entry.{Entry}
use Rattle.rc_base.specs.declared.sync.Entry.TheVariants.{Meet, Swap, Give, Take}
use Rattle.rc_base.specs.declared.sync.Grant.{Grant}
use Rattle.rc_base.specs.declared.sync.Grant.TheVariants as grant_item
use Rattle.rc_base.specs.declared.window.Layout.{Layout}
use Rattle.order_model.specs.Report.{frame_count}
use Rattle.order_model.specs.Standing.{Progress, performed_in, is_listening, is_asked}
use Rattle.order_model.specs.declared.record.LogEntry.TheVariants.{Took, Performed}

-- what a tile does in a step: nothing, performing the entry that it knows, or taking an item: an entry, that no more comes, or a client's parcel
pub data Item : Type 0 where
  Nothing : Item
  Due : (e : Entry) → Item
  Granted : (e : Entry) → Item
  NoMore : Item
  Sent : (client : ℕ) (parcel : Parcel) → Item

-- ---- what an item makes of the progress

-- a function with another value at one number
abbrev pub with_at : {A : Type 0} → (ℕ → A) → ℕ → A → ℕ → A
with_at f n x k = cond (k == n) x (f k)

-- one more parcel of a client is taken
abbrev pub after_parcel : Progress → ℕ → Progress
after_parcel p client = record p { taken = with_at p.taken client (p.taken client + 1) }

-- and carried out
abbrev pub after_work : Progress → ℕ → ℕ → Progress
after_work p client place = record (after_parcel p client) { log = p.log ++ Took client place ∷ [] }

-- it holds the client
abbrev pub after_wait : Progress → ℕ → Progress
after_wait p client = record (after_parcel p client) { held = with_at p.held client true }

-- it closes the client
abbrev pub after_end : Progress → ℕ → Progress
after_end p client = record (after_parcel p client) { closed = with_at p.closed client true }

-- a parcel of a client that is held is dropped, but for its End
abbrev pub after_act : Progress → ℕ → Act → ℕ → Progress
after_act p client (act.Draw block) place = cond (p.held client) (after_parcel p client) (after_work p client place)
after_act p client (act.Clear mask) place = cond (p.held client) (after_parcel p client) (after_work p client place)
after_act p client (act.Shared part) place = cond (p.held client) (after_parcel p client) (after_work p client place)
after_act p client (act.Sync op) place = cond (p.held client) (after_parcel p client) (after_wait p client)
after_act p client act.End place = after_end p client

-- an entry is learnt
abbrev pub after_entry : Progress → Entry → Progress
after_entry p e = record p { learnt = p.learnt ++ e ∷ [] }

abbrev pub after_no_more : Progress → Progress
after_no_more p = record p { no_more = true }

-- an entry is performed: its members are held no more
abbrev pub after_performed : Progress → Entry → Progress
after_performed p e = record p { log = p.log ++ Performed ∷ []; held = λ client. cond (is_member p.count e client) false (p.held client) }

abbrev pub after_item : Progress → Item → Progress
after_item p Nothing = p
after_item p (Due e) = after_performed p e
after_item p (Granted e) = after_entry p e
after_item p NoMore = after_no_more p
after_item p (Sent client parcel) = after_act p client parcel.act parcel.place

-- ---- when it may come, and which one comes

-- An entry is performed where it is the known one and each member is held. The tile takes what is granted while it knows of no entry that isn't
-- performed, until no more comes; and parcels of clients that are neither held nor closed, once nothing will be performed any more of held ones too.
abbrev pub IsAwaited : Progress → Item → Type 0
IsAwaited p Nothing = Unit {0}
IsAwaited p (Due e) =
    (slice_get p.learnt (performed_in p.log) ≡ Some e) × ((client : ℕ) → is_member p.count e client ≡ true → p.held client ≡ true)
IsAwaited p (Granted e) = is_listening p ≡ true
IsAwaited p NoMore = is_listening p ≡ true
IsAwaited p (Sent client parcel) = (client < p.count) × (is_asked p client ≡ true)

-- the parcel is the next one of its client to the tile, and the entry the next one of the journal
abbrev pub IsItemOf : Scene → Layout → ℕ → List Entry → Progress → Item → Type 0
IsItemOf scene l tile journal p Nothing = Unit {0}
IsItemOf scene l tile journal p (Due e) = Unit {0}
IsItemOf scene l tile journal p (Granted e) = slice_get journal (length p.learnt) ≡ Some e
IsItemOf scene l tile journal p NoMore = Unit {0}
IsItemOf scene l tile journal p (Sent client parcel) = slice_get (parcels_of scene l client tile) (p.taken client) ≡ Some parcel

-- all members of an entry are clients, of n
abbrev pub has_clients : ℕ → Entry → Bool
has_clients n (Meet barrier members) = nat_lt members (2 ^ n)
has_clients n Swap = true
has_clients n (Give semaphore client) = nat_lt client n
has_clients n (Take semaphore client) = nat_lt client n

-- ---- its lanes

-- what is taken of a client's lane
abbrev pub parcel_taken : Item → ℕ → Option Parcel
parcel_taken Nothing i = None
parcel_taken (Due e) i = None
parcel_taken (Granted e) i = None
parcel_taken NoMore i = None
parcel_taken (Sent client parcel) i = cond (i == client) (Some parcel) None

-- and of the grant lane
abbrev pub grant_taken : Item → Option Grant
grant_taken Nothing = None
grant_taken (Due e) = None
grant_taken (Granted e) = Some (grant_item.Entry e)
grant_taken NoMore = Some grant_item.NoMore
grant_taken (Sent client parcel) = None

-- all that was taken of the grant lane: the entries that were learnt, and then that no more comes
abbrev pub grants_heard : Progress → List Grant
grants_heard p = map (λ e. grant_item.Entry e) p.learnt ++ cond p.no_more (grant_item.NoMore ∷ []) []

-- ---- frames

-- how many Swaps are performed: so many frames were shown
abbrev pub shown_frames : Progress → ℕ
shown_frames p = frame_count (take (performed_in p.log) p.learnt)
