-- What a tile's core does in a step, as an item of the model's tile.
use Rattle.std.proofs.Common.{◌≡◌, ◌≢◌, ◌⊎◌, ℕ, ◌+◌, ◌==◌, Bool, true, false, not, ◌&&◌, List, [], ◌∷◌, ◌++◌, length, None, Ok, inl, inr, refl, sym, ap, ◌∙◌, arith, eqb-true, length-append}
use Rattle.std.specs.Prelude.{Result}
use Rattle.std.proofs.lemmas.Bool.{cases_Bool}
use Rattle.rc_base.specs.Cluster.Parcels.{is_end}
use Rattle.rc_base.specs.Drawing.Images.{Pixels}
use Rattle.rc_base.specs.declared.cluster.TileMoved.{TileMoved}
use Rattle.rc_base.specs.declared.cluster.TileMoved.TheVariants as moved
use Rattle.rc_base.specs.declared.cluster.TilePart.{TilePart}
use Rattle.rc_base.specs.declared.out_of_memory.OutOfMemory.{OutOfMemory}
use Rattle.rc_base.specs.declared.state.Act.{Act}
use Rattle.rc_base.specs.declared.state.Act.TheVariants as act
use Rattle.rc_base.specs.declared.sync.Entry.{Entry}
use Rattle.rc_base.specs.declared.sync.Entry.TheVariants.{Meet, Swap, Give, Take}
use Rattle.rc_base.specs.declared.sync.Grant.TheVariants as grant
use Rattle.order_model.specs.Standing.{Progress, performed_in}
use Rattle.tile_model.specs.Acts.{is_work}
use Rattle.tile_model.specs.Items.{Item, after_act, after_item, shown_frames, IsAwaited}
use Rattle.tile_model.specs.Short.{IsFinished}
use Rattle.tile_model.specs.Items.Item.{Nothing, Due, Granted, NoMore, Sent}
use Rattle.tile_server.specs.Deeds.{item_of, answer_of, is_wait, granted_of, next_after, IsNextDeed, IsFoundEmpty, IsUnheard}
use Rattle.tile_server.specs.declared.deed.TileDeed.{TileDeed}
use Rattle.tile_server.specs.declared.deed.TileDeed.TheVariants.{Performs, Shows, Fails, Learns, Takes, Rests, Finishes}
use Rattle.tile_server.specs.declared.deed.Taking.TheVariants.{Works, Holds, Closes, Drops, Loses}
use Rattle.world_model.specs.Tiles as model
use Rattle.world_model.specs.Tiles.{Tile, without_pixels, answer_to_act, answer_to_entry, parts_after, HasEnded, IsTileAnswer, IsUndue, FindsNoGrant, FindsNoParcel}
use Rattle.world_model.specs.declared.moves.TileAnswer.TheVariants as tile_answer
use Rattle.tile_model.proofs.ShownFrames.{after_swap, after_other, after_learnt, after_worked}
use Rattle.step_core.specs.Changes.{with_shown}

-- ---- its lanes

pub same_next : (next : ℕ) (deed : TileDeed) → next_after next deed ≡ model.next_after next (item_of deed)
same_next next (Performs e) = refl
same_next next (Shows part) = refl
same_next next Fails = refl
same_next next (Learns (grant.Entry e)) = refl
same_next next (Learns grant.NoMore) = refl
same_next next (Takes client parcel how) = omega arith
same_next next Rests = refl
same_next next Finishes = refl

-- ---- which item is next

pub is_undue : (p : Progress) (deed : TileDeed) (m : TileMoved) → answer_of deed ≡ Ok m → IsNextDeed false p deed → IsUndue p (item_of deed)
is_undue p (Performs e) m ok h = tt
is_undue p (Shows part) m ok h = tt
is_undue p Fails m ok h = absurd cc
is_undue p (Learns (grant.Entry e)) m ok h = h.0
is_undue p (Learns grant.NoMore) m ok h = h.0
is_undue p (Takes client parcel how) m ok h = h.0.undue
is_undue p Rests m ok h = h.0
is_undue p Finishes m ok h = h.0

-- ---- lanes that were found empty

pub finds_no_parcel : (a : Tile) (next : ℕ) (deed : TileDeed) (m : TileMoved) (i : ℕ) → next ≡ a.next → answer_of deed ≡ Ok m
    → FindsNoParcel a (item_of deed) i → IsFoundEmpty false a.progress next deed i
finds_no_parcel a next (Performs e) m i same ok h = absurd h
finds_no_parcel a next (Shows part) m i same ok h = absurd h
finds_no_parcel a next Fails m i same ok h = absurd cc
finds_no_parcel a next (Learns (grant.Entry e)) m i same ok h = absurd h
finds_no_parcel a next (Learns grant.NoMore) m i same ok h = absurd h
finds_no_parcel a next (Takes client parcel how) m i same ok h = rw same h
finds_no_parcel a next Rests m i same ok h = h
finds_no_parcel a next Finishes m i same ok h = h

pub finds_no_grant : (p : Progress) (deed : TileDeed) (m : TileMoved) → answer_of deed ≡ Ok m → FindsNoGrant p (item_of deed) → IsUnheard false p deed
finds_no_grant p (Performs e) m ok h = absurd h
finds_no_grant p (Shows part) m ok h = absurd h
finds_no_grant p Fails m ok h = absurd cc
finds_no_grant p (Learns (grant.Entry e)) m ok h = absurd h
finds_no_grant p (Learns grant.NoMore) m ok h = absurd h
finds_no_grant p (Takes client parcel how) m ok h = h
finds_no_grant p Rests m ok h = h
finds_no_grant p Finishes m ok h = h

pub none_granted : (short : Bool) (p : Progress) (deed : TileDeed) → IsUnheard short p deed → granted_of deed ≡ None
none_granted short p (Performs e) h = absurd h
none_granted short p (Shows part) h = absurd h
none_granted short p Fails h = absurd h
none_granted short p (Learns g) h = absurd h
none_granted short p (Takes client parcel how) h = refl
none_granted short p Rests h = refl
none_granted short p Finishes h = refl

-- ---- the answer

answer_is : (x m : TileMoved) → ◌≡◌ {A = Result TileMoved OutOfMemory} (Ok x) (Ok m) → without_pixels m ≡ without_pixels x
answer_is x m ok = ap without_pixels (let e : m ≡ x = cc in e)

not_swap : (e : Entry) → e ≢ Swap → answer_to_entry e ≡ tile_answer.Performed
not_swap (Meet barrier members) other = refl
not_swap Swap other = absurd (other refl)
not_swap (Give semaphore client) other = refl
not_swap (Take semaphore client) other = refl

worked : (held : Bool) (client : ℕ) (a : Act) → held ≡ false → is_work a ≡ true → answer_to_act held client a ≡ tile_answer.Took client
worked held client (act.Draw block) free work = rw free refl
worked held client (act.Clear mask) free work = rw free refl
worked held client (act.Shared part) free work = rw free refl
worked held client (act.Sync op) free work = absurd cc
worked held client act.End free work = absurd cc

waited : (held : Bool) (client : ℕ) (a : Act) → held ≡ false → is_wait a ≡ true → answer_to_act held client a ≡ tile_answer.Held client
waited held client (act.Draw block) free wait = absurd cc
waited held client (act.Clear mask) free wait = absurd cc
waited held client (act.Shared part) free wait = absurd cc
waited held client (act.Sync op) free wait = rw free refl
waited held client act.End free wait = absurd cc

closed : (held : Bool) (client : ℕ) (a : Act) → is_end a ≡ true → answer_to_act held client a ≡ tile_answer.Closed client
closed held client (act.Draw block) end = absurd cc
closed held client (act.Clear mask) end = absurd cc
closed held client (act.Shared part) end = absurd cc
closed held client (act.Sync op) end = absurd cc
closed held client act.End end = refl

dropped : (held : Bool) (client : ℕ) (a : Act) → held ≡ true → is_end a ≡ false → answer_to_act held client a ≡ tile_answer.Dropped client
dropped held client (act.Draw block) is more = rw is refl
dropped held client (act.Clear mask) is more = rw is refl
dropped held client (act.Shared part) is more = rw is refl
dropped held client (act.Sync op) is more = rw is refl
dropped held client act.End is more = absurd cc

is_held : (held : Bool) → (◌≡◌ {A = Bool} false true) ⊎ (held ≡ true) → held ≡ true
is_held held (inl h) = absurd cc
is_held held (inr h) = h

over_no_more : (no_more performed : Bool) → (no_more && performed) ≡ true → no_more ≡ true
over_no_more true performed h = refl
over_no_more false performed h = absurd cc

pub finished : (p : Progress) → HasEnded p → IsFinished false p
finished p h = record { no_more = over_no_more p.no_more (performed_in p.log == length p.learnt) h.over; performed = λ _. h.over; closed = h.closed }

pub answers : (p : Progress) (deed : TileDeed) (m : TileMoved) → answer_of deed ≡ Ok m → IsNextDeed false p deed
    → IsTileAnswer p (item_of deed) (without_pixels m)
answers p (Performs e) m ok h = answer_is moved.Performed m ok ∙ sym (not_swap e h.1)
answers p (Shows part) m ok h = answer_is (moved.Swapped part) m ok
answers p Fails m ok h = absurd cc
answers p (Learns (grant.Entry e)) m ok h = answer_is moved.Learnt m ok
answers p (Learns grant.NoMore) m ok h = answer_is moved.Learnt m ok
answers p (Takes client parcel Works) m ok h = answer_is (moved.Took client) m ok ∙ sym (worked (p.held client) client parcel.act h.1.1 h.1.2)
answers p (Takes client parcel Holds) m ok h = answer_is (moved.Held client) m ok ∙ sym (waited (p.held client) client parcel.act h.1.1 h.1.2)
answers p (Takes client parcel Closes) m ok h = answer_is (moved.Closed client) m ok ∙ sym (closed (p.held client) client parcel.act h.1)
answers p (Takes client parcel Drops) m ok h = answer_is (moved.Dropped client) m ok
    ∙ sym (dropped (p.held client) client parcel.act (is_held (p.held client) h.1.0) h.1.1)
answers p (Takes client parcel Loses) m ok h = absurd cc
answers p Rests m ok h = inr (answer_is moved.Blocked m ok, λ ended. h.1 (finished p ended))
answers p Finishes m ok h = inl (answer_is moved.Ended m ok, record { over = h.1.performed refl; closed = h.1.closed })

-- ---- what is shown

-- a part is shown at a Swap, and else none
pub shows_or_not : (p : Progress) (deed : TileDeed) (m : TileMoved) (pixels : Pixels) (shown : List Pixels) (parts : List TilePart)
    → answer_of deed ≡ Ok m → IsNextDeed false p deed
    → ((part : TilePart) × (deed ≡ Shows part) × (parts_after (item_of deed) pixels shown ≡ shown ++ pixels ∷ [])
    × (with_shown m parts ≡ parts ++ part ∷ []))
    ⊎ ((parts_after (item_of deed) pixels shown ≡ shown) × (with_shown m parts ≡ parts))
shows_or_not p (Performs e) m pixels shown parts ok h = inr
    (unshown e h.1, ap (λ (x : TileMoved). with_shown x parts) (let same : m ≡ moved.Performed = cc in same))
  where
    unshown : (e : Entry) → e ≢ Swap → model.parts_by e pixels shown ≡ shown
    unshown (Meet barrier members) other = refl
    unshown Swap other = absurd (other refl)
    unshown (Give semaphore client) other = refl
    unshown (Take semaphore client) other = refl
shows_or_not p (Shows part) m pixels shown parts ok h = inl
    (part, refl, refl, ap (λ (x : TileMoved). with_shown x parts) (let same : m ≡ moved.Swapped part = cc in same))
shows_or_not p Fails m pixels shown parts ok h = absurd cc
shows_or_not p (Learns (grant.Entry e)) m pixels shown parts ok h = inr
    (refl, ap (λ (x : TileMoved). with_shown x parts) (let same : m ≡ moved.Learnt = cc in same))
shows_or_not p (Learns grant.NoMore) m pixels shown parts ok h = inr
    (refl, ap (λ (x : TileMoved). with_shown x parts) (let same : m ≡ moved.Learnt = cc in same))
shows_or_not p (Takes client parcel Works) m pixels shown parts ok h = inr
    (refl, ap (λ (x : TileMoved). with_shown x parts) (let same : m ≡ moved.Took client = cc in same))
shows_or_not p (Takes client parcel Holds) m pixels shown parts ok h = inr
    (refl, ap (λ (x : TileMoved). with_shown x parts) (let same : m ≡ moved.Held client = cc in same))
shows_or_not p (Takes client parcel Closes) m pixels shown parts ok h = inr
    (refl, ap (λ (x : TileMoved). with_shown x parts) (let same : m ≡ moved.Closed client = cc in same))
shows_or_not p (Takes client parcel Drops) m pixels shown parts ok h = inr
    (refl, ap (λ (x : TileMoved). with_shown x parts) (let same : m ≡ moved.Dropped client = cc in same))
shows_or_not p (Takes client parcel Loses) m pixels shown parts ok h = absurd cc
shows_or_not p Rests m pixels shown parts ok h = inr (refl, ap (λ (x : TileMoved). with_shown x parts) (let same : m ≡ moved.Blocked = cc in same))
shows_or_not p Finishes m pixels shown parts ok h = inr (refl, ap (λ (x : TileMoved). with_shown x parts) (let same : m ≡ moved.Ended = cc in same))

-- ---- as many frames as Swaps

listens_so : (no_more : Bool) (n k : ℕ) → (not no_more && (n == k)) ≡ true → n ≡ k
listens_so true n k h = absurd cc
listens_so false n k h = eqb-true n k h

same_by_act : (p : Progress) (client : ℕ) (a : Act) (place : ℕ) → shown_frames (after_act p client a place) ≡ shown_frames p
same_by_act p client (act.Draw block) place = elim (cases_Bool (p.held client)) [ inl t ↦ rw t refl | inr f ↦ rw f (after_worked p client place) ]
same_by_act p client (act.Clear mask) place = elim (cases_Bool (p.held client)) [ inl t ↦ rw t refl | inr f ↦ rw f (after_worked p client place) ]
same_by_act p client (act.Shared part) place = elim (cases_Bool (p.held client)) [ inl t ↦ rw t refl | inr f ↦ rw f (after_worked p client place) ]
same_by_act p client (act.Sync op) place = elim (cases_Bool (p.held client)) [ inl t ↦ rw t refl | inr f ↦ rw f refl ]
same_by_act p client act.End place = refl

pub shown_after : (p : Progress) (item : Item) (pixels : Pixels) (shown : List Pixels) → IsAwaited p item → length shown ≡ shown_frames p
    → length (parts_after item pixels shown) ≡ shown_frames (after_item p item)
shown_after p Nothing pixels shown h e = e
shown_after p (Due (Meet barrier members)) pixels shown h e = e ∙ sym (after_other p (Meet barrier members) (λ x. cc) h.0)
shown_after p (Due Swap) pixels shown h e = length-append shown (pixels ∷ []) ∙ ap (λ n. n + 1) e ∙ sym (after_swap p h.0)
shown_after p (Due (Give semaphore client)) pixels shown h e = e ∙ sym (after_other p (Give semaphore client) (λ x. cc) h.0)
shown_after p (Due (Take semaphore client)) pixels shown h e = e ∙ sym (after_other p (Take semaphore client) (λ x. cc) h.0)
shown_after p (Granted entry) pixels shown h e = e
    ∙ sym (after_learnt p entry (let same = listens_so p.no_more (performed_in p.log) (length p.learnt) h in omega arith))
shown_after p NoMore pixels shown h e = e
shown_after p (Sent client parcel) pixels shown h e = e ∙ sym (same_by_act p client parcel.act parcel.place)
