-- A tile's step has a part for the caller where it performs a Swap, or where memory lacked; frames are counted along the journal.
use Rattle.std.proofs.Common.{◌≡◌, ℕ, ◌+◌, ◌≤◌, Bool, true, false, cond, List, [], ◌∷◌, ◌++◌, length, take, drop, Option, Some, None, inl, inr, refl, sym, ap, ◌∙◌, subst, arith, append-nil, length-append}
use Rattle.std.proofs.lemmas.Bool.{cases_Bool}
use Rattle.std.proofs.lemmas.List.{take-append-drop}
use Rattle.std.proofs.lemmas.List.Sums.{count_by-le-length, sum_by-append}
use Rattle.std.specs.Prelude.{option_to_list, Ok}
use Rattle.rc_base.specs.Cluster.Parcels.{is_end}
use Rattle.rc_base.specs.declared.cluster.TilePart.{TilePart}
use Rattle.rc_base.specs.declared.state.Act.{Act}
use Rattle.rc_base.specs.declared.state.Act.TheVariants as act
use Rattle.rc_base.specs.declared.sync.Entry.{Entry}
use Rattle.rc_base.specs.declared.sync.Entry.TheVariants.{Meet, Swap, Give, Take}
use Rattle.order_model.specs.Report.{is_swap_entry, frame_count}
use Rattle.order_model.specs.Standing.{Progress}
use Rattle.tile_model.specs.Items.{Item, after_item, IsAwaited, shown_frames}
use Rattle.tile_model.specs.Items.Item.{Nothing, Due, Granted, NoMore, Sent}
use Rattle.tile_model.specs.Short.{after_lost}
use Rattle.tile_model.proofs.ItemsComeFromLanes.{listens}
use Rattle.tile_model.proofs.ShownFrames.{not_shown, one_shown, act_shows, learns_shows}
use Rattle.world_model.specs.Short.{IsShortAnswer}
use Rattle.world_model.specs.Threaded.{Offers, IsPut}
use Rattle.world_model.specs.Tiles.{IsTileAnswer, answer_to_act}
use Rattle.world_model.specs.declared.moves.TileAnswer.{TileAnswer}
use Rattle.world_model.specs.declared.moves.TileAnswer.TheVariants as tile_answer

-- ---- frames of a journal

pub frames_append : (xs ys : List Entry) → frame_count (xs ++ ys) ≡ frame_count xs + frame_count ys
frames_append xs ys = sum_by-append (λ (y : Entry). cond {A = ℕ} (is_swap_entry y) 1 0) xs ys

-- the first entries of a front have no more
pub frames_of_front : (k : ℕ) (xs ys journal : List Entry) → journal ≡ xs ++ ys → frame_count (take k xs) ≤ frame_count journal
frames_of_front k xs ys journal e =
    let a = ap frame_count e ∙ frames_append xs ys in
    let b = ap frame_count (sym (take-append-drop k xs)) ∙ frames_append (take k xs) (drop k xs) in
    omega (arith, a, b)

-- a front that lacks so many entries at most has so many frames fewer at most
pub frames_near : (n : ℕ) (xs ys journal : List Entry) → journal ≡ xs ++ ys → length journal ≤ length xs + n → frame_count journal ≤ frame_count xs + n
frames_near n xs ys journal e near =
    let a = ap frame_count e ∙ frames_append xs ys in
    let b = ap length e ∙ length-append xs ys in
    let c = count_by-le-length is_swap_entry ys in
    omega (arith, a, b, c, near)

-- ---- steps without a part

pub none_offered : (answer : TileAnswer) (offered : Option TilePart) → (answer ≡ tile_answer.Swapped → ⊥) → Offers (Ok answer) offered → offered ≡ None
none_offered tile_answer.Performed offered other h = h
none_offered tile_answer.Swapped offered other h = absurd (other refl)
none_offered tile_answer.Learnt offered other h = h
none_offered (tile_answer.Took client) offered other h = h
none_offered (tile_answer.Held client) offered other h = h
none_offered (tile_answer.Closed client) offered other h = h
none_offered (tile_answer.Dropped client) offered other h = h
none_offered tile_answer.Blocked offered other h = h
none_offered tile_answer.Ended offered other h = h

other_than : (answer other : TileAnswer) → answer ≡ other → (other ≡ tile_answer.Swapped → ⊥) → answer ≡ tile_answer.Swapped → ⊥
other_than answer other is differs e = differs (sym is ∙ e)

act_silent : (held : Bool) (client : ℕ) (a : Act) → answer_to_act held client a ≡ tile_answer.Swapped → ⊥
act_silent true client (act.Draw block) e = cc
act_silent false client (act.Draw block) e = cc
act_silent true client (act.Clear mask) e = cc
act_silent false client (act.Clear mask) e = cc
act_silent true client (act.Shared part) e = cc
act_silent false client (act.Shared part) e = cc
act_silent true client (act.Sync op) e = cc
act_silent false client (act.Sync op) e = cc
act_silent held client act.End e = cc

end_silent : (b : Bool) (client : ℕ) → cond b (tile_answer.Closed client) (tile_answer.Dropped client) ≡ tile_answer.Swapped → ⊥
end_silent true client e = cc
end_silent false client e = cc

no_more : (n m : ℕ) (offered : Option TilePart) → offered ≡ None → n ≡ m → n ≡ m + length (option_to_list offered)
no_more n m offered none e = let z = ap (λ (o : Option TilePart). length (option_to_list o)) none in omega (arith, e, z)

-- ---- a tile that isn't short

-- it has performed one Swap more exactly where it has a part
pub parts_by_item : (p : Progress) (item : Item) (answer : TileAnswer) (offered : Option TilePart) → IsAwaited p item → IsTileAnswer p item answer → Offers (Ok answer) offered
    → shown_frames (after_item p item) ≡ shown_frames p + length (option_to_list offered)
parts_by_item p Nothing answer offered awaited (inl is) h = no_more _ _ offered (none_offered answer offered (other_than answer tile_answer.Ended is.0 (λ e. cc)) h) refl
parts_by_item p Nothing answer offered awaited (inr is) h = no_more _ _ offered (none_offered answer offered (other_than answer tile_answer.Blocked is.0 (λ e. cc)) h) refl
parts_by_item p (Due (Meet barrier members)) answer offered awaited is h =
    no_more _ _ offered (none_offered answer offered (other_than answer tile_answer.Performed is (λ e. cc)) h) (not_shown p (Meet barrier members) awaited.0 refl).frames
parts_by_item p (Due Swap) answer offered awaited is h =
    let there = subst (λ (a : TileAnswer). Offers (Ok a) offered) is h in
    let one = ap (λ (o : Option TilePart). length (option_to_list o)) there.1 in
    let n = one_shown p awaited.0 in
    omega (arith, one, n)
parts_by_item p (Due (Give semaphore client)) answer offered awaited is h =
    no_more _ _ offered (none_offered answer offered (other_than answer tile_answer.Performed is (λ e. cc)) h) (not_shown p (Give semaphore client) awaited.0 refl).frames
parts_by_item p (Due (Take semaphore client)) answer offered awaited is h =
    no_more _ _ offered (none_offered answer offered (other_than answer tile_answer.Performed is (λ e. cc)) h) (not_shown p (Take semaphore client) awaited.0 refl).frames
parts_by_item p (Granted e) answer offered awaited is h =
    no_more _ _ offered (none_offered answer offered (other_than answer tile_answer.Learnt is (λ e. cc)) h)
    (learns_shows p e (let same = (listens p awaited).1 in omega (arith, same))).frames
parts_by_item p NoMore answer offered awaited is h = no_more _ _ offered (none_offered answer offered (other_than answer tile_answer.Learnt is (λ e. cc)) h) refl
parts_by_item p (Sent client parcel) answer offered awaited is h =
    no_more _ _ offered (none_offered answer offered (λ e. act_silent (p.held client) client parcel.act (sym is ∙ e)) h) (act_shows p client parcel.act parcel.place).frames

-- ---- a tile that is short, or becomes so

-- it performs nothing more
pub lost_shows : (p : Progress) (item : Item) → shown_frames (after_lost p item) ≡ shown_frames p
lost_shows p Nothing = refl
lost_shows p (Due e) = refl
lost_shows p (Granted e) = refl
lost_shows p NoMore = refl
lost_shows p (Sent client parcel) = elim (cases_Bool (is_end parcel.act)) [ inl t ↦ rw t refl | inr f ↦ rw f refl ]

-- and has no part
pub short_offers_none : (p : Progress) (item : Item) (answer : TileAnswer) (offered : Option TilePart) → IsShortAnswer p item answer → Offers (Ok answer) offered → offered ≡ None
short_offers_none p Nothing answer offered (inl is) h = none_offered answer offered (other_than answer tile_answer.Ended is.0 (λ e. cc)) h
short_offers_none p Nothing answer offered (inr is) h = none_offered answer offered (other_than answer tile_answer.Blocked is.0 (λ e. cc)) h
short_offers_none p (Due e) answer offered is h = absurd is
short_offers_none p (Granted e) answer offered is h = none_offered answer offered (other_than answer tile_answer.Learnt is (λ e. cc)) h
short_offers_none p NoMore answer offered is h = none_offered answer offered (other_than answer tile_answer.Learnt is (λ e. cc)) h
short_offers_none p (Sent client parcel) answer offered is h = none_offered answer offered (λ e. end_silent (is_end parcel.act) client (sym is ∙ e)) h

-- ---- a part on its way

-- what is put waits, in the lane or for it
pub put_waits : (depth : ℕ) (offered : Option TilePart) (lane seen later : List TilePart) (handing : Option TilePart) → IsPut depth offered lane seen later handing
    → later ++ option_to_list handing ≡ lane ++ option_to_list offered
put_waits depth None lane seen later handing h = ap (λ (o : Option TilePart). later ++ option_to_list o) h.1 ∙ ap (λ (ps : List TilePart). ps ++ []) h.0
put_waits depth (Some part) lane seen later handing (inl s) = ap (λ (o : Option TilePart). later ++ option_to_list o) s.free ∙ append-nil later ∙ s.appended
put_waits depth (Some part) lane seen later handing (inr k) = ap (λ (o : Option TilePart). later ++ option_to_list o) k.waits ∙ ap (λ (ps : List TilePart). ps ++ part ∷ []) k.same
