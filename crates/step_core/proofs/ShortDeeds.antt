-- What a deed of a tile that is short, or becomes so, is to the model.
use Rattle.std.proofs.Common.{◌≡◌, ℕ, ◌==◌, Bool, true, false, cond, Some, None, Ok, Err, inl, inr, refl, sym, ap, ◌∙◌, true≢false}
use Rattle.std.specs.Prelude.{Result}
use Rattle.rc_base.specs.Cluster.Parcels.{is_end}
use Rattle.rc_base.specs.declared.cluster.TileMoved.{TileMoved}
use Rattle.rc_base.specs.declared.cluster.TileMoved.TheVariants as moved
use Rattle.rc_base.specs.declared.out_of_memory.OutOfMemory.{OutOfMemory}
use Rattle.rc_base.specs.declared.sync.Grant.TheVariants as grant
use Rattle.order_model.specs.Standing.{Progress}
use Rattle.tile_server.specs.Deeds.{item_of, is_loss, answer_of, taken_of, granted_of, IsFoundEmpty, IsNextDeed, IsUnheard}
use Rattle.tile_server.specs.declared.deed.TileDeed.{TileDeed}
use Rattle.tile_server.specs.declared.deed.TileDeed.TheVariants.{Performs, Shows, Fails, Learns, Takes, Rests, Finishes}
use Rattle.tile_server.specs.declared.deed.Taking.TheVariants.{Works, Holds, Closes, Drops, Loses}
use Rattle.world_model.specs.Short.{IsAwaitedShort, IsShortAnswer, FindsNoGrantShort, FindsNoParcelShort, MayLose}
use Rattle.world_model.specs.Tiles.{Tile, without_pixels}
use Rattle.step_core.proofs.Lanes.{not_itself}

off : {A : Type 0} (x : A) (b : Bool) → b ≡ false → cond b (Some x) None ≡ None
off x b e = rw e refl

-- where it finds a client's lane empty, it takes nothing of it
pub none_there : (short : Bool) (p : Progress) (next : ℕ) (deed : TileDeed) (i : ℕ) → IsFoundEmpty short p next deed i → taken_of deed i ≡ None
none_there short p next (Performs e) i h = absurd h
none_there short p next (Shows part) i h = absurd h
none_there short p next Fails i h = absurd h
none_there short p next (Learns g) i h = absurd h
none_there short p next (Takes client parcel how) i h = off parcel (i == client) (not_itself next client i h.0)
none_there short p next Rests i h = refl
none_there short p next Finishes i h = refl

answer_is : (x m : TileMoved) → ◌≡◌ {A = Result TileMoved OutOfMemory} (Ok x) (Ok m) → without_pixels m ≡ without_pixels x
answer_is x m ok = ap without_pixels (let e : m ≡ x = cc in e)

-- ---- a tile that is short

-- what it awaits
pub awaits_short : (p : Progress) (deed : TileDeed) → is_loss deed ≡ false → IsNextDeed true p deed → IsAwaitedShort p (item_of deed)
awaits_short p (Performs e) kept h = absurd (true≢false h.0)
awaits_short p (Shows part) kept h = absurd (true≢false h.0)
awaits_short p Fails kept h = tt
awaits_short p (Learns (grant.Entry e)) kept h = h.1
awaits_short p (Learns grant.NoMore) kept h = h.1
awaits_short p (Takes client parcel how) kept h = (h.0.low, h.0.asked)
awaits_short p Rests kept h = tt
awaits_short p Finishes kept h = tt

-- what it answers
pub answers_short : (p : Progress) (deed : TileDeed) (m : TileMoved) → answer_of deed ≡ Ok m → IsNextDeed true p deed
    → IsShortAnswer p (item_of deed) (without_pixels m)
answers_short p (Performs e) m ok h = absurd (true≢false h.0)
answers_short p (Shows part) m ok h = absurd (true≢false h.0)
answers_short p Fails m ok h = absurd cc
answers_short p (Learns (grant.Entry e)) m ok h = answer_is moved.Learnt m ok
answers_short p (Learns grant.NoMore) m ok h = answer_is moved.Learnt m ok
answers_short p (Takes client parcel Works) m ok h = absurd (true≢false h.1.0)
answers_short p (Takes client parcel Holds) m ok h = absurd (true≢false h.1.0)
answers_short p (Takes client parcel Closes) m ok h = let last : is_end parcel.act ≡ true = h.1 in answer_is (moved.Closed client) m ok ∙ rw last refl
answers_short p (Takes client parcel Drops) m ok h = let more : is_end parcel.act ≡ false = h.1.1 in answer_is (moved.Dropped client) m ok ∙ rw more refl
answers_short p (Takes client parcel Loses) m ok h = absurd cc
answers_short p Rests m ok h = inr (answer_is moved.Blocked m ok, h.1)
answers_short p Finishes m ok h = inl (answer_is moved.Ended m ok, h.1)

-- which lanes it found empty
pub finds_no_parcel_short : (a : Tile) (next : ℕ) (deed : TileDeed) (m : TileMoved) (i : ℕ) → next ≡ a.next → answer_of deed ≡ Ok m
    → FindsNoParcelShort a (item_of deed) i → IsFoundEmpty true a.progress next deed i
finds_no_parcel_short a next (Performs e) m i same ok h = absurd h
finds_no_parcel_short a next (Shows part) m i same ok h = absurd h
finds_no_parcel_short a next Fails m i same ok h = absurd cc
finds_no_parcel_short a next (Learns (grant.Entry e)) m i same ok h = absurd h
finds_no_parcel_short a next (Learns grant.NoMore) m i same ok h = absurd h
finds_no_parcel_short a next (Takes client parcel how) m i same ok h = rw same h
finds_no_parcel_short a next Rests m i same ok h = h
finds_no_parcel_short a next Finishes m i same ok h = h

pub finds_no_grant_short : (p : Progress) (deed : TileDeed) (m : TileMoved) → answer_of deed ≡ Ok m → FindsNoGrantShort p (item_of deed) → IsUnheard true p deed
finds_no_grant_short p (Performs e) m ok h = absurd h
finds_no_grant_short p (Shows part) m ok h = absurd h
finds_no_grant_short p Fails m ok h = absurd cc
finds_no_grant_short p (Learns (grant.Entry e)) m ok h = absurd h
finds_no_grant_short p (Learns grant.NoMore) m ok h = absurd h
finds_no_grant_short p (Takes client parcel how) m ok h = h
finds_no_grant_short p Rests m ok h = h
finds_no_grant_short p Finishes m ok h = h

-- ---- a tile that becomes short

pub loses : (deed : TileDeed) (e : OutOfMemory) → answer_of deed ≡ Err e → is_loss deed ≡ true
loses (Performs x) e is = absurd cc
loses (Shows part) e is = absurd cc
loses Fails e is = refl
loses (Learns g) e is = absurd cc
loses (Takes client parcel Works) e is = absurd cc
loses (Takes client parcel Holds) e is = absurd cc
loses (Takes client parcel Closes) e is = absurd cc
loses (Takes client parcel Drops) e is = absurd cc
loses (Takes client parcel Loses) e is = refl
loses Rests e is = absurd cc
loses Finishes e is = absurd cc

pub no_loss : (deed : TileDeed) (m : TileMoved) → answer_of deed ≡ Ok m → is_loss deed ≡ false
no_loss (Performs x) m is = refl
no_loss (Shows part) m is = refl
no_loss Fails m is = absurd cc
no_loss (Learns g) m is = refl
no_loss (Takes client parcel Works) m is = refl
no_loss (Takes client parcel Holds) m is = refl
no_loss (Takes client parcel Closes) m is = refl
no_loss (Takes client parcel Drops) m is = refl
no_loss (Takes client parcel Loses) m is = absurd cc
no_loss Rests m is = refl
no_loss Finishes m is = refl

pub may_lose : (p : Progress) (deed : TileDeed) → is_loss deed ≡ true → IsNextDeed false p deed → MayLose p (item_of deed)
may_lose p (Performs e) loss h = absurd (true≢false (sym loss))
may_lose p (Shows part) loss h = absurd (true≢false (sym loss))
may_lose p Fails loss h = h.1
may_lose p (Learns (grant.Entry e)) loss h = absurd (true≢false (sym loss))
may_lose p (Learns grant.NoMore) loss h = absurd (true≢false (sym loss))
may_lose p (Takes client parcel Works) loss h = absurd (true≢false (sym loss))
may_lose p (Takes client parcel Holds) loss h = absurd (true≢false (sym loss))
may_lose p (Takes client parcel Closes) loss h = absurd (true≢false (sym loss))
may_lose p (Takes client parcel Drops) loss h = absurd (true≢false (sym loss))
may_lose p (Takes client parcel Loses) loss h = (h.0.low, h.0.asked, h.1.2)
may_lose p Rests loss h = absurd (true≢false (sym loss))
may_lose p Finishes loss h = absurd (true≢false (sym loss))

-- it takes no grant in that step
pub no_grant_lost : (p : Progress) (deed : TileDeed) → is_loss deed ≡ true → IsNextDeed false p deed → granted_of deed ≡ None
no_grant_lost p (Performs e) loss h = refl
no_grant_lost p (Shows part) loss h = refl
no_grant_lost p Fails loss h = refl
no_grant_lost p (Learns g) loss h = absurd (true≢false (sym loss))
no_grant_lost p (Takes client parcel how) loss h = refl
no_grant_lost p Rests loss h = refl
no_grant_lost p Finishes loss h = refl
