-- A step is an append of the item that is ready, or was made so.
use Rattle.std.proofs.Common.{◌≡◌, ◌≢◌, ◌∙◌, ℕ, ◌<◌, Bool, true, false, List, [], ◌∷◌, ◌++◌, length, refl, sym, ap, subst, true≢false}
use Rattle.std.specs.Prelude.{cond}
use Rattle.rc_base.specs.Cluster.Lanes.{EachLane}
use Rattle.rc_base.specs.Cluster.Looks.{looks_at}
use Rattle.rc_base.specs.Cluster.Tiles.{tile_count}
use Rattle.rc_base.specs.Outside.Causes.{Rose}
use Rattle.rc_base.specs.declared.command.Command.{Command}
use Rattle.rc_base.specs.declared.state.Parcel.{Parcel}
use Rattle.rc_base.specs.declared.window.Layout.{Layout}
use Rattle.client_issue.specs.Cores.{issued_of, layout_of, left_in, looks_of, tally_after, tally_in, tally_of_tile, AreSameTallies}
use Rattle.client_issue.specs.Deeds.{is_loss, issued_up_to, ClientDeed}
use Rattle.client_issue.specs.Deeds.ClientDeed.{Appends, Requests, FindsTileFull, FindsManagerFull, Finishes, Loses}
use Rattle.client_issue.specs.Sequence.{alone, IsSame}
use Rattle.client_issue.specs.Steps.{AreTallied, HasGot, IsClientStep, IsCutShort, IsFoundFull, IsLaneAlone, IsNextDeed, MayLack}
use Rattle.client_issue.specs.declared.client.ClientCore.{ClientCore}
use Rattle.client_issue.specs.declared.sender.Sender.{Sender}

pub same_by : (a b : Sender) → b ≡ a → IsSame a b
same_by a b e = record { decl = λ i. (e i).decl; stream = λ i. (e i).stream; layout = λ i. (e i).layout; count = λ i. (e i).count }

-- a core whose next item was made ready is as it was
pub record IsAlike (core ready : ClientCore) : Type 0 where
  pub same : IsSame core.sender ready.sender
  pub short : ready.short ≡ core.short
  pub still : core.short ≡ true → issued_of ready ≡ issued_of core
  pub left : left_in ready ≡ left_in core
  pub tallies : ready.tallies ≡ core.tallies

same_twice : (a b c : ClientCore) → IsSame a.sender b.sender → IsSame b.sender c.sender → IsSame a.sender c.sender
same_twice a b c x y = record { decl = y.decl ∙ x.decl; stream = y.stream ∙ x.stream; layout = y.layout ∙ x.layout; count = y.count ∙ x.count }

issued_from : (short now : Bool) (before issued up_to : ℕ) → now ≡ short → (short ≡ true → issued ≡ before) → cond now issued up_to ≡ cond short before up_to
issued_from true now before issued up_to e still = ap (λ b. cond b issued up_to) e ∙ still refl
issued_from false now before issued up_to e still = ap (λ b. cond b issued up_to) e

module _ (core ready later : ClientCore) (alike : IsAlike core ready) where
  low : (tile : ℕ) → tile < tile_count (layout_of ready) → tile < tile_count (layout_of core)
  low tile lt = subst (λ (l : Layout). tile < tile_count l) alike.same.layout lt

  next_from : (did : ClientDeed) → is_loss did ≡ false → IsNextDeed ready did later → IsNextDeed core did later
  next_from (Appends tile parcel) whole h = (low tile h.0, sym alike.left ∙ h.1)
  next_from (Requests r) whole h = sym alike.left ∙ h
  next_from (FindsTileFull tile parcel) whole h = (low tile h.0, record { rest = h.1.rest; next = sym alike.left ∙ h.1.next }, h.2 ∙ alike.left)
  next_from (FindsManagerFull r) whole h = (record { rest = h.0.rest; next = sym alike.left ∙ h.0.next }, h.1 ∙ alike.left)
  next_from Finishes whole h = (sym alike.left ∙ h.0, h.1)
  next_from Loses whole h = absurd (true≢false whole)

  tally_from : (tile : ℕ) → tally_of_tile ready tile ≡ tally_of_tile core tile
  tally_from tile = λ i. tally_in (alike.tallies i).items tile

  looks_from : (tile : ℕ) (p : Parcel) → looks_of ready tile p ≡ looks_of core tile p
  looks_from tile p = λ i. looks_at (alone (alike.same.decl i) (alike.same.stream i)) (alike.same.layout i) 0 tile p.place

  same_from : AreSameTallies ready later → AreSameTallies core later
  same_from h tile = h tile ∙ tally_from tile

  tallied_from : (did : ClientDeed) → AreTallied ready did later → AreTallied core did later
  tallied_from (Appends tile parcel) h = record {
    counted = h.counted ∙ (λ i. tally_after (tally_from tile i) parcel (looks_from tile parcel i));
    others = λ other ne. h.others other ne ∙ tally_from other;
  }
  tallied_from (Requests r) h = same_from h
  tallied_from (FindsTileFull tile parcel) h = same_from h
  tallied_from (FindsManagerFull r) h = same_from h
  tallied_from Finishes h = same_from h
  tallied_from Loses h = same_from h

  pub step_from : (did : ClientDeed) → is_loss did ≡ false → IsClientStep ready did later → IsClientStep core did later
  step_from did whole h = record {
    same = same_twice core ready later alike.same h.same;
    short = h.short ∙ ap (cond (is_loss did) true) alike.short;
    ample = λ loss. absurd (true≢false (sym loss ∙ whole));
    next = next_from did whole h.next;
    issued = λ _.
        h.issued whole
        ∙ issued_from core.short ready.short (issued_of core) (issued_of ready) (issued_up_to (length ready.sender.stream) did) alike.short alike.still
        ∙ ap (λ (cs : List Command). cond core.short (issued_of core) (issued_up_to (length cs) did)) alike.same.stream;
    tallied = tallied_from did h.tallied;
  }

pub step_lost : (core later : ClientCore) → IsSame core.sender later.sender → later.short ≡ true → MayLack core → IsCutShort core later → later.tallies ≡ core.tallies
    → IsClientStep core Loses later
step_lost core later same short may cut tallies = record {
  same = same;
  short = short;
  ample = λ _. may;
  next = cut;
  issued = λ gains. absurd (true≢false gains);
  tallied = λ tile i. tally_in (tallies i).items tile;
}

-- ---- one lane of several

module _ {T P : Type 0} (sent : P → List T) (full_seen : P → ℕ) (full : P → Type 0) (before after : List P) (n tile : ℕ) (is : n ≡ tile)
    (others : EachLane (λ i a b. i ≢ n → b ≡ a) before after) where
  pub got : (item : T) → EachLane (λ i a b. i ≡ n → sent b ≡ sent a ++ item ∷ []) before after → EachLane (λ i a b. i ≡ n → full_seen b ≡ full_seen a) before after
      → IsLaneAlone tile (HasGot sent full_seen full item) before after
  got item appended counted = subst (λ (k : ℕ). IsLaneAlone k (HasGot sent full_seen full item) before after) is (record {
    here = record { count = appended.count; at = λ i d lt e. record { appended = appended.at i d lt e; counted = counted.at i d lt e } };
    others = others;
  })

  pub found_full : EachLane (λ i a b. i ≡ n → sent b ≡ sent a) before after
      → EachLane (λ i a b. i ≡ n → Rose (full_seen a) (full_seen b) × full b) before after
      → IsLaneAlone tile (IsFoundFull sent full_seen full) before after
  found_full same cause = subst (λ (k : ℕ). IsLaneAlone k (IsFoundFull sent full_seen full) before after) is (record {
    here = record { count = same.count; at = λ i d lt e. record { same = same.at i d lt e; cause = (cause.at i d lt e).0; full_is = (cause.at i d lt e).1 } };
    others = others;
  })
