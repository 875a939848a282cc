-- A core whose next item is made ready, and an item that goes.
use Rattle.std.proofs.Common.{◌≡◌, ◌∙◌, ℕ, ◌<◌, Bool, true, false, List, [], ◌∷◌, ◌++◌, length, Some, None, Ok, Err, refl, sym, ap, subst, get_or}
use Rattle.std.specs.Prelude.{IfNone, IfOk, IfSome, OnErr, Result, cond, slice_set, if◌then◌else◌}
use Rattle.std.specs.declared.option.Option.{Option}
use Rattle.std.proofs.lemmas.List.{get_or-set_same, get_or-set_other, get_or_default}
use Rattle.rc_base.specs.Cluster.Parcels.{end_parcel}
use Rattle.rc_base.specs.Cluster.Sending.{ToManager, to_tiles}
use Rattle.rc_base.specs.Cluster.Tiles.{tile_count}
use Rattle.rc_base.specs.Contexts.Issue.{stream_of}
use Rattle.rc_base.specs.declared.cluster.Tally.{Tally}
use Rattle.rc_base.specs.declared.command.Command.{Command}
use Rattle.rc_base.specs.declared.out_of_memory.OutOfMemory.{OutOfMemory}
use Rattle.rc_base.specs.declared.state.Parcel.{Parcel}
use Rattle.rc_base.specs.declared.sync.Request.TheVariants as request
use Rattle.rc_base.specs.declared.window.Layout.{Layout}
use Rattle.client_issue.specs.Cores.{commands_left, ends_from, left_by, no_tally, looks_of, tally_after, tally_in, IsTallied}
use Rattle.client_issue.specs.Sequence.{item_of, items_of, left_of, scene_of, HasLooks, IsForTile, IsInOrder, IsNextItem, IsOfLast, IsSame, IsSound}
use Rattle.client_issue.specs.Steps.{IsCutShort}
use Rattle.client_issue.specs.declared.client.ClientCore.{ClientCore}
use Rattle.client_issue.specs.declared.item.Item.{Item}
use Rattle.client_issue.specs.declared.item.Item.TheVariants as item
use Rattle.client_issue.specs.declared.sender.Sender.{Sender}
use Rattle.client_issue.proofs.Firsts.{ends_are}

pub sound : (core : ClientCore) → IsInOrder core.sender core.ready core.ends core.short
unfolding IsSound
sound core = core.sound

-- what the commands of a core that isn't short give is what is left of them
pub whole_left : (s : Sender) (short : Bool) → short ≡ false → commands_left short s ≡ left_of s
whole_left s short ample = λ i. if ample i then [] else left_of s

same_ends : (s t : Sender) (k m : ℕ) → IsSame s t → m ≡ k → ends_from s.layout (length s.stream) k ≡ ends_from t.layout (length t.stream) m
same_ends s t k m same ends = λ i. ends_from (sym same.layout i) (length (sym same.stream i)) (sym ends i)

module _ (s t : Sender) (o : Option Item) (k m : ℕ) (short now : Bool) (none : o ≡ None) (same : IsSame s t) (ends : m ≡ k) where
  -- an item of a command is next
  pub command_ready : (i : Item) → commands_left short s ≡ items_of (Some i) ++ commands_left now t → left_by t (Some i) m now ≡ left_by s o k short
  unfolding left_by
  command_ready i left = sym (λ j. items_of (none j) ++ (left j ++ same_ends s t k m same ends j))

  -- the commands give no more, and an End is next
  pub end_ready : (next : Option Item) (n : ℕ) → commands_left short s ≡ commands_left now t → commands_left now t ≡ []
      → ends_from t.layout (length t.stream) m ≡ items_of next ++ ends_from t.layout (length t.stream) n → left_by t next n now ≡ left_by s o k short
  unfolding left_by
  end_ready next n left over given =
      (λ j. items_of next ++ (over j ++ ends_from t.layout (length t.stream) n))
      ∙ sym given ∙ sym (same_ends s t k m same ends) ∙ (λ j. items_of (sym none j) ++ (sym (left ∙ over) j ++ ends_from s.layout (length s.stream) k))

  -- memory lacks: what the commands would have given is dropped
  pub cut_left : (gone : Option Item) → gone ≡ None → short ≡ false → now ≡ true → left_by s o k short ≡ left_of s ++ left_by t gone m now
  unfolding left_by
  cut_left gone none_now ample lacks =
      (λ j. items_of (none j) ++ ((if ample j then [] else left_of s) ++ same_ends s t k m same ends j))
      ∙ (λ j. left_of s ++ (items_of (sym none_now j) ++ ((if sym lacks j then [] else left_of t) ++ ends_from t.layout (length t.stream) m)))

pub nothing_ready : (t : Sender) (o : Option Item) (k : ℕ) (short : Bool) → o ≡ None → commands_left short t ≡ [] → ends_from t.layout (length t.stream) k ≡ []
    → left_by t o k short ≡ []
unfolding left_by
nothing_ready t o k short none over last = λ i. items_of (none i) ++ (over i ++ last i)

cut_ends : (t : Sender) (o : Option Item) (k : ℕ) (short : Bool) (l : Layout) (n : ℕ) → o ≡ None → k ≡ 0 → short ≡ true → t.layout ≡ l → length t.stream ≡ n
    → left_by t o k short ≡ to_tiles l (λ tile. end_parcel n ∷ []) ++ ToManager request.End ∷ []
unfolding left_by
cut_ends t o k short l n gone ends lacks layout count =
    (λ i. items_of (gone i) ++ ((if lacks i then [] else left_of t) ++ ends_from (layout i) (count i) (ends i))) ∙ ends_are l n

pub cut_short : (core later : ClientCore) → core.ready ≡ None → later.ready ≡ None → core.ends ≡ 0 → later.ends ≡ core.ends → core.short ≡ false → later.short ≡ true
    → IsSame core.sender later.sender → IsCutShort core later
cut_short core later none gone zero ends ample lacks same = record {
  dropped = left_of core.sender;
  left = cut_left core.sender later.sender core.ready core.ends later.ends core.short later.short none same ends later.ready gone ample lacks;
  ends = λ scene client l whose. cut_ends later.sender later.ready later.ends later.short l (length (stream_of scene client)) gone (ends ∙ zero) lacks whose.layout (ap length whose.stream);
}

-- ---- an item that goes

pub taken : (s : Sender) (o next : Option Item) (k : ℕ) (short : Bool) (i : Item) → o ≡ Some i → next ≡ None → left_by s o k short ≡ item_of i ∷ left_by s next k short
unfolding left_by
taken s o next k short i was none =
    (λ j. items_of (was j) ++ (commands_left short s ++ ends_from s.layout (length s.stream) k))
    ∙ (λ j. item_of i ∷ (items_of (sym none j) ++ (commands_left short s ++ ends_from s.layout (length s.stream) k)))

pub put_back : (s : Sender) (o : Option Item) (k : ℕ) (short : Bool) (i j : Item) → o ≡ Some i → j ≡ i → left_by s (Some j) k short ≡ left_by s o k short
unfolding left_by
put_back s o k short i j was same =
    λ n. items_of ((ap (λ (x : Item). Some x) same ∙ sym was) n) ++ (commands_left short s ++ ends_from s.layout (length s.stream) k)

pub tallied_by : (core after : ClientCore) (tile k : ℕ) (old d t : Tally) (p : Parcel) (looks : ℕ) → after.tallies.items ≡ slice_set core.tallies.items k t → k ≡ tile
    → tile < length core.tallies.items → old ≡ get_or core.tallies.items k d → looks_of core tile p ≡ looks → t ≡ tally_after old p looks → IsTallied core after tile p
unfolding tally_in
tallied_by core after tile k old d t p looks now same lt was cost counts = record {
  counted =
      ap (λ (xs : List Tally). get_or xs tile no_tally) now
      ∙ ap (λ (j : ℕ). get_or (slice_set core.tallies.items j t) tile no_tally) same
      ∙ get_or-set_same core.tallies.items tile t no_tally lt ∙ counts
      ∙ (λ i. tally_after ((was ∙ ap (λ (j : ℕ). get_or core.tallies.items j d) same ∙ get_or_default core.tallies.items tile d no_tally lt) i) p (sym cost i));
  others = λ other ne.
      ap (λ (xs : List Tally). get_or xs other no_tally) now
      ∙ ap (λ (j : ℕ). get_or (slice_set core.tallies.items j t) other no_tally) same
      ∙ get_or-set_other core.tallies.items tile other t no_tally ne;
}

pub for_tile : (core : ClientCore) (tile : ℕ) (p : Parcel) (looks : ℕ) → core.ready ≡ Some (item.Parcel tile p looks) → tile < tile_count core.sender.layout
for_tile core tile p looks was =
    let r : IfSome (Some (item.Parcel tile p looks)) (IsForTile core.sender.count) = subst (λ (o : Option Item). IfSome o (IsForTile core.sender.count)) was (sound core).fits in
    let e = core.count in
    subst (λ (n : ℕ). tile < n) e r

-- what isn't issued by a short core is fixed by the item that waits
pub pinned : (short : Bool) (issued up_to : ℕ) → (short ≡ false → issued ≡ up_to) → issued ≡ cond short issued up_to
pinned true issued up_to h = refl
pinned false issued up_to h = h refl

pub on_err : {A E : Type 0} (r : Result A E) (P : Type 0) → P → OnErr r P
on_err (Ok a) P p = tt
on_err (Err e) P p = p

pub err_map : {A E : Type 0} (r : Result A E) (P Q : Type 0) → (P → Q) → OnErr r P → OnErr r Q
err_map (Ok a) P Q f p = tt
err_map (Err e) P Q f p = f p

pub none_map : {A : Type 0} (o : Option A) (P Q : Type 0) → (P → Q) → IfNone o P → IfNone o Q
none_map None P Q f p = f p
none_map (Some x) P Q f p = tt

-- the next item of a client that has issued more, but has the same left to give, is the next one of the client
pub next_item : (s t now : Sender) (r : Result (Option Item) OutOfMemory) → IsSame s t → left_of t ≡ left_of s
    → IfOk r (λ o. IsNextItem t o now) → IfOk r (λ o. IsNextItem s o now)
next_item s t now (Ok o) same left h = record {
  sending = h.sending;
  left = sym left ∙ h.left;
  all = h.all;
  tile = subst (λ (n : ℕ). IfSome o (IsForTile n)) same.count h.tile;
  looked = let P : Sender → Type 0 = λ q. IfSome o (HasLooks (scene_of q) q.layout) in
      subst P (λ i. record t { decl = same.decl i; stream = same.stream i; layout = same.layout i }) h.looked;
  next = subst (λ (xs : List Command). IfSome o (IsOfLast (length xs) now.issued)) same.stream h.next;
}
next_item s t now (Err e) same left h = tt
