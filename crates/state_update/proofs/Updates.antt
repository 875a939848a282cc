-- A tracker before and after one parcel.
use Rattle.std.proofs.Common.{◌≡◌, ℕ, zero, suc, ◌+◌, ◌<◌, ◌≤◌, ◌==◌, ◌&&◌, not, Bool, true, false, inl, inr, eqb-true, ap₂, List, [], ◌∷◌, length, Some, None, refl, sym, ap, subst, ◌∙◌, arith}
use Rattle.std.specs.List.{list_any}
use Rattle.std.specs.Option.{option_map_or}
use Rattle.std.proofs.Math.Bool.{and-true}
use Rattle.std.proofs.lemmas.Bool.{and_parts, ltb-true, or_cases}
use Rattle.std.specs.Prelude.{◌≢◌, if◌then◌else◌, is_some, nat_eq, nat_lt, slice_get, slice_set, slice_index_or}
use Rattle.std.specs.declared.option.Option.{Option}
use Rattle.rc_base.specs.Contexts.Context.{ClientContext, private_count, private_image}
use Rattle.rc_base.specs.Contexts.Elements.{element_count, group_sizes, image_element, scalar_count}
use Rattle.rc_base.specs.Cluster.Looks.{looks_for, sizes_with}
use Rattle.rc_base.specs.Cluster.Parcels.{examined, sets_for}
use Rattle.dirty_bits.specs.Bits.{is_any_dirty, is_dirty}
use Rattle.dirty_bits.proofs.Ranges.{none_at}
use Rattle.rc_base.specs.Drawing.Texel.{bound_kind, bound_name}
use Rattle.rc_base.specs.declared.state.ElementValue.{ElementValue}
use Rattle.textures.proofs.Names.{other_name, same_name}
use Rattle.state_update.specs.declared.told.Told.{Told}
use Rattle.state_update.specs.Knowledge.{CleanElementsAreNotSet, HasBoundTexture, IsPrivateName, IsSettled, Knows, Tracked, after_sets, element_sets, image_examined, is_examined, looks_from, pending, sets_by, told_after}
use Rattle.state_update.proofs.InTurn.{nothing_of}
use Rattle.state_update.proofs.Knowing.{sets_are}
use Rattle.state_update.proofs.Clearing.{looks_all}
use Rattle.state_update.proofs.ByElements.{agrees_with_itself, clean_elements, examined_are, is_there_now, sets_by_elements, values_told}
use Rattle.state_update.proofs.Telling.{agrees_after}

-- what is read at a place is what stands there
read_is : {A : Type 0} (l : List A) (i : ℕ) (now t : A) → slice_get l i ≡ Some t → now ≡ slice_index_or l i now → now ≡ t
read_is [] i now t is read = absurd cc
read_is (a ∷ l) zero now t is read = let same : a ≡ t = cc in read ∙ same
read_is (a ∷ l) (suc i) now t is read = read_is l i now t is read

-- ---- what is examined

named_by : (kind n name : ℕ) (a b d : Bool) → (kind ≡ 0 → (0 < n) × (n ≤ private_count)) → (if ((a && b) && kind == 0) && d then Some n else None) ≡ Some name
    → (0 < name) × (name ≤ private_count)
named_by kind n name a b d bound is = by ((a && b) && kind == 0) d refl is
  where
    same : (c : Bool) → (if c then Some n else None) ≡ Some name → n ≡ name
    same true is = cc
    same false is = absurd cc

    by : (c d : Bool) → ((a && b) && kind == 0) ≡ c → (if c && d then Some n else None) ≡ Some name → (0 < name) × (name ≤ private_count)
    by true true tests is =
        subst (λ (k : ℕ). (0 < k) × (k ≤ private_count)) (same true is) (bound (eqb-true kind 0 (and_parts (a && b) (kind == 0) tests).1))
    by true false tests is = absurd cc
    by false d tests is = absurd cc

-- the image that is examined is one that exists
pub named : (x : ClientContext) (draws : Bool) → HasBoundTexture x → (name : ℕ) → image_examined x draws ≡ Some name → (0 < name) × (name ≤ private_count)
named x draws bound name is = named_by (bound_kind x.state) (bound_name x.state) name draws x.state.texture_on (is_some (private_image x (bound_name x.state))) bound is

pub is_named : (x : ClientContext) (draws : Bool) (image : Option ℕ) → HasBoundTexture x → image ≡ image_examined x draws → IsPrivateName image
is_named x draws None bound is = tt
is_named x draws (Some name) bound is = named x draws bound name (sym is)

examined_within : (image : Option ℕ) (e : ℕ) → IsPrivateName image → is_examined image e ≡ true → e < element_count
examined_within image e private is = elim (or_cases (nat_lt e scalar_count) _ is) [
  | inl scalar ↦ (let lt = ltb-true e scalar_count scalar in omega (arith, lt))
  | inr other ↦ by image private other
]
  where
    by : (image : Option ℕ) → IsPrivateName image → option_map_or (λ (name : ℕ). e == image_element name) image false ≡ true → e < element_count
    by None private is = absurd cc
    by (Some name) private is = let same = eqb-true e (image_element name) is in omega (arith, same, private.0, private.1)

-- ---- where nothing is pending

-- nothing is told
pub none_pending : (tracker : Tracked) (tile : ℕ) (x : ClientContext) (draws : Bool) → HasBoundTexture x → IsSettled tracker tile x
    → is_any_dirty tracker.bits tile ≡ false → (values : ℕ → ElementValue) → Knows tracker tile values → sets_for values x draws ≡ []
none_pending tracker tile x draws bound settled none values k =
    sym (sets_are k.kept values x draws k.agrees (named x draws bound))
    ∙ sets_by_elements k.kept x (image_examined x draws) (is_named x draws (image_examined x draws) bound refl)
    ∙ nothing_of (element_sets k.kept x (image_examined x draws)) 0 element_count
    (λ e from to.
    clean_elements tracker.bits tile x draws values k.kept k.agrees (named x draws bound) (settled values k) e (omega (arith, to))
    (none_at (λ e. is_dirty tracker.bits e tile) 0 element_count e none from to))

-- and nothing less is pending afterwards
pub still_none : (tracker : Tracked) (tile : ℕ) (x : ClientContext) (draws : Bool) → HasBoundTexture x → is_any_dirty tracker.bits tile ≡ false
    → (t e : ℕ) → pending tracker t e ≡ (pending tracker t e && not (t == tile && list_any (nat_eq e) (examined x draws)))
still_none tracker tile x draws bound none t e = by (t == tile) (list_any (nat_eq e) (examined x draws)) refl refl
  where
    by : (a b : Bool) → (t == tile) ≡ a → list_any (nat_eq e) (examined x draws) ≡ b → pending tracker t e ≡ (pending tracker t e && not (a && b))
    by false b other any = sym (and-true (pending tracker t e))
    by true false same not_examined = sym (and-true (pending tracker t e))
    by true true same is =
        let lt = examined_within (image_examined x draws) e (is_named x draws (image_examined x draws) bound refl) (examined_are x draws e ∙ is) in
        let off : pending tracker t e ≡ false =
        ap (λ (k : ℕ). is_dirty tracker.bits e k) (eqb-true t tile same) ∙ none_at (λ e. is_dirty tracker.bits e tile) 0 element_count e none (omega arith) (omega (arith, lt)) in
        off ∙ sym (ap (λ b. b && false) off)

-- ---- where something is

-- what an update examines of a context, and what it reads of the tracker
pub record IsRead (tracker : Tracked) (tile : ℕ) (x : ClientContext) (draws : Bool) (image : Option ℕ) (now : Told) : Type 0 where
  pub room : tile < length tracker.told
  pub bound : HasBoundTexture x
  pub examined : image ≡ image_examined x draws
  pub reads : now ≡ slice_index_or tracker.told tile now

-- the code's own view of the tracker, and its own number of the tile
pub read_of : (tracker view : Tracked) (tile k : ℕ) (x : ClientContext) (draws : Bool) (image : Option ℕ) (now : Told)
    → tile < length tracker.told → HasBoundTexture x → image ≡ image_examined x draws → view ≡ tracker → k ≡ tile → now ≡ slice_index_or view.told k now
    → IsRead tracker tile x draws image now
read_of tracker view tile k x draws image now room bound examined same at reads = record {
  room = room;
  bound = bound;
  examined = examined;
  reads = reads ∙ ap₂ (λ (t : Tracked) (j : ℕ). slice_index_or t.told j now) same at;
}

pub view_of : (tracker view : Tracked) (tile k : ℕ) (new : Told) (bits : List ℕ) → view ≡ tracker → k ≡ tile
    → ◌≡◌ {A = Tracked} (record { told = slice_set tracker.told tile new; bits = bits }) (record { told = slice_set view.told k new; bits = bits })
view_of tracker view tile k new bits same at = ap₂ (λ (t : Tracked) (j : ℕ). record { told = slice_set t.told j new; bits = bits }) (sym same) (sym at)

module _ (tracker : Tracked) (tile : ℕ) (x : ClientContext) (draws : Bool) (image : Option ℕ) (now : Told) (read : IsRead tracker tile x draws image now) where
  is_kept : (values : ℕ → ElementValue) → (k : Knows tracker tile values) → now ≡ k.kept
  is_kept values k = read_is tracker.told tile now k.kept k.is read.reads

  pub sets_known : (values : ℕ → ElementValue) → Knows tracker tile values → sets_by now x image ≡ sets_for values x draws
  sets_known values k =
      ap (λ (t : Told). sets_by t x image) (is_kept values k)
      ∙ ap (sets_by k.kept x) read.examined
      ∙ sets_are k.kept values x draws k.agrees (named x draws read.bound)

  pub knows_next : (values : ℕ → ElementValue) → Knows tracker tile values → (new : Told) (bits : List ℕ) → new ≡ told_after now x image
      → Knows (record { told = slice_set tracker.told tile new; bits = bits }) tile (after_sets values (sets_for values x draws))
  knows_next values k new bits is =
      let e : new ≡ told_after k.kept x (image_examined x draws) =
      is ∙ ap (λ (t : Told). told_after t x image) (is_kept values k) ∙ ap (told_after k.kept x) read.examined in
      record {
        kept = told_after k.kept x (image_examined x draws);
        is = same_name tracker.told tile new read.room ∙ ap (λ (t : Told). Some t) e;
        agrees = agrees_after values x k.kept draws k.agrees (named x draws read.bound);
      }

  -- elements that are clean needn't be told
  pub clean : IsSettled tracker tile x → length now.edits ≡ private_count → CleanElementsAreNotSet tracker.bits tile now x image
  clean settled count =
      let known : Knows tracker tile (values_told now) =
      record { kept = now; is = is_there_now tracker.told tile now read.room read.reads; agrees = agrees_with_itself now count } in
      subst (CleanElementsAreNotSet tracker.bits tile now x) (sym read.examined)
      (clean_elements tracker.bits tile x draws (values_told now) now known.agrees (named x draws read.bound) (settled (values_told now) known))

pub knows_still : (tracker : Tracked) (tile other : ℕ) (values : ℕ → ElementValue) (new : Told) (bits : List ℕ) → other ≢ tile → Knows tracker other values
    → Knows (record { told = slice_set tracker.told tile new; bits = bits }) other values
knows_still tracker tile other values new bits ne k =
    record { kept = k.kept; is = other_name tracker.told (suc tile) (suc other) new (λ same. ne (let e : other ≡ tile = cc in e)) ∙ k.is; agrees = k.agrees }

-- the looks, where something is pending
pub looks_of_some : (tracker : Tracked) (tile : ℕ) → is_any_dirty tracker.bits tile ≡ true → looks_for (pending tracker tile) ≡ 1 + length group_sizes + looks_from tracker.bits tile 0
looks_of_some tracker tile some =
    ap (λ (b : Bool). if b then 1 + length group_sizes + sizes_with (pending tracker tile) 0 group_sizes else 1) some
    ∙ ap (λ (n : ℕ). 1 + length group_sizes + n) (sym (looks_all tracker.bits tile))
