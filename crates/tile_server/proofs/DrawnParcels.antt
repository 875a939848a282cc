-- What is kept of a client is such that its parcels can be carried out, and doing so leaves the board that they ask for.
use Rattle.std.proofs.Common.{◌≡◌, ℕ, zero, suc, ◌+◌, ◌*◌, ◌<◌, ◌≤◌, ◌==◌, ◌&&◌, Bool, true, false, List, [], ◌∷◌, length, Some, None, refl, sym, ap, ◌∙◌, subst, arith, inl, inr, ◌⊎◌, eqb-true, eq-eqb, ne_eqb, ltb-true, leb-true, ℤ, pos, ◌≤ℤ◌, get_or, true≢false}
use Rattle.std.specs.Prelude.{nat_le, nat_lt, slice_get, slice_index, slice_set, if◌then◌else◌, unwrap_or}
use Rattle.std.specs.List.{list_all}
use Rattle.std.specs.Option.{option_map_or}
use Rattle.std.specs.declared.option.Option.{Option}
use Rattle.std.proofs.lemmas.Bool.{and_parts, cases_Bool, cases_eq, cases_lt}
use Rattle.std.proofs.lemmas.Int.{ints}
use Rattle.std.proofs.lemmas.Option.{slice_get_past, slice_get_read, slice_get_within}
use Rattle.std.proofs.lemmas.List.{get_or-set_same}
use Rattle.rc_base.specs.Pictures.{Picture, with_part}
use Rattle.rc_base.specs.Lists.{at_name}
use Rattle.rc_base.specs.Contexts.Context.{private_count, shared_sides}
use Rattle.rc_base.specs.Contexts.Faults.{is_name, lies_inside}
use Rattle.rc_base.specs.Cluster.Parcels.{effect_by}
use Rattle.rc_base.specs.Drawing.PixelStep.{effect_step, block_step}
use Rattle.rc_base.specs.Drawing.Serial.{stored}
use Rattle.rc_base.specs.Drawing.Texel.{SharedTexels, shared_picture, sampled, bound_kind, bound_name}
use Rattle.rc_base.specs.Formats.Commands.{has_codes}
use Rattle.rc_base.specs.declared.command.Command.TheVariants as cmd
use Rattle.rc_base.specs.declared.command.Part.{Part}
use Rattle.rc_base.specs.declared.scene.Decl.{Decl}
use Rattle.rc_base.specs.declared.state.Act.{Act}
use Rattle.rc_base.specs.declared.state.Act.TheVariants as act
use Rattle.rc_base.specs.declared.state.Effect.{Effect}
use Rattle.rc_base.specs.declared.state.Effect.TheVariants as eff
use Rattle.rc_base.specs.declared.window.Pixel.{Pixel}
use Rattle.rc_base.specs.Contexts.Context.{default_state}
use Rattle.rc_base.specs.declared.state.Parcel.{Parcel}
use Rattle.rc_base.specs.declared.window.Layout.{Layout}
use Rattle.draw_device.specs.Stored.{IsStorable, set_after}
use Rattle.draw_device.specs.Conditions.{IsClearable, shared_of}
use Rattle.draw_device.specs.Devices.{DeviceView, EachTakes, pixel_of}
use Rattle.textures.specs.Images.{HasTexelIfAny, texture_image, with_texture_part}
use Rattle.textures.specs.Stores.{HasTexels, WrittenPartsAreStored}
use Rattle.order_model.specs.Board.{Kept, Board}
use Rattle.tile_model.specs.Boards.{HasSets, IsCarriedOut}
use Rattle.element_table.specs.Values.{has_sides, is_binding, is_depth}
use Rattle.tile_model.specs.Givable.{is_givable, is_givable_act, is_shared_part}
use Rattle.tile_server.specs.Kepts.{kept_of, AreFit, IsFit, is_set_value}
use Rattle.tile_server.specs.Works.{IsRectOf, texels_in}
use Rattle.tile_server.specs.declared.kept.KeptClient.{KeptClient}

-- ---- a set of shared textures, and its texels

pub past_name : {A : Type 0} (xs : List A) (name : ℕ) → (0 < name → name ≤ length xs → ⊥) → at_name xs name ≡ None
past_name xs zero beyond = refl
past_name xs (suc n) beyond = elim (cases_lt n (length xs)) [
  | inl low ↦ absurd (beyond (omega arith) (omega arith))
  | inr past ↦ slice_get_past xs n past
]

-- a name that isn't declared has no texels
none_past : (set : List (Option Picture)) (name : ℕ) → (0 < name → name ≤ length set → ⊥) → texels_in set name ≡ []
none_past set name beyond = ap (λ (o : Option (Option Picture)). (unwrap_or (unwrap_or o None) (record { w = 0; h = 0; texels = [] })).texels) (past_name set name beyond)

-- a name is declared, or it isn't
named_or_past : (n name : ℕ) → ((0 < name) × (name ≤ n)) ⊎ (0 < name → name ≤ n → ⊥)
named_or_past n zero = inr (λ low high. absurd (omega arith))
named_or_past n (suc name) = elim (cases_lt name n) [
  | inl low ↦ inl (omega arith, omega arith)
  | inr past ↦ inr (λ low high. absurd (omega arith))
]

module _ (sizes : List (List ℕ)) (texels : SharedTexels) (set : List (Option Picture)) (has : HasTexels sizes texels set) where
  texels_named : (name : ℕ) → 0 < name → name ≤ length sizes → texels_in set name ≡ texels name
  texels_named name low high = ap (λ (o : Option Picture). (unwrap_or o (record { w = 0; h = 0; texels = [] })).texels) (has.each name low high)

  -- a set's texels are all that it has
  pub own_texels : HasTexels sizes (texels_in set) set
  own_texels = record {
    count = has.count;
    whole = λ name low high. subst (λ (t : List ℕ). length t ≡ 4 * (slice_index (shared_sides sizes name) 0 * slice_index (shared_sides sizes name) 1)) (sym (texels_named name low high)) (has.whole name low high);
    each = λ name low high.
        has.each name low high
        ∙ ap (λ (t : List ℕ). Some (record { w = slice_index (shared_sides sizes name) 0; h = slice_index (shared_sides sizes name) 1; texels = t })) (sym (texels_named name low high));
  }

  pub same_texels : ((name : ℕ) → (0 < name → name ≤ length sizes → ⊥) → texels name ≡ []) → (name : ℕ) → texels_in set name ≡ texels name
  same_texels past name = elim (named_or_past (length sizes) name) [
    | inl named ↦ texels_named name named.0 named.1
    | inr beyond ↦ none_past set name (subst (λ (n : ℕ). 0 < name → name ≤ n → ⊥) (sym has.count) beyond) ∙ sym (past name beyond)
  ]

-- ---- what is kept is fit to draw with

pub clearable : (d : Decl) (k : Kept) → IsFit d k → IsClearable k.state
clearable d k fit = record { low = low_is k.state.clear_depth fit.depth; high = high_is k.state.clear_depth fit.depth }
  where
    low_is : (z : ℤ) → is_depth z ≡ true → pos 0 ≤ℤ z
    low_is z h = grind (arith, ints)

    high_is : (z : ℤ) → is_depth z ≡ true → z ≤ℤ pos 65536
    high_is z h = grind (arith, ints)

-- a bound texture: a declared one with texels, or a private one
shared_bound : (d : Decl) (kind name : ℕ) → is_binding d kind name ≡ true → (kind == 1) ≡ true → (is_name name (length d.shared) ≡ true) × (has_sides d name ≡ true)
shared_bound d kind name is one =
    let both = and_parts (has_codes (cmd.BindTexture kind name)) (if kind == 0 then is_name name private_count else is_name name (length d.shared) && has_sides d name) is in
    let named : (is_name name (length d.shared) && has_sides d name) ≡ true =
    subst (λ (k : ℕ). (if k == 0 then is_name name private_count else is_name name (length d.shared) && has_sides d name) ≡ true) (eqb-true kind 1 one) both.1 in
    and_parts (is_name name (length d.shared)) (has_sides d name) named

private_bound : (d : Decl) (kind name : ℕ) → is_binding d kind name ≡ true → (kind == 1) ≡ false → 0 < name
private_bound d kind name is other =
    let both = and_parts (has_codes (cmd.BindTexture kind name)) (if kind == 0 then is_name name private_count else is_name name (length d.shared) && has_sides d name) is in
    let code : kind < 2 = ltb-true kind 2 (and_parts (nat_lt kind 2) true both.0).0 in
    let none : kind ≡ 0 = elim (cases_eq kind 1) [ inl one ↦ absurd (true≢false (sym (eq-eqb kind 1 one) ∙ other)) | inr ne ↦ by kind code ne ] in
    let named : is_name name private_count ≡ true =
    subst (λ (k : ℕ). (if k == 0 then is_name name private_count else is_name name (length d.shared) && has_sides d name) ≡ true) none both.1 in
    ltb-true 0 name (and_parts (nat_lt 0 name) (nat_le name private_count) named).0
  where
    by : (k : ℕ) → k < 2 → (k ≡ 1 → ⊥) → k ≡ 0
    by zero low ne = refl
    by (suc zero) low ne = absurd (ne refl)
    by (suc (suc k)) low ne = absurd (omega arith)

name_bounds : (name n : ℕ) → is_name name n ≡ true → (0 < name) × (name ≤ n)
name_bounds name n h = let both = and_parts (nat_lt 0 name) (nat_le name n) h in (ltb-true 0 name both.0, leb-true name n both.1)

module _ (d : Decl) (k : Kept) (set : List (Option Picture)) (fit : IsFit d k) (has : HasTexels d.shared (texels_in set) set) where
  abbrev kind : ℕ
  kind = bound_kind k.state

  abbrev bound : ℕ
  bound = bound_name k.state

  shared_is : (kind == 1) ≡ true → shared_of set bound ≡ shared_picture d.shared (texels_in set) bound
  shared_is one =
      let named = name_bounds bound (length d.shared) (shared_bound d kind bound fit.binding one).0 in
      ap (λ (o : Option Picture). unwrap_or o (record { w = 0; h = 0; texels = [] })) (has.each bound named.0 named.1)

  sampled_is : sampled k.state k.image (shared_of set) ≡ sampled k.state k.image (shared_picture d.shared (texels_in set))
  sampled_is = elim (cases_Bool (kind == 1)) [
    | inl t ↦ rw t (ap (λ (p : Picture). if k.state.texture_on then Some p else None) (shared_is t))
    | inr f ↦ rw f refl
  ]

  -- an act samples of the set what it samples of its texels
  pub effect_is : (e : Effect) (x y : ℤ) (old : Pixel)
      → effect_step k.state k.image (shared_of set) e x y old ≡ effect_step k.state k.image (shared_picture d.shared (texels_in set)) e x y old
  effect_is (eff.Block block) x y old = ap (λ (p : Option Picture). block_step k.state p block x y old) sampled_is
  effect_is eff.Quiet x y old = refl
  effect_is (eff.Refused f) x y old = refl
  effect_is (eff.Clear m) x y old = refl
  effect_is (eff.Shared p) x y old = refl
  effect_is (eff.Sync o) x y old = refl

  -- and the texture that it samples has a texel
  pub texel_sampled : HasTexelIfAny (sampled k.state k.image (shared_of set))
  texel_sampled = by (cases_Bool k.state.texture_on) (cases_Bool (kind == 1))
    where
      private_texel : (o : Option Picture) → 0 < bound → k.image bound ≡ o → HasTexelIfAny o
      private_texel None some e = tt
      private_texel (Some p) some e = fit.images bound p some e

      by : (k.state.texture_on ≡ true) ⊎ (k.state.texture_on ≡ false) → ((kind == 1) ≡ true) ⊎ ((kind == 1) ≡ false)
          → HasTexelIfAny (sampled k.state k.image (shared_of set))
      by (inr off) k' = rw off tt
      by (inl on) (inr f) = rw (on, f) (private_texel (k.image bound) (private_bound d kind bound fit.binding f) refl)
      by (inl on) (inl t) =
          let sides = and_parts (nat_lt 0 (slice_index (shared_sides d.shared bound) 0)) (nat_lt 0 (slice_index (shared_sides d.shared bound) 1)) (shared_bound d kind bound fit.binding t).1 in
          let texel : HasTexelIfAny (Some (shared_picture d.shared (texels_in set) bound)) = (ltb-true 0 _ sides.0, ltb-true 0 _ sides.1) in
          rw (on, t) (subst (λ (p : Picture). HasTexelIfAny (Some p)) (sym (shared_is t)) texel)

-- ---- writing shared textures

module _ (d : Decl) (set : List (Option Picture)) (has : HasTexels d.shared (texels_in set) set) where
  part_writable : (part : Part) → is_shared_part d part ≡ true → IsStorable part set
  part_writable part is =
      let both = and_parts (is_name part.name (length d.shared) && length part.texels == 4 * (part.w * part.h)) (lies_inside part (slice_index (shared_sides d.shared part.name) 0) (slice_index (shared_sides d.shared part.name) 1)) is in
      let first = and_parts (is_name part.name (length d.shared)) (length part.texels == 4 * (part.w * part.h)) both.0 in
      let named = name_bounds part.name (length d.shared) first.0 in
      let inside = and_parts (nat_le (part.x + part.w) (slice_index (shared_sides d.shared part.name) 0)) (nat_le (part.y + part.h) (slice_index (shared_sides d.shared part.name) 1)) both.1 in
      record {
        low = named.0;
        high = subst (λ (n : ℕ). part.name ≤ n) (sym has.count) named.1;
        whole = eqb-true (length part.texels) (4 * (part.w * part.h)) first.1;
        inside = rw (has.each part.name named.0 named.1) (leb-true _ _ inside.0, leb-true _ _ inside.1);
      }

  -- the part that an act writes
  pub act_writable : (a : Act) (part : Part) → is_givable_act d a ≡ true → effect_by a ≡ eff.Shared part → IsStorable part set
  act_writable (act.Draw block) part is e = absurd cc
  act_writable (act.Clear mask) part is e = absurd cc
  act_writable (act.Shared other) part is e = let same : other ≡ part = cc in subst (λ (q : Part). IsStorable q set) same (part_writable other is)
  act_writable (act.Sync op) part is e = absurd cc
  act_writable act.End part is e = absurd cc

  module _ (stores : WrittenPartsAreStored) where
    part_stored : (part : Part) → is_shared_part d part ≡ true → HasTexels d.shared (stored d.shared (eff.Shared part) (texels_in set)) (with_texture_part set part)
    part_stored part is =
        let w = part_writable part is in
        stores d.shared (texels_in set) set part has w.low (subst (λ (n : ℕ). part.name ≤ n) has.count w.high) w.whole w.inside

    pub whole_after : (a : Act) → is_givable_act d a ≡ true → HasTexels d.shared (texels_in (set_after (effect_by a) set)) (set_after (effect_by a) set)
    whole_after (act.Draw block) is = has
    whole_after (act.Clear mask) is = has
    whole_after (act.Shared part) is = own_texels d.shared (stored d.shared (eff.Shared part) (texels_in set)) (with_texture_part set part) (part_stored part is)
    whole_after (act.Sync op) is = has
    whole_after act.End is = has

    -- a part is written into no texture that isn't declared
    past_stored : (part : Part) → is_shared_part d part ≡ true → (name : ℕ) → (0 < name → name ≤ length d.shared → ⊥) → stored d.shared (eff.Shared part) (texels_in set) name ≡ []
    past_stored part is name beyond =
        let w = part_writable part is in
        let other : part.name ≡ name → ⊥ = λ same. beyond (subst (λ (n : ℕ). 0 < n) same w.low) (subst (λ (n : ℕ). n ≤ length d.shared) same (subst (λ (n : ℕ). part.name ≤ n) has.count w.high)) in
        ap (λ (b : Bool). if b && (nat_lt 0 part.w && nat_lt 0 part.h) then (with_part (shared_picture d.shared (texels_in set) name) part).texels else texels_in set name) (ne_eqb part.name name other)
        ∙ none_past set name (subst (λ (n : ℕ). 0 < name → name ≤ n → ⊥) (sym has.count) beyond)

    pub stored_after : (a : Act) → is_givable_act d a ≡ true → (name : ℕ) → texels_in (set_after (effect_by a) set) name ≡ stored d.shared (effect_by a) (texels_in set) name
    stored_after (act.Draw block) is name = refl
    stored_after (act.Clear mask) is name = refl
    stored_after (act.Shared part) is name =
        same_texels d.shared (stored d.shared (eff.Shared part) (texels_in set)) (with_texture_part set part) (part_stored part is) (past_stored part is) name
    stored_after (act.Sync op) is name = refl
    stored_after act.End is name = refl

-- ---- one client's place in the list of all

pub set_here : {A : Type 0} (xs : List A) (i : ℕ) (v : A) → i < length xs → slice_get (slice_set xs i v) i ≡ Some v
set_here [] i v low = absurd (omega arith)
set_here (x ∷ xs) zero v low = refl
set_here (x ∷ xs) (suc i) v low = set_here xs i v (omega arith)

pub set_beside : {A : Type 0} (xs : List A) (i j : ℕ) (v : A) → (j ≡ i → ⊥) → slice_get (slice_set xs i v) j ≡ slice_get xs j
set_beside [] i j v ne = refl
set_beside (x ∷ xs) zero zero v ne = absurd (ne refl)
set_beside (x ∷ xs) zero (suc j) v ne = refl
set_beside (x ∷ xs) (suc i) zero v ne = refl
set_beside (x ∷ xs) (suc i) (suc j) v ne = set_beside xs i j v (λ e. ne (ap suc e))

found_or_set : {A : Type 0} (xs : List A) (i j : ℕ) (v x : A) → slice_get (slice_set xs i v) j ≡ Some x → (v ≡ x) ⊎ (slice_get xs j ≡ Some x)
found_or_set [] i j v x at = inr at
found_or_set (y ∷ ys) zero zero v x at = inl cc
found_or_set (y ∷ ys) zero (suc j) v x at = inr at
found_or_set (y ∷ ys) (suc i) zero v x at = inr at
found_or_set (y ∷ ys) (suc i) (suc j) v x at = found_or_set ys i j v x at

pub are_fit : (d : Decl) (kept : List KeptClient) (i : ℕ) (k : KeptClient) → AreFit d kept → IsFit d (kept_of k) → AreFit d (slice_set kept i k)
are_fit d kept i k all one = record {
  each = λ client x at. elim (found_or_set kept i client k x at) [
    | inl same ↦ subst (λ (y : KeptClient). IsFit d (kept_of y)) same one
    | inr old ↦ all.each client x old
  ];
}

-- ---- the board

abbrev pub board_with : Decl → List KeptClient → List (Option Picture) → DeviceView → Board
board_with d kept set device = record {
  kept = λ client. option_map_or kept_of (slice_get kept client) (record { state = default_state d; image = λ name. None });
  shared = texels_in set;
  pixel = pixel_of device;
}

carried_here : (d : Decl) (l : Layout) (client tile : ℕ) (parcel : Parcel) (kept : List KeptClient) (k k' : KeptClient) (set set' : List (Option Picture)) (device device' : DeviceView)
    → slice_get kept client ≡ Some k → IsRectOf l tile device.rect → HasTexels d.shared (texels_in set) set → WrittenPartsAreStored
    → is_givable_act d parcel.act ≡ true → HasSets parcel.sets (kept_of k) (kept_of k') → IsFit d (kept_of k')
    → EachTakes (effect_step k'.state (texture_image k'.images) (shared_of set) (effect_by parcel.act)) device device' → set' ≡ set_after (effect_by parcel.act) set
    → IsCarriedOut d l client tile parcel (board_with d kept set device) (board_with d (slice_set kept client k') set' device')
carried_here d l client tile parcel kept k k' set set' device device' at place has stores givable made fit drawn wrote = record {
  kept = subst (λ (o : Option KeptClient). HasSets parcel.sets (option_map_or kept_of o first) (option_map_or kept_of (slice_get (slice_set kept client k') client) first)) (sym at)
      (subst (λ (o : Option KeptClient). HasSets parcel.sets (kept_of k) (option_map_or kept_of o first)) (sym here) made);
  others = λ other ne. ap (λ (o : Option KeptClient). option_map_or kept_of o first) (set_beside kept client other k' (λ same. true≢false (sym (eq-eqb other client same) ∙ ne)));
  shared = λ name. ap (λ (v : List (Option Picture)). texels_in v name) wrote ∙ stored_after d set has stores parcel.act givable name;
  pixel = λ x y inside.
      let old = pixel_of device (pos x) (pos y) in
      drawn (pos x) (pos y) (place.pixels x y ∙ inside)
      ∙ effect_is d (kept_of k') set fit has (effect_by parcel.act) (pos x) (pos y) old
      ∙ sym (ap (λ (o : Option KeptClient). effect_step (option_map_or kept_of o first).state (option_map_or kept_of o first).image (shared_picture d.shared (texels_in set)) (effect_by parcel.act) (pos x) (pos y) old) here);
}
  where
    first : Kept
    first = record { state = default_state d; image = λ name. None }

    here : slice_get (slice_set kept client k') client ≡ Some k'
    here = set_here kept client k' (slice_get_within kept client k at)

pub carried_out : (d : Decl) (l : Layout) (client tile : ℕ) (parcel : Parcel) (kept : List KeptClient) (i : ℕ) (k k' : KeptClient) (set set' : List (Option Picture)) (device device' : DeviceView)
    → i ≡ client → slice_get kept i ≡ Some k → IsRectOf l tile device.rect → HasTexels d.shared (texels_in set) set → WrittenPartsAreStored
    → is_givable_act d parcel.act ≡ true → HasSets parcel.sets (kept_of k) (kept_of k') → IsFit d (kept_of k')
    → EachTakes (effect_step k'.state (texture_image k'.images) (shared_of set) (effect_by parcel.act)) device device' → set' ≡ set_after (effect_by parcel.act) set
    → IsCarriedOut d l client tile parcel (board_with d kept set device) (board_with d (slice_set kept i k') set' device')
carried_out d l client tile parcel kept i k k' set set' device device' same at place has stores givable made fit drawn wrote =
    subst (λ (n : ℕ). IsCarriedOut d l client tile parcel (board_with d kept set device) (board_with d (slice_set kept n k') set' device')) (sym same)
    (carried_here d l client tile parcel kept k k' set set' device device' (subst (λ (n : ℕ). slice_get kept n ≡ Some k) same at) place has stores givable made fit drawn wrote)

-- ---- a client's sets

pub kept_at : (kept : List KeptClient) (i client : ℕ) (k : KeptClient) → i ≡ client → client < length kept → k ≡ get_or kept i k → slice_get kept i ≡ Some k
kept_at kept i client k same low at = slice_get_read kept (length kept) i k refl (subst (λ (n : ℕ). n < length kept) (sym same) low) at

-- after the sets of a parcel what is kept of the client is fit
pub still_fit : (d : Decl) (parcel : Parcel) (kept : List KeptClient) (i : ℕ) (k k' : KeptClient) → is_givable d parcel ≡ true
    → slice_get kept i ≡ Some k → AreFit d kept → ((e : Decl) → list_all (is_set_value e) parcel.sets ≡ true → IsFit e (kept_of k) → IsFit e (kept_of k')) → IsFit d (kept_of k')
still_fit d parcel kept i k k' given at fit later = later d (and_parts (list_all (is_set_value d) parcel.sets) (is_givable_act d parcel.act) given).0 (fit.each i k at)

pub act_given : (d : Decl) (parcel : Parcel) → is_givable d parcel ≡ true → is_givable_act d parcel.act ≡ true
act_given d parcel given = (and_parts (list_all (is_set_value d) parcel.sets) (is_givable_act d parcel.act) given).1

pub just_set : (kept : List KeptClient) (i : ℕ) (old k x : KeptClient) → slice_get kept i ≡ Some old → x ≡ get_or (slice_set kept i k) i x → x ≡ k
just_set kept i old k x at is = is ∙ get_or-set_same kept i k x (slice_get_within kept i old at)
