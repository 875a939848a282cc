-- With what lazy state sets, a parcel draws as its command does in its client's own context.
use Rattle.std.proofs.Common.{◌≡◌, ℕ, zero, suc, ◌+◌, ◌<◌, ◌==◌, Bool, true, false, [], ◌∷◌, ◌++◌, take, Some, None, slice_get, inl, inr, refl, sym, ap, ◌∙◌, subst, arith, true≢false, fold, ℤ, eq-eqb, ltb-true}
use Rattle.std.specs.Prelude.{if◌then◌else◌, nat_lt, nat_le}
use Rattle.std.specs.declared.option.Option.{Option}
use Rattle.std.proofs.lemmas.Bool.{cases_Bool, and_parts}
use Rattle.rc_base.specs.Lists.{IsIn}
use Rattle.rc_base.specs.Pictures.{Picture}
use Rattle.rc_base.specs.Contexts.Context.{ClientContext, private_image, private_count}
use Rattle.rc_base.specs.Contexts.Elements.{value_in, image_element, scalar_count, same_value}
use Rattle.rc_base.specs.Contexts.Issue.{context_after}
use Rattle.rc_base.specs.Drawing.PixelStep.{effect_step, block_step, clear_step}
use Rattle.rc_base.specs.Drawing.Serial.{stored, pixel_step, textures_step}
use Rattle.rc_base.specs.Drawing.Texel.{shared_picture, sampled, bound_kind, bound_name}
use Rattle.rc_base.specs.Cluster.Parcels.{told_by, told, sets_for, sampled_images, effect_by, parcels_at, parcels_before, parcels_of}
use Rattle.rc_base.specs.declared.scene.Scene.{Scene}
use Rattle.rc_base.specs.declared.state.Act.{Act}
use Rattle.rc_base.specs.declared.state.Act.TheVariants as act
use Rattle.rc_base.specs.declared.state.ElementValue.{ElementValue}
use Rattle.rc_base.specs.declared.state.Parcel.{Parcel}
use Rattle.rc_base.specs.declared.state.State.{State}
use Rattle.rc_base.specs.declared.window.Layout.{Layout}
use Rattle.rc_base.specs.declared.window.Pixel.{Pixel}
use Rattle.order_model.specs.Board.{Kept, IsKeptOf, picture_in}
use Rattle.gl_context.specs.Valid.{IsValidContext}
use Rattle.gl_context.proofs.ValidContexts.{valid}
use Rattle.tile_model.specs.Acts.{is_draw, is_drawing, is_work}
use Rattle.tile_model.specs.Scenes.{IsInRange}
use Rattle.tile_model.specs.Lazy.{DrawsAlike}
use Rattle.element_table.proofs.SameValues.{same_is, scalar_value, value_is_scalar, state_is}
use Rattle.tile_model.proofs.ValuesTellImages.{picture_of_value, same_value_images, none_before}
use Rattle.tile_model.proofs.NextInLists.{next_is, take_more}
use Rattle.tile_model.proofs.ParcelsComeFromCommands.{sets_by, command_makes, command_of}
use Rattle.tile_model.proofs.ParcelsTellValues.{examined_told, scalar_examined, sampled_examined, parcel_told, parcel_was_told, was_told}

-- ---- what a parcel leaves told

-- of a scalar element the present value
scalar_by : (values : ℕ → ElementValue) (x : ClientContext) (draws : Bool) (e : ℕ) → e < scalar_count → fold (told_by e) (values e) (sets_for values x draws) ≡ value_in x e
scalar_by values x draws e low = elim (examined_told values x draws e (scalar_examined x draws e low)) [
  | inl now ↦ now
  | inr same ↦ same.0 ∙ same_is (values e) (value_in x e) (value_is_scalar x e low) same.1
]

scalar_told : (values : ℕ → ElementValue) (x : ClientContext) (a : Act) (e : ℕ) → is_drawing a ≡ true → e < scalar_count → fold (told_by e) (values e) (sets_by values x a) ≡ value_in x e
scalar_told values x (act.Draw b) e draws low = scalar_by values x true e low
scalar_told values x (act.Clear m) e draws low = scalar_by values x false e low
scalar_told values x (act.Shared p) e draws low = absurd (true≢false (sym draws))
scalar_told values x (act.Sync op) e draws low = absurd (true≢false (sym draws))
scalar_told values x act.End e draws low = absurd (true≢false (sym draws))

draw_sets : (values : ℕ → ElementValue) (x : ClientContext) (a : Act) → is_draw a ≡ true → sets_by values x a ≡ sets_for values x true
draw_sets values x (act.Draw b) draws = refl
draw_sets values x (act.Clear m) draws = absurd (true≢false (sym draws))
draw_sets values x (act.Shared p) draws = absurd (true≢false (sym draws))
draw_sets values x (act.Sync op) draws = absurd (true≢false (sym draws))
draw_sets values x act.End draws = absurd (true≢false (sym draws))

is_sampled : (x : ClientContext) (p : Picture) → x.state.texture_on ≡ true → (bound_kind x.state == 0) ≡ true → private_image x (bound_name x.state) ≡ Some p
    → IsIn (image_element (bound_name x.state)) (sampled_images x)
is_sampled x p on private is = rw (on, private, is) (inl refl)

-- of the private texture that a draw samples its image
image_told : (scene : Scene) (l : Layout) (client tile : ℕ) (p : Parcel) → parcels_at scene l client tile p.place (parcels_before scene l client tile p.place) ≡ p ∷ [] → is_draw p.act ≡ true
    → let x = context_after scene client p.place in
    x.state.texture_on ≡ true → (bound_kind x.state == 0) ≡ true → 0 < bound_name x.state → (o : Option Picture) → private_image x (bound_name x.state) ≡ o
    → picture_in (told scene.decl (parcels_before scene l client tile p.place ++ p ∷ []) (image_element (bound_name x.state))) ≡ o
image_told scene l client tile p made draws on private low None is =
    let x = context_after scene client p.place in
    let name = bound_name x.state in
    let earlier = parcels_before scene l client tile p.place in
    let w = parcel_was_told scene l client tile p.place (image_element name) earlier p made (was_told scene l client tile p.place (image_element name)) in
    ap picture_in w.2 ∙ picture_of_value scene client w.0 name low ∙ none_before scene client w.0 p.place name w.1 is
image_told scene l client tile p made draws on private low (Some q) is =
    let x = context_after scene client p.place in
    let name = bound_name x.state in
    let e = image_element name in
    let earlier = parcels_before scene l client tile p.place in
    let values = told scene.decl earlier in
    let whole = parcel_told scene l client tile p.place e earlier p made ∙ ap (fold (told_by e) (values e)) (draw_sets values x p.act draws) in
    ap picture_in whole ∙ elim (examined_told values x true e (sampled_examined x e (is_sampled x q on private is))) [
      | inl now ↦ ap picture_in now ∙ picture_of_value scene client p.place name low ∙ is
      | inr same ↦
          let w = was_told scene l client tile p.place e in
          ap picture_in (same.0 ∙ w.2) ∙ picture_of_value scene client w.0 name low
          ∙ same_value_images scene client w.0 p.place name low (subst (λ v. same_value v (value_in x e) ≡ true) w.2 same.1) ∙ is
    ]

-- ---- the picture that is sampled

-- a texture that isn't shared is private
kind_is : (decl : _) (x : ClientContext) → IsValidContext decl x → (bound_kind x.state == 1) ≡ false → (bound_kind x.state == 0) ≡ true
kind_is decl x h f =
    let low : bound_kind x.state < 2 = ltb-true (bound_kind x.state) 2 (and_parts (nat_lt (bound_kind x.state) 2) true h.codes.binding).0 in
    elim (cases_Bool (bound_kind x.state == 0)) [
      | inl t ↦ t
      | inr g ↦
          let one : bound_kind x.state ≡ 1 = let n = neither (bound_kind x.state) g in omega arith in
          absurd (true≢false (sym (eq-eqb (bound_kind x.state) 1 one) ∙ f))
    ]
  where
    neither : (k : ℕ) → (k == 0) ≡ false → 0 < k
    neither zero e = absurd (true≢false e)
    neither (suc k) e = omega arith

name_low : (decl : _) (x : ClientContext) → IsValidContext decl x → 0 < bound_name x.state
name_low decl x h = ltb-true 0 (bound_name x.state) (and_parts (nat_lt 0 (bound_name x.state)) (nat_le (bound_name x.state) (if bound_kind x.state == 0 then private_count else _)) h.bound).0

same_sampled : (s : State) (f g : ℕ → Option Picture) (shareds : ℕ → Picture) → (s.texture_on ≡ true → (bound_kind s == 1) ≡ false → f (bound_name s) ≡ g (bound_name s))
    → sampled s f shareds ≡ sampled s g shareds
same_sampled s f g shareds h = elim (cases_Bool s.texture_on) [
  | inl on ↦ elim (cases_Bool (bound_kind s == 1)) [ inl t ↦ rw (on, t) refl | inr k ↦ rw (on, k) (h on k) ]
  | inr off ↦ rw off refl
]

-- ---- what the parcel does

pixel_by : (a : Act) (s t : State) (f g : ℕ → Option Picture) (shareds : ℕ → Picture) (x y : ℤ) (old : Pixel) → (is_drawing a ≡ true → s ≡ t)
    → (is_draw a ≡ true → sampled s f shareds ≡ sampled t g shareds) → effect_step s f shareds (effect_by a) x y old ≡ effect_step t g shareds (effect_by a) x y old
pixel_by (act.Draw b) s t f g shareds x y old state picture = ap (λ st. block_step st (sampled s f shareds) b x y old) (state refl) ∙ ap (λ pic. block_step t pic b x y old) (picture refl)
pixel_by (act.Clear m) s t f g shareds x y old state picture = ap (λ st. clear_step st m x y old) (state refl)
pixel_by (act.Shared p) s t f g shareds x y old state picture = refl
pixel_by (act.Sync op) s t f g shareds x y old state picture = refl
pixel_by act.End s t f g shareds x y old state picture = refl

draw_is_drawing : (a : Act) → is_draw a ≡ true → is_drawing a ≡ true
draw_is_drawing (act.Draw b) d = refl
draw_is_drawing (act.Clear m) d = refl
draw_is_drawing (act.Shared p) d = d
draw_is_drawing (act.Sync op) d = d
draw_is_drawing act.End d = d

pub lazy_draws : (scene : Scene) (l : Layout) (client tile count : ℕ) (p : Parcel) (k : Kept) → IsInRange scene → slice_get (parcels_of scene l client tile) count ≡ Some p → is_work p.act ≡ true
    → IsKeptOf scene l client tile (count + 1) k → DrawsAlike scene client p k
unfolding pixel_step textures_step
lazy_draws scene l client tile count p k range is work kept =
    let x = context_after scene client p.place in
    let h = valid scene range client p.place in
    let all = parcels_of scene l client tile in
    let earlier = parcels_before scene l client tile p.place in
    let c = command_of scene l client tile count p is work in
    let made = command_makes scene l client tile p.place earlier p c.made in
    let next = next_is all count p is in
    let fed : take (count + 1) all ≡ earlier ++ p ∷ [] = take_more count all p next.0 next.1 ∙ ap (λ ps. ps ++ p ∷ []) c.before in
    let state : is_drawing p.act ≡ true → k.state ≡ x.state = λ draws. state_is k.state x.state (λ e low.
    kept.values e low ∙ ap (λ ps. told scene.decl ps e) fed ∙ parcel_told scene l client tile p.place e earlier p c.made
    ∙ scalar_told (told scene.decl earlier) x p.act e draws low ∙ scalar_value x e low) in
    let image : is_draw p.act ≡ true → x.state.texture_on ≡ true → (bound_kind x.state == 1) ≡ false → k.image (bound_name x.state) ≡ private_image x (bound_name x.state) = λ draws on other.
    let name = bound_name x.state in
    let low = name_low scene.decl x h in
    kept.images name low ∙ ap (λ ps. picture_in (told scene.decl ps (image_element name))) fed
    ∙ image_told scene l client tile p c.made draws on (kind_is scene.decl x h other) low (private_image x name) refl in
    let picture : is_draw p.act ≡ true → (shareds : ℕ → Picture) → sampled k.state k.image shareds ≡ sampled x.state (private_image x) shareds = λ draws shareds.
    ap (λ s. sampled s k.image shareds) (state (draw_is_drawing p.act draws)) ∙ same_sampled x.state k.image (private_image x) shareds (image draws) in
    record {
      state = state;
      picture = picture;
      pixel = λ shared px py old.
          pixel_by p.act k.state x.state k.image (private_image x) (shared_picture scene.decl.shared shared) px py old state (λ draws. picture draws (shared_picture scene.decl.shared shared))
          ∙ ap (λ e. effect_step x.state (private_image x) (shared_picture scene.decl.shared shared) e px py old) made.act;
      shared = λ shared. ap (λ e. stored scene.decl.shared e shared) made.act;
    }
