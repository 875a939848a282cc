-- A new canvas is a new board, and fit to draw with.
use Rattle.std.proofs.Common.{◌≡◌, ℕ, zero, suc, ◌+◌, ◌++◌, ◌∷◌, ◌⊎◌, inl, inr, arith, length-append, ◌*◌, ◌<◌, ◌≤◌, true, List, [], length, map, replicate, Some, None, refl, sym, ap, ◌∙◌, subst, pos}
use Rattle.std.specs.Prelude.{slice_get, slice_index, unwrap_or}
use Rattle.std.specs.Option.{option_map_or}
use Rattle.std.specs.declared.option.Option.{Option}
use Rattle.rc_base.specs.Pictures.{Picture}
use Rattle.rc_base.specs.Cluster.Tiles.{tile_pixels}
use Rattle.rc_base.specs.Contexts.Context.{default_state, private_count}
use Rattle.rc_base.specs.Drawing.Serial.{blank_pixel, blank_textures}
use Rattle.rc_base.specs.declared.scene.Decl.{Decl}
use Rattle.rc_base.specs.declared.state.State.{State}
use Rattle.rc_base.specs.declared.window.Layout.{Layout}
use Rattle.draw_device.specs.Devices.{DeviceView, pixel_of}
use Rattle.order_model.specs.Board.{Kept}
use Rattle.textures.specs.Images.{blank_texture, texture_image}
use Rattle.textures.specs.Stores.{BlankTexturesHaveZeros, HasTexels}
use Rattle.tile_model.specs.Boards.{IsNewBoard}
use Rattle.element_table.specs.Values.{is_binding, is_depth}
use Rattle.tile_server.specs.Kepts.{kept_of, AreFit, IsFit}
use Rattle.tile_server.specs.Works.{AreNew, texels_in}
use Rattle.tile_server.specs.declared.kept.KeptClient.{KeptClient}
use Rattle.tile_server.proofs.DrawnParcels.{board_with, own_texels, past_name, same_texels}

-- ---- clients that sent nothing

abbrev nothing : Option Picture
nothing = None

none_in : (n i : ℕ) → unwrap_or (slice_get (replicate n nothing) i) None ≡ nothing
none_in zero i = refl
none_in (suc n) zero = refl
none_in (suc n) (suc i) = none_in n i

no_image : (n name : ℕ) → texture_image (replicate n nothing) name ≡ nothing
no_image n zero = refl
no_image n (suc name) = none_in n name

fit_first : (d : Decl) (k : KeptClient) → k.state ≡ default_state d → k.images ≡ replicate private_count None → IsFit d (kept_of k)
unfolding default_state
fit_first d k state images = record {
  images = λ name p some at.
      let none : nothing ≡ Some p = sym (ap (λ (v : List (Option Picture)). texture_image v name) images ∙ no_image private_count name) ∙ at in
      absurd cc;
  depth = ap (λ (s : State). is_depth s.clear_depth) state;
  binding = ap (λ (s : State). is_binding d (slice_index s.binding 0) (slice_index s.binding 1)) state;
}

pub fit_new : (d e : Decl) (count : ℕ) (kept : List KeptClient) → e ≡ d → AreNew (default_state d) count kept → AreFit e kept
fit_new d e count kept same new =
    subst (λ (f : Decl). AreFit f kept) (sym same) (record { each = λ client k at. fit_first d k (new.state client k at) (new.images client k at) })

module _ (d : Decl) (count : ℕ) (kept : List KeptClient) (new : AreNew (default_state d) count kept) where
  abbrev first : Kept
  first = record { state = default_state d; image = λ name. None }

  state_new : (client : ℕ) (o : Option KeptClient) → slice_get kept client ≡ o → (option_map_or kept_of o first).state ≡ default_state d
  state_new client None at = refl
  state_new client (Some k) at = new.state client k at

  image_new : (client name : ℕ) (o : Option KeptClient) → slice_get kept client ≡ o → (option_map_or kept_of o first).image name ≡ None
  image_new client name None at = refl
  image_new client name (Some k) at = ap (λ (v : List (Option Picture)). texture_image v name) (new.images client k at) ∙ no_image private_count name

-- ---- blank textures

pub whole_new : BlankTexturesHaveZeros → (d e : Decl) (set : List (Option Picture)) → e ≡ d → set ≡ map blank_texture d.shared → HasTexels e.shared (texels_in set) set
whole_new zeros d e set same is =
    subst (λ (f : Decl). HasTexels f.shared (texels_in set) set) (sym same) (subst (λ (v : List (Option Picture)). HasTexels d.shared (texels_in v) v) (sym is)
    (own_texels d.shared (blank_textures (record { decl = d; streams = [] })) (map blank_texture d.shared) (zeros (record { decl = d; streams = [] }))))

no_texels : (d : Decl) (name : ℕ) → (0 < name → name ≤ length d.shared → ⊥) → blank_textures (record { decl = d; streams = [] }) name ≡ []
no_texels d name beyond =
    ap (λ (o : Option (List ℕ)). replicate (4 * (slice_index (unwrap_or o []) 0 * slice_index (unwrap_or o []) 1)) 0) (past_name d.shared name beyond)

pub new_board : BlankTexturesHaveZeros → (d e : Decl) (l : Layout) (tile count : ℕ) (kept : List KeptClient) (set : List (Option Picture)) (device : DeviceView)
    → e ≡ d → AreNew (default_state d) count kept → set ≡ map blank_texture d.shared → ((x y : ℕ) → tile_pixels l tile x y ≡ true → pixel_of device (pos x) (pos y) ≡ blank_pixel)
    → IsNewBoard d l tile (board_with e kept set device)
new_board zeros d e l tile count kept set device same new blank pixels =
    subst (λ (f : Decl). IsNewBoard d l tile (board_with f kept set device)) (sym same) (record {
      state = λ client. state_new d count kept new client (slice_get kept client) refl;
      image = λ client name some. image_new d count kept new client name (slice_get kept client) refl;
      shared = λ name.
          ap (λ (v : List (Option Picture)). texels_in v name) blank
          ∙ same_texels d.shared (blank_textures (record { decl = d; streams = [] })) (map blank_texture d.shared) (zeros (record { decl = d; streams = [] })) (no_texels d) name;
      pixel = pixels;
    })

-- ---- one client more

last_or_before : {A : Type 0} (xs : List A) (i : ℕ) (x y : A) → slice_get (xs ++ x ∷ []) i ≡ Some y → (x ≡ y) ⊎ (slice_get xs i ≡ Some y)
last_or_before [] zero x y at = inl cc
last_or_before [] (suc i) x y at = inr at
last_or_before (z ∷ zs) zero x y at = inr at
last_or_before (z ∷ zs) (suc i) x y at = last_or_before zs i x y at

pub one_more : (s : State) (n : ℕ) (kept kept' : List KeptClient) (k : KeptClient) → AreNew s n kept → kept' ≡ kept ++ k ∷ [] → k.state ≡ s
    → k.images ≡ replicate private_count None → AreNew s (n + 1) kept'
one_more s n kept kept' k new is state images = subst (AreNew s (n + 1)) (sym is) (record {
  clients = omega (arith, length-append kept (k ∷ []), new.clients);
  state = λ client x at. elim (last_or_before kept client k x at) [
    | inl same ↦ subst (λ (y : KeptClient). y.state ≡ s) same state
    | inr before ↦ new.state client x before
  ];
  images = λ client x at. elim (last_or_before kept client k x at) [
    | inl same ↦ subst (λ (y : KeptClient). y.images ≡ replicate private_count None) same images
    | inr before ↦ new.images client x before
  ];
})
