-- Clients that have drawn their frames.
use Rattle.std.proofs.Common.{◌≡◌, ℕ, ◌+◌, ◌-◌, ◌<◌, ◌≤◌, List, [], ◌∷◌, ◌++◌, length, length-append, inl, inr, ap, refl, sym, true, subst, ◌∙◌, arith, ℤ}
use Rattle.std.specs.Prelude.{Ok, IfOk, fold, slice_index_or, slice_set}
use Rattle.std.specs.declared.result.Result.{Result}
use Rattle.std.proofs.lemmas.Bool.{cases_eq, cases_lt}
use Rattle.std.proofs.lemmas.Grind.{get_or-set_at}
use Rattle.std.proofs.lemmas.List.{get_or_append_left, get_or-append-add, get_or-set_other, length-set}
use Rattle.rc_base.specs.Formats.Within.{IsWithin}
use Rattle.rc_base.specs.Drawing.Serial.{blank_pixel}
use Rattle.rc_base.specs.Drawing.Window.{depth_most}
use Rattle.rc_base.specs.Orders.Order.{names_from}
use Rattle.rc_base.specs.Orders.Sync.{client_count, client_row, sync_row_of, sync_lists_of}
use Rattle.rc_base.specs.declared.out_of_memory.OutOfMemory.{OutOfMemory}
use Rattle.rc_base.specs.declared.scene.Scene.{Scene}
use Rattle.rc_base.specs.declared.sync.SyncLists.{SyncLists}
use Rattle.rc_base.specs.declared.sync.SyncRow.{SyncRow}
use Rattle.rc_base.specs.declared.window.Pixel.{Pixel}
use Rattle.rc_base.specs.declared.window.Rect.{Rect}
use Rattle.rc_base.proofs.Paired.{is_next, next_within}
use Rattle.rc_base.proofs.WithinLimits.{clients_within}
use Rattle.order_model.proofs.SceneListsAreWellFormed.{scene_row}
use Rattle.scene_lemmas.proofs.Scenes.{scene_client_count}
use Rattle.rc_base.specs.Cluster.Tiles.{is_in_rect}
use Rattle.scene_lemmas.proofs.Triangles.{nearer_is_first}
use Rattle.draw_device.specs.Active.{IsLayerOf}
use Rattle.draw_device.specs.Devices.{DeviceView, EachTakes, IsBlankIn, pixel_of}
use Rattle.draw_device.specs.declared.active.ActivePixels.{ActivePixels}
use Rattle.sort_last.specs.Offends.{IsComposable}
use Rattle.sort_last.specs.Players.{HoldLayers, HoldEach, IsClientLayer, IsBegun, AreBegun, scene_window, shows, draw_if, start_of}
use Rattle.sort_last.specs.declared.play.DrawPass.TheVariants as pass
use Rattle.sort_last.specs.declared.player.Player.{Player}
use Rattle.sort_last.specs.declared.sheet.ClientLayers.{ClientLayers}
use Rattle.sort_last.proofs.ComposedFrames.{depths}
use Rattle.sort_last.proofs.FrameBounds.{frame_layer}
use Rattle.sort_last.proofs.FramesOfClients.{run_merges}
use Rattle.sort_last.proofs.Nearer.{Merges}

pub some_streams : (scene : Scene) → IsWithin scene → 0 < length scene.streams
some_streams scene within = (clients_within scene within.limits).0

-- the row of a client in a scene's lists
pub row_is : (scene : Scene) (syncs : SyncLists) (client : ℕ) (row : SyncRow) → client < length scene.streams → syncs ≡ sync_lists_of scene → row ≡ client_row syncs client
    → row ≡ sync_row_of scene client
row_is scene syncs client row lt same is = is ∙ ap (λ (l : SyncLists). client_row l client) same ∙ scene_row scene client lt

pub is_client : (scene : Scene) (syncs : SyncLists) (client : ℕ) → client < length scene.streams → syncs ≡ sync_lists_of scene → client < client_count syncs
is_client scene syncs client lt same = omega (arith, lt, ap client_count same, scene_client_count scene)

-- what is far after a step that only puts something nearer was blank before
far_is_blank : (g : Pixel → Pixel) → Merges g → (g blank_pixel).depth ≡ depth_most → g blank_pixel ≡ blank_pixel
far_is_blank g m far = m blank_pixel (omega arith) ∙ nearer_is_first blank_pixel (g blank_pixel) (omega (arith, far))

-- so a pixel of a layer is blank where it is as far as can be
pub layer_blank : (scene : Scene) → IsComposable scene → (client from count : ℕ) (x y : ℤ) (p : Pixel)
    → p ≡ fold (draw_if scene x y (shows pass.Layer scene)) blank_pixel (names_from client from count) → p.depth ≡ depth_most → p ≡ blank_pixel
layer_blank scene d client from count x y p is far =
    let names = names_from client from count in
    is ∙ far_is_blank (λ p. fold (draw_if scene x y (shows pass.Layer scene)) p names) (run_merges scene d (depths scene) x y names) (ap (λ (q : Pixel). q.depth) (sym is) ∙ far)

-- what commands draw on a blank sheet
pub drawn_on_blank : (scene : Scene) (client from count : ℕ) (window : Rect) (old new : DeviceView) → old.rect ≡ window → IsBlankIn window old
    → EachTakes (λ x y p. fold (draw_if scene x y (shows pass.Layer scene)) p (names_from client from count)) old new → (x y : ℤ) → is_in_rect window x y ≡ true
    → pixel_of new x y ≡ fold (draw_if scene x y (shows pass.Layer scene)) blank_pixel (names_from client from count)
drawn_on_blank scene client from count window old new over blank takes x y inside =
    takes x y (ap (λ (r : Rect). is_in_rect r x y) over ∙ inside)
    ∙ ap (λ (p : Pixel). fold (draw_if scene x y (shows pass.Layer scene)) p (names_from client from count)) (blank x y inside)

-- a layer over the same rectangle whose pixels are the same there
pub layer_same : (r window : Rect) (f g : ℤ → ℤ → Pixel) (a : ActivePixels) → r ≡ window → ((x y : ℤ) → is_in_rect r x y ≡ true → f x y ≡ g x y) → IsLayerOf r f a → IsLayerOf window g a
layer_same r window f g a over same h =
    let here : IsLayerOf r g a = record {
      fit = h.fit;
      among = λ x y inside low high. h.among x y inside low high ∙ same x y inside;
      beside = λ x y inside beside. ap (λ (p : Pixel). p.depth) (sym (same x y inside)) ∙ h.beside x y inside beside;
    } in
    subst (λ (s : Rect). IsLayerOf s g a) over here

-- the layer of one more frame
pub frame_added : (scene : Scene) → IsComposable scene → (client frame : ℕ) → client < length scene.streams → frame < length (sync_row_of scene client).ops
    → (first from to : ℕ) (a : ActivePixels) (old new : List ActivePixels) → first ≤ frame → frame < first + length old
    → from ≡ start_of (sync_row_of scene client).ops frame → to ≡ start_of (sync_row_of scene client).ops (frame + 1)
    → IsLayerOf (scene_window scene) (λ x y. fold (draw_if scene x y (shows pass.Layer scene)) blank_pixel (names_from client from (to - from))) a
    → new ≡ slice_set old (frame - first) a → HoldLayers scene client first frame old → HoldLayers scene client first (frame + 1) new
frame_added scene d client frame lt inside first from to a old new low room begins ends layer items h =
    let at = frame - first in
    let here : IsClientLayer scene client (frame + 1) a =
    layer_same _ _ _ _ a refl
    (λ x y within. (λ i. fold (draw_if scene x y (shows pass.Layer scene)) blank_pixel (names_from client (begins i) (ends i - begins i))) ∙ frame_layer scene d client lt frame inside x y)
    layer in
    let new_at = λ (k : ℕ) (b : ActivePixels) (e : k ≡ at). ap (λ ls. slice_index_or ls k b) items ∙ get_or-set_at old at k a b e (omega (arith, low, room)) in
    let old_at = λ (k : ℕ) (b : ActivePixels) (ne : k ≡ at → ⊥). ap (λ ls. slice_index_or ls k b) items ∙ get_or-set_other old at k a b ne in
    record {
      room = omega (arith, ap length items, length-set old at a, room);
      each = λ k b less. elim (cases_eq k at) [
        | inl e ↦
            let index : frame + 1 ≡ first + k + 1 = omega (arith, e, low) in
            subst (λ (m : ActivePixels). IsClientLayer scene client (first + k + 1) m) (sym (new_at k b e)) (subst (λ j. IsClientLayer scene client j a) index here)
        | inr ne ↦ subst (λ (m : ActivePixels). IsClientLayer scene client (first + k + 1) m) (sym (old_at k b ne)) (h.each k b (before k ne less))
      ];
    }
  where
    before : (k : ℕ) → (k ≡ frame - first → ⊥) → first + k < frame + 1 → first + k < frame
    before k ne less = elim (cases_lt (first + k) frame) [ inl lt ↦ lt | inr ge ↦ absurd (ne (omega (arith, ge, less))) ]

-- any layers are those of no frames
pub no_frames : (scene : Scene) (client frame : ℕ) (layers : List ActivePixels) → HoldLayers scene client frame frame layers
no_frames scene client frame layers = record { room = omega arith; each = λ k a less. absurd (omega (arith, less)) }

-- the next of the clients that were made is before its first frame
pub next_begun : (scene : Scene) (made front rest more : List (Result Player OutOfMemory)) (r : Result Player OutOfMemory) → AreBegun scene made → made ≡ front ++ rest → rest ≡ r ∷ more
    → (p : Player) → r ≡ Ok p → IsBegun scene p
next_begun scene made front rest more r begun parts next p is =
    let low = next_within made front rest more r parts next in
    let count = begun.count in
    subst (λ (q : Result Player OutOfMemory). IfOk q (IsBegun scene)) (is_next made front rest more r r parts next ∙ is) (begun.each (length front) r (omega (arith, low, count)))

-- a batch is done with
pub layers_done : (scene : Scene) (first end : ℕ) (layers : List ClientLayers) → HoldEach scene first end layers → HoldEach scene end end layers
layers_done scene first end layers h = record { count = h.count; each = λ client l lt. no_frames scene client end _ }

module _ (scene : Scene) (first frame end client : ℕ) (layers : List ClientLayers) (l : ClientLayers) (low : first ≤ frame) (less : frame < end) (h : HoldEach scene first end layers)
    (lt : client < length layers) (is : l ≡ slice_index_or layers client l) where
  had : HoldLayers scene client first end l.layers.items
  had = subst (λ (m : ClientLayers). HoldLayers scene client first end m.layers.items) (sym is) (h.each client l (omega (arith, lt, h.count)))

  -- a client has the layer of a frame of the batch
  pub layer_inside : frame - first < length l.layers.items
  layer_inside = omega (arith, low, less, had.room)

  pub layer_is : (a : ActivePixels) → a ≡ slice_index_or l.layers.items (frame - first) a → IsClientLayer scene client (frame + 1) a
  layer_is a at =
      let index : first + (frame - first) + 1 ≡ frame + 1 = omega (arith, low) in
      subst (λ (m : ActivePixels). IsClientLayer scene client (frame + 1) m) (sym at)
      (subst (λ j. IsClientLayer scene client j (slice_index_or l.layers.items (frame - first) a)) index (had.each (frame - first) a (omega (arith, low, less))))

-- what holds of each client below one holds of one more
pub client_pushed : {X : Type 0} (P : ℕ → X → Type 0) (old new : List X) (p : X) (n : ℕ) → length old ≡ n → new ≡ old ++ p ∷ []
    → ((client : ℕ) (q : X) → client < n → P client (slice_index_or old client q)) → P n p
    → (client : ℕ) (q : X) → client < n + 1 → P client (slice_index_or new client q)
client_pushed P old new p n count is before here client q lt = elim (cases_lt client n) [
  | inl less ↦
      let same : slice_index_or new client q ≡ slice_index_or old client q = ap (λ ls. slice_index_or ls client q) is ∙ get_or_append_left old (p ∷ []) q client (omega (arith, less, count)) in
      subst (P client) (sym same) (before client q less)
  | inr ge ↦
      let at : client ≡ length old + 0 = omega (arith, lt, ge, count) in
      let same : slice_index_or new client q ≡ p = ap (λ ls. slice_index_or ls client q) is ∙ ap (λ j. slice_index_or (old ++ p ∷ []) j q) at ∙ get_or-append-add old (p ∷ []) 0 q in
      let number : n ≡ client = omega (arith, lt, ge) in
      subst (P client) (sym same) (subst (λ k. P k p) number here)
]

module _ {X : Type 0} (P : ℕ → X → Type 0) (old new : List X) (p : X) (n : ℕ) (lt : n < length old) (is : new ≡ slice_set old n p) where
  -- one client is set: what holds of each one below it holds of it too
  pub client_set : ((client : ℕ) (q : X) → client < n → P client (slice_index_or old client q)) → P n p
      → (client : ℕ) (q : X) → client < n + 1 → P client (slice_index_or new client q)
  client_set before here client q less = elim (cases_eq client n) [
    | inl e ↦
        let same : slice_index_or new client q ≡ p = ap (λ ls. slice_index_or ls client q) is ∙ get_or-set_at old n client p q e lt in
        subst (P client) (sym same) (subst (λ k. P k p) (sym e) here)
    | inr ne ↦
        let same : slice_index_or new client q ≡ slice_index_or old client q = ap (λ ls. slice_index_or ls client q) is ∙ get_or-set_other old n client p q ne in
        subst (P client) (sym same) (before client q (below client ne less))
  ]
    where
      below : (client : ℕ) → (client ≡ n → ⊥) → client < n + 1 → client < n
      below client ne less = elim (cases_lt client n) [ inl a ↦ a | inr ge ↦ absurd (ne (omega (arith, ge, less))) ]

  -- and what holds of those behind it still does
  pub clients_left : ((client : ℕ) (q : X) → n ≤ client → client < length old → P client (slice_index_or old client q))
      → (client : ℕ) (q : X) → n + 1 ≤ client → client < length new → P client (slice_index_or new client q)
  clients_left before client q ge less =
      let same : slice_index_or new client q ≡ slice_index_or old client q =
      ap (λ ls. slice_index_or ls client q) is ∙ get_or-set_other old n client p q (λ e. omega (arith, ge, e)) in
      subst (P client) (sym same) (before client q (omega (arith, ge)) (omega (arith, less, ap length is, length-set old n p)))
