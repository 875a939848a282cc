-- The images of lawful records of ordered scenes.
use Rattle.std.proofs.Common.{◌≡◌, ℕ, zero, suc, ◌+◌, ◌-◌, ◌<◌, Bool, List, [], ◌∷◌, ◌++◌, map, pos, Some, slice_get, inl, inr, refl, sym, ap, ◌∙◌, subst, arith}
use Rattle.std.specs.Prelude.{slice_index_or}
use Rattle.std.proofs.lemmas.Bool.{cases_Bool}
use Rattle.std.proofs.lemmas.Option.{slice_get-get_or}
use Rattle.std.specs.List.{flat_map, range_with_len, find}
use Rattle.std.specs.Option.{option_map_or}
use Rattle.rc_base.specs.Formats.Netpbm.{p6_texts}
use Rattle.rc_base.specs.Drawing.Images.{Pixels, rgb_of, row_bytes, rgb_bytes, frame_image, frame_images}
use Rattle.rc_base.specs.Drawing.Serial.{frame_pixel}
use Rattle.rc_base.specs.Orders.Footprints.{IsOrderedScene}
use Rattle.rc_base.specs.Orders.Order.{IsPermitted, default_journal, default_order}
use Rattle.rc_base.specs.Orders.Sync.{IsWellFormed, sync_lists_of}
use Rattle.rc_base.specs.Cluster.Tiles.{tile_pixels, tile_at, tile_count}
use Rattle.rc_base.specs.declared.image.Image.{Image}
use Rattle.rc_base.specs.declared.scene.Scene.{Scene}
use Rattle.rc_base.specs.declared.sync.Name.{Name}
use Rattle.rc_base.specs.declared.window.Layout.{Layout}
use Rattle.order_model.specs.Log.{recorded_order}
use Rattle.order_model.specs.Report.{frame_count, recorded_pixel, recorded_frame, image_text_of}
use Rattle.order_model.specs.Sent.{IsRecordOf, jobs_of}
use Rattle.order_model.specs.Uncontended.{IsUncontended}
use Rattle.order_model.specs.declared.record.Record.{Record}
use Rattle.order_model.proofs.DefaultJournalIsMaximal.{default_maximal}
use Rattle.order_model.proofs.DefaultOrderIsPermitted.{default_permitted}
use Rattle.order_model.proofs.JournalsSwapAlike.{swaps_agree}
use Rattle.order_model.proofs.MaximalJournalsAgree.{orders_agree}
use Rattle.order_model.proofs.OrderedScenesHaveOneFrame.{ordered_frames_agree}
use Rattle.order_model.proofs.RecordedOrdersArePermitted.{lawful_record_permitted}
use Rattle.order_model.proofs.SceneJobsAreSent.{scene_jobs_are_sent}

same_rows : {A : Type 0} (f g : ℕ → List A) (a n : ℕ) → ((k : ℕ) → k < n → f (a + k) ≡ g (a + k)) → flat_map f (range_with_len a n) ≡ flat_map g (range_with_len a n)
same_rows f g a zero h = refl
same_rows f g a (suc n) h =
    let e : a + 0 ≡ a = omega arith in
    let first : f a ≡ g a = subst (λ k. f k ≡ g k) e (h 0 (omega arith)) in
    let rest = same_rows f g (a + 1) n (λ k lt. let e : a + suc k ≡ a + 1 + k = omega arith in subst (λ j. f j ≡ g j) e (h (suc k) (omega (arith, lt)))) in
    ap (λ x. x ++ flat_map f (range_with_len (a + 1) n)) first ∙ ap (λ x. g a ++ x) rest

same_bytes : (p q : Pixels) (w h : ℕ) → ((x y : ℕ) → x < w → y < h → p (pos x) (pos y) ≡ q (pos x) (pos y)) → rgb_bytes p w h ≡ rgb_bytes q w h
unfolding rgb_bytes row_bytes
same_bytes p q w h same =
    same_rows (λ row. row_bytes p w (h - 1 - row)) (λ row. row_bytes q w (h - 1 - row)) 0 h (λ r lt.
    let y = h - 1 - (0 + r) in
    let below : y < h = omega (arith, lt) in
    same_rows (λ x. rgb_of (p (pos x) (pos y))) (λ x. rgb_of (q (pos x) (pos y))) 0 w (λ x lt'.
    let e : 0 + x < w = omega (arith, lt') in ap rgb_of (same (0 + x) y e below)))

-- where a test is looked for among numbers below n, the answer, or else 0, is below n
found : (test : ℕ → Bool) (a n m : ℕ) → a + n ≡ m → 0 < m → option_map_or (λ (k : ℕ). k) (find test (range_with_len a n)) 0 < m
found test a zero m e some = some
found test a (suc n) m e some = elim (cases_Bool (test a)) [
  | inl t ↦ rw t (omega (arith, e))
  | inr f ↦ rw f (found test (a + 1) n m (omega (arith, e)) some)
]

pub tile_below : (l : Layout) (x y : ℕ) → 0 < tile_count l → tile_at l x y < tile_count l
tile_below l x y some = found (λ tile. tile_pixels l tile x y) 0 (tile_count l) (tile_count l) (omega arith) some

one_pixel : (scene : Scene) (l : Layout) (kept : Record) → IsWellFormed (sync_lists_of scene) → 0 < tile_count l → IsRecordOf scene l kept → IsOrderedScene scene kept.journal
    → (order : List Name) → IsPermitted (sync_lists_of scene) kept.journal order → (k x y : ℕ) → x < scene.decl.width → y < scene.decl.height
    → recorded_pixel scene l kept k (pos x) (pos y) ≡ frame_pixel scene order k (pos x) (pos y)
one_pixel scene l kept well some h ordered order p k x y lx ly =
    let tile = tile_at l x y in
    let log = slice_index_or kept.logs tile [] in
    let is : slice_get kept.logs tile ≡ Some log = slice_get-get_or kept.logs tile [] (subst (λ n. tile < n) (sym h.count) (tile_below l x y some)) in
    ordered_frames_agree scene kept.journal ordered (recorded_order kept.syncs kept.journal log) order
    (lawful_record_permitted (sync_lists_of scene) (tile_count l) (jobs_of scene l) kept well (scene_jobs_are_sent scene l) h tile log is) p k x y lx ly

one_picture : (scene : Scene) (l : Layout) (kept : Record) → IsWellFormed (sync_lists_of scene) → 0 < tile_count l → IsRecordOf scene l kept → IsOrderedScene scene kept.journal
    → (order : List Name) → IsPermitted (sync_lists_of scene) kept.journal order → (k : ℕ) → recorded_frame scene l kept k ≡ frame_image scene order k
one_picture scene l kept well some h ordered order p k =
    ap (λ bytes. record { width = scene.decl.width; height = scene.decl.height; rgb = bytes })
    (same_bytes (recorded_pixel scene l kept k) (frame_pixel scene order k) scene.decl.width scene.decl.height (λ x y lx ly. one_pixel scene l kept well some h ordered order p k x y lx ly))

same_pictures : (f g : ℕ → Image) → ((k : ℕ) → f k ≡ g k) → (ks : List ℕ) → map f ks ≡ map g ks
same_pictures f g h [] = refl
same_pictures f g h (k ∷ ks) = ap (λ m. m ∷ map f ks) (h k) ∙ ap (λ ms. g k ∷ ms) (same_pictures f g h ks)

pub permitted_image : (scene : Scene) (l : Layout) (kept : Record) → IsWellFormed (sync_lists_of scene) → 0 < tile_count l → IsRecordOf scene l kept → IsOrderedScene scene kept.journal
    → (order : List Name) → IsPermitted (sync_lists_of scene) kept.journal order
    → image_text_of scene l kept ≡ p6_texts (frame_images scene order (frame_count kept.journal))
unfolding image_text_of
permitted_image scene l kept well some h ordered order p =
    ap p6_texts (same_pictures (recorded_frame scene l kept) (frame_image scene order) (one_picture scene l kept well some h ordered order p) (range_with_len 1 (frame_count kept.journal)))

pub default_image : (scene : Scene) (l : Layout) (kept : Record) → IsWellFormed (sync_lists_of scene) → 0 < tile_count l → IsUncontended (sync_lists_of scene) → IsRecordOf scene l kept → IsOrderedScene scene kept.journal
    → image_text_of scene l kept
    ≡ (let journal = default_journal (sync_lists_of scene) in p6_texts (frame_images scene (default_order (sync_lists_of scene) journal) (frame_count journal)))
default_image scene l kept well some uncontended h ordered =
    let s = sync_lists_of scene in
    let j = default_journal s in
    let m = default_maximal s well in
    let o = default_order s j in
    let p = (orders_agree s uncontended j kept.journal m h.maximal o).0 (default_permitted s j well m.0) in
    permitted_image scene l kept well some h ordered o p ∙ ap (λ n. p6_texts (frame_images scene o n)) (swaps_agree s well uncontended.alone kept.journal j h.maximal m)
