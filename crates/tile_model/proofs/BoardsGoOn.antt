-- What a carried out parcel makes of a tile's board.
use Rattle.std.proofs.Common.{◌≡◌, ℕ, zero, suc, ◌+◌, ◌-◌, ◌≤◌, ◌==◌, true, List, [], ◌∷◌, ◌++◌, fold, take, drop, Some, slice_get, inl, inr, refl, sym, ap, ◌∙◌, subst, arith, pos}
use Rattle.std.proofs.lemmas.Bool.{cases_Bool}
use Rattle.std.proofs.lemmas.List.Sums.{fold-append}
use mathlib.Core.Path.{fun_ext}
use Rattle.rc_base.specs.Contexts.Elements.{image_element}
use Rattle.rc_base.specs.Drawing.PixelStep.{effect_step}
use Rattle.rc_base.specs.Drawing.Serial.{Canvas, canvas_step, stored, painted, blank_canvas, blank_textures, textures_step, textures_after}
use Rattle.rc_base.specs.Drawing.Texel.{SharedTexels, shared_picture}
use Rattle.rc_base.specs.Orders.Order.{names_from, names_in, added}
use Rattle.rc_base.specs.Cluster.Parcels.{told_by, told, parcels_of, effect_by}
use Rattle.rc_base.specs.declared.scene.Scene.{Scene}
use Rattle.rc_base.specs.declared.state.ElementSet.{ElementSet}
use Rattle.rc_base.specs.declared.state.ElementValue.{ElementValue}
use Rattle.rc_base.specs.declared.state.Parcel.{Parcel}
use Rattle.rc_base.specs.declared.sync.Name.{Name}
use Rattle.rc_base.specs.declared.window.Layout.{Layout}
use Rattle.rc_base.specs.declared.window.Pixel.{Pixel}
use Rattle.order_model.specs.Board.{Kept, Board, IsKeptOf, IsBoardOf, picture_in}
use Rattle.order_model.specs.Log.{Job, IsNext}
use Rattle.order_model.specs.Log.Job.{Work}
use Rattle.order_model.proofs.OneFoldOfTextures.{canvas_textures}
use Rattle.scene_lemmas.proofs.Numbered.{with_here}
use Rattle.plain_lemmas.proofs.Numbers.{at_one}
use Rattle.tile_model.specs.Boards.{image_by, HasSets, IsCarriedOut}
use Rattle.tile_model.specs.Items.{with_at}
use Rattle.tile_model.specs.Lazy.{DrawsAlike, name_of}
use Rattle.tile_model.proofs.IdleNamesChangeNothing.{BoxesHold, paint, idle_paint, idle_textures, Stays, stays_names}
use Rattle.tile_model.proofs.JobsAreLeftBehindNames.{IsLeft, next_work}
use Rattle.tile_model.proofs.NextInLists.{next_is, take_more}
use Rattle.tile_model.proofs.ProgressGoesOn.{with_other}
use Rattle.tile_model.proofs.ParcelsTellValues.{told_more}

-- ---- what is kept

pictures_told : (name : ℕ) (v : ElementValue) (sets : List ElementSet) → fold (image_by name) (picture_in v) sets ≡ picture_in (fold (told_by (image_element name)) v sets)
pictures_told name v [] = refl
pictures_told name v (set ∷ sets) = elim (cases_Bool (set.element == image_element name)) [
  | inl t ↦ rw t (pictures_told name set.value sets)
  | inr f ↦ rw f (pictures_told name v sets)
]

-- after a parcel's sets
kept_more : (scene : Scene) (l : Layout) (client tile count : ℕ) (k now : Kept) (p : Parcel) (rest : List Parcel) → drop count (parcels_of scene l client tile) ≡ p ∷ rest
    → IsKeptOf scene l client tile count k → HasSets p.sets k now → IsKeptOf scene l client tile (count + 1) now
kept_more scene l client tile count k now p rest next h sets =
    let before = take count (parcels_of scene l client tile) in
    let whole : (e : ℕ) → told scene.decl (take (count + 1) (parcels_of scene l client tile)) e ≡ fold (told_by e) (told scene.decl before e) p.sets = λ e.
    ap (λ ps. told scene.decl ps e) (take_more count (parcels_of scene l client tile) p rest next) ∙ told_more scene.decl before p e in
    record {
      values = λ e low. sets.values e low ∙ ap (λ v. fold (told_by e) v p.sets) (h.values e low) ∙ sym (whole e);
      images = λ name low.
          sets.images name low ∙ ap (λ v. fold (image_by name) v p.sets) (h.images name low)
          ∙ pictures_told name (told scene.decl before (image_element name)) p.sets ∙ sym (ap picture_in (whole (image_element name)));
    }

-- after a parcel without sets
pub kept_same : (scene : Scene) (l : Layout) (client tile count : ℕ) (k : Kept) (p : Parcel) (rest : List Parcel) → drop count (parcels_of scene l client tile) ≡ p ∷ rest → p.sets ≡ []
    → IsKeptOf scene l client tile count k → IsKeptOf scene l client tile (count + 1) k
kept_same scene l client tile count k p rest next none h =
    kept_more scene l client tile count k k p rest next h record {
      values = λ e low. ap (fold (told_by e) _) (sym none);
      images = λ name low. ap (fold (image_by name) (k.image name)) (sym none);
    }

-- ---- what is drawn

names_push : (client a n : ℕ) → names_from client a (suc n) ≡ names_from client a n ++ (record { client = client; place = a + n }) ∷ []
names_push client a zero = let e : a ≡ a + 0 = omega arith in ap (λ k. record { client = client; place = k } ∷ []) e
names_push client a (suc n) =
    let e : a + 1 + n ≡ a + suc n = omega arith in
    ap (λ l. record { client = client; place = a } ∷ l) (names_push client (a + 1) n ∙ ap (λ k. names_from client (a + 1) n ++ (record { client = client; place = k }) ∷ []) e)

-- the names up to a place, of which only the last one changes anything
fold_added : {S : Type 0} (f : S → Name → S) (client place : ℕ) (order : List Name) (c : S) → names_in client order ≤ place → Stays f client (names_in client order) place
    → fold f c (added client (place + 1) order) ≡ f (fold f c order) (record { client = client; place = place })
fold_added f client place order c low still =
    let a = names_in client order in
    let n = place - a in
    let e : place + 1 - a ≡ suc n = omega arith in
    let g : a + n ≡ place = omega arith in
    fold-append f c order (names_from client a (place + 1 - a))
    ∙ ap (λ k. fold f (fold f c order) (names_from client a k)) e
    ∙ ap (fold f (fold f c order)) (names_push client a n)
    ∙ fold-append f (fold f c order) (names_from client a n) ((record { client = client; place = a + n }) ∷ [])
    ∙ ap (λ d. f d (record { client = client; place = a + n })) (stays_names f client a n (fold f c order) (λ k lo hi. still k lo (omega arith)))
    ∙ ap (λ k. f (fold f c order) (record { client = client; place = k })) g

-- work is carried out
pub board_works : BoxesHold → (scene : Scene) (l : Layout) (client tile count : ℕ) (cursor : ℕ → ℕ) (names : List Name) (jobs : ℕ → List Job) (p : Parcel) (b d : Board)
    → cursor client ≡ count → slice_get (parcels_of scene l client tile) count ≡ Some p → IsNext (jobs client) (Work p.place) → IsLeft scene l tile names jobs
    → IsBoardOf scene l tile cursor names b → IsCarriedOut scene.decl l client tile p b d
    → (IsKeptOf scene l client tile (count + 1) (d.kept client) → DrawsAlike scene client p (d.kept client))
    → IsBoardOf scene l tile (with_at cursor client (count + 1)) (added client (p.place + 1) names) d
unfolding canvas_step
board_works box scene l client tile count cursor names jobs p b d at is job left h done alike =
    let place = p.place in
    let name : Name = name_of client p in
    let next = next_is (parcels_of scene l client tile) count p is in
    let first = next_work scene l tile names jobs client place left job in
    let kept : IsKeptOf scene l client tile (count + 1) (d.kept client) = kept_more scene l client tile count (b.kept client) (d.kept client) p next.0 next.1
    (subst (λ k. IsKeptOf scene l client tile k (b.kept client)) at (h.kept client)) done.kept in
    let same = alike kept in
    let shared : b.shared ≡ textures_after scene names = fun_ext h.shared in
    let stays : Stays (textures_step scene) client (names_in client names) place = λ k low high t. idle_textures scene l tile (record { client = client; place = k }) t (first.idle k low high) in
    let textures : textures_after scene (added client (place + 1) names) ≡ textures_step scene (textures_after scene names) name
    = fold_added (textures_step scene) client place names (blank_textures scene) first.low stays in
    let kd = d.kept client in
    record {
      kept = at_one (λ c. IsKeptOf scene l c tile (with_at cursor client (count + 1) c) (d.kept c)) client
          (subst (λ k. IsKeptOf scene l client tile k kd) (sym (with_here cursor client (count + 1))) kept)
          (λ c f. subst (λ k. IsKeptOf scene l c tile k (d.kept c)) (sym (with_other cursor client (count + 1) c f)) (subst (IsKeptOf scene l c tile (cursor c)) (sym (done.others c f)) (h.kept c)));
      shared = λ n. done.shared n
          ∙ ap (λ (s : SharedTexels). stored scene.decl.shared (effect_by p.act) s n) shared
          ∙ ap (λ (s : SharedTexels). s n) (same.shared (textures_after scene names) ∙ sym textures);
      pixel = λ x y has.
          let c0 : Canvas SharedTexels Pixel = blank_canvas scene in
          let step = paint scene (λ n. true) x y in
          let old = painted scene (λ n. true) (pos x) (pos y) names in
          let stays' : Stays step client (names_in client names) place = λ k low high c. idle_paint box scene l tile (λ n. true) (record { client = client; place = k }) x y c (first.idle k low high) has in
          let new : painted scene (λ n. true) (pos x) (pos y) (added client (place + 1) names) ≡ step old name = fold_added step client place names c0 first.low stays' in
          done.pixel x y has
          ∙ ap (λ s. effect_step kd.state kd.image (shared_picture scene.decl.shared s) (effect_by p.act) (pos x) (pos y) (b.pixel (pos x) (pos y)))
          (shared ∙ sym (canvas_textures scene (λ n. true) (pos x) (pos y) names))
          ∙ ap (effect_step kd.state kd.image (shared_picture scene.decl.shared old.shared) (effect_by p.act) (pos x) (pos y)) (h.pixel x y has)
          ∙ same.pixel old.shared (pos x) (pos y) old.pixel
          ∙ sym (ap (λ (c : Canvas SharedTexels Pixel). c.pixel) new);
    }
