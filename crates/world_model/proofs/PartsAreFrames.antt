-- What a tile has shown stays right with every item: one more part at a Swap, which is the board, and none else.
use Rattle.std.proofs.Common.{◌≡◌, ℕ, ◌+◌, List, [], ◌∷◌, ◌++◌, inl, inr, refl, sym, ap, ◌∙◌, subst, arith, append_assoc, append-nil, length-append}
use Rattle.std.specs.Prelude.{pos}
use Rattle.rc_base.specs.Drawing.Images.{Pixels}
use Rattle.rc_base.specs.Drawing.Serial.{frame_pixel}
use Rattle.rc_base.specs.Orders.Sync.{sync_lists_of}
use Rattle.rc_base.specs.declared.scene.Scene.{Scene}
use Rattle.rc_base.specs.declared.sync.Entry.{Entry}
use Rattle.rc_base.specs.declared.sync.Entry.TheVariants.{Meet, Swap, Give, Take}
use Rattle.rc_base.specs.declared.window.Layout.{Layout}
use Rattle.order_model.specs.Board.{Board, StandsFor}
use Rattle.order_model.specs.Log.{Replays, recorded_order}
use Rattle.order_model.specs.Sent.{jobs_of}
use Rattle.order_model.specs.Standing.{Progress}
use Rattle.order_model.specs.declared.record.LogEntry.TheVariants.{Performed}
use Rattle.tile_model.specs.Items.{Item, after_item, IsAwaited, shown_frames}
use Rattle.tile_model.specs.Items.Item.{Nothing, Due, Granted, NoMore, Sent}
use Rattle.tile_model.specs.Laws.{SwapsShowFrames}
use Rattle.world_model.specs.Sound.{GoesOnTo, ArePartsOf}
use Rattle.world_model.specs.Tiles.{parts_after}
use Rattle.tile_model.proofs.ItemsComeFromLanes.{listens}
use Rattle.tile_model.proofs.ShownFrames.{ShowsNothing, not_shown, one_shown, act_shows, learns_shows, get_push}

module _ (scene : Scene) (l : Layout) (tile : ℕ) (journal : List Entry) (p : Progress) (parts : List Pixels) (h : ArePartsOf scene l tile journal p parts) where
  parts_stay : (q : Progress) → ShowsNothing p q → ArePartsOf scene l tile journal q parts
  parts_stay q s = record {
    count = h.count ∙ sym s.frames;
    pixels = λ later g more replays k part is x y has.
        let log : q.log ++ more ≡ p.log ++ (s.more ++ more) = ap (λ ls. ls ++ more) s.log ∙ append_assoc p.log s.more more in
        h.pixels later g (s.more ++ more) (subst (λ ls. Replays (sync_lists_of scene) later (λ client. jobs_of scene l client tile) ls) log replays) k part is x y has
        ∙ sym (ap (λ ls. frame_pixel scene (recorded_order (sync_lists_of scene) later ls) (k + 1) (pos x) (pos y)) log);
  }

  -- a Swap shows the board, which is the next frame
  part_shown : SwapsShowFrames → (b : Board) → ((later : List Entry) → GoesOnTo (sync_lists_of scene) journal later → StandsFor scene l tile later p b) → IsAwaited p (Due Swap)
      → ArePartsOf scene l tile journal (after_item p (Due Swap)) (parts ++ b.pixel ∷ [])
  part_shown shows b stands awaited = record {
    count = let n = one_shown p awaited.0 in let a = length-append parts (b.pixel ∷ []) in let c = h.count in omega (arith, n, a, c);
    pixels = λ later g more replays k part is x y has.
        let log : (p.log ++ Performed ∷ []) ++ more ≡ p.log ++ Performed ∷ more = append_assoc p.log (Performed ∷ []) more in
        let all = subst (λ ls. Replays (sync_lists_of scene) later (λ client. jobs_of scene l client tile) ls) log replays in
        let back = sym (ap (λ ls. frame_pixel scene (recorded_order (sync_lists_of scene) later ls) (k + 1) (pos x) (pos y)) log) in
        elim (get_push parts b.pixel k part is) [
          | inl old ↦ h.pixels later g (Performed ∷ more) all k part old x y has ∙ back
          | inr new ↦
              let number : shown_frames p ≡ k = sym h.count ∙ sym new.0 in
              ap (λ (f : Pixels). f (pos x) (pos y)) new.1
              ∙ shows scene l tile later p b more g.legal (stands later g) awaited all x y has
              ∙ ap (λ n. frame_pixel scene (recorded_order (sync_lists_of scene) later (p.log ++ Performed ∷ more)) (n + 1) (pos x) (pos y)) number ∙ back
        ];
  }

  pub parts_go_on : SwapsShowFrames → (item : Item) (b : Board) → ((later : List Entry) → GoesOnTo (sync_lists_of scene) journal later → StandsFor scene l tile later p b) → IsAwaited p item
      → ArePartsOf scene l tile journal (after_item p item) (parts_after item b.pixel parts)
  parts_go_on shows Nothing b stands awaited = h
  parts_go_on shows (Due (Meet barrier members)) b stands awaited = parts_stay (after_item p (Due (Meet barrier members))) (not_shown p (Meet barrier members) awaited.0 refl)
  parts_go_on shows (Due Swap) b stands awaited = part_shown shows b stands awaited
  parts_go_on shows (Due (Give semaphore client)) b stands awaited = parts_stay (after_item p (Due (Give semaphore client))) (not_shown p (Give semaphore client) awaited.0 refl)
  parts_go_on shows (Due (Take semaphore client)) b stands awaited = parts_stay (after_item p (Due (Take semaphore client))) (not_shown p (Take semaphore client) awaited.0 refl)
  parts_go_on shows (Granted e) b stands awaited = parts_stay (after_item p (Granted e)) (learns_shows p e (let same = (listens p awaited).1 in omega (arith, same)))
  parts_go_on shows NoMore b stands awaited = parts_stay (after_item p NoMore) record { more = []; log = sym (append-nil p.log); frames = refl }
  parts_go_on shows (Sent client parcel) b stands awaited = parts_stay (after_item p (Sent client parcel)) (act_shows p client parcel.act parcel.place)
