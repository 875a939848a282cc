-- A new tile stands for every scene and every journal.
use Rattle.std.proofs.Common.{◌≡◌, ℕ, [], List, length, ap, ◌∙◌, sym, refl, subst}
use Rattle.std.specs.Prelude.{slice_index_or}
use Rattle.rc_base.specs.Contexts.Elements.{values_of, no_image, image_element, default_value}
use Rattle.rc_base.specs.Orders.Sync.{sync_lists_of}
use Rattle.rc_base.specs.Cluster.Parcels.{told}
use Rattle.rc_base.specs.declared.scene.Decl.{Decl}
use Rattle.rc_base.specs.declared.scene.Scene.{Scene}
use Rattle.rc_base.specs.declared.state.State.{State}
use Rattle.rc_base.specs.declared.sync.Entry.{Entry}
use Rattle.rc_base.specs.declared.window.Layout.{Layout}
use Rattle.order_model.specs.Board.{Board, StandsFor, picture_in}
use Rattle.order_model.specs.Sent.{jobs_of}
use Rattle.order_model.specs.Standing.{IsUnderWay, new_progress}
use Rattle.scene_lemmas.proofs.Scenes.{scene_client_count}
use Rattle.scene_lemmas.proofs.Contexts.{default_is_no_image}
use Rattle.tile_model.specs.Boards.{IsNewBoard}
use Rattle.tile_model.proofs.ProgressGoesOn.{new_under_way}

-- nothing was told
told_first : (d : Decl) (e : ℕ) → told d [] e ≡ default_value d e
unfolding told
told_first d e = refl

pub new_stands : (scene : Scene) (l : Layout) (tile : ℕ) (js : List Entry) (b : Board) → IsNewBoard scene.decl l tile b → StandsFor scene l tile js (new_progress (length scene.streams)) b
new_stands scene l tile js b h = record {
  progress = subst (λ n. IsUnderWay (sync_lists_of scene) js (λ client. jobs_of scene l client tile) (new_progress n)) (scene_client_count scene)
      (new_under_way (sync_lists_of scene) js (λ client. jobs_of scene l client tile));
  board = record {
    kept = λ c. record {
      values = λ e low. ap (λ (s : State). slice_index_or (values_of s) e no_image) (h.state c) ∙ sym (told_first scene.decl e);
      images = λ name low. h.image c name low ∙ sym (ap picture_in (told_first scene.decl (image_element name)) ∙ ap picture_in (default_is_no_image scene.decl name low));
    };
    shared = h.shared;
    pixel = h.pixel;
  };
}
