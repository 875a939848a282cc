-- What lazy state is for: with what a tile keeps of a client, a parcel does what its command does in the client's own context.
use Rattle.std.specs.Prelude.{◌≡◌, ℕ, true, ℤ, Some, slice_get, ◌+◌}
use Rattle.rc_base.specs.Pictures.{Picture}
use Rattle.rc_base.specs.Contexts.Context.{private_image}
use Rattle.rc_base.specs.Contexts.Issue.{context_after}
use Rattle.rc_base.specs.Drawing.PixelStep.{effect_step}
use Rattle.rc_base.specs.Drawing.Serial.{stored, pixel_step, textures_step}
use Rattle.rc_base.specs.Drawing.Texel.{SharedTexels, shared_picture, sampled}
use Rattle.rc_base.specs.Cluster.Parcels.{parcels_of, effect_by}
use Rattle.rc_base.specs.declared.scene.Scene.{Scene}
use Rattle.rc_base.specs.declared.state.Parcel.{Parcel}
use Rattle.rc_base.specs.declared.sync.Name.{Name}
use Rattle.rc_base.specs.declared.window.Layout.{Layout}
use Rattle.rc_base.specs.declared.window.Pixel.{Pixel}
use Rattle.order_model.specs.Board.{Kept, IsKeptOf}
use Rattle.tile_model.specs.Acts.{is_draw, is_drawing, is_work}
use Rattle.tile_model.specs.Scenes.{IsInRange}

-- the command of a client's parcel
abbrev pub name_of : ℕ → Parcel → Name
name_of client parcel = record { client = client; place = parcel.place }

-- The state that is kept is that of the client's context where the parcel draws or clears, and so is the picture that a draw samples. So the parcel
-- makes of each pixel and of the shared textures what its command does.
pub record DrawsAlike (scene : Scene) (client : ℕ) (parcel : Parcel) (k : Kept) : Type 0 where
  pub state : is_drawing parcel.act ≡ true → k.state ≡ (context_after scene client parcel.place).state
  pub picture : is_draw parcel.act ≡ true → (shareds : ℕ → Picture)
      → sampled k.state k.image shareds
      ≡ (let context = context_after scene client parcel.place in sampled context.state (private_image context) shareds)
  pub pixel : (shared : SharedTexels) (x y : ℤ) (old : Pixel)
      → effect_step k.state k.image (shared_picture scene.decl.shared shared) (effect_by parcel.act) x y old
      ≡ pixel_step scene (name_of client parcel) shared x y old
  pub shared : (shared : SharedTexels)
      → stored scene.decl.shared (effect_by parcel.act) shared ≡ textures_step scene shared (name_of client parcel)

-- What a tile keeps of a client after a parcel that is work, which is what the parcels up to that one told it, draws as the client's context does.
abbrev pub LazyStateDrawsAlike : Type 0
LazyStateDrawsAlike =
    (scene : Scene) (l : Layout) (client tile count : ℕ) (parcel : Parcel) (k : Kept) → IsInRange scene
    → slice_get (parcels_of scene l client tile) count ≡ Some parcel → is_work parcel.act ≡ true
    → IsKeptOf scene l client tile (count + 1) k → DrawsAlike scene client parcel k
