use Rattle.std.proofs.Common.{◌≡◌, ◌≤◌, ◌<◌, ℤ, Bool, true, ◌&&◌, ◌||◌, Option, Some, None, length, refl, sym, ap, ◌∙◌, lt-ltb}
use Rattle.std.specs.Prelude.{if◌then◌else◌}
use Rattle.std.proofs.lemmas.Bool.{le-ltb, true≢false}
use Rattle.raster.specs.Clips.{is_let_through}
use Rattle.rc_base.specs.Cluster.ObjectBox.{block_clip, is_amid_places, is_in_object_box, is_in_reach, may_be_near}
use Rattle.rc_base.specs.Cluster.Tiles.{is_in_box, is_in_rect, is_in_window_box}
use Rattle.rc_base.specs.Drawing.Triangles.{cut_modes, triangles_in}
use Rattle.rc_base.specs.declared.state.Block.{Block}
use Rattle.rc_base.specs.declared.state.Effect.TheVariants as eff
use Rattle.rc_base.specs.declared.state.State.{State}
use Rattle.rc_base.specs.declared.window.Rect.{Rect}
use Rattle.bounds_bucket.specs.Boxes.{is_boxed, IsBoxIfAny}
use Rattle.uses.specs.Boxes.{HasPixel}
use Rattle.uses.proofs.boxes.near_box.Goals as goal

module _ (s : State) (block : Block) (late : cut_modes ≤ block.mode) (some : 0 < length (triangles_in block)) (near : may_be_near (block_clip s block) ≡ true) where
  in_object_box : (x y : ℤ) → is_let_through s x y ≡ true → is_in_object_box s block x y ≡ true
  unfolding is_in_object_box
  in_object_box x y through =
      ap (λ (b : Bool). b && (is_in_reach s (block_clip s block) x y && is_let_through s x y)) (lt-ltb 0 (length (triangles_in block)) some)
      ∙ ap (λ (b : Bool). (b || is_amid_places s (block_clip s block) x y) && is_let_through s x y) near ∙ through

  in_box : (x y : ℤ) → is_let_through s x y ≡ true → is_in_box s (eff.Block block) x y ≡ true
  unfolding is_in_box
  in_box x y through =
      ap (λ (b : Bool). if b then is_in_window_box s block x y else is_in_object_box s block x y) (le-ltb block.mode cut_modes late) ∙ in_object_box x y through

  boxed : (window : Rect) (x y : ℤ) → is_in_rect window x y ≡ true → is_let_through s x y ≡ true → is_boxed s (eff.Block block) window x y ≡ true
  boxed window x y here through = ap (λ (b : Bool). b && is_in_box s (eff.Block block) x y) here ∙ in_box x y through

  has_pixel : (o : Option Rect) (window : Rect) → IsBoxIfAny s (eff.Block block) window o
      → (x y : ℤ) → is_in_rect window x y ≡ true → is_let_through s x y ≡ true → HasPixel o x y
  has_pixel None window empty x y here through = absurd (true≢false (sym (boxed window x y here through) ∙ empty x y))
  has_pixel (Some r) window box x y here through = record { area = r; is = refl; has = box.pixels x y ∙ boxed window x y here through }

pub returns : goal.returns
returns c some near = has_pixel _ _ c.requires some near c.block_box.result _ c.block_box.ensures.exact
