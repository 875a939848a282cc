-- A triangle that lies beside the part draws nothing.
use Rattle.std.proofs.Common.{◌≡◌, ℕ, List, Some, None, refl, sym}
use Rattle.std.specs.declared.option.Option.{Option}
use Rattle.rc_base.specs.Pictures.{Picture}
use Rattle.rc_base.specs.Drawing.Kept.{kept_whole}
use Rattle.rc_base.specs.declared.state.State.{State}
use Rattle.rc_base.specs.declared.state.Vertex.{Vertex}
use Rattle.rc_base.specs.declared.window.Pixel.{Pixel}
use Rattle.rc_base.specs.declared.window.Rect.{Rect}
use Rattle.rc_base.specs.declared.window.WindowVertex.{WindowVertex}
use Rattle.geometry.specs.Beside.{AreSurrounds, IsBesideIfKept}
use Rattle.geometry.specs.declared.near.Surrounds.{Surrounds}
use Rattle.raster.specs.Between.{CoverLiesInBounds}
use Rattle.raster.proofs.Beside.{beside_empty}
use Rattle.raster.specs.Clips.{IsPartWhere, is_let_through}
use Rattle.geometry.proofs.Outside.{beside_part}
use Rattle.draw_device.specs.Shapes.{grid_rect, corners_step, IsStepped}
use Rattle.draw_device.specs.declared.grid.Extent.{Extent}
use Rattle.draw_device.proofs.BlockPixels.{kept_steps}
use Rattle.draw_device.proofs.ColumnsToPixels.{missed}

-- three vertices whose triangle isn't kept
none_steps : (s : State) (picture : Option Picture) (vs : List Vertex) (t : List ℕ) (g : Extent) (old : List Pixel)
    → kept_whole s vs t ≡ None → IsStepped (corners_step s picture vs t) g old old
none_steps s picture vs t g old e = record { each = λ i j hi hj. sym (rw e refl) }

-- three vertices whose triangle lies beside the part, where it is kept
pub beside_steps : CoverLiesInBounds → (s : State) (picture : Option Picture) (vs : List Vertex) (t : List ℕ) (g : Extent) (part : Rect) (near : Surrounds) (old : List Pixel)
    → IsPartWhere (grid_rect g) part (is_let_through s) → AreSurrounds part near → IsBesideIfKept s vs t near
    → IsStepped (corners_step s picture vs t) g old old
beside_steps bounds s picture vs t g part near old p n h = by (kept_whole s vs t) refl
  where
    by : (o : Option (List WindowVertex)) → kept_whole s vs t ≡ o → IsStepped (corners_step s picture vs t) g old old
    by None e = none_steps s picture vs t g old e
    by (Some v) e =
        let b = h v e in
        kept_steps s picture v vs t g old old e (missed s picture v g part p old (beside_empty bounds part v b.0 (beside_part near part v n b.1)))
