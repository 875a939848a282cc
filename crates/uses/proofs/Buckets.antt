-- The tiles to which a command is sent: those that meet its box.
use Rattle.std.proofs.Common.{◌≡◌, ℕ, ◌<◌, ◌≤◌, ◌&&◌, Bool, true, Option, Some, None, sym, ap₂, ◌∙◌, arith, lt-ltb, pos}
use Rattle.std.specs.Prelude.{IfSome}
use Rattle.std.proofs.lemmas.Bool.{true≢false}
use Rattle.rc_base.specs.Cluster.Tiles.{tile_count, tile_pixels}
use Rattle.rc_base.specs.Drawing.Touch.{touches}
use Rattle.rc_base.specs.Orders.Journal.{has}
use Rattle.rc_base.specs.declared.state.Effect.{Effect}
use Rattle.rc_base.specs.declared.state.State.{State}
use Rattle.rc_base.specs.declared.window.Layout.{Layout}
use Rattle.rc_base.specs.declared.window.Rect.{Rect}
use Rattle.bounds_bucket.specs.Boxes.{whole_window, MeetsSameTiles, TouchedTilesMeetTheBox}
use Rattle.bounds_bucket.specs.Tiles.{meets_area}

-- each tile that has a pixel that the command touches is among those that meet its box
pub are_sent : (l : Layout) (s : State) (effect : Effect) (window : Rect) (box : Option Rect) (tiles : ℕ)
    → tile_count l ≤ 32 → TouchedTilesMeetTheBox → whole_window l ≡ window → MeetsSameTiles s effect window box
    → IfSome box (λ r. (t : ℕ) → t < 32 → has tiles t ≡ meets_area l r t)
    → (tile x y : ℕ) → tile < tile_count l → tile_pixels l tile x y ≡ true → touches s effect (pos x) (pos y) ≡ true → has tiles tile ≡ true
are_sent l s effect window None tiles few law whole same met tile x y low here touched =
    absurd (true≢false (sym (law l s effect tile x y here touched) ∙ same l tile whole low))
are_sent l s effect window (Some r) tiles few law whole same met tile x y low here touched =
    met tile (omega (arith, low, few))
    ∙ ap₂ (λ (a b : Bool). a && b) (lt-ltb tile (tile_count l) low) (sym (same l tile whole low) ∙ law l s effect tile x y here touched)
