use Rattle.std.proofs.Common.{ℕ}
use Rattle.rc_base.specs.declared.state.Effect.TheVariants as eff
use Rattle.bounds_bucket.specs.Boxes.{IsBoxIfAny}
use Rattle.bounds_bucket.proofs.BoxTiles.{box_if_any, clear_boxed, touched_by, touched_clear, tiles_by}
use Rattle.bounds_bucket.proofs.boxes.clear_box.Goals as goal

pub returns : goal.returns
returns c =
    let s = c.args.state.now in
    let window = c.args.window in
    let box : (mask : ℕ) → IsBoxIfAny s (eff.Clear mask) window c.some_rect.result =
    λ mask. box_if_any s (eff.Clear mask) window c.scissored.result c.some_rect.result (clear_boxed s mask window c.scissored.result c.scissored.ensures) c.some_rect.ensures in
    record {
      exact = box;
      touched = λ mask. touched_by s (eff.Clear mask) window c.some_rect.result (touched_clear s mask) (box mask);
      tiles = λ mask. tiles_by s (eff.Clear mask) window c.some_rect.result (box mask);
    }
