use Rattle.std.proofs.Common.{◌≡◌, ℕ, ◌^◌, ◌<◌, ◌/◌, List, ℤ, pos, ◌<ℤ◌, true, rules}
use Rattle.rc_base.specs.Drawing.Cover.{triangle_area, is_inside, corner}
use Rattle.rc_base.specs.Drawing.Fragment.{interpolated}
use Rattle.rc_base.specs.declared.window.WindowVertex.{WindowVertex}
use Rattle.raster.specs.Planes.{sum_at, IsByteQuotient, AreFromTo}
use Rattle.raster.proofs.ByteQuotients.{byte_is_floor}
use Rattle.raster.proofs.Average.{inside_weights, average_low, average_high}
use Rattle.raster.proofs.byte_plane.ByteRamp.mean.Goals as goal

top_byte : (v : List WindowVertex) (x y : ℤ) (f : WindowVertex → ℤ) (k at : ℕ) → AreFromTo (pos 0) (pos 255) v f → IsByteQuotient (sum_at v x y f) (triangle_area v) k at
    → at < 2 ^ 64 → k < 2 ^ 12 → pos 0 <ℤ triangle_area v → is_inside v x y ≡ true → pos (at / 2 ^ 56) ≡ interpolated v x y f
unfolding sum_at interpolated
top_byte v x y f k at b quotient fits few some inside =
    let w = inside_weights v x y inside in
    let low = average_low _ _ _ (f (corner v 0)) (f (corner v 1)) (f (corner v 2)) (triangle_area v) (pos 0) w.first w.second w.third w.total some b.0.0 b.1.0 b.2.0 in
    let high = average_high _ _ _ (f (corner v 0)) (f (corner v 1)) (f (corner v 2)) (triangle_area v) (pos 255) w.first w.second w.third w.total some b.0.1 b.1.1 b.2.1 in
    byte_is_floor _ (triangle_area v) k at quotient few fits some low high

pub returns-clause-across : goal.returns-clause-across
returns-clause-across c v x y f k r few some inside = top_byte v x y f k c.args.self.now.at r.bytes r.at (search rules) few some inside

pub returns-clause-up : goal.returns-clause-up
returns-clause-up c v x y f k r few some inside = top_byte v x y f k c.args.self.now.at r.bytes r.at (search rules) few some inside
