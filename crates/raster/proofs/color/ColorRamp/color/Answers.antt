use Rattle.std.proofs.Common.{◌≡◌, ap}
use Rattle.rc_base.specs.Numbers.{natural}
use Rattle.rc_base.specs.Drawing.Fragment.{fragment_of, channel_at}
use Rattle.rc_base.specs.declared.command.Rgba.{Rgba}
use Rattle.raster.proofs.color.ColorRamp.color.Goals as goal

pub returns-clause-across : goal.returns-clause-across
unfolding fragment_of
returns-clause-across c v x y k p few some inside =
    let r : c.mean.result ≡ channel_at v x y (λ (c : Rgba). c.r) = ap natural (c.mean.ensures.across v x y _ k p.r few some inside) in
    let g : c.mean-2.result ≡ channel_at v x y (λ (c : Rgba). c.g) = ap natural (c.mean-2.ensures.across v x y _ k p.g few some inside) in
    let b : c.mean-3.result ≡ channel_at v x y (λ (c : Rgba). c.b) = ap natural (c.mean-3.ensures.across v x y _ k p.b few some inside) in
    let a : c.mean-4.result ≡ channel_at v x y (λ (c : Rgba). c.a) = ap natural (c.mean-4.ensures.across v x y _ k p.a few some inside) in
    λ i. record { r = r i; g = g i; b = b i; a = a i }

pub returns-clause-up : goal.returns-clause-up
unfolding fragment_of
returns-clause-up c v x y k p few some inside =
    let r : c.mean.result ≡ channel_at v x y (λ (c : Rgba). c.r) = ap natural (c.mean.ensures.up v x y _ k p.r few some inside) in
    let g : c.mean-2.result ≡ channel_at v x y (λ (c : Rgba). c.g) = ap natural (c.mean-2.ensures.up v x y _ k p.g few some inside) in
    let b : c.mean-3.result ≡ channel_at v x y (λ (c : Rgba). c.b) = ap natural (c.mean-3.ensures.up v x y _ k p.b few some inside) in
    let a : c.mean-4.result ≡ channel_at v x y (λ (c : Rgba). c.a) = ap natural (c.mean-4.ensures.up v x y _ k p.a few some inside) in
    λ i. record { r = r i; g = g i; b = b i; a = a i }
