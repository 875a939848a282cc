use Rattle.std.proofs.Common.{◌≡◌, ◌≤◌, length, ap, ◌∙◌, arith}
use Rattle.rc_base.specs.Drawing.Nearer.{nearer}
use Rattle.sort_last.specs.Layers.{pixel_in, composite_of}
use Rattle.sort_last.proofs.Composites.{composite_pixel, composite_behind, composite_before}
use Rattle.sort_last.proofs.layer.composite.Goals as goal

pub returns-then-len-clause-layer : goal.returns-then-len-clause-layer
returns-then-len-clause-layer c =
    let a = c.into_vec-first.result.items in
    let b = c.into_vec-second.result.items in
    let behind = c.as_slice.result.now in
    let is : behind ≡ b = c.as_slice.ensures.value in
    let le : length b ≤ length a = omega (arith, c.if-len.true, c.len.ensures, c.len-2.ensures, c.into_vec-first.result.ok, c.into_vec-second.result.ok) in
    c.from_vec.ensures
    ∙ composite_behind a b c.put_behind.new.front.items c.put_behind.ensures.size le (λ k lt. c.put_behind.ensures.each k lt ∙ ap (λ l. nearer (pixel_in a k) (pixel_in l k)) is)
    ∙ (λ i. composite_of (c.into_vec-first.ensures i) (c.into_vec-second.ensures i))

pub returns-else-len-clause-layer : goal.returns-else-len-clause-layer
returns-else-len-clause-layer c =
    let a = c.into_vec-first.result.items in
    let b = c.into_vec-second.result.items in
    let front = c.as_slice-else-len.result.now in
    let is : front ≡ a = c.as_slice-else-len.ensures.value in
    let le : length a ≤ length b = omega (arith, c.if-len.false, c.len.ensures, c.len-2.ensures, c.into_vec-first.result.ok, c.into_vec-second.result.ok) in
    c.from_vec-else-len.ensures
    ∙ composite_before a b c.put_before.new.behind.items c.put_before.ensures.size le (λ k lt. c.put_before.ensures.each k lt ∙ ap (λ l. nearer (pixel_in l k) (pixel_in b k)) is)
    ∙ (λ i. composite_of (c.into_vec-first.ensures i) (c.into_vec-second.ensures i))

pub returns-then-len-clause-pixels : goal.returns-then-len-clause-pixels
returns-then-len-clause-pixels c k = ap (λ l. pixel_in l k) (returns-then-len-clause-layer c) ∙ composite_pixel c.args.a.pixels c.args.b.pixels k

pub returns-else-len-clause-pixels : goal.returns-else-len-clause-pixels
returns-else-len-clause-pixels c k = ap (λ l. pixel_in l k) (returns-else-len-clause-layer c) ∙ composite_pixel c.args.a.pixels c.args.b.pixels k
