-- The steps of states with few stages.
use Rattle.std.proofs.Common.{◌≡◌, ℕ, ◌/◌, ◌%◌, true, false, List, refl, arith, ap, sym, ◌∙◌, slice_index, slice_index_or, not, Bool, ◌&&◌, ◌==◌, if◌then◌else◌}
use Rattle.std.proofs.lemmas.Bool.{and_parts, eqb-true, not-true}
use Rattle.std.proofs.Math.Bool.{and-false}
use Rattle.rc_base.specs.Colors.{rgba, prod}
use Rattle.rc_base.specs.Drawing.PixelStep.{shaded, passes_alpha, passes_depth, written_color, cleared, cleared_depth}
use Rattle.rc_base.specs.declared.command.Rgba.{Rgba}
use Rattle.rc_base.specs.declared.state.State.{State}
use Rattle.rc_base.specs.declared.window.Pixel.{Pixel}
use Rattle.fragment_ops.specs.Shortcuts.{writes_all, writes_plainly, stores_alone, blends_by, color_over, color_sum}
use Rattle.fragment_ops.specs.DepthTests.{passes, IsDepthTest, tested_pixel}
use Rattle.fragment_ops.specs.Clearings.{IsClearing, cleared_by, writes_pixel}
use Rattle.fragment_ops.specs.declared.depth.DepthTest.{DepthTest}
use Rattle.fragment_ops.specs.declared.clear.Clearing.{Clearing}

flags_on : (flags : List Bool) → writes_all flags ≡ true
    → (slice_index_or flags 0 false ≡ true) × (slice_index_or flags 1 false ≡ true) × (slice_index_or flags 2 false ≡ true) × (slice_index_or flags 3 false ≡ true)
flags_on flags h =
    let p = and_parts (slice_index_or flags 0 false) _ h in
    let q = and_parts (slice_index_or flags 1 false) _ p.1 in
    let r = and_parts (slice_index_or flags 2 false) _ q.1 in
    (p.0, q.0, r.0, r.1)

-- ---- colours

pub plain_is : (s : State) (c old : Rgba) → writes_plainly s ≡ true → written_color s c old ≡ c
unfolding writes_plainly
plain_is s c old h =
    let b = and_parts (not s.blend_on) (writes_all s.color_mask) h in
    let m = flags_on s.color_mask b.1 in
    rw (not-true s.blend_on b.0, m.0, m.1, m.2, m.3) refl

-- what blending by two factors says of a state
record IsBlended (source stored : ℕ) (s : State) : Type 0 where
  blend : s.blend_on ≡ true
  flags : (slice_index_or s.color_mask 0 false ≡ true) × (slice_index_or s.color_mask 1 false ≡ true) × (slice_index_or s.color_mask 2 false ≡ true) × (slice_index_or s.color_mask 3 false ≡ true)
  first : slice_index s.blend 0 ≡ source
  second : slice_index s.blend 1 ≡ stored

blended_by : (source stored : ℕ) (s : State) → blends_by source stored s ≡ true → IsBlended source stored s
unfolding blends_by
blended_by source stored s h =
    let codes = slice_index s.blend 0 == source && slice_index s.blend 1 == stored in
    let b = and_parts s.blend_on (writes_all s.color_mask && codes) h in
    let w = and_parts (writes_all s.color_mask) codes b.1 in
    let d = and_parts (slice_index s.blend 0 == source) (slice_index s.blend 1 == stored) w.1 in
    record {
      blend = b.0;
      flags = flags_on s.color_mask w.0;
      first = eqb-true (slice_index s.blend 0) source d.0;
      second = eqb-true (slice_index s.blend 1) stored d.1;
    }

pub over_is : (s : State) (c old : Rgba) → blends_by 6 7 s ≡ true → color_over c old ≡ written_color s c old
unfolding color_over
over_is s c old h =
    let e = blended_by 6 7 s h in
    let f = e.flags in
    rw (e.blend, f.0, f.1, f.2, f.3, e.first, e.second) refl

-- the product with 255 is the channel
whole : (a : ℕ) → prod a 255 ≡ a
whole a = omega arith

pub sum_is : (s : State) (c old : Rgba) → blends_by 1 1 s ≡ true → color_sum c old ≡ written_color s c old
unfolding color_sum
sum_is s c old h =
    let e = blended_by 1 1 s h in
    let f = e.flags in
    rw (e.blend, f.0, f.1, f.2, f.3, e.first, e.second, whole c.r, whole c.g, whole c.b, whole c.a, whole old.r, whole old.g, whole old.b, whole old.a) refl

-- ---- pixels

-- a pixel whose fragment passed its depth test, and one whose fragment didn't
pub passed_is : (t : DepthTest) (c : Rgba) (depth : ℕ) (old : Pixel) → passes t depth old.depth ≡ true
    → record { color = c; depth = if t.stores then depth else old.depth } ≡ tested_pixel t c depth old
unfolding tested_pixel
passed_is t c depth old h = rw h refl

pub failed_is : (t : DepthTest) (c : Rgba) (depth : ℕ) (old : Pixel) → passes t depth old.depth ≡ false → old ≡ tested_pixel t c depth old
unfolding tested_pixel
failed_is t c depth old h = rw h refl

pub tested_is : (s : State) (t : DepthTest) (c color : Rgba) (depth : ℕ) (old : Pixel) → IsDepthTest s t → passes_alpha s c.a ≡ true
    → color ≡ written_color s c old.color → tested_pixel t color depth old ≡ shaded s c depth old
unfolding tested_pixel shaded
tested_is s t c color depth old p alpha w =
    (λ i. if p.passes depth old.depth i then record { color = w i; depth = if p.stores i then depth else old.depth } else old) ∙ rw alpha refl

-- a pixel whose fragment doesn't pass the depth test
pub kept_is : (s : State) (t : DepthTest) (c : Rgba) (depth stored : ℕ) (old : Pixel) → IsDepthTest s t → passes t depth stored ≡ false → old.depth ≡ stored
    → shaded s c depth old ≡ old
unfolding shaded
kept_is s t c depth stored old p h d =
    let fails : passes_depth s depth old.depth ≡ false = sym (p.passes depth old.depth) ∙ ap (λ (n : ℕ). passes t depth n) d ∙ h in
    rw (fails, and-false (passes_alpha s c.a)) refl

stored_is : (s : State) (c color : Rgba) (depth : ℕ) (old : Pixel) → s.alpha_on ≡ false → s.depth_on ≡ false → color ≡ written_color s c old.color
    → record { color = color; depth = old.depth } ≡ shaded s c depth old
unfolding shaded
stored_is s c color depth old alpha depths w = (λ i. record { color = w i; depth = old.depth }) ∙ rw (alpha, depths) refl

pub alone_is : (s : State) (c : Rgba) (depth : ℕ) (old : Pixel) → stores_alone s ≡ true → shaded s c depth old ≡ record { color = c; depth = old.depth }
unfolding stores_alone
alone_is s c depth old h =
    let e = and_parts (not s.depth_on) (not s.alpha_on && writes_plainly s) h in
    let a = and_parts (not s.alpha_on) (writes_plainly s) e.1 in
    sym (stored_is s c c depth old (not-true s.alpha_on a.0) (not-true s.depth_on e.0) (sym (plain_is s c old.color a.1)))

-- ---- Clear

by_mask : (t r g b a : Bool) (c old : Rgba)
    → rgba (if t && r then c.r else old.r) (if t && g then c.g else old.g) (if t && b then c.b else old.b) (if t && a then c.a else old.a)
    ≡ (if t then rgba (if r then c.r else old.r) (if g then c.g else old.g) (if b then c.b else old.b) (if a then c.a else old.a) else old)
by_mask true r g b a c old = refl
by_mask false r g b a c old = refl

pub cleared_is : (s : State) (mask : ℕ) (c : Clearing) (old : Pixel) → IsClearing s mask c → cleared_by c old ≡ cleared s mask old
unfolding cleared_by cleared
cleared_is s mask c old p =
    (λ i. record {
      color = rgba (if p.red i then (p.color i).r else old.color.r) (if p.green i then (p.color i).g else old.color.g)
          (if p.blue i then (p.color i).b else old.color.b) (if p.opacity i then (p.color i).a else old.color.a);
      depth = if p.sets_depth i then p.depth i else old.depth;
    })
    ∙ (λ i. record {
      color = by_mask (mask % 2 == 1) (slice_index_or s.color_mask 0 false) (slice_index_or s.color_mask 1 false) (slice_index_or s.color_mask 2 false)
          (slice_index_or s.color_mask 3 false) s.clear_color old.color i;
      depth = if (mask / 2) % 2 == 1 && s.depth_mask then cleared_depth s else old.depth;
    })

all_on : (c : Clearing) (old : Pixel) → c.red ≡ true → c.green ≡ true → c.blue ≡ true → c.opacity ≡ true → c.sets_depth ≡ true
    → cleared_by c old ≡ record { color = c.color; depth = c.depth }
unfolding cleared_by
all_on c old r g b a d = rw (r, g, b, a, d) refl

pub whole_is : (c : Clearing) (old : Pixel) → writes_pixel c ≡ true → cleared_by c old ≡ record { color = c.color; depth = c.depth }
whole_is c old h =
    let r = and_parts c.red _ h in
    let g = and_parts c.green _ r.1 in
    let b = and_parts c.blue _ g.1 in
    let a = and_parts c.opacity c.sets_depth b.1 in
    all_on c old r.0 g.0 b.0 a.0 a.1

pub pixel_is : (s : State) (mask : ℕ) (c : Clearing) (old : Pixel) → writes_pixel c ≡ true → IsClearing s mask c
    → record { color = c.color; depth = c.depth } ≡ cleared s mask old
pixel_is s mask c old h p = sym (whole_is c old h) ∙ cleared_is s mask c old p
