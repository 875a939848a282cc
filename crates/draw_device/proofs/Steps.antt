-- One more column of a loop over a run.
use Rattle.std.proofs.Common.{◌≡◌, ℕ, ◌+◌, ◌<◌, ◌≤◌, ℤ, pos, negsuc, ◌+ℤ◌, Bool, true, false, List, length, arith, ap, subst, sym, ◌∙◌, refl, length-set, Option, None, Some, if◌then◌else◌}
use Rattle.std.proofs.lemmas.Int.{ints, by_lt_z}
use Rattle.std.proofs.lemmas.List.{get_or-set_other}
use Rattle.std.proofs.lemmas.Grind.{get_or-set_at}
use Rattle.std.proofs.lemmas.Bool.{and_parts}
use Rattle.std.specs.Prelude.{slice_index_or}
use Rattle.fragment_ops.specs.Shortcuts.{writes_all}
use lib.ListN.{set}
use lib.IntN.{nat_abs}
use Rattle.rc_base.specs.Numbers.{natural}
use Rattle.rc_base.specs.Pictures.{Picture}
use Rattle.rc_base.specs.Drawing.PixelStep.{fragment_step, fragment_color, shaded, textured, written_color, passes_alpha}
use Rattle.rc_base.specs.declared.command.Rgba.{Rgba}
use Rattle.rc_base.specs.declared.state.State.{State}
use Rattle.rc_base.specs.declared.window.Fragment.{Fragment}
use Rattle.rc_base.specs.declared.window.Pixel.{Pixel}
use Rattle.rc_base.specs.declared.window.WindowVertex.{WindowVertex}
use Rattle.raster.specs.Colors.{IsColorRamp, is_depth}
use Rattle.raster.specs.Planes.{IsWordRamp}
use Rattle.raster.specs.declared.color.ColorRamp.{ColorRamp}
use Rattle.raster.specs.declared.word_plane.WordRamp.{WordRamp}
use Rattle.draw_device.specs.Loops.{run_fragment, texel_for, IsColorRun, IsDepthRun, IsFlagRun, AreColors, AreFlags, AreWritten, StoresColor}
use Rattle.draw_device.specs.Pixels.{color_at}
use Rattle.draw_device.specs.declared.run.Run.{Run}
use Rattle.textures.specs.Images.{HasTexel}
use Rattle.fragment_ops.specs.AlphaTests.{keeps_alpha, IsAlphaTest}
use Rattle.fragment_ops.specs.Blends.{mixed_color, masked_by}
use Rattle.fragment_ops.specs.declared.alpha.AlphaTest.{AlphaTest}

-- ---- ramps

pub color_moved : (v : List WindowVertex) (left k row up : ℕ) (r : ColorRamp)
    → IsColorRamp v (pos (left + k) +ℤ pos 1) (pos row) (1 + k + up + 1) r → IsColorRamp v (pos (left + (k + 1))) (pos row) (1 + (k + 1) + up) r
color_moved v left k row up r h =
    let e : pos (left + k) +ℤ pos 1 ≡ pos (left + (k + 1)) = omega (arith, ints) in
    let n : 1 + k + up + 1 ≡ 1 + (k + 1) + up = omega arith in
    subst (λ (m : ℕ). IsColorRamp v (pos (left + (k + 1))) (pos row) m r) n (subst (λ (z : ℤ). IsColorRamp v z (pos row) (1 + k + up + 1) r) e h)

pub value_moved : (v : List WindowVertex) (f : WindowVertex → ℤ) (left k row up : ℕ) (r : WordRamp)
    → IsWordRamp v (pos (left + k) +ℤ pos 1) (pos row) f (1 + k + up + 1) r → IsWordRamp v (pos (left + (k + 1))) (pos row) f (1 + (k + 1) + up) r
value_moved v f left k row up r h =
    let e : pos (left + k) +ℤ pos 1 ≡ pos (left + (k + 1)) = omega (arith, ints) in
    let n : 1 + k + up + 1 ≡ 1 + (k + 1) + up = omega arith in
    subst (λ (m : ℕ). IsWordRamp v (pos (left + (k + 1))) (pos row) f m r) n (subst (λ (z : ℤ). IsWordRamp v z (pos row) f (1 + k + up + 1) r) e h)

-- ---- a row of colours

pub color_more : (f : ℕ → Rgba → Rgba) (from x : ℕ) (old now : List Rgba) (q : Rgba) → IsColorRun f from x old now → from ≤ x → x < length now
    → q ≡ f x (color_at old x) → IsColorRun f from (x + 1) old (set now x q)
color_more f from x old now q d h l e = record {
  size = length-set _ _ _ ∙ d.size;
  run = λ k m n. by_lt_z (pos k) (pos x)
      (λ o. get_or-set_other now x k q _ (omega (arith, ints, o)) ∙ d.run k m (omega (arith, ints, o)))
      (λ o. let same : k ≡ x = omega (arith, ints, o, n) in
      get_or-set_at now x k q _ same l ∙ e ∙ sym (ap (λ (z : ℕ). f z (color_at old z)) same));
  before = λ k m. get_or-set_other now x k q _ (omega arith) ∙ d.before k m;
  after = λ k m. get_or-set_other now x k q _ (omega arith) ∙ d.after k (omega arith);
}

pub color_end : (f : ℕ → Rgba → Rgba) (from x to : ℕ) (old now : List Rgba) → x ≡ to → IsColorRun f from x old now → IsColorRun f from to old now
color_end f from x to old now e d = subst (λ (n : ℕ). IsColorRun f from n old now) e d

pub color_none : (f : ℕ → Rgba → Rgba) (from : ℕ) (old : List Rgba) → IsColorRun f from from old old
color_none f from old = record { size = refl; run = λ k m n. absurd (omega (arith, m, n)); before = λ k m. refl; after = λ k m. refl }

-- two runs, one behind the other
pub color_join : (f : ℕ → Rgba → Rgba) (from x to : ℕ) (old mid new : List Rgba) → from ≤ x → x ≤ to → IsColorRun f from x old mid → IsColorRun f x to mid new
    → IsColorRun f from to old new
color_join f from x to old mid new l h a b = record {
  size = b.size ∙ a.size;
  run = λ k m n. by_lt_z (pos k) (pos x)
      (λ o. b.before k (omega (arith, ints, o)) ∙ a.run k m (omega (arith, ints, o)))
      (λ o. b.run k (omega (arith, ints, o)) n ∙ ap (f k) (a.after k (omega (arith, ints, o))));
  before = λ k m. b.before k (omega (arith, l, m)) ∙ a.before k m;
  after = λ k m. b.after k m ∙ a.after k (omega (arith, h, m));
}

-- ---- a row of depths

pub depth_none : (d from : ℕ) (old : List ℕ) → IsDepthRun d from from old old
depth_none d from old = record { size = refl; run = λ k m n. absurd (omega (arith, m, n)); before = λ k m. refl; after = λ k m. refl }

pub depth_more : (d from x : ℕ) (old now : List ℕ) → IsDepthRun d from x old now → from ≤ x → x < length now → IsDepthRun d from (x + 1) old (set now x d)
depth_more q from x old now d h l = record {
  size = length-set _ _ _ ∙ d.size;
  run = λ k m n. by_lt_z (pos k) (pos x)
      (λ o. get_or-set_other now x k q _ (omega (arith, ints, o)) ∙ d.run k m (omega (arith, ints, o)))
      (λ o. let same : k ≡ x = omega (arith, ints, o, n) in get_or-set_at now x k q _ same l);
  before = λ k m. get_or-set_other now x k q _ (omega arith) ∙ d.before k m;
  after = λ k m. get_or-set_other now x k q _ (omega arith) ∙ d.after k (omega arith);
}

pub depth_end : (d from x to : ℕ) (old now : List ℕ) → x ≡ to → IsDepthRun d from x old now → IsDepthRun d from to old now
depth_end q from x to old now e d = subst (λ (n : ℕ). IsDepthRun q from n old now) e d

pub depth_join : (d from x to : ℕ) (old mid new : List ℕ) → from ≤ x → x ≤ to → IsDepthRun d from x old mid → IsDepthRun d x to mid new
    → IsDepthRun d from to old new
depth_join d from x to old mid new l h a b = record {
  size = b.size ∙ a.size;
  run = λ k m n. by_lt_z (pos k) (pos x)
      (λ o. b.before k (omega (arith, ints, o)) ∙ a.run k m (omega (arith, ints, o)))
      (λ o. b.run k (omega (arith, ints, o)) n);
  before = λ k m. b.before k (omega (arith, l, m)) ∙ a.before k m;
  after = λ k m. b.after k m ∙ a.after k (omega (arith, h, m));
}

-- ---- a row of flags

pub flag_more : (f : ℕ → Bool) (from x : ℕ) (old now : List Bool) (q : Bool) → IsFlagRun f from x old now → from ≤ x → x < length now
    → q ≡ f x → IsFlagRun f from (x + 1) old (set now x q)
flag_more f from x old now q d h l e = record {
  size = length-set _ _ _ ∙ d.size;
  run = λ k m n. by_lt_z (pos k) (pos x)
      (λ o. get_or-set_other now x k q _ (omega (arith, ints, o)) ∙ d.run k m (omega (arith, ints, o)))
      (λ o. let same : k ≡ x = omega (arith, ints, o, n) in
      get_or-set_at now x k q _ same l ∙ e ∙ sym (ap f same));
}

pub flag_end : (f : ℕ → Bool) (from x to : ℕ) (old now : List Bool) → x ≡ to → IsFlagRun f from x old now → IsFlagRun f from to old now
flag_end f from x to old now e d = subst (λ (n : ℕ). IsFlagRun f from n old now) e d

pub flags_are : (s : State) (p : Option Picture) (v : List WindowVertex) (r : Run) (t : AlphaTest) (colors : List Rgba) (old new : List Bool) → IsAlphaTest s t
    → AreColors s p v r colors → IsFlagRun (λ (k : ℕ). keeps_alpha t (color_at colors k).a) r.from r.to old new → AreFlags s p v r new
flags_are s p v r t colors old new h d f k low high =
    f.run k low high ∙ h (color_at colors k).a ∙ ap (λ (c : Rgba). passes_alpha s c.a) (d k low high)

-- ---- pixels

-- a depth in the buffer's range, as a number
pub natural_is : (z : ℤ) → is_depth z ≡ true → nat_abs z ≡ natural z
natural_is (pos n) h = refl
natural_is (negsuc n) h = absurd (cc h)

-- the step of a fragment whose depth is in range
pub step_of : (s : State) (p : Option Picture) (f : Fragment) (color : Rgba) (depth : ℤ) (n : ℕ) (old : Pixel) → is_depth depth ≡ true
    → color ≡ fragment_color s p f → depth ≡ f.depth → n ≡ natural depth → shaded s color n old ≡ fragment_step s p f old
step_of s p f color depth n old h c d e =
    (λ i. shaded s (c i) ((e ∙ ap (λ z. natural z) d) i) old) ∙ sym (rw (sym (ap (λ z. is_depth z) d) ∙ h) refl)

-- the step of a fragment that the depth test keeps out
pub kept_step : (s : State) (p : Option Picture) (f : Fragment) (depth : ℤ) (n : ℕ) (old : Pixel) → is_depth depth ≡ true → depth ≡ f.depth → n ≡ natural depth
    → shaded s (fragment_color s p f) n old ≡ old → fragment_step s p f old ≡ old
kept_step s p f depth n old h d e k = sym (step_of s p f (fragment_color s p f) depth n old h refl d e) ∙ k

pub alone_step : (s : State) (p : Option Picture) (f : Fragment) (color : Rgba) (old : Pixel) → StoresColor s → is_depth f.depth ≡ true → color ≡ fragment_color s p f
    → record { color = color; depth = old.depth } ≡ fragment_step s p f old
alone_step s p f color old h d c = sym (h color (natural f.depth) old) ∙ (λ i. shaded s (c i) (natural f.depth) old) ∙ sym (rw d refl)

-- a fragment whose alpha passes, where the alpha test is off
pub through_passes : (s : State) (alpha : ℕ) → s.alpha_on ≡ false → passes_alpha s alpha ≡ true
through_passes s alpha h = rw h refl

if_same : (b : Bool) (old : Pixel) → (if b then old else old) ≡ old
if_same true old = refl
if_same false old = refl

-- the step of a fragment that the alpha test keeps out
failed_is : (s : State) (color : Rgba) (depth : ℕ) (old : Pixel) → passes_alpha s color.a ≡ false → shaded s color depth old ≡ old
unfolding shaded
failed_is s color depth old h = rw h refl

pub failed_step : (s : State) (p : Option Picture) (f : Fragment) (old : Pixel) → passes_alpha s (fragment_color s p f).a ≡ false → fragment_step s p f old ≡ old
failed_step s p f old h =
    (λ i. if is_depth f.depth then failed_is s (fragment_color s p f) (natural f.depth) old h i else old) ∙ if_same (is_depth f.depth) old

-- the step of a fragment whose depth is out of range
pub beyond_step : (s : State) (p : Option Picture) (f : Fragment) (old : Pixel) → is_depth f.depth ≡ false → fragment_step s p f old ≡ old
beyond_step s p f old h = rw h refl

-- what is stored of a fragment whose depth is in range, where it takes no depth test, by whether its alpha passes
chosen_is : (s : State) (color written : Rgba) (depth : ℕ) (old : Pixel) (flag : Bool) → s.depth_on ≡ false → flag ≡ passes_alpha s color.a
    → written ≡ written_color s color old.color → record { color = if flag then written else old.color; depth = old.depth } ≡ shaded s color depth old
unfolding shaded
chosen_is s color written depth old true d e w = (λ i. record { color = w i; depth = old.depth }) ∙ sym (rw (sym e, d) refl)
chosen_is s color written depth old false d e w = sym (rw (sym e) refl)

pub chosen_step : (s : State) (p : Option Picture) (f : Fragment) (written : Rgba) (old : Pixel) (flag : Bool) → s.depth_on ≡ false → is_depth f.depth ≡ true
    → flag ≡ passes_alpha s (fragment_color s p f).a → written ≡ written_color s (fragment_color s p f) old.color
    → record { color = if flag then written else old.color; depth = old.depth } ≡ fragment_step s p f old
chosen_step s p f written old flag d r e w = chosen_is s (fragment_color s p f) written (natural f.depth) old flag d e w ∙ sym (rw r refl)

-- what is stored of a fragment whose depth is in range, where it takes no test
pub stored_step : (s : State) (p : Option Picture) (f : Fragment) (color : Rgba) (old : Pixel) → s.alpha_on ≡ false → s.depth_on ≡ false
    → is_depth f.depth ≡ true → color ≡ written_color s (fragment_color s p f) old.color → record { color = color; depth = old.depth } ≡ fragment_step s p f old
unfolding shaded
stored_step s p f color old a d r w = (λ i. record { color = w i; depth = old.depth }) ∙ sym (rw (r, a, d) refl)

-- ---- the first column of a run

pub color_start : (v : List WindowVertex) (left bottom row up from i j : ℕ) (r : ColorRamp) → i ≡ from → j ≡ up → row ≡ bottom + up
    → IsColorRamp v (pos left +ℤ pos i) (pos bottom +ℤ pos j) (1 + i + j) r → IsColorRamp v (pos (left + from)) (pos row) (1 + from + up) r
color_start v left bottom row up from i j r e f g h =
    let x : pos left +ℤ pos i ≡ pos (left + from) = omega (arith, ints) in
    let y : pos bottom +ℤ pos j ≡ pos row = omega (arith, ints) in
    let n : 1 + i + j ≡ 1 + from + up = omega arith in
    subst (λ (m : ℕ). IsColorRamp v (pos (left + from)) (pos row) m r) n
    (subst (λ (z : ℤ). IsColorRamp v (pos (left + from)) z (1 + i + j) r) y (subst (λ (z : ℤ). IsColorRamp v z (pos bottom +ℤ pos j) (1 + i + j) r) x h))

pub value_start : (v : List WindowVertex) (a : WindowVertex → ℤ) (left bottom row up from i j : ℕ) (r : WordRamp) → i ≡ from → j ≡ up → row ≡ bottom + up
    → IsWordRamp v (pos left +ℤ pos i) (pos bottom +ℤ pos j) a (1 + i + j) r → IsWordRamp v (pos (left + from)) (pos row) a (1 + from + up) r
value_start v a left bottom row up from i j r e f g h =
    let x : pos left +ℤ pos i ≡ pos (left + from) = omega (arith, ints) in
    let y : pos bottom +ℤ pos j ≡ pos row = omega (arith, ints) in
    let n : 1 + i + j ≡ 1 + from + up = omega arith in
    subst (λ (m : ℕ). IsWordRamp v (pos (left + from)) (pos row) a m r) n
    (subst (λ (z : ℤ). IsWordRamp v (pos (left + from)) z a (1 + i + j) r) y (subst (λ (z : ℤ). IsWordRamp v z (pos bottom +ℤ pos j) a (1 + i + j) r) x h))

-- ---- the texture stage

textured_is : (s : State) (p : Option Picture) (f : Fragment) → HasTexel p → textured s f.color (texel_for s p f) ≡ fragment_color s p f
textured_is s None f h = absurd h
textured_is s (Some p) f h = refl

pub replaced_are : (s : State) (p : Option Picture) (v : List WindowVertex) (r : Run) (old new : List Rgba) → HasTexel p
    → ((color texel : Rgba) → textured s color texel ≡ texel) → IsColorRun (λ (k : ℕ) (c : Rgba). texel_for s p (run_fragment v r k)) r.from r.to old new
    → AreColors s p v r new
replaced_are s p v r old new h t d k low high =
    d.run k low high ∙ sym (t (run_fragment v r k).color (texel_for s p (run_fragment v r k))) ∙ textured_is s p (run_fragment v r k) h

pub tinted_are : (s : State) (p : Option Picture) (v : List WindowVertex) (r : Run) (old mid new : List Rgba) → HasTexel p
    → IsColorRun (λ (k : ℕ) (c : Rgba). texel_for s p (run_fragment v r k)) r.from r.to old mid
    → IsColorRun (λ (k : ℕ) (c : Rgba). textured s (run_fragment v r k).color c) r.from r.to mid new → AreColors s p v r new
tinted_are s p v r old mid new h d e k low high =
    e.run k low high ∙ ap (λ (c : Rgba). textured s (run_fragment v r k).color c) (d.run k low high) ∙ textured_is s p (run_fragment v r k) h

-- the colours of fragments without a texture
pub own_are : (s : State) (p : Option Picture) (v : List WindowVertex) (r : Run) (g : ℕ → Rgba → Rgba) (old new : List Rgba) → p ≡ None
    → ((k : ℕ) → r.from ≤ k → k < r.to → (o : Rgba) → g k o ≡ (run_fragment v r k).color) → IsColorRun g r.from r.to old new → AreColors s p v r new
own_are s p v r g old new none h d =
    subst (λ (q : Option Picture). AreColors s q v r new) (sym none) (λ k low high. d.run k low high ∙ h k low high (color_at old k))

-- ---- what is to be written

mixed_is : (s : State) (c old : Rgba) → s.blend_on ≡ false → mixed_color s c old ≡ c
mixed_is s c old h = rw h refl

pub masked_are : (s : State) (p : Option Picture) (v : List WindowVertex) (r : Run) (stored old new : List Rgba) → s.blend_on ≡ false → AreColors s p v r old
    → IsColorRun (λ (k : ℕ) (c : Rgba). masked_by s.color_mask c (color_at stored k)) r.from r.to old new → AreWritten s p v r stored new
masked_are s p v r stored old new off h d k low high =
    d.run k low high
    ∙ ap (λ (c : Rgba). masked_by s.color_mask c (color_at stored k)) (h k low high ∙ sym (mixed_is s (fragment_color s p (run_fragment v r k)) (color_at stored k) off))

-- a mask that writes all channels
full_mask : (flags : List Bool) (c old : Rgba) → writes_all flags ≡ true → masked_by flags c old ≡ c
full_mask flags c old h =
    let p = and_parts (slice_index_or flags 0 false) _ h in
    let q = and_parts (slice_index_or flags 1 false) _ p.1 in
    let r = and_parts (slice_index_or flags 2 false) _ q.1 in
    rw (p.0, q.0, r.0, r.1) refl

pub full_are : (s : State) (p : Option Picture) (v : List WindowVertex) (r : Run) (stored old new : List Rgba) → writes_all s.color_mask ≡ true → AreColors s p v r old
    → IsColorRun (λ (k : ℕ) (c : Rgba). mixed_color s c (color_at stored k)) r.from r.to old new → AreWritten s p v r stored new
full_are s p v r stored old new full h d k low high =
    d.run k low high ∙ ap (λ (c : Rgba). mixed_color s c (color_at stored k)) (h k low high)
    ∙ sym (full_mask s.color_mask (mixed_color s (fragment_color s p (run_fragment v r k)) (color_at stored k)) (color_at stored k) full)

pub mixed_are : (s : State) (p : Option Picture) (v : List WindowVertex) (r : Run) (stored old mid new : List Rgba) → AreColors s p v r old
    → IsColorRun (λ (k : ℕ) (c : Rgba). mixed_color s c (color_at stored k)) r.from r.to old mid
    → IsColorRun (λ (k : ℕ) (c : Rgba). masked_by s.color_mask c (color_at stored k)) r.from r.to mid new → AreWritten s p v r stored new
mixed_are s p v r stored old mid new h d e k low high =
    e.run k low high
    ∙ ap (λ (c : Rgba). masked_by s.color_mask c (color_at stored k)) (d.run k low high ∙ ap (λ (c : Rgba). mixed_color s c (color_at stored k)) (h k low high))

pub plain_are : (s : State) (p : Option Picture) (v : List WindowVertex) (r : Run) (stored colors : List Rgba)
    → ((color old : Rgba) → written_color s color old ≡ color) → AreColors s p v r colors → AreWritten s p v r stored colors
plain_are s p v r stored colors h d k low high = d k low high ∙ sym (h (fragment_color s p (run_fragment v r k)) (color_at stored k))

pub blended_are : (s : State) (p : Option Picture) (v : List WindowVertex) (r : Run) (stored old new : List Rgba) → AreColors s p v r old
    → IsColorRun (λ (k : ℕ) (c : Rgba). written_color s c (color_at stored k)) r.from r.to old new → AreWritten s p v r stored new
blended_are s p v r stored old new h d k low high =
    d.run k low high ∙ ap (λ (c : Rgba). written_color s c (color_at stored k)) (h k low high)
