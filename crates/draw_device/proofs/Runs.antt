-- The pixels of a run, one after the other and by a row of colours.
use Rattle.std.proofs.Common.{Option, None, Some, Bool, false, if◌then◌else◌, ◌≡◌, ℕ, ◌+◌, ◌<◌, ◌≤◌, ℤ, pos, List, length, arith, ap, subst, sym, refl, ◌∙◌, length-set}
use Rattle.std.proofs.lemmas.Int.{ints, by_lt_z}
use Rattle.std.proofs.lemmas.List.{get_or-set_other}
use Rattle.std.proofs.lemmas.Grind.{get_or-set_at}
use lib.ListN.{set}
use Rattle.rc_base.specs.Pictures.{Picture}
use Rattle.rc_base.specs.Drawing.Fragment.{fragment_of}
use Rattle.rc_base.specs.declared.command.Rgba.{Rgba}
use Rattle.rc_base.specs.declared.state.State.{State}
use Rattle.rc_base.specs.declared.window.Pixel.{Pixel}
use Rattle.rc_base.specs.declared.window.WindowVertex.{WindowVertex}
use Rattle.fragment_ops.specs.DepthTests.{pixel}
use Rattle.raster.specs.Colors.{AreFlat, HasDepths}
use Rattle.draw_device.specs.Pixels.{pixel_at, color_at, depth_at, flag_at, pixels_of}
use Rattle.draw_device.specs.Shapes.{fragment_pixel, IsRunStepped}
use Rattle.draw_device.specs.Loops.{run_fragment, AreCovered, IsCoveredRow, IsPlaceInReach, IsRunCovered, IsRunDrawn, IsColorStepped, IsVisibleFrom, IsColorRun, IsDepthRun, StoresColor, AreWritten, AreFlags}
use Rattle.draw_device.specs.Plans.{AreStored, AreUntested}
use Rattle.draw_device.proofs.Lists.{length_pixels, pixel_in, set_pixel}
use Rattle.draw_device.proofs.Steps.{alone_step, stored_step, chosen_step}
use Rattle.draw_device.specs.declared.run.Run.{Run}
use Rattle.textures.specs.Images.{HasTexel, HasTexelIfAny}
use Rattle.textures.specs.Samplers.{IsSampler}
use Rattle.textures.specs.declared.sampler.Sampler.{Sampler}

run_more : (f : ℤ → ℤ → Pixel → Pixel) (left row from x : ℕ) (old now : List Pixel) (p : Pixel) → IsRunStepped f left row from x old now → from ≤ x → x < length now
    → p ≡ f (pos (left + x)) (pos row) (pixel_at now x) → IsRunStepped f left row from (x + 1) old (set now x p)
run_more f left row from x old now p d h l s = record {
  size = length-set _ _ _ ∙ d.size;
  run = λ k m n. by_lt_z (pos k) (pos x)
      (λ o. get_or-set_other now x k p _ (omega (arith, ints, o)) ∙ d.run k m (omega (arith, ints, o)))
      (λ o. let same : k ≡ x = omega (arith, ints, o, n) in
      get_or-set_at now x k p _ same l ∙ s ∙ ap (λ (o : Pixel). f (pos (left + x)) (pos row) o) (d.after x (omega arith))
      ∙ sym (ap (λ (z : ℕ). f (pos (left + z)) (pos row) (pixel_at old z)) same));
  before = λ k m. get_or-set_other now x k p _ (omega arith) ∙ d.before k m;
  after = λ k m. get_or-set_other now x k p _ (omega arith) ∙ d.after k (omega arith);
}

pub run_end : (f : ℤ → ℤ → Pixel → Pixel) (left row from x to : ℕ) (old now : List Pixel)
    → x ≡ to → IsRunStepped f left row from x old now → IsRunStepped f left row from to old now
run_end f left row from x to old now e d = subst (λ (n : ℕ). IsRunStepped f left row from n old now) e d

-- a run of which nothing is left
pub run_none : (f : ℤ → ℤ → Pixel → Pixel) (left row from : ℕ) (old : List Pixel) → IsRunStepped f left row from from old old
run_none f left row from old = record {
  size = refl;
  run = λ k m n. absurd (omega (arith, m, n));
  before = λ k m. refl;
  after = λ k m. refl;
}

-- one more pixel, by its colour and its depth
pub run_pixel : (f : ℤ → ℤ → Pixel → Pixel) (left row from x : ℕ) (old : List Pixel) (cs : List Rgba) (ds : List ℕ) (c : Rgba) (d : ℕ) → length ds ≡ length cs
    → IsRunStepped f left row from x old (pixels_of cs ds) → from ≤ x → x < length cs
    → pixel c d ≡ f (pos (left + x)) (pos row) (pixel (color_at cs x) (depth_at ds x))
    → IsRunStepped f left row from (x + 1) old (pixels_of (set cs x c) (set ds x d))
run_pixel f left row from x old cs ds c d e h l m s =
    subst (λ (new : List Pixel). IsRunStepped f left row from (x + 1) old new) (set_pixel cs ds x c d e)
    (run_more f left row from x old (pixels_of cs ds) (pixel c d) h l (omega (arith, length_pixels cs ds e))
    (s ∙ ap (λ (o : Pixel). f (pos (left + x)) (pos row) o) (sym (pixel_in cs ds x e))))

-- a row whose colours alone took a step
pub run_colored : (f : ℤ → ℤ → Pixel → Pixel) (g : ℕ → Rgba → Rgba) (left row from to : ℕ) (old new : List Rgba) (ds : List ℕ) → length ds ≡ length old
    → IsColorRun g from to old new
    → ((k : ℕ) → from ≤ k → k < to → pixel (g k (color_at old k)) (depth_at ds k) ≡ f (pos (left + k)) (pos row) (pixel (color_at old k) (depth_at ds k)))
    → IsRunStepped f left row from to (pixels_of old ds) (pixels_of new ds)
run_colored f g left row from to old new ds e d h = record {
  size = length_pixels new ds (e ∙ sym d.size) ∙ d.size ∙ sym (length_pixels old ds e);
  run = λ k m n. at k ∙ (λ i. pixel (d.run k m n i) (depth_at ds k)) ∙ h k m n ∙ ap (λ (o : Pixel). f (pos (left + k)) (pos row) o) (sym (pixel_in old ds k e));
  before = λ k m. at k ∙ (λ i. pixel (d.before k m i) (depth_at ds k)) ∙ sym (pixel_in old ds k e);
  after = λ k m. at k ∙ (λ i. pixel (d.after k m i) (depth_at ds k)) ∙ sym (pixel_in old ds k e);
}
  where
    at : (k : ℕ) → pixel_at (pixels_of new ds) k ≡ pixel (color_at new k) (depth_at ds k)
    at k = pixel_in new ds k (e ∙ sym d.size)

-- a row whose colours are one and whose depths are one
pub run_filled : (f : ℤ → ℤ → Pixel → Pixel) (left row from to : ℕ) (c : Rgba) (d : ℕ) (old new : List Rgba) (ds es : List ℕ) → length ds ≡ length old
    → IsColorRun (λ (k : ℕ) (o : Rgba). c) from to old new → IsDepthRun d from to ds es → ((x y : ℤ) (o : Pixel) → pixel c d ≡ f x y o)
    → IsRunStepped f left row from to (pixels_of old ds) (pixels_of new es)
run_filled f left row from to c d old new ds es e a b h = record {
  size = length_pixels new es alike ∙ a.size ∙ sym (length_pixels old ds e);
  run = λ k m n. at k ∙ (λ i. pixel (a.run k m n i) (b.run k m n i)) ∙ h _ _ _;
  before = λ k m. at k ∙ (λ i. pixel (a.before k m i) (b.before k m i)) ∙ sym (pixel_in old ds k e);
  after = λ k m. at k ∙ (λ i. pixel (a.after k m i) (b.after k m i)) ∙ sym (pixel_in old ds k e);
}
  where
    alike : length es ≡ length new
    alike = b.size ∙ e ∙ sym a.size

    at : (k : ℕ) → pixel_at (pixels_of new es) k ≡ pixel (color_at new k) (depth_at es k)
    at k = pixel_in new es k alike

-- a row whose colours alone are stored
pub run_alone : (s : State) (v : List WindowVertex) (left row from to : ℕ) (g : ℕ → Rgba → Rgba) (old new : List Rgba) → StoresColor s → HasDepths v
    → AreCovered v left row from to → ((k : ℕ) → from ≤ k → k < to → (o : Rgba) → g k o ≡ (fragment_of v (pos (left + k)) (pos row)).color)
    → IsColorRun g from to old new → IsColorStepped s None v left row from to old new
run_alone s v left row from to g old new kind ranged covered colors d ds e =
    run_colored (fragment_pixel s None v) g left row from to old new ds e d
    (λ k m n. alone_step s None (fragment_of v (pos (left + k)) (pos row)) (g k (color_at old k)) (pixel (color_at old k) (depth_at ds k)) kind (ranged _ _ (covered k m n))
    (colors k m n _))

-- the same by the way that was settled: of one colour, and of a plane of colours
pub filled_run : (s : State) (p : Option Picture) (v : List WindowVertex) (left row from to : ℕ) (color : Rgba) (old new : List Rgba) (ds : List ℕ) → AreStored s p v
    → AreFlat v color → AreCovered v left row from to → length ds ≡ length old → IsColorRun (λ (k : ℕ) (o : Rgba). color) from to old new
    → IsRunStepped (fragment_pixel s p v) left row from to (pixels_of old ds) (pixels_of new ds)
filled_run s p v left row from to color old new ds st flat covered e d =
    subst (λ (q : Option Picture). IsRunStepped (fragment_pixel s q v) left row from to (pixels_of old ds) (pixels_of new ds)) (sym st.none)
    (run_alone s v left row from to (λ (k : ℕ) (o : Rgba). color) old new st.alone st.ranged covered (λ k m n o. flat _ _ (covered k m n)) d ds e)

pub smooth_run : (s : State) (p : Option Picture) (v : List WindowVertex) (r : Run) (old new : List Rgba) (ds : List ℕ) → AreStored s p v
    → IsRunCovered v r → length ds ≡ length old → IsColorRun (λ (k : ℕ) (o : Rgba). (run_fragment v r k).color) r.from r.to old new
    → IsRunDrawn s p v r (pixels_of old ds) (pixels_of new ds)
smooth_run s p v r old new ds st covered e d =
    subst (λ (q : Option Picture). IsRunDrawn s q v r (pixels_of old ds) (pixels_of new ds)) (sym st.none)
    (run_alone s v r.left r.row r.from r.to (λ (k : ℕ) (o : Rgba). (run_fragment v r k).color) old new st.alone st.ranged covered (λ k m n o. refl) d ds e)

-- a row of written colours that take no test
pub run_written : (s : State) (p : Option Picture) (v : List WindowVertex) (r : Run) (written old new : List Rgba) (ds : List ℕ) → AreUntested s v
    → IsRunCovered v r → AreWritten s p v r old written → length ds ≡ length old → IsColorRun (λ (k : ℕ) (o : Rgba). color_at written k) r.from r.to old new
    → IsRunDrawn s p v r (pixels_of old ds) (pixels_of new ds)
run_written s p v r written old new ds u covered h e d =
    run_colored (fragment_pixel s p v) (λ (k : ℕ) (o : Rgba). color_at written k) r.left r.row r.from r.to old new ds e d
    (λ k m n. stored_step s p (run_fragment v r k) (color_at written k) (pixel (color_at old k) (depth_at ds k)) u.through u.untested (u.ranged _ _ (covered k m n)) (h k m n))

-- a row of written colours that take the alpha test alone
pub run_chosen : (s : State) (p : Option Picture) (v : List WindowVertex) (r : Run) (written old new : List Rgba) (flags : List Bool) (ds : List ℕ) → HasDepths v
    → s.depth_on ≡ false → IsRunCovered v r → AreFlags s p v r flags → AreWritten s p v r old written → length ds ≡ length old
    → IsColorRun (λ (k : ℕ) (o : Rgba). if flag_at flags k then color_at written k else o) r.from r.to old new
    → IsRunDrawn s p v r (pixels_of old ds) (pixels_of new ds)
run_chosen s p v r written old new flags ds ranged untested covered f h e d =
    run_colored (fragment_pixel s p v) (λ (k : ℕ) (o : Rgba). if flag_at flags k then color_at written k else o) r.left r.row r.from r.to old new ds e d
    (λ k m n. chosen_step s p (run_fragment v r k) (color_at written k) (pixel (color_at old k) (depth_at ds k)) (flag_at flags k) untested
    (ranged _ _ (covered k m n)) (f k m n) (h k m n))

-- a run that begins with columns that no step changes
pub run_behind : (f : ℤ → ℤ → Pixel → Pixel) (left row from seen to : ℕ) (old new : List Pixel) → from ≤ seen
    → ((k : ℕ) → from ≤ k → k < seen → f (pos (left + k)) (pos row) (pixel_at old (k)) ≡ pixel_at old (k))
    → IsRunStepped f left row seen to old new → IsRunStepped f left row from to old new
run_behind f left row from seen to old new l h d = record {
  size = d.size;
  run = λ k m n. by_lt_z (pos k) (pos seen)
      (λ o. d.before (k) (omega (arith, ints, o)) ∙ sym (h k m (omega (arith, ints, o))))
      (λ o. d.run k (omega (arith, ints, o)) n);
  before = λ k m. d.before k (omega arith);
  after = d.after;
}

-- ---- a run without what is hidden at its beginning

-- each column of a run that a triangle covers
pub reached : (v : List WindowVertex) (r : Run) (k : ℕ) → IsRunCovered v r → r.from ≤ k → k < r.to → IsPlaceInReach v r k
reached v r k covered low high = let few = r.few in record { inside = covered k low high; few = omega arith }

pub row_from : (v : List WindowVertex) (r seen : Run) (cs : List Rgba) (ds : List ℕ) → seen.left ≡ r.left → seen.row ≡ r.row → seen.to ≡ r.to → r.from ≤ seen.from
    → IsCoveredRow v r cs ds → IsCoveredRow v seen cs ds
row_from v r seen cs ds left row to low h = record {
  inside = rw to h.inside;
  alike = h.alike;
  covered = rw (left, row, to) (λ k m n. h.covered k (omega (arith, m, low)) n);
}

pub nothing_left : (s : State) (p : Option Picture) (v : List WindowVertex) (r : Run) (from : ℕ) (old : List Pixel) → from ≡ r.to
    → IsRunStepped (fragment_pixel s p v) r.left r.row from r.to old old
nothing_left s p v r from old e =
    subst (λ (n : ℕ). IsRunStepped (fragment_pixel s p v) r.left r.row from n old old) e
    (run_none (fragment_pixel s p v) r.left r.row from old)

pub drawn_behind : (s : State) (p : Option Picture) (v : List WindowVertex) (r : Run) (from : ℕ) (cs : List Rgba) (ds : List ℕ) (new : List Pixel) → length ds ≡ length cs
    → IsVisibleFrom s v r ds from → IsRunStepped (fragment_pixel s p v) r.left r.row from r.to (pixels_of cs ds) new → IsRunDrawn s p v r (pixels_of cs ds) new
drawn_behind s p v r from cs ds new e h d =
    run_behind (fragment_pixel s p v) r.left r.row r.from from r.to (pixels_of cs ds) new h.low
    (λ k m n. ap (λ (o : Pixel). fragment_pixel s p v (pos (r.left + k)) (pos r.row) o) (pixel_in cs ds k e) ∙ h.hidden p (color_at cs k) k m n ∙ sym (pixel_in cs ds k e))
    d

-- ---- textures

-- a texture without a texel has no picture
pub no_texel : (p : Option Picture) → HasTexelIfAny p → (HasTexel p → ⊥) → p ≡ None
no_texel None h n = refl
no_texel (Some p) h n = absurd (n h)

-- a texture with a sampler has a texel
pub sampled_texel : (p : Option Picture) (wrap_s wrap_t : ℕ) (k : Sampler) → IsSampler p wrap_s wrap_t k → HasTexel p
sampled_texel p wrap_s wrap_t k h = subst (λ (q : Option Picture). HasTexel q) (sym h.image) (k.width, k.height)
