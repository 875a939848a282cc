-- Pixels by lists of their colours and of their depths, and a row of them in its place.
use Rattle.std.proofs.Common.{◌≡◌, ℕ, zero, suc, ◌+◌, ◌-◌, ◌<◌, ◌≤◌, ℤ, pos, List, [], ◌∷◌, ◌++◌, length, take, drop, get_or, replicate, arith, ap, refl, sym, subst, ◌∙◌}
use Rattle.std.proofs.lemmas.Int.{ints, by_lt_z}
use Rattle.std.proofs.lemmas.List.{get_or-take, get_or-drop, get_or_append_left, get_or-append-add, length-take-le, length-drop}
use lib.ListN.{set}
use borrow.Rule.Slice.PartMut.{mid_of, post_of, put_mid, mid_len}
use Rattle.rc_base.specs.declared.command.Rgba.{Rgba}
use Rattle.rc_base.specs.declared.window.Pixel.{Pixel}
use Rattle.fragment_ops.specs.DepthTests.{pixel}
use Rattle.draw_device.specs.Pixels.{pixel_at, color_at, depth_at, pixels_of}
use Rattle.draw_device.specs.Shapes.{IsRunStepped, IsRowStepped}

pub length_pixels : (cs : List Rgba) (ds : List ℕ) → length ds ≡ length cs → length (pixels_of cs ds) ≡ length cs
unfolding pixels_of
length_pixels [] ds h = refl
length_pixels (c ∷ cs) [] h = absurd (omega arith)
length_pixels (c ∷ cs) (d ∷ ds) h = ap suc (length_pixels cs ds (omega arith))

pub pixels_none : pixels_of [] [] ≡ []
unfolding pixels_of
pixels_none = refl

-- the pixel at an index
pub pixel_in : (cs : List Rgba) (ds : List ℕ) (k : ℕ) → length ds ≡ length cs → pixel_at (pixels_of cs ds) k ≡ pixel (color_at cs k) (depth_at ds k)
unfolding pixels_of
pixel_in [] [] k h = refl
pixel_in [] (d ∷ ds) k h = absurd (omega arith)
pixel_in (c ∷ cs) [] k h = absurd (omega arith)
pixel_in (c ∷ cs) (d ∷ ds) zero h = refl
pixel_in (c ∷ cs) (d ∷ ds) (suc k) h = pixel_in cs ds k (omega arith)

-- a colour and a depth that are written over
pub set_pixel : (cs : List Rgba) (ds : List ℕ) (k : ℕ) (c : Rgba) (d : ℕ) → length ds ≡ length cs
    → set (pixels_of cs ds) k (pixel c d) ≡ pixels_of (set cs k c) (set ds k d)
unfolding pixels_of
set_pixel [] [] k c d h = refl
set_pixel [] (e ∷ ds) k c d h = absurd (omega arith)
set_pixel (b ∷ cs) [] k c d h = absurd (omega arith)
set_pixel (b ∷ cs) (e ∷ ds) zero c d h = refl
set_pixel (b ∷ cs) (e ∷ ds) (suc k) c d h = ap (λ (l : List Pixel). pixel b e ∷ l) (set_pixel cs ds k c d (omega arith))

pub pixels_alike : (n : ℕ) (c : Rgba) (d : ℕ) → pixels_of (replicate n c) (replicate n d) ≡ replicate n (pixel c d)
unfolding pixels_of
pixels_alike zero c d = refl
pixels_alike (suc n) c d = ap (λ (l : List Pixel). pixel c d ∷ l) (pixels_alike n c d)

-- an empty list that was filled
pub filled : {X : Type 0} (n len : ℕ) (x : X) (old : List X) → old ≡ [] → len ≡ 0 → take n old ++ replicate (n - len) x ≡ replicate n x
filled n len x old e h = (λ i. take n (e i) ++ replicate (n - h i) x) ∙ from_none n
  where
    from_none : (n : ℕ) → take n [] ++ replicate (n - 0) x ≡ replicate n x
    from_none zero = let e : zero - 0 ≡ zero = omega arith in ap (λ (m : ℕ). replicate m x) e
    from_none (suc n) = let e : suc n - 0 ≡ suc n = omega arith in ap (λ (m : ℕ). replicate m x) e

-- the pixels of two lists one after the other
pixels_append : (cs bs : List Rgba) (ds es : List ℕ) → length ds ≡ length cs → pixels_of (cs ++ bs) (ds ++ es) ≡ pixels_of cs ds ++ pixels_of bs es
unfolding pixels_of
pixels_append [] bs [] es h = refl
pixels_append [] bs (d ∷ ds) es h = absurd (omega arith)
pixels_append (c ∷ cs) bs [] es h = absurd (omega arith)
pixels_append (c ∷ cs) bs (d ∷ ds) es h = ap (λ (l : List Pixel). pixel c d ∷ l) (pixels_append cs bs ds es (omega arith))

-- one more pixel behind others
next_pixel : (cs : List Rgba) (ds : List ℕ) (k : ℕ) → length ds ≡ length cs → k < length cs
    → pixels_of (take (suc k) cs) (take (suc k) ds) ≡ pixels_of (take k cs) (take k ds) ++ pixel (color_at cs k) (depth_at ds k) ∷ []
unfolding pixels_of
next_pixel [] ds k h l = absurd (omega arith)
next_pixel (c ∷ cs) [] k h l = absurd (omega arith)
next_pixel (c ∷ cs) (d ∷ ds) zero h l = refl
next_pixel (c ∷ cs) (d ∷ ds) (suc k) h l = ap (λ (r : List Pixel). pixel c d ∷ r) (next_pixel cs ds k (omega arith) (omega arith))

pub pixels_more : (cs : List Rgba) (ds : List ℕ) (k : ℕ) → length ds ≡ length cs → k < length cs
    → pixels_of (take (k + 1) cs) (take (k + 1) ds) ≡ pixels_of (take k cs) (take k ds) ++ pixel (color_at cs k) (depth_at ds k) ∷ []
pixels_more cs ds k h l =
    let e : suc k ≡ k + 1 = omega arith in
    subst (λ (n : ℕ). pixels_of (take n cs) (take n ds) ≡ pixels_of (take k cs) (take k ds) ++ pixel (color_at cs k) (depth_at ds k) ∷ []) e (next_pixel cs ds k h l)

pixels_take : (n : ℕ) (cs : List Rgba) (ds : List ℕ) → pixels_of (take n cs) (take n ds) ≡ take n (pixels_of cs ds)
unfolding pixels_of
pixels_take zero cs ds = refl
pixels_take (suc n) [] ds = refl
pixels_take (suc n) (c ∷ cs) [] = refl
pixels_take (suc n) (c ∷ cs) (d ∷ ds) = ap (λ (l : List Pixel). pixel c d ∷ l) (pixels_take n cs ds)

pixels_drop : (n : ℕ) (cs : List Rgba) (ds : List ℕ) → length ds ≡ length cs → pixels_of (drop n cs) (drop n ds) ≡ drop n (pixels_of cs ds)
unfolding pixels_of
pixels_drop zero cs ds h = refl
pixels_drop (suc n) [] ds h = refl
pixels_drop (suc n) (c ∷ cs) [] h = absurd (omega arith)
pixels_drop (suc n) (c ∷ cs) (d ∷ ds) h = pixels_drop n cs ds (omega arith)

-- ---- a part that was put back in its place

put_below : {X : Type 0} (a k : ℕ) (xs ys : List X) (i : ℕ) (d : X) → i < a → a ≤ length xs → get_or (put_mid a k xs ys) i d ≡ get_or xs i d
put_below a k xs ys i d l h =
    get_or_append_left (take a xs) (ys ++ post_of a k xs) d i (omega (arith, length-take-le a xs h)) ∙ get_or-take a xs i d l

put_from : {X : Type 0} (a k : ℕ) (xs ys : List X) (j : ℕ) (d : X) → a ≤ length xs → get_or (put_mid a k xs ys) (a + j) d ≡ get_or (ys ++ post_of a k xs) j d
put_from a k xs ys j d h =
    subst (λ (n : ℕ). get_or (put_mid a k xs ys) (n + j) d ≡ get_or (ys ++ post_of a k xs) j d) (length-take-le a xs h)
    (get_or-append-add (take a xs) (ys ++ post_of a k xs) j d)

put_in : {X : Type 0} (a k : ℕ) (xs ys : List X) (j : ℕ) (d : X) → j < length ys → a ≤ length xs → get_or (put_mid a k xs ys) (a + j) d ≡ get_or ys j d
put_in a k xs ys j d l h = put_from a k xs ys j d h ∙ get_or_append_left ys (post_of a k xs) d j l

put_above : {X : Type 0} (a k : ℕ) (xs ys : List X) (j : ℕ) (d : X) → length ys ≡ k → a ≤ length xs
    → get_or (put_mid a k xs ys) (a + (k + j)) d ≡ get_or xs (a + (k + j)) d
put_above a k xs ys j d e h =
    put_from a k xs ys (k + j) d h
    ∙ subst (λ (n : ℕ). get_or (ys ++ post_of a k xs) (n + j) d ≡ get_or (post_of a k xs) j d) e (get_or-append-add ys (post_of a k xs) j d)
    ∙ get_or-drop k (drop a xs) j d ∙ get_or-drop a xs (k + j) d

mid_in : {X : Type 0} (a k : ℕ) (xs : List X) (j : ℕ) (d : X) → j < k → get_or (mid_of a k xs) j d ≡ get_or xs (a + j) d
mid_in a k xs j d l = get_or-take k (drop a xs) j d l ∙ get_or-drop a xs j d

-- a row that took a step, put back in its place
placed : (f : ℤ → ℤ → Pixel → Pixel) (left row start width from to : ℕ) (old new : List Pixel) → start + width ≤ length old → to ≤ width → from ≤ to
    → length new ≡ width → IsRunStepped f left row from to (mid_of start width old) new
    → IsRowStepped f left row start from to old (put_mid start width old new)
placed f left row start width from to old new room most order size d = record {
  run = λ k m n. put_in start width old new k _ (omega arith) (omega arith) ∙ d.run k m n
      ∙ ap (λ (o : Pixel). f (pos (left + k)) (pos row) o) (mid_in start width old k _ (omega arith));
  before = λ k m. by_lt_z (pos k) (pos start)
      (λ l. put_below start width old new k _ (omega (arith, ints, l)) (omega arith))
      (λ u. let e : start + (k - start) ≡ k = omega (arith, ints, u) in
      subst (λ (n : ℕ). pixel_at (put_mid start width old new) n ≡ pixel_at old n) e
      (inside (k - start) (omega (arith, ints, u, m)) (d.before (k - start) (omega (arith, ints, u, m)))));
  after = λ k m. by_lt_z (pos k) (pos (start + width))
      (λ l. let e : start + (k - start) ≡ k = omega (arith, m) in
      subst (λ (n : ℕ). pixel_at (put_mid start width old new) n ≡ pixel_at old n) e
      (inside (k - start) (omega (arith, ints, l, m)) (d.after (k - start) (omega (arith, m)))))
      (λ u. let e : start + (width + (k - (start + width))) ≡ k = omega (arith, ints, u) in
      subst (λ (n : ℕ). pixel_at (put_mid start width old new) n ≡ pixel_at old n) e
      (put_above start width old new (k - (start + width)) _ size (omega arith)));
}
  where
    inside : (j : ℕ) → j < width → pixel_at new j ≡ pixel_at (mid_of start width old) j
        → pixel_at (put_mid start width old new) (start + j) ≡ pixel_at old (start + j)
    inside j l h = put_in start width old new j _ (omega arith) (omega arith) ∙ h ∙ mid_in start width old j _ l

pixels_mid : (a k : ℕ) (cs : List Rgba) (ds : List ℕ) → length ds ≡ length cs → pixels_of (mid_of a k cs) (mid_of a k ds) ≡ mid_of a k (pixels_of cs ds)
pixels_mid a k cs ds h = pixels_take k (drop a cs) (drop a ds) ∙ ap (take k) (pixels_drop a cs ds h)

pixels_put : (a k : ℕ) (cs : List Rgba) (ds : List ℕ) (new_cs : List Rgba) (new_ds : List ℕ) → length ds ≡ length cs → a + k ≤ length cs → length new_ds ≡ length new_cs
    → pixels_of (put_mid a k cs new_cs) (put_mid a k ds new_ds) ≡ put_mid a k (pixels_of cs ds) (pixels_of new_cs new_ds)
pixels_put a k cs ds new_cs new_ds same room size =
    pixels_append (take a cs) (new_cs ++ post_of a k cs) (take a ds) (new_ds ++ post_of a k ds)
    (length-take-le a ds (omega arith) ∙ sym (length-take-le a cs (omega arith)))
    ∙ (λ i. pixels_take a cs ds i ++ pixels_append new_cs (post_of a k cs) new_ds (post_of a k ds) size i)
    ∙ ap (λ (l : List Pixel). take a (pixels_of cs ds) ++ (pixels_of new_cs new_ds ++ l))
    (pixels_drop k (drop a cs) (drop a ds) (omega (arith, length-drop a cs, length-drop a ds)) ∙ ap (drop k) (pixels_drop a cs ds same))

-- A row's colours and depths, `cs` and `ds` from `start` to below `end`, that took a step and were put back in their places.
pub row_placed : (f : ℤ → ℤ → Pixel → Pixel) (left row place start end from to : ℕ) (old_cs cs new_cs after_cs : List Rgba) (old_ds ds new_ds after_ds : List ℕ)
    → start ≡ place → length old_ds ≡ length old_cs → start ≤ end → end ≤ length old_cs → from ≤ to → to ≤ end - start → cs ≡ old_cs → ds ≡ old_ds
    → length new_cs ≡ length (mid_of start (end - start) cs) → length new_ds ≡ length (mid_of start (end - start) ds)
    → after_cs ≡ put_mid start (end - start) cs new_cs → after_ds ≡ put_mid start (end - start) ds new_ds
    → IsRunStepped f left row from to (pixels_of (mid_of start (end - start) cs) (mid_of start (end - start) ds)) (pixels_of new_cs new_ds)
    → IsRowStepped f left row place from to (pixels_of old_cs old_ds) (pixels_of after_cs after_ds)
row_placed f left row place start end from to old_cs cs new_cs after_cs old_ds ds new_ds after_ds first same order room across most ec ed size_cs size_ds back_cs back_ds d =
    let alike : length ds ≡ length cs = ap length ed ∙ same ∙ sym (ap length ec) in
    let inside : end ≤ length cs = omega (arith, room, ap length ec) in
    let inside_ds : end ≤ length ds = omega (arith, inside, alike) in
    let part : start + (end - start) ≤ length (pixels_of cs ds) = omega (arith, inside, order, length_pixels cs ds alike) in
    let wide_cs = size_cs ∙ mid_len start end cs inside in
    let wide_ds = size_ds ∙ mid_len start end ds inside_ds in
    subst (λ (n : ℕ). IsRowStepped f left row n from to (pixels_of old_cs old_ds) (pixels_of after_cs after_ds)) first
    (subst (λ (l : List Pixel). IsRowStepped f left row start from to l (pixels_of after_cs after_ds)) (λ i. pixels_of (ec i) (ed i))
    (subst (λ (l : List Pixel). IsRowStepped f left row start from to (pixels_of cs ds) l)
    (sym ((λ i. pixels_of (back_cs i) (back_ds i)) ∙ pixels_put start (end - start) cs ds new_cs new_ds alike (omega (arith, inside, order)) (wide_ds ∙ sym wide_cs)))
    (placed f left row start (end - start) from to (pixels_of cs ds) (pixels_of new_cs new_ds) part most across (length_pixels new_cs new_ds (wide_ds ∙ sym wide_cs) ∙ wide_cs)
    (subst (λ (l : List Pixel). IsRunStepped f left row from to l (pixels_of new_cs new_ds)) (pixels_mid start (end - start) cs ds alike) d))))
