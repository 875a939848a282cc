-- The bytes of an image, row by row.
use Rattle.std.proofs.Common.{◌≡◌, ℕ, zero, suc, ◌+◌, ◌-◌, ◌*◌, ◌<◌, List, [], ◌++◌, refl, sym, ap, ◌∙◌, append_assoc, arith, pos}
use Rattle.std.specs.List.{flat_map, range_with_len}
use Rattle.std.proofs.lemmas.List.{append-nil}
use Rattle.rc_base.specs.declared.command.Rgba.{Rgba}
use Rattle.rc_base.specs.Drawing.Images.{Pixels, rgb_of, row_bytes, rgb_bytes}
use Rattle.draw_device.specs.Pixels.{color_at}
use Rattle.serial_render.specs.Cells.{color_bytes, stored_bytes, Shows}

-- the rows of a buffer from the top, so many of them
unfoldable pub top_rows : ℕ → ℕ → List Rgba → ℕ → List ℕ
top_rows w h colors n = flat_map (λ row. stored_bytes colors ((h - 1 - row) * w) w) (range_with_len 0 n)

flat_range : (f : ℕ → List ℕ) (a n j : ℕ) → a + n ≡ j → flat_map f (range_with_len a (suc n)) ≡ flat_map f (range_with_len a n) ++ f j
flat_range f a zero j e = let same : a ≡ j = omega arith in append-nil (f a) ∙ ap f same
flat_range f a (suc n) j e =
    ap (λ (l : List ℕ). f a ++ l) (flat_range f (a + 1) n j (omega arith)) ∙ sym (append_assoc (f a) (flat_map f (range_with_len (a + 1) n)) (f j))

flat_same : (f g : ℕ → List ℕ) (a n : ℕ) → ((j : ℕ) → j < a + n → f j ≡ g j) → flat_map f (range_with_len a n) ≡ flat_map g (range_with_len a n)
flat_same f g a zero same = refl
flat_same f g a (suc n) same =
    let first : f a ≡ g a = same a (omega arith) in
    let others = flat_same f g (a + 1) n (λ j lt. same j (omega arith)) in
    λ i. first i ++ others i

pub stored_none : (colors : List Rgba) (start : ℕ) (l : List ℕ) → l ≡ l ++ stored_bytes colors start 0
unfolding stored_bytes
stored_none colors start l = sym (append-nil l)

pub stored_more : (colors : List Rgba) (start n : ℕ) (l : List ℕ)
    → l ++ stored_bytes colors start (n + 1) ≡ (l ++ stored_bytes colors start n) ++ color_bytes (color_at colors (start + n))
unfolding stored_bytes
stored_more colors start n l =
    let next : n + 1 ≡ suc n = omega arith in
    let f = λ (x : ℕ). color_bytes (color_at colors (start + x)) in
    ap (λ (m : ℕ). l ++ flat_map f (range_with_len 0 m)) next ∙ ap (λ (m : List ℕ). l ++ m) (flat_range f 0 n n (omega arith))
    ∙ sym (append_assoc l (flat_map f (range_with_len 0 n)) (f n))

pub rows_none : (w h : ℕ) (colors : List Rgba) → [] ≡ top_rows w h colors 0
unfolding top_rows
rows_none w h colors = refl

pub rows_more : (w h : ℕ) (colors : List Rgba) (n : ℕ)
    → top_rows w h colors (n + 1) ≡ top_rows w h colors n ++ stored_bytes colors ((h - 1 - n) * w) w
unfolding top_rows
rows_more w h colors n =
    let next : n + 1 ≡ suc n = omega arith in
    rw next (flat_range (λ row. stored_bytes colors ((h - 1 - row) * w) w) 0 n n (omega arith))

row_is : (w h : ℕ) (colors : List Rgba) (f : Pixels) (y : ℕ) → y < h → Shows w h colors f → stored_bytes colors (y * w) w ≡ row_bytes f w y
unfolding stored_bytes row_bytes
row_is w h colors f y inside shows =
    flat_same (λ x. color_bytes (color_at colors (y * w + x))) (λ x. rgb_of (f (pos x) (pos y))) 0 w
    (λ x lt. ap color_bytes (shows x y (omega arith) inside))

pub rows_whole : (w h : ℕ) (colors : List Rgba) (f : Pixels) → Shows w h colors f → top_rows w h colors h ≡ rgb_bytes f w h
unfolding top_rows rgb_bytes
rows_whole w h colors f shows =
    flat_same (λ row. stored_bytes colors ((h - 1 - row) * w) w) (λ row. row_bytes f w (h - 1 - row)) 0 h
    (λ row lt. row_is w h colors f (h - 1 - row) (omega arith) shows)
