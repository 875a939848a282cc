-- The numbers of a line, one after the other.
use Rattle.std.proofs.Common.{◌≡◌, ℕ, suc, ◌+◌, ◌-◌, ◌<◌, ◌≤◌, length, get_or, take, drop, arith, List, [], ◌∷◌, ◌++◌, refl, sym, ap, ◌∙◌, append_assoc, ℤ, Option, Some, None}
use Rattle.std.proofs.Math.Seq.{take-nil}
use Rattle.std.proofs.lemmas.List.{drop_more}
use Rattle.rc_base.specs.declared.command.NumberRange.{NumberRange}
use Rattle.scene_text.specs.Text.Read.{with_first, numbers_of, hex_value, hex_pair, hex_bytes}
use Rattle.scene_text.specs.Reading.{behind_front, first_number}

pub front_first : {A : Type 0} (front : List A) (x : A) (o : Option (List A)) → behind_front front (with_first (Some x) o) ≡ behind_front (front ++ x ∷ []) o
front_first front x None = refl
front_first front x (Some xs) = ap Some (sym (append_assoc front (x ∷ []) xs))

numbers_more : (r : NumberRange) (rs : List NumberRange) (ws : List (List ℕ)) → numbers_of (r ∷ rs) ws ≡ with_first (first_number r ws) (numbers_of rs (drop 1 ws))
numbers_more r rs [] = refl
numbers_more r rs (w ∷ ws) = refl

taken_first : (r : NumberRange) (ws : List (List ℕ)) (m : ℕ) → first_number r (take (suc m) ws) ≡ first_number r ws
taken_first r [] m = refl
taken_first r (w ∷ ws) m = refl

taken_rest : (ws : List (List ℕ)) (m : ℕ) → drop 1 (take (suc m) ws) ≡ take m (drop 1 ws)
taken_rest [] m = sym (take-nil m)
taken_rest (w ∷ ws) m = refl

number_at : (rs : List NumberRange) (i : ℕ) (d : NumberRange) (ws : List (List ℕ)) (front : List ℤ) → i < length rs
    → behind_front front (numbers_of (drop i rs) (take (length rs - i) ws))
    ≡ behind_front front (with_first (first_number (get_or rs i d) ws) (numbers_of (drop (i + 1) rs) (take (length rs - (i + 1)) (drop 1 ws))))
number_at rs i d ws front l =
    let m : ℕ = length rs - (i + 1) in
    let long : length rs - i ≡ suc m = omega arith in
    ap (λ k. behind_front front (numbers_of (drop i rs) (take k ws))) long
    ∙ ap (λ l. behind_front front (numbers_of l (take (suc m) ws))) (drop_more rs i d l)
    ∙ ap (behind_front front) (numbers_more (get_or rs i d) (drop (i + 1) rs) (take (suc m) ws))
    ∙ (λ j. behind_front front (with_first (taken_first (get_or rs i d) ws m j) (numbers_of (drop (i + 1) rs) (taken_rest ws m j))))

pub number_step : (rs : List NumberRange) (i : ℕ) (d : NumberRange) (ws : List (List ℕ)) (front : List ℤ) (z : ℤ) → i < length rs
    → first_number (get_or rs i d) ws ≡ Some z
    → behind_front (front ++ z ∷ []) (numbers_of (drop (i + 1) rs) (take (length rs - (i + 1)) (drop 1 ws)))
    ≡ behind_front front (numbers_of (drop i rs) (take (length rs - i) ws))
number_step rs i d ws front z l h =
    let rest : Option (List ℤ) = numbers_of (drop (i + 1) rs) (take (length rs - (i + 1)) (drop 1 ws)) in
    sym (number_at rs i d ws front l ∙ ap (λ o. behind_front front (with_first o rest)) h ∙ front_first front z rest)

pub number_stop : (rs : List NumberRange) (i : ℕ) (d : NumberRange) (ws : List (List ℕ)) (front : List ℤ) → i < length rs
    → first_number (get_or rs i d) ws ≡ None → behind_front front (numbers_of (drop i rs) (take (length rs - i) ws)) ≡ None
number_stop rs i d ws front l h =
    let rest : Option (List ℤ) = numbers_of (drop (i + 1) rs) (take (length rs - (i + 1)) (drop 1 ws)) in
    number_at rs i d ws front l ∙ ap (λ o. behind_front front (with_first o rest)) h

-- ---- texels

pub front_pair : (front ds : List ℕ) (b : ℕ) → 2 ≤ length ds → Some b ≡ hex_pair (hex_value (get_or ds 0 0)) (hex_value (get_or ds 1 0))
    → behind_front (front ++ b ∷ []) (hex_bytes (drop 2 ds)) ≡ behind_front front (hex_bytes ds)
front_pair front [] b l h = absurd (omega arith)
front_pair front (c ∷ []) b l h = absurd (omega arith)
front_pair front (c ∷ (d ∷ cs)) b l h = sym (front_first front b (hex_bytes cs)) ∙ ap (λ o. behind_front front (with_first o (hex_bytes cs))) h
