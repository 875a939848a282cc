-- The shared textures of a scene within the limits have sides above 0.
use Rattle.std.proofs.Common.{◌≡◌, ℕ, zero, suc, ◌<◌, ◌&&◌, not, true, false, List, [], ◌∷◌, length, map, Some, None, slice_get, inl, inr, refl, sym, ap, ◌∙◌, subst, arith, true≢false, leb-true, lt-ltb}
use Rattle.std.specs.Prelude.{nat_le, nat_lt, slice_index, unwrap_or}
use Rattle.std.specs.List.{AllByRecursion, flat_map}
use Rattle.std.specs.declared.option.Option.{Option}
use Rattle.std.proofs.lemmas.Bool.{cases_Bool, and_parts, and_from}
use Rattle.rc_base.specs.Lists.{IsIn}
use Rattle.rc_base.specs.Formats.Limits.{Quantity, is_outside, first_outside, side, quantities, limit_of}
use Rattle.rc_base.specs.Formats.Spelling.{IsDecl, IsSize}
use Rattle.rc_base.specs.Contexts.Context.{shared_sides}
use Rattle.rc_base.specs.declared.scene.Scene.{Scene}
use Rattle.order_model.proofs.StandsInLists.{in_left}
use Rattle.scene_lemmas.proofs.Numbered.{is_in_behind}
use Rattle.tile_model.specs.Scenes.{HasSides}

none_outside : (qs : List Quantity) → first_outside qs ≡ None → (q : Quantity) → IsIn q qs → is_outside q ≡ false
none_outside [] e q i = absurd i
none_outside (p ∷ qs) e q i = elim (cases_Bool (is_outside p)) [
  | inl t ↦ absurd (cc (rw t at e))
  | inr f ↦ elim i [ inl same ↦ subst (λ k. is_outside k ≡ false) same f | inr later ↦ none_outside qs (rw f at e) q later ]
]

inside : (n : ℕ) → is_outside (side n) ≡ false → 0 < n
inside n f = elim (cases_Bool (nat_le 1 n && nat_le n 65535)) [
  | inl t ↦ let le = leb-true 1 n (and_parts (nat_le 1 n) (nat_le n 65535) t).0 in omega arith
  | inr g ↦ absurd (true≢false (sym (ap not g) ∙ f))
]

-- the sides of a size are among those of all sizes
side_in : (sizes : List (List ℕ)) (k : ℕ) (size : List ℕ) (n : ℕ) → slice_get sizes k ≡ Some size → IsIn n size → IsIn (side n) (map side (flat_map (λ size. size) sizes))
side_in sizes k size n e i = in_map (flat_map (λ size. size) sizes) (in_all sizes k e)
  where
    in_map : (ns : List ℕ) → IsIn n ns → IsIn (side n) (map side ns)
    in_map [] j = absurd j
    in_map (m ∷ ns) (inl same) = inl (ap side same)
    in_map (m ∷ ns) (inr j) = inr (in_map ns j)

    in_all : (ss : List (List ℕ)) (k : ℕ) → slice_get ss k ≡ Some size → IsIn n (flat_map (λ size. size) ss)
    in_all [] zero f = absurd cc
    in_all [] (suc k) f = absurd cc
    in_all (s ∷ ss) zero f = let same : s ≡ size = cc in in_left n s (flat_map (λ size. size) ss) (subst (IsIn n) (sym same) i)
    in_all (s ∷ ss) (suc k) f = is_in_behind n s (flat_map (λ size. size) ss) (in_all ss k f)

is_quantity : (scene : Scene) (q : Quantity) → IsIn q (map side (flat_map (λ size. size) scene.decl.shared)) → IsIn q (quantities scene)
is_quantity scene q i = inr (inr (inr (inr (in_left q (map side (flat_map (λ size. size) scene.decl.shared)) _ i))))

some_side : (scene : Scene) (k : ℕ) (size : List ℕ) (n : ℕ) → limit_of scene ≡ None → slice_get scene.decl.shared k ≡ Some size → IsIn n size → 0 < n
unfolding limit_of
some_side scene k size n e is i = inside n (none_outside (quantities scene) e (side n) (is_quantity scene (side n) (side_in scene.decl.shared k size n is i)))

size_at : (sizes : List (List ℕ)) (k : ℕ) → k < length sizes → AllByRecursion IsSize sizes → (size : List ℕ) × (slice_get sizes k ≡ Some size) × IsSize size
size_at [] k low h = absurd (omega arith)
size_at (s ∷ sizes) zero low h = (s, refl, h.0)
size_at (s ∷ sizes) (suc k) low h = size_at sizes k (omega arith) h.1

both_in : (size : List ℕ) → length size ≡ 2 → IsIn (slice_index size 0) size × IsIn (slice_index size 1) size
both_in [] e = absurd (omega arith)
both_in (w ∷ []) e = absurd (omega arith)
both_in (w ∷ h ∷ size) e = (inl refl, inr (inl refl))

pub limits_give_sides : (scene : Scene) → IsDecl scene.decl → limit_of scene ≡ None → HasSides scene.decl
limits_give_sides scene decl within zero named = absurd (true≢false (sym named))
limits_give_sides scene decl within (suc k) named =
    let le = leb-true (suc k) (length scene.decl.shared) (and_parts (nat_lt 0 (suc k)) (nat_le (suc k) (length scene.decl.shared)) named).1 in
    let s = size_at scene.decl.shared k (omega arith) decl.shared in
    let both = both_in s.0 s.2.0 in
    let sides : (size : List ℕ) → s.0 ≡ size → (nat_lt 0 (slice_index size 0) && nat_lt 0 (slice_index size 1)) ≡ true = λ size e.
    subst (λ z. (nat_lt 0 (slice_index z 0) && nat_lt 0 (slice_index z 1)) ≡ true) e
    (and_from _ _ (lt-ltb 0 (slice_index s.0 0) (some_side scene k s.0 (slice_index s.0 0) within s.1 both.0)) (lt-ltb 0 (slice_index s.0 1) (some_side scene k s.0 (slice_index s.0 1) within s.1 both.1))) in
    sides (shared_sides scene.decl.shared (suc k)) (ap (λ (o : Option (List ℕ)). unwrap_or o []) (sym s.1))
