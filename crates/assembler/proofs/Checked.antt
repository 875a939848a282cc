-- Parts that were checked one after the other.
use Rattle.std.proofs.Common.{◌≡◌, ℕ, zero, suc, ◌+◌, ◌*◌, ◌<◌, List, [], ◌∷◌, length, get_or, Some, inl, inr, sym, subst, arith}
use Rattle.std.specs.Prelude.{slice_get}
use Rattle.std.proofs.lemmas.Bool.{cases_lt}
use Rattle.rc_base.specs.declared.cluster.TilePart.{TilePart}
use Rattle.rc_base.specs.declared.window.Layout.{Layout}
use Rattle.plain_lemmas.proofs.Lists.{read_is_item}
use Rattle.assembler.specs.Parts.{tile_height, tile_width}

abbrev pub IsPart : Layout → ℕ → TilePart → Type 0
IsPart l tile p = (p.tile ≡ tile) × (p.frame ≡ 1) × (length p.pixels ≡ tile_width l tile * tile_height l tile)

pub one_more : (l : Layout) (parts : List TilePart) (n : ℕ) (a : TilePart) → a ≡ get_or parts n a → IsPart l n a
    → ((tile : ℕ) (p : TilePart) → tile < n → slice_get parts tile ≡ Some p → IsPart l tile p)
    → (tile : ℕ) (p : TilePart) → tile < n + 1 → slice_get parts tile ≡ Some p → IsPart l tile p
one_more l parts n a read here before tile p lt is = elim (cases_lt tile n) [
  | inl less ↦ before tile p less is
  | inr more ↦
      let e : tile ≡ n = omega (arith, lt, more) in
      let same : a ≡ p = read_is_item parts n a p (subst (λ (k : ℕ). slice_get parts k ≡ Some p) e is) read in
      subst (λ (k : ℕ). IsPart l k p) (sym e) (subst (IsPart l n) same here)
]

pub below_length : {A : Type 0} (l : List A) (i : ℕ) (a : A) → slice_get l i ≡ Some a → i < length l
below_length [] i a is = absurd cc
below_length (b ∷ l) zero a is = omega arith
below_length (b ∷ l) (suc i) a is = let k = below_length l i a is in omega (arith, k)
