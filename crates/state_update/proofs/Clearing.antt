-- The bits that an update clears, and the looks that it takes.
use Rattle.std.proofs.Common.{◌≡◌, ℕ, zero, suc, ◌+◌, ◌<◌, ◌≤◌, ◌==◌, ◌&&◌, ◌||◌, not, Bool, true, false, List, [], ◌∷◌, length, None, Some, drop, drop-cons, add-one, inl, inr, refl, sym, ap, ap₂, ◌∙◌, arith, eq-eqb, ne_eqb}
use Rattle.std.specs.Prelude.{if◌then◌else◌, nat_lt, slice_index}
use Rattle.std.specs.List.{AllByRecursion}
use Rattle.std.proofs.Math.Bool.{or-false}
use Rattle.std.proofs.lemmas.Bool.{cases_order, le-ltb, lt-ltb}
use Rattle.dirty_bits.specs.Bits.{is_dirty, is_group_dirty}
use Rattle.element_table.specs.Groups.{group_start}
use Rattle.dirty_bits.proofs.Levels.{next_start}
use Rattle.rc_base.specs.Contexts.Elements.{group_sizes, image_element, scalar_count}
use Rattle.rc_base.specs.Cluster.Looks.{sizes_with}
use Rattle.state_update.specs.Knowledge.{element_looks, is_examined, looks_from}

-- ---- bits

one_more : (e k : ℕ) → nat_lt e (k + 1) ≡ (nat_lt e k || e == k)
one_more e k = elim (cases_order e k) [
  | inl same ↦
      lt-ltb e (k + 1) (omega (arith, same))
      ∙ sym (ap₂ (λ (a b : Bool). a || b) (le-ltb e k (omega (arith, same))) (eq-eqb e k same))
  | inr (inl less) ↦ lt-ltb e (k + 1) (omega (arith, less)) ∙ sym (ap (λ (a : Bool). a || e == k) (lt-ltb e k less))
  | inr (inr more) ↦
      le-ltb e (k + 1) (omega (arith, more))
      ∙ sym (ap₂ (λ (a b : Bool). a || b) (le-ltb e k (omega (arith, more))) (ne_eqb e k (λ same. omega (arith, same, more))))
]

-- what was cleared of a tile, and one element more
joined : (dirty here some one : Bool) → ((dirty && not (here && some)) && not (one && here)) ≡ (dirty && not (here && (some || one)))
joined false here some one = refl
joined true false some true = refl
joined true false some false = refl
joined true true true true = refl
joined true true true false = refl
joined true true false true = refl
joined true true false false = refl

-- the bits without those of a tile for some elements
pub record AreCleared (old new : List ℕ) (tile : ℕ) (test : ℕ → Bool) : Type 0 where
  pub bits : (e t : ℕ) → t < 32 → is_dirty new e t ≡ (is_dirty old e t && not (t == tile && test e))

pub none_cleared : (bits : List ℕ) (tile : ℕ) → AreCleared bits bits tile (λ e. nat_lt e 0)
none_cleared bits tile = record { bits = λ e t low. by (is_dirty bits e t) (t == tile) ∙ ap (λ b. is_dirty bits e t && not (t == tile && b)) (sym (none e)) }
  where
    by : (d here : Bool) → d ≡ (d && not (here && false))
    by false here = refl
    by true true = refl
    by true false = refl

    none : (e : ℕ) → nat_lt e 0 ≡ false
    none e = le-ltb e 0 (omega arith)

pub one_cleared : (old now new : List ℕ) (tile element : ℕ) (test : ℕ → Bool) → AreCleared old now tile test
    → ((e t : ℕ) → t < 32 → is_dirty new e t ≡ (is_dirty now e t && not (e == element && t == tile)))
    → AreCleared old new tile (λ e. test e || e == element)
one_cleared old now new tile element test was is = record {
  bits = λ e t low.
      is e t low ∙ ap (λ d. d && not (e == element && t == tile)) (was.bits e t low)
      ∙ joined (is_dirty old e t) (t == tile) (test e) (e == element);
}

pub next_cleared : (old now new : List ℕ) (tile element : ℕ) → AreCleared old now tile (λ e. nat_lt e element)
    → ((e t : ℕ) → t < 32 → is_dirty new e t ≡ (is_dirty now e t && not (e == element && t == tile)))
    → AreCleared old new tile (λ e. nat_lt e (element + 1))
next_cleared old now new tile element was is = record {
  bits = λ e t low.
      (one_cleared old now new tile element (λ e. nat_lt e element) was is).bits e t low
      ∙ ap (λ b. is_dirty old e t && not (t == tile && b)) (sym (one_more e element));
}

-- the scalar elements of a tile were cleared
pub scalars_cleared : (old new : List ℕ) (tile n : ℕ) → n ≡ scalar_count → AreCleared old new tile (λ e. nat_lt e n) → AreCleared old new tile (is_examined None)
scalars_cleared old new tile n all was = record {
  bits = λ e t low.
      was.bits e t low ∙ ap (λ b. is_dirty old e t && not (t == tile && b)) (ap (nat_lt e) all ∙ sym (or-false (nat_lt e scalar_count)));
}

-- and the image
pub image_cleared : (old now new : List ℕ) (tile n name element : ℕ) → n ≡ scalar_count → AreCleared old now tile (λ e. nat_lt e n) → element ≡ image_element name
    → ((e t : ℕ) → t < 32 → is_dirty new e t ≡ (is_dirty now e t && not (e == element && t == tile)))
    → AreCleared old new tile (is_examined (Some name))
image_cleared old now new tile n name element all was same is = record {
  bits = λ e t low.
      (one_cleared old now new tile element (λ e. nat_lt e n) was is).bits e t low
      ∙ ap₂ (λ (m k : ℕ). is_dirty old e t && not (t == tile && (nat_lt e m || e == k))) all same;
}

-- ---- looks

pub looks_next : (bits : List ℕ) (tile g : ℕ) → g < length group_sizes → looks_from bits tile g ≡ element_looks bits tile g + looks_from bits tile (g + 1)
unfolding looks_from
looks_next bits tile g lt =
    let test = λ (e : ℕ). is_dirty bits e tile in
    ap (sizes_with test (group_start g)) (drop-cons group_sizes g 0 lt)
    ∙ ap₂ (λ (a : ℕ) (l : List ℕ). element_looks bits tile g + sizes_with test a l)
    (sym (next_start g lt)) (ap (λ (k : ℕ). drop k group_sizes) (sym (add-one g)))

pub looks_end : (bits : List ℕ) (tile g : ℕ) → g ≡ length group_sizes → looks_from bits tile g ≡ 0
unfolding looks_from
looks_end bits tile g last = ap (λ (k : ℕ). sizes_with (λ (e : ℕ). is_dirty bits e tile) (group_start k) (drop k group_sizes)) last

-- the looks at all elements of dirty groups
pub looks_all : (bits : List ℕ) (tile : ℕ) → looks_from bits tile 0 ≡ sizes_with (λ e. is_dirty bits e tile) 0 group_sizes
unfolding looks_from
looks_all bits tile = refl

at_most : (sizes : List ℕ) (most g : ℕ) → AllByRecursion (λ n. n ≤ most) sizes → slice_index sizes g ≤ most
at_most [] most g few = omega arith
at_most (n ∷ ns) most zero few = few.0
at_most (n ∷ ns) most (suc g) few = at_most ns most g few.1

-- a group has at most 16 elements
pub few_looks : (bits : List ℕ) (tile g : ℕ) → element_looks bits tile g ≤ 16
few_looks bits tile g = by (is_group_dirty bits g tile)
  where
    by : (b : Bool) → (if b then slice_index group_sizes g else 0) ≤ 16
    by false = omega arith
    by true =
        at_most group_sizes 16 g (omega arith, (omega arith, (omega arith, (omega arith, (omega arith, (omega arith, (omega arith, (omega arith, (omega arith, tt)))))))))
