-- The words of the groups and the top word, when an element is marked or cleared.
use Rattle.std.proofs.Common.{◌≡◌, ℕ, zero, suc, ◌+◌, ◌-◌, ◌*◌, ◌%◌, ◌^◌, ◌<◌, ◌≤◌, ◌==◌, ◌&&◌, ◌||◌, not, Bool, true, false, List, [], ◌∷◌, length, take, replicate, inl, inr, refl, sym, ap, ap₂, ◌∙◌, arith, eqb-true, eq-eqb}
use Rattle.std.specs.Prelude.{if◌then◌else◌, slice_index, slice_set, sum, bit_and}
use Rattle.std.specs.Int.{bit_at, bit_not, w32}
use Rattle.std.specs.List.{range_with_len, list_any}
use Rattle.std.proofs.Math.Bool.{and-false, and-true, or-false, or-true}
use Rattle.std.proofs.lemmas.Bool.{cases_order, eqb-false}
use Rattle.std.proofs.lemmas.List.{get_or-set_same, get_or-set_other}
use Rattle.std.proofs.lemmas.List.Sums.{sum_by-cons, sum_by_more}
use Rattle.std.proofs.lemmas.Nat.Bits.{bit_at_ones, bit_at-zero, bit_at_clear_same, bit_at_clear_other}
use Rattle.rc_base.specs.Contexts.Elements.{element_count, group_sizes}
use Rattle.plain_lemmas.proofs.Ranges.{any_in_range, any_same_in_range}
use Rattle.dirty_bits.specs.Bits.{is_dirty, is_group_dirty, is_any_dirty, IsHierarchy}
use Rattle.element_table.specs.Groups.{IsGroupOf, group_start}
use Rattle.dirty_bits.proofs.Ranges.{none_any, fewer_any, parts_together}

-- ---- words

-- one server's bit of a word cleared
pub without_bit : (word server s : ℕ) → server < 32 → s < 32
    → (bit_at (bit_and word (bit_not w32 (1 * 2 ^ server % 2 ^ 32))) s == 1) ≡ ((bit_at word s == 1) && not (s == server))
without_bit word server s low lt = by (s == server) refl
  where
    by : (b : Bool) → (s == server) ≡ b → (bit_at (bit_and word (bit_not w32 (1 * 2 ^ server % 2 ^ 32))) s == 1) ≡ ((bit_at word s == 1) && not b)
    by true is =
        let same : s ≡ server = eqb-true s server is in
        rw (same, bit_at_clear_same w32 word server low) (sym (and-false (bit_at word server == 1)))
    by false is = rw (bit_at_clear_other w32 word server low s lt (eqb-false s server is)) (sym (and-true (bit_at word s == 1)))

-- another word in one place
pub set_is : (words : List ℕ) (i word k s : ℕ) → i < length words
    → is_dirty (slice_set words i word) k s ≡ (if k == i then bit_at word s == 1 else is_dirty words k s)
set_is words i word k s lt = by (k == i) refl
  where
    by : (b : Bool) → (k == i) ≡ b → is_dirty (slice_set words i word) k s ≡ (if b then bit_at word s == 1 else is_dirty words k s)
    by true is =
        let same : k ≡ i = eqb-true k i is in
        ap (λ (n : ℕ). bit_at n s == 1) (ap (slice_index (slice_set words i word)) same ∙ get_or-set_same words i word 0 lt)
    by false is = ap (λ (n : ℕ). bit_at n s == 1) (get_or-set_other words i k word 0 (eqb-false k i is))

pub nothing : (s : ℕ) → (bit_at 0 s == 1) ≡ false
nothing s = ap (λ (n : ℕ). n == 1) (bit_at-zero s)

-- ---- groups

before : (sizes : List ℕ) (g h : ℕ) → g < h → g < length sizes → sum (take g sizes) + slice_index sizes g ≤ sum (take h sizes)
before [] g h lt room = absurd (omega (arith, room))
before (n ∷ ns) zero zero lt room = absurd (omega (arith, lt))
before (n ∷ ns) zero (suc h) lt room = let sums = sum_by-cons (λ x. x) n (take h ns) in omega (arith, sums)
before (n ∷ ns) (suc g) zero lt room = absurd (omega (arith, lt))
before (n ∷ ns) (suc g) (suc h) lt room =
    let rest = before ns g h (omega (arith, lt)) (omega (arith, room)) in
    let some = sum_by-cons (λ x. x) n (take g ns) in
    let more = sum_by-cons (λ x. x) n (take h ns) in
    omega (arith, rest, some, more)

-- an element lies in one group alone
one_group : (e g h : ℕ) → IsGroupOf e g → IsGroupOf e h → g ≡ h
one_group e g h a b = elim (cases_order g h) [
  | inl same ↦ same
  | inr (inl less) ↦ (let o = before group_sizes g h less a.group in absurd (omega (arith, o, a.high, b.low)))
  | inr (inr more) ↦ (let o = before group_sizes h g more b.group in absurd (omega (arith, o, b.high, a.low)))
]

pub next_start : (g : ℕ) → g < length group_sizes → group_start (g + 1) ≡ group_start g + slice_index group_sizes g
next_start g lt = sum_by_more (λ x. x) group_sizes g 0 lt

pub group_within : (g : ℕ) → g < length group_sizes → group_start g + slice_index group_sizes g ≤ element_count
group_within g lt = before group_sizes g (length group_sizes) lt lt

within : (e g : ℕ) → IsGroupOf e g → e < element_count
within e g h = let o = group_within g h.group in omega (arith, o, h.high)

-- any element is dirty where an element of one of the groups is
groups_together : (words : List ℕ) (s : ℕ) → list_any (λ g. is_group_dirty words g s) (range_with_len 0 (length group_sizes)) ≡ is_any_dirty words s
groups_together words s = parts_together (λ e. is_dirty words e s) 0 group_sizes

-- ---- at first

pub clean_words : (n e s : ℕ) → is_dirty (replicate n 0) e s ≡ false
clean_words zero e s = nothing s
clean_words (suc n) zero s = nothing s
clean_words (suc n) (suc e) s = clean_words n e s

pub clean_hierarchy : (elements groups : List ℕ) → ((e s : ℕ) → is_dirty elements e s ≡ false) → ((g s : ℕ) → is_dirty groups g s ≡ false) → IsHierarchy elements groups 0
clean_hierarchy elements groups e g = record {
  of_groups = λ k s lt low. g k s ∙ sym (none_any (λ i. is_dirty elements i s) (group_start k) (slice_index group_sizes k) (λ i from to. e i s));
  of_top = λ s low. nothing s ∙ sym (none_any (λ i. is_dirty elements i s) 0 element_count (λ i from to. e i s));
}

-- ---- an element that is marked

pub marked_is : (words : List ℕ) (e k s : ℕ) → e < length words → s < 32 → is_dirty (slice_set words e (2 ^ 32 - 1)) k s ≡ (k == e || is_dirty words k s)
marked_is words e k s lt low = set_is words e (2 ^ 32 - 1) k s lt ∙ by (k == e)
  where
    by : (b : Bool) → (if b then bit_at (2 ^ 32 - 1) s == 1 else is_dirty words k s) ≡ (b || is_dirty words k s)
    by true = ap (λ (n : ℕ). n == 1) (bit_at_ones 32 s low)
    by false = refl

pub marked_hierarchy : (elements groups : List ℕ) (top e g : ℕ) → length elements ≡ element_count → length groups ≡ length group_sizes
    → IsGroupOf e g → IsHierarchy elements groups top
    → IsHierarchy (slice_set elements e (2 ^ 32 - 1)) (slice_set groups g (2 ^ 32 - 1)) (2 ^ 32 - 1)
marked_hierarchy elements groups top e g count nine is h = record {
  of_groups = λ k s lt low. marked_is groups g k s (omega (arith, nine, is.group)) low ∙ by k s lt low (k == g) refl;
  of_top = λ s low.
      ap (λ (n : ℕ). n == 1) (bit_at_ones 32 s low)
      ∙ sym (any_in_range (λ i. is_dirty new i s) 0 element_count e (omega arith) (omega (arith, in_all)) (here s low));
}
  where
    new : List ℕ
    new = slice_set elements e (2 ^ 32 - 1)

    in_all : e < element_count
    in_all = within e g is

    here : (s : ℕ) → s < 32 → is_dirty new e s ≡ true
    here s low = marked_is elements e e s (omega (arith, count, in_all)) low ∙ ap (λ b. b || is_dirty elements e s) (eq-eqb e e refl)

    by : (k s : ℕ) → k < length group_sizes → s < 32 → (b : Bool) → (k == g) ≡ b → (b || is_dirty groups k s) ≡ is_group_dirty new k s
    by k s lt low true same =
        let j : k ≡ g = eqb-true k g same in
        sym (ap (λ (n : ℕ). is_group_dirty new n s) j ∙ any_in_range (λ i. is_dirty new i s) (group_start g) (slice_index group_sizes g) e is.low is.high (here s low))
    by k s lt low false other =
        h.of_groups k s lt low
        ∙ any_same_in_range (λ i. is_dirty elements i s) (λ i. is_dirty new i s) (group_start k) (slice_index group_sizes k)
        (λ i from to. sym (marked_is elements e i s (omega (arith, count, in_all)) low ∙ ap (λ b. b || is_dirty elements i s) (apart i from to)))
      where
        apart : (i : ℕ) → group_start k ≤ i → i < group_start k + slice_index group_sizes k → (i == e) ≡ false
        apart i from to = not_same (i == e) refl
          where
            not_same : (b : Bool) → (i == e) ≡ b → b ≡ false
            not_same false is_e = refl
            not_same true is_e =
                let j : i ≡ e = eqb-true i e is_e in
                absurd (eqb-false k g other (one_group e k g (record { group = lt; low = omega (arith, from, j); high = omega (arith, to, j) }) is))

-- ---- an element that is cleared for a server

-- an element of the words is clean for a server, and all else is as before
pub record IsCleared (old new : List ℕ) (e server : ℕ) : Type 0 where
  pub bits : (k s : ℕ) → s < 32 → is_dirty new k s ≡ (is_dirty old k s && not (k == e && s == server))

-- a word has the bits that another had, but the server's only where it stays
pub record IsLowered (old new server : ℕ) (stays : Bool) : Type 0 where
  pub bits : (s : ℕ) → s < 32 → (bit_at new s == 1) ≡ ((bit_at old s == 1) && (stays || not (s == server)))

pub cleared_is : (words : List ℕ) (e server word : ℕ) → e < length words
    → ((s : ℕ) → s < 32 → (bit_at word s == 1) ≡ (is_dirty words e s && not (s == server))) → IsCleared words (slice_set words e word) e server
cleared_is words e server word lt is = record { bits = λ k s low. set_is words e word k s lt ∙ by k s low (k == e) refl }
  where
    by : (k s : ℕ) → s < 32 → (b : Bool) → (k == e) ≡ b → (if b then bit_at word s == 1 else is_dirty words k s) ≡ (is_dirty words k s && not (b && s == server))
    by k s low true same = let j : k ≡ e = eqb-true k e same in is s low ∙ ap (λ (n : ℕ). is_dirty words n s && not (s == server)) (sym j)
    by k s low false other = sym (and-true (is_dirty words k s))

module _ (old new : List ℕ) (e server : ℕ) (c : IsCleared old new e server) where
  -- a word over a range of elements that is lowered, where the server's bit stays if one of them is still dirty
  over_range : (a n s : ℕ) (before after : ℕ) (stays : Bool) → s < 32 → server < 32 → IsLowered before after server stays
      → (bit_at before s == 1) ≡ list_any (λ k. is_dirty old k s) (range_with_len a n)
      → stays ≡ list_any (λ k. is_dirty new k server) (range_with_len a n)
      → (bit_at after s == 1) ≡ list_any (λ k. is_dirty new k s) (range_with_len a n)
  over_range a n s word after stays low lt l was still = l.bits s low ∙ by (s == server) refl
    where
      all : (k : ℕ) → is_dirty new k s ≡ true → is_dirty old k s ≡ true
      all k is = only (is_dirty old k s) (not (k == e && s == server)) (sym (c.bits k s low) ∙ is)
        where
          only : (x y : Bool) → (x && y) ≡ true → x ≡ true
          only true y h = refl
          only false y h = h

      some : (x y : Bool) → (y ≡ true → x ≡ true) → (x && y) ≡ y
      some x true h = ap (λ b. b && true) (h refl)
      some x false h = and-false x

      by : (b : Bool) → (s == server) ≡ b → ((bit_at word s == 1) && (stays || not b)) ≡ list_any (λ k. is_dirty new k s) (range_with_len a n)
      by true same =
          let j : s ≡ server = eqb-true s server same in
          ap₂ (λ (x y : Bool). x && (y || false)) was (still ∙ ap (λ (m : ℕ). list_any (λ k. is_dirty new k m) (range_with_len a n)) (sym j))
          ∙ ap (λ y. list_any (λ k. is_dirty old k s) (range_with_len a n) && y) (or-false (list_any (λ k. is_dirty new k s) (range_with_len a n)))
          ∙ some (list_any (λ k. is_dirty old k s) (range_with_len a n)) (list_any (λ k. is_dirty new k s) (range_with_len a n))
          (fewer_any (λ k. is_dirty old k s) (λ k. is_dirty new k s) a n all)
      by false other =
          ap (λ y. (bit_at word s == 1) && y) (or-true stays) ∙ and-true (bit_at word s == 1) ∙ was
          ∙ any_same_in_range (λ k. is_dirty old k s) (λ k. is_dirty new k s) a n
          (λ k from to. sym (c.bits k s low ∙ ap (λ b. is_dirty old k s && not (k == e && b)) other ∙ ap (λ b. is_dirty old k s && not b) (and-false (k == e)) ∙ and-true (is_dirty old k s)))

  pub cleared_groups : (groups : List ℕ) (top g word : ℕ) (stays : Bool) → server < 32 → length groups ≡ length group_sizes → IsGroupOf e g
      → IsHierarchy old groups top → IsLowered (slice_index groups g) word server stays → stays ≡ is_group_dirty new g server
      → (k s : ℕ) → k < length group_sizes → s < 32 → is_dirty (slice_set groups g word) k s ≡ is_group_dirty new k s
  cleared_groups groups top g word stays lt nine is h l still k s room low =
      set_is groups g word k s (omega (arith, nine, is.group)) ∙ by (k == g) refl
    where
      by : (b : Bool) → (k == g) ≡ b → (if b then bit_at word s == 1 else is_dirty groups k s) ≡ is_group_dirty new k s
      by true same =
          let j : k ≡ g = eqb-true k g same in
          over_range (group_start g) (slice_index group_sizes g) s (slice_index groups g) word stays low lt l (h.of_groups g s is.group low) still
          ∙ ap (λ (n : ℕ). is_group_dirty new n s) (sym j)
      by false other =
          h.of_groups k s room low
          ∙ any_same_in_range (λ i. is_dirty old i s) (λ i. is_dirty new i s) (group_start k) (slice_index group_sizes k)
          (λ i from to. sym (c.bits i s low ∙ ap (λ b. is_dirty old i s && not (b && s == server)) (apart i from to) ∙ and-true (is_dirty old i s)))
        where
          apart : (i : ℕ) → group_start k ≤ i → i < group_start k + slice_index group_sizes k → (i == e) ≡ false
          apart i from to = not_same (i == e) refl
            where
              not_same : (b : Bool) → (i == e) ≡ b → b ≡ false
              not_same false is_e = refl
              not_same true is_e =
                  let j : i ≡ e = eqb-true i e is_e in
                  absurd (eqb-false k g other (one_group e k g (record { group = room; low = omega (arith, from, j); high = omega (arith, to, j) }) is))

  pub cleared_hierarchy : (groups : List ℕ) (top g word last : ℕ) (stays more : Bool) → server < 32 → length groups ≡ length group_sizes → IsGroupOf e g
      → IsHierarchy old groups top → IsLowered (slice_index groups g) word server stays → stays ≡ is_group_dirty new g server
      → IsLowered top last server more → more ≡ list_any (λ k. is_dirty (slice_set groups g word) k server) (range_with_len 0 (length group_sizes))
      → IsHierarchy new (slice_set groups g word) last
  cleared_hierarchy groups top g word last stays more lt nine is h l still m any = record {
    of_groups = cleared_groups groups top g word stays lt nine is h l still;
    of_top = λ s low. over_range 0 element_count s top last more low lt m (h.of_top s low) (any ∙ all);
  }
    where
      all : list_any (λ k. is_dirty (slice_set groups g word) k server) (range_with_len 0 (length group_sizes)) ≡ is_any_dirty new server
      all =
          any_same_in_range (λ k. is_dirty (slice_set groups g word) k server) (λ k. is_group_dirty new k server) 0 (length group_sizes)
          (λ k from to. cleared_groups groups top g word stays lt nine is h l still k server (omega (arith, to)) lt)
          ∙ groups_together new server
