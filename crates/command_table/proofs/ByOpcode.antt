-- What is the same for each opcode of the table is the same for every opcode.
use Rattle.std.proofs.Common.{◌≡◌, ℕ, zero, suc, ◌+◌, ◌-◌, ◌<◌, ◌≤◌, true, false, eqb, List, [], ◌∷◌, length, get_or, map, ◌⊎◌, Option, Some, None, refl, sym, ap, ◌∙◌, arith, inl, inr}
use Rattle.std.specs.Prelude.{slice_get}
use Rattle.std.specs.List.{find, range_with_len}
use Rattle.std.specs.Option.{option_map}
use Rattle.std.specs.Cmp.Lexicographic.{bytes_decides}
use Rattle.std.proofs.lemmas.Bool.{cases_eq, eq-eqb, ne_eqb, cases_Bool}
use Rattle.std.proofs.lemmas.Option.{slice_get-map, same_Some}
use Rattle.rc_base.specs.declared.command.Opcode.{Opcode}
use Rattle.rc_base.specs.declared.command.Opcode.TheVariants as op
use Rattle.rc_base.specs.Formats.Commands.{table_row, opcodes, opcode_number}
use Rattle.command_table.specs.Opcodes.{has_number, opcode_of_byte, has_name, opcode_of_name}

-- each opcode stands in the list at the place of its number, counted from 1
listed : (o : Opcode) → slice_get opcodes (opcode_number o - 1) ≡ Some o
listed op.Begin = refl
listed o = refl

module _ {A : Type 0} where
  at_its_place : (f : Opcode → A) (o : Opcode) → slice_get (map f opcodes) (opcode_number o - 1) ≡ Some (f o)
  at_its_place f o = slice_get-map f opcodes (opcode_number o - 1) ∙ ap (option_map f) (listed o)

  -- one line, mostly by refl, in place of one for each opcode
  pub same_for_each : (f g : Opcode → A) → map f opcodes ≡ map g opcodes → (o : Opcode) → f o ≡ g o
  same_for_each f g e o = same_Some (f o) (g o) (sym (at_its_place f o) ∙ ap (λ (l : List A). slice_get l (opcode_number o - 1)) e ∙ at_its_place g o)

-- ---- bytes

pub byte_of_number : (o : Opcode) → opcode_of_byte (opcode_number o) ≡ Some o
unfolding opcode_of_byte
byte_of_number = same_for_each (λ o. opcode_of_byte (opcode_number o)) (λ o. Some o) refl

found_number : (os : List Opcode) (b : ℕ) (o : Opcode) → find (has_number b) os ≡ Some o → b ≡ opcode_number o
found_number [] b o e = absurd cc
found_number (x ∷ xs) b o e = elim (cases_eq (opcode_number x) b) [
  | inl same ↦
      let test : eqb (opcode_number x) b ≡ true = eq-eqb (opcode_number x) b same in
      let found : (let r : Option Opcode = Some x in r) ≡ Some o = rw test at e in
      sym same ∙ ap opcode_number (same_Some x o found)
  | inr other ↦
      let test : eqb (opcode_number x) b ≡ false = ne_eqb (opcode_number x) b other in
      found_number xs b o (rw test at e)
]

pub number_of_byte : (b : ℕ) (o : Opcode) → opcode_of_byte b ≡ Some o → b ≡ opcode_number o
unfolding opcode_of_byte
number_of_byte b o e = found_number opcodes b o e

-- where numbers rise one by one, the opcode of a number stands at its place
found_at : (os : List Opcode) (first : ℕ) → map opcode_number os ≡ range_with_len first (length os) → (b : ℕ) → first ≤ b → find (has_number b) os ≡ slice_get os (b - first)
found_at [] first e b le = refl
found_at (x ∷ xs) first e b le =
    let number : opcode_number x ≡ first = cc in
    let others : map opcode_number xs ≡ range_with_len (first + 1) (length xs) = cc in
    elim (cases_eq (opcode_number x) b) [
      | inl same ↦
          let test : eqb (opcode_number x) b ≡ true = eq-eqb (opcode_number x) b same in
          let place : b - first ≡ 0 = omega (arith, number, same) in
          rw (test, place) refl
      | inr other ↦
          let test : eqb (opcode_number x) b ≡ false = ne_eqb (opcode_number x) b other in
          let place : b - first ≡ suc (b - (first + 1)) = after first b le (λ same. other (number ∙ same)) in
          rw (test, place) (found_at xs (first + 1) others b (above first b le (λ same. other (number ∙ same))))
    ]
  where
    above : (m n : ℕ) → m ≤ n → (m ≡ n → ⊥) → m + 1 ≤ n
    above m n le ne = elim (cases_eq m n) [ inl same ↦ absurd (ne same) | inr _ ↦ omega arith ]

    after : (m n : ℕ) → m ≤ n → (m ≡ n → ⊥) → n - m ≡ suc (n - (m + 1))
    after m n le ne = omega (arith, above m n le ne)

get_within : {A : Type 0} (xs : List A) (i : ℕ) (d : A) → i < length xs → slice_get xs i ≡ Some (get_or xs i d)
get_within [] i d less = absurd (omega arith)
get_within (x ∷ xs) zero d less = refl
get_within (x ∷ xs) (suc i) d less = get_within xs i d (omega arith)

get_past : {A : Type 0} (xs : List A) (i : ℕ) → length xs ≤ i → slice_get xs i ≡ None
get_past [] i past = refl
get_past (x ∷ xs) zero past = absurd (omega arith)
get_past (x ∷ xs) (suc i) past = get_past xs i (omega arith)

some : (b : ℕ) → (b ≡ 0 → ⊥) → 1 ≤ b
some b ne = elim (cases_eq b 0) [ inl none ↦ absurd (ne none) | inr _ ↦ omega arith ]

pub opcode_at : (b : ℕ) (d : Opcode) → (b ≡ 0 → ⊥) → b ≤ 36 → Some (get_or opcodes (b - 1) d) ≡ opcode_of_byte b
unfolding opcode_of_byte
opcode_at b d least most = sym (found_at opcodes 1 refl b (some b least) ∙ get_within opcodes (b - 1) d (omega arith))

pub no_opcode : (b : ℕ) → (b ≡ 0) ⊎ (36 < b) → opcode_of_byte b ≡ None
unfolding opcode_of_byte
no_opcode b (inl none) = ap (λ (n : ℕ). find (has_number n) opcodes) none
no_opcode b (inr past) = found_at opcodes 1 refl b (omega arith) ∙ get_past opcodes (b - 1) (omega arith)

pub one_number : (a b : Opcode) → opcode_number a ≡ opcode_number b → a ≡ b
one_number a b same = same_Some a b (sym (byte_of_number a) ∙ ap opcode_of_byte same ∙ byte_of_number b)

-- ---- names

pub opcode_of_its_name : (o : Opcode) → opcode_of_name (table_row o).name ≡ Some o
unfolding opcode_of_name
opcode_of_its_name = same_for_each (λ o. opcode_of_name (table_row o).name) (λ o. Some o) refl

pub one_name : (a b : Opcode) → (table_row a).name ≡ (table_row b).name → a ≡ b
one_name a b same = same_Some a b (sym (opcode_of_its_name a) ∙ ap opcode_of_name same ∙ opcode_of_its_name b)

found_name : (os : List Opcode) (text : List ℕ) (o : Opcode) → find (has_name text) os ≡ Some o → text ≡ (table_row o).name
found_name [] text o e = absurd cc
found_name (x ∷ xs) text o e = elim (cases_Bool (has_name text x)) [
  | inl named ↦
      let here : (let r : Option Opcode = Some x in r) ≡ Some o = rw named at e in
      sym ((bytes_decides (table_row x).name text).0 named) ∙ ap (λ y. (table_row y).name) (same_Some x o here)
  | inr other ↦ found_name xs text o (rw other at e)
]

-- the opcode that a name stands for has this name
pub name_found : (text : List ℕ) (o : Opcode) → opcode_of_name text ≡ Some o → text ≡ (table_row o).name
unfolding opcode_of_name
name_found text o e = found_name opcodes text o e
