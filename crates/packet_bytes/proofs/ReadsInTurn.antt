-- Reading one thing after the other, as a loop does.
use Rattle.std.proofs.Common.{length, get_or, drop, ◌≡◌, ℕ, ℤ, suc, ◌-◌, ◌+◌, ◌≤◌, ◌<◌, List, [], ◌∷◌, ◌++◌, Result, Ok, Err, refl, sym, ap, ◌∙◌, append_assoc, arith}
use Rattle.std.proofs.lemmas.List.{append-nil, drop_more, drop_all}
use Rattle.byte_codec.specs.declared.fault.Form.{Form}
use Rattle.byte_codec.specs.declared.fault.ReadError.{ReadError}
use Rattle.byte_codec.specs.declared.fault.ReadError.TheVariants as errors
use Rattle.packet_bytes.specs.Packets.{read_opcode, read_opcodes, read_payloads}
use Rattle.rc_base.specs.declared.command.NumberRange.{NumberRange}
use Rattle.packet_bytes.specs.Parts.{read_number, read_numbers}
use Rattle.byte_codec.specs.Reading.{◌>>=◌, Fails, with_front, convert, cons}
use Rattle.rc_base.specs.Formats.Spelling.{CommandSet}
use Rattle.packet_bytes.specs.Sets.{SetReader, Agrees}

pub regroup : {A : Type 0} (front : List A) (a : A) (read : Result (List A × List ℕ) Form) → with_front front (read >>= λ x. Ok (a ∷ x.0, x.1)) ≡ with_front (front ++ a ∷ []) read
regroup {A} front a (Ok x) = ap (λ (l : List A). Ok (l, x.1)) (simp append_assoc)
regroup front a (Err f) = refl

pub front_none : {A : Type 0} (read : Result (List A × List ℕ) Form) → with_front [] read ≡ read
front_none (Ok x) = refl
front_none (Err f) = refl

-- ---- numbers

abbrev paired : ℤ → List ℤ × List ℕ → Result ((ℤ × List ℤ) × List ℕ) Form
paired a y = Ok ((a, y.0), y.1)

regroup_numbers : (front : List ℤ) (a : ℤ) (read : Result (List ℤ × List ℕ) Form)
    → with_front front (convert cons (λ _. read >>= λ y. paired a y) []) ≡ with_front (front ++ a ∷ []) read
regroup_numbers front a (Ok x) = ap (λ (l : List ℤ). Ok (l, x.1)) (simp append_assoc)
regroup_numbers front a (Err f) = refl

pub numbers_go_on : (front : List ℤ) (ranges : List NumberRange) (i : ℕ) (d : NumberRange) (bytes : List ℕ) (z : ℤ) (after : List ℕ) (total : Result (List ℤ × List ℕ) Form) → i < length ranges
    → read_number (get_or ranges i d) bytes ≡ Ok (z, after)
    → with_front front (read_numbers (drop i ranges) bytes) ≡ total → with_front (front ++ z ∷ []) (read_numbers (drop (i + 1) ranges) after) ≡ total
unfolding read_numbers
numbers_go_on front ranges i d bytes z after total lt h so_far =
    let one : with_front front (read_numbers (drop i ranges) bytes) ≡ with_front (front ++ z ∷ []) (read_numbers (drop (i + 1) ranges) after) = rw (drop_more ranges i d lt, h) (regroup_numbers front z (read_numbers (drop (i + 1) ranges) after)) in
    sym one ∙ so_far

pub numbers_end : (e : ReadError) (front : List ℤ) (ranges : List NumberRange) (i : ℕ) (d : NumberRange) (bytes : List ℕ) (total : Result (List ℤ × List ℕ) Form) → i < length ranges
    → Fails e (read_number (get_or ranges i d) bytes)
    → with_front front (read_numbers (drop i ranges) bytes) ≡ total → Fails e total
unfolding read_numbers
numbers_end errors.Memory front ranges i d bytes total lt h so_far = tt
numbers_end (errors.Form f) front ranges i d bytes total lt h so_far =
    let one : with_front front (read_numbers (drop i ranges) bytes) ≡ Err f = rw (drop_more ranges i d lt, h) refl in
    sym so_far ∙ one

pub numbers_done : (front : List ℤ) (ranges : List NumberRange) (i : ℕ) (bytes : List ℕ) (total : Result (List ℤ × List ℕ) Form) → length ranges ≤ i
    → with_front front (read_numbers (drop i ranges) bytes) ≡ total → total ≡ Ok (front, bytes)
unfolding read_numbers
numbers_done front ranges i bytes total le so_far =
    let one : with_front front (read_numbers (drop i ranges) bytes) ≡ Ok (front, bytes) = rw (drop_all i ranges le) (ap (λ (l : List ℤ). Ok (l, bytes)) (append-nil front)) in
    sym so_far ∙ one

module _ {C O : Type 0} (set : CommandSet C O) (reader : SetReader C O) (laws : Agrees set reader) where
  -- ---- names

  pub names_go_on : (front : List O) (count i : ℕ) (bytes : List ℕ) (o : O) (after : List ℕ) (total : Result (List O × List ℕ) Form) → i < count → read_opcode reader bytes ≡ Ok (o, after)
      → with_front front (read_opcodes reader (count - i) bytes) ≡ total → with_front (front ++ o ∷ []) (read_opcodes reader (count - (i + 1)) after) ≡ total
  unfolding read_opcodes
  names_go_on front count i bytes o after total lt h so_far =
      let k : count - i ≡ suc (count - (i + 1)) = omega arith in
      let one : with_front front (read_opcodes reader (count - i) bytes) ≡ with_front (front ++ o ∷ []) (read_opcodes reader (count - (i + 1)) after) = rw (k, h) (regroup front o (read_opcodes reader (count - (i + 1)) after)) in
      sym one ∙ so_far

  pub names_end : (e : ReadError) (front : List O) (count i : ℕ) (bytes : List ℕ) (total : Result (List O × List ℕ) Form) → i < count → Fails e (read_opcode reader bytes)
      → with_front front (read_opcodes reader (count - i) bytes) ≡ total → Fails e total
  unfolding read_opcodes
  names_end errors.Memory front count i bytes total lt h so_far = tt
  names_end (errors.Form f) front count i bytes total lt h so_far =
      let k : count - i ≡ suc (count - (i + 1)) = omega arith in
      let one : with_front front (read_opcodes reader (count - i) bytes) ≡ Err f = rw (k, h) refl in
      sym so_far ∙ one

  pub names_done : (front : List O) (count i : ℕ) (bytes : List ℕ) (total : Result (List O × List ℕ) Form) → count ≤ i → with_front front (read_opcodes reader (count - i) bytes) ≡ total → total ≡ Ok (front, bytes)
  unfolding read_opcodes
  names_done front count i bytes total le so_far =
      let k : count - i ≡ 0 = omega arith in
      let one : with_front front (read_opcodes reader (count - i) bytes) ≡ Ok (front, bytes) = rw k (ap (λ (l : List O). Ok (l, bytes)) (append-nil front)) in
      sym so_far ∙ one

  -- ---- payloads

  pub payloads_go_on : (front : List C) (names : List O) (i : ℕ) (d : O) (bytes : List ℕ) (c : C) (after : List ℕ) (total : Result (List C × List ℕ) Form) → i < length names
      → reader.read (get_or names i d) bytes ≡ Ok (c, after)
      → with_front front (read_payloads reader (drop i names) bytes) ≡ total → with_front (front ++ c ∷ []) (read_payloads reader (drop (i + 1) names) after) ≡ total
  unfolding read_payloads
  payloads_go_on front names i d bytes c after total lt h so_far =
      let one : with_front front (read_payloads reader (drop i names) bytes) ≡ with_front (front ++ c ∷ []) (read_payloads reader (drop (i + 1) names) after) = rw (drop_more names i d lt, h) (regroup front c (read_payloads reader (drop (i + 1) names) after)) in
      sym one ∙ so_far

  pub payloads_end : (e : ReadError) (front : List C) (names : List O) (i : ℕ) (d : O) (bytes : List ℕ) (total : Result (List C × List ℕ) Form) → i < length names
      → Fails e (reader.read (get_or names i d) bytes)
      → with_front front (read_payloads reader (drop i names) bytes) ≡ total → Fails e total
  unfolding read_payloads
  payloads_end errors.Memory front names i d bytes total lt h so_far = tt
  payloads_end (errors.Form f) front names i d bytes total lt h so_far =
      let one : with_front front (read_payloads reader (drop i names) bytes) ≡ Err f = rw (drop_more names i d lt, h) refl in
      sym so_far ∙ one

  pub payloads_done : (front : List C) (names : List O) (i : ℕ) (bytes : List ℕ) (total : Result (List C × List ℕ) Form) → length names ≤ i
      → with_front front (read_payloads reader (drop i names) bytes) ≡ total → total ≡ Ok (front, bytes)
  unfolding read_payloads
  payloads_done front names i bytes total le so_far =
      let one : with_front front (read_payloads reader (drop i names) bytes) ≡ Ok (front, bytes) = rw (drop_all i names le) (ap (λ (l : List C). Ok (l, bytes)) (append-nil front)) in
      sym so_far ∙ one
