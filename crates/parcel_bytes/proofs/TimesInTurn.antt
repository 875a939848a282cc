-- Reading so many things one after the other, as a loop does.
use Rattle.std.proofs.Common.{◌≡◌, ℕ, suc, ◌-◌, ◌+◌, ◌≤◌, ◌<◌, List, [], ◌∷◌, ◌++◌, Result, Ok, Err, refl, sym, ap, ◌∙◌, append_assoc, arith}
use Rattle.std.proofs.lemmas.List.{append-nil}
use Rattle.byte_codec.specs.declared.fault.Form.{Form}
use Rattle.byte_codec.specs.declared.fault.ReadError.{ReadError}
use Rattle.byte_codec.specs.declared.fault.ReadError.TheVariants as errors
use Rattle.byte_codec.specs.Reading.{◌>>=◌, Fails, with_front, convert, cons}
use Rattle.parcel_bytes.specs.Reading.{read_times}

abbrev paired : {A : Type 0} → A → List A × List ℕ → Result ((A × List A) × List ℕ) Form
paired a y = Ok ((a, y.0), y.1)

regroup_pairs : {A : Type 0} (front : List A) (a : A) (read : Result (List A × List ℕ) Form)
    → with_front front (convert cons (λ _. read >>= λ y. paired a y) []) ≡ with_front (front ++ a ∷ []) read
regroup_pairs {A} front a (Ok x) = ap (λ (l : List A). Ok (l, x.1)) (simp append_assoc)
regroup_pairs front a (Err f) = refl

module _ {A : Type 0} (p : List ℕ → Result (A × List ℕ) Form) where
  pub times_go_on : (front : List A) (count i : ℕ) (bytes : List ℕ) (a : A) (after : List ℕ) (total : Result (List A × List ℕ) Form) → i < count → p bytes ≡ Ok (a, after)
      → with_front front (read_times p (count - i) bytes) ≡ total → with_front (front ++ a ∷ []) (read_times p (count - (i + 1)) after) ≡ total
  unfolding read_times
  times_go_on front count i bytes a after total lt h so_far =
      let k : count - i ≡ suc (count - (i + 1)) = omega arith in
      let one : with_front front (read_times p (count - i) bytes) ≡ with_front (front ++ a ∷ []) (read_times p (count - (i + 1)) after) = rw (k, h) (regroup_pairs front a (read_times p (count - (i + 1)) after)) in
      sym one ∙ so_far

  pub times_end : (e : ReadError) (front : List A) (count i : ℕ) (bytes : List ℕ) (total : Result (List A × List ℕ) Form) → i < count → Fails e (p bytes)
      → with_front front (read_times p (count - i) bytes) ≡ total → Fails e total
  unfolding read_times
  times_end errors.Memory front count i bytes total lt h so_far = tt
  times_end (errors.Form f) front count i bytes total lt h so_far =
      let k : count - i ≡ suc (count - (i + 1)) = omega arith in
      let one : with_front front (read_times p (count - i) bytes) ≡ Err f = rw (k, h) refl in
      sym so_far ∙ one

  pub times_done : (front : List A) (count i : ℕ) (bytes : List ℕ) (total : Result (List A × List ℕ) Form) → count ≤ i
      → with_front front (read_times p (count - i) bytes) ≡ total → total ≡ Ok (front, bytes)
  unfolding read_times
  times_done front count i bytes total le so_far =
      let k : count - i ≡ 0 = omega arith in
      let one : with_front front (read_times p (count - i) bytes) ≡ Ok (front, bytes) = rw k (ap (λ (l : List A). Ok (l, bytes)) (append-nil front)) in
      sym so_far ∙ one
