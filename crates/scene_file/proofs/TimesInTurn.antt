-- Reading so many things of one kind, as a loop does.
use Rattle.std.proofs.Common.{◌≡◌, ℕ, suc, ◌-◌, ◌+◌, ◌≤◌, ◌<◌, List, [], ◌∷◌, ◌++◌, Result, Ok, Err, refl, sym, ap, ◌∙◌, append_assoc, arith}
use Rattle.std.proofs.lemmas.List.{append-nil}
use Rattle.byte_codec.specs.declared.fault.Form.{Form}
use Rattle.byte_codec.specs.declared.fault.ReadError.{ReadError}
use Rattle.byte_codec.specs.declared.fault.ReadError.TheVariants as errors
use Rattle.byte_codec.specs.Reading.{cons, ◌>>=◌, Fails, with_front}
use Rattle.scene_file.specs.Reading.{read_times}

module _ {A : Type 0} (p : List ℕ → Result (A × List ℕ) Form) where
  abbrev pair_with : A → Result (List A × List ℕ) Form → Result ((A × List A) × List ℕ) Form
  pair_with a (Ok x) = Ok ((a, x.0), x.1)
  pair_with a (Err f) = Err f

  abbrev cons_all : Result ((A × List A) × List ℕ) Form → Result (List A × List ℕ) Form
  cons_all (Ok x) = Ok (cons x.0, x.1)
  cons_all (Err f) = Err f

  regroup : (front : List A) (a : A) (read : Result (List A × List ℕ) Form) → with_front front (cons_all (pair_with a read)) ≡ with_front (front ++ a ∷ []) read
  regroup front a (Ok x) = ap (λ (l : List A). Ok (l, x.1)) (simp append_assoc)
  regroup front a (Err f) = refl

  stepped : (a : A) (read : Result (List A × List ℕ) Form)
      → ((◌>>=◌ {A = (A × List A) × List ℕ} {B = List A × List ℕ} (◌>>=◌ {A = List A × List ℕ} {B = (A × List A) × List ℕ} read (λ y. Ok ((a, y.0), y.1))) (λ x. Ok (cons {A = A} x.0, x.1))) ≡ cons_all (pair_with a read))
  stepped a (Ok x) = refl
  stepped a (Err f) = refl

  step : (n : ℕ) (bytes : List ℕ) (a : A) (after : List ℕ) → p bytes ≡ Ok (a, after) → read_times p (suc n) bytes ≡ cons_all (pair_with a (read_times p n after))
  unfolding read_times
  step n bytes a after h = rw h (stepped a (read_times p n after))

  pub times_go_on : (front : List A) (count i : ℕ) (bytes : List ℕ) (a : A) (after : List ℕ) (total : Result (List A × List ℕ) Form) → i < count → p bytes ≡ Ok (a, after)
      → with_front front (read_times p (count - i) bytes) ≡ total → with_front (front ++ a ∷ []) (read_times p (count - (i + 1)) after) ≡ total
  unfolding read_times
  times_go_on front count i bytes a after total lt h so_far =
      let k : count - i ≡ suc (count - (i + 1)) = omega arith in
      let one : with_front front (read_times p (count - i) bytes) ≡ with_front (front ++ a ∷ []) (read_times p (count - (i + 1)) after) = rw (k, step (count - (i + 1)) bytes a after h) (regroup front a (read_times p (count - (i + 1)) after)) in
      sym one ∙ so_far

  pub times_end : (e : ReadError) (front : List A) (count i : ℕ) (bytes : List ℕ) (total : Result (List A × List ℕ) Form) → i < count → Fails e (p bytes)
      → with_front front (read_times p (count - i) bytes) ≡ total → Fails e total
  unfolding read_times
  times_end errors.Memory front count i bytes total lt h so_far = tt
  times_end (errors.Form f) front count i bytes total lt h so_far =
      let k : count - i ≡ suc (count - (i + 1)) = omega arith in
      let one : with_front front (read_times p (count - i) bytes) ≡ Err f = rw (k, h) refl in
      sym so_far ∙ one

  pub times_done : (front : List A) (count i : ℕ) (bytes : List ℕ) (total : Result (List A × List ℕ) Form) → count ≤ i → with_front front (read_times p (count - i) bytes) ≡ total → total ≡ Ok (front, bytes)
  unfolding read_times
  times_done front count i bytes total le so_far =
      let k : count - i ≡ 0 = omega arith in
      let one : with_front front (read_times p (count - i) bytes) ≡ Ok (front, bytes) = rw k (ap (λ (l : List A). Ok (l, bytes)) (append-nil front)) in
      sym so_far ∙ one
