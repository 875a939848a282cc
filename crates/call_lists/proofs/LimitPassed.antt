-- Where the costs pass their limit.
use Rattle.std.proofs.Common.{◌≡◌, ℕ, ◌≤◌, ◌<◌, ◌+◌, List, [], ◌∷◌, ◌++◌, true, false, ltb, ◌⊎◌, inl, inr, refl, ap, sym, ◌∙◌, arith}
use Rattle.std.specs.Prelude.{Result, Ok, Err, IfOk, IfErr}
use Rattle.std.proofs.lemmas.List.Sums.{sum_by-append, sum_by-cons}
use Rattle.std.proofs.lemmas.Bool.{cases_lt, le-ltb, lt-ltb}
use Rattle.rc_base.specs.declared.list_command.ListCommand.{ListCommand}
use Rattle.call_lists.specs.declared.answer.Expansion.{Expansion}
use Rattle.call_lists.specs.declared.answer.ExpandFault.{ExpandFault}
use Rattle.call_lists.specs.declared.answer.ExpandFault.TheVariants.{TooLong, OutOfMemory}
use Rattle.call_lists.specs.Expansion.{cost_of, costs, Passes, TellsTooLong}
use Rattle.call_lists.specs.Scenes.{cost_told}

one_place : (front others : List ListCommand) (spent : ℕ) (c d : ListCommand) (cs ds : List ListCommand)
    → front ++ c ∷ cs ≡ others ++ d ∷ ds → spent + costs front ≤ 67108864 → 67108864 < spent + costs front + cost_of c
    → spent + costs others ≤ 67108864 → 67108864 < spent + costs others + cost_of d → spent + costs front + cost_of c ≡ spent + costs others + cost_of d
one_place [] [] spent c d cs ds same w p v q = let e : c ≡ d = cc in ap (λ x. spent + costs [] + cost_of x) e
one_place [] (y ∷ ys) spent c d cs ds same w p v q =
    let e : c ≡ y = cc in
    absurd (omega (arith, w, p, v, q, ap cost_of e, sum_by-cons cost_of y ys))
one_place (x ∷ xs) [] spent c d cs ds same w p v q =
    let e : x ≡ d = cc in
    absurd (omega (arith, w, p, v, q, ap cost_of e, sum_by-cons cost_of x xs))
one_place (x ∷ xs) (y ∷ ys) spent c d cs ds same w p v q =
    let e : x ≡ y = cc in
    let rest : xs ++ c ∷ cs ≡ ys ++ d ∷ ds = cc in
    let a = sum_by-cons cost_of x xs in
    let b = sum_by-cons cost_of y ys in
    let f = ap cost_of e in
    let h = one_place xs ys (spent + cost_of x) c d cs ds rest (omega (arith, w, a)) (omega (arith, p, a)) (omega (arith, v, b, f)) (omega (arith, q, b, f)) in
    omega (arith, h, a, b, f)

pub passes_once : (spent : ℕ) (commands : List ListCommand) (sum other : ℕ) → Passes spent commands sum → Passes spent commands other → sum ≡ other
passes_once spent commands sum other p q =
    p.sum_is
    ∙ one_place p.front q.front spent p.command q.command p.rest q.rest (sym p.parts ∙ q.parts) p.within (omega (arith, p.sum_is, p.passed)) q.within (omega (arith, q.sum_is, q.passed))
    ∙ sym q.sum_is

pub passes_beyond : (spent : ℕ) (commands : List ListCommand) (sum : ℕ) → Passes spent commands sum → 67108864 < spent + costs commands
passes_beyond spent commands sum p =
    omega (arith, p.sum_is, p.passed, ap costs p.parts, sum_by-append cost_of p.front (p.command ∷ p.rest), sum_by-cons cost_of p.command p.rest)

passes_behind : (spent : ℕ) (c : ListCommand) (cs : List ListCommand) (sum : ℕ) → Passes (spent + cost_of c) cs sum → Passes spent (c ∷ cs) sum
passes_behind spent c cs sum p = record {
  front = c ∷ p.front;
  command = p.command;
  rest = p.rest;
  parts = ap (λ xs. c ∷ xs) p.parts;
  within = omega (arith, p.within, sum_by-cons cost_of c p.front);
  sum_is = p.sum_is ∙ omega (arith, sum_by-cons cost_of c p.front);
  passed = p.passed;
}

pub passes_somewhere : (commands : List ListCommand) (spent : ℕ) → spent ≤ 67108864 → 67108864 < spent + costs commands → (sum : ℕ) × Passes spent commands sum
passes_somewhere [] spent within beyond = absurd (omega (arith, within, beyond))
passes_somewhere (c ∷ cs) spent within beyond =
    elim (cases_lt 67108864 (spent + cost_of c)) as (λ _. (sum : ℕ) × Passes spent (c ∷ cs) sum) [
      | inl now ↦ (spent + cost_of c, record { front = []; command = c; rest = cs; parts = refl; within = omega (arith, within); sum_is = omega arith; passed = now })
      | inr later ↦
          let h = passes_somewhere cs (spent + cost_of c) later (omega (arith, beyond, sum_by-cons cost_of c cs)) in
          (h.0, passes_behind spent c cs h.0 h.1)
    ]

-- ---- the sum that is told

pub told_within : (commands : List ListCommand) (spent : ℕ) → spent + costs commands ≤ 67108864 → cost_told spent commands ≡ spent + costs commands
unfolding cost_told
told_within [] spent within = omega arith
told_within (c ∷ cs) spent within =
    let e = sum_by-cons cost_of c cs in
    let no : ltb 67108864 (spent + cost_of c) ≡ false = le-ltb 67108864 (spent + cost_of c) (omega (arith, within, e)) in
    rw no (told_within cs (spent + cost_of c) (omega (arith, within, e)) ∙ omega (arith, e))

told_at : (front : List ListCommand) (spent : ℕ) (c : ListCommand) (cs : List ListCommand) → spent + costs front ≤ 67108864 → 67108864 < spent + costs front + cost_of c
    → cost_told spent (front ++ c ∷ cs) ≡ spent + costs front + cost_of c
unfolding cost_told
told_at [] spent c cs within passed =
    let yes : ltb 67108864 (spent + cost_of c) ≡ true = lt-ltb 67108864 (spent + cost_of c) (omega (arith, passed)) in
    rw yes (omega arith)
told_at (f ∷ fs) spent c cs within passed =
    let e = sum_by-cons cost_of f fs in
    let no : ltb 67108864 (spent + cost_of f) ≡ false = le-ltb 67108864 (spent + cost_of f) (omega (arith, within, e)) in
    rw no (told_at fs (spent + cost_of f) c cs (omega (arith, within, e)) (omega (arith, passed, e)) ∙ omega (arith, e))

pub told_passed : (spent : ℕ) (commands : List ListCommand) (sum : ℕ) → Passes spent commands sum → cost_told spent commands ≡ sum
told_passed spent commands sum p =
    ap (cost_told spent) p.parts ∙ told_at p.front spent p.command p.rest p.within (omega (arith, p.sum_is, p.passed)) ∙ sym p.sum_is

-- ---- both directions of an answer

pub expanded_forced : (r : Result Expansion ExpandFault) (spent : ℕ) (commands : List ListCommand) (x : Expansion)
    → IfOk r (λ y. y ≡ x) → IfErr r (TellsTooLong spent commands) → spent + costs commands ≤ 67108864 → (r ≡ Ok x) ⊎ (r ≡ Err OutOfMemory)
expanded_forced (Ok y) spent commands x found fails within = inl (ap (λ z. Ok z) found)
expanded_forced (Err (TooLong sum)) spent commands x found fails within = absurd (omega (arith, within, passes_beyond spent commands sum fails))
expanded_forced (Err OutOfMemory) spent commands x found fails within = inr refl

pub too_long_forced : (r : Result Expansion ExpandFault) (spent : ℕ) (commands : List ListCommand)
    → IfOk r (λ y. spent + costs commands ≤ 67108864) → IfErr r (TellsTooLong spent commands)
    → (sum : ℕ) → Passes spent commands sum → (r ≡ Err (TooLong sum)) ⊎ (r ≡ Err OutOfMemory)
too_long_forced (Ok y) spent commands within fails sum p = absurd (omega (arith, within, passes_beyond spent commands sum p))
too_long_forced (Err (TooLong other)) spent commands within fails sum p = inl (ap (λ n. Err (TooLong n)) (passes_once spent commands other sum fails p))
too_long_forced (Err OutOfMemory) spent commands within fails sum p = inr refl
