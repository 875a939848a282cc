-- Orders as runs of each client's names: which names they have, and how they rise.
use Rattle.std.proofs.Common.{◌≡◌, ℕ, ◌+◌, ◌<◌, ◌≤◌, ◌==◌, cond, List, [], ◌∷◌, ◌↔◌, inl, inr, refl, sym, ap, ◌∙◌, subst, arith, eq-eqb, eqb-true, ne_eqb}
use Rattle.std.proofs.lemmas.Bool.{cases_lt, eqb-false, cases_Bool}
use Rattle.rc_base.specs.Lists.{IsIn, Stands}
use Rattle.rc_base.specs.declared.sync.Name.{Name}

-- a client's cursor behind its next name
abbrev pub bump : (ℕ → ℕ) → ℕ → ℕ → ℕ
bump cursor c d = cond (d == c) (cursor d + 1) (cursor d)

-- the names are, for each client, those from its cursor up to its end, in their order
abbrev pub IsRun : (ℕ → ℕ) → (ℕ → ℕ) → List Name → Type 0
IsRun end cursor [] = (c : ℕ) → cursor c ≡ end c
IsRun end cursor (n ∷ ns) = (n.place ≡ cursor n.client) × (n.place < end n.client) × IsRun end (bump cursor n.client) ns

-- each client's names rise
abbrev pub Rising : List Name → Type 0
Rising o = (a b : Name) → a.client ≡ b.client → Stands a b o → a.place < b.place

-- the names from each client's cursor up to its end, and no other
abbrev pub HasNames : (ℕ → ℕ) → (ℕ → ℕ) → List Name → Type 0
HasNames end cursor o = (n : Name) → IsIn n o ↔ ((cursor n.client ≤ n.place) × (n.place < end n.client))

bump_same : (cursor : ℕ → ℕ) (c d : ℕ) → d ≡ c → bump cursor c d ≡ cursor d + 1
bump_same cursor c d e = rw (eq-eqb d c e) refl

bump_other : (cursor : ℕ → ℕ) (c d : ℕ) → (d ≡ c → ⊥) → bump cursor c d ≡ cursor d
bump_other cursor c d ne = rw (ne_eqb d c ne) refl

bump_more : (cursor : ℕ → ℕ) (c d : ℕ) → cursor d ≤ bump cursor c d
bump_more cursor c d = elim (cases_Bool (d == c)) [ inl t ↦ rw t (omega arith) | inr f ↦ rw f (omega arith) ]

pub run_names : (end cursor : ℕ → ℕ) (o : List Name) → IsRun end cursor o → HasNames end cursor o
run_names end cursor [] r n = (λ i. absurd i, λ h. let e = r n.client in omega arith)
run_names end cursor (m ∷ o) r n =
    let rest = run_names end (bump cursor m.client) o r.2 n in (
      λ i. elim i [
        | inl e ↦ subst (λ (k : Name). (cursor k.client ≤ k.place) × (k.place < end k.client)) e (omega (arith, r.0), r.1)
        | inr j ↦ let h = rest.0 j in let k = bump_more cursor m.client n.client in (omega arith, h.1)
      ],
      λ h. elim (cases_Bool (n.client == m.client)) [
        | inl t ↦
            let e : n.client ≡ m.client = eqb-true n.client m.client t in
            let b = bump_same cursor m.client n.client e in
            let p : m.place ≡ cursor n.client = r.0 ∙ ap cursor (sym e) in
            elim (cases_lt (cursor n.client) n.place) [
              | inl lt ↦ inr (rest.1 (omega arith, h.1))
              | inr le ↦ let q : m.place ≡ n.place = omega arith in inl (λ i. record { client = sym e i; place = q i })
            ]
        | inr f ↦ let b = bump_other cursor m.client n.client (eqb-false n.client m.client f) in inr (rest.1 (omega arith, h.1))
      ],
    )

pub run_rising : (end cursor : ℕ → ℕ) (o : List Name) → IsRun end cursor o → Rising o
run_rising end cursor [] r a b e s = absurd s
run_rising end cursor (m ∷ o) r a b e (inl h) =
    let k = (run_names end (bump cursor m.client) o r.2 b).0 h.1 in
    let c : b.client ≡ m.client = sym e ∙ sym (ap (λ (x : Name). x.client) h.0) in
    let p : m.place ≡ a.place = ap (λ (x : Name). x.place) h.0 in
    let q = bump_same cursor m.client b.client c in
    let w : cursor m.client ≡ cursor b.client = ap cursor (sym c) in
    omega (arith, r.0, k.0)
run_rising end cursor (m ∷ o) r a b e (inr h) = run_rising end (bump cursor m.client) o r.2 a b e h

pub names_run : (end cursor : ℕ → ℕ) (o : List Name) → ((c : ℕ) → cursor c ≤ end c) → HasNames end cursor o → Rising o → IsRun end cursor o
names_run end cursor [] le h r =
    λ c. elim (cases_lt (cursor c) (end c)) [ inl lt ↦ absurd ((h record { client = c; place = cursor c }).1 (omega arith, lt)) | inr ge ↦ omega (arith, le c) ]
names_run end cursor (m ∷ o) le h r =
    let mine = (h m).0 (inl refl) in
    let first : m.place ≡ cursor m.client = elim (cases_lt (cursor m.client) m.place) [
      | inl lt ↦ absurd (elim ((h record { client = m.client; place = cursor m.client }).1 (omega arith, omega (arith, mine.1))) [
        | inl e ↦ let p : m.place ≡ cursor m.client = ap (λ (x : Name). x.place) e in omega arith
        | inr j ↦ let p = r m record { client = m.client; place = cursor m.client } refl (inl (refl, j)) in omega arith
      ])
      | inr ge ↦ omega (arith, mine.0)
    ] in
    let cursor' = bump cursor m.client in
    let le' : (c : ℕ) → cursor' c ≤ end c = λ c. elim (cases_Bool (c == m.client)) [
      | inl t ↦ let e = eqb-true c m.client t in omega (arith, bump_same cursor m.client c e, ap cursor e, ap end e, mine.1)
      | inr f ↦ omega (arith, bump_other cursor m.client c (eqb-false c m.client f), le c)
    ] in
    let h' : HasNames end cursor' o = λ n. (
      λ i.
          let was = (h n).0 (inr i) in
          elim (cases_Bool (n.client == m.client)) [
            | inl t ↦
                let e = eqb-true n.client m.client t in
                let up = r m n (sym e) (inl (refl, i)) in
                (omega (arith, bump_same cursor m.client n.client e, ap cursor e), was.1)
            | inr f ↦ (omega (arith, bump_other cursor m.client n.client (eqb-false n.client m.client f), was.0), was.1)
          ],
      λ k. elim ((h n).1 (omega (arith, bump_more cursor m.client n.client, k.0), k.1)) [
        | inl e ↦ absurd (
            let c : n.client ≡ m.client = ap (λ (x : Name). x.client) (sym e) in
            let p : m.place ≡ n.place = ap (λ (x : Name). x.place) e in
            omega (arith, bump_same cursor m.client n.client c, ap cursor c, k.0))
        | inr j ↦ j
      ],
    ) in
    (first, mine.1, names_run end cursor' o le' h' (λ a b e s. r a b e (inr s)))

pub run_le : (last first : ℕ → ℕ) (o : List Name) → IsRun last first o → (c : ℕ) → first c ≤ last c
run_le last first [] r c = omega (arith, r c)
run_le last first (n ∷ o) r c = elim (cases_Bool (c == n.client)) [
  | inl t ↦ let h = run_le last (bump first n.client) o r.2 c in let h' : first c + 1 ≤ last c = rw t at h in omega arith
  | inr f ↦ let h = run_le last (bump first n.client) o r.2 c in let h' : first c ≤ last c = rw f at h in h'
]
