-- Where one client takes from each semaphore and no barrier is named by more clients than it counts, two entries that are lawful at one moment are one,
-- or they have no common member and come to one state in either sequence.
use Rattle.std.proofs.Common.{◌≡◌, ℕ, zero, suc, ◌+◌, ◌-◌, ◌<◌, ◌≤◌, ◌==◌, ◌&&◌, Bool, true, false, cond, List, [], ◌∷◌, ◌⊎◌, drop, map, Option, Some, None, inl, inr, refl, sym, ap, ◌∙◌, subst, arith, eq-eqb, true≢false, eqb-true}
use Rattle.std.specs.Prelude.{option_map, ◌||◌}
use Rattle.std.specs.Int.{bit_at}
use Rattle.std.specs.List.{list_any}
use Rattle.std.proofs.lemmas.Bool.{cases_lt, cases_Bool}
use Rattle.std.proofs.lemmas.Nat.Bits.{bit_at-lt, same_from_bits_below}
use mathlib.Core.Path.{fun_ext}
use Rattle.rc_base.specs.Lists.{IsIn}
use Rattle.rc_base.specs.Orders.Grant.{is_at_barrier}
use Rattle.rc_base.specs.Orders.Journal.{SyncState, next, has, how_many, is_member, op_of, IsCounted, IsLawful, units_after, after, head_wait}
use Rattle.rc_base.specs.Orders.Order.{entry_at}
use Rattle.rc_base.specs.Orders.Sync.{client_count, ops_of, count_of}
use Rattle.rc_base.specs.declared.sync.Entry.{Entry}
use Rattle.rc_base.specs.declared.sync.Entry.TheVariants.{Meet, Swap, Give, Take}
use Rattle.rc_base.specs.declared.sync.SyncLists.{SyncLists}
use Rattle.rc_base.specs.declared.sync.SyncOp.{SyncOp}
use Rattle.rc_base.specs.declared.sync.SyncOp.TheVariants.{Barrier, SemP}
use Rattle.rc_base.specs.declared.sync.WaitAt.{WaitAt}
use Rattle.order_model.specs.Laws.{AreOfClients}
use Rattle.order_model.specs.Uncontended.{Issues, names_barrier, TakesAlone}
use Rattle.order_model.proofs.ClientsBeyond.{member_within, past_after}

-- ---- counts of clients

-- one of the first n passes, or none does
pub search_below : (p : ℕ → Bool) (n : ℕ) → ((c : ℕ) × (p c ≡ true)) ⊎ ((c : ℕ) → c < n → p c ≡ false)
search_below p zero = inr (λ c lt. absurd (omega arith))
search_below p (suc n) = elim (cases_Bool (p n)) [
  | inl t ↦ inl (n, t)
  | inr f ↦ elim (search_below p n) [
    | inl found ↦ inl found
    | inr none ↦ inr (λ c lt. elim (cases_lt c n) [ inl lt' ↦ none c lt' | inr ge ↦ let same : n ≡ c = omega arith in subst (λ k. p k ≡ false) same f ])
  ]
]

-- fewer pass a narrower test
fewer_pass : (p q : ℕ → Bool) (n : ℕ) → ((d : ℕ) → p d ≡ true → q d ≡ true) → how_many p n ≤ how_many q n
fewer_pass p q zero h = omega arith
fewer_pass p q (suc n) h = elim (cases_Bool (p n)) [
  | inl t ↦ rw (t, h n t) (omega (arith, fewer_pass p q n h))
  | inr f ↦ rw f (omega (arith, fewer_pass p q n h))
]

-- where the narrower test lets as many pass, it lets the same pass
pub same_pass : (p q : ℕ → Bool) (n : ℕ) → ((d : ℕ) → p d ≡ true → q d ≡ true) → how_many q n ≤ how_many p n → (d : ℕ) → d < n → q d ≡ true → p d ≡ true
same_pass p q zero h le d lt t = absurd (omega arith)
same_pass p q (suc n) h le d lt t = elim (cases_Bool (p n)) [
  | inl passes ↦
      let le' : how_many q n + 1 ≤ how_many p n + 1 = rw (passes, h n passes) at le in
      elim (cases_lt d n) [ inl lt' ↦ same_pass p q n h (omega arith) d lt' t | inr ge ↦ let same : n ≡ d = omega arith in subst (λ k. p k ≡ true) same passes ]
  | inr fails ↦ elim (cases_Bool (q n)) [
    | inl passes ↦ let le' : how_many q n + 1 ≤ how_many p n + 0 = rw (fails, passes) at le in absurd (omega (arith, fewer_pass p q n h))
    | inr fails_too ↦
        let le' : how_many q n + 0 ≤ how_many p n + 0 = rw (fails, fails_too) at le in
        elim (cases_lt d n) [
          | inl lt' ↦ same_pass p q n h (omega arith) d lt' t
          | inr ge ↦ let same : n ≡ d = omega arith in absurd (true≢false (sym t ∙ subst (λ k. q k ≡ false) same fails_too))
        ]
  ]
]

-- ---- what is left of the lists

abbrev pub operations : List WaitAt → List SyncOp
operations ws = map (λ (w : WaitAt). w.op) ws

-- what is left of each client's list is of its list, and clients alone have any
pub record IsRest (syncs : SyncLists) (s : SyncState) : Type 0 where
  pub issued : (c : ℕ) (op : SyncOp) → IsIn op (operations (s.rest c)) → Issues syncs c op
  pub none : AreOfClients syncs s

in_head : (ws : List WaitAt) (op : SyncOp) → option_map (λ (w : WaitAt). w.op) (head_wait ws) ≡ Some op → IsIn op (operations ws)
in_head [] op h = absurd cc
in_head (w ∷ ws) op h = let same : w.op ≡ op = cc in inl same

in_drop : (ws : List WaitAt) (op : SyncOp) → IsIn op (operations (drop 1 ws)) → IsIn op (operations ws)
in_drop [] op i = i
in_drop (w ∷ ws) op i = inr i

pub issued_next : (syncs : SyncLists) (s : SyncState) → IsRest syncs s → (c : ℕ) (op : SyncOp) → next s c ≡ Some op → Issues syncs c op
issued_next syncs s r c op h = r.issued c op (in_head (s.rest c) op h)

pub rest_after : (syncs : SyncLists) (s : SyncState) (e : Entry) → IsRest syncs s → IsRest syncs (after syncs s e)
rest_after syncs s e r = record {
  issued = λ c op i. elim (cases_Bool (is_member (client_count syncs) e c)) [
    | inl t ↦ let i' : IsIn op (operations (drop 1 (s.rest c))) = rw t at i in r.issued c op (in_drop (s.rest c) op i')
    | inr f ↦ let i' : IsIn op (operations (s.rest c)) = rw f at i in r.issued c op i'
  ];
  none = past_after syncs s e r.none;
}

-- who issues an operation at a barrier names it
at_its_barrier : (b : ℕ) (op : SyncOp) → Barrier b ≡ op → is_at_barrier b (Some op) ≡ true
at_its_barrier b op e = subst (λ o. is_at_barrier b (Some o) ≡ true) e (eq-eqb b b refl)

names_it : (b : ℕ) (ws : List WaitAt) → IsIn (Barrier b) (operations ws) → list_any (λ (w : WaitAt). is_at_barrier b (Some w.op)) ws ≡ true
names_it b [] i = absurd i
names_it b (w ∷ ws) i = elim i [
  | inl e ↦ rw (at_its_barrier b w.op (sym e)) refl
  | inr j ↦ elim (cases_Bool (is_at_barrier b (Some w.op))) [ inl t ↦ rw t refl | inr f ↦ rw (f, names_it b ws j) refl ]
]

-- ---- two lawful entries

-- no client is a member of both
abbrev pub Apart : SyncLists → Entry → Entry → Type 0
Apart syncs e f = (c : ℕ) → is_member (client_count syncs) e c ≡ true → is_member (client_count syncs) f c ≡ true → ⊥

pub apart_back : (syncs : SyncLists) (e f : Entry) → Apart syncs e f → Apart syncs f e
apart_back syncs e f a c i j = a c j i

-- entries with a common member are for one operation
same_op : (syncs : SyncLists) (s : SyncState) (e f : Entry) → IsLawful syncs s e → IsLawful syncs s f → (c : ℕ)
    → is_member (client_count syncs) e c ≡ true → is_member (client_count syncs) f c ≡ true → op_of e ≡ op_of f
same_op syncs s e f p q c i j = let h : Some (op_of e) ≡ Some (op_of f) = sym (p.next c i) ∙ q.next c j in cc

module _ (syncs : SyncLists) (alone : TakesAlone syncs) where
  abbrev clients : ℕ
  clients = client_count syncs

  -- all who name a barrier are members of its lawful entry
  all_meet : (s : SyncState) → IsRest syncs s → (b m : ℕ) → IsLawful syncs s (Meet b m) → (d : ℕ) → d < clients → names_barrier syncs b d ≡ true → has m d ≡ true
  all_meet s r b m p =
      let counted = p.counted in
      same_pass (has m) (names_barrier syncs b) clients
      (λ d t. names_it b (ops_of syncs d) (issued_next syncs s r d (Barrier b) (p.next d t))) (alone.meets b (how_many (has m) clients) counted.1)

  member_names : (s : SyncState) → IsRest syncs s → (b m : ℕ) → IsLawful syncs s (Meet b m) → (d : ℕ) → has m d ≡ true → names_barrier syncs b d ≡ true
  member_names s r b m p d t = names_it b (ops_of syncs d) (issued_next syncs s r d (Barrier b) (p.next d t))

  no_bit : (m d : ℕ) → has m d ≡ false → bit_at m d ≡ 0
  no_bit m d f = elim (cases_lt (bit_at m d) 1) [
    | inl lt ↦ omega arith
    | inr ge ↦ let one : bit_at m d ≡ 1 = omega (arith, bit_at-lt m d) in absurd (true≢false (sym (eq-eqb (bit_at m d) 1 one) ∙ f))
  ]

  same_bit : (m m' d : ℕ) → (has m d ≡ true → has m' d ≡ true) → (has m' d ≡ true → has m d ≡ true) → bit_at m d ≡ bit_at m' d
  same_bit m m' d there back = elim (cases_Bool (has m d)) [
    | inl t ↦ eqb-true (bit_at m d) 1 t ∙ sym (eqb-true (bit_at m' d) 1 (there t))
    | inr f ↦ elim (cases_Bool (has m' d)) [
      | inl t' ↦ absurd (true≢false (sym (back t') ∙ f))
      | inr f' ↦ no_bit m d f ∙ sym (no_bit m' d f')
    ]
  ]

  same_members : (s : SyncState) → IsRest syncs s → (b m m' : ℕ) → IsLawful syncs s (Meet b m) → IsLawful syncs s (Meet b m') → m ≡ m'
  same_members s r b m m' p q =
      let counted = p.counted in
      let counted' = q.counted in
      same_from_bits_below clients m m' counted.0 counted'.0 (λ d lt. same_bit m m' d
      (λ t. all_meet s r b m' q d lt (member_names s r b m p d t)) (λ t. all_meet s r b m p d lt (member_names s r b m' q d t)))

  -- entries of one operation with a common member are one
  same_entry : (s : SyncState) → IsRest syncs s → (e f : Entry) → IsLawful syncs s e → IsLawful syncs s f
      → (c : ℕ) → is_member clients e c ≡ true → is_member clients f c ≡ true → op_of e ≡ op_of f → e ≡ f
  same_entry s r (Meet b m) (Meet b' m') p q c i j e =
      let k : b' ≡ b = cc in
      let q' : IsLawful syncs s (Meet b m') = subst (λ n. IsLawful syncs s (Meet n m')) k q in
      let members : m ≡ m' = same_members s r b m m' p q' in
      cc
  same_entry s r Swap Swap p q c i j e = refl
  same_entry s r (Give n d) (Give n' d') p q c i j e =
      let k : n ≡ n' = cc in
      let l : d ≡ d' = sym (eqb-true c d i) ∙ eqb-true c d' j in
      cc
  same_entry s r (Take n d) (Take n' d') p q c i j e =
      let k : n ≡ n' = cc in
      let l : d ≡ d' = sym (eqb-true c d i) ∙ eqb-true c d' j in
      cc
  same_entry s r (Meet b m) Swap p q c i j e = absurd cc
  same_entry s r (Meet b m) (Give n d) p q c i j e = absurd cc
  same_entry s r (Meet b m) (Take n d) p q c i j e = absurd cc
  same_entry s r Swap (Meet b m) p q c i j e = absurd cc
  same_entry s r Swap (Give n d) p q c i j e = absurd cc
  same_entry s r Swap (Take n d) p q c i j e = absurd cc
  same_entry s r (Give n d) (Meet b m) p q c i j e = absurd cc
  same_entry s r (Give n d) Swap p q c i j e = absurd cc
  same_entry s r (Give n d) (Take n' d') p q c i j e = absurd cc
  same_entry s r (Take n d) (Meet b m) p q c i j e = absurd cc
  same_entry s r (Take n d) Swap p q c i j e = absurd cc
  same_entry s r (Take n d) (Give n' d') p q c i j e = absurd cc

  -- they are one, or have no common member
  pub one_or_apart : (s : SyncState) → IsRest syncs s → (e f : Entry) → IsLawful syncs s e → IsLawful syncs s f → (e ≡ f) ⊎ Apart syncs e f
  one_or_apart s r e f p q = elim (search_below (λ c. is_member clients e c && is_member clients f c) clients) [
    | inl found ↦
        let both = parts (is_member clients e found.0) (is_member clients f found.0) found.1 in
        inl (same_entry s r e f p q found.0 both.0 both.1 (same_op syncs s e f p q found.0 both.0 both.1))
    | inr none ↦ inr (λ c i j.
        let false_there = none c (member_within syncs s e r.none p c i) in
        let true_there : (is_member clients e c && is_member clients f c) ≡ true = rw (i, j) refl in
        true≢false (sym true_there ∙ false_there))
  ]
    where
      parts : (a b : Bool) → (a && b) ≡ true → (a ≡ true) × (b ≡ true)
      parts true b h = (refl, h)
      parts false b h = absurd (true≢false (sym h))

  -- ---- entries that have no common member

  rest_kept : (s : SyncState) (e f : Entry) → Apart syncs e f → (c : ℕ) → is_member clients f c ≡ true → (after syncs s e).rest c ≡ s.rest c
  rest_kept s e f a c j = elim (cases_Bool (is_member clients e c)) [ inl t ↦ absurd (a c t j) | inr n ↦ rw n ]

  -- the unit that one takes the other leaves there
  unit_left : (s : SyncState) → IsRest syncs s → (e : Entry) (n d : ℕ) → Apart syncs e (Take n d) → IsLawful syncs s e → IsLawful syncs s (Take n d) → 0 < units_after e s.units n
  unit_left s r (Meet b m) n d a p q = q.counted
  unit_left s r Swap n d a p q = q.counted
  unit_left s r (Give k c) n d a p q = let some : 0 < s.units n = q.counted in omega arith
  unit_left s r (Take k c) n d a p q =
      let some : 0 < s.units n = q.counted in
      elim (cases_Bool (k == n)) [
        | inl t ↦
            let same : k ≡ n = eqb-true k n t in
            let by : Issues syncs c (SemP n) = subst (λ x. Issues syncs c (SemP x)) same (issued_next syncs s r c (SemP k) (p.next c (eq-eqb c c refl))) in
            let one : c ≡ d = alone.takers n c d by (issued_next syncs s r d (SemP n) (q.next d (eq-eqb d d refl))) in
            absurd (a c (eq-eqb c c refl) (eq-eqb c d one))
        | inr f ↦ rw f (omega arith)
      ]

  still_counted : (s : SyncState) → IsRest syncs s → (e f : Entry) → Apart syncs e f → IsLawful syncs s e → IsLawful syncs s f → IsCounted syncs (after syncs s e) f
  still_counted s r e (Meet b m) a p q = q.counted
  still_counted s r e Swap a p q = tt
  still_counted s r e (Give n d) a p q = tt
  still_counted s r e (Take n d) a p q = unit_left s r e n d a p q

  -- each stays lawful behind the other
  pub lawful_still : (s : SyncState) → IsRest syncs s → (e f : Entry) → Apart syncs e f → IsLawful syncs s e → IsLawful syncs s f → IsLawful syncs (after syncs s e) f
  lawful_still s r e f a p q = record {
    next = λ c j. ap (λ ws. option_map (λ (w : WaitAt). w.op) (head_wait ws)) (rest_kept s e f a c j) ∙ q.next c j;
    counted = still_counted s r e f a p q;
  }

  rests_same : (s : SyncState) (e f : Entry) → Apart syncs e f → (c : ℕ) → (after syncs (after syncs s e) f).rest c ≡ (after syncs (after syncs s f) e).rest c
  rests_same s e f a c = elim (cases_Bool (is_member clients e c)) [
    | inl t ↦ elim (cases_Bool (is_member clients f c)) [ inl t' ↦ absurd (a c t t') | inr n' ↦ rw (t, n') ]
    | inr n ↦ elim (cases_Bool (is_member clients f c)) [ inl t' ↦ rw (n, t') | inr n' ↦ rw (n, n') ]
  ]

  -- what an entry adds to a semaphore, and what it takes away
  abbrev gained : Entry → ℕ → ℕ
  gained (Give n d) k = cond (n == k) 1 0
  gained (Take n d) k = 0
  gained (Meet b m) k = 0
  gained Swap k = 0

  abbrev lost : Entry → ℕ → ℕ
  lost (Take n d) k = cond (n == k) 1 0
  lost (Give n d) k = 0
  lost (Meet b m) k = 0
  lost Swap k = 0

  units_are : (e : Entry) (units : ℕ → ℕ) (k : ℕ) → units_after e units k ≡ (units k + gained e k) - lost e k
  units_are (Give n d) units k = let e : units k + cond (n == k) 1 0 ≡ (units k + cond (n == k) 1 0) - 0 = omega arith in e
  units_are (Take n d) units k = let e : units k - cond (n == k) 1 0 ≡ (units k + 0) - cond (n == k) 1 0 = omega arith in e
  units_are (Meet b m) units k = let e : units k ≡ (units k + 0) - 0 = omega arith in e
  units_are Swap units k = let e : units k ≡ (units k + 0) - 0 = omega arith in e

  lost_there : (s : SyncState) (e : Entry) → IsLawful syncs s e → (k : ℕ) → lost e k ≤ s.units k
  lost_there s (Take n d) p k =
      let some : 0 < s.units n = p.counted in
      let e : cond (n == k) 1 0 ≤ s.units k = elim (cases_Bool (n == k)) [
        | inl t ↦ let some' : 0 < s.units k = subst (λ x. 0 < s.units x) (eqb-true n k t) some in rw t (omega arith)
        | inr f ↦ rw f (omega arith)
      ] in
      e
  lost_there s (Give n d) p k = let e : 0 ≤ s.units k = omega arith in e
  lost_there s (Meet b m) p k = let e : 0 ≤ s.units k = omega arith in e
  lost_there s Swap p k = let e : 0 ≤ s.units k = omega arith in e

  units_same : (s : SyncState) (e f : Entry) → IsLawful syncs s e → IsLawful syncs s f → (k : ℕ) → units_after f (units_after e s.units) k ≡ units_after e (units_after f s.units) k
  units_same s e f p q k =
      omega (arith, units_are f (units_after e s.units) k, units_are e s.units k, units_are e (units_after f s.units) k, units_are f s.units k, lost_there s e p k, lost_there s f q k)

  -- they come to one state in either sequence
  pub swapped : (s : SyncState) (e f : Entry) → Apart syncs e f → IsLawful syncs s e → IsLawful syncs s f → after syncs (after syncs s e) f ≡ after syncs (after syncs s f) e
  swapped s e f a p q = λ i. record { rest = fun_ext (rests_same s e f a) i; units = fun_ext (units_same s e f p q) i }

  placed_at : (s : SyncState) (e f : Entry) → Apart syncs e f → (c : ℕ)
      → cond (is_member clients f c) (option_map (λ (w : WaitAt). w.place) (head_wait ((after syncs s e).rest c))) None ≡ cond (is_member clients f c) (option_map (λ (w : WaitAt). w.place) (head_wait (s.rest c))) None
  placed_at s e f a c = elim (cases_Bool (is_member clients f c)) [
    | inl t ↦ rw t (ap (λ ws. option_map (λ (w : WaitAt). w.place) (head_wait ws)) (rest_kept s e f a c t))
    | inr n ↦ rw n
  ]

  -- and each uses the same operations
  pub placed_same : (s : SyncState) (e f : Entry) → Apart syncs e f → entry_at syncs (after syncs s e) f ≡ entry_at syncs s f
  placed_same s e f a = λ i. record { entry = f; at = fun_ext (placed_at s e f a) i }
