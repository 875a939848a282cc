-- The book grants a lawful entry, and none exactly where none is lawful.
use Rattle.std.proofs.Common.{◌≡◌, ◌≢◌, ℕ, zero, suc, ◌+◌, ◌^◌, ◌<◌, ◌≤◌, ◌==◌, ◌&&◌, min, nat_lt, nat_le, Bool, true, false, cond, ◌⊎◌, ◌↔◌, Option, Some, None, List, length, bit_or, inl, inr, refl, sym, ap, ◌∙◌, subst, arith, lt-ltb, ltb-true, le-leb, leb-true, eq-eqb, true≢false, eqb-true, ne_eqb, pow-suc}
use Rattle.std.proofs.lemmas.Bool.{cases_lt, eqb-false, cases_Bool, and_parts, and_from, and_left, and_right}
use Rattle.std.proofs.lemmas.Nat.{or_lt}
use Rattle.std.proofs.lemmas.Nat.Bits.{bit_at_or, bit_at-pow_same, bit_at-pow_other, bit_at_above, bit_at-zero, bit_at-lt}
use Rattle.std.proofs.lemmas.Option.{slice_get_within}
use Rattle.std.specs.Int.{bit_at}
use Rattle.std.specs.Option.{option_or, option_map_or}
use Rattle.rc_base.specs.Lists.{at_name}
use Rattle.rc_base.specs.Orders.Grant.{first, give_by, take_by, is_at_barrier, is_at_swap, lowest, meet_by, swap_by, grant}
use Rattle.rc_base.specs.Orders.Journal.{SyncState, next, has, how_many, IsLawful, NothingIsLawful}
use Rattle.rc_base.specs.Orders.Sync.{client_count, count_of}
use Rattle.rc_base.specs.declared.sync.Entry.{Entry}
use Rattle.rc_base.specs.declared.sync.Entry.TheVariants.{Meet, Swap, Give, Take}
use Rattle.rc_base.specs.declared.sync.SyncLists.{SyncLists}
use Rattle.rc_base.specs.declared.sync.SyncOp.{SyncOp}
use Rattle.rc_base.specs.declared.sync.SyncOp.TheVariants.{Barrier, SemP, SemV, Swap as SwapOp}
use Rattle.scene_lemmas.proofs.Numbered.{how_many_at_most}
use Rattle.order_model.specs.Laws.{AreOfClients}
use Rattle.order_model.proofs.ClientsBeyond.{waits_within}

-- ---- the first answer
or_none : {A : Type 0} (x y : Option A) → option_or x y ≡ None → (x ≡ None) × (y ≡ None)
or_none None y h = (refl, h)
or_none (Some x) y h = absurd cc

or_some : {A : Type 0} (x y : Option A) (e : A) → option_or x y ≡ Some e → (x ≡ Some e) ⊎ (y ≡ Some e)
or_some None y e h = inr h
or_some (Some x) y e h = inl h

first_none : {A : Type 0} (f : ℕ → Option A) (n c : ℕ) → first f c n ≡ None → (d : ℕ) → c ≤ d → d < c + n → f d ≡ None
first_none f zero c h d le lt = absurd (omega arith)
first_none f (suc n) c h d le lt =
    let k = or_none (f c) (first f (c + 1) n) h in
    elim (cases_lt c d) [ inl more ↦ first_none f n (c + 1) k.1 d (omega arith) (omega arith) | inr less ↦ let e : c ≡ d = omega arith in subst (λ x. f x ≡ None) e k.0 ]

first_some : {A : Type 0} (f : ℕ → Option A) (n c : ℕ) (e : A) → first f c n ≡ Some e → (d : ℕ) × (d < c + n) × (f d ≡ Some e)
first_some f zero c e h = absurd cc
first_some f (suc n) c e h = elim (or_some (f c) (first f (c + 1) n) e h) [
  | inl k ↦ (c, omega arith, k)
  | inr k ↦ let r = first_some f n (c + 1) e k in (r.0, omega (arith, r.1), r.2)
]

-- ---- the lowest members
pow_next : (n : ℕ) → 2 ^ suc n ≡ 2 ^ n + 2 ^ n
pow_next n = omega (arith, pow-suc 2 n)

lowest_lt : (passes : ℕ → Bool) (k n : ℕ) → lowest passes k n < 2 ^ n
lowest_lt passes k zero = omega arith
lowest_lt passes k (suc n) =
    let low = lowest passes k n in
    let h : low < 2 ^ n = lowest_lt passes k n in
    let p = pow_next n in
    elim (cases_Bool (passes n && nat_lt (how_many (has low) n) k)) [
      | inl t ↦ rw t (or_lt (suc n) low (2 ^ n) (omega arith) (omega arith))
      | inr f ↦ rw f (omega arith)
    ]

has_same : (m n : ℕ) → has (bit_or m (2 ^ n)) n ≡ true
has_same m n = eq-eqb _ 1 (bit_at_or m (2 ^ n) n ∙ rw (bit_at-pow_same n) (omega (arith, bit_at-lt m n)))

has_other : (m n c : ℕ) → c ≢ n → has (bit_or m (2 ^ n)) c ≡ has m c
has_other m n c ne = ap (λ k. k == 1) (bit_at_or m (2 ^ n) c ∙ rw (bit_at-pow_other n c ne) (omega arith))

has_past : (m n : ℕ) → m < 2 ^ n → has m n ≡ false
has_past m n lt = ne_eqb _ 1 (λ e. omega (arith, bit_at_above m n n lt (omega arith), e))

below_same : (m m' n : ℕ) → ((c : ℕ) → c < n → has m c ≡ has m' c) → how_many (has m) n ≡ how_many (has m') n
below_same m m' zero h = refl
below_same m m' (suc n) h = rw (h n (omega arith)) (ap (λ k. k + cond (has m' n) 1 0) (below_same m m' n (λ c lt. h c (omega arith))))

lowest_passes : (passes : ℕ → Bool) (k n c : ℕ) → has (lowest passes k n) c ≡ true → passes c ≡ true
lowest_passes passes k zero c h = absurd (omega (arith, eqb-true (bit_at 0 c) 1 h, bit_at-zero c))
lowest_passes passes k (suc n) c h =
    let low = lowest passes k n in
    elim (cases_Bool (passes n && nat_lt (how_many (has low) n) k)) [
      | inl t ↦
          let h' : has (bit_or low (2 ^ n)) c ≡ true = rw t at h in
          elim (cases_Bool (c == n)) [
            | inl u ↦ subst (λ d. passes d ≡ true) (sym (eqb-true c n u)) (and_parts (passes n) (nat_lt (how_many (has low) n) k) t).0
            | inr f ↦ lowest_passes passes k n c (sym (has_other low n c (eqb-false c n f)) ∙ h')
          ]
      | inr f ↦ let h' : has low c ≡ true = rw f at h in lowest_passes passes k n c h'
    ]

-- one more client
more_yes : (passes : ℕ → Bool) (n : ℕ) → passes n ≡ true → how_many passes (suc n) ≡ how_many passes n + 1
more_yes passes n p = ap (λ b. how_many passes n + cond b 1 0) p

more_not : (passes : ℕ → Bool) (n : ℕ) → passes n ≡ false → how_many passes (suc n) ≡ how_many passes n
more_not passes n p = ap (λ b. how_many passes n + cond b 1 0) p ∙ omega arith

below_yes : (m n : ℕ) → has m n ≡ true → how_many (has m) (suc n) ≡ how_many (has m) n + 1
below_yes m n p = ap (λ b. how_many (has m) n + cond b 1 0) p

below_not : (m n : ℕ) → has m n ≡ false → how_many (has m) (suc n) ≡ how_many (has m) n
below_not m n p = ap (λ b. how_many (has m) n + cond b 1 0) p ∙ omega arith

lowest_yes : (passes : ℕ → Bool) (k n : ℕ) → (passes n && nat_lt (how_many (has (lowest passes k n)) n) k) ≡ true → lowest passes k (suc n) ≡ bit_or (lowest passes k n) (2 ^ n)
lowest_yes passes k n t = ap (λ b. cond b (bit_or (lowest passes k n) (2 ^ n)) (lowest passes k n)) t

lowest_not : (passes : ℕ → Bool) (k n : ℕ) → (passes n && nat_lt (how_many (has (lowest passes k n)) n) k) ≡ false → lowest passes k (suc n) ≡ lowest passes k n
lowest_not passes k n t = ap (λ b. cond b (bit_or (lowest passes k n) (2 ^ n)) (lowest passes k n)) t

lowest_count : (passes : ℕ → Bool) (k n : ℕ) → how_many (has (lowest passes k n)) n ≡ min k (how_many passes n)
lowest_count passes k zero = omega arith
lowest_count passes k (suc n) =
    let low = lowest passes k n in
    let h = lowest_count passes k n in
    let past : has low n ≡ false = has_past low n (lowest_lt passes k n) in
    elim (cases_Bool (passes n)) [
      | inl p ↦ elim (cases_Bool (nat_lt (how_many (has low) n) k)) [
        | inl t ↦
            let lt : how_many (has low) n < k = ltb-true (how_many (has low) n) k t in
            let same : how_many (has (bit_or low (2 ^ n))) n ≡ how_many (has low) n = below_same (bit_or low (2 ^ n)) low n (λ c lt'. has_other low n c (λ e. omega (arith, e))) in
            ap (λ m. how_many (has m) (suc n)) (lowest_yes passes k n (and_from _ _ p t)) ∙ below_yes (bit_or low (2 ^ n)) n (has_same low n) ∙ omega (arith, same, h, more_yes passes n p)
        | inr f ↦
            let ge : k ≤ how_many (has low) n = elim (cases_lt (how_many (has low) n) k) [ inl lt ↦ absurd (true≢false (sym (lt-ltb (how_many (has low) n) k lt) ∙ f)) | inr le ↦ le ] in
            ap (λ m. how_many (has m) (suc n)) (lowest_not passes k n (and_right (passes n) _ f)) ∙ below_not low n past ∙ omega (arith, h, more_yes passes n p)
      ]
      | inr q ↦ ap (λ m. how_many (has m) (suc n)) (lowest_not passes k n (and_left _ (nat_lt (how_many (has low) n) k) q)) ∙ below_not low n past ∙ omega (arith, h, more_not passes n q)
    ]

-- a mask of clients that pass is no more than those that pass
mask_most : (passes : ℕ → Bool) (m n : ℕ) → ((c : ℕ) → has m c ≡ true → passes c ≡ true) → how_many (has m) n ≤ how_many passes n
mask_most passes m zero h = omega arith
mask_most passes m (suc n) h = elim (cases_Bool (has m n)) [
  | inl t ↦ rw (t, h n t) (omega (arith, mask_most passes m n h))
  | inr f ↦ rw f (omega (arith, mask_most passes m n h))
]

many_all : (passes : ℕ → Bool) (n : ℕ) → ((c : ℕ) → c < n → passes c ≡ true) → how_many passes n ≡ n
many_all passes zero h = refl
many_all passes (suc n) h = rw (h n (omega arith)) (omega (arith, many_all passes n (λ c lt. h c (omega arith))))

all_many : (passes : ℕ → Bool) (n : ℕ) → how_many passes n ≡ n → (c : ℕ) → c < n → passes c ≡ true
all_many passes zero h c lt = absurd (omega arith)
all_many passes (suc n) h c lt = elim (cases_Bool (passes n)) [
  | inl t ↦
      let h' : how_many passes n + 1 ≡ suc n = rw t at h in
      elim (cases_lt c n) [ inl less ↦ all_many passes n (omega arith) c less | inr ge ↦ let e : n ≡ c = omega arith in subst (λ d. passes d ≡ true) e t ]
  | inr f ↦ let h' : how_many passes n + 0 ≡ suc n = rw f at h in absurd (omega (arith, how_many_at_most passes n))
]

-- ---- what each answer says
barrier_is : (b : ℕ) (o : Option SyncOp) → is_at_barrier b o ≡ true → o ≡ Some (Barrier b)
barrier_is b None h = absurd (true≢false (sym h))
barrier_is b (Some (Barrier k)) h = ap (λ x. Some (Barrier x)) (eqb-true k b h)
barrier_is b (Some (SemP k)) h = absurd (true≢false (sym h))
barrier_is b (Some (SemV k)) h = absurd (true≢false (sym h))
barrier_is b (Some SwapOp) h = absurd (true≢false (sym h))

swap_is : (o : Option SyncOp) → is_at_swap o ≡ true → o ≡ Some SwapOp
swap_is None h = absurd (true≢false (sym h))
swap_is (Some (Barrier k)) h = absurd (true≢false (sym h))
swap_is (Some (SemP k)) h = absurd (true≢false (sym h))
swap_is (Some (SemV k)) h = absurd (true≢false (sym h))
swap_is (Some SwapOp) h = refl

give_is : (syncs : SyncLists) (s : SyncState) (c : ℕ) (o : Option SyncOp) (e : Entry) → next s c ≡ o → give_by c o ≡ Some e → IsLawful syncs s e
give_is syncs s c None e n h = absurd cc
give_is syncs s c (Some (Barrier k)) e n h = absurd cc
give_is syncs s c (Some (SemP k)) e n h = absurd cc
give_is syncs s c (Some (SemV k)) e n h =
    let same : Give k c ≡ e = cc in
    subst (IsLawful syncs s) same record { next = λ d t. ap (next s) (eqb-true d c t) ∙ n; counted = tt }
give_is syncs s c (Some SwapOp) e n h = absurd cc

take_is : (syncs : SyncLists) (s : SyncState) (c : ℕ) (o : Option SyncOp) (e : Entry) → next s c ≡ o → take_by s.units c o ≡ Some e → IsLawful syncs s e
take_is syncs s c None e n h = absurd cc
take_is syncs s c (Some (Barrier k)) e n h = absurd cc
take_is syncs s c (Some (SemV k)) e n h = absurd cc
take_is syncs s c (Some SwapOp) e n h = absurd cc
take_is syncs s c (Some (SemP k)) e n h = elim (cases_Bool (nat_lt 0 (s.units k))) [
  | inl t ↦
      let h' : Some (Take k c) ≡ Some e = rw t at h in
      let same : Take k c ≡ e = cc in
      subst (IsLawful syncs s) same record { next = λ d u. ap (next s) (eqb-true d c u) ∙ n; counted = ltb-true 0 (s.units k) t }
  | inr f ↦ let h' : None ≡ Some e = rw f at h in absurd cc
]

meet_case : (syncs : SyncLists) (s : SyncState) (b : ℕ) (e : Entry) (o : Option ℕ) → count_of syncs b ≡ o
    → option_map_or (λ k. cond (nat_le k (how_many (λ c. is_at_barrier b (next s c)) (client_count syncs))) (Some (Meet b (lowest (λ c. is_at_barrier b (next s c)) k (client_count syncs)))) None) o None ≡ Some e
    → IsLawful syncs s e
meet_case syncs s b e None is h = absurd cc
meet_case syncs s b e (Some k) is h =
    let passes : ℕ → Bool = λ c. is_at_barrier b (next s c) in
    let n = client_count syncs in
    elim (cases_Bool (nat_le k (how_many passes n))) [
      | inl t ↦
          let h' : Some (Meet b (lowest passes k n)) ≡ Some e = rw t at h in
          let same : Meet b (lowest passes k n) ≡ e = cc in
          let le : k ≤ how_many passes n = leb-true k (how_many passes n) t in
          let exact : k ≡ how_many (has (lowest passes k n)) n = omega (arith, lowest_count passes k n, le) in
          subst (IsLawful syncs s) same record {
            next = λ c i. barrier_is b (next s c) (lowest_passes passes k n c i);
            counted = (lowest_lt passes k n, is ∙ ap (λ x. Some x) exact);
          }
      | inr f ↦ let h' : None ≡ Some e = rw f at h in absurd cc
    ]

meet_is : (syncs : SyncLists) (s : SyncState) (b : ℕ) (e : Entry) → meet_by syncs s b ≡ Some e → IsLawful syncs s e
meet_is syncs s b e h = meet_case syncs s b e (count_of syncs b) refl h

swap_lawful : (syncs : SyncLists) (s : SyncState) (e : Entry) → swap_by syncs s ≡ Some e → IsLawful syncs s e
swap_lawful syncs s e h =
    let passes : ℕ → Bool = λ c. is_at_swap (next s c) in
    elim (cases_Bool (how_many passes (client_count syncs) == (client_count syncs))) [
      | inl t ↦
          let h' : Some Swap ≡ Some e = rw t at h in
          let same : Swap ≡ e = cc in
          subst (IsLawful syncs s) same record {
            next = λ c i. swap_is (next s c) (all_many passes (client_count syncs) (eqb-true (how_many passes (client_count syncs)) (client_count syncs) t) c (ltb-true c (client_count syncs) i));
            counted = tt;
          }
      | inr f ↦ let h' : None ≡ Some e = rw f at h in absurd cc
    ]

pub grant_lawful : (syncs : SyncLists) (s : SyncState) (e : Entry) → grant syncs s ≡ Some e → IsLawful syncs s e
grant_lawful syncs s e h = elim (or_some _ _ e h) [
  | inl k ↦ let r = first_some (λ c. give_by c (next s c)) (client_count syncs) 0 e k in give_is syncs s r.0 (next s r.0) e refl r.2
  | inr k ↦ elim (or_some _ _ e k) [
    | inl l ↦ let r = first_some (λ c. take_by s.units c (next s c)) (client_count syncs) 0 e l in take_is syncs s r.0 (next s r.0) e refl r.2
    | inr l ↦ elim (or_some _ _ e l) [
      | inl m ↦ let r = first_some (meet_by syncs s) (length syncs.counts) 1 e m in meet_is syncs s r.0 e r.2
      | inr m ↦ swap_lawful syncs s e m
    ]
  ]
]

-- ---- none
declared_within : {A : Type 0} (xs : List A) (b : ℕ) (x : A) → at_name xs b ≡ Some x → (1 ≤ b) × (b < 1 + length xs)
declared_within xs zero x h = absurd cc
declared_within xs (suc b) x h = (omega arith, omega (arith, slice_get_within xs b x h))

at_barrier : (b : ℕ) (o : Option SyncOp) → o ≡ Some (Barrier b) → is_at_barrier b o ≡ true
at_barrier b o e = ap (is_at_barrier b) e ∙ eq-eqb b b refl

no_grant : (syncs : SyncLists) (s : SyncState) → grant syncs s ≡ None
    → (first (λ c. give_by c (next s c)) 0 (client_count syncs) ≡ None) × (first (λ c. take_by s.units c (next s c)) 0 (client_count syncs) ≡ None)
    × (first (meet_by syncs s) 1 (length syncs.counts) ≡ None) × (swap_by syncs s ≡ None)
no_grant syncs s h =
    let gives = first (λ c. give_by c (next s c)) 0 (client_count syncs) in
    let takes = first (λ c. take_by s.units c (next s c)) 0 (client_count syncs) in
    let meets = first (meet_by syncs s) 1 (length syncs.counts) in
    let a = or_none gives (option_or takes (option_or meets (swap_by syncs s))) h in
    let b = or_none takes (option_or meets (swap_by syncs s)) a.1 in
    let c = or_none meets (swap_by syncs s) b.1 in
    (a.0, b.0, c.0, c.1)

none_lawful : (syncs : SyncLists) (s : SyncState) → AreOfClients syncs s → grant syncs s ≡ None
    → (e : Entry) → IsLawful syncs s e → ⊥
none_lawful syncs s none h (Give k d) p =
    let a = no_grant syncs s h in
    let n = p.next d (eq-eqb d d refl) in
    let f = first_none (λ c. give_by c (next s c)) (client_count syncs) 0 a.0 d (omega arith) (omega (arith, waits_within syncs s none d (SemV k) n)) in
    let g : give_by d (next s d) ≡ Some (Give k d) = ap (give_by d) n in
    absurd (cc (f, g))
none_lawful syncs s none h (Take k d) p =
    let a = no_grant syncs s h in
    let n = p.next d (eq-eqb d d refl) in
    let f = first_none (λ c. take_by s.units c (next s c)) (client_count syncs) 0 a.1 d (omega arith) (omega (arith, waits_within syncs s none d (SemP k) n)) in
    let g : take_by s.units d (next s d) ≡ Some (Take k d) = ap (take_by s.units d) n ∙ ap (λ t. cond t (Some (Take k d)) None) (lt-ltb 0 (s.units k) p.counted) in
    absurd (cc (f, g))
none_lawful syncs s none h (Meet b m) p =
    let a = no_grant syncs s h in
    let r = p.counted in
    let n = client_count syncs in
    let k = how_many (has m) n in
    let passes : ℕ → Bool = λ c. is_at_barrier b (next s c) in
    let many = mask_most passes m n (λ c i. at_barrier b (next s c) (p.next c i)) in
    let within = declared_within syncs.counts b k r.1 in
    let f = first_none (meet_by syncs s) (length syncs.counts) 1 a.2 b within.0 within.1 in
    let g : meet_by syncs s b ≡ Some (Meet b (lowest passes k n)) =
    ap (λ o. option_map_or (λ j. cond (nat_le j (how_many passes n)) (Some (Meet b (lowest passes j n))) None) o None) r.1
    ∙ ap (λ t. cond t (Some (Meet b (lowest passes k n))) None) (le-leb k (how_many passes n) many) in
    absurd (cc (f, g))
none_lawful syncs s none h Swap p =
    let a = no_grant syncs s h in
    let passes : ℕ → Bool = λ c. is_at_swap (next s c) in
    let all = many_all passes (client_count syncs) (λ c lt. ap is_at_swap (p.next c (lt-ltb c (client_count syncs) lt))) in
    let g : swap_by syncs s ≡ Some Swap = ap (λ t. cond t (Some Swap) None) (eq-eqb (how_many passes (client_count syncs)) (client_count syncs) all) in
    absurd (cc (a.3, g))

pub grant_none : (syncs : SyncLists) (s : SyncState) → AreOfClients syncs s → (grant syncs s ≡ None) ↔ NothingIsLawful syncs s
grant_none syncs s none = (none_lawful syncs s none, λ over. nothing (grant syncs s) over refl)
  where
    nothing : (o : Option Entry) → NothingIsLawful syncs s → grant syncs s ≡ o → grant syncs s ≡ None
    nothing None over h = h
    nothing (Some e) over h = absurd (over e (grant_lawful syncs s e h))
