-- Members of an entry, and how many there are.
use Rattle.std.proofs.Common.{◌≡◌, ℕ, zero, suc, ◌+◌, ◌<◌, ◌≤◌, true, Some, inl, inr, refl, sym, ◌∙◌, subst, arith, lt-ltb, eq-eqb}
use Rattle.std.proofs.lemmas.Bool.{cases_lt, cases_Bool}
use Rattle.rc_base.specs.Orders.Journal.{SyncState, has, how_many, is_member, IsLawful}
use Rattle.rc_base.specs.Orders.Sync.{client_count, count_of}
use Rattle.rc_base.specs.declared.sync.Entry.{Entry}
use Rattle.rc_base.specs.declared.sync.Entry.TheVariants.{Meet, Swap, Give, Take}
use Rattle.rc_base.specs.declared.sync.SyncLists.{SyncLists}

pub count_some : (m n : ℕ) → 0 < how_many (has m) n → (c : ℕ) × (has m c ≡ true)
count_some m zero lt = absurd (omega arith)
count_some m (suc n) lt = elim (cases_Bool (has m n)) [
  | inl t ↦ (n, t)
  | inr f ↦ let lt' : 0 < how_many (has m) n + 0 = rw f at lt in count_some m n (omega arith)
]

count_most : (m n : ℕ) → how_many (has m) n ≤ n
count_most m zero = omega arith
count_most m (suc n) = elim (cases_Bool (has m n)) [ inl t ↦ rw t (omega (arith, count_most m n)) | inr f ↦ rw f (omega (arith, count_most m n)) ]

pub count_all : (m n : ℕ) → how_many (has m) n ≡ n → (c : ℕ) → c < n → has m c ≡ true
count_all m zero e c lt = absurd (omega arith)
count_all m (suc n) e c lt = elim (cases_Bool (has m n)) [
  | inl t ↦
      let e' : how_many (has m) n + 1 ≡ suc n = rw t at e in
      elim (cases_lt c n) [ inl lt' ↦ count_all m n (omega arith) c lt' | inr ge ↦ let same : n ≡ c = omega arith in subst (λ k. has m k ≡ true) same t ]
  | inr f ↦ let e' : how_many (has m) n + 0 ≡ suc n = rw f at e in absurd (omega (arith, count_most m n))
]

-- a barrier has one count
pub one_count : (syncs : SyncLists) (barrier k n : ℕ) → count_of syncs barrier ≡ Some k → count_of syncs barrier ≡ Some n → k ≡ n
one_count syncs barrier k n p q = let e : Some k ≡ Some n = sym p ∙ q in cc

-- a lawful entry has a member, where there is a client and each barrier counts one or more
pub some_member : (syncs : SyncLists) (s : SyncState) → 0 < client_count syncs → ((b k : ℕ) → count_of syncs b ≡ Some k → 0 < k) → (e : Entry) → IsLawful syncs s e
    → (c : ℕ) × (is_member (client_count syncs) e c ≡ true)
some_member syncs s some counts (Meet b m) p = let r = p.counted in count_some m (client_count syncs) (counts b (how_many (has m) (client_count syncs)) r.1)
some_member syncs s some counts Swap p = (0, lt-ltb 0 (client_count syncs) some)
some_member syncs s some counts (Give n d) p = (d, eq-eqb d d refl)
some_member syncs s some counts (Take n d) p = (d, eq-eqb d d refl)
