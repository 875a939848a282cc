-- Names that clients add in turn.
use Rattle.std.proofs.Common.{◌≡◌, ℕ, zero, suc, ◌+◌, ◌-◌, ◌<◌, ◌≤◌, ◌==◌, Bool, true, false, cond, List, [], ◌∷◌, ◌++◌, refl, sym, ap, ◌∙◌, arith, inl, inr, eq-eqb, ne_eqb}
use Rattle.std.proofs.lemmas.Bool.{cases_Bool}
use Rattle.std.proofs.lemmas.List.{append-nil}
use Rattle.rc_base.specs.Orders.Order.{names_in, names_from, added, all_added}
use Rattle.rc_base.specs.declared.sync.Name.{Name}
use Rattle.order_model.proofs.AddedNames.{names_append, names_stretch}

-- one more name at the end
pub names_from_more : (client from n j : ℕ) → from + n ≡ j → names_from client from (n + 1) ≡ names_from client from n ++ record { client = client; place = j } ∷ []
names_from_more client from n j e = ap (names_from client from) (let one : n + 1 ≡ suc n = omega arith in one) ∙ more from n e
  where
    more : (place n : ℕ) → place + n ≡ j → names_from client place (suc n) ≡ names_from client place n ++ record { client = client; place = j } ∷ []
    more place zero e = let same : place ≡ j = omega arith in ap (λ (p : ℕ). record { client = client; place = p } ∷ []) same
    more place (suc n) e = ap (λ (l : List Name). record { client = client; place = place } ∷ l) (more (place + 1) n (omega arith))

if_same : (b : Bool) (n : ℕ) → b ≡ true → cond b n 0 ≡ n
if_same b n e = rw e refl

if_other : (b : Bool) (n : ℕ) → b ≡ false → cond b n 0 ≡ 0
if_other b n e = rw e refl

-- the client itself has its names up to the place
pub own_added : (client place : ℕ) (o : List Name) → names_in client o ≤ place → names_in client (added client place o) ≡ place
own_added client place o le =
    let k = names_in client o in
    let e = names_append client o (names_from client k (place - k)) in
    let n = names_stretch client client k (place - k) in
    omega (arith, e, n, if_same (client == client) (place - k) (eq-eqb client client refl), le)

-- the others have what they had
pub other_added : (client place c : ℕ) (o : List Name) → (c ≡ client → ⊥) → names_in c (added client place o) ≡ names_in c o
other_added client place c o ne =
    let k = names_in client o in
    let e = names_append c o (names_from client k (place - k)) in
    let n = names_stretch c client k (place - k) in
    omega (arith, e, n, if_other (c == client) (place - k) (ne_eqb c client ne))

-- who has them all adds none
pub none_added : (client place : ℕ) (o : List Name) → place ≤ names_in client o → added client place o ≡ o
none_added client place o le =
    let none : place - names_in client o ≡ 0 = omega (arith, le) in
    ap (λ (n : ℕ). o ++ names_from client (names_in client o) n) none ∙ append-nil o

-- clients beyond the first n have what they had
all_keep : (meant : ℕ → Bool) (places : ℕ → ℕ) (n c : ℕ) (o : List Name) → n ≤ c → names_in c (all_added meant places n o) ≡ names_in c o
all_keep meant places zero c o le = refl
all_keep meant places (suc n) c o le =
    let before = all_added meant places n o in
    let rest = all_keep meant places n c o (omega (arith, le)) in
    elim (cases_Bool (meant n)) [
      | inl t ↦ rw t (other_added n (places n) c before (λ same. let e : c ≡ n = same in omega (arith, e, le)) ∙ rest)
      | inr f ↦ rw f rest
    ]

-- where the others have their names already, all add as those that are meant do
pub all_as_meant : (meant : ℕ → Bool) (places : ℕ → ℕ) (n : ℕ) (o : List Name) → ((c : ℕ) → c < n → meant c ≡ false → places c ≤ names_in c o)
    → all_added (λ c. true) places n o ≡ all_added meant places n o
all_as_meant meant places zero o h = refl
all_as_meant meant places (suc n) o h =
    let before = all_added meant places n o in
    let rest = all_as_meant meant places n o (λ c lt. h c (omega (arith, lt))) in
    elim (cases_Bool (meant n)) [
      | inl t ↦ rw t (ap (added n (places n)) rest)
      | inr f ↦ rw f (ap (added n (places n)) rest ∙ none_added n (places n) before (omega (arith, h n (omega arith) f, all_keep meant places n n o (omega arith))))
    ]

-- the same clients and places
pub all_alike : (meant meant' : ℕ → Bool) (places places' : ℕ → ℕ) (n : ℕ) (o : List Name) → ((c : ℕ) → c < n → meant c ≡ meant' c)
    → ((c : ℕ) → c < n → meant c ≡ true → places c ≡ places' c) → all_added meant places n o ≡ all_added meant' places' n o
all_alike meant meant' places places' zero o h k = refl
all_alike meant meant' places places' (suc n) o h k =
    let rest = all_alike meant meant' places places' n o (λ c lt. h c (omega (arith, lt))) (λ c lt. k c (omega (arith, lt))) in
    let same = h n (omega arith) in
    elim (cases_Bool (meant n)) [
      | inl t ↦
          let t' : meant' n ≡ true = sym same ∙ t in
          rw (t, t') (ap (λ (p : ℕ). added n p (all_added meant places n o)) (k n (omega arith) t) ∙ ap (added n (places' n)) rest)
      | inr f ↦ let f' : meant' n ≡ false = sym same ∙ f in rw (f, f') rest
    ]

-- one client more
pub all_next : (meant : ℕ → Bool) (places : ℕ → ℕ) (n j : ℕ) (o : List Name) → n ≡ j
    → all_added meant places (n + 1) o ≡ cond (meant j) (added j (places j) (all_added meant places n o)) (all_added meant places n o)
all_next meant places n j o e =
    let one : n + 1 ≡ suc n = omega arith in
    ap (λ (k : ℕ). all_added meant places k o) one
    ∙ ap (λ (k : ℕ). cond (meant k) (added k (places k) (all_added meant places n o)) (all_added meant places n o)) e
