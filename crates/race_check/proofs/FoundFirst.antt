-- Of all that is found the one that is told leads all others.
use Rattle.std.proofs.Common.{◌≡◌, ◌≢◌, ℕ, ◌+◌, ◌-◌, ◌<◌, ◌≤◌, ◌==◌, nat_lt, nat_le, ◌&&◌, ◌||◌, Bool, true, false, List, ◌⊎◌, Option, Some, None, inl, inr, refl, sym, ap, ◌∙◌, subst, arith, lt-ltb, ltb-true, le-leb, leb-true, eq-eqb, eqb-true, true≢false}
use Rattle.std.specs.Prelude.{length, slice_index}
use Rattle.std.proofs.lemmas.Bool.{cases_lt, and_parts, and_from, or_right, or_left}
use Rattle.std.proofs.lemmas.List.{get_or_past}
use Rattle.race_check.specs.Races.{IsNoLater}
use Rattle.race_check.specs.Finds.{AreCounted, IsFirst, IsFoundIn, OrBefore, is_no_later, leads}
use Rattle.race_check.specs.declared.found.Found.{Found}
use Rattle.race_check.specs.declared.verdict.Spot.{Spot}
use Rattle.race_check.specs.declared.verdict.Spot.TheVariants.{Pixel, Shared}

-- ---- tests

either : (a b : Bool) → (a || b) ≡ true → (a ≡ true) ⊎ (b ≡ true)
either true b h = inl refl
either false b h = inr h

-- ---- spots

no_later_says : (s t : Spot) → is_no_later s t ≡ true → IsNoLater s t
no_later_says (Shared a) (Shared b) h = leb-true a b h
no_later_says (Shared a) (Pixel u v) h = tt
no_later_says (Pixel x y) (Shared b) h = absurd (true≢false (sym h))
no_later_says (Pixel x y) (Pixel u v) h = elim (either (nat_lt y v) (y == v && nat_le x u) h) [
  | inl k ↦ inl (ltb-true y v k)
  | inr k ↦ let r = and_parts (y == v) (nat_le x u) k in inr (eqb-true y v r.0, leb-true x u r.1)
]

says_no_later : (s t : Spot) → IsNoLater s t → is_no_later s t ≡ true
says_no_later (Shared a) (Shared b) h = le-leb a b h
says_no_later (Shared a) (Pixel u v) h = refl
says_no_later (Pixel x y) (Shared b) h = absurd h
says_no_later (Pixel x y) (Pixel u v) (inl h) = or_left (nat_lt y v) (y == v && nat_le x u) (lt-ltb y v h)
says_no_later (Pixel x y) (Pixel u v) (inr h) = or_right (nat_lt y v) (y == v && nat_le x u) (and_from (y == v) (nat_le x u) (eq-eqb y v h.0) (le-leb x u h.1))

no_later_on : (s t r : Spot) → IsNoLater s t → IsNoLater t r → IsNoLater s r
no_later_on (Shared a) (Shared b) (Shared c) h k = omega arith
no_later_on (Shared a) (Shared b) (Pixel p q) h k = tt
no_later_on (Shared a) (Pixel u v) (Shared c) h k = absurd k
no_later_on (Shared a) (Pixel u v) (Pixel p q) h k = tt
no_later_on (Pixel x y) (Shared b) r h k = absurd h
no_later_on (Pixel x y) (Pixel u v) (Shared c) h k = absurd k
no_later_on (Pixel x y) (Pixel u v) (Pixel p q) (inl h) (inl k) = inl (omega arith)
no_later_on (Pixel x y) (Pixel u v) (Pixel p q) (inl h) (inr k) = inl (omega (arith, k.0))
no_later_on (Pixel x y) (Pixel u v) (Pixel p q) (inr h) (inl k) = inl (omega (arith, h.0))
no_later_on (Pixel x y) (Pixel u v) (Pixel p q) (inr h) (inr k) = inr (h.0 ∙ k.0, omega (arith, h.1, k.1))

no_later_either : (s t : Spot) → IsNoLater s t ⊎ IsNoLater t s
no_later_either (Shared a) (Shared b) = elim (cases_lt a b) [ inl lt ↦ inl (omega arith) | inr ge ↦ inr ge ]
no_later_either (Shared a) (Pixel u v) = inl tt
no_later_either (Pixel x y) (Shared b) = inr tt
no_later_either (Pixel x y) (Pixel u v) = elim (cases_lt y v) [
  | inl lt ↦ inl (inl lt)
  | inr ge ↦ elim (cases_lt v y) [
    | inl lt ↦ inr (inl lt)
    | inr le ↦ let e : y ≡ v = omega arith in elim (cases_lt x u) [ inl lt ↦ inl (inr (e, omega arith)) | inr gt ↦ inr (inr (sym e, gt)) ]
  ]
]

-- ---- which is told

-- of a lower client, or of it and later, or one name at a spot that is no later
abbrev pub Leads : Found → Found → Type 0
Leads a b = (a.client < b.client) ⊎ ((a.client ≡ b.client) × ((b.place < a.place) ⊎ ((a.place ≡ b.place) × IsNoLater a.spot b.spot)))

pub leads_says : (a b : Found) → leads a b ≡ true → Leads a b
leads_says a b h = elim (either (nat_lt a.client b.client) (a.client == b.client && (nat_lt b.place a.place || (a.place == b.place && is_no_later a.spot b.spot))) h) [
  | inl k ↦ inl (ltb-true a.client b.client k)
  | inr k ↦
      let r = and_parts (a.client == b.client) (nat_lt b.place a.place || (a.place == b.place && is_no_later a.spot b.spot)) k in
      inr (
        eqb-true a.client b.client r.0,
        elim (either (nat_lt b.place a.place) (a.place == b.place && is_no_later a.spot b.spot) r.1) [
          | inl l ↦ inl (ltb-true b.place a.place l)
          | inr l ↦ let s = and_parts (a.place == b.place) (is_no_later a.spot b.spot) l in inr (eqb-true a.place b.place s.0, no_later_says a.spot b.spot s.1)
        ],
      )
]

says_leads : (a b : Found) → Leads a b → leads a b ≡ true
says_leads a b (inl h) = or_left (nat_lt a.client b.client) _ (lt-ltb a.client b.client h)
says_leads a b (inr h) =
    or_right (nat_lt a.client b.client) _ (and_from (a.client == b.client) (nat_lt b.place a.place || (a.place == b.place && is_no_later a.spot b.spot)) (eq-eqb a.client b.client h.0)
    (elim h.1 [
      | inl l ↦ or_left (nat_lt b.place a.place) (a.place == b.place && is_no_later a.spot b.spot) (lt-ltb b.place a.place l)
      | inr l ↦ or_right (nat_lt b.place a.place) (a.place == b.place && is_no_later a.spot b.spot) (and_from (a.place == b.place) (is_no_later a.spot b.spot) (eq-eqb a.place b.place l.0) (says_no_later a.spot b.spot l.1))
    ]))

leads_on : (a b c : Found) → Leads a b → Leads b c → Leads a c
leads_on a b c (inl h) (inl k) = inl (omega arith)
leads_on a b c (inl h) (inr k) = inl (omega (arith, k.0))
leads_on a b c (inr h) (inl k) = inl (omega (arith, h.0))
leads_on a b c (inr h) (inr k) = inr (h.0 ∙ k.0, go h.1 k.1)
  where
    go : (b.place < a.place) ⊎ ((a.place ≡ b.place) × IsNoLater a.spot b.spot) → (c.place < b.place) ⊎ ((b.place ≡ c.place) × IsNoLater b.spot c.spot) → (c.place < a.place) ⊎ ((a.place ≡ c.place) × IsNoLater a.spot c.spot)
    go (inl p) (inl q) = inl (omega arith)
    go (inl p) (inr q) = inl (omega (arith, q.0))
    go (inr p) (inl q) = inl (omega (arith, p.0))
    go (inr p) (inr q) = inr (p.0 ∙ q.0, no_later_on a.spot b.spot c.spot p.1 q.1)

leads_either : (a b : Found) → Leads a b ⊎ Leads b a
leads_either a b = elim (cases_lt a.client b.client) [
  | inl lt ↦ inl (inl lt)
  | inr ge ↦ elim (cases_lt b.client a.client) [
    | inl lt ↦ inr (inl lt)
    | inr le ↦
        let e : a.client ≡ b.client = omega arith in
        elim (cases_lt b.place a.place) [
          | inl lt ↦ inl (inr (e, inl lt))
          | inr up ↦ elim (cases_lt a.place b.place) [
            | inl lt ↦ inr (inr (sym e, inl lt))
            | inr down ↦
                let p : a.place ≡ b.place = omega arith in
                elim (no_later_either a.spot b.spot) [ inl s ↦ inl (inr (e, inr (p, s))) | inr s ↦ inr (inr (sym e, inr (sym p, s))) ]
          ]
        ]
  ]
]

leads_self : (a : Found) → Leads a a
leads_self a = elim (leads_either a a) [ inl h ↦ h | inr h ↦ h ]

leads_chain : (a b c : Found) → leads a b ≡ true → leads b c ≡ true → leads a c ≡ true
leads_chain a b c h k = says_leads a c (leads_on a b c (leads_says a b h) (leads_says b c k))

pub self_leads : (a : Found) → leads a a ≡ true
self_leads a = says_leads a a (leads_self a)

-- one of a client leads those of it that are no later, at one spot
pub later_leads : (a b : Found) → a.client ≡ b.client → b.place ≤ a.place → a.spot ≡ b.spot → leads a b ≡ true
later_leads a b client le spot = says_leads a b (inr (
  client,
  elim (cases_lt b.place a.place) [
    | inl lt ↦ inl lt
    | inr ge ↦ inr (omega arith, subst (IsNoLater a.spot) spot (elim (no_later_either a.spot a.spot) [ inl h ↦ h | inr h ↦ h ]))
  ],
))

-- ---- the first of a set

-- Of a larger set the same one is first, where each that is in it alone is led by one of the smaller.
pub first_of : (P Q : Found → Type 0) (told : Option Found) → ((x : Found) → P x → Q x) → ((x : Found) → Q x → (y : Found) × P y × (leads y x ≡ true)) → IsFirst P told → IsFirst Q told
first_of P Q told to from h = record {
  none = λ e x q. let y = from x q in h.none e y.0 y.1;
  some = λ r e. let k = h.some r e in (to r k.0, λ x q. let y = from x q in leads_chain r y.0 x (k.1 y.0 y.1) y.2);
}

pub first_as : (P Q : Found → Type 0) (told : Option Found) → ((x : Found) → P x → Q x) → ((x : Found) → Q x → P x) → IsFirst P told → IsFirst Q told
first_as P Q told to from h = record { none = λ e x q. h.none e x (from x q); some = λ r e. let k = h.some r e in (to r k.0, λ x q. k.1 x (from x q)) }

-- nothing more
pub first_kept : (best : Option Found) (P : Found → Type 0) → ((x : Found) → P x → ⊥) → IsFirst (OrBefore best P) best
first_kept best P none = record {
  none = λ e x i. elim i [ inl f ↦ absurd (let k = sym e ∙ f in cc) | inr p ↦ none x p ];
  some = λ r e. (
    inl e,
    λ x (i : OrBefore best P x). elim i [
      | inl f ↦ let k = sym e ∙ f in let same : r ≡ x = cc in subst (λ y. leads r y ≡ true) same (self_leads r)
      | inr p ↦ absurd (none x p)
    ],
  );
}

-- one set after the other
pub first_then : (best mid after : Option Found) (P Q R : Found → Type 0) → IsFirst (OrBefore best P) mid → IsFirst (OrBefore mid Q) after → ((x : Found) → R x → P x ⊎ Q x)
    → ((x : Found) → P x ⊎ Q x → R x) → IsFirst (OrBefore best R) after
first_then best None after P Q R h k to from =
    first_as (OrBefore None Q) (OrBefore best R) after (λ x (i : OrBefore None Q x). elim i [ inl e ↦ absurd cc | inr q ↦ inr (from x (inr q)) ])
    (λ x (i : OrBefore best R x). elim i [
      | inl e ↦ absurd (h.none refl x (inl e))
      | inr r ↦ elim (to x r) [ inl p ↦ absurd (h.none refl x (inr p)) | inr q ↦ inr q ]
    ])
    k
first_then best (Some m) after P Q R h k to from = record {
  none = λ e x i. k.none e m (inl refl);
  some = λ r e.
      let c = k.some r e in (
        elim c.0 [
          | inl f ↦ let same : m ≡ r = cc in subst (OrBefore best R) same (wide m b.0)
          | inr q ↦ inr (from r (inr q))
        ],
        λ x (i : OrBefore best R x). elim (split x i) [
          | inl p ↦ leads_chain r m x (c.1 m (inl refl)) (b.1 x p)
          | inr q ↦ c.1 x (inr q)
        ],
      );
}
  where
    b : OrBefore best P m × ((x : Found) → OrBefore best P x → leads m x ≡ true)
    b = h.some m refl

    wide : (x : Found) → OrBefore best P x → OrBefore best R x
    wide x (inl e) = inl e
    wide x (inr p) = inr (from x (inl p))

    split : (x : Found) → OrBefore best R x → OrBefore best P x ⊎ Q x
    split x (inl e) = inl (inl e)
    split x (inr r) = elim (to x r) [ inl p ↦ inl (inr p) | inr q ↦ inr q ]

-- where nothing was told before
pub first_alone : (P : Found → Type 0) (told : Option Found) → IsFirst (OrBefore None P) told → IsFirst P told
first_alone P told h = first_as (OrBefore None P) P told (λ x (i : OrBefore None P x). elim i [ inl e ↦ absurd cc | inr p ↦ p ]) (λ x p. inr p) h

-- ---- a cell

-- what it tells of the clients below one
abbrev pub IsFoundBelow : ℕ → ℕ → List ℕ → List ℕ → Spot → Found → Type 0
IsFoundBelow k own clock cell spot x = IsFoundIn own clock cell spot x × (x.client < k)

abbrev pub found_at : List ℕ → Spot → ℕ → Found
found_at cell spot d = record { client = d; place = slice_index cell d - 1; spot = spot }

pub below_none : (own : ℕ) (clock cell : List ℕ) (spot : Spot) (best : Option Found) → IsFirst (OrBefore best (IsFoundBelow 0 own clock cell spot)) best
below_none own clock cell spot best = first_kept best (IsFoundBelow 0 own clock cell spot) (λ x p. omega (arith, p.1))

pub below_found : (k own : ℕ) (clock cell : List ℕ) (spot : Spot) (best now after : Option Found) → k ≢ own → slice_index clock k < slice_index cell k
    → IsFirst (OrBefore best (IsFoundBelow k own clock cell spot)) now → IsFirst (OrBefore now (λ x. x ≡ found_at cell spot k)) after
    → IsFirst (OrBefore best (IsFoundBelow (k + 1) own clock cell spot)) after
below_found k own clock cell spot best now after ne lt h one =
    first_then best now after (IsFoundBelow k own clock cell spot) (λ x. x ≡ found_at cell spot k) (IsFoundBelow (k + 1) own clock cell spot) h one to from
  where
    to : (x : Found) → IsFoundBelow (k + 1) own clock cell spot x → IsFoundBelow k own clock cell spot x ⊎ (x ≡ found_at cell spot k)
    to x p = elim (cases_lt x.client k) [
      | inl below ↦ inl (p.0, below)
      | inr ge ↦
          let client : x.client ≡ k = omega (arith, p.1) in
          let here = ap (slice_index cell) client in
          let place : x.place ≡ slice_index cell k - 1 = omega (arith, p.0.last) in
          inr (λ i. record { client = client i; place = place i; spot = p.0.at i })
    ]

    here : IsFoundIn own clock cell spot (found_at cell spot k)
    here = record { other = ne; last = omega arith; uncounted = omega arith; at = refl }

    from : (x : Found) → IsFoundBelow k own clock cell spot x ⊎ (x ≡ found_at cell spot k) → IsFoundBelow (k + 1) own clock cell spot x
    from x (inl p) = (p.0, omega (arith, p.1))
    from x (inr e) = (subst (IsFoundIn own clock cell spot) (sym e) here, let c : x.client ≡ k = ap (λ (y : Found). y.client) e in omega arith)

pub below_past : (k own : ℕ) (clock cell : List ℕ) (spot : Spot) (best now : Option Found) → (k ≢ own → slice_index cell k ≤ slice_index clock k)
    → IsFirst (OrBefore best (IsFoundBelow k own clock cell spot)) now → IsFirst (OrBefore best (IsFoundBelow (k + 1) own clock cell spot)) now
below_past k own clock cell spot best now none h =
    first_as (OrBefore best (IsFoundBelow k own clock cell spot)) (OrBefore best (IsFoundBelow (k + 1) own clock cell spot)) now
    (λ x (i : OrBefore best (IsFoundBelow k own clock cell spot) x). elim i [ inl e ↦ inl e | inr p ↦ inr (p.0, omega (arith, p.1)) ])
    (λ x (i : OrBefore best (IsFoundBelow (k + 1) own clock cell spot) x). elim i [ inl e ↦ inl e | inr p ↦ inr (back x p) ])
    h
  where
    back : (x : Found) → IsFoundBelow (k + 1) own clock cell spot x → IsFoundBelow k own clock cell spot x
    back x p = elim (cases_lt x.client k) [
      | inl below ↦ (p.0, below)
      | inr ge ↦
          let client : x.client ≡ k = omega (arith, p.1) in
          let counted = none (λ e. p.0.other (client ∙ e)) in
          absurd (omega (arith, p.0.last, p.0.uncounted, ap (slice_index cell) client, ap (slice_index clock) client))
    ]

-- a cell tells of no client from eight on
client_low : (own : ℕ) (clock cell : List ℕ) (spot : Spot) (x : Found) → length cell ≡ 8 → IsFoundIn own clock cell spot x → x.client < 8
client_low own clock cell spot x size h = elim (cases_lt x.client 8) [
  | inl lt ↦ lt
  | inr ge ↦ let z : slice_index cell x.client ≡ 0 = get_or_past cell x.client 0 (omega arith) in absurd (omega (arith, h.last))
]

pub below_all : (k own : ℕ) (clock cell : List ℕ) (spot : Spot) (best now : Option Found) → length cell ≡ 8 → 8 ≤ k
    → IsFirst (OrBefore best (IsFoundBelow k own clock cell spot)) now → IsFirst (OrBefore best (IsFoundIn own clock cell spot)) now
below_all k own clock cell spot best now size le h =
    first_as (OrBefore best (IsFoundBelow k own clock cell spot)) (OrBefore best (IsFoundIn own clock cell spot)) now
    (λ x (i : OrBefore best (IsFoundBelow k own clock cell spot) x). elim i [ inl e ↦ inl e | inr p ↦ inr p.0 ])
    (λ x (i : OrBefore best (IsFoundIn own clock cell spot) x). elim i [ inl e ↦ inl e | inr p ↦ inr (p, omega (arith, client_low own clock cell spot x size p)) ])
    h

-- where the clock counts all uses nothing is found
pub none_found : (own : ℕ) (clock cell : List ℕ) (spot : Spot) (best : Option Found) → length cell ≡ 8 → AreCounted clock cell 8 → IsFirst (OrBefore best (IsFoundIn own clock cell spot)) best
none_found own clock cell spot best size h =
    first_kept best (IsFoundIn own clock cell spot) (λ x p. omega (arith, h x.client (client_low own clock cell spot x size p), p.last, p.uncounted))
