-- What is told of a name is what races with it: of the lowest client the last name, at the first spot.
use Rattle.std.proofs.Common.{◌≡◌, ℕ, ◌<◌, true, List, [], ◌∷◌, ◌++◌, Some, None, inl, inr, refl, sym, ap, subst, arith}
use Rattle.std.proofs.lemmas.Bool.{cases_lt}
use Rattle.rc_base.specs.Lists.{IsIn, Stands, NoRepeat}
use Rattle.rc_base.specs.Orders.Journal.{reach_of}
use Rattle.rc_base.specs.Orders.Order.{Footprint, Overlaps, Conflicts, IsPermitted}
use Rattle.rc_base.specs.Orders.Order.Overlaps.{CommonPixel, FirstWrites, SecondWrites}
use Rattle.rc_base.specs.declared.sync.Entry.{Entry}
use Rattle.rc_base.specs.declared.sync.Name.{Name}
use Rattle.rc_base.specs.declared.sync.SyncLists.{SyncLists}
use Rattle.order_model.proofs.StandsInLists.{second_in, not_both, either_first, in_append, stands_split, before_middle, no_repeat_less}
use Rattle.happens_before.specs.Before.{IsBefore, AreConflictsOrdered}
use Rattle.happens_before.specs.Clocks.{IsExact}
use Rattle.scene_lemmas.proofs.Numbered.{is_in_behind}
use Rattle.race_check.specs.Races.{ConflictsUnordered, OverlapsAt, IsFirstRace}
use Rattle.race_check.specs.Finds.{IsFirst, leads}
use Rattle.race_check.specs.Uses.{IsUnordered, named}
use Rattle.race_check.specs.declared.found.Found.{Found}
use Rattle.race_check.specs.declared.verdict.Spot.{Spot}
use Rattle.race_check.specs.declared.verdict.Spot.TheVariants.{Pixel, Shared}
use Rattle.happens_before.proofs.BeforeStands.{before_stands}
use Rattle.race_check.proofs.FoundFirst.{Leads, leads_says}

overlaps_at : (f : Footprint (ℕ × ℕ)) (a b : Name) (s : Spot) → OverlapsAt f a b s → Overlaps f a b
overlaps_at f a b (Pixel x y) h = CommonPixel (x, y) h.0 h.1
overlaps_at f a b (Shared t) (inl h) = FirstWrites t h.0 h.1
overlaps_at f a b (Shared t) (inr h) = SecondWrites t h.0 h.1

pub spot_of_overlap : (f : Footprint (ℕ × ℕ)) (a b : Name) → Overlaps f a b → (s : Spot) × OverlapsAt f a b s
spot_of_overlap f a b (CommonPixel p h k) = (Pixel p.0 p.1, (h, k))
spot_of_overlap f a b (FirstWrites t h k) = (Shared t, inl (h, k))
spot_of_overlap f a b (SecondWrites t h k) = (Shared t, inr (h, k))

-- ---- of one name

-- what a clock doesn't count is what isn't before
pub record ByClock (syncs : SyncLists) (journal : List Entry) (clock : Name → ℕ → ℕ) (passed : List Name) (n : Name) : Type 0 where
  pub exact : IsExact syncs journal clock
  pub reached : n.place < reach_of syncs journal n.client
  pub below : (a : Name) → IsIn a passed → a.place < reach_of syncs journal a.client

-- what is unordered with the name races with it, and the other way round
unordered_races : (syncs : SyncLists) (journal : List Entry) (f : Footprint (ℕ × ℕ)) (clock : Name → ℕ → ℕ) (passed : List Name) (n : Name) → ByClock syncs journal clock passed n → (x : Found)
    → IsUnordered f (clock n) n passed x → ConflictsUnordered syncs journal f (named x.client x.place) n
unordered_races syncs journal f clock passed n c x u = record {
  conflict = record { clients = u.other; first = c.below (named x.client x.place) u.earlier; second = c.reached; common = overlaps_at f (named x.client x.place) n x.spot u.at };
  not_before = λ k. let lt = (c.exact.exact (named x.client x.place) n c.reached).0 k in omega (arith, u.uncounted);
}

races_unordered : (syncs : SyncLists) (journal : List Entry) (f : Footprint (ℕ × ℕ)) (clock : Name → ℕ → ℕ) (passed : List Name) (n : Name) → ByClock syncs journal clock passed n → (a : Name) (s : Spot)
    → IsIn a passed → ConflictsUnordered syncs journal f a n → OverlapsAt f a n s → IsUnordered f (clock n) n passed (record { client = a.client; place = a.place; spot = s })
races_unordered syncs journal f clock passed n c a s i k at = record {
  earlier = i;
  other = k.conflict.clients;
  at = at;
  uncounted = elim (cases_lt a.place (clock n a.client)) [ inl lt ↦ absurd (k.not_before ((c.exact.exact a n c.reached).1 lt)) | inr ge ↦ ge ];
}

-- ---- of an order

-- in a list without repetition
pub stands_before : (b n : Name) (u v : List Name) → NoRepeat (u ++ n ∷ v) → Stands b n (u ++ n ∷ v) → IsIn b u
stands_before b n u v once h = elim (stands_split b n u (n ∷ v) h) [
  | inl i ↦ i
  | inr k ↦
      let free = (no_repeat_less n u v once).0 in
      absurd (elim k [ inl e ↦ free (is_in_behind n u v e.1) | inr s ↦ free (is_in_behind n u v (second_in b n v s)) ])
]

pub stands_front : (a b : Name) (u w : List Name) → NoRepeat (u ++ w) → Stands a b (u ++ w) → IsIn b u → Stands a b u
stands_front a b [] w once h i = absurd i
stands_front a b (x ∷ u) w once (inl h) (inl e) = absurd (once.0 (subst (λ y. IsIn y (u ++ w)) (sym e) h.1))
stands_front a b (x ∷ u) w once (inl h) (inr i) = inl (h.0, i)
stands_front a b (x ∷ u) w once (inr h) (inl e) = absurd (once.0 (subst (λ y. IsIn y (u ++ w)) (sym e) (second_in a b (u ++ w) h)))
stands_front a b (x ∷ u) w once (inr h) (inr i) = inr (stands_front a b u w once.1 h i)

-- of no two names of the list is the conflict unordered
abbrev pub IsQuiet : SyncLists → List Entry → Footprint (ℕ × ℕ) → List Name → Type 0
IsQuiet syncs journal f names = (a b : Name) → Stands a b names → ConflictsUnordered syncs journal f a b → ⊥

pub told_race : (syncs : SyncLists) (journal : List Entry) (f : Footprint (ℕ × ℕ)) (clock : Name → ℕ → ℕ) (passed rest : List Name) (n : Name) (r : Found) → NoRepeat (passed ++ n ∷ rest)
    → ByClock syncs journal clock passed n → IsQuiet syncs journal f passed → IsFirst (IsUnordered f (clock n) n passed) (Some r) → IsFirstRace syncs journal (passed ++ n ∷ rest) f (named r.client r.place) n r.spot
told_race syncs journal f clock passed rest n r once by quiet first = record {
  stands = before_middle n (named r.client r.place) passed rest t.0.earlier;
  unordered = races;
  earliest = λ a b s u k. quiet a b (stands_front a b passed (n ∷ rest) once s (stands_before b n passed rest once u)) k;
  lowest = λ a s k. let x = later a s k in elim x.1 [ inl lt ↦ omega (arith, lt) | inr e ↦ omega (arith, e.0) ];
  last = λ a s k c. let x = later a s k in elim x.1 [
    | inl lt ↦ absurd (omega (arith, lt, c))
    | inr e ↦ elim e.1 [ inl p ↦ omega (arith, p) | inr p ↦ omega (arith, p.0) ]
  ];
  at = t.0.at;
  nearest = λ other k.
      let l = leads_says r (record { client = r.client; place = r.place; spot = other }) (t.1 (record { client = r.client; place = r.place; spot = other }) (races_unordered syncs journal f clock passed n by (named r.client r.place) other t.0.earlier races k)) in
      elim l [
        | inl lt ↦ absurd (omega (arith, lt))
        | inr e ↦ elim e.1 [ inl p ↦ absurd (omega (arith, p)) | inr p ↦ p.1 ]
      ];
}
  where
    t : IsUnordered f (clock n) n passed r × ((x : Found) → IsUnordered f (clock n) n passed x → leads r x ≡ true)
    t = first.some r refl

    races : ConflictsUnordered syncs journal f (named r.client r.place) n
    races = unordered_races syncs journal f clock passed n by r (first.some r refl).0

    later : (a : Name) → Stands a n (passed ++ n ∷ rest) → ConflictsUnordered syncs journal f a n → (s : Spot) × Leads r (record { client = a.client; place = a.place; spot = s })
    later a s k =
        let o = spot_of_overlap f a n k.conflict.common in
        let x : Found = record { client = a.client; place = a.place; spot = o.0 } in
        (o.0, leads_says r x ((first.some r refl).1 x (races_unordered syncs journal f clock passed n by a o.0 (stands_before a n passed rest once s) k o.1)))

pub quiet_more : (syncs : SyncLists) (journal : List Entry) (f : Footprint (ℕ × ℕ)) (clock : Name → ℕ → ℕ) (passed : List Name) (n : Name) → NoRepeat (passed ++ n ∷ []) → ByClock syncs journal clock passed n
    → IsQuiet syncs journal f passed → IsFirst (IsUnordered f (clock n) n passed) None → IsQuiet syncs journal f (passed ++ n ∷ [])
quiet_more syncs journal f clock passed n once by quiet first a b s k = elim (in_append b passed (n ∷ []) (second_in a b (passed ++ n ∷ []) s)) [
  | inl i ↦ quiet a b (stands_front a b passed (n ∷ []) once s i) k
  | inr (inr i) ↦ absurd i
  | inr (inl e) ↦
      let k' : ConflictsUnordered syncs journal f a n = subst (ConflictsUnordered syncs journal f a) (sym e) k in
      let i = stands_before a n passed [] once (subst (λ x. Stands a x (passed ++ n ∷ [])) (sym e) s) in
      let o = spot_of_overlap f a n k'.conflict.common in
      absurd (first.none refl (record { client = a.client; place = a.place; spot = o.0 }) (races_unordered syncs journal f clock passed n by a o.0 i k' o.1))
]

conflict_back : (syncs : SyncLists) (journal : List Entry) (f : Footprint (ℕ × ℕ)) (a b : Name) → Conflicts syncs journal f a b → Conflicts syncs journal f b a
conflict_back syncs journal f a b h = record { clients = λ e. h.clients (sym e); first = h.second; second = h.first; common = back h.common }
  where
    back : Overlaps f a b → Overlaps f b a
    back (CommonPixel p x y) = CommonPixel p y x
    back (FirstWrites t x y) = SecondWrites t x y
    back (SecondWrites t x y) = FirstWrites t x y

pub quiet_ordered : (syncs : SyncLists) (journal : List Entry) (f : Footprint (ℕ × ℕ)) (order : List Name) (clock : Name → ℕ → ℕ) → IsPermitted syncs journal order → IsExact syncs journal clock → IsQuiet syncs journal f order
    → AreConflictsOrdered syncs journal f
quiet_ordered syncs journal f order clock p exact quiet a b h = elim (either_first a b order ((p.names a).1 h.first) ((p.names b).1 h.second)) [
  | inl e ↦ absurd (h.clients (ap (λ (x : Name). x.client) e))
  | inr (inl s) ↦ inl (settle a b h s)
  | inr (inr s) ↦ inr (settle b a (conflict_back syncs journal f a b h) s)
]
  where
    settle : (x y : Name) → Conflicts syncs journal f x y → Stands x y order → IsBefore syncs journal x y
    settle x y c s = elim (cases_lt x.place (clock y x.client)) [
      | inl lt ↦ (exact.exact x y c.second).1 lt
      | inr ge ↦ absurd (quiet x y s (record { conflict = c; not_before = λ k. let lt = (exact.exact x y c.second).0 k in omega arith }))
    ]

-- a race is a conflict that isn't ordered
pub race_unordered : (syncs : SyncLists) (journal : List Entry) (f : Footprint (ℕ × ℕ)) (order : List Name) (first second : Name) (spot : Spot) → IsPermitted syncs journal order
    → IsFirstRace syncs journal order f first second spot → AreConflictsOrdered syncs journal f → ⊥
race_unordered syncs journal f order first second spot p h all = elim (all first second h.unordered.conflict) [
  | inl k ↦ h.unordered.not_before k
  | inr k ↦ not_both first second order p.once h.stands (before_stands syncs journal order p second first k)
]
