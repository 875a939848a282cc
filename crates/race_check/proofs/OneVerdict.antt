-- A permitted order has one verdict.
use Rattle.std.proofs.Common.{◌≡◌, ℕ, ◌<◌, ◌≤◌, List, ◌⊎◌, inl, inr, refl, sym, ap, subst, arith}
use Rattle.rc_base.specs.Orders.Order.{Footprint, IsPermitted}
use Rattle.rc_base.specs.declared.sync.Entry.{Entry}
use Rattle.rc_base.specs.declared.sync.Name.{Name}
use Rattle.rc_base.specs.declared.sync.SyncLists.{SyncLists}
use Rattle.order_model.proofs.StandsInLists.{second_in, not_both, either_first}
use Rattle.happens_before.specs.Before.{AreConflictsOrdered}
use Rattle.happens_before.proofs.BeforeStands.{before_stands}
use Rattle.race_check.specs.Laws.{LaterNamesAreNotBefore, EachOrderHasOneVerdict}
use Rattle.race_check.specs.Races.{IsFirstRace, IsNoLater, IsVerdict}
use Rattle.race_check.specs.declared.verdict.Spot.{Spot}
use Rattle.race_check.specs.declared.verdict.Spot.TheVariants.{Pixel, Shared}
use Rattle.race_check.specs.declared.verdict.Verdict.{Verdict}
use Rattle.race_check.specs.declared.verdict.Verdict.TheVariants.{Ordered, Race}

pub later_not_before : LaterNamesAreNotBefore
later_not_before syncs journal f order p a b s c h = not_both a b order p.once s (before_stands syncs journal order p b a h)

-- ---- spots

same_column : (x y u v : ℕ) → (y < v) ⊎ ((y ≡ v) × (x ≤ u)) → (v < y) ⊎ ((v ≡ y) × (u ≤ x)) → x ≡ u
same_column x y u v (inl h) (inl k) = absurd (omega (arith, h, k))
same_column x y u v (inl h) (inr k) = absurd (omega (arith, h, k.0))
same_column x y u v (inr h) (inl k) = absurd (omega (arith, h.0, k))
same_column x y u v (inr h) (inr k) = omega (arith, h.1, k.1)

same_row : (x y u v : ℕ) → (y < v) ⊎ ((y ≡ v) × (x ≤ u)) → (v < y) ⊎ ((v ≡ y) × (u ≤ x)) → y ≡ v
same_row x y u v (inl h) (inl k) = absurd (omega (arith, h, k))
same_row x y u v (inl h) (inr k) = sym k.0
same_row x y u v (inr h) k = h.0

same_number : (s t : ℕ) → s ≤ t → t ≤ s → s ≡ t
same_number s t h k = omega (arith, h, k)

-- two spots, neither of which is later
same_spot : (s t : Spot) → IsNoLater s t → IsNoLater t s → s ≡ t
same_spot (Shared s) (Shared t) h k = ap (λ n. Shared n) (same_number s t h k)
same_spot (Shared s) (Pixel u v) h k = absurd k
same_spot (Pixel x y) (Shared t) h k = absurd h
same_spot (Pixel x y) (Pixel u v) h k = (λ i. Pixel (same_column x y u v h k i) (same_row x y u v h k i))

-- ---- verdicts

module _ (syncs : SyncLists) (journal : List Entry) (f : Footprint (ℕ × ℕ)) (order : List Name) (p : IsPermitted syncs journal order) where
  no_race : (a b : Name) (s : Spot) → AreConflictsOrdered syncs journal f → IsFirstRace syncs journal order f a b s → ⊥
  no_race a b s h k = elim (h a b k.unordered.conflict) [
    | inl before ↦ k.unordered.not_before before
    | inr after ↦ later_not_before syncs journal f order p a b k.stands k.unordered after
  ]

  same_second : (a b c d : Name) (s t : Spot) → IsFirstRace syncs journal order f a b s → IsFirstRace syncs journal order f c d t → b ≡ d
  same_second a b c d s t h k = elim (either_first b d order (second_in a b order h.stands) (second_in c d order k.stands)) [
    | inl e ↦ e
    | inr either ↦ elim either [
      | inl u ↦ absurd (k.earliest a b h.stands u h.unordered)
      | inr u ↦ absurd (h.earliest c d k.stands u k.unordered)
    ]
  ]

  same_first : (a b c : Name) (s t : Spot) → IsFirstRace syncs journal order f a b s → IsFirstRace syncs journal order f c b t → a ≡ c
  same_first a b c s t h k =
      let e : a.client ≡ c.client = same_number a.client c.client (h.lowest c k.stands k.unordered) (k.lowest a h.stands h.unordered) in
      let g : a.place ≡ c.place = same_number a.place c.place (k.last a h.stands h.unordered e) (h.last c k.stands k.unordered (sym e)) in
      (λ i. record { client = e i; place = g i })

  pub one_verdict : (v w : Verdict) → IsVerdict syncs journal order f v → IsVerdict syncs journal order f w → v ≡ w
  one_verdict Ordered Ordered h k = refl
  one_verdict Ordered (Race a b s) h k = absurd (no_race a b s h k)
  one_verdict (Race a b s) Ordered h k = absurd (no_race a b s k h)
  one_verdict (Race a b s) (Race c d t) h k =
      let e = same_second a b c d s t h k in
      let k1 = subst (λ z. IsFirstRace syncs journal order f c z t) (sym e) k in
      let g = same_first a b c s t h k1 in
      let k2 = subst (λ z. IsFirstRace syncs journal order f z b t) (sym g) k1 in
      let q = same_spot s t (h.nearest t k2.at) (k2.nearest s h.at) in
      (λ i. Race (g i) (e i) (q i))

pub one_verdict_holds : EachOrderHasOneVerdict
one_verdict_holds syncs journal f order p v w h k = one_verdict syncs journal f order p v w h k
