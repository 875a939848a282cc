-- Values that are known of one tile.
use Rattle.std.proofs.Common.{◌≡◌, ℕ, ◌-◌, ◌<◌, Some, inl, inr, sym, ap, subst, ◌∙◌, arith}
use Rattle.std.proofs.lemmas.Bool.{cases_lt}
use Rattle.rc_base.specs.Contexts.Elements.{element_count, image_element, same_value, scalar_count}
use Rattle.rc_base.specs.declared.state.ElementValue.{ElementValue}
use Rattle.state_update.specs.declared.told.Told.{Told}
use Rattle.state_update.specs.Knowledge.{Agrees, Knows, Tracked}
use Rattle.state_update.proofs.SameValues.{alike}

by_kept : (kept : Told) (v w : ℕ → ElementValue) → Agrees kept v → Agrees kept w → (e : ℕ) → e < element_count → (z : ElementValue) → same_value (v e) z ≡ same_value (w e) z
by_kept kept v w a b e lt z = elim (cases_lt e scalar_count) [
  | inl scalar ↦ ap (λ (u : ElementValue). same_value u z) (a.scalars e scalar ∙ sym (b.scalars e scalar))
  | inr image ↦
      let name = e - 21 in
      let is : image_element name ≡ e = omega (arith, image) in
      subst (λ (k : ℕ). same_value (v k) z ≡ same_value (w k) z) is
      (alike (v (image_element name)) (w (image_element name)) z _ (a.images name (omega (arith, image)) (omega (arith, lt))) (b.images name (omega (arith, image)) (omega (arith, lt))))
]

pub known_are_alike : (t : Tracked) (tile : ℕ) (v w : ℕ → ElementValue) → Knows t tile v → Knows t tile w
    → (e : ℕ) → e < element_count → (z : ElementValue) → same_value (v e) z ≡ same_value (w e) z
known_are_alike t tile v w k m e lt z =
    let both : Some k.kept ≡ Some m.kept = sym k.is ∙ m.is in
    let same : m.kept ≡ k.kept = cc in
    by_kept k.kept v w k.agrees (subst (λ (kept : Told). Agrees kept w) same m.agrees) e lt z
