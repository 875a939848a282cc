-- The options that must be there.
use Rattle.std.proofs.Common.{◌≡◌, Bool, true, false, List, [], ◌∷◌, IsTrue, inl, inr, subst, sym, ◌∙◌, refl}
use Rattle.rc_base.specs.Lists.{IsIn}
use Rattle.command_line.specs.declared.job.OptionName.{OptionName}
use Rattle.command_line.specs.declared.job.OptionName.TheVariants.{Seed, Size}
use Rattle.command_line.specs.declared.seen.Seen.{Seen}
use Rattle.command_line.specs.Reads.{has}

abbrev AllSeen : Seen → List OptionName → Type 0
AllSeen g os = (o : OptionName) → IsIn o os → has g o ≡ true

one_seen : (g : Seen) (p : OptionName) → has g p ≡ true → AllSeen g (p ∷ [])
one_seen g p h o i = elim i [ inl e ↦ subst (λ q. has g q ≡ true) e h | inr none ↦ absurd none ]

pub seed_due : (g : Seen) (b : Bool) → b ≡ has g Seed → (IsTrue b → AllSeen g (Seed ∷ [])) × (AllSeen g (Seed ∷ []) → IsTrue b)
seed_due g b e = (λ t. one_seen g Seed (sym e ∙ t), λ f. e ∙ f Seed (inl refl))

pub both_due : (g : Seen) (b : Bool) → has g Seed ≡ true → b ≡ has g Size → (IsTrue b → AllSeen g (Seed ∷ Size ∷ [])) × (AllSeen g (Seed ∷ Size ∷ []) → IsTrue b)
both_due g b h e = (
  λ t o i. elim i [ inl first ↦ subst (λ q. has g q ≡ true) first h | inr second ↦ one_seen g Size (sym e ∙ t) o second ],
  λ f. e ∙ f Size (inr (inl refl)),
)

pub first_due : (g : Seen) (b : Bool) → b ≡ has g Seed → b ≡ false → (IsTrue b → AllSeen g (Seed ∷ Size ∷ [])) × (AllSeen g (Seed ∷ Size ∷ []) → IsTrue b)
first_due g b e none = (λ t. absurd cc, λ f. e ∙ f Seed (inl refl))
