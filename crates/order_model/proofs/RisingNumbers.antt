-- Rising numbers stay rising where the end goes up by one, with the number at the end or without it.
use Rattle.std.proofs.Common.{◌≡◌, ℕ, suc, List, [], ◌∷◌, ◌++◌, ◌⊎◌, inl, inr, sym, subst, append-nil}
use Rattle.rc_base.specs.Lists.{AreRising}
use Rattle.scene_lemmas.proofs.Numbered.{rising_further, rising_push}

pub rising_with : (p : ℕ) (ns more : List ℕ) (n : ℕ) → (more ≡ []) ⊎ (more ≡ n ∷ []) → AreRising p ns n → AreRising p (ns ++ more) (suc n)
rising_with p ns more n (inl e) h = subst (λ ms. AreRising p (ns ++ ms) (suc n)) (sym e) (subst (λ ms. AreRising p ms (suc n)) (sym (append-nil ns)) (rising_further p ns n h))
rising_with p ns more n (inr e) h = subst (λ ms. AreRising p (ns ++ ms) (suc n)) (sym e) (rising_push p ns n h)
