-- Two orders of the same names, in which only names that commute change places, lead to one state.
use Rattle.std.proofs.Common.{◌≡◌, List, fold, [], ◌∷◌, ◌++◌, inl, inr, refl, sym, ap, ◌∙◌, subst}
use Rattle.rc_base.specs.Lists.{IsIn, Stands, NoRepeat}
use Rattle.order_model.proofs.StandsInLists.{take_out, before_middle, in_more, in_left, in_less, stands_more, no_repeat_less}

-- a name that commutes with all before it may go first
fold_front : {N S : Type 0} (step : S → N → S) (a : N) (u v : List N) → ((b : N) → IsIn b u → (s : S) → step (step s b) a ≡ step (step s a) b)
    → (s : S) → fold step s (u ++ a ∷ v) ≡ fold step (step s a) (u ++ v)
fold_front step a [] v h s = refl
fold_front step a (b ∷ u) v h s = fold_front step a u v (λ c i. h c (inr i)) (step s b) ∙ ap (λ t. fold step t (u ++ v)) (h b (inl refl) s)

-- both orders without their common name a
one_more : {N S : Type 0} (step : S → N → S) (a : N) (o u v : List N) → NoRepeat (a ∷ o) → NoRepeat (u ++ a ∷ v)
    → ((n : N) → IsIn n (a ∷ o) → IsIn n (u ++ a ∷ v)) → ((n : N) → IsIn n (u ++ a ∷ v) → IsIn n (a ∷ o))
    → ((x y : N) → Stands x y (a ∷ o) → Stands y x (u ++ a ∷ v) → (s : S) → step (step s y) x ≡ step (step s x) y)
    → (NoRepeat o → NoRepeat (u ++ v) → ((n : N) → IsIn n o → IsIn n (u ++ v)) → ((n : N) → IsIn n (u ++ v) → IsIn n o)
    → ((x y : N) → Stands x y o → Stands y x (u ++ v) → (s : S) → step (step s y) x ≡ step (step s x) y)
    → (s : S) → fold step s o ≡ fold step s (u ++ v))
    → (s : S) → fold step (step s a) o ≡ fold step s (u ++ a ∷ v)
one_more {N} {S} step a o u v n n' f g c rest s =
    let less = no_repeat_less a u v n' in
    let kept : (m : N) → IsIn m o → IsIn m (u ++ v) = λ m i. elim (in_less a m u v (f m (inr i))) [ inl e ↦ absurd (n.0 (subst (λ z. IsIn z o) (sym e) i)) | inr k ↦ k ] in
    let back : (m : N) → IsIn m (u ++ v) → IsIn m o = λ m i. elim (g m (in_more a m u v i)) [ inl e ↦ absurd (less.0 (subst (λ z. IsIn z (u ++ v)) (sym e) i)) | inr k ↦ k ] in
    let front : (b : N) → IsIn b u → (t : S) → step (step t b) a ≡ step (step t a) b = λ b i. c a b (inl (refl, back b (in_left b u v i))) (before_middle a b u v i) in
    rest n.1 less.1 kept back (λ x y p q. c x y (inr p) (stands_more a y x u v q)) (step s a) ∙ sym (fold_front step a u v front s)

pub fold_same : {N S : Type 0} (step : S → N → S) (o o' : List N) → NoRepeat o → NoRepeat o'
    → ((n : N) → IsIn n o → IsIn n o') → ((n : N) → IsIn n o' → IsIn n o)
    → ((a b : N) → Stands a b o → Stands b a o' → (s : S) → step (step s b) a ≡ step (step s a) b)
    → (s : S) → fold step s o ≡ fold step s o'
fold_same step [] [] n n' f g c s = refl
fold_same step [] (x ∷ o') n n' f g c s = absurd (g x (inl refl))
fold_same step (a ∷ o) o' n n' f g c s =
    let t = take_out a o' (f a (inl refl)) in
    let e = t.2 in
    one_more step a o t.0 t.1 n (subst NoRepeat e n') (λ m i. subst (IsIn m) e (f m i)) (λ m i. g m (subst (IsIn m) (sym e) i))
    (λ x y p q. c x y p (subst (Stands y x) (sym e) q))
    (λ k k' f' g' c' r. fold_same step o (t.0 ++ t.1) k k' f' g' c' r) s
    ∙ ap (λ w. fold step s w) (sym e)
