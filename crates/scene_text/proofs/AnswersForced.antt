-- What each text is answered with.
use Rattle.std.proofs.Common.{◌≡◌, ◌⊎◌, inl, inr, ℕ, List, ap, refl, sym, subst, ◌∙◌, IfOk, IfErr, Some, None, Result, Ok, Err}
use Rattle.std.proofs.lemmas.Option.{some_pair_parts}
use Rattle.rc_base.specs.declared.scene.Scene.{Scene}
use Rattle.rc_base.specs.declared.scene.Limit.{Limit}
use Rattle.rc_base.specs.declared.scene.TextKind.{TextKind}
use Rattle.rc_base.specs.Formats.Limits.{limit_of}
use Rattle.scene_text.specs.Text.Read.{SpellsText}
use Rattle.scene_text.specs.Text.Faults.{text_fault}
use Rattle.scene_text.specs.declared.parse.TextSceneFault.{TextSceneFault}
use Rattle.scene_text.specs.declared.parse.TextSceneFault.TheVariants as fault
use Rattle.scene_text.specs.Drafts.{IsTextFault}
use Rattle.scene_text.proofs.OneScene.{one_scene}
use Rattle.scene_text.proofs.SpelledHasNoFault.{spelled_no_fault}

pub only : (text : List ℕ) (r : Result Scene TextSceneFault) → IfOk r (λ s. SpellsText text s × (limit_of s ≡ None)) → IfErr r (IsTextFault text)
    → (s : Scene) → SpellsText text s → limit_of s ≡ None → (r ≡ Ok s) ⊎ (r ≡ Err fault.OutOfMemory)
only text (Ok t) f e s h l = inl (ap Ok (one_scene text t s f.0 h))
only text (Err (fault.Text line k)) f e s h l = let n : text_fault text ≡ None = spelled_no_fault text s h in absurd (cc (e, n))
only text (Err (fault.Limit what value)) f e s h l =
    let same : e.0 ≡ s = one_scene text e.0 s e.1 h in
    let m : limit_of s ≡ Some (record { what = what; value = value }) = subst (λ x. limit_of x ≡ Some (record { what = what; value = value })) same e.2 in
    absurd (cc (m, l))
only text (Err fault.OutOfMemory) f e s h l = inr refl

pub told : (text : List ℕ) (r : Result Scene TextSceneFault) → IfOk r (λ s. SpellsText text s × (limit_of s ≡ None)) → IfErr r (IsTextFault text)
    → (line : ℕ) (k : TextKind) → text_fault text ≡ Some (line, k) → (r ≡ Err (fault.Text line k)) ⊎ (r ≡ Err fault.OutOfMemory)
told text (Ok t) f e line k h = let n : text_fault text ≡ None = spelled_no_fault text t f.0 in absurd (cc (h, n))
told text (Err (fault.Text at kind)) f e line k h =
    let same = some_pair_parts at line kind k (sym e ∙ h) in
    inl (λ i. Err (fault.Text (same.0 i) (same.1 i)))
told text (Err (fault.Limit what value)) f e line k h = let n : text_fault text ≡ None = spelled_no_fault text e.0 e.1 in absurd (cc (h, n))
told text (Err fault.OutOfMemory) f e line k h = inr refl

pub limited : (text : List ℕ) (r : Result Scene TextSceneFault) → IfOk r (λ s. SpellsText text s × (limit_of s ≡ None)) → IfErr r (IsTextFault text)
    → (s : Scene) (limit : Limit) → SpellsText text s → limit_of s ≡ Some limit → (r ≡ Err (fault.Limit limit.what limit.value)) ⊎ (r ≡ Err fault.OutOfMemory)
limited text (Ok t) f e s limit h l =
    let same : t ≡ s = one_scene text t s f.0 h in
    let m : limit_of s ≡ None = subst (λ x. limit_of x ≡ None) same f.1 in
    absurd (cc (m, l))
limited text (Err (fault.Text line k)) f e s limit h l = let n : text_fault text ≡ None = spelled_no_fault text s h in absurd (cc (e, n))
limited text (Err (fault.Limit what value)) f e s limit h l =
    let same : e.0 ≡ s = one_scene text e.0 s e.1 h in
    let m : limit_of s ≡ Some (record { what = what; value = value }) = subst (λ x. limit_of x ≡ Some (record { what = what; value = value })) same e.2 in
    let both : Some (record { what = what; value = value }) ≡ Some limit = sym m ∙ l in
    let one : record { what = what; value = value } ≡ limit = cc in
    inl (ap (λ x. Err (fault.Limit x.what x.value)) one)
limited text (Err fault.OutOfMemory) f e s limit h l = inr refl
