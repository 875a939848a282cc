-- An answer to bytes is the one that they have.
use Rattle.std.proofs.Common.{◌≡◌, ℕ, ◌⊎◌, inl, inr, List, Option, Some, None, Result, Ok, Err, refl, sym, ap, ◌∙◌}
use Rattle.rc_base.specs.declared.scene.Limit.{Limit}
use Rattle.rc_base.specs.declared.scene.SceneKind.{SceneKind}
use Rattle.scene_file.specs.declared.fault.SceneFault.{SceneFault}
use Rattle.scene_file.specs.declared.fault.SceneFault.TheVariants.{OutOfMemory}
use Rattle.scene_file.specs.declared.fault.SceneFault.TheVariants as scene_faults
use Rattle.scene_file.specs.Faults.{IsReadBy}
use Rattle.scene_file.specs.Laws.{AreOne, FaultsSpellNone, AreOneFault}

none_and_some : (o : Option Limit) (l : Limit) → o ≡ None → o ≡ Some l → ⊥
none_and_some o l p q = absurd cc

same_limit : (o : Option Limit) (k l : Limit) → o ≡ Some k → o ≡ Some l → k ≡ l
same_limit o k l p q = cc

-- Scenes that bytes spell, and their limits, and faults of bytes: bytes spell one scene or have one fault.
module _ {S : Type 0} (Spells : List ℕ → S → Type 0) (limit_at : S → Option Limit) (Fails : List ℕ → SceneKind → ℕ → Type 0)
    (one : AreOne Spells) (none : FaultsSpellNone Spells Fails) (faults_one : AreOneFault Fails) where
  -- the answer is this one, or want of memory
  abbrev pub Answers : Result S SceneFault → Result S SceneFault → Type 0
  Answers r wanted = (r ≡ wanted) ⊎ (r ≡ Err OutOfMemory)

  -- what is known of an answer
  abbrev pub Known : List ℕ → Result S SceneFault → Type 0
  Known bytes r = IsReadBy (λ s. s) Spells limit_at Fails bytes r

  pub only_scene : (bytes : List ℕ) (r : Result S SceneFault) → Known bytes r → (s : S) → Spells bytes s → limit_at s ≡ None → Answers r (Ok s)
  only_scene bytes (Ok v) k s sp within = inl (ap (λ (x : S). Ok x) (one bytes v s k.found.0 sp))
  only_scene bytes (Err (scene_faults.Malformed kind at)) k s sp within = absurd (none bytes kind at s k.malformed sp)
  only_scene bytes (Err (scene_faults.Limit what value)) k s sp within =
      let same = one bytes k.limit.0 s k.limit.1 sp in
      absurd (none_and_some (limit_at s) (record { what = what; value = value }) within (sym (ap limit_at same) ∙ k.limit.2))
  only_scene bytes (Err scene_faults.OutOfMemory) k s sp within = inr refl

  pub only_limit : (bytes : List ℕ) (r : Result S SceneFault) → Known bytes r → (s : S) (l : Limit) → Spells bytes s → limit_at s ≡ Some l
      → Answers r (Err (scene_faults.Limit l.what l.value))
  only_limit bytes (Ok v) k s l sp beyond =
      let same = one bytes v s k.found.0 sp in
      absurd (none_and_some (limit_at s) l (sym (ap limit_at same) ∙ k.found.1) beyond)
  only_limit bytes (Err (scene_faults.Malformed kind at)) k s l sp beyond = absurd (none bytes kind at s k.malformed sp)
  only_limit bytes (Err (scene_faults.Limit what value)) k s l sp beyond =
      let same = one bytes k.limit.0 s k.limit.1 sp in
      let limit = same_limit (limit_at s) (record { what = what; value = value }) l (sym (ap limit_at same) ∙ k.limit.2) beyond in
      inl (λ i. Err (scene_faults.Limit (limit i).what (limit i).value))
  only_limit bytes (Err scene_faults.OutOfMemory) k s l sp beyond = inr refl

  pub only_malformed : (bytes : List ℕ) (r : Result S SceneFault) → Known bytes r → (kind : SceneKind) (at : ℕ) → Fails bytes kind at
      → Answers r (Err (scene_faults.Malformed kind at))
  only_malformed bytes (Ok v) k kind at h = absurd (none bytes kind at v h k.found.0)
  only_malformed bytes (Err (scene_faults.Malformed other place)) k kind at h =
      let same = faults_one bytes other kind place at k.malformed h in
      inl (λ i. Err (scene_faults.Malformed (same.0 i) (same.1 i)))
  only_malformed bytes (Err (scene_faults.Limit what value)) k kind at h = absurd (none bytes kind at k.limit.0 h k.limit.1)
  only_malformed bytes (Err scene_faults.OutOfMemory) k kind at h = inr refl
