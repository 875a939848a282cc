-- Whose state a tile's device draws with, after a parcel.
use Rattle.std.proofs.Common.{◌≡◌, ℕ, ◌==◌, ◌⊎◌, inl, inr, Bool, true, false, List, [], ◌∷◌, length, Some, None, refl, sym, ap, ◌∙◌, subst, arith, eqb-true}
use Rattle.std.specs.Prelude.{slice_get, slice_set}
use Rattle.std.specs.declared.option.Option.{Option}
use Rattle.std.proofs.lemmas.Bool.{cases_eq}
use Rattle.std.proofs.lemmas.Option.{slice_get_within}
use Rattle.rc_base.specs.declared.state.ElementSet.{ElementSet}
use Rattle.element_table.proofs.SameValues.{state_is}
use Rattle.tile_model.specs.Boards.{HasSets}
use Rattle.tile_server.specs.Kepts.{kept_of}
use Rattle.tile_server.specs.Switched.{IsSameState, IsStateNow, IsStateOf, IsSwitched}
use Rattle.tile_server.specs.declared.hardware.Hardware.{Hardware}
use Rattle.tile_server.specs.declared.kept.KeptClient.{KeptClient}
use Rattle.tile_server.proofs.DrawnParcels.{set_beside, set_here}

-- no set changes nothing
unset : (sets : List ElementSet) (k later : KeptClient) → sets ≡ [] → HasSets sets (kept_of k) (kept_of later) → k.state ≡ later.state
unset sets k later none made =
    let so = subst (λ (s : List ElementSet). HasSets s (kept_of k) (kept_of later)) none made in
    state_is k.state later.state (λ e low. sym (so.values e low))

pub no_sets : (sets : List ElementSet) → (length sets == 0) ≡ true → sets ≡ []
no_sets [] e = refl
no_sets (set ∷ sets) e = absurd (let z : length (set ∷ sets) ≡ 0 = eqb-true (length (set ∷ sets)) 0 e in omega arith)

pub not_named : {of : Option ℕ} (client : ℕ) → of ≡ None → of ≡ Some client → ⊥
not_named client none named = let wrong : (let o : Option ℕ = None in o) ≡ Some client = sym none ∙ named in cc

-- before sets are told or not
pub record IsExpected (sets : List ElementSet) (told : Bool) (hw later : Hardware) : Type 0 where
  pub state : later.state ≡ hw.state
  pub told_now : told ≡ true → later.of ≡ None
  pub untold : told ≡ false → later.of ≡ hw.of
  pub none : told ≡ false → sets ≡ []

-- no client is named, or none was told sets
abbrev IsStill : List ElementSet → Hardware → Hardware → Type 0
IsStill sets hw later = (later.of ≡ None) ⊎ ((sets ≡ []) × IsSameState hw later)

still : (sets : List ElementSet) (told : Bool) (hw later : Hardware) → IsExpected sets told hw later → IsStill sets hw later
still sets true hw later e = inl (e.told_now refl)
still sets false hw later e = inr (e.none refl, record { of = e.untold refl; state = e.state })

module _ (kept : List KeptClient) (client : ℕ) (k later : KeptClient) (sets : List ElementSet) (has : Bool) (hw told : Hardware)
    (at : slice_get kept client ≡ Some k) (before : IsStateOf hw.of hw.state kept) (expected : IsExpected sets has hw told)
    (made : HasSets sets (kept_of k) (kept_of later)) where
  -- where the client is named, the state is what is kept of it after its sets
  pub known_now : told.of ≡ Some client → told.state ≡ later.state
  known_now named = elim (still sets has hw told expected) [
    | inl none ↦ absurd (not_named client none named)
    | inr same ↦ same.1.state ∙ before.same client k (sym same.1.of ∙ named) at ∙ unset sets k later same.0 made
  ]

  told_of : (other : ℕ) (x : KeptClient) → told.of ≡ Some other → slice_get (slice_set kept client later) other ≡ Some x → told.state ≡ x.state
  told_of other x named here = elim (still sets has hw told expected) [
    | inl none ↦ absurd (not_named other none named)
    | inr same ↦ elim (cases_eq other client) [
      | inl one ↦
          let found : Some later ≡ Some x = sym (set_here kept client later (slice_get_within kept client k at)) ∙ subst (λ (n : ℕ). slice_get (slice_set kept client later) n ≡ Some x) one here in
          let is : later ≡ x = cc in
          known_now (subst (λ (n : ℕ). told.of ≡ Some n) one named) ∙ ap (λ (y : KeptClient). y.state) is
      | inr ne ↦ same.1.state ∙ before.same other x (sym same.1.of ∙ named) (sym (set_beside kept client other later ne) ∙ here)
    ]
  ]

  -- and so it is after the client's work
  pub switched_on : (done : Hardware) → IsSwitched client later.state told done → IsStateOf done.of done.state (slice_set kept client later)
  switched_on done (inl same) = record { same = λ other x named here. same.state ∙ told_of other x (sym same.of ∙ named) here }
  switched_on done (inr now) = record {
    same = λ other x named here.
        let one : client ≡ other = cc (now.of, named) in
        let found : Some later ≡ Some x =
        sym (set_here kept client later (slice_get_within kept client k at)) ∙ subst (λ (n : ℕ). slice_get (slice_set kept client later) n ≡ Some x) (sym one) here in
        let is : later ≡ x = cc in
        now.state ∙ ap (λ (y : KeptClient). y.state) is;
  }

-- after a block that is drawn without sets
pub switched_to : (kept : List KeptClient) (client : ℕ) (k : KeptClient) (hw : Hardware) → slice_get kept client ≡ Some k → IsStateNow client k.state hw → IsStateOf hw.of hw.state kept
switched_to kept client k hw at now = record {
  same = λ other x named here.
      let one : client ≡ other = cc (now.of, named) in
      let found : Some k ≡ Some x = sym at ∙ subst (λ (n : ℕ). slice_get kept n ≡ Some x) (sym one) here in
      let is : k ≡ x = cc in
      now.state ∙ ap (λ (y : KeptClient). y.state) is;
}
