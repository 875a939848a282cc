-- Turning a capability on or off sets its element's flag, and nothing else.
use Rattle.std.proofs.Common.{◌≡◌, ℕ, ◌==◌, Bool, true, false, refl, sym, ◌∙◌}
use Rattle.std.specs.Prelude.{slice_set, if◌then◌else◌}
use Rattle.rc_base.specs.Contexts.Elements.{values_of, capability_element}
use Rattle.rc_base.specs.Contexts.Issue.{with_capability}
use Rattle.rc_base.specs.declared.state.ElementValue.TheVariants as val
use Rattle.rc_base.specs.declared.state.State.{State}
use Rattle.element_table.specs.Kinds.{kind_of}
use Rattle.element_table.specs.declared.kind.ValueKind.TheVariants.{Flag}
use Rattle.element_table.proofs.SameValues.{values_are_state}

-- the state with every capability off
abbrev pub without_capabilities : State → State
without_capabilities s = record s { scissor_on = false; alpha_on = false; depth_on = false; blend_on = false; cull_on = false; texture_on = false }

-- Of two states, one is the other with a flag at an element that has one, which changes none but the flags of capabilities.
pub record IsTurned (s t : State) (e : ℕ) (on : Bool) : Type 0 where
  pub values : values_of t ≡ slice_set (values_of s) e (val.Flag on)
  pub rest : without_capabilities t ≡ without_capabilities s
  pub kind : kind_of e ≡ Flag

-- a choice of two
chosen : {s t u : State} {e f : ℕ} {on : Bool} (b : Bool) → IsTurned s t e on → IsTurned s u f on → IsTurned s (if b then t else u) (if b then e else f) on
chosen true first second = first
chosen false first second = second

pub capability_turned : (s : State) (k : ℕ) (on : Bool) → IsTurned s (with_capability s k on) (capability_element k) on
unfolding values_of kind_of
capability_turned s k on =
    chosen (k == 0) (record { values = refl; rest = refl; kind = refl })
    (chosen (k == 1) (record { values = refl; rest = refl; kind = refl })
    (chosen (k == 2) (record { values = refl; rest = refl; kind = refl })
    (chosen (k == 3) (record { values = refl; rest = refl; kind = refl })
    (chosen (k == 4) (record { values = refl; rest = refl; kind = refl })
    (record { values = refl; rest = refl; kind = refl })))))

pub is_turned : (s t : State) (k : ℕ) (on : Bool) → values_of t ≡ slice_set (values_of s) (capability_element k) (val.Flag on) → t ≡ with_capability s k on
is_turned s t k on made = values_are_state t (with_capability s k on) (made ∙ sym (capability_turned s k on).values)
