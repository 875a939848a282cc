-- What is known of a client, and of a scene, when each command has been issued once.
use Rattle.std.specs.Prelude.{◌≡◌, ℕ, List, [], ◌∷◌, length, map, slice_index_or}
use Rattle.std.specs.List.{range_with_len}
use Rattle.rc_base.specs.Contexts.Issue.{context_after, faults_of}
use Rattle.rc_base.specs.Orders.Sync.{sync_row_of, waits_below}
use Rattle.rc_base.specs.declared.scene.Scene.{Scene}
use Rattle.rc_base.specs.declared.state.Fault.{Fault}
use Rattle.rc_base.specs.declared.sync.SyncRow.{SyncRow}
use Rattle.rc_base.specs.declared.sync.WaitAt.{WaitAt}
use Rattle.gl_context.specs.Counted.{counted}
use Rattle.gl_context.specs.declared.counting.EffectKind.{EffectKind}
use Rattle.gl_context.specs.declared.counting.EffectKind.TheVariants as kind
use Rattle.serial_render.specs.declared.client_survey.ClientSurvey.{ClientSurvey}

-- what a client's first n commands tell
abbrev pub survey_after : Scene → ℕ → ℕ → ClientSurvey
survey_after scene client n = record { context = counted (context_after scene client n); ops = waits_below scene client n }

-- the operation of synchronisation that a command of this kind is, at its place
abbrev pub waits_at : ℕ → EffectKind → List WaitAt
waits_at place kind.Quiet = []
waits_at place kind.Refused = []
waits_at place kind.Block = []
waits_at place kind.Clear = []
waits_at place kind.Shared = []
waits_at place (kind.Sync op) = record { place = place; op = op } ∷ []

-- each client's refused commands
abbrev pub AreFaultLists : Scene → List (List (ℕ × Fault)) → Type 0
AreFaultLists scene faults = (client : ℕ) → slice_index_or faults client [] ≡ faults_of scene client

-- each of a scene's first n clients has its operations and its refused commands
pub record AreSurveyed (scene : Scene) (n : ℕ) (rows : List SyncRow) (faults : List (List (ℕ × Fault))) : Type 0 where
  pub rows_are : rows ≡ map (sync_row_of scene) (range_with_len 0 n)
  pub faults_are : faults ≡ map (faults_of scene) (range_with_len 0 n)
