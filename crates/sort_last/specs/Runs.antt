-- The search for the first command that keeps a scene from being drawn client by client, and why such a scene has no frames.
use Rattle.std.specs.Prelude.{◌≡◌, ℕ, ◌<◌, ◌==◌, ◌&&◌, ◌||◌, not, Bool, true, false, List, length, slice_index_or, IfOk, Option, Some, None}
use Rattle.std.specs.declared.result.Result.{Result}
use Rattle.rc_base.specs.Contexts.Issue.{faults_of}
use Rattle.rc_base.specs.Drawing.Serial.{is_swap_effect}
use Rattle.rc_base.specs.Drawing.Images.{frame_images}
use Rattle.rc_base.specs.Orders.Order.{default_order}
use Rattle.rc_base.specs.Orders.Sync.{sync_row_of, sync_lists_of}
use Rattle.rc_base.specs.declared.image.Image.{Image}
use Rattle.rc_base.specs.declared.out_of_memory.OutOfMemory.{OutOfMemory}
use Rattle.rc_base.specs.declared.scene.Scene.{Scene}
use Rattle.rc_base.specs.declared.state.Effect.TheVariants as eff
use Rattle.rc_base.specs.declared.sync.Entry.{Entry}
use Rattle.rc_base.specs.declared.sync.Name.{Name}
use Rattle.rc_base.specs.declared.sync.SyncLists.{SyncLists}
use Rattle.gl_context.specs.declared.counting.EffectKind.{EffectKind}
use Rattle.gl_context.specs.declared.counting.EffectKind.TheVariants as kind
use Rattle.order_model.specs.Report.{frame_count}
use Rattle.sort_last.specs.Offends.{offends, IsFirstOffence}
use Rattle.sort_last.specs.declared.last.LastFault.{LastFault}
use Rattle.sort_last.specs.declared.last.LastFault.TheVariants as fault
use Rattle.sort_last.specs.declared.offence.SurveyedClient.{SurveyedClient}

-- of one client: the place of its first command that offends
abbrev pub IsFirstIn : Scene → ℕ → Option ℕ → Type 0
IsFirstIn scene client None = (place : ℕ) → offends scene client place ≡ false
IsFirstIn scene client (Some p) = (offends scene client p ≡ true) × ((place : ℕ) → place < p → offends scene client place ≡ false)

-- the same among its first n commands
abbrev pub IsFirstBelow : Scene → ℕ → ℕ → Option ℕ → Type 0
IsFirstBelow scene client n None = (place : ℕ) → place < n → offends scene client place ≡ false
IsFirstBelow scene client n (Some p) = (offends scene client p ≡ true) × ((place : ℕ) → place < p → offends scene client place ≡ false)

-- of a scene's first n clients: the first command that offends
abbrev pub IsFirstOf : Scene → ℕ → Option Name → Type 0
IsFirstOf scene n None = (client place : ℕ) → client < n → offends scene client place ≡ false
IsFirstOf scene n (Some name) = IsFirstOffence scene name

-- a place that was found, or else another one, where its command offends
abbrev pub place_or : Option ℕ → ℕ → Bool → Option ℕ
place_or (Some p) place offending = Some p
place_or None place true = Some place
place_or None place false = None

-- a name that was found, or else that of a client's place
abbrev pub name_or : Option Name → ℕ → Option ℕ → Option Name
name_or (Some n) client first = Some n
name_or None client None = None
name_or None client (Some p) = Some (record { client = client; place = p })

-- a client's operations of synchronisation, its refused commands, and the place of its first command that offends
pub record IsSurveyedClient (scene : Scene) (client : ℕ) (s : SurveyedClient) : Type 0 where
  pub row_is : s.row ≡ sync_row_of scene client
  pub faults_are : s.faults ≡ faults_of scene client
  pub first_is : IsFirstIn scene client s.first

-- those of each client, where there was memory for them
pub record AreSurveyedApart (scene : Scene) (found : List (Result SurveyedClient OutOfMemory)) : Type 0 where
  pub count : length found ≡ length scene.streams
  pub each : (client : ℕ) (f : Result SurveyedClient OutOfMemory) → client < length scene.streams → IfOk (slice_index_or found client f) (λ s. IsSurveyedClient scene client s)

-- whether a command with this kind of effect offends, as `is_offence` of the effect
abbrev pub kind_offends : Bool → ℕ → Bool → EffectKind → Bool
kind_offends keeps client drawn kind.Quiet = false
kind_offends keeps client drawn kind.Refused = false
kind_offends keeps client drawn kind.Block = not keeps
kind_offends keeps client drawn kind.Clear = not (client == 0) || drawn
kind_offends keeps client drawn kind.Shared = true
kind_offends keeps client drawn (kind.Sync op) = not (is_swap_effect (eff.Sync op))

-- whether a client has drawn a block in its frame after one more command, with this kind of effect
abbrev pub kind_drawn : EffectKind → Bool → Bool
kind_drawn kind.Quiet drawn = drawn
kind_drawn kind.Refused drawn = drawn
kind_drawn kind.Block drawn = true
kind_drawn kind.Clear drawn = drawn
kind_drawn kind.Shared drawn = drawn
kind_drawn (kind.Sync op) drawn = not (is_swap_effect (eff.Sync op)) && drawn

-- the frames of a journal's default order
abbrev pub frames_by : Scene → SyncLists → List Entry → List Image
frames_by scene syncs journal = frame_images scene (default_order syncs journal) (frame_count journal)

-- those that the serial renderer shows in the default order
abbrev pub serial_frames : Scene → List Entry → List Image
serial_frames scene journal = frames_by scene (sync_lists_of scene) journal

-- a command offends, and this is the first one; want of memory is free
abbrev pub IsLastFault : Scene → LastFault → Type 0
IsLastFault scene (fault.NotLast client place) = IsFirstOffence scene (record { client = client; place = place })
IsLastFault scene fault.OutOfMemory = Unit {0}
