-- Laws on the spelling of scenes.
use Rattle.std.specs.Prelude.{◌≡◌, ◌⊎◌, ℕ, List}
use Rattle.std.specs.List.{AllByRecursion}
use Rattle.rc_base.specs.declared.scene.Scene.{Scene}
use Rattle.rc_base.specs.declared.scene.SceneKind.{SceneKind}
use Rattle.rc_base.specs.Formats.Commands.{AreBytes, IsCommand}
use Rattle.rc_base.specs.Formats.Spelling.{IsDecl, SpellsScene}
use Rattle.scene_file.specs.declared.list_scene.ListScene.{ListScene}
use Rattle.scene_file.specs.Faults.{FailsAsScene, FailsAsListScene, SpellsListScene}
use Rattle.scene_file.specs.Written.{written, IsWritable}

-- bytes spell one scene at most
abbrev pub AreOne : {S : Type 0} → (List ℕ → S → Type 0) → Type 0
AreOne {S = S} Spells = (bytes : List ℕ) (one other : S) → Spells bytes one → Spells bytes other → one ≡ other

-- bytes with a fault spell no scene
abbrev pub FaultsSpellNone : {S : Type 0} → (List ℕ → S → Type 0) → (List ℕ → SceneKind → ℕ → Type 0) → Type 0
FaultsSpellNone {S = S} Spells Fails = (bytes : List ℕ) (kind : SceneKind) (at : ℕ) (scene : S) → Fails bytes kind at → Spells bytes scene → ⊥

-- bytes have one fault at most, at one place
abbrev pub AreOneFault : (List ℕ → SceneKind → ℕ → Type 0) → Type 0
AreOneFault Fails = (bytes : List ℕ) (kind other : SceneKind) (at place : ℕ) → Fails bytes kind at → Fails bytes other place → (kind ≡ other) × (at ≡ place)

-- bytes spell a scene, or they have a fault
abbrev pub SpellOrFail : {S : Type 0} → (List ℕ → S → Type 0) → (List ℕ → SceneKind → ℕ → Type 0) → Type 0
SpellOrFail {S = S} Spells Fails =
    (bytes : List ℕ) → AreBytes bytes → ((scene : S) × Spells bytes scene) ⊎ ((kind : SceneKind) × (at : ℕ) × Fails bytes kind at)

-- the four of scenes of the commands of the table
abbrev pub ScenesAreOne : Type 0
ScenesAreOne = AreOne SpellsScene

abbrev pub FaultsSpellNoScene : Type 0
FaultsSpellNoScene = FaultsSpellNone SpellsScene FailsAsScene

abbrev pub SceneFaultsAreOne : Type 0
SceneFaultsAreOne = AreOneFault FailsAsScene

abbrev pub ScenesOrFaults : Type 0
ScenesOrFaults = SpellOrFail SpellsScene FailsAsScene

-- and of scenes with call lists
abbrev pub ListScenesAreOne : Type 0
ListScenesAreOne = AreOne SpellsListScene

abbrev pub FaultsSpellNoListScene : Type 0
FaultsSpellNoListScene = FaultsSpellNone SpellsListScene FailsAsListScene

abbrev pub ListSceneFaultsAreOne : Type 0
ListSceneFaultsAreOne = AreOneFault FailsAsListScene

abbrev pub ListScenesOrFaults : Type 0
ListScenesOrFaults = SpellOrFail SpellsListScene FailsAsListScene

-- no bytes spell scenes of both
abbrev pub FormsAreApart : Type 0
FormsAreApart = (bytes : List ℕ) (plain : Scene) (lists : ListScene) → SpellsScene bytes plain → SpellsListScene bytes lists → ⊥

-- What is written of a scene whose fields are in their ranges spells it, so it is read again.
abbrev pub WrittenIsRead : Type 0
WrittenIsRead = (scene : Scene) → IsWritable scene → IsDecl scene.decl → AllByRecursion (AllByRecursion IsCommand) scene.streams → SpellsScene (written scene) scene
