-- Scenes whose clients may be drawn apart.
use Rattle.std.specs.Prelude.{◌≡◌, ℕ, ◌<◌, ◌≤◌, List, [], ◌∷◌, length, Option}
use Rattle.std.specs.Coded.{Unit-prop, ×_prop}
use Rattle.std.proofs.Props.{props}
use Rattle.rc_base.specs.Formats.Commands.{Kind, Value, IsValue, Fields, AreValues, kinds_of, fields_of, opcode_of, IsCommand}
use Rattle.rc_base.specs.Formats.Commands.Kind.{Byte, Half, Word, Code, Bytes, Words, Image}
use Rattle.rc_base.specs.Formats.Within.{IsWithin}
use Rattle.rc_base.specs.Pictures.{Picture}
use Rattle.rc_base.specs.Drawing.Serial.{blank_textures}
use Rattle.rc_base.specs.Orders.Sync.{sync_row_of, sync_lists_of}
use Rattle.rc_base.specs.declared.command.Command.{Command}
use Rattle.rc_base.specs.declared.scene.Scene.{Scene}
use Rattle.rc_base.specs.declared.sync.SyncLists.{SyncLists}
use Rattle.textures.specs.Stores.{HasTexels}
use Rattle.sort_last.specs.Offends.{IsComposable}

-- the scene's clients may be drawn apart, with shared textures that nothing has written
pub record IsReady (scene : Scene) (shared : List (Option Picture)) : Type 0 where
  pub within : IsWithin scene
  pub blank : HasTexels scene.decl.shared (blank_textures scene) shared
  pub composable : IsComposable scene

-- the lists are those of the scene's streams
abbrev pub AreListsOf : Scene → SyncLists → Type 0
AreListsOf scene syncs = syncs ≡ sync_lists_of scene

-- each client has so many frames
abbrev pub HaveFrames : Scene → ℕ → Type 0
HaveFrames scene count = (client : ℕ) → client < length scene.streams → count ≤ length (sync_row_of scene client).ops

-- ---- each of them has one proof at most

IsValue-prop : (k : Kind) (x : Value k) → IsProp (IsValue k x)
IsValue-prop Byte n = Prim.hlevel props
IsValue-prop Half n = Prim.hlevel props
IsValue-prop Word z = Prim.hlevel props
IsValue-prop (Code count) n = Prim.hlevel props
IsValue-prop (Bytes count) ns = Prim.hlevel props
IsValue-prop (Words count) zs = Prim.hlevel props
IsValue-prop Image p = Prim.hlevel props

AreValues-prop : (ks : List Kind) (x : Fields ks) → IsProp (AreValues ks x)
AreValues-prop [] x = Unit-prop
AreValues-prop (k ∷ ks) x = ×_prop (IsValue-prop k x.0) (AreValues-prop ks x.1)

IsCommand-prop : (c : Command) → IsProp (IsCommand c)
IsCommand-prop c = AreValues-prop (kinds_of (opcode_of c)) (fields_of c)

IsWithin-prop : (scene : Scene) → IsProp (IsWithin scene)
IsWithin-prop scene = Prim.hlevel (props, IsCommand-prop)

pub IsReady-prop : (scene : Scene) (shared : List (Option Picture)) → IsProp (IsReady scene shared)
IsReady-prop scene shared = Prim.hlevel (props, IsWithin-prop)

pub AreListsOf-prop : (scene : Scene) (syncs : SyncLists) → IsProp (AreListsOf scene syncs)
AreListsOf-prop scene syncs = Prim.hlevel props
