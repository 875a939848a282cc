-- Laws on texts that spell scenes.
use Rattle.std.specs.Prelude.{◌≡◌, ℕ, List, None}
use Rattle.rc_base.specs.declared.scene.Scene.{Scene}
use Rattle.std.specs.List.{AllByRecursion}
use Rattle.packet_bytes.specs.Texels.{IsWhole}
use Rattle.rc_base.specs.Formats.Commands.{IsCommand}
use Rattle.rc_base.specs.Formats.Spelling.{IsDecl, IsVersion}
use Rattle.scene_text.specs.Text.Printed.{printed}
use Rattle.scene_text.specs.Text.Read.{SpellsText}
use Rattle.scene_text.specs.Text.Faults.{text_fault}

-- no text spells two scenes
abbrev pub OneScene : Type 0
OneScene = (text : List ℕ) (s t : Scene) → SpellsText text s → SpellsText text t → s ≡ t

-- a text that spells a scene has no faulty line
abbrev pub NoFault : Type 0
NoFault = (text : List ℕ) (s : Scene) → SpellsText text s → text_fault text ≡ None

-- and a text without a faulty line spells a scene
abbrev pub NoFaultSpells : Type 0
NoFaultSpells = (text : List ℕ) → text_fault text ≡ None → (s : Scene) × SpellsText text s

-- the printed text of a scene whose fields are in their ranges spells that scene
abbrev pub PrintedSpells : Type 0
PrintedSpells = (s : Scene) → IsDecl s.decl → AllByRecursion (AllByRecursion IsCommand) s.streams → SpellsText (printed s) s

-- a text that spells a scene says that it is of version 1 or 2, and has four bytes for each texel of its pictures
abbrev pub WholePictures : Type 0
WholePictures = (text : List ℕ) (s : Scene) → SpellsText text s → IsVersion s.decl.version × AllByRecursion (AllByRecursion IsWhole) s.streams
