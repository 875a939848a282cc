-- The forms in which stored scenes tell their commands.
use Rattle.std.specs.Prelude.{◌≡◌, ℕ, Bool, true, false, Some}
use Rattle.std.specs.Option.{option_map_or}
use Rattle.rc_base.specs.Contexts.Issue.{command_at}
use Rattle.rc_base.specs.declared.command.Command.{Command}
use Rattle.rc_base.specs.declared.command.Command.TheVariants as cmd
use Rattle.rc_base.specs.declared.scene.Scene.{Scene}
use Rattle.command_store.specs.declared.form.CommandForm.{CommandForm}
use Rattle.command_store.specs.declared.form.CommandForm.TheVariants as form

-- a command that stands in blocks, or is the first or the last of one
abbrev pub stands_in_blocks : Command → Bool
stands_in_blocks (cmd.Begin kind) = true
stands_in_blocks cmd.End = true
stands_in_blocks (cmd.Vertex p) = true
stands_in_blocks (cmd.Color c) = true
stands_in_blocks (cmd.TexCoord s t) = true
stands_in_blocks other = false

-- the form has all of a command that stands in blocks, and of another one tells that it is none of these
abbrev pub IsWholeForm : CommandForm → Command → Type 0
IsWholeForm (form.Begin mode) c = c ≡ cmd.Begin mode.now
IsWholeForm form.End c = c ≡ cmd.End
IsWholeForm (form.Vertex pos) c = c ≡ cmd.Vertex pos.now
IsWholeForm (form.Color color) c = c ≡ cmd.Color color.now
IsWholeForm (form.TexCoord s t) c = c ≡ cmd.TexCoord s.now t.now
IsWholeForm (form.Other command) c = stands_in_blocks c ≡ false

-- the same of the command of a client at a place
abbrev pub IsFormAt : Scene → ℕ → ℕ → CommandForm → Type 0
IsFormAt scene client place (form.Begin mode) = command_at scene client place ≡ Some (cmd.Begin mode.now)
IsFormAt scene client place form.End = command_at scene client place ≡ Some cmd.End
IsFormAt scene client place (form.Vertex pos) = command_at scene client place ≡ Some (cmd.Vertex pos.now)
IsFormAt scene client place (form.Color color) = command_at scene client place ≡ Some (cmd.Color color.now)
IsFormAt scene client place (form.TexCoord s t) = command_at scene client place ≡ Some (cmd.TexCoord s.now t.now)
IsFormAt scene client place (form.Other command) = option_map_or stands_in_blocks (command_at scene client place) false ≡ false
