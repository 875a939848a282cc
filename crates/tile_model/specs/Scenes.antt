-- What is asked of a scene so that a tile can draw all that it is sent.
use Rattle.std.specs.Prelude.{◌≡◌, ℕ, true, length}
use Rattle.std.specs.List.{AllByRecursion}
use Rattle.rc_base.specs.Formats.Commands.{IsCommand}
use Rattle.rc_base.specs.Contexts.Faults.{is_name}
use Rattle.rc_base.specs.declared.scene.Decl.{Decl}
use Rattle.rc_base.specs.declared.scene.Scene.{Scene}
use Rattle.element_table.specs.Values.{has_sides}

-- the fields of all commands are in their ranges
abbrev pub IsInRange : Scene → Type 0
IsInRange scene = AllByRecursion (AllByRecursion IsCommand) scene.streams

-- the sides of each declared shared texture are above 0
abbrev pub HasSides : Decl → Type 0
HasSides d = (name : ℕ) → is_name name (length d.shared) ≡ true → has_sides d name ≡ true
