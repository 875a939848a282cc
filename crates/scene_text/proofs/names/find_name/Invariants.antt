use Rattle.std.proofs.Common.{◌≡◌, drop}
use Rattle.std.specs.List.{find}
use Rattle.scene_text.specs.Text.Read.{has_name}
use Rattle.scene_text.proofs.names.find_name.Given as goal

-- no name so far is spelled so
abbrev pub invariant-loop-name : goal.invariant-loop-name
invariant-loop-name l = find (has_name l.word) (drop l.name-index l.names) ≡ find (has_name l.word) l.names
