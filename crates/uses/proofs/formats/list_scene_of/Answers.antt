use Rattle.std.proofs.Common.{◌≡◌, ℕ, ◌<◌, List, [], ◌∷◌, length, None, Result, Ok, Err, refl, sym, ap, ◌∙◌}
use Rattle.std.specs.Prelude.{IfOk, IsErr, sum_by}
use Rattle.rc_base.specs.Formats.Limits.{first_outside, quantity, read_limit}
use Rattle.scene_file.specs.Faults.{list_limit_of, SpellsListScene}
use Rattle.scene_file.specs.Judging.{judge_decl}
use Rattle.scene_file.specs.Laws.{ListScenesAreOne}
use Rattle.scene_file.specs.declared.fault.SceneFault.{SceneFault}
use Rattle.scene_file.specs.declared.list_scene.ListScene.{ListScene}
use Rattle.scene_file.proofs.LimitsByParts.{many_commands, none_first, parts_with}
use Rattle.uses.proofs.formats.list_scene_of.Goals as goal

beyond : (s : ListScene) → 1048576 < sum_by length s.streams → list_limit_of s ≡ None → ⊥
unfolding read_limit
beyond s many within =
    let commands : ℕ = sum_by length s.streams in
    let last = first_outside (quantity 11 commands 0 1048576 ∷ []) in
    let none = (none_first (judge_decl s.decl (length s.streams)) last (sym (parts_with s.decl (length s.streams) commands []) ∙ within)).1 in
    let told = many_commands commands [] many in
    cc

refused : (bytes : List ℕ) (r : Result ListScene SceneFault) (s : ListScene) → IfOk r (λ x. SpellsListScene bytes x × (list_limit_of x ≡ None))
    → ListScenesAreOne → SpellsListScene bytes s → 1048576 < sum_by length s.streams → IsErr r
refused bytes (Ok x) s found one spells many = absurd (beyond s many (ap list_limit_of (sym (one bytes x s found.0 spells)) ∙ found.1))
refused bytes (Err e) s found one spells many = refl

pub returns : goal.returns
returns c s spells many = refused _ c.read_list_scene.result s c.read_list_scene.ensures.found c.bytes_spell_one_list_scene.ensures spells many
