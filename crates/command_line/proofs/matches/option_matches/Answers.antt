use Rattle.std.proofs.Common.{◌≡◌, ◌∙◌, true, subst, ap, map, string_bytes, codes}
use Rattle.clap.specs.Words.{app_of, is_simple, first_of, one_of, found_of, rows_of}
use Rattle.clap.specs.Simple.{matches_of}
use Rattle.clap.specs.Kinds.{HasKind}
use Rattle.clap.specs.Faults.{is_simple_and_free, fault_of}
use Rattle.clap.proofs.WalkLemmas.{first_value-rows, one_text-rows}
use Rattle.command_line.specs.App.{line_app}
use Rattle.command_line.proofs.ClapWords.{simple, simple_and_free}
use Rattle.command_line.proofs.ClapLine.{taken, only_memory}
use Rattle.command_line.proofs.ValuesRead.{map_ok, map_err}
use Rattle.command_line.proofs.matches.option_matches.Goals as goal

pub returns-clause-ok : goal.returns-clause-ok
returns-clause-ok c = λ ss are.
    let app_is : app_of c.in_ok-option_command.field-0 ≡ line_app = c.in_ok-option_command.ensures in
    let t = taken are in
    map_ok c.try_get_matches_from.result c.try_get_matches_from.ensures.matches (λ m has.
    let rows : rows_of (found_of m) ≡ matches_of line_app (map string_bytes c.args.words.now)
    = (has (ap is_simple app_is ∙ simple)).0 ∙ ap (λ a. matches_of a (map string_bytes c.args.words.now)) app_is in
    record {
      tiles = first_value-rows (found_of m) (codes "tiles") ∙ (ap (first_of (codes "tiles")) rows ∙ t.tiles);
      depth = first_value-rows (found_of m) (codes "depth") ∙ (ap (first_of (codes "depth")) rows ∙ t.depth);
      seed = first_value-rows (found_of m) (codes "seed") ∙ (ap (first_of (codes "seed")) rows ∙ t.seed);
      size = first_value-rows (found_of m) (codes "size") ∙ (ap (first_of (codes "size")) rows ∙ t.size);
      order = one_text-rows (found_of m) (codes "order") ∙ (ap (one_of (codes "order")) rows ∙ t.order);
    })

pub returns-clause-err : goal.returns-clause-err
returns-clause-err c = λ ss are.
    let app_is : app_of c.in_ok-option_command.field-0 ≡ line_app = c.in_ok-option_command.ensures in
    let free : is_simple_and_free (app_of c.in_ok-option_command.field-0) ≡ true = ap is_simple_and_free app_is ∙ simple_and_free in
    map_err _ c.try_get_matches_from.result (c.try_get_matches_from.ensures.kinds free) (λ e kinds.
    only_memory e are (subst (λ a. HasKind (fault_of a (map string_bytes c.args.words.now)) e) app_is kinds))
