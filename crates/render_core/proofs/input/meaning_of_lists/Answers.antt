use Rattle.std.proofs.Common.{sym, subst}
use Rattle.run_words.specs.declared.job.Form.TheVariants.{Bytes}
use Rattle.render_core.specs.Refusals.{IsRefusedInput}
use Rattle.render_core.proofs.Inputs.{read_expanded, refused_expanded, refused_with_lists, well_expanded, within_expanded}
use Rattle.render_core.proofs.input.meaning_of_lists.Goals as goal

pub returns-in-Ok-clause-read : goal.returns-in-Ok-clause-read
returns-in-Ok-clause-read c = read_expanded c.args.input.now c.in-Ok.scene c.in-Ok.ensures.found.0 c.expanded.result c.expanded.ensures.means

pub returns-in-Ok-clause-well : goal.returns-in-Ok-clause-well
returns-in-Ok-clause-well c =
    well_expanded c.expansions_stay_in_range.ensures c.in-Ok.scene c.in-Ok.ensures.fields.0 c.in-Ok.ensures.fields.1 c.expanded.result c.expanded.ensures.means

pub returns-in-Ok-clause-within : goal.returns-in-Ok-clause-within
returns-in-Ok-clause-within c = within_expanded c.in-Ok.scene c.expanded.result c.expanded.ensures.means

pub returns-in-Ok-clause-refused : goal.returns-in-Ok-clause-refused
returns-in-Ok-clause-refused c =
    refused_expanded c.args.input.now c.requires.short c.in-Ok.scene c.in-Ok.ensures.found.0 c.expanded.result c.expanded.ensures.past

pub returns-in-Err-clause-refused : goal.returns-in-Err-clause-refused
returns-in-Err-clause-refused c =
    let r = c.read_list_scene in
    subst (IsRefusedInput Bytes c.args.input.now) (sym c.refusal_of.ensures)
    (refused_with_lists c.args.input.now c.requires.short c.requires.lists c.in-Err.fault r.result c.in-Err.is r.ensures.only r.ensures.limit_only
    r.ensures.malformed r.ensures.limit)
