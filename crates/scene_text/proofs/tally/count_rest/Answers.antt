use Rattle.std.proofs.Common.{◌∙◌, ap}
use Rattle.scene_text.specs.Tally.{clients_by, commands_by}
use Rattle.scene_text.proofs.RestCounted.{counted_more}
use Rattle.scene_text.proofs.tally.count_rest.Goals as goal

pub loop-rest-preserved : goal.loop-rest-preserved
loop-rest-preserved c =
    counted_more c.args.text.now c.args.before c.loop-rest.line c.loop-rest.rest.now c.first_line.result.0.now c.first_line.result.1.now
    (record { clients = c.loop-rest.clients; commands = c.loop-rest.commands }) c.clients_by-clients.result c.commands_by-commands.result
    c.attended_draft-draft.result c.read_line.new.draft c.loop-rest.invariant c.first_line.ensures.first c.first_line.ensures.shorter
    c.attended_draft-draft.ensures.rank c.in-Ok.ensures (c.clients_by-clients.ensures.value ∙ ap clients_by c.line_name-name.ensures) (c.commands_by-commands.ensures.value ∙ ap commands_by c.line_name-name.ensures)
    c.clients_by-clients.ensures.small c.commands_by-commands.ensures.small
