use Rattle.rc_base.proofs.WithinLimits.{clients_within, counts_some}
use Rattle.render_core.proofs.Dues.{default_is}
use Rattle.render_core.proofs.due.default_of.Goals as goal

pub survey_scene-requires : goal.survey_scene-requires
survey_scene-requires g c = record { limits = c.requires.within; commands = c.requires.well.1; sizes = c.requires.well.0.shared }

pub turns_in_runs-requires : goal.turns_in_runs-requires
turns_in_runs-requires g c = c.in_ok-syncs.ensures.turns

pub returns-clause-default : goal.returns-clause-default
returns-clause-default g c =
    let scene = (g.S.SceneStore.scene c.args.scene.now) in
    let clients = clients_within scene c.requires.within in
    let surveyed = c.in_ok-syncs.ensures in
    let turns = c.in_ok-journal.ensures in
    default_is scene c.in_ok-syncs.field-0.syncs surveyed.syncs c.in_ok-journal.field-0.journal c.in_ok-journal.field-0.waiting turns.journal turns.waiting turns.at
    c.in_ok-syncs.field-0.faults surveyed.clients surveyed.faults c.in_ok-journal.field-0.order turns.order
    (c.scene_lists_are_well_formed.ensures scene clients.0 (counts_some scene c.requires.within)) clients.1 c.default_journal_is_maximal.ensures
    c.default_orders_are_permitted.ensures
