use Rattle.sync_manager.proofs.ManagerSteps.{noted_entry, noted_no_more}
use Rattle.sync_manager.proofs.manager.ManagerCore.note_delivered.Goals as goal

pub returns-in-NoMore : goal.returns-in-NoMore
returns-in-NoMore c = noted_no_more c.args.self.now _ c.args.tile c.args.grant c.in-NoMore.is c.requires

pub returns-in-Entry : goal.returns-in-Entry
returns-in-Entry c = noted_entry c.args.self.now _ c.args.tile c.args.grant c.in-Entry.field-0 c.in-Entry.is c.requires
