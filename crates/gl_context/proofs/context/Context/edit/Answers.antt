use Rattle.std.proofs.Common.{sym}
use Rattle.std.proofs.lemmas.Option.{unwrap_or-slice_get}
use Rattle.textures.proofs.Names.{at_name_below}
use Rattle.gl_context.proofs.context.Context.edit.Goals as goal

pub returns : goal.returns
returns c =
    rw (at_name_below c.args.self.now.edits c.args.name c.requires.low, unwrap_or-slice_get, sym c.self.view_is, c.from.ensures)
