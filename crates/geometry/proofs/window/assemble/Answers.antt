use Rattle.std.proofs.Common.{◌∙◌, sym}
use Rattle.std.proofs.lemmas.Bool.{not-false}
use Rattle.geometry.proofs.Oriented.{not_flat}
use Rattle.geometry.proofs.window.assemble.Goals as goal

pub turned-requires-clause-apart : goal.turned-requires-clause-apart
turned-requires-clause-apart c = not_flat c.args.state.now _ (not-false _ (sym c.is_dropped.ensures ∙ c.if-is_dropped.false))
