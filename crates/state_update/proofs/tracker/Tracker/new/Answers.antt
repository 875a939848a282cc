use Rattle.std.proofs.Common.{List, sym, subst, ◌∙◌, ap, replicate}
use Rattle.rc_base.specs.Contexts.Elements.{default_value}
use Rattle.state_update.specs.declared.told.Told.{Told}
use Rattle.state_update.specs.Knowledge.{Knows}
use Rattle.state_update.proofs.Knowing.{knows_at_first}
use Rattle.state_update.proofs.tracker.Tracker.new.Goals as goal

pub returns-clause-told : goal.returns-clause-told
returns-clause-told c = λ tile lt.
    subst (λ (l : List Told). Knows (record { told = l; bits = c.new.result }) tile (default_value c.args.decl.now))
    (sym (c.in_ok-many.ensures ∙ ap (replicate c.args.tiles) c.first-first.ensures))
    (knows_at_first c.args.decl.now c.args.tiles tile c.new.result lt)
