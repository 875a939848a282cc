use Rattle.std.specs.Option.{is_some}
use Rattle.std.proofs.lemmas.Bool.{false_from_ne_true}
use Rattle.uses.proofs.cores.stuck_at.Goals as goal

pub returns : goal.returns
returns c e syncs arrived stands lawful =
    false_from_ne_true (is_some c.stuck.result) (λ some. ((c.stuck.ensures.exact syncs arrived stands).0 some).over.over e lawful)
