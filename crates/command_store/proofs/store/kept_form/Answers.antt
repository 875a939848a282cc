use Rattle.std.proofs.Common.{[], ◌∷◌, arith}
use Rattle.std.proofs.lemmas.Grind.{common_steps}
use Rattle.command_store.proofs.Storing.{other_stored}
use Rattle.command_store.proofs.store.kept_form.Goals as goal

pub returns-in_ok-push-in_default : goal.returns-in_ok-push-in_default
returns-in_ok-push-in_default c =
    let items = c.in_ok-push-in_default.ensures.items in
    record {
      grown = (c.in_ok-copy_of-in_default.field-0 ∷ [], items, omega arith);
      stored = other_stored c.args.others.now.items c.push.new.self.items c.args.command.now c.in_ok-copy_of-in_default.field-0 c.len-number.result items
          (grind (arith, common_steps)) c.in_ok-copy_of-in_default.ensures;
    }
