use Rattle.std.proofs.Common.{◌∙◌, List, [], ◌∷◌, ◌++◌, ◌+◌, ap, sym, subst, arith}
use Rattle.std.proofs.lemmas.Grind.{common_steps}
use Rattle.rc_base.specs.declared.command.Command.{Command}
use Rattle.command_store.specs.Stores.{commands_in, AreStored}
use Rattle.command_store.specs.declared.command.StoredCommand.{StoredCommand}
use Rattle.command_store.proofs.Storing.{commands_more, stored_more}
use Rattle.command_store.proofs.store.CommandStore.of.Goals as goal

pub loop-command-preserved : goal.loop-command-preserved
loop-command-preserved c =
    let old = c.loop-command.others.items in
    let now = c.kept_form.new.others.items in
    let kept = c.loop-command.kept.items in
    let s = c.in_ok-kept_form.field-0 in
    let h = c.loop-command.invariant in
    let grew = c.kept_form.ensures.grown in
    let is = c.in_ok-kept_form.ensures.stored in
    let items = c.push_reserved.ensures.items in
    record {
      commands =
          ap (λ (ks : List StoredCommand). commands_in now ks) items ∙ commands_more old now kept s c.command-item.result grew h.stored is
          ∙ ap (λ (cs : List Command). cs ++ c.command-item.result ∷ []) h.commands
          ∙ (grind (arith, common_steps));
      stored = subst (λ (ks : List StoredCommand). AreStored now ks) (sym items) (stored_more old now kept s c.command-item.result grew h.stored is);
      len = c.push_reserved.ensures.len ∙ ap (λ n. n + 1) h.len;
      room = (let room = h.room in let same = c.push_reserved.ensures.capacity in omega (arith, room, same));
    }
