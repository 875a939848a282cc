use Rattle.std.proofs.Common.{◌∙◌, List, [], ◌∷◌, ◌++◌, ap, sym, subst}
use Rattle.command_store.specs.Stores.{commands_in, AreStored, Written}
use Rattle.command_store.specs.declared.command.StoredCommand.{StoredCommand}
use Rattle.command_store.proofs.Storing.{commands_more, stored_more}
use Rattle.command_store.proofs.writer.StoreWriter.push.Goals as goal

pub invariant_of-self-2 : goal.invariant_of-self-2
invariant_of-self-2 c =
    let old = c.self.inside.others.items in
    let now = c.form_of.new.others.items in
    subst (λ (ks : List StoredCommand). AreStored now ks) (sym c.push_reserved.ensures.items)
    (stored_more old now c.self.inside.kept.items c.in_ok-stored.stored c.args.command c.form_of.ensures.grown c.self.invariant c.in_ok-stored.ensures.stored)

pub returns-clause-commands : goal.returns-clause-commands
returns-clause-commands c =
    let old = c.self.inside.others.items in
    let now = c.form_of.new.others.items in
    ap (λ (ks : List StoredCommand). commands_in now ks) c.push_reserved.ensures.items
    ∙ commands_more old now c.self.inside.kept.items c.in_ok-stored.stored c.args.command c.form_of.ensures.grown c.self.invariant c.in_ok-stored.ensures.stored
    ∙ ap (λ (w : Written). w.commands ++ c.args.command ∷ []) c.self.view_is
