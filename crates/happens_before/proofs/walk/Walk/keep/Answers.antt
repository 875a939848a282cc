use Rattle.std.proofs.Common.{refl, arith, eq-eqb, ap, ◌∙◌, Some}
use Rattle.rc_base.specs.declared.sync.Entry.{Entry}
use Rattle.rc_base.specs.declared.sync.Entry.TheVariants.{Give, Take}
use Rattle.happens_before.proofs.WalkedEntries.{client_here}
use Rattle.happens_before.proofs.walk.Walk.keep.Goals as goal

pub give-requires-clause-client : goal.give-requires-clause-client
give-requires-clause-client c =
    let k = c.in-Give.client in
    let lt = client_here c.args.syncs.now c.args.journal.now c.args.self.now.read (Give c.in-Give.semaphore k) c.requires.along.lists c.requires.along.legal (c.requires.here ∙ ap (λ (e : Entry). Some e) c.in-Give.is) k (eq-eqb k k refl) in
    omega (arith, lt, c.requires.along.clients)

pub take-requires-clause-client : goal.take-requires-clause-client
take-requires-clause-client c =
    let k = c.in-Take.client in
    let lt = client_here c.args.syncs.now c.args.journal.now c.args.self.now.read (Take c.in-Take.semaphore k) c.requires.along.lists c.requires.along.legal (c.requires.here ∙ ap (λ (e : Entry). Some e) c.in-Take.is) k (eq-eqb k k refl) in
    omega (arith, lt, c.requires.along.clients)

pub give-requires-clause-next : goal.give-requires-clause-next
give-requires-clause-next c = record { along = c.requires.along; here = c.requires.here ∙ ap (λ (e : Entry). Some e) c.in-Give.is }

pub take-requires-clause-next : goal.take-requires-clause-next
take-requires-clause-next c = record { along = c.requires.along; here = c.requires.here ∙ ap (λ (e : Entry). Some e) c.in-Take.is }
