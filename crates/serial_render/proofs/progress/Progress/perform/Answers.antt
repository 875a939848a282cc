use Rattle.std.proofs.Common.{◌+◌, ◌<◌, set, ◌∙◌, sym, subst, refl, arith}
use Rattle.rc_base.specs.Orders.Sync.{client_count}
use Rattle.serial_render.specs.declared.progress.Progress.{Progress}
use Rattle.serial_render.proofs.TurnsOfClients.{ArePerformed, performed_more, performed_skip}
use Rattle.serial_render.proofs.progress.Progress.perform.Goals as goal
use Rattle.serial_render.proofs.progress.Progress.perform.Goals.{then-is_wanted+in_ok-add, else-is_wanted}

pub loop-client-preserved : goal.loop-client-preserved
loop-client-preserved c =
    let s = c.args.syncs.now in
    let p = c.args.self.now in
    let client = c.loop-client.client in
    let q = c.loop-client.self in
    let lt : client < client_count s = omega (arith, c.loop-client-test.true, c.len-client-end.ensures) in
    elim c.if-is_wanted.branch [
      | then-is_wanted+in_ok-add w ↦
          let behind = w.place_behind-behind.result in
          let r : Progress = record { book = q.book; order = w.add.new.self; arrived = q.arrived; issued = set q.issued client behind } in
          subst (ArePerformed s p (client + 1)) (sym w.self-is)
          (performed_more s p client behind q r lt (omega (arith, lt, c.requires.clients)) c.loop-client.invariant (sym c.is_wanted.ensures ∙ w.if-is_wanted.true)
          w.place_behind-behind.ensures refl refl refl w.in_ok-add.ensures)
      | else-is_wanted w ↦
          subst (ArePerformed s p (client + 1)) (sym w.self-is) (performed_skip s p client q c.loop-client.invariant (sym c.is_wanted.ensures ∙ w.if-is_wanted.false))
    ]
