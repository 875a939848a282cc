use Rattle.std.proofs.Common.{◌≢◌, ◌+◌, ◌≤◌, arith, sym, subst, rules}
use Rattle.std.specs.Prelude.{slice_index}
use Rattle.race_check.specs.Finds.{IsFirst, OrBefore}
use Rattle.race_check.proofs.FoundFirst.{IsFoundBelow, below_all, below_found, below_none, below_past}
use Rattle.race_check.proofs.found.look_at_each.Goals as goal
use Rattle.race_check.proofs.found.look_at_each.Goals.{then-client-own+then-clock-client, else-client-own, else-client-own-via-then-client-own+else-clock-client, else-client-own-via-else-client-own}

pub loop-client-init : goal.loop-client-init
loop-client-init c = below_none c.args.own c.args.clock.now c.args.cell.now c.args.spot c.args.best

pub loop-client-preserved : goal.loop-client-preserved
loop-client-preserved c =
    let own = c.args.own in
    let clock = c.args.clock.now in
    let cell = c.args.cell.now in
    let spot = c.args.spot in
    let k = c.loop-client.client in
    let best = c.loop-client.best in
    let first = c.args.best in
    let inv = c.loop-client.invariant in
    elim c.if-client-own.branch [
      | then-client-own+then-clock-client w ↦
          subst (IsFirst (OrBefore first (IsFoundBelow (k + 1) own clock cell spot))) (sym w.best-is)
          (below_found k own clock cell spot first best _ w.if-client-own.true w.if-clock-client.true inv w.offer-best.ensures)
      | else-client-own w ↦
          let none : k ≢ own → slice_index cell k ≤ slice_index clock k = λ ne. elim w.else-client-own.branch [
            | else-client-own-via-then-client-own+else-clock-client v ↦ v.if-clock-client.false
            | else-client-own-via-else-client-own v ↦ absurd (ne v.if-client-own.false)
          ] in
          subst (IsFirst (OrBefore first (IsFoundBelow (k + 1) own clock cell spot))) (sym w.best-is) (below_past k own clock cell spot first best none inv)
    ]

pub returns : goal.returns
returns c = below_all c.loop-client.client c.args.own c.args.clock.now c.args.cell.now c.args.spot c.args.best c.loop-client.best (search rules) (omega arith) c.loop-client.invariant
