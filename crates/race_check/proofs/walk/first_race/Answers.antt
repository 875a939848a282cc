use Rattle.std.proofs.Common.{◌≤◌, length, [], subst, ap, arith}
use Rattle.rc_base.specs.Orders.Footprints.{footprint_of}
use Rattle.rc_base.specs.declared.scene.Decl.{Decl}
use Rattle.race_check.specs.Uses.{AreSized, AreTables}
use Rattle.stream_replay.proofs.ClientsInTurn.{first_clients}
use Rattle.race_check.proofs.OrdersAreChecked.{IsPassed, sized_first, passed_first, race_here, passed_more, all_passed}
use Rattle.race_check.proofs.ScenesInTurn.{next_name}
use Rattle.race_check.proofs.walk.first_race.Goals as goal

pub loop-name-init : goal.loop-name-init
loop-name-init g c =
    let s = g.S.SceneStore.scene c.args.scene.now in
    let e = c.in_ok-marks.ensures in
    let m = c.in_ok-marks.marks in
    let d = c.decl-decl.result.now in
    let f = footprint_of s in
    record {
      clients = first_clients s c.in_ok-clients.clients.items c.in_ok-clients.ensures;
      sized = subst (λ (d : Decl). AreSized d.width d.height m) c.decl-decl.ensures (sized_first d.width d.height m e.pixels e.writers e.readers);
      passed = subst (λ (d : Decl). IsPassed (AreTables f d.width d.height) c.args.syncs.now c.args.journal.now f [] m) c.decl-decl.ensures
          (passed_first c.args.syncs.now c.args.journal.now f d.width d.height m e.pixels e.writers e.readers);
    }

pub carry_name-requires-clause-next : goal.carry_name-requires-clause-next
carry_name-requires-clause-next g c =
    (next_name (g.S.SceneStore.scene c.args.scene.now) c.args.syncs.now c.args.journal.now c.args.order.now c.as_slice-name-items.result.now c.loop-name.clients.items c.loop-name.name-index c.requires.order.within c.requires.order.lists
    c.requires.order.permitted c.as_slice-name-items.ensures c.loop-name-test.true c.loop-name.invariant.clients).next

pub carry_name-requires-clause-sized : goal.carry_name-requires-clause-sized
carry_name-requires-clause-sized g c = c.loop-name.invariant.sized

pub loop-name-preserved : goal.loop-name-preserved
loop-name-preserved g c =
    let s = g.S.SceneStore.scene c.args.scene.now in
    let r = c.requires in
    let e = c.in_ok-found.ensures in
    let next = next_name s c.args.syncs.now c.args.journal.now c.args.order.now c.as_slice-name-items.result.now c.loop-name.clients.items c.loop-name.name-index r.order.within r.order.lists r.order.permitted
    c.as_slice-name-items.ensures c.loop-name-test.true c.loop-name.invariant.clients in
    record {
      clients = next.issued c.carry_name.new.clients.items e.clients;
      sized = e.sized;
      passed = passed_more (AreTables (footprint_of s) s.decl.width s.decl.height) c.args.syncs.now c.args.journal.now (footprint_of s) c.args.timelines.now.clients.items c.args.order.now
          c.loop-name.name-index _ c.loop-name.marks c.carry_name.new.marks c.in_ok-found.field-0 r.order.permitted r.exact next.at c.loop-name.invariant.passed e.carried c.in_default.is;
    }

pub returns-in-Some : goal.returns-in-Some
returns-in-Some g c =
    let s = g.S.SceneStore.scene c.args.scene.now in
    let r = c.requires in
    let next = next_name s c.args.syncs.now c.args.journal.now c.args.order.now c.as_slice-name-items.result.now c.loop-name.clients.items c.loop-name.name-index r.order.within r.order.lists r.order.permitted
    c.as_slice-name-items.ensures c.loop-name-test.true c.loop-name.invariant.clients in
    race_here (AreTables (footprint_of s) s.decl.width s.decl.height) c.args.syncs.now c.args.journal.now (footprint_of s) c.args.timelines.now.clients.items c.args.order.now c.loop-name.name-index _
    c.loop-name.marks c.carry_name.new.marks c.in_ok-found.field-0 r.order.permitted r.exact next.at c.loop-name.invariant.passed c.in_ok-found.ensures.carried c.in-Some.found c.in-Some.is

pub returns : goal.returns
returns g c =
    let s = g.S.SceneStore.scene c.args.scene.now in
    let past : length c.args.order.now ≤ c.loop-name.name-index = omega (arith, ap length c.as_slice-name-items.ensures, c.loop-name-test.false) in
    all_passed (AreTables (footprint_of s) s.decl.width s.decl.height) c.args.syncs.now c.args.journal.now (footprint_of s) c.args.timelines.now.clients.items c.args.order.now c.loop-name.name-index
    c.loop-name.marks past c.requires.order.permitted c.requires.exact c.loop-name.invariant.passed
