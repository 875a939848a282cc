use Rattle.std.proofs.Common.{◌≤◌, length, [], refl, subst, ap, arith}
use Rattle.rc_base.specs.Orders.Footprints.{footprint_of}
use Rattle.rc_base.specs.declared.scene.Decl.{Decl}
use Rattle.race_check.specs.Outlines.{AreOutlined, FitWindow}
use Rattle.stream_replay.proofs.ClientsInTurn.{first_clients}
use Rattle.race_check.proofs.OrdersAreChecked.{IsPassed, all_passed, passed_more}
use Rattle.race_check.proofs.OutlinesTell.{fits_first, outlined_first}
use Rattle.race_check.proofs.ScenesInTurn.{next_name}
use Rattle.race_check.proofs.apart.are_apart.Goals as goal

pub loop-name-init : goal.loop-name-init
loop-name-init g c =
    let s = g.S.SceneStore.scene c.args.scene.now in
    let e = c.in_ok-outlines.ensures in
    let o = c.in_ok-outlines.outlines in
    let d = c.decl-decl.result.now in
    let f = footprint_of s in
    record {
      clients = first_clients s c.in_ok-clients.clients.items c.in_ok-clients.ensures;
      fits = subst (λ (d : Decl). FitWindow d.width d.height o) c.decl-decl.ensures (fits_first d.width d.height o e.rows e.columns e.writers e.readers);
      passed = subst (λ (d : Decl). IsPassed (AreOutlined f d.width d.height) c.args.syncs.now c.args.journal.now f [] o) c.decl-decl.ensures
          (outlined_first c.args.syncs.now c.args.journal.now f d.width d.height o e.rows e.columns e.writers e.readers);
    }

pub outline_name-requires-clause-next : goal.outline_name-requires-clause-next
outline_name-requires-clause-next g c =
    (next_name (g.S.SceneStore.scene c.args.scene.now) c.args.syncs.now c.args.journal.now c.args.order.now c.as_slice-name-items.result.now c.loop-name.clients.items c.loop-name.name-index c.requires.order.within c.requires.order.lists
    c.requires.order.permitted c.as_slice-name-items.ensures c.loop-name-test.true c.loop-name.invariant.clients).next

pub outline_name-requires-clause-fits : goal.outline_name-requires-clause-fits
outline_name-requires-clause-fits g c = c.loop-name.invariant.fits

pub loop-name-preserved : goal.loop-name-preserved
loop-name-preserved g c =
    let s = g.S.SceneStore.scene c.args.scene.now in
    let r = c.requires in
    let e = c.in_ok-outline_name.ensures in
    let next = next_name s c.args.syncs.now c.args.journal.now c.args.order.now c.as_slice-name-items.result.now c.loop-name.clients.items c.loop-name.name-index r.order.within r.order.lists r.order.permitted
    c.as_slice-name-items.ensures c.loop-name-test.true c.loop-name.invariant.clients in
    record {
      clients = next.issued c.outline_name.new.clients.items e.clients;
      fits = e.fits;
      passed = passed_more (AreOutlined (footprint_of s) s.decl.width s.decl.height) c.args.syncs.now c.args.journal.now (footprint_of s) c.args.timelines.now.clients.items c.args.order.now c.loop-name.name-index _
          c.loop-name.outlines c.outline_name.new.outlines _ r.order.permitted r.exact next.at c.loop-name.invariant.passed (e.apart c.if-not-branch.false) refl;
    }

pub returns : goal.returns
returns g c e =
    let s = g.S.SceneStore.scene c.args.scene.now in
    let past : length c.args.order.now ≤ c.loop-name.name-index = omega (arith, ap length c.as_slice-name-items.ensures, c.loop-name-test.false) in
    all_passed (AreOutlined (footprint_of s) s.decl.width s.decl.height) c.args.syncs.now c.args.journal.now (footprint_of s) c.args.timelines.now.clients.items c.args.order.now c.loop-name.name-index c.loop-name.outlines
    past c.requires.order.permitted c.requires.exact c.loop-name.invariant.passed
