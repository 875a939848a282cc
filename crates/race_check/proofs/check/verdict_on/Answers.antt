use Rattle.std.proofs.Common.{◌<◌, ◌≤◌, List, length, sym, subst, arith}
use Rattle.rc_base.specs.Lists.{IsIn}
use Rattle.rc_base.specs.Orders.Journal.{IsLegal}
use Rattle.rc_base.specs.Orders.Sync.{IsWellFormed, client_count}
use Rattle.rc_base.specs.declared.sync.Entry.{Entry}
use Rattle.rc_base.specs.declared.sync.Name.{Name}
use Rattle.rc_base.specs.declared.sync.SyncLists.{SyncLists}
use Rattle.happens_before.specs.Clocks.{IsExact}
use Rattle.happens_before.specs.Timelines.{clock_of}
use Rattle.order_model.proofs.ScenesWithinLimits.{within_is_drawable}
use Rattle.race_check.proofs.ScenesInTurn.{client_in}
use Rattle.race_check.proofs.check.verdict_on.Goals as goal

pub clocks_of-requires-clause-lists : goal.clocks_of-requires-clause-lists
clocks_of-requires-clause-lists g c = subst IsWellFormed (sym c.requires.order.lists) (within_is_drawable (g.S.SceneStore.scene c.args.scene.now) c.requires.order.within).formed

pub clocks_of-requires-clause-clients : goal.clocks_of-requires-clause-clients
clocks_of-requires-clause-clients g c = subst (λ (l : SyncLists). client_count l ≤ 8) (sym c.requires.order.lists) (within_is_drawable (g.S.SceneStore.scene c.args.scene.now) c.requires.order.within).clients

pub clocks_of-requires-clause-legal : goal.clocks_of-requires-clause-legal
clocks_of-requires-clause-legal g c = subst (IsLegal c.args.syncs.now) (sym c.as_slice.ensures) c.requires.maximal.0

-- names of one client alone don't conflict
pub returns-then-client_count-lt2 : goal.returns-then-client_count-lt2
returns-then-client_count-lt2 g c a b h =
    let s = g.S.SceneStore.scene c.args.scene.now in
    let r = c.requires in
    let client : (n : Name) → IsIn n c.args.order.now → n.client < length s.streams = client_in s c.args.syncs.now c.args.journal.now c.args.order.now r.order.within r.order.lists r.order.permitted in
    let x = client a ((r.order.permitted.names a).1 h.first) in
    let y = client b ((r.order.permitted.names b).1 h.second) in
    absurd (h.clients (omega (arith, x, y, c.client_count.ensures, c.if-client_count-lt2.true)))

pub are_apart-requires-clause-exact : goal.are_apart-requires-clause-exact
are_apart-requires-clause-exact g c = subst (λ (j : List Entry). IsExact c.args.syncs.now j (clock_of c.in_ok-timelines.timelines.clients.items)) c.as_slice.ensures c.in_ok-timelines.ensures.exact
