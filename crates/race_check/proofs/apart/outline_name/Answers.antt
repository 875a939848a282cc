use Rattle.std.proofs.Common.{arith, subst}
use Rattle.rc_base.specs.Orders.Footprints.{footprint_of}
use Rattle.rc_base.specs.declared.scene.Decl.{Decl}
use Rattle.happens_before.specs.Timelines.{clock_of}
use Rattle.race_check.specs.Outlines.{PassesOutlines}
use Rattle.race_check.specs.Uses.{HasEffect}
use Rattle.race_check.proofs.ScenesInTurn.{client_there, issued_effect}
use Rattle.race_check.proofs.apart.outline_name.Goals as goal

pub index-requires : goal.index-requires
index-requires g c =
    omega (arith, client_there (g.S.SceneStore.scene c.args.scene.now) c.args.name c.args.clients.now.items c.issue_name.new.clients.items c.requires.next c.in_ok-effect.ensures.clients, c.from-client.ensures)

pub returns-clause-apart : goal.returns-clause-apart
returns-clause-apart g c t =
    let f = footprint_of (g.S.SceneStore.scene c.args.scene.now) in
    subst (λ (d : Decl). HasEffect f c.args.name d.width d.height c.state-state.result.now c.in_ok-effect.effect → PassesOutlines f d.width d.height (clock_of c.args.timelines.now.clients.items c.args.name) c.args.name c.args.outlines.now c.outline-apart.new.outlines) c.decl.ensures (c.outline-apart.ensures.apart t f)
    (issued_effect (g.S.SceneStore.scene c.args.scene.now) c.args.name c.args.clients.now.items c.issue_name.new.clients.items c.index.result.now c.from-client.result c.state-state.result.now c.in_ok-effect.effect c.requires.next
    c.in_ok-effect.ensures.clients c.from-client.ensures c.index.ensures c.state-state.ensures c.in_ok-effect.ensures.effect)

pub issue_name-requires : goal.issue_name-requires
issue_name-requires g c = record { within = c.requires.within; inside = c.requires.next.inside; before = c.requires.next.before }
