use Rattle.rc_base.specs.Orders.Footprints.{footprint_of}
use Rattle.race_check.proofs.OrdersAreChecked.{verdict_exact}
use Rattle.race_check.proofs.VerdictsOnScenes.{scene_exact}
use Rattle.race_check.proofs.check.check_scene_races.Goals as goal

pub returns-clause-verdict : goal.returns-clause-verdict
returns-clause-verdict g c = c.in_ok-verdict.ensures

pub returns-clause-exactly : goal.returns-clause-exactly
returns-clause-exactly g c =
    verdict_exact c.args.syncs.now c.args.journal.now c.args.order.now (footprint_of (g.S.SceneStore.scene c.args.scene.now)) c.in_ok-verdict.verdict c.requires.permitted (returns-clause-verdict g c)

pub returns-clause-exactly_ordered : goal.returns-clause-exactly_ordered
returns-clause-exactly_ordered g c =
    scene_exact (g.S.SceneStore.scene c.args.scene.now) c.args.syncs.now c.args.journal.now c.args.order.now c.in_ok-verdict.verdict c.requires.lists c.requires.permitted (returns-clause-exactly g c)

pub verdict_on-requires-clause-order : goal.verdict_on-requires-clause-order
verdict_on-requires-clause-order g c = record { within = c.requires.within; lists = c.requires.lists; permitted = c.requires.permitted }
