use Rattle.worker_crew.specs.Tasks.{IsStarted}
use Rattle.std.proofs.Common.{arith}
use Rattle.worker_crew.proofs.Ends.{all_ended}
use Rattle.worker_crew.proofs.crew.join_crew.Goals as goal

pub returns-clause-clients : goal.returns-clause-clients
returns-clause-clients g c =
    let leads = g.A.Worker.leads in
    let over = g.A.Worker.over in
    λ ws began. all_ended leads over (IsStarted leads over) ws c.args.crew.clients.items c.join_all-clients.result.items c.settle.new.crew.clients.items
    began c.join_all-clients.ensures c.settle.ensures.clients
    (λ i d low. let n = c.settle.new.crew.clients.ok.0 in c.settle.ensures.clients_end i d (omega (arith, n, low)))

pub returns-clause-manager : goal.returns-clause-manager
returns-clause-manager g c w began =
    let t = c.settle.ensures.manager w (c.joined-manager.ensures w began) in
    record { led = t.led; over_is = t.ends c.settle.ensures.manager_ends }

pub returns-clause-tiles : goal.returns-clause-tiles
returns-clause-tiles g c =
    let leads = g.C.Worker.leads in
    let over = g.C.Worker.over in
    λ ws began. all_ended leads over (IsStarted leads over) ws c.args.crew.tiles.items c.join_all-tiles.result.items c.settle.new.crew.tiles.items
    began c.join_all-tiles.ensures c.settle.ensures.tiles
    (λ i d low. let n = c.settle.new.crew.tiles.ok.0 in c.settle.ensures.tiles_end i d (omega (arith, n, low)))
