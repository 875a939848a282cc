use Rattle.std.proofs.Common.{◌≡◌, ◌||◌, false, List, [], ◌++◌, length, sym, ap, ◌∙◌, subst, append-nil, arith}
use Rattle.std.proofs.lemmas.Grind.{common_steps}
use Rattle.std.specs.Vec.Iter.{into_iter_items}
use Rattle.rc_base.proofs.Paired.{goes_on}
use Rattle.worker_crew.specs.declared.task.Task.{Task}
use Rattle.cluster_run.specs.Apart.{AreOfClients}
use Rattle.cluster_run.specs.declared.workers.ClientWorker.{ClientWorker}
use Rattle.cluster_run.proofs.Apart.{no_clients, one_client_more}
use Rattle.cluster_run.proofs.cores.client_parts.Goals as goal

pub loop-task-init : goal.loop-task-init
loop-task-init g c =
    let room = c.args.room in
    let cores = c.requires.cores in
    let rows = c.requires.rows in
    let requests = c.requires.requests in
    let given = c.into_iter-task-iterator.ensures.into_iter_gives in
    let none_core = ap length cores.empty in
    let none_row = ap length rows.empty in
    let none_request = ap length requests.empty in
    record {
      whole = sym given.0;
      had = no_clients false room.cores.items room.rows.items room.requests.items cores.empty rows.empty requests.empty;
      cores_fit = omega (arith, cores.room, none_core, room.cores.ok.0, given.1);
      rows_fit = omega (arith, rows.room, none_row, room.rows.ok.0, given.1);
      requests_fit = omega (arith, requests.room, none_request, room.requests.ok.0, given.1);
    }

pub loop-task-preserved : goal.loop-task-preserved
loop-task-preserved g c =
    let was = c.loop-task.invariant in
    let done = c.loop-task.yielded in
    let task = c.in-Some.task in
    let step = c.in-Some.ensures.steps in
    let a = c.push_reserved.ensures in
    let b = c.push_reserved-in-loop-task.ensures in
    let d = c.push_reserved-in-loop-task-2.ensures in
    record {
      whole = goes_on c.args.tasks.items done (into_iter_items c.loop-task.task-iterator) (into_iter_items c.next.new.self) task was.whole step.0;
      had = one_client_more c.loop-task.short c.loop-task.cores.items c.loop-task.rows.items c.loop-task.requests.items done task was.had
          (c.loop-task.short || c.is_short-short.result) (ap (λ b. c.loop-task.short || b) c.is_short-short.ensures) a.items b.items d.items;
      cores_fit = omega (arith, was.cores_fit, a.len, a.capacity, step.1);
      rows_fit = omega (arith, was.rows_fit, b.len, b.capacity, step.1);
      requests_fit = omega (arith, was.requests_fit, d.len, d.capacity, step.1);
    }

pub returns : goal.returns
returns g c =
    let was = c.loop-task.invariant in
    let done = c.loop-task.yielded in
    let none : into_iter_items c.loop-task.task-iterator ≡ [] = let s = c.in-None.ensures.steps in grind (arith, common_steps) in
    let all : done ≡ c.args.tasks.items = sym (was.whole ∙ ap (λ rest. done ++ rest) none ∙ append-nil done) in
    subst (λ (ts : List (Task (ClientWorker g.row.R.Denot))). AreOfClients c.loop-task.short ts c.loop-task.cores.items c.loop-task.rows.items c.loop-task.requests.items)
    all was.had
