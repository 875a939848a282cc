use Rattle.std.proofs.Common.{◌≡◌, ◌||◌, false, List, [], ◌++◌, length, sym, ap, ◌∙◌, subst, append-nil, arith}
use Rattle.std.proofs.lemmas.Grind.{common_steps}
use Rattle.std.specs.Vec.Iter.{into_iter_items}
use Rattle.rc_base.proofs.Paired.{goes_on}
use Rattle.worker_crew.specs.declared.task.Task.{Task}
use Rattle.cluster_run.specs.Apart.{AreOfTiles}
use Rattle.cluster_run.specs.declared.workers.TileWorker.{TileWorker}
use Rattle.cluster_run.proofs.Apart.{no_tiles, one_tile_more}
use Rattle.cluster_run.proofs.cores.tile_parts.Goals as goal

pub loop-task-init : goal.loop-task-init
loop-task-init g c =
    let room = c.args.room in
    let cores = c.requires.cores in
    let columns = c.requires.columns in
    let grants = c.requires.grants in
    let parts = c.requires.parts in
    let given = c.into_iter-task-iterator.ensures.into_iter_gives in
    let none_core = ap length cores.empty in
    let none_column = ap length columns.empty in
    let none_grant = ap length grants.empty in
    let none_part = ap length parts.empty in
    record {
      whole = sym given.0;
      had = no_tiles false room.cores.items room.columns.items room.grants.items room.parts.items cores.empty columns.empty grants.empty parts.empty;
      cores_fit = omega (arith, cores.room, none_core, room.cores.ok.0, given.1);
      columns_fit = omega (arith, columns.room, none_column, room.columns.ok.0, given.1);
      grants_fit = omega (arith, grants.room, none_grant, room.grants.ok.0, given.1);
      parts_fit = omega (arith, parts.room, none_part, room.parts.ok.0, given.1);
    }

pub loop-task-preserved : goal.loop-task-preserved
loop-task-preserved g c =
    let was = c.loop-task.invariant in
    let done = c.loop-task.yielded in
    let task = c.in-Some.task in
    let step = c.in-Some.ensures.steps in
    let a = c.push_reserved.ensures in
    let b = c.push_reserved-in-loop-task.ensures in
    let d = c.push_reserved-in-loop-task-2.ensures in
    let e = c.push_reserved-in-loop-task-3.ensures in
    record {
      whole = goes_on c.args.tasks.items done (into_iter_items c.loop-task.task-iterator) (into_iter_items c.next.new.self) task was.whole step.0;
      had = one_tile_more c.loop-task.short c.loop-task.cores.items c.loop-task.columns.items c.loop-task.grants.items c.loop-task.parts.items done task was.had
          (c.loop-task.short || c.is_short-short.result) (ap (λ b. c.loop-task.short || b) c.is_short-short.ensures) a.items b.items d.items e.items;
      cores_fit = omega (arith, was.cores_fit, a.len, a.capacity, step.1);
      columns_fit = omega (arith, was.columns_fit, b.len, b.capacity, step.1);
      grants_fit = omega (arith, was.grants_fit, d.len, d.capacity, step.1);
      parts_fit = omega (arith, was.parts_fit, e.len, e.capacity, step.1);
    }

pub loop-task-preserved-in-Some : goal.loop-task-preserved-in-Some
loop-task-preserved-in-Some g c =
    let was = c.loop-task.invariant in
    let done = c.loop-task.yielded in
    let task = c.in-Some.task in
    let step = c.in-Some.ensures.steps in
    let a = c.push_reserved.ensures in
    let b = c.push_reserved-in-loop-task.ensures in
    let d = c.push_reserved-in-loop-task-2.ensures in
    let e = c.push_reserved-in-loop-task-3.ensures in
    record {
      whole = goes_on c.args.tasks.items done (into_iter_items c.loop-task.task-iterator) (into_iter_items c.next.new.self) task was.whole step.0;
      had = one_tile_more c.loop-task.short c.loop-task.cores.items c.loop-task.columns.items c.loop-task.grants.items c.loop-task.parts.items done task was.had
          (c.loop-task.short || c.is_short-short.result) (ap (λ b. c.loop-task.short || b) c.is_short-short.ensures) a.items b.items d.items e.items;
      cores_fit = omega (arith, was.cores_fit, a.len, a.capacity, step.1);
      columns_fit = omega (arith, was.columns_fit, b.len, b.capacity, step.1);
      grants_fit = omega (arith, was.grants_fit, d.len, d.capacity, step.1);
      parts_fit = omega (arith, was.parts_fit, e.len, e.capacity, step.1);
    }

pub returns : goal.returns
returns g c =
    let was = c.loop-task.invariant in
    let done = c.loop-task.yielded in
    let none : into_iter_items c.loop-task.task-iterator ≡ [] = let s = c.in-None.ensures.steps in grind (arith, common_steps) in
    let all : done ≡ c.args.tasks.items = sym (was.whole ∙ ap (λ rest. done ++ rest) none ∙ append-nil done) in
    subst (λ (ts : List (Task (TileWorker g.row.R.Denot))).
    AreOfTiles c.loop-task.short ts c.loop-task.cores.items c.loop-task.columns.items c.loop-task.grants.items c.loop-task.parts.items) all was.had
