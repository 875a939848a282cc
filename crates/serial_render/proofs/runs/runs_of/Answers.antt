use Rattle.std.proofs.Common.{◌≡◌, ◌∷◌, [], ◌++◌, List, ◌∙◌, ap, arith, length, sym, take}
use Rattle.std.specs.Prelude.{slice_index_or}
use Rattle.std.proofs.Math.Seq.{take-length}
use Rattle.std.proofs.lemmas.Option.{slice_get-get_or}
use Rattle.rc_base.specs.declared.sync.Name.{Name}
use Rattle.order_model.proofs.NamesInTurn.{order_at}
use Rattle.serial_render.specs.Runs.{names_of_runs}
use Rattle.serial_render.specs.declared.runs.Run.{Run}
use Rattle.serial_render.proofs.NamesOfRuns.{with_run}
use Rattle.serial_render.proofs.runs.runs_of.Goals as goal

abbrev none : Name
none = record { client = 0; place = 0 }

pub loop-name-preserved : goal.loop-name-preserved
loop-name-preserved c =
    let names = c.args.names.now in
    let i = c.loop-name.name-index in
    let n = slice_index_or names i none in
    record {
      names = c.in_ok-run.ensures ∙ ap (λ (l : List Name). l ++ n ∷ []) c.loop-name.invariant.names
          ∙ sym (order_at names i n (slice_get-get_or names i none c.loop-name-test.true)).1;
    }

pub returns : goal.returns
returns c =
    let names = c.args.names.now in
    let all : c.loop-name.name-index ≡ length names = omega (arith, c.loop-name-test.false, c.loop-name.auto.name-index-end) in
    ap (λ (l : List Run). names_of_runs l) c.in_ok-push.ensures.items ∙ with_run c.loop-name.runs.items c.loop-name.run ∙ c.loop-name.invariant.names
    ∙ ap (λ k. take k names) all ∙ take-length names
