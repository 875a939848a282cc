use Rattle.std.proofs.Common.{◌≡◌, length, refl, ap, ◌∙◌, arith}
use Rattle.run_words.specs.Reports.{lines_of_run}
use Rattle.render_core.proofs.Accounts.{ending_is, few_clients, few_faults, few_logs, notes_told}
use Rattle.render_core.proofs.cluster.account_with.Goals as goal

pub cluster_report_with-requires-clause-faults : goal.cluster_report_with-requires-clause-faults
cluster_report_with-requires-clause-faults c =
    let r = c.requires in
    let few = few_faults r.scene r.layout c.args.kept.now c.args.tallies.now c.args.waiting.now c.args.faults.now r.run r.within in
    let shown = ap length c.as_slice-3.ensures in
    omega (arith, few, shown)

pub cluster_report_with-requires-clause-clients : goal.cluster_report_with-requires-clause-clients
cluster_report_with-requires-clause-clients c =
    let r = c.requires in few_clients r.scene r.layout c.args.kept.now c.args.tallies.now c.args.waiting.now c.args.faults.now r.run r.within

pub cluster_report_with-requires-clause-tiles : goal.cluster_report_with-requires-clause-tiles
cluster_report_with-requires-clause-tiles c =
    let r = c.requires in few_logs r.scene r.layout c.args.kept.now c.args.tallies.now c.args.waiting.now c.args.faults.now r.run r.tiles

pub returns : goal.returns
returns c = λ work l refused counted is.
    let kept = c.args.kept.now in
    let lines : c.in_ok-notes.notes ≡ lines_of_run work c.args.faults.now c.args.tallies.now kept c.args.waiting.now c.args.orders =
    cc (c.in_ok-notes.ensures, c.as_slice.ensures, c.as_slice-2.ensures, c.as_slice-3.ensures, c.as_slice-4.ensures, refused, counted) in
    record {
      notes = lines ∙ notes_told work.scene l kept c.args.tallies.now c.args.waiting.now c.args.faults.now is work refl c.args.orders;
      ending = c.ending_of.ensures ∙ ending_is work.scene l kept c.args.tallies.now c.args.waiting.now c.args.faults.now is;
    }
