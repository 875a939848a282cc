use Rattle.std.proofs.Common.{◌≡◌, ◌∙◌, ◌++◌, ◌-◌, ◌≤◌, List, length, get_or, ap, sym, subst, arith}
use Rattle.std.specs.Prelude.{replicate}
use Rattle.rc_base.specs.Cluster.Parcels.{end_parcel}
use Rattle.rc_base.specs.declared.cluster.Tally.{Tally}
use Rattle.rc_base.specs.declared.scene.Decl.{Decl}
use Rattle.client_issue.specs.Cores.{no_tally, ends_from, left_by, tally_in}
use Rattle.client_issue.specs.Sequence.{alone, sent_from}
use Rattle.client_issue.proofs.Firsts.{whole, no_tally_in}
use Rattle.client_issue.proofs.Given.{all_commands, few, few_tiles}
use Rattle.client_issue.proofs.client.ClientCore.of_store.Goals as goal

pub count_of-count-requires : goal.count_of-count-requires
count_of-count-requires c = few_tiles c.args.decl.now c.args.stream c.args.layout.now c.requires

pub overflow_cast-place : goal.overflow_cast-place
overflow_cast-place c =
    let low = few c.args.decl.now c.args.stream c.args.layout.now c.requires in
    let is = c.len-place.ensures in
    omega (arith, low, is)

pub first_sender-requires-clause-few : goal.first_sender-requires-clause-few
first_sender-requires-clause-few c = few c.args.decl.now c.args.stream c.args.layout.now c.requires

pub first_sender-requires-clause-commands : goal.first_sender-requires-clause-commands
first_sender-requires-clause-commands c = all_commands c.args.decl.now c.args.stream c.args.layout.now c.requires

pub first_sender-requires-clause-tiles : goal.first_sender-requires-clause-tiles
first_sender-requires-clause-tiles c = subst (λ n. n ≤ 32) (sym c.count_of-count.ensures) (few_tiles c.args.decl.now c.args.stream c.args.layout.now c.requires)

pub returns-clause-whose : goal.returns-clause-whose
returns-clause-whose c scene client is =
    let h = c.in_ok-sender.ensures in
    record { decl = h.decl ∙ is.decl_is; stream = h.stream ∙ is.stream_is; layout = h.layout }

pub returns-clause-left : goal.returns-clause-left
unfolding left_by
returns-clause-left c scene client is =
    let h = c.in_ok-sender.ensures in
    let l = c.args.layout.now in
    let stream = c.args.stream in
    (λ i. h.left i ++ ends_from (h.layout i) (length (h.stream i)) 0)
    ∙ ap (λ (d : Decl). sent_from (alone d stream) l 0 ++ ends_from l (length stream) 0) is.decl_is
    ∙ whole scene client l stream is.stream_is

pub returns-clause-tallies : goal.returns-clause-tallies
unfolding tally_in
returns-clause-tallies c tile = ap (λ (ts : List Tally). get_or ts tile no_tally) c.in_ok-tallies.ensures ∙ no_tally_in _ tile

pub invariant_of-result-clause-prepared : goal.invariant_of-result-clause-prepared
invariant_of-result-clause-prepared c =
    let h = c.in_ok-sender.ensures in
    let count : c.in_ok-sender.sender.count - 0 ≡ c.count_of-count.result = omega (arith, h.count) in
    let place = c.len-place.ensures ∙ sym (ap length h.stream) in
    c.in_ok-last.ensures ∙ (λ i. replicate (sym count i) (end_parcel (place i)))
