use Rattle.std.proofs.Common.{◌≡◌, ◌≤◌, [], ◌∷◌, ◌++◌, length, sym, ap, ◌∙◌, subst, arith, length-append, append-nil}
use Rattle.std.proofs.lemmas.Grind.{common_steps}
use Rattle.std.specs.Vec.Iter.{into_iter_items}
use Rattle.rc_base.proofs.Paired.{goes_on}
use Rattle.rc_base.proofs.WithinLimits.{clients_within}
use Rattle.serial_render.specs.Surveyed.{AreSurveyed}
use Rattle.sort_last.specs.Runs.{IsFirstOf}
use Rattle.sort_last.proofs.OffendingCommands.{offence_is_first}
use Rattle.sort_last.proofs.SurveyedApart.{next_is_within, next_client, one_more_row, one_more_name}
use Rattle.sort_last.proofs.survey.gathered.Goals as goal

pub loop-one-init : goal.loop-one-init
loop-one-init c = record {
  whole = sym c.into_iter-one-iterator.ensures.into_iter_gives.0;
  surveyed = record { rows_are = c.new-rows.ensures; faults_are = c.new-faults.ensures };
  count = ap length c.new-rows.ensures;
  offence = λ client place lt. absurd (omega (arith, lt));
}

pub name_or-offence-requires : goal.name_or-offence-requires
name_or-offence-requires c =
    let s = c.args.scene.now in
    let few : length s.streams ≤ 8 = (clients_within s c.requires.within.limits).1 in
    let low = next_is_within s c.args.found.items c.loop-one.yielded (into_iter_items c.loop-one.one-iterator) (into_iter_items c.next.new.self) c.in-Some.one
    c.requires.found c.loop-one.invariant.whole c.in-Some.ensures.steps.0 in
    omega (arith, few, low, c.loop-one.invariant.count, c.len.ensures)

pub loop-one-preserved : goal.loop-one-preserved
loop-one-preserved c =
    let s = c.args.scene.now in
    let was = c.loop-one.invariant in
    let done = c.loop-one.yielded in
    let r = c.in-Some.one in
    let is = next_client s c.args.found.items done (into_iter_items c.loop-one.one-iterator) (into_iter_items c.next.new.self) r
    c.requires.found was.whole c.in-Some.ensures.steps.0 c.in_ok-client.client c.in_ok-client.was in
    record {
      whole = goes_on c.args.found.items done (into_iter_items c.loop-one.one-iterator) (into_iter_items c.next.new.self) r was.whole c.in-Some.ensures.steps.0;
      surveyed = one_more_row s done r c.in_ok-client.client c.loop-one.rows _ c.loop-one.faults _ is was.surveyed
          c.in_ok-push.ensures.items c.in_ok-push-2.ensures.items;
      count = omega (arith, was.count, ap length c.in_ok-push.ensures.items, length-append c.loop-one.rows (c.in_ok-client.client.row ∷ []), length-append done (r ∷ []));
      offence = one_more_name s done r c.in_ok-client.client c.len.result c.loop-one.offence c.name_or-offence.result (c.len.ensures ∙ was.count) is was.offence c.name_or-offence.ensures;
    }

pub survey_of_clients-requires-clause-surveyed : goal.survey_of_clients-requires-clause-surveyed
survey_of_clients-requires-clause-surveyed c =
    let s = c.args.scene.now in
    let was = c.loop-one.invariant in
    let done = c.loop-one.yielded in
    let none : into_iter_items c.loop-one.one-iterator ≡ [] = let steps = c.in-None.ensures.steps in grind (arith, common_steps) in
    let all : done ≡ c.args.found.items = sym (was.whole ∙ ap (λ rest. done ++ rest) none ∙ append-nil done) in
    subst (λ n. AreSurveyed s n c.loop-one.rows c.loop-one.faults) (ap length all ∙ c.requires.found.count) was.surveyed

pub returns-clause-offence : goal.returns-clause-offence
returns-clause-offence c =
    let s = c.args.scene.now in
    let was = c.loop-one.invariant in
    let done = c.loop-one.yielded in
    let none : into_iter_items c.loop-one.one-iterator ≡ [] = let steps = c.in-None.ensures.steps in grind (arith, common_steps) in
    let all : done ≡ c.args.found.items = sym (was.whole ∙ ap (λ rest. done ++ rest) none ∙ append-nil done) in
    offence_is_first s c.loop-one.offence (subst (λ n. IsFirstOf s n c.loop-one.offence) (ap length all ∙ c.requires.found.count) was.offence)
