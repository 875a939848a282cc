-- The expansions of streams, one after the other.
use Rattle.std.proofs.Common.{◌≡◌, ℕ, zero, suc, ◌≤◌, ◌<◌, ◌^◌, ◌+◌, List, [], ◌∷◌, ◌++◌, ◌⊎◌, inl, inr, length, map, take, drop, refl, ap, sym, subst, ◌∙◌, arith, length-append}
use Rattle.std.specs.Prelude.{slice_get, Some, sum_by, Result, Ok, Err, IfOk, IfErr}
use Rattle.std.specs.List.{AllByRecursion}
use Rattle.std.proofs.lemmas.List.{take_more, take_all, map-append}
use Rattle.std.proofs.lemmas.List.Sums.{sum_by_push, sum_by-cons}
use Rattle.std.proofs.lemmas.List.Concat.{flat_map-cons}
use Rattle.std.proofs.lemmas.Option.{slice_get_within, get_or_from_slice_get}
use Rattle.rc_base.specs.declared.command.Command.{Command}
use Rattle.rc_base.specs.declared.state.Fault.{Fault}
use Rattle.rc_base.specs.declared.list_command.ListCommand.{ListCommand}
use Rattle.rc_base.specs.declared.list_command.ListCommand.TheVariants.{Plain, NewList, EndList, CallList}
use Rattle.call_lists.specs.declared.answer.Expansion.{Expansion}
use Rattle.call_lists.specs.declared.answer.ExpandFault.{ExpandFault}
use Rattle.call_lists.specs.declared.answer.ExpandFault.TheVariants.{TooLong, OutOfMemory}
use Rattle.call_lists.specs.declared.streams.Expansions.{Expansions}
use Rattle.call_lists.specs.Expansion.{plain_of, plain_commands, cost_of, costs, met, stored, list_faults, expansion_of, Passes, TellsTooLong}
use Rattle.call_lists.specs.Scenes.{met_in, expanded, IsShort, AreExpanded}
use Rattle.call_lists.specs.Streams.{HasExpanded, HasCome}
use Rattle.call_lists.proofs.CommandsMet.{costs_then, passes_more, passes_then}
use Rattle.call_lists.proofs.LimitPassed.{passes_once, passes_beyond}
use Rattle.call_lists.proofs.ListsCalled.{one_more, all_of}
use Rattle.call_lists.proofs.Stored.{stored_few}

-- a plain command costs at least one
plain_paid : (c : ListCommand) → length (plain_of c) ≤ cost_of c
plain_paid (Plain p) = omega arith
plain_paid (NewList name) = omega arith
plain_paid EndList = omega arith
plain_paid (CallList name) = omega arith

pub given_paid : (ms : List ListCommand) → length (plain_commands ms) ≤ costs ms
given_paid [] = omega arith
given_paid (m ∷ ms) =
    omega (arith, plain_paid m, given_paid ms, sum_by-cons cost_of m ms, ap length (flat_map-cons plain_of m ms), length-append (plain_of m) (plain_commands ms))

-- ---- one stream more

pub expanded_next : (old : Expansions) (x : Expansion) (streams : List (List Command)) (faults : List (List (ℕ × Fault))) (stream : List ListCommand)
    → x ≡ expansion_of stream old.spent → old.spent + costs (met stream) ≤ 67108864 → old.count ≤ old.spent → streams ≡ old.streams ++ x.commands ∷ [] → faults ≡ old.faults ++ x.faults ∷ []
    → HasExpanded old (record { streams = streams; count = old.count + x.count; faults = faults; spent = x.spent }) stream
unfolding expansion_of
expanded_next old x streams faults stream is within few streams_are faults_are =
    let commands_is : x.commands ≡ stored (plain_commands (met stream)) = ap (λ (y : Expansion). y.commands) is in
    let count_is : x.count ≡ length (plain_commands (met stream)) = ap (λ (y : Expansion). y.count) is in
    let noted : x.faults ≡ list_faults stream = ap (λ (y : Expansion). y.faults) is in
    let spent_is : x.spent ≡ old.spent + costs (met stream) = ap (λ (y : Expansion). y.spent) is in
    record {
      streams_are = streams_are ∙ ap (λ cs. old.streams ++ cs ∷ []) commands_is;
      faults_are = faults_are ∙ ap (λ fs. old.faults ++ fs ∷ []) noted;
      counted = ap (λ n. old.count + n) count_is;
      paid = spent_is;
      within = omega (arith, spent_is, within);
      few = omega (arith, spent_is, count_is, few, given_paid (met stream));
    }

pub few_more : (old : Expansions) (x : Expansion) (stream : List ListCommand) → x ≡ expansion_of stream old.spent → old.spent + costs (met stream) ≤ 67108864 → old.count ≤ old.spent
    → old.count + x.count ≤ 67108864
unfolding expansion_of
few_more old x stream is within few =
    let count_is : x.count ≡ length (plain_commands (met stream)) = ap (λ (y : Expansion). y.count) is in
    omega (arith, count_is, within, few, given_paid (met stream))

-- what is stored of a stream has places of 32 bits
pub few_stored : (old : Expansions) (x : Expansion) (stream : List ListCommand) → x ≡ expansion_of stream old.spent → length x.commands < 2 ^ 32
unfolding expansion_of
few_stored old x stream is =
    let commands_is : x.commands ≡ stored (plain_commands (met stream)) = ap (λ (y : Expansion). y.commands) is in
    subst (λ (commands : List Command). length commands < 2 ^ 32) (sym commands_is) (stored_few (plain_commands (met stream)))

-- ---- all streams

pub come_none : (streams : List (List ListCommand)) (x : Expansions) → x.streams ≡ [] → x.faults ≡ [] → x.count ≡ 0 → x.spent ≡ 0 → HasCome streams 0 x
come_none streams x no_streams no_faults none nothing = record {
  are = record { streams_are = no_streams; faults_are = no_faults; counted = none; paid = nothing };
  within = omega (arith, nothing);
  few = omega (arith, none, nothing);
}

pub come_next : (streams : List (List ListCommand)) (i : ℕ) (s : List ListCommand) (x y : Expansions) → slice_get streams i ≡ Some s → HasCome streams i x → HasExpanded x y s → HasCome streams (i + 1) y
come_next streams i s x y at come more =
    let next : take (i + 1) streams ≡ take i streams ++ s ∷ [] =
    take_more streams i s (slice_get_within streams i s at) ∙ ap (λ t. take i streams ++ t ∷ []) (get_or_from_slice_get streams i s s at) in
    let given = λ (stream : List ListCommand). stored (expanded stream) in
    let size = λ (stream : List ListCommand). length (expanded stream) in
    let paid : costs (met_in (take (i + 1) streams)) ≡ costs (met_in (take i streams)) + costs (met s) = ap costs (one_more met streams i s at) ∙ costs_then (met_in (take i streams)) (met s) in
    record {
      are = record {
        streams_are = more.streams_are ∙ ap (λ css. css ++ stored (expanded s) ∷ []) come.are.streams_are ∙ sym (map-append given (take i streams) (s ∷ [])) ∙ ap (map given) (sym next);
        faults_are = more.faults_are ∙ ap (λ fss. fss ++ list_faults s ∷ []) come.are.faults_are ∙ sym (map-append list_faults (take i streams) (s ∷ [])) ∙ ap (map list_faults) (sym next);
        counted = more.counted ∙ ap (λ n. n + length (expanded s)) come.are.counted ∙ sym (sum_by_push size (take i streams) s) ∙ ap (sum_by size) (sym next);
        paid = more.paid ∙ ap (λ n. n + costs (met s)) come.are.paid ∙ sym paid;
      };
      within = more.within;
      few = more.few;
    }

pub come_all : (streams : List (List ListCommand)) (i : ℕ) (x : Expansions) → length streams ≤ i → HasCome streams i x → AreExpanded streams x
come_all streams i x end come = subst (λ (ss : List (List ListCommand)). AreExpanded ss x) (take_all i streams end) come.are

pub come_to_fail : (streams : List (List ListCommand)) (i : ℕ) (s : List ListCommand) (x : Expansions) (e : ExpandFault) → slice_get streams i ≡ Some s → HasCome streams i x
    → TellsTooLong x.spent (met s) e → TellsTooLong 0 (met_in streams) e
come_to_fail streams i s x (TooLong sum) at come t =
    subst (λ (ms : List ListCommand). Passes 0 ms sum) (all_of met streams i s at)
    (passes_more 0 sum (met_in (take i streams) ++ met s) (met_in (drop (i + 1) streams))
    (passes_then 0 x.spent sum (met_in (take i streams)) (met s) (come.are.paid ∙ omega arith) t))
come_to_fail streams i s x OutOfMemory at come t = tt

pub short_at : (streams : List (List ListCommand)) (i : ℕ) (s : List ListCommand) → slice_get streams i ≡ Some s → AllByRecursion IsShort streams → IsShort s
short_at [] i s at all = absurd cc
short_at (t ∷ ts) zero s at all = let same : t ≡ s = cc in subst IsShort same all.0
short_at (t ∷ ts) (suc i) s at all = short_at ts i s at all.1

-- ---- both directions of an answer

pub streams_forced : (r : Result Expansions ExpandFault) (streams : List (List ListCommand))
    → IfErr r (TellsTooLong 0 (met_in streams)) → costs (met_in streams) ≤ 67108864 → IfErr r (λ e. e ≡ OutOfMemory)
streams_forced (Ok x) streams fails within = tt
streams_forced (Err (TooLong sum)) streams fails within = absurd (omega (arith, within, passes_beyond 0 (met_in streams) sum fails))
streams_forced (Err OutOfMemory) streams fails within = refl

pub streams_too_long : (r : Result Expansions ExpandFault) (streams : List (List ListCommand))
    → IfOk r (AreExpanded streams) → IfOk r (λ x. x.spent ≤ 67108864) → IfErr r (TellsTooLong 0 (met_in streams))
    → (sum : ℕ) → Passes 0 (met_in streams) sum → (r ≡ Err (TooLong sum)) ⊎ (r ≡ Err OutOfMemory)
streams_too_long (Ok x) streams are within fails sum p = absurd (omega (arith, within, are.paid, passes_beyond 0 (met_in streams) sum p))
streams_too_long (Err (TooLong other)) streams are within fails sum p = inl (ap (λ n. Err (TooLong n)) (passes_once 0 (met_in streams) other sum fails p))
streams_too_long (Err OutOfMemory) streams are within fails sum p = inr refl
