-- A stream, command by command.
use Rattle.std.proofs.Common.{◌≡◌, ℕ, ◌≤◌, ◌+◌, List, [], ◌∷◌, ◌++◌, length, take, drop, refl, ap, sym, subst, ◌∙◌, arith, append_assoc}
use Rattle.std.specs.Prelude.{slice_get, Some}
use Rattle.std.proofs.lemmas.List.{append-nil, take_more, take_all, take-append-drop, length-take-le}
use Rattle.std.proofs.lemmas.Option.{slice_get_within, get_or_from_slice_get}
use Rattle.rc_base.specs.declared.state.Fault.{Fault}
use Rattle.rc_base.specs.declared.list_command.ListCommand.{ListCommand}
use Rattle.call_lists.specs.declared.given.Given.{Given}
use Rattle.call_lists.specs.declared.standing.Standing.{Standing}
use Rattle.call_lists.specs.declared.answer.ExpandFault.{ExpandFault}
use Rattle.call_lists.specs.Expansion.{ListState, first_state, list_fault, state_after, state_from, fault_at, faults_from, met_at, met_from, met, list_faults, stored, plain_commands, costs, most_cost, expansion_of, TellsTooLong}
use Rattle.call_lists.specs.Standing.{state_of}
use Rattle.call_lists.specs.Giving.{Adds}
use Rattle.call_lists.specs.Progress.{HasTaken}
use Rattle.call_lists.proofs.CommandsMet.{adds_none, adds_then, tells_more, tells_later}

-- ---- more commands

pub state_then : (x : ListState) (cs ds : List ListCommand) → state_from x (cs ++ ds) ≡ state_from (state_from x cs) ds
state_then x [] ds = refl
state_then x (c ∷ cs) ds = state_then (state_after x c) cs ds

pub met_then : (x : ListState) (cs ds : List ListCommand) → met_from x (cs ++ ds) ≡ met_from x cs ++ met_from (state_from x cs) ds
met_then x [] ds = refl
met_then x (c ∷ cs) ds = ap (λ ms. met_at x c ++ ms) (met_then (state_after x c) cs ds) ∙ sym (append_assoc (met_at x c) (met_from (state_after x c) cs) (met_from (state_from (state_after x c) cs) ds))

pub faults_then : (x : ListState) (place : ℕ) (cs ds : List ListCommand) → faults_from x place (cs ++ ds) ≡ faults_from x place cs ++ faults_from (state_from x cs) (place + length cs) ds
faults_then x place [] ds =
    let same : place ≡ place + 0 = omega arith in
    ap (λ n. faults_from x n ds) same
faults_then x place (c ∷ cs) ds =
    let same : place + 1 + length cs ≡ place + length (c ∷ cs) = omega arith in
    ap (λ fs. fault_at place (list_fault x c) ++ fs) (faults_then (state_after x c) (place + 1) cs ds)
    ∙ sym (append_assoc (fault_at place (list_fault x c)) (faults_from (state_after x c) (place + 1) cs) (faults_from (state_from (state_after x c) cs) (place + 1 + length cs) ds))
    ∙ ap (λ n. (fault_at place (list_fault x c) ++ faults_from (state_after x c) (place + 1) cs) ++ faults_from (state_from (state_after x c) cs) n ds) same

-- ---- one command more

next_of : (xs : List ListCommand) (i : ℕ) (x : ListCommand) → slice_get xs i ≡ Some x → take (i + 1) xs ≡ take i xs ++ x ∷ []
next_of xs i x e = take_more xs i x (slice_get_within xs i x e) ∙ ap (λ y. take i xs ++ y ∷ []) (get_or_from_slice_get xs i x x e)

-- before the first command
pub taken_none : (stream : List ListCommand) (given : Given) (standing : Standing) (faults : List (ℕ × Fault)) → state_of standing ≡ first_state → faults ≡ []
    → HasTaken stream 0 given standing faults given
taken_none stream given standing faults e none = record { state = e; faults_are = none; adds = adds_none given }

pub taken_next : (stream : List ListCommand) (i : ℕ) (c : ListCommand) (first before after : Given) (standing then : Standing) (faults more : List (ℕ × Fault))
    → slice_get stream i ≡ Some c → HasTaken stream i first standing faults before
    → state_of then ≡ state_after (state_of standing) c → more ≡ faults ++ fault_at i (list_fault (state_of standing) c) → Adds before after (met_at (state_of standing) c)
    → HasTaken stream (i + 1) first then more after
taken_next stream i c first before after standing then faults more at taken state_is more_is adds =
    let next = next_of stream i c at in
    let place : 0 + length (take i stream) ≡ i = omega (arith, length-take-le i stream (omega (arith, slice_get_within stream i c at))) in
    record {
      state =
          state_is ∙ ap (λ x. state_after x c) taken.state ∙ sym (state_then first_state (take i stream) (c ∷ [])) ∙ ap (state_from first_state) (sym next);
      faults_are =
          more_is ∙ ap (λ fs. fs ++ fault_at i (list_fault (state_of standing) c)) taken.faults_are
          ∙ ap (λ x. faults_from first_state 0 (take i stream) ++ fault_at i (list_fault x c)) taken.state
          ∙ ap (λ n. faults_from first_state 0 (take i stream) ++ fault_at n (list_fault (state_from first_state (take i stream)) c)) (sym place)
          ∙ ap (λ fs. faults_from first_state 0 (take i stream) ++ fs) (sym (append-nil (fault_at (0 + length (take i stream)) (list_fault (state_from first_state (take i stream)) c))))
          ∙ sym (faults_then first_state 0 (take i stream) (c ∷ [])) ∙ ap (faults_from first_state 0) (sym next);
      adds =
          subst (λ (ms : List ListCommand). Adds first after ms)
          (ap (λ x. met_from first_state (take i stream) ++ met_at x c) taken.state
          ∙ ap (λ ms. met_from first_state (take i stream) ++ ms) (sym (append-nil (met_at (state_from first_state (take i stream)) c)))
          ∙ sym (met_then first_state (take i stream) (c ∷ [])) ∙ ap (met_from first_state) (sym next))
          (adds_then first before after (met_from first_state (take i stream)) (met_at (state_of standing) c) taken.adds adds);
    }

-- all commands
pub taken_all : (stream : List ListCommand) (i : ℕ) (first given : Given) (standing : Standing) (faults : List (ℕ × Fault))
    → length stream ≤ i → HasTaken stream i first standing faults given → (faults ≡ list_faults stream) × Adds first given (met stream)
unfolding list_faults met
taken_all stream i first given standing faults end taken = (
  taken.faults_are ∙ ap (faults_from first_state 0) (take_all i stream end),
  subst (λ (cs : List ListCommand). Adds first given (met_from first_state cs)) (take_all i stream end) taken.adds,
)

-- a failure at one of the commands
pub tells_there : (stream : List ListCommand) (i : ℕ) (c : ListCommand) (first before : Given) (standing : Standing) (faults : List (ℕ × Fault)) (e : ExpandFault)
    → slice_get stream i ≡ Some c → HasTaken stream i first standing faults before → TellsTooLong before.spent (met_at (state_of standing) c) e → TellsTooLong first.spent (met stream) e
unfolding met
tells_there stream i c first before standing faults e at taken t =
    let x = state_from first_state (take i stream) in
    let whole : stream ≡ take i stream ++ (c ∷ drop (i + 1) stream) =
    sym (take-append-drop (i + 1) stream) ∙ ap (λ cs. cs ++ drop (i + 1) stream) (next_of stream i c at) ∙ append_assoc (take i stream) (c ∷ []) (drop (i + 1) stream) in
    let parts : (met_from first_state (take i stream) ++ met_at x c) ++ met_from (state_after x c) (drop (i + 1) stream) ≡ met_from first_state stream =
    append_assoc (met_from first_state (take i stream)) (met_at x c) (met_from (state_after x c) (drop (i + 1) stream))
    ∙ sym (met_then first_state (take i stream) (c ∷ drop (i + 1) stream)) ∙ ap (met_from first_state) (sym whole) in
    subst (λ (ms : List ListCommand). TellsTooLong first.spent ms e) parts
    (tells_more first.spent (met_from first_state (take i stream) ++ met_at x c) (met_from (state_after x c) (drop (i + 1) stream)) e
    (tells_later first before (met_from first_state (take i stream)) (met_at x c) e taken.adds
    (subst (λ (y : ListState). TellsTooLong before.spent (met_at y c) e) taken.state t)))

-- ---- the answer

pub tells_stream : (stream shown : List ListCommand) (spent i : ℕ) (c : ListCommand) (first before : Given) (standing : Standing) (faults : List (ℕ × Fault)) (e : ExpandFault)
    → shown ≡ stream → first.spent ≡ spent → slice_get shown i ≡ Some c → HasTaken shown i first standing faults before
    → TellsTooLong before.spent (met_at (state_of standing) c) e → TellsTooLong spent (met stream) e
tells_stream stream shown spent i c first before standing faults e same paid at taken t =
    subst (λ (cs : List ListCommand). TellsTooLong spent (met cs) e) same
    (subst (λ (n : ℕ). TellsTooLong n (met shown) e) paid (tells_there shown i c first before standing faults e at taken t))

-- what was given, where nothing was before
pub expanded_is : (stream shown : List ListCommand) (spent i : ℕ) (first given : Given) (standing : Standing) (faults : List (ℕ × Fault))
    → shown ≡ stream → first.commands ≡ [] → first.count ≡ 0 → first.spent ≡ spent → length shown ≤ i → HasTaken shown i first standing faults given
    → record { commands = given.commands; count = given.count; faults = faults; spent = given.spent } ≡ expansion_of stream spent
unfolding expansion_of
expanded_is stream shown spent i first given standing faults same empty none paid end taken =
    let all = taken_all shown i first given standing faults end taken in
    let commands_are : given.commands ≡ stored (plain_commands (met stream)) =
    all.1.given ∙ ap (λ cs. stored (cs ++ plain_commands (met shown))) empty ∙ ap (λ cs. stored (plain_commands (met cs))) same in
    let count_is : given.count ≡ length (plain_commands (met stream)) = all.1.counted ∙ omega (arith, none) ∙ ap (λ cs. length (plain_commands (met cs))) same in
    let faults_are : faults ≡ list_faults stream = all.0 ∙ ap list_faults same in
    let spent_is : given.spent ≡ spent + costs (met stream) = all.1.spent ∙ ap (λ n. n + costs (met shown)) paid ∙ ap (λ cs. spent + costs (met cs)) same in
    λ i. record { commands = commands_are i; count = count_is i; faults = faults_are i; spent = spent_is i }

pub within_stream : (stream shown : List ListCommand) (spent i : ℕ) (first given : Given) (standing : Standing) (faults : List (ℕ × Fault))
    → shown ≡ stream → first.spent ≡ spent → length shown ≤ i → HasTaken shown i first standing faults given → spent + costs (met stream) ≤ most_cost
within_stream stream shown spent i first given standing faults same paid end taken =
    let all = taken_all shown i first given standing faults end taken in
    subst (λ (cs : List ListCommand). spent + costs (met cs) ≤ most_cost) same (omega (arith, all.1.spent, paid, given.within))
