-- Refused commands.
use Rattle.std.proofs.Common.{◌≡◌, ℕ, zero, suc, ◌+◌, true, false, List, [], ◌∷◌, ◌++◌, inl, inr, length, refl, ap, sym, subst, ◌∙◌, arith, lit<}
use Rattle.std.specs.Prelude.{slice_set, unwrap_or, replicate, is_some, Some, if◌then◌else◌}
use Rattle.std.proofs.lemmas.List.Concat.{flat_map-cons}
use Rattle.std.proofs.lemmas.Option.{slice_get_past}
use Rattle.std.proofs.lemmas.Bool.{cases_lt, lt-ltb, le-leb}
use Rattle.rc_base.specs.Lists.{IsIn, with_name}
use Rattle.rc_base.specs.declared.list_command.ListCommand.{ListCommand}
use Rattle.rc_base.specs.declared.list_command.ListCommand.TheVariants.{Plain, NewList, EndList, CallList}
use Rattle.rc_base.specs.declared.state.Fault.{Fault}
use Rattle.scene_lemmas.proofs.Numbered.{is_in_behind}
use Rattle.call_lists.specs.Expansion.{Lists, ListState, list_at, is_list_name, list_fault, state_with, first_state, state_after, state_from, called, met_at, met_from, met, plain_of, plain_commands, fault_at, faults_from, list_faults}
use Rattle.call_lists.specs.Expansion.ListState.{Calling, Recording}
use Rattle.call_lists.proofs.CommandsMet.{plain_then}
use Rattle.call_lists.proofs.ListsCalled.{called_empty}
use Rattle.call_lists.proofs.StreamsTaken.{met_then, faults_then}

-- ---- there are 64 lists

abbrev lists_of : ListState → Lists
lists_of (Calling lists) = lists
lists_of (Recording lists name commands) = lists

length_set : (lists : Lists) (i : ℕ) (commands : List ListCommand) → length (slice_set lists i commands) ≡ length lists
length_set [] i commands = refl
length_set (l ∷ ls) zero commands = refl
length_set (l ∷ ls) (suc i) commands = ap suc (length_set ls i commands)

length_with : (lists : Lists) (name : ℕ) (commands : List ListCommand) → length (with_name lists name commands) ≡ length lists
length_with lists zero commands = refl
length_with lists (suc n) commands = length_set lists n commands

as_many_with : (x : ListState) (c : ListCommand) → length (lists_of (state_with x c)) ≡ length (lists_of x)
as_many_with (Calling lists) (Plain c) = refl
as_many_with (Calling lists) (NewList name) = refl
as_many_with (Calling lists) EndList = refl
as_many_with (Calling lists) (CallList name) = refl
as_many_with (Recording lists name commands) (Plain c) = refl
as_many_with (Recording lists name commands) (NewList other) = refl
as_many_with (Recording lists name commands) EndList = length_with lists name commands
as_many_with (Recording lists name commands) (CallList other) = refl

as_many_after : (x : ListState) (c : ListCommand) → length (lists_of (state_after x c)) ≡ length (lists_of x)
as_many_after x c = elim (is_some (list_fault x c)) as (λ b. length (lists_of (if b then x else state_with x c)) ≡ length (lists_of x)) [ true ↦ refl | false ↦ as_many_with x c ]

as_many_from : (x : ListState) (cs : List ListCommand) → length (lists_of (state_from x cs)) ≡ length (lists_of x)
as_many_from x [] = refl
as_many_from x (c ∷ cs) = as_many_from (state_after x c) cs ∙ as_many_after x c

abbrev empty_lists : ℕ → Lists
empty_lists n = replicate n []

length_empty : (n : ℕ) → length (empty_lists n) ≡ n
length_empty zero = refl
length_empty (suc n) = ap suc (length_empty n)

-- ---- what a refused command gives

-- a name that is none of the 64 has no list
no_list : (lists : Lists) (name : ℕ) → length lists ≡ 64 → is_list_name name ≡ false → list_at lists name ≡ []
no_list lists zero many none = refl
no_list lists (suc n) many none =
    elim (cases_lt n 64) as (λ _. list_at lists (suc n) ≡ []) [
      | inl inside ↦
          let named : is_list_name (suc n) ≡ true = rw (lt-ltb 0 (suc n) (omega arith), le-leb (suc n) 64 (omega (arith, inside))) refl in
          let clash : true ≡ false = sym named ∙ none in
          absurd cc
      | inr past ↦ ap (λ l. unwrap_or l []) (slice_get_past lists n (omega (arith, many, past)))
    ]

gives_nothing : (lists : Lists) (name : ℕ) → length lists ≡ 64 → is_list_name name ≡ false → plain_commands (met_at (Calling lists) (CallList name)) ≡ []
gives_nothing lists name many none =
    flat_map-cons plain_of (CallList name) (called lists 8 name) ∙ ap plain_commands (sym (called_empty lists 8 name (lit< tt) (no_list lists name many none)))

refused_gives : (x : ListState) (c : ListCommand) (f : Fault) → length (lists_of x) ≡ 64 → list_fault x c ≡ Some f → plain_commands (met_at x c) ≡ []
refused_gives (Calling lists) (Plain c) f many refused = absurd cc
refused_gives (Calling lists) (NewList name) f many refused = flat_map-cons plain_of (NewList name) []
refused_gives (Calling lists) EndList f many refused = flat_map-cons plain_of EndList []
refused_gives (Calling lists) (CallList name) f many refused =
    (elim (is_list_name name) as (λ b. is_list_name name ≡ b → plain_commands (met_at (Calling lists) (CallList name)) ≡ []) [
      | true ↦ λ named. absurd cc
      | false ↦ λ named. gives_nothing lists name many named
    ]) refl
refused_gives (Recording lists name commands) (Plain c) f many refused = refl
refused_gives (Recording lists name commands) (NewList other) f many refused = refl
refused_gives (Recording lists name commands) EndList f many refused = absurd cc
refused_gives (Recording lists name commands) (CallList other) f many refused = refl

refused_stays : (x : ListState) (c : ListCommand) (f : Fault) → list_fault x c ≡ Some f → state_after x c ≡ x
refused_stays x c f refused = ap (λ o. if is_some o then x else state_with x c) refused

-- ---- a refused command in its stream

left_out : (front rest : List ListCommand) (c : ListCommand) (f : Fault) → list_fault (state_from first_state front) c ≡ Some f
    → plain_commands (met (front ++ c ∷ rest)) ≡ plain_commands (met (front ++ rest))
unfolding met
left_out front rest c f refused =
    let x = state_from first_state front in
    let before = met_from first_state front in
    let many : length (lists_of x) ≡ 64 = as_many_from first_state front ∙ length_empty 64 in
    ap plain_commands (met_then first_state front (c ∷ rest))
    ∙ plain_then before (met_at x c ++ met_from (state_after x c) rest)
    ∙ ap (λ cs. plain_commands before ++ cs) (plain_then (met_at x c) (met_from (state_after x c) rest))
    ∙ ap (λ cs. plain_commands before ++ (cs ++ plain_commands (met_from (state_after x c) rest))) (refused_gives x c f many refused)
    ∙ ap (λ y. plain_commands before ++ plain_commands (met_from y rest)) (refused_stays x c f refused)
    ∙ sym (plain_then before (met_from x rest))
    ∙ ap plain_commands (sym (met_then first_state front rest))

noted : (front rest : List ListCommand) (c : ListCommand) (f : Fault) → list_fault (state_from first_state front) c ≡ Some f
    → IsIn (length front, f) (list_faults (front ++ c ∷ rest))
unfolding list_faults
noted front rest c f refused =
    let x = state_from first_state front in
    let more = faults_from (state_after x c) (0 + length front + 1) rest in
    let place : 0 + length front ≡ length front = omega arith in
    subst (λ (fs : List (ℕ × Fault)). IsIn (length front, f) fs) (sym (faults_then first_state 0 front (c ∷ rest)))
    (is_in_behind (length front, f) (faults_from first_state 0 front) (fault_at (0 + length front) (list_fault x c) ++ more)
    (subst (λ o. IsIn (length front, f) (fault_at (0 + length front) o ++ more)) (sym refused) (inl (ap (λ n. (n, f)) place))))

pub refused_left_out : (front rest : List ListCommand) (c : ListCommand) (f : Fault) → list_fault (state_from first_state front) c ≡ Some f
    → (plain_commands (met (front ++ c ∷ rest)) ≡ plain_commands (met (front ++ rest)))
    × IsIn (length front, f) (list_faults (front ++ c ∷ rest))
refused_left_out front rest c f refused = (left_out front rest c f refused, noted front rest c f refused)
