-- Recordings, and what the lists that they make hold.
use Rattle.std.proofs.Common.{◌≡◌, ℕ, zero, suc, true, false, List, [], ◌∷◌, ◌++◌, refl, ap, sym, subst, ◌∙◌, append_assoc}
use Rattle.std.specs.Prelude.{slice_get, slice_set, unwrap_or, replicate, is_some, None, Some, if◌then◌else◌}
use Rattle.rc_base.specs.declared.state.Fault.TheVariants.{InvalidValue}
use Rattle.std.specs.List.{AllByRecursion}
use Rattle.std.proofs.lemmas.List.{append-nil}
use Rattle.rc_base.specs.Lists.{with_name}
use Rattle.rc_base.specs.declared.list_command.ListCommand.{ListCommand}
use Rattle.rc_base.specs.declared.list_command.ListCommand.TheVariants.{Plain, NewList, EndList, CallList}
use Rattle.call_lists.specs.Expansion.{Lists, ListState, no_lists, list_at, is_list_name, state_with, state_after, state_from, met_at, met_from}
use Rattle.call_lists.specs.Expansion.ListState.{Calling, Recording}
use Rattle.call_lists.specs.Laws.{IsRecordable, recording}

-- ---- accepted commands

accepted_call : (x : ListState) (name : ℕ) → is_list_name name ≡ true → state_after x (CallList name) ≡ state_with x (CallList name)
accepted_call x name named = rw named refl

begun : (lists : Lists) (name : ℕ) → is_list_name name ≡ true → state_after (Calling lists) (NewList name) ≡ Recording lists name []
begun lists name named = rw named refl

-- outside a recording a call changes nothing, accepted or not
pub call_stays : (lists : Lists) (name : ℕ) → state_after (Calling lists) (CallList name) ≡ Calling lists
call_stays lists name = elim (is_list_name name) as (λ b. (if is_some (if b then None else Some InvalidValue) then Calling lists else Calling lists) ≡ Calling lists) [ true ↦ refl | false ↦ refl ]

recorded : (lists : Lists) (name : ℕ) (before : List ListCommand) (c : ListCommand) → IsRecordable c → state_after (Recording lists name before) c ≡ Recording lists name (before ++ c ∷ [])
recorded lists name before (Plain c) fits = refl
recorded lists name before (NewList other) fits = absurd fits
recorded lists name before EndList fits = absurd fits
recorded lists name before (CallList other) fits = accepted_call (Recording lists name before) other fits

not_met : (lists : Lists) (name : ℕ) (before : List ListCommand) (c : ListCommand) → IsRecordable c → met_at (Recording lists name before) c ≡ []
not_met lists name before (Plain c) fits = refl
not_met lists name before (NewList other) fits = absurd fits
not_met lists name before EndList fits = absurd fits
not_met lists name before (CallList other) fits = refl

-- ---- a whole recording

state_behind : (lists : Lists) (name : ℕ) (before commands : List ListCommand) → AllByRecursion IsRecordable commands
    → state_from (Recording lists name before) (commands ++ EndList ∷ []) ≡ Calling (with_name lists name (before ++ commands))
state_behind lists name before [] fits = ap (λ cs. Calling (with_name lists name cs)) (sym (append-nil before))
state_behind lists name before (c ∷ cs) fits =
    ap (λ x. state_from x (cs ++ EndList ∷ [])) (recorded lists name before c fits.0)
    ∙ state_behind lists name (before ++ c ∷ []) cs fits.1
    ∙ ap (λ ds. Calling (with_name lists name ds)) (append_assoc before (c ∷ []) cs)

met_within : (lists : Lists) (name : ℕ) (before commands : List ListCommand) → AllByRecursion IsRecordable commands
    → met_from (Recording lists name before) (commands ++ EndList ∷ []) ≡ EndList ∷ []
met_within lists name before [] fits = refl
met_within lists name before (c ∷ cs) fits =
    ap (λ ms. ms ++ met_from (state_after (Recording lists name before) c) (cs ++ EndList ∷ [])) (not_met lists name before c fits.0)
    ∙ ap (λ x. met_from x (cs ++ EndList ∷ [])) (recorded lists name before c fits.0)
    ∙ met_within lists name (before ++ c ∷ []) cs fits.1

pub recording_makes : (lists : Lists) (name : ℕ) (commands : List ListCommand) → is_list_name name ≡ true → AllByRecursion IsRecordable commands
    → (state_from (Calling lists) (recording name commands) ≡ Calling (with_name lists name commands))
    × (met_from (Calling lists) (recording name commands) ≡ NewList name ∷ EndList ∷ [])
recording_makes lists name commands named fits = (
  ap (λ x. state_from x (commands ++ EndList ∷ [])) (begun lists name named) ∙ state_behind lists name [] commands fits,
  ap (λ x. NewList name ∷ met_from x (commands ++ EndList ∷ [])) (begun lists name named) ∙ ap (λ ms. NewList name ∷ ms) (met_within lists name [] commands fits),
)

-- ---- what lists hold

-- P holds of each command of the lists and of the recording
abbrev pub AllHold : (ListCommand → Type 0) → ListState → Type 0
AllHold P (Calling lists) = AllByRecursion (AllByRecursion P) lists
AllHold P (Recording lists name commands) = AllByRecursion (AllByRecursion P) lists × AllByRecursion P commands

set_holds : (P : ListCommand → Type 0) (lists : Lists) (i : ℕ) (commands : List ListCommand) → AllByRecursion (AllByRecursion P) lists → AllByRecursion P commands
    → AllByRecursion (AllByRecursion P) (slice_set lists i commands)
set_holds P [] i commands all fits = all
set_holds P (l ∷ ls) zero commands all fits = (fits, all.1)
set_holds P (l ∷ ls) (suc i) commands all fits = (all.0, set_holds P ls i commands all.1 fits)

with_holds : (P : ListCommand → Type 0) (lists : Lists) (name : ℕ) (commands : List ListCommand) → AllByRecursion (AllByRecursion P) lists → AllByRecursion P commands
    → AllByRecursion (AllByRecursion P) (with_name lists name commands)
with_holds P lists zero commands all fits = all
with_holds P lists (suc n) commands all fits = set_holds P lists n commands all fits

at_holds : (P : ListCommand → Type 0) (lists : Lists) (i : ℕ) → AllByRecursion (AllByRecursion P) lists → AllByRecursion P (unwrap_or (slice_get lists i) [])
at_holds P [] i all = tt
at_holds P (l ∷ ls) zero all = all.0
at_holds P (l ∷ ls) (suc i) all = at_holds P ls i all.1

pub list_holds : (P : ListCommand → Type 0) (lists : Lists) (name : ℕ) → AllByRecursion (AllByRecursion P) lists → AllByRecursion P (list_at lists name)
list_holds P lists zero all = tt
list_holds P lists (suc n) all = at_holds P lists n all

push_holds : (P : ListCommand → Type 0) (commands : List ListCommand) (c : ListCommand) → AllByRecursion P commands → P c → AllByRecursion P (commands ++ c ∷ [])
push_holds P [] c all fits = (fits, tt)
push_holds P (d ∷ ds) c all fits = (all.0, push_holds P ds c all.1 fits)

-- P goes on holding where it holds of a command that is recorded
pub after_holds : (P : ListCommand → Type 0) (x : ListState) (c : ListCommand) → AllHold P x → (IsRecordable c → P c) → AllHold P (state_after x c)
after_holds P (Calling lists) (Plain c) h fits = h
after_holds P (Calling lists) (NewList name) h fits =
    elim (is_list_name name) as (λ b. AllHold P (if is_some (if b then None else Some InvalidValue) then Calling lists else Recording lists name [])) [
      | true ↦ (h, tt)
      | false ↦ h
    ]
after_holds P (Calling lists) EndList h fits = h
after_holds P (Calling lists) (CallList name) h fits = subst (AllHold P) (sym (call_stays lists name)) h
after_holds P (Recording lists name commands) (Plain c) h fits = (h.0, push_holds P commands (Plain c) h.1 (fits tt))
after_holds P (Recording lists name commands) (NewList other) h fits = h
after_holds P (Recording lists name commands) EndList h fits = with_holds P lists name commands h.0 h.1
after_holds P (Recording lists name commands) (CallList other) h fits =
    (elim (is_list_name other) as (λ b. is_list_name other ≡ b → AllHold P (if is_some (if b then None else Some InvalidValue) then Recording lists name commands else Recording lists name (commands ++ CallList other ∷ []))) [
      | true ↦ λ named. (h.0, push_holds P commands (CallList other) h.1 (fits named))
      | false ↦ λ named. h
    ]) refl

none_hold : (P : ListCommand → Type 0) (n : ℕ) → AllByRecursion (AllByRecursion P) (replicate n [])
none_hold P zero = tt
none_hold P (suc n) = (tt, none_hold P n)

pub first_holds : (P : ListCommand → Type 0) → AllHold P (Calling no_lists)
first_holds P = none_hold P 64

pub from_recorded : (x : ListState) (cs : List ListCommand) → AllHold IsRecordable x → AllHold IsRecordable (state_from x cs)
from_recorded x [] h = h
from_recorded x (c ∷ cs) h = from_recorded (state_after x c) cs (after_holds IsRecordable x c h (λ fits. fits))
