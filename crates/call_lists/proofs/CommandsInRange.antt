-- Expanded commands have their fields in range.
use Rattle.std.proofs.Common.{ℕ, zero, suc, List, [], ◌∷◌, sym, subst}
use Rattle.std.specs.List.{flat_map, AllByRecursion}
use Rattle.std.proofs.lemmas.List.Concat.{flat_map-cons}
use Rattle.rc_base.specs.Formats.Commands.{IsCommand}
use Rattle.rc_base.specs.Formats.Spelling.{IsListCommand}
use Rattle.rc_base.specs.declared.list_command.ListCommand.{ListCommand}
use Rattle.rc_base.specs.declared.list_command.ListCommand.TheVariants.{Plain, NewList, EndList, CallList}
use Rattle.plain_lemmas.proofs.Lists.{all_append}
use Rattle.call_lists.specs.Expansion.{Lists, ListState, list_at, first_state, state_after, called, met_with, met_at, met_from, met, plain_of}
use Rattle.call_lists.specs.Expansion.ListState.{Calling, Recording}
use Rattle.call_lists.specs.Scenes.{expanded}
use Rattle.call_lists.proofs.ListsRecorded.{AllHold, after_holds, list_holds, first_holds}

all_flat : {X Y : Type 0} (P : X → Type 0) (Q : Y → Type 0) (f : X → List Y) → ((x : X) → P x → AllByRecursion Q (f x))
    → (xs : List X) → AllByRecursion P xs → AllByRecursion Q (flat_map f xs)
all_flat P Q f each [] all = tt
all_flat P Q f each (x ∷ xs) all =
    subst (AllByRecursion Q) (sym (flat_map-cons f x xs)) (all_append Q (f x) (flat_map f xs) (each x all.0) (all_flat P Q f each xs all.1))

-- ---- what is met

met_with_in_range : (call : ℕ → List ListCommand) → ((name : ℕ) → AllByRecursion IsListCommand (call name))
    → (c : ListCommand) → IsListCommand c → AllByRecursion IsListCommand (met_with call c)
met_with_in_range call each (Plain c) fits = (fits, tt)
met_with_in_range call each (NewList name) fits = (fits, tt)
met_with_in_range call each EndList fits = (tt, tt)
met_with_in_range call each (CallList name) fits = (fits, each name)

called_in_range : (lists : Lists) → AllByRecursion (AllByRecursion IsListCommand) lists → (levels name : ℕ) → AllByRecursion IsListCommand (called lists levels name)
unfolding called
called_in_range lists all zero name = tt
called_in_range lists all (suc levels) name =
    all_flat IsListCommand IsListCommand (met_with (called lists levels)) (met_with_in_range (called lists levels) (called_in_range lists all levels))
    (list_at lists name) (list_holds IsListCommand lists name all)

met_at_in_range : (x : ListState) (c : ListCommand) → AllHold IsListCommand x → IsListCommand c → AllByRecursion IsListCommand (met_at x c)
met_at_in_range (Calling lists) c h fits = met_with_in_range (called lists 8) (called_in_range lists h 8) c fits
met_at_in_range (Recording lists name commands) (Plain c) h fits = tt
met_at_in_range (Recording lists name commands) (NewList other) h fits = tt
met_at_in_range (Recording lists name commands) EndList h fits = (tt, tt)
met_at_in_range (Recording lists name commands) (CallList other) h fits = tt

met_from_in_range : (x : ListState) (cs : List ListCommand) → AllHold IsListCommand x → AllByRecursion IsListCommand cs → AllByRecursion IsListCommand (met_from x cs)
met_from_in_range x [] h fits = tt
met_from_in_range x (c ∷ cs) h fits =
    all_append IsListCommand (met_at x c) (met_from (state_after x c) cs) (met_at_in_range x c h fits.0)
    (met_from_in_range (state_after x c) cs (after_holds IsListCommand x c h (λ _. fits.0)) fits.1)

-- ---- what is given

plain_in_range : (c : ListCommand) → IsListCommand c → AllByRecursion IsCommand (plain_of c)
plain_in_range (Plain c) fits = (fits, tt)
plain_in_range (NewList name) fits = tt
plain_in_range EndList fits = tt
plain_in_range (CallList name) fits = tt

pub expanded_in_range : (stream : List ListCommand) → AllByRecursion IsListCommand stream → AllByRecursion IsCommand (expanded stream)
unfolding met
expanded_in_range stream fits =
    all_flat IsListCommand IsCommand plain_of plain_in_range (met_from first_state stream) (met_from_in_range first_state stream (first_holds IsListCommand) fits)
