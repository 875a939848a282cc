-- Calls, and the commands of their lists in their place.
use Rattle.std.proofs.Common.{◌≡◌, ℕ, zero, suc, List, [], ◌∷◌, ◌++◌, lit<, map, replicate, refl, ap, sym, subst, ◌∙◌, append_assoc}
use Rattle.std.specs.List.{flat_map, AllByRecursion}
use Rattle.std.proofs.lemmas.List.{append-nil}
use Rattle.std.proofs.lemmas.List.Concat.{flat_map-cons}
use Rattle.rc_base.specs.declared.command.Command.{Command}
use Rattle.rc_base.specs.declared.list_command.ListCommand.{ListCommand}
use Rattle.rc_base.specs.declared.list_command.ListCommand.TheVariants.{Plain, NewList, EndList, CallList}
use Rattle.call_lists.specs.Expansion.{Lists, list_at, first_state, state_after, state_from, called, met_with, met_from, met, plain_of, plain_commands}
use Rattle.call_lists.specs.Expansion.ListState.{Calling}
use Rattle.call_lists.specs.Laws.{IsRecordable, LeadsTo, CallsWithin}
use Rattle.call_lists.proofs.CommandsMet.{plain_then}
use Rattle.call_lists.proofs.ListsCalled.{called_list}
use Rattle.call_lists.proofs.ListsRecorded.{AllHold, call_stays, list_holds, first_holds, from_recorded}
use Rattle.call_lists.proofs.PlainStreams.{plain_given}
use Rattle.call_lists.proofs.StreamsTaken.{met_then}

-- ---- calls that lead less deep

met_alike : (f g : ℕ → List ListCommand) (P : ℕ → Type 0) → ((name : ℕ) → P name → f name ≡ g name) → (c : ListCommand) → LeadsTo P c → met_with f c ≡ met_with g c
met_alike f g P same (Plain c) leads = refl
met_alike f g P same (NewList name) leads = refl
met_alike f g P same EndList leads = refl
met_alike f g P same (CallList name) leads = ap (λ ms. CallList name ∷ ms) (same name leads)

all_alike : (f g : ℕ → List ListCommand) (P : ℕ → Type 0) → ((name : ℕ) → P name → f name ≡ g name) → (cs : List ListCommand) → AllByRecursion (LeadsTo P) cs
    → flat_map (met_with f) cs ≡ flat_map (met_with g) cs
all_alike f g P same [] leads = refl
all_alike f g P same (c ∷ cs) leads =
    flat_map-cons (met_with f) c cs
    ∙ ap (λ ms. ms ++ flat_map (met_with f) cs) (met_alike f g P same c leads.0)
    ∙ ap (λ ms. met_with g c ++ ms) (all_alike f g P same cs leads.1)
    ∙ sym (flat_map-cons (met_with g) c cs)

-- one level more gives nothing more
deeper : (lists : Lists) (levels : ℕ) (cs : List ListCommand) → CallsWithin lists levels cs
    → flat_map (met_with (called lists levels)) cs ≡ flat_map (met_with (called lists (suc levels))) cs
unfolding called CallsWithin
deeper lists zero cs within = all_alike (called lists zero) (called lists (suc zero)) (λ _. ⊥) (λ name leads. absurd leads) cs within
deeper lists (suc levels) cs within =
    all_alike (called lists (suc levels)) (called lists (suc (suc levels))) (λ name. CallsWithin lists levels (list_at lists name))
    (λ name leads. deeper lists levels (list_at lists name) leads) cs within

-- ---- a list in the place of its call

call_alone : (lists : Lists) (c : ListCommand) → IsRecordable c → state_after (Calling lists) c ≡ Calling lists
call_alone lists (Plain c) fits = refl
call_alone lists (NewList name) fits = absurd fits
call_alone lists EndList fits = refl
call_alone lists (CallList name) fits = call_stays lists name

met_in_place : (lists : Lists) (cs rest : List ListCommand) → AllByRecursion IsRecordable cs
    → met_from (Calling lists) (cs ++ rest) ≡ flat_map (met_with (called lists 8)) cs ++ met_from (Calling lists) rest
met_in_place lists [] rest fits = refl
met_in_place lists (c ∷ cs) rest fits =
    ap (λ x. met_with (called lists 8) c ++ met_from x (cs ++ rest)) (call_alone lists c fits.0)
    ∙ ap (λ ms. met_with (called lists 8) c ++ ms) (met_in_place lists cs rest fits.1)
    ∙ sym (append_assoc (met_with (called lists 8) c) (flat_map (met_with (called lists 8)) cs) (met_from (Calling lists) rest))
    ∙ ap (λ ms. ms ++ met_from (Calling lists) rest) (sym (flat_map-cons (met_with (called lists 8)) c cs))

met_at_call : (lists : Lists) (name : ℕ) (rest : List ListCommand)
    → met_from (Calling lists) (CallList name ∷ rest) ≡ CallList name ∷ (called lists 8 name ++ met_from (Calling lists) rest)
met_at_call lists name rest = ap (λ x. CallList name ∷ (called lists 8 name ++ met_from x rest)) (call_stays lists name)

no_more : (name : ℕ) (cs : List ListCommand) → plain_commands (CallList name ∷ cs) ≡ plain_commands cs
no_more name cs = flat_map-cons plain_of (CallList name) cs

pub call_in_place : (front rest : List ListCommand) (lists : Lists) (name : ℕ) → state_from first_state front ≡ Calling lists → CallsWithin lists 7 (list_at lists name)
    → plain_commands (met (front ++ CallList name ∷ rest)) ≡ plain_commands (met (front ++ (list_at lists name ++ rest)))
unfolding met
call_in_place front rest lists name at within =
    let before = met_from first_state front in
    let after = met_from (Calling lists) rest in
    let body = list_at lists name in
    let sound : AllHold IsRecordable (Calling lists) = subst (AllHold IsRecordable) at (from_recorded first_state front (first_holds IsRecordable)) in
    let one : met_from first_state (front ++ CallList name ∷ rest) ≡ before ++ (CallList name ∷ (called lists 8 name ++ after)) =
    met_then first_state front (CallList name ∷ rest) ∙ ap (λ x. before ++ met_from x (CallList name ∷ rest)) at ∙ ap (λ ms. before ++ ms) (met_at_call lists name rest) in
    let other : met_from first_state (front ++ (body ++ rest)) ≡ before ++ (flat_map (met_with (called lists 8)) body ++ after) =
    met_then first_state front (body ++ rest) ∙ ap (λ x. before ++ met_from x (body ++ rest)) at ∙ ap (λ ms. before ++ ms) (met_in_place lists body rest (list_holds IsRecordable lists name sound)) in
    let same : called lists 8 name ≡ flat_map (met_with (called lists 8)) body = sym (called_list lists 8 name (lit< tt)) ∙ deeper lists 7 body within in
    ap plain_commands one ∙ plain_then before (CallList name ∷ (called lists 8 name ++ after))
    ∙ ap (λ cs. plain_commands before ++ cs) (no_more name (called lists 8 name ++ after))
    ∙ ap (λ ms. plain_commands before ++ plain_commands (ms ++ after)) same
    ∙ sym (plain_then before (flat_map (met_with (called lists 8)) body ++ after)) ∙ ap plain_commands (sym other)

-- ---- a list that calls itself

met_of_plain : (f : ℕ → List ListCommand) (cs : List Command) (name : ℕ) → flat_map (met_with f) (map (λ c. Plain c) cs ++ CallList name ∷ []) ≡ map (λ c. Plain c) cs ++ CallList name ∷ f name
met_of_plain f [] name = flat_map-cons (met_with f) (CallList name) [] ∙ append-nil (CallList name ∷ f name)
met_of_plain f (c ∷ cs) name =
    flat_map-cons (met_with f) (Plain c) (map (λ d. Plain d) cs ++ CallList name ∷ []) ∙ ap (λ ms. Plain c ∷ ms) (met_of_plain f cs name)

pub calls_itself : (lists : Lists) (name : ℕ) (commands : List Command) → list_at lists name ≡ map (λ c. Plain c) commands ++ CallList name ∷ []
    → (levels : ℕ) → plain_commands (called lists levels name) ≡ flat_map (λ part. part) (replicate levels commands)
unfolding called
calls_itself lists name commands itself zero = refl
calls_itself lists name commands itself (suc levels) =
    ap (λ cs. plain_commands (flat_map (met_with (called lists levels)) cs)) itself
    ∙ ap plain_commands (met_of_plain (called lists levels) commands name)
    ∙ plain_then (map (λ c. Plain c) commands) (CallList name ∷ called lists levels name)
    ∙ ap (λ cs. cs ++ plain_commands (CallList name ∷ called lists levels name)) (plain_given commands)
    ∙ ap (λ cs. commands ++ cs) (no_more name (called lists levels name))
    ∙ ap (λ cs. commands ++ cs) (calls_itself lists name commands itself levels)
    ∙ sym (flat_map-cons (λ part. part) commands (replicate levels commands))

pub call_of_itself : (front : List ListCommand) (lists : Lists) (name : ℕ) (commands : List Command) → state_from first_state front ≡ Calling lists
    → list_at lists name ≡ map (λ c. Plain c) commands ++ CallList name ∷ []
    → plain_commands (met (front ++ CallList name ∷ [])) ≡ plain_commands (met front) ++ flat_map (λ part. part) (replicate 8 commands)
unfolding met
call_of_itself front lists name commands at itself =
    let before = met_from first_state front in
    ap plain_commands (met_then first_state front (CallList name ∷ []) ∙ ap (λ x. before ++ met_from x (CallList name ∷ [])) at)
    ∙ plain_then before (CallList name ∷ (called lists 8 name ++ []))
    ∙ ap (λ cs. plain_commands before ++ cs) (no_more name (called lists 8 name ++ []))
    ∙ ap (λ ms. plain_commands before ++ plain_commands ms) (append-nil (called lists 8 name))
    ∙ ap (λ cs. plain_commands before ++ cs) (calls_itself lists name commands itself 8)
