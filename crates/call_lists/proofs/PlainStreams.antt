-- Streams without list commands.
use Rattle.std.proofs.Common.{◌≡◌, ℕ, ◌+◌, List, [], ◌∷◌, map, refl, ap, ◌∙◌}
use Rattle.std.proofs.lemmas.List.Concat.{flat_map-cons}
use Rattle.rc_base.specs.declared.command.Command.{Command}
use Rattle.rc_base.specs.declared.list_command.ListCommand.TheVariants.{Plain}
use Rattle.call_lists.specs.Expansion.{Lists, no_lists, plain_of, plain_commands, met_from, met, faults_from, list_faults}
use Rattle.call_lists.specs.Expansion.ListState.{Calling}

plain_met : (lists : Lists) (cs : List Command) → met_from (Calling lists) (map (λ c. Plain c) cs) ≡ map (λ c. Plain c) cs
plain_met lists [] = refl
plain_met lists (c ∷ cs) = ap (λ ms. Plain c ∷ ms) (plain_met lists cs)

pub plain_given : (cs : List Command) → plain_commands (map (λ c. Plain c) cs) ≡ cs
plain_given [] = refl
plain_given (c ∷ cs) = flat_map-cons plain_of (Plain c) (map (λ d. Plain d) cs) ∙ ap (λ ds. c ∷ ds) (plain_given cs)

plain_faults : (lists : Lists) (place : ℕ) (cs : List Command) → faults_from (Calling lists) place (map (λ c. Plain c) cs) ≡ []
plain_faults lists place [] = refl
plain_faults lists place (c ∷ cs) = plain_faults lists (place + 1) cs

pub plain_stream_met : (cs : List Command) → met (map (λ c. Plain c) cs) ≡ map (λ c. Plain c) cs
unfolding met
plain_stream_met cs = plain_met no_lists cs

pub plain_stream_given : (cs : List Command) → plain_commands (met (map (λ c. Plain c) cs)) ≡ cs
plain_stream_given cs = ap plain_commands (plain_stream_met cs) ∙ plain_given cs

pub plain_stream_faults : (cs : List Command) → list_faults (map (λ c. Plain c) cs) ≡ []
unfolding list_faults
plain_stream_faults cs = plain_faults no_lists 0 cs
