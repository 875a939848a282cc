-- The name that a word spells: a command's, or one of the others.
use Rattle.std.proofs.Common.{◌≡◌, ℕ, Bool, true, false, cond, List, [], ◌∷◌, map, ap, refl, ◌∙◌, Some, None}
use Rattle.std.specs.List.{find}
use Rattle.std.specs.Option.{option_map, option_or}
use Rattle.std.proofs.lemmas.List.Folds.{find-append}
use Rattle.rc_base.specs.declared.command.Opcode.{Opcode}
use Rattle.rc_base.specs.declared.text.LineName.{LineName}
use Rattle.rc_base.specs.declared.text.LineName.TheVariants as line
use Rattle.rc_base.specs.Formats.Commands.{opcodes}
use Rattle.scene_text.specs.Text.Read.{has_name, name_of}
use Rattle.command_table.specs.Opcodes.{opcode_of_name}

abbrev pub declared_names : List LineName
declared_names = line.Scene ∷ line.Shared ∷ line.Barrier ∷ line.Semaphore ∷ line.Client ∷ []

find_mapped : {A B : Type 0} (p : B → Bool) (f : A → B) (xs : List A) → find p (map f xs) ≡ option_map f (find (λ x. p (f x)) xs)
find_mapped p f [] = refl
find_mapped p f (x ∷ xs) = by (p (f x)) (find_mapped p f xs)
  where
    by : (b : Bool) → find p (map f xs) ≡ option_map f (find (λ x. p (f x)) xs) → cond b (Some (f x)) (find p (map f xs)) ≡ option_map f (cond b (Some x) (find (λ x. p (f x)) xs))
    by true e = refl
    by false e = e

name_found : (word : List ℕ) → name_of word ≡ option_or (option_map (λ o. line.Command o) (opcode_of_name word)) (find (has_name word) declared_names)
unfolding name_of opcode_of_name
name_found word =
    find-append (has_name word) (map (λ o. line.Command o) opcodes) declared_names
    ∙ ap (λ r. option_or r (find (has_name word) declared_names)) (find_mapped (has_name word) (λ o. line.Command o) opcodes)

pub command_name : (word : List ℕ) (o : Opcode) → opcode_of_name word ≡ Some o → name_of word ≡ Some (line.Command o)
command_name word o e = name_found word ∙ ap (λ r. option_or (option_map (λ o. line.Command o) r) (find (has_name word) declared_names)) e

pub declared_name : (word : List ℕ) → opcode_of_name word ≡ None → name_of word ≡ find (has_name word) declared_names
declared_name word e = name_found word ∙ ap (λ r. option_or (option_map (λ o. line.Command o) r) (find (has_name word) declared_names)) e
