-- Commands in the form in which they are kept are the commands.
use Rattle.std.proofs.Common.{◌≡◌, ◌∙◌, ℕ, zero, suc, ◌+◌, ◌<◌, List, [], ◌∷◌, ◌++◌, length, get_or, Some, refl, ap, arith}
use Rattle.std.specs.Prelude.{slice_get}
use Rattle.std.specs.declared.option.Option.{Option}
use Rattle.std.specs.Option.{option_map_or}
use Rattle.std.proofs.Math.Seq.{get_or-append_seam}
use Rattle.std.proofs.lemmas.List.{get_or_append_left, length-append, map-append}
use Rattle.rc_base.specs.declared.command.Command.{Command}
use Rattle.rc_base.specs.declared.command.Command.TheVariants as cmd
use Rattle.command_store.specs.Stores.{command_of, commands_in, AreStored, GrewByAtMostOne, HasItsOther, IsStoredAs}
use Rattle.command_store.specs.declared.command.StoredCommand.{StoredCommand}
use Rattle.command_store.specs.declared.command.StoredCommand.TheVariants as stored

-- more that is kept whole changes nothing of what was stored before
one_alike : (others more : List Command) (s : StoredCommand) → HasItsOther (length others) s → command_of (others ++ more) s ≡ command_of others s
one_alike others more (stored.Begin mode) h = refl
one_alike others more stored.End h = refl
one_alike others more (stored.Vertex pos) h = refl
one_alike others more (stored.Color color) h = refl
one_alike others more (stored.TexCoord s t) h = refl
one_alike others more (stored.Other number) h = get_or_append_left others more cmd.End number (h number refl)

some_is : (s t : StoredCommand) → Some s ≡ Some t → s ≡ t
some_is s t e = ap (λ (o : Option StoredCommand). option_map_or (λ x. x) o s) e

all_alike : (others more : List Command) (kept : List StoredCommand) → ((place number : ℕ) → slice_get kept place ≡ Some (stored.Other number) → number < length others)
    → commands_in (others ++ more) kept ≡ commands_in others kept
all_alike others more [] h = refl
all_alike others more (s ∷ kept) h =
    λ i. one_alike others more s (λ number e. h zero number (ap (λ (x : StoredCommand). Some x) e)) i ∷ all_alike others more kept (λ place. h (suc place)) i

there_more : (count : ℕ) (kept : List StoredCommand) (s : StoredCommand) → ((place number : ℕ) → slice_get kept place ≡ Some (stored.Other number) → number < count) → HasItsOther count s
    → (place number : ℕ) → slice_get (kept ++ s ∷ []) place ≡ Some (stored.Other number) → number < count
there_more count [] s h own zero number e = own number (some_is s (stored.Other number) e)
there_more count [] s h own (suc place) number e = absurd cc
there_more count (x ∷ kept) s h own zero number e = h zero number e
there_more count (x ∷ kept) s h own (suc place) number e = there_more count kept s (λ p. h (suc p)) own place number e

-- one command more
module _ (before after : List Command) (kept : List StoredCommand) (s : StoredCommand) (c : Command) (grew : GrewByAtMostOne before after) (h : AreStored before kept) (is : IsStoredAs after s c) where
  pub stored_more : AreStored after (kept ++ s ∷ [])
  stored_more =
      let more = grew.0 in
      let long : length after ≡ length before + length more = ap length grew.1 ∙ length-append before more in
      let all = length-append kept (s ∷ []) in
      let few = h.few in
      let one = grew.2 in
      record {
        there = there_more (length after) kept s (λ place number e. let low = h.there place number e in omega (arith, low, long)) is.1;
        few = omega (arith, long, all, few, one);
      }

  pub commands_more : commands_in after (kept ++ s ∷ []) ≡ commands_in before kept ++ c ∷ []
  commands_more =
      map-append (command_of after) kept (s ∷ [])
      ∙ (λ i. (ap (λ (others : List Command). commands_in others kept) grew.1 ∙ all_alike before grew.0 kept h.there) i ++ is.0 i ∷ [])

-- ---- one that is kept whole

number_in : StoredCommand → ℕ
number_in (stored.Begin mode) = 0
number_in stored.End = 0
number_in (stored.Vertex pos) = 0
number_in (stored.Color color) = 0
number_in (stored.TexCoord s t) = 0
number_in (stored.Other number) = number

pub other_stored : (others after : List Command) (c d : Command) (number : ℕ) → after ≡ others ++ d ∷ [] → number ≡ length others → d ≡ c → IsStoredAs after (stored.Other number) c
unfolding number_in
other_stored others after c d number is last same = (
  (λ i. get_or (is i) (last i) cmd.End) ∙ get_or-append_seam others d [] cmd.End ∙ same,
  λ n e. (
      let at : number ≡ n = ap number_in e in
      let long : length after ≡ length others + length (d ∷ []) = ap length is ∙ length-append others (d ∷ []) in
      omega (arith, at, long, last)
      ),
)
