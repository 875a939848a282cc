-- The command of a client at a place, and what issuing it needs.
use Rattle.std.proofs.Common.{◌≡◌, ℕ, ◌+◌, ◌<◌, ◌≤◌, ◌^◌, List, [], length, get_or, Some, ap, sym, ◌∙◌, arith, inl, inr}
use Rattle.std.specs.Prelude.{slice_get}
use Rattle.std.specs.List.{AllByRecursion}
use Rattle.std.proofs.lemmas.Bool.{cases_lt}
use Rattle.std.proofs.lemmas.List.{get_or_default, get_or_past}
use Rattle.std.proofs.lemmas.Option.{slice_get-get_or}
use Rattle.rc_base.specs.Formats.Commands.{IsCommand}
use Rattle.rc_base.specs.Contexts.Context.{ClientContext, edit_of}
use Rattle.rc_base.specs.Contexts.Issue.{context_after, command_at, stream_of}
use Rattle.rc_base.specs.declared.command.Command.{Command}
use Rattle.rc_base.specs.declared.scene.Scene.{Scene}
use Rattle.gl_context.specs.Arguments.{HasTexels}
use Rattle.gl_context.proofs.ImagesGoOn.{at_most}
use Rattle.gl_context.proofs.Texels.{has_texels}
use Rattle.gl_context.proofs.ValidContexts.{command_of, stream_all}

-- a stream that has a command is one of the scene's
pub is_client : (s : Scene) (client place : ℕ) → place < length (stream_of s client) → client < length s.streams
is_client s client place lt = elim (cases_lt client (length s.streams)) [
  | inl inside ↦ inside
  | inr past ↦ absurd (omega (arith, ap length (get_or_past s.streams client [] past), lt))
]

-- the stream of a client is found among the streams
pub stream_is : (s : Scene) (client : ℕ) (rows : List (List Command)) (row : List Command) → rows ≡ s.streams → client < length s.streams
    → row ≡ get_or rows client row → row ≡ stream_of s client
stream_is s client rows row is inside found =
    found ∙ ap (λ (l : List (List Command)). get_or l client row) is ∙ get_or_default s.streams client row [] inside

-- and the command in it
pub command_is : (s : Scene) (client place : ℕ) (xs : List Command) (c : Command) → xs ≡ stream_of s client → place < length xs → c ≡ get_or xs place c
    → command_at s client place ≡ Some c
command_is s client place xs c is inside found =
    ap (λ (l : List Command). slice_get l place) (sym is) ∙ slice_get-get_or xs place c inside ∙ ap (λ (z : Command). Some z) (sym found)

pub texels_at : (s : Scene) (client place : ℕ) (c : Command) → AllByRecursion (AllByRecursion IsCommand) s.streams → command_at s client place ≡ Some c → HasTexels c
texels_at s client place c all at = has_texels c (command_of (stream_of s client) place c (stream_all s.streams client all) at)

-- no texture was written more often than there were commands
pub room_at : (s : Scene) (client place name : ℕ) (x : ClientContext) → x ≡ context_after s client place → place < length (stream_of s client)
    → length (stream_of s client) < 2 ^ 32 → edit_of x name + 1 < 2 ^ 32
room_at s client place name x is inside few =
    let most : edit_of x name ≤ place = omega (arith, ap (λ (z : ClientContext). edit_of z name) is, at_most s client place name) in
    omega (arith, most, inside, few)
