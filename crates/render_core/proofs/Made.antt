-- What is known of a scene that is made.
use Rattle.std.proofs.Common.{◌≡◌, ℕ, List, [], ◌∷◌, None, sym, subst, arith}
use Rattle.std.specs.List.{AllByRecursion}
use Rattle.rc_base.specs.declared.command.Command.{Command}
use Rattle.rc_base.specs.declared.scene.Scene.{Scene}
use Rattle.rc_base.specs.Formats.Commands.{Kind, Value, Fields, IsValue, AreValues, IsCommand, opcode_of, kinds_of, fields_of}
use Rattle.rc_base.specs.Formats.Commands.Kind.{Byte, Half, Word, Code, Bytes, Words, Image}
use Rattle.rc_base.specs.Formats.Limits.{size_limit}
use Rattle.rc_base.specs.Formats.Spelling.{IsDecl}
use Rattle.rc_base.specs.Formats.Within.{IsWithin}
use Rattle.scene_file.specs.Generator.{generated_scene}
use Rattle.packet_bytes.specs.Texels.{HasPictureTexels, HaveTexels}
use Rattle.scene_file.specs.Written.{AreWhole}
use Rattle.run_words.specs.Asked.{IsMade}

-- ---- the pictures of commands whose fields are in their ranges are whole

has_texels : (k : Kind) (v : Value k) → IsValue k v → HasPictureTexels k v
has_texels Byte v h = tt
has_texels Half v h = tt
has_texels Word v h = tt
has_texels (Code count) v h = tt
has_texels (Bytes count) v h = tt
has_texels (Words count) v h = tt
has_texels Image v h = h.2

have_texels : (ks : List Kind) (x : Fields ks) → AreValues ks x → HaveTexels ks x
have_texels [] x h = tt
have_texels (k ∷ ks) x h = (has_texels k x.0 h.0, have_texels ks x.1 h.1)

are_whole : (cs : List Command) → AllByRecursion IsCommand cs → AreWhole cs
are_whole [] h = tt
are_whole (c ∷ cs) h = (have_texels (kinds_of (opcode_of c)) (fields_of c) h.0, are_whole cs h.1)

streams_whole : (css : List (List Command)) → AllByRecursion (AllByRecursion IsCommand) css → AllByRecursion AreWhole css
streams_whole [] h = tt
streams_whole (cs ∷ css) h = (are_whole cs h.0, streams_whole css h.1)

-- ---- a scene that is made

decl_made : (seed size : ℕ) → IsDecl (generated_scene seed size).decl
unfolding generated_scene
decl_made seed size = record {
  version = (omega arith, omega arith);
  width = omega arith;
  height = omega arith;
  few_shared = omega arith;
  few_barriers = omega arith;
  few_semaphores = omega arith;
  shared = tt;
  barriers = (omega arith, tt);
  semaphores = tt;
}

pub is_made : (seed size : ℕ) (scene : Scene) → scene ≡ generated_scene seed size → size_limit size ≡ None → IsWithin scene → IsMade seed size scene
is_made seed size scene is rounds within =
    let decl : IsDecl scene.decl = subst (λ (s : Scene). IsDecl s.decl) (sym is) (decl_made seed size) in
    record { is = is; rounds = rounds; of_bytes = (decl, within.commands); of_text = (decl.version, streams_whole scene.streams within.commands) }
