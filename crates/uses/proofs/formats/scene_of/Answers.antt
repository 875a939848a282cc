use Rattle.std.proofs.Common.{◌≡◌, ℕ, ◌<◌, List, ◌++◌, length, sym, ap, ◌∙◌, arith, add-zero}
use Rattle.std.specs.List.{flat_map}
use Rattle.std.proofs.lemmas.List.{append_assoc, length-append}
use Rattle.rc_base.specs.Formats.Spelling.{header_of, plain_form, stream_text, SpellsScene}
use Rattle.rc_base.specs.declared.scene.Scene.{Scene}
use Rattle.rc_base.specs.declared.scene.SceneKind.TheVariants.{Trailing}
use Rattle.scene_file.specs.Faults.{FailsAsScene}
use Rattle.uses.proofs.formats.scene_of.Goals as goal

fails_behind : (bytes front rest : List ℕ) (s : Scene) → bytes ≡ front ++ rest → 0 < length rest → SpellsScene front s → FailsAsScene bytes Trailing (length front)
fails_behind bytes front rest s parts some spells = record {
  rest = rest;
  front = record {
    decl = s.decl;
    texts = spells.texts;
    streams = s.streams;
    is_decl = spells.decl;
    each = spells.each;
    few = omega (arith, spells.few);
    parts =
        parts ∙ ap (λ (b : List ℕ). b ++ rest) spells.parts
        ∙ append_assoc (header_of plain_form s.decl (length s.streams)) (flat_map stream_text spells.texts) rest
        ∙ ap (λ (n : ℕ). header_of plain_form s.decl n ++ (flat_map stream_text spells.texts ++ rest)) (sym (add-zero (length s.streams)));
  };
  some = some;
  place = sym (ap (λ (b : List ℕ). length b) parts ∙ length-append front rest);
}

pub returns : goal.returns
returns c front rest s parts some spells =
    c.read_scene.ensures.malformed_only Trailing (length front) (fails_behind c.args.bytes.now front rest s parts some spells)
