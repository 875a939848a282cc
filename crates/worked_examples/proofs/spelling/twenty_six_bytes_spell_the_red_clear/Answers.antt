use Rattle.std.proofs.Common.{[], ◌∷◌, refl, drop, arith, rules}
use Rattle.rc_base.specs.Formats.Spelling.{IsPacket, SpellsStream, IsDecl}
use Rattle.rc_base.specs.declared.command.Command.TheVariants as cmd
use Rattle.rc_base.specs.Colors.{rgba}
use Rattle.worked_examples.specs.Scenes.{red_clear, red_clear_bytes}
use Rattle.worked_examples.proofs.spelling.twenty_six_bytes_spell_the_red_clear.Goals as goal

one_packet : IsPacket (cmd.ClearColor (rgba 255 0 0 255) ∷ cmd.Clear 1 ∷ cmd.Swap ∷ [])
one_packet = record { some = omega arith; most = omega arith; each = search rules }

one_stream : SpellsStream (drop 16 red_clear_bytes) (cmd.ClearColor (rgba 255 0 0 255) ∷ cmd.Clear 1 ∷ cmd.Swap ∷ [])
one_stream = record {
  packets = (cmd.ClearColor (rgba 255 0 0 255) ∷ cmd.Clear 1 ∷ cmd.Swap ∷ []) ∷ [];
  each = (one_packet, tt);
  parts = refl;
  whole = refl;
}

declared : IsDecl red_clear.decl
declared = record { version = (omega arith, omega arith); width = omega arith; height = omega arith; few_shared = omega arith; few_barriers = omega arith; few_semaphores = omega arith; shared = tt; barriers = tt; semaphores = tt }

pub returns : goal.returns
returns c = record {
  texts = drop 16 red_clear_bytes ∷ [];
  each = (one_stream, omega arith, tt);
  few = omega arith;
  decl = declared;
  parts = refl;
}
