-- The commands of the table are read as they are spelled.
use Rattle.std.specs.Prelude.{◌≡◌, ℕ, List, Ok, refl}
use Rattle.std.proofs.Common.{sym, ap, ◌∙◌}
use Rattle.rc_base.specs.declared.command.Command.{Command}
use Rattle.rc_base.specs.declared.command.Command.TheVariants as cmd
use Rattle.rc_base.specs.declared.command.Opcode.{Opcode}
use Rattle.rc_base.specs.declared.command.Opcode.TheVariants.{Swap}
use Rattle.rc_base.specs.Formats.Commands.{kinds_of, opcode_of}
use Rattle.rc_base.specs.Formats.Limits.{is_swap_command}
use Rattle.rc_base.specs.Formats.Spelling.{plain_set}
use Rattle.command_table.specs.Making.{command_from}
use Rattle.command_table.proofs.ByOpcode.{byte_of_number, number_of_byte}
use Rattle.command_table.proofs.FieldsAndParts.{opcode_made}
use Rattle.packet_bytes.specs.Sets.{Agrees}
use Rattle.packet_bytes.specs.Packets.{plain_reader, is_swap_opcode, read_fields, read_command}
use Rattle.byte_codec.specs.Codec.{bind_ok}
use Rattle.packet_bytes.specs.FieldCodecs.{payload_maker, payload_again}

pub command_kind : (o : Opcode) (bytes : List ℕ) (c : Command) (rest : List ℕ) → read_command o bytes ≡ Ok (c, rest) → opcode_of c ≡ o
unfolding read_command
command_kind o bytes c rest e =
    let a = bind_ok (read_fields (kinds_of o) bytes) (λ x. Ok (command_from o x.0, x.1)) (c, rest) e in
    let same : (let v : Command × List ℕ = (command_from o a.0.0, a.0.1) in v) ≡ (c, rest) = cc in
    sym (ap (λ (v : Command × List ℕ). opcode_of v.0) same) ∙ opcode_made o a.0.0

-- a command is a Swap where its opcode is that of one
pub same_swap : (c : Command) → is_swap_command c ≡ is_swap_opcode (opcode_of c)
same_swap cmd.Swap = refl
same_swap c = refl

pub plain_agrees : Agrees plain_set plain_reader
plain_agrees = record {
  some = Swap;
  named_number = byte_of_number;
  number_named = number_of_byte;
  makes = payload_maker;
  again = payload_again;
  kind = command_kind;
  shows_swap = same_swap;
}
