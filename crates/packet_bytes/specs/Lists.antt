-- How commands with call lists are read.
use Rattle.std.specs.Prelude.{ℕ, ◌==◌, Bool, false, List, Option, Some, Result, Ok, if◌then◌else◌}
use Rattle.std.specs.Option.{option_map}
use Rattle.rc_base.specs.declared.list_command.ListCommand.{ListCommand}
use Rattle.rc_base.specs.declared.list_command.ListCommand.TheVariants as list
use Rattle.rc_base.specs.declared.list_command.ListOpcode.{ListOpcode}
use Rattle.rc_base.specs.declared.list_command.ListOpcode.TheVariants as op
use Rattle.command_table.specs.Opcodes.{opcode_of_byte}
use Rattle.byte_codec.specs.declared.fault.Form.{Form}
use Rattle.byte_codec.specs.Reading.{convert, read_byte}
use Rattle.packet_bytes.specs.Sets.{SetReader}
use Rattle.packet_bytes.specs.Packets.{read_command, is_swap_opcode}
use Rattle.rc_base.specs.Formats.Limits.{is_swap_command}

-- the opcode that a byte stands for
unfoldable pub list_opcode_of_byte : ℕ → Option ListOpcode
list_opcode_of_byte b =
    if b == 0x25 then Some op.NewList else if b == 0x26 then Some op.EndList else if b == 0x27 then Some op.CallList else option_map (λ o. op.Plain o) (opcode_of_byte b)

-- the command behind an opcode
unfoldable pub read_list_command : ListOpcode → List ℕ → Result (ListCommand × List ℕ) Form
read_list_command (op.Plain o) = convert (λ c. list.Plain c) (read_command o)
read_list_command op.NewList = convert (λ name. list.NewList name) read_byte
read_list_command op.EndList = λ bytes. Ok (list.EndList, bytes)
read_list_command op.CallList = convert (λ name. list.CallList name) read_byte

-- the opcode of a Swap, and a Swap
abbrev pub is_list_swap_opcode : ListOpcode → Bool
is_list_swap_opcode (op.Plain o) = is_swap_opcode o
is_list_swap_opcode op.NewList = false
is_list_swap_opcode op.EndList = false
is_list_swap_opcode op.CallList = false

abbrev pub is_list_swap : ListCommand → Bool
is_list_swap (list.Plain c) = is_swap_command c
is_list_swap (list.NewList name) = false
is_list_swap list.EndList = false
is_list_swap (list.CallList name) = false

-- how the commands of the larger set are read
abbrev pub list_reader : SetReader ListCommand ListOpcode
list_reader = record { named = list_opcode_of_byte; read = read_list_command; is_swap = is_list_swap_opcode; shows = is_list_swap }
