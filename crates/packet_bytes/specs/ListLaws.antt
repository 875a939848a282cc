-- Commands with call lists are read as they are spelled.
use Rattle.std.specs.Prelude.{◌≡◌, ℕ, List, ◌++◌, Some, None, Option, Ok, refl}
use Rattle.std.proofs.Common.{sym, ap, subst, ◌∙◌, inl, inr}
use Rattle.std.proofs.lemmas.Bool.{cases_eq, ne_eqb}
use Rattle.std.specs.Option.{option_map}
use Rattle.rc_base.specs.declared.command.Opcode.{Opcode}
use Rattle.rc_base.specs.Formats.Commands.{opcode_number}
use Rattle.rc_base.specs.declared.list_command.ListCommand.{ListCommand}
use Rattle.rc_base.specs.declared.list_command.ListCommand.TheVariants as list
use Rattle.rc_base.specs.declared.list_command.ListOpcode.{ListOpcode}
use Rattle.rc_base.specs.declared.list_command.ListOpcode.TheVariants as op
use Rattle.rc_base.specs.Formats.Spelling.{list_opcode_of, list_opcode_number, list_payload, IsListCommand, list_set}
use Rattle.command_table.specs.Opcodes.{opcode_of_byte}
use Rattle.command_table.proofs.ByOpcode.{same_for_each, number_of_byte}
use Rattle.byte_codec.specs.Reading.{read_byte}
use Rattle.packet_bytes.specs.Sets.{Agrees, IsOf}
use Rattle.packet_bytes.specs.Packets.{read_command}
use Rattle.byte_codec.specs.Codec.{Maker, bind_ok, convert_maker, convert_again}
use Rattle.byte_codec.specs.NumberCodecs.{byte_codec}
use Rattle.packet_bytes.specs.FieldCodecs.{payload_maker, payload_again}
use Rattle.packet_bytes.specs.PlainLaws.{command_kind, same_swap}
use Rattle.packet_bytes.specs.Lists.{list_opcode_of_byte, read_list_command, list_reader, is_list_swap, is_list_swap_opcode}

-- ---- opcodes

named_plain : (o : Opcode) → list_opcode_of_byte (opcode_number o) ≡ Some (op.Plain o)
unfolding list_opcode_of_byte opcode_of_byte
named_plain = same_for_each (λ o. list_opcode_of_byte (opcode_number o)) (λ o. Some (op.Plain o)) refl

list_named : (o : ListOpcode) → list_opcode_of_byte (list_opcode_number o) ≡ Some o
unfolding list_opcode_of_byte
list_named (op.Plain o) = named_plain o
list_named op.NewList = refl
list_named op.EndList = refl
list_named op.CallList = refl

other_named : (b : ℕ) → (b ≡ 0x25 → ⊥) → (b ≡ 0x26 → ⊥) → (b ≡ 0x27 → ⊥) → list_opcode_of_byte b ≡ option_map (λ o. op.Plain o) (opcode_of_byte b)
unfolding list_opcode_of_byte
other_named b new end call = rw (ne_eqb b 0x25 new, ne_eqb b 0x26 end, ne_eqb b 0x27 call) refl

plain_number : (b : ℕ) (o : ListOpcode) (r : Option Opcode) → opcode_of_byte b ≡ r → option_map (λ p. op.Plain p) r ≡ Some o → b ≡ list_opcode_number o
plain_number b o (Some p) read e =
    let same : (let v : ListOpcode = op.Plain p in v) ≡ o = cc in
    number_of_byte b p read ∙ ap list_opcode_number same
plain_number b o None read e = absurd cc

number_at : (b n : ℕ) (o p : ListOpcode) → b ≡ n → list_opcode_of_byte n ≡ Some p → list_opcode_number p ≡ n → list_opcode_of_byte b ≡ Some o → b ≡ list_opcode_number o
number_at b n o p at named number e =
    let both : (let v : Option ListOpcode = Some p in v) ≡ Some o = sym named ∙ ap list_opcode_of_byte (sym at) ∙ e in
    let same : p ≡ o = cc in
    at ∙ sym number ∙ ap list_opcode_number same

list_number_named : (b : ℕ) (o : ListOpcode) → list_opcode_of_byte b ≡ Some o → b ≡ list_opcode_number o
list_number_named b o e = elim (cases_eq b 0x25) [
  | inl new ↦ number_at b 0x25 o op.NewList new (list_named op.NewList) refl e
  | inr new ↦ elim (cases_eq b 0x26) [
    | inl end ↦ number_at b 0x26 o op.EndList end (list_named op.EndList) refl e
    | inr end ↦ elim (cases_eq b 0x27) [
      | inl call ↦ number_at b 0x27 o op.CallList call (list_named op.CallList) refl e
      | inr call ↦ plain_number b o (opcode_of_byte b) refl (sym (other_named b new end call) ∙ e)
    ]
  ]
]

-- ---- payloads

end_maker : Maker (λ bytes. Ok (list.EndList, bytes)) list_payload (IsOf list_set op.EndList)
end_maker = record {
  takes = λ bytes c rest fits e.
      let same : (let v : ListCommand × List ℕ = (list.EndList, bytes) in v) ≡ (c, rest) = cc in
      subst (λ (v : ListCommand × List ℕ). (bytes ≡ list_payload v.0 ++ v.1) × IsOf list_set op.EndList v.0) same (refl, (tt, refl));
  cut = λ bytes f fits e. absurd cc;
  some = (list.EndList, (tt, refl));
}

list_maker : (o : ListOpcode) → Maker (read_list_command o) list_payload (IsOf list_set o)
unfolding read_list_command
list_maker (op.Plain o) = convert_maker (λ c. list.Plain c) list_payload (IsOf list_set (op.Plain o)) (payload_maker o) (λ c fits. (refl, (fits.0, ap (λ p. op.Plain p) fits.1)))
list_maker op.NewList = convert_maker (λ name. list.NewList name) list_payload (IsOf list_set op.NewList) byte_codec.maker (λ name fits. (refl, (fits, refl)))
list_maker op.EndList = end_maker
list_maker op.CallList = convert_maker (λ name. list.CallList name) list_payload (IsOf list_set op.CallList) byte_codec.maker (λ name fits. (refl, (fits, refl)))

list_again : (c : ListCommand) (rest : List ℕ) → IsListCommand c → read_list_command (list_opcode_of c) (list_payload c ++ rest) ≡ Ok (c, rest)
unfolding read_list_command
list_again (list.Plain c) rest fits = rw (payload_again c rest fits) refl
list_again (list.NewList name) rest fits = convert_again (λ n. list.NewList n) byte_codec name rest fits
list_again list.EndList rest fits = refl
list_again (list.CallList name) rest fits = convert_again (λ n. list.CallList n) byte_codec name rest fits

list_kind : (o : ListOpcode) (bytes : List ℕ) (c : ListCommand) (rest : List ℕ) → read_list_command o bytes ≡ Ok (c, rest) → list_opcode_of c ≡ o
unfolding read_list_command
list_kind (op.Plain o) bytes c rest e =
    let a = bind_ok (read_command o bytes) (λ x. Ok (list.Plain x.0, x.1)) (c, rest) e in
    let same : (let v : ListCommand × List ℕ = (list.Plain a.0.0, a.0.1) in v) ≡ (c, rest) = cc in
    sym (ap (λ (v : ListCommand × List ℕ). list_opcode_of v.0) same) ∙ ap (λ p. op.Plain p) (command_kind o bytes a.0.0 a.0.1 a.1)
list_kind op.NewList bytes c rest e =
    let a = bind_ok (read_byte bytes) (λ x. Ok (list.NewList x.0, x.1)) (c, rest) e in
    let same : (let v : ListCommand × List ℕ = (list.NewList a.0.0, a.0.1) in v) ≡ (c, rest) = cc in
    sym (ap (λ (v : ListCommand × List ℕ). list_opcode_of v.0) same)
list_kind op.EndList bytes c rest e =
    let same : (let v : ListCommand × List ℕ = (list.EndList, bytes) in v) ≡ (c, rest) = cc in
    sym (ap (λ (v : ListCommand × List ℕ). list_opcode_of v.0) same)
list_kind op.CallList bytes c rest e =
    let a = bind_ok (read_byte bytes) (λ x. Ok (list.CallList x.0, x.1)) (c, rest) e in
    let same : (let v : ListCommand × List ℕ = (list.CallList a.0.0, a.0.1) in v) ≡ (c, rest) = cc in
    sym (ap (λ (v : ListCommand × List ℕ). list_opcode_of v.0) same)

list_swap : (c : ListCommand) → is_list_swap c ≡ is_list_swap_opcode (list_opcode_of c)
list_swap (list.Plain c) = same_swap c
list_swap (list.NewList name) = refl
list_swap list.EndList = refl
list_swap (list.CallList name) = refl

pub list_agrees : Agrees list_set list_reader
list_agrees = record {
  some = op.EndList;
  named_number = list_named;
  number_named = list_number_named;
  makes = list_maker;
  again = list_again;
  kind = list_kind;
  shows_swap = list_swap;
}
