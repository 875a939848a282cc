-- Streams without call lists, in the larger set.
use Rattle.std.proofs.Common.{◌≡◌, ℕ, List, [], ◌∷◌, ◌++◌, map, refl, sym, ap, ◌∙◌}
use Rattle.std.specs.List.{AllByRecursion, flat_map}
use Rattle.std.proofs.lemmas.List.{length-map}
use Rattle.std.proofs.lemmas.List.Concat.{flat_map-cons}
use Rattle.rc_base.specs.declared.command.Command.{Command}
use Rattle.rc_base.specs.declared.list_command.ListCommand.{ListCommand}
use Rattle.rc_base.specs.declared.list_command.ListCommand.TheVariants as list
use Rattle.rc_base.specs.Formats.Commands.{IsCommand}
use Rattle.rc_base.specs.Formats.Spelling.{packet, packet_of, payload, opcode_byte, list_payload, IsPacket, IsPacketOf, IsListCommand, SpellsStream, SpellsStreamOf, list_set}
use Rattle.packet_bytes.specs.Sets.{byte_of}

abbrev plain : Command → ListCommand
plain c = list.Plain c

all_plain : (cs : List Command) → AllByRecursion IsCommand cs → AllByRecursion IsListCommand (map plain cs)
all_plain [] h = tt
all_plain (c ∷ cs) h = (h.0, all_plain cs h.1)

names_plain : (cs : List Command) → map (byte_of list_set) (map plain cs) ≡ map opcode_byte cs
names_plain [] = refl
names_plain (c ∷ cs) = ap (λ (l : List ℕ). opcode_byte c ∷ l) (names_plain cs)

payloads_plain : (cs : List Command) → flat_map list_payload (map plain cs) ≡ flat_map payload cs
payloads_plain [] = refl
payloads_plain (c ∷ cs) =
    flat_map-cons list_payload (plain c) (map plain cs) ∙ ap (λ (l : List ℕ). payload c ++ l) (payloads_plain cs) ∙ sym (flat_map-cons payload c cs)

packet_plain : (cs : List Command) → packet_of list_set (map plain cs) ≡ packet cs
packet_plain cs = rw (length-map cs plain, names_plain cs, payloads_plain cs) refl

is_packet_plain : (cs : List Command) → IsPacket cs → IsPacketOf list_set (map plain cs)
is_packet_plain cs h = record { some = rw (length-map cs plain) h.some; most = rw (length-map cs plain) h.most; each = all_plain cs h.each }

each_plain : (ps : List (List Command)) → AllByRecursion IsPacket ps → AllByRecursion (IsPacketOf list_set) (map (map plain) ps)
each_plain [] h = tt
each_plain (p ∷ ps) h = (is_packet_plain p h.0, each_plain ps h.1)

packets_plain : (ps : List (List Command)) → flat_map (packet_of list_set) (map (map plain) ps) ≡ flat_map packet ps
packets_plain [] = refl
packets_plain (p ∷ ps) =
    flat_map-cons (packet_of list_set) (map plain p) (map (map plain) ps)
    ∙ ap (λ (l : List ℕ). l ++ flat_map (packet_of list_set) (map (map plain) ps)) (packet_plain p)
    ∙ ap (λ (l : List ℕ). packet p ++ l) (packets_plain ps)
    ∙ sym (flat_map-cons packet p ps)

map_both : (xs ys : List Command) → map plain (xs ++ ys) ≡ map plain xs ++ map plain ys
map_both [] ys = refl
map_both (x ∷ xs) ys = ap (λ (l : List ListCommand). plain x ∷ l) (map_both xs ys)

whole_plain : (ps : List (List Command)) → map plain (flat_map (λ p. p) ps) ≡ flat_map (λ p. p) (map (map plain) ps)
whole_plain [] = refl
whole_plain (p ∷ ps) =
    ap (map plain) (flat_map-cons (λ (l : List Command). l) p ps)
    ∙ map_both p (flat_map (λ l. l) ps)
    ∙ ap (λ (l : List ListCommand). map plain p ++ l) (whole_plain ps)
    ∙ sym (flat_map-cons (λ (l : List ListCommand). l) (map plain p) (map (map plain) ps))

pub plain_spells : (bytes : List ℕ) (cs : List Command) → SpellsStream bytes cs → SpellsStreamOf list_set bytes (map plain cs)
plain_spells bytes cs s = record {
  packets = map (map plain) s.packets;
  each = each_plain s.packets s.each;
  parts = s.parts ∙ sym (packets_plain s.packets);
  whole = ap (map plain) s.whole ∙ whole_plain s.packets;
}
