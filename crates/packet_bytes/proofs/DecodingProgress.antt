-- Packets one after the other.
use Rattle.std.proofs.Common.{◌≡◌, ℕ, ◌+◌, ◌-◌, ◌<◌, ◌≤◌, Bool, true, cond, leb, List, [], ◌∷◌, ◌++◌, length, map, Result, Ok, Err, refl, sym, ap, ◌∙◌, append_assoc, arith, length-append}
use Rattle.std.specs.Prelude.{IfOk, IfErr}
use Rattle.std.specs.List.{AllByRecursion, flat_map}
use Rattle.std.proofs.Common.{eqb, false}
use Rattle.std.proofs.lemmas.Bool.Decides.{nat_tests}
use Rattle.std.proofs.lemmas.List.{append-nil, length-map}
use Rattle.std.proofs.lemmas.Bool.{leb-true, le-leb}
use Rattle.std.proofs.lemmas.Grind.{flat_map-append}
use Rattle.std.proofs.lemmas.List.Concat.{flat_map-cons}
use Rattle.std.proofs.lemmas.List.Sums.{sum_by-append, count_by-le-length}
use Rattle.byte_codec.specs.declared.fault.Form.TheVariants.{BadCount, Unknown, Truncated}
use Rattle.byte_codec.specs.declared.fault.ReadError.{ReadError}
use Rattle.byte_codec.specs.declared.fault.ReadError.TheVariants as errors
use Rattle.packet_bytes.specs.Faults.{FailsBy, FailsAsStreamOf, pack_fault}
use Rattle.byte_codec.specs.Reading.{Fails}
use Rattle.packet_bytes.specs.declared.packets.Counts.{Counts}
use Rattle.packet_bytes.specs.declared.packets.DecodedOf.{DecodedOf}
use Rattle.packet_bytes.specs.Packets.{read_packet, kept, AddsPacket, Takes, DecodesOf}
use Rattle.rc_base.specs.Formats.Commands.{AreBytes}
use Rattle.packet_bytes.proofs.PacketCodec.{packet_takes, packet_fails}
use Rattle.rc_base.specs.Formats.Spelling.{CommandSet, half, packet_of, IsPacketOf}
use Rattle.packet_bytes.specs.Sets.{SetReader, Agrees, byte_of}
use Rattle.std.specs.Prelude.{count_by}

module _ {C O : Type 0} (set : CommandSet C O) (reader : SetReader C O) (laws : Agrees set reader) where
  -- ---- one packet

  fails_by : (bytes : List ℕ) (e : ReadError) → AreBytes bytes → Fails e (read_packet reader bytes) → FailsBy set bytes e
  fails_by bytes errors.Memory fits h = tt
  fails_by bytes (errors.Form f) fits h = packet_fails set reader laws bytes f fits h

  module _ {X : Type 0} (view : X → Counts × List ℕ) (bytes : List ℕ) (room : ℕ) (old new : List C) (fits : AreBytes bytes) where
    pub takes_by : (r : Result X ReadError) → AddsPacket reader.shows view room old new r (read_packet reader bytes) → IfOk r (λ x. Takes set reader.shows bytes (view x).1 room (view x).0 old new)
    takes_by (Ok x) h =
        let found = packet_takes set reader laws bytes h.0 (view x).1 fits h.1 in
        record { commands = h.0; is_packet = found.1; parts = found.0; counted = h.2; added = h.3 }
    takes_by (Err e) h = tt

    pub breaks_by : (r : Result X ReadError) → AddsPacket reader.shows view room old new r (read_packet reader bytes) → IfErr r (FailsBy set bytes)
    breaks_by (Ok x) h = tt
    breaks_by (Err e) h = fails_by bytes e fits h

  -- ---- several

  -- the bytes are packets with these commands, and then the rest
  pub record Front (bytes : List ℕ) (commands : List C) (rest : List ℕ) : Type 0 where
    pub packets : List (List C)
    pub each : AllByRecursion (IsPacketOf set) packets
    pub parts : bytes ≡ flat_map (packet_of set) packets ++ rest
    pub whole : commands ≡ flat_map (λ p. p) packets

  pub front_none : (bytes : List ℕ) → Front bytes [] bytes
  front_none bytes = record { packets = []; each = tt; parts = refl; whole = refl }

  all_more : (ps : List (List C)) (p : List C) → AllByRecursion (IsPacketOf set) ps → IsPacketOf set p → AllByRecursion (IsPacketOf set) (ps ++ p ∷ [])
  all_more [] p h k = (k, tt)
  all_more (x ∷ xs) p h k = (h.0, all_more xs p h.1 k)

  pub flat_more : {A B : Type 0} (f : A → List B) (xs : List A) (x : A) → flat_map f (xs ++ x ∷ []) ≡ flat_map f xs ++ f x
  flat_more f xs x = flat_map-append f xs (x ∷ []) ∙ ap (λ (l : List _). flat_map f xs ++ l) (flat_map-cons f x [] ∙ append-nil (f x))

  pub front_more : (bytes : List ℕ) (cs : List C) (rest : List ℕ) → Front bytes cs rest → (p : List C) (after : List ℕ) → IsPacketOf set p → rest ≡ packet_of set p ++ after
      → Front bytes (cs ++ p) after
  front_more bytes cs rest front p after is parts =
      record {
        packets = front.packets ++ p ∷ [];
        each = all_more front.packets p front.each is;
        parts = front.parts ∙ ap (λ (l : List ℕ). flat_map (packet_of set) front.packets ++ l) parts ∙ sym (append_assoc (flat_map (packet_of set) front.packets) (packet_of set p) after) ∙ ap (λ (l : List ℕ). l ++ after) (sym (flat_more (packet_of set) front.packets p));
        whole = ap (λ (l : List C). l ++ p) front.whole ∙ sym (flat_more (λ (l : List C). l) front.packets p);
      }

  -- a packet takes a byte for each command, and more
  pub packet_long : (rest : List ℕ) (p : List C) (after : List ℕ) → rest ≡ packet_of set p ++ after → length p + length after < length rest
  packet_long rest p after parts =
      let inner = map (byte_of set) p ++ flat_map set.fields p in
      let grouped : rest ≡ half (length p) ++ (inner ++ after) = parts ∙ append_assoc (half (length p)) inner after in
      omega (arith, ap length grouped, length-append inner after, length-append (map (byte_of set) p) (flat_map set.fields p), length-map p (byte_of set))

  pub packet_some : (rest : List ℕ) (p : List C) (after : List ℕ) → rest ≡ packet_of set p ++ after → length after < length rest
  packet_some rest p after parts = omega (arith, packet_long rest p after parts)

  -- ---- what is stored of them

  pub record Progress (bytes : List ℕ) (room : ℕ) (commands : List C) (count swaps : ℕ) (rest : List ℕ) : Type 0 where
    pub all : List C
    pub front : Front bytes all rest
    pub counted : count ≡ length all
    pub swaps_counted : swaps ≡ count_by reader.shows all
    pub stored : count ≤ room → commands ≡ all
    pub few : length commands ≤ room
    pub less : length commands ≤ count
    pub fewer : swaps ≤ count
    pub short : count + length rest ≤ length bytes

  pub progress_none : (bytes : List ℕ) (room : ℕ) → Progress bytes room [] 0 0 bytes
  progress_none bytes room = record {
    all = [];
    front = front_none bytes;
    counted = refl;
    swaps_counted = refl;
    stored = λ _. refl;
    few = omega arith;
    less = omega arith;
    fewer = omega arith;
    short = omega arith;
  }

  -- room for a packet behind so many commands
  few_more : (keep : Bool) (room more : ℕ) (old new p : List C) (count : ℕ) → leb more (room - count) ≡ keep → new ≡ kept keep old p → more ≡ length p
      → length old ≤ room → length old ≤ count → (length new ≤ room) × (length new ≤ count + more)
  few_more true room more old new p count test e counted few less =
      let le = leb-true more (room - count) test in
      let size : length new ≡ length old + length p = ap length e ∙ length-append old p in
      (omega (arith, le, size, counted, few, less), omega (arith, size, counted, less))
  few_more false room more old new p count test e counted few less =
      let size : length new ≡ length old = ap length e in
      (omega (arith, size, few), omega (arith, size, less))

  -- one more packet
  pub progress_more : (bytes : List ℕ) (room : ℕ) (commands new : List C) (count swaps : ℕ) (more : Counts) (rest after : List ℕ) → Progress bytes room commands count swaps rest
      → Takes set reader.shows rest after (room - count) more commands new → Progress bytes room new (count + more.commands) (swaps + more.swaps) after
  progress_more bytes room commands new count swaps more rest after so_far t =
      let p = t.commands in
      let long = packet_long rest p after t.parts in
      let many = t.counted.commands in
      let sizes = few_more (leb more.commands (room - count)) room more.commands commands new p count refl t.added many so_far.few so_far.less in
      record {
        all = so_far.all ++ p;
        front = front_more bytes so_far.all rest so_far.front p after t.is_packet t.parts;
        counted = omega (arith, so_far.counted, many, length-append so_far.all p);
        swaps_counted = omega (arith, so_far.swaps_counted, t.counted.swaps, sum_by-append (λ c. cond (reader.shows c) 1 0) so_far.all p);
        stored = λ le.
            let test : leb more.commands (room - count) ≡ true = le-leb more.commands (room - count) (omega (arith, le)) in
            t.added ∙ ap (λ b. kept b commands p) test ∙ ap (λ (l : List C). l ++ p) (so_far.stored (omega (arith, le)));
        few = sizes.0;
        less = sizes.1;
        fewer = omega (arith, so_far.fewer, many, t.counted.swaps, count_by-le-length reader.shows p);
        short = omega (arith, so_far.short, long, many);
      }

  pub decoded : (bytes : List ℕ) (room : ℕ) (x : (DecodedOf (List C))) (rest : List ℕ) → Progress bytes room x.commands x.count x.swaps rest → length rest ≡ 0 → DecodesOf set reader.shows bytes room x
  decoded bytes room x (b ∷ rest) so_far none = absurd (omega (arith, none))
  decoded bytes room x [] so_far none = record {
    all = so_far.all;
    spells = record {
      packets = so_far.front.packets;
      each = so_far.front.each;
      parts = so_far.front.parts ∙ append-nil (flat_map (packet_of set) so_far.front.packets);
      whole = so_far.front.whole;
    };
    counted = so_far.counted;
    swaps = so_far.swaps_counted;
    stored = so_far.stored;
    few = so_far.few;
    short = omega (arith, so_far.short);
  }

  -- ---- faults

  pub front_fails : (bytes : List ℕ) (cs : List C) (rest : List ℕ) (e : ReadError) → Front bytes cs rest → 0 < length rest → FailsBy set rest e → FailsAsStreamOf set bytes (pack_fault e (length bytes))
  front_fails bytes cs rest errors.Memory front some h = tt
  front_fails bytes cs rest (errors.Form (BadCount left)) front some h =
      let size : length bytes ≡ length (flat_map (packet_of set) front.packets) + length rest = ap length front.parts ∙ length-append (flat_map (packet_of set) front.packets) rest in
      (rest, record { packets = front.packets; each = front.each; parts = front.parts }, h.0, omega (arith, size, h.1))
  front_fails bytes cs rest (errors.Form (Unknown left)) front some h =
      let size : length bytes ≡ length (flat_map (packet_of set) front.packets) + length rest = ap length front.parts ∙ length-append (flat_map (packet_of set) front.packets) rest in
      let inner : length rest ≡ length (half h.count) + (length h.names + length (h.byte ∷ h.rest)) =
      ap length h.parts ∙ length-append (half h.count) (h.names ++ h.byte ∷ h.rest) ∙ ap (λ (k : ℕ). length (half h.count) + k) (length-append h.names (h.byte ∷ h.rest)) in
      (rest, left, record { packets = front.packets; each = front.each; parts = front.parts }, h, omega (arith, size, inner, h.left_is))
  front_fails bytes cs rest (errors.Form Truncated) front some h = (rest, record { packets = front.packets; each = front.each; parts = front.parts }, some, h, refl)

  pub not_empty : (n : ℕ) → eqb n 0 ≡ false → 0 < n
  not_empty n e = grind (arith, nat_tests)

  pub empty : (n : ℕ) → eqb n 0 ≡ true → n ≡ 0
  empty n e = grind (arith, nat_tests)
