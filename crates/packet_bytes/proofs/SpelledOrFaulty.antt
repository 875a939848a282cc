-- Bytes spell a list of commands, or they have a fault.
use Rattle.std.proofs.Common.{◌≡◌, ℕ, zero, suc, ◌≤◌, ◌⊎◌, inl, inr, List, [], ◌∷◌, ◌++◌, length, Result, Ok, Err, refl, subst, ◌∙◌, arith}
use Rattle.std.specs.List.{flat_map}
use Rattle.std.proofs.lemmas.List.{append-nil}
use Rattle.rc_base.specs.Formats.Commands.{AreBytes}
use Rattle.byte_codec.specs.declared.fault.Form.{Form}
use Rattle.byte_codec.specs.declared.fault.Form.TheVariants.{BadCount, Unknown, Truncated}
use Rattle.byte_codec.specs.declared.fault.ReadError.TheVariants as errors
use Rattle.packet_bytes.specs.declared.fault.PackFault.{PackFault}
use Rattle.packet_bytes.specs.Faults.{FailsAsStreamOf, IsFault, pack_fault}
use Rattle.packet_bytes.specs.Packets.{read_packet}
use Rattle.byte_codec.specs.Codec.{AreBytes-behind}
use Rattle.packet_bytes.proofs.PacketCodec.{packet_takes, packet_fails}
use Rattle.packet_bytes.proofs.DecodingProgress.{Front, front_none, front_more, front_fails, packet_some}
use Rattle.rc_base.specs.Formats.Spelling.{CommandSet, packet_of, SpellsStreamOf}
use Rattle.packet_bytes.specs.Sets.{SetReader, Agrees}

module _ {C O : Type 0} (set : CommandSet C O) (reader : SetReader C O) (laws : Agrees set reader) where
  abbrev pub SpelledOrFaulty : List ℕ → Type 0
  SpelledOrFaulty bytes = ((commands : List C) × SpellsStreamOf set bytes commands) ⊎ ((fault : PackFault) × IsFault fault × FailsAsStreamOf set bytes fault)

  is_fault : (f : Form) (size : ℕ) → IsFault (pack_fault (errors.Form f) size)
  is_fault (BadCount left) size = tt
  is_fault (Unknown left) size = tt
  is_fault Truncated size = tt

  -- packet by packet
  onward : (n : ℕ) (bytes : List ℕ) (cs : List C) (rest : List ℕ) → AreBytes rest → length rest ≤ n → Front set reader laws bytes cs rest → SpelledOrFaulty bytes
  onward n bytes cs [] fits le front =
      inl (cs, record { packets = front.packets; each = front.each; parts = front.parts ∙ append-nil (flat_map (packet_of set) front.packets); whole = front.whole })
  onward zero bytes cs (b ∷ rest) fits le front = absurd (omega (arith, le))
  onward (suc n) bytes cs (b ∷ rest) fits le front = next (read_packet reader (b ∷ rest)) refl (λ more after. onward n bytes more after)
    where
      next : (r : Result (List C × List ℕ) Form) → read_packet reader (b ∷ rest) ≡ r
          → ((more : List C) (after : List ℕ) → AreBytes after → length after ≤ n → Front set reader laws bytes more after → SpelledOrFaulty bytes) → SpelledOrFaulty bytes
      next (Err f) read then_ =
          let fails = packet_fails set reader laws (b ∷ rest) f fits read in
          inr (pack_fault (errors.Form f) (length bytes), is_fault f (length bytes), front_fails set reader laws bytes cs (b ∷ rest) (errors.Form f) front (omega arith) fails)
      next (Ok x) read then_ =
          let found = packet_takes set reader laws (b ∷ rest) x.0 x.1 fits read in
          let shorter = packet_some set reader laws (b ∷ rest) x.0 x.1 found.0 in
          then_ (cs ++ x.0) x.1 (AreBytes-behind (packet_of set x.0) x.1 (subst AreBytes found.0 fits)) (omega (arith, le, shorter))
          (front_more set reader laws bytes cs (b ∷ rest) front x.0 x.1 found.1 found.0)

  pub spelled_or_faulty : (bytes : List ℕ) → AreBytes bytes → SpelledOrFaulty bytes
  spelled_or_faulty bytes fits = onward (length bytes) bytes [] bytes fits (omega arith) (front_none set reader laws bytes)
