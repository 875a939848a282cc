-- Bytes spell one list of commands at most, and what fails spells none.
use Rattle.std.proofs.Common.{◌≡◌, ◌^◌, ℕ, zero, suc, ◌<◌, true, eqb, ltb, ◌||◌, List, [], ◌∷◌, ◌++◌, length, Option, Some, None, Result, Ok, Err, refl, sym, ap, subst, ◌∙◌, append_assoc, arith, length-append, ◌⊎◌, inl, inr}
use Rattle.std.specs.Prelude.{IfOk, IfErr}
use Rattle.std.specs.List.{AllByRecursion, flat_map}
use Rattle.std.specs.Int.{w16}
use Rattle.std.proofs.lemmas.Bool.Decides.{nat_tests}
use Rattle.std.proofs.lemmas.List.{append-nil}
use Rattle.std.proofs.lemmas.List.Concat.{flat_map-cons}
use Rattle.byte_codec.specs.declared.fault.Form.{Form}
use Rattle.byte_codec.specs.declared.fault.Form.TheVariants.{BadCount, Unknown}
use Rattle.packet_bytes.specs.declared.fault.PackFault.{PackFault}
use Rattle.packet_bytes.specs.declared.fault.PackFault.TheVariants as faults
use Rattle.packet_bytes.specs.Faults.{IsOpcode, HasBadCount, HasUnknown, IsCut, Behind, FailsAsStreamOf, IsFault}
use Rattle.packet_bytes.specs.Packets.{read_opcode, read_opcodes, read_count, read_packet}
use Rattle.byte_codec.specs.NumberCodecs.{number_codec, wide16}
use Rattle.packet_bytes.proofs.PacketCodec.{count_again, packet_again}
use Rattle.packet_bytes.proofs.DecodingProgress.{packet_some}
use Rattle.rc_base.specs.Formats.Spelling.{CommandSet, half, packet_of, IsPacketOf, SpellsStreamOf}
use Rattle.packet_bytes.specs.Sets.{SetReader, Agrees}

module _ {C O : Type 0} (set : CommandSet C O) (reader : SetReader C O) (laws : Agrees set reader) where
  done : List C × List ℕ → Result (List C × List ℕ) Form
  done x = Ok x

  same_packet : (a b : List C) (x y : List ℕ) → packet_of set a ++ x ≡ packet_of set b ++ y → IsPacketOf set a → IsPacketOf set b → (a ≡ b) × (x ≡ y)
  same_packet a b x y e p q =
      let both : (let r : Result (List C × List ℕ) Form = Ok (a, x) in r) ≡ Ok (b, y) = sym (packet_again set reader laws a x p) ∙ ap (read_packet reader) e ∙ packet_again set reader laws b y q in
      let pair : (let v : List C × List ℕ = (a, x) in v) ≡ (b, y) = cc in
      (ap (λ (v : List C × List ℕ). v.0) pair, ap (λ (v : List C × List ℕ). v.1) pair)

  no_packet : (p : List C) (x : List ℕ) → [] ≡ packet_of set p ++ x → ⊥
  no_packet p x e = absurd (omega (arith, packet_some set reader laws [] p x e))

  -- what stands behind some packets of bytes that are packets are packets
  pub strip : (ps qs : List (List C)) (rest : List ℕ) → AllByRecursion (IsPacketOf set) ps → AllByRecursion (IsPacketOf set) qs → flat_map (packet_of set) ps ++ rest ≡ flat_map (packet_of set) qs
      → (rs : List (List C)) × AllByRecursion (IsPacketOf set) rs × (rest ≡ flat_map (packet_of set) rs)
  strip [] qs rest p q e = (qs, q, e)
  strip (a ∷ ps) [] rest p q e = absurd (no_packet a (flat_map (packet_of set) ps ++ rest) (sym e ∙ ap (λ (l : List ℕ). l ++ rest) (flat_map-cons (packet_of set) a ps) ∙ append_assoc (packet_of set a) (flat_map (packet_of set) ps) rest))
  strip (a ∷ ps) (b ∷ qs) rest p q e =
      let grouped : packet_of set a ++ (flat_map (packet_of set) ps ++ rest) ≡ packet_of set b ++ flat_map (packet_of set) qs =
      sym (append_assoc (packet_of set a) (flat_map (packet_of set) ps) rest) ∙ ap (λ (l : List ℕ). l ++ rest) (sym (flat_map-cons (packet_of set) a ps)) ∙ e ∙ flat_map-cons (packet_of set) b qs in
      strip ps qs rest p.1 q.1 (same_packet a b (flat_map (packet_of set) ps ++ rest) (flat_map (packet_of set) qs) grouped p.0 q.0).1

  same_packets : (ps qs : List (List C)) → AllByRecursion (IsPacketOf set) ps → AllByRecursion (IsPacketOf set) qs → flat_map (packet_of set) ps ≡ flat_map (packet_of set) qs → ps ≡ qs
  same_packets [] [] p q e = refl
  same_packets [] (b ∷ qs) p q e = absurd (no_packet b (flat_map (packet_of set) qs) (e ∙ flat_map-cons (packet_of set) b qs))
  same_packets (a ∷ ps) [] p q e = absurd (no_packet a (flat_map (packet_of set) ps) (sym e ∙ flat_map-cons (packet_of set) a ps))
  same_packets (a ∷ ps) (b ∷ qs) p q e =
      let both = same_packet a b (flat_map (packet_of set) ps) (flat_map (packet_of set) qs) (sym (flat_map-cons (packet_of set) a ps) ∙ e ∙ flat_map-cons (packet_of set) b qs) p.0 q.0 in
      let others = same_packets ps qs p.1 q.1 both.1 in
      λ i. both.0 i ∷ others i

  pub one_spelling : (bytes : List ℕ) (a b : List C) → SpellsStreamOf set bytes a → SpellsStreamOf set bytes b → a ≡ b
  one_spelling bytes a b p q = p.whole ∙ ap (flat_map (λ (l : List C). l)) (same_packets p.packets q.packets p.each q.each (sym p.parts ∙ q.parts)) ∙ sym q.whole

  -- ---- what fails is no packet

  is_named : (b : ℕ) → IsOpcode set b → (o : O) × (reader.named b ≡ Some o)
  is_named b is = (is.0, ap reader.named (sym is.1) ∙ laws.named_number is.0)

  none_from_unknown : (b : ℕ) (o : Option O) → reader.named b ≡ o → (IsOpcode set b → ⊥) → o ≡ None
  none_from_unknown b None e unknown = refl
  none_from_unknown b (Some o) e unknown = absurd (unknown (o, sym (laws.number_named b o e)))

  name_known : (b : ℕ) (rest : List ℕ) (o : O) → reader.named b ≡ Some o → read_opcode reader (b ∷ rest) ≡ Ok (o, rest)
  unfolding read_opcode
  name_known b rest o e = rw e refl

  name_unknown : (b : ℕ) (rest : List ℕ) → reader.named b ≡ None → read_opcode reader (b ∷ rest) ≡ Err (Unknown (length (b ∷ rest)))
  unfolding read_opcode
  name_unknown b rest e = rw e refl

  names_broken : (n : ℕ) (names : List ℕ) (b : ℕ) (rest : List ℕ) → length names < n → AllByRecursion (IsOpcode set) names → reader.named b ≡ None
      → read_opcodes reader n (names ++ b ∷ rest) ≡ Err (Unknown (length (b ∷ rest)))
  unfolding read_opcodes
  names_broken zero names b rest few each unknown = absurd (omega arith)
  names_broken (suc n) [] b rest few each unknown = rw (name_unknown b rest unknown) refl
  names_broken (suc n) (x ∷ names) b rest few each unknown =
      let o = is_named x each.0 in
      rw (name_known x (names ++ b ∷ rest) o.0 o.1, names_broken n names b rest (omega arith) each.1 unknown) refl

  abbrev failed : Form → Result (List C × List ℕ) Form
  failed f = Err f

  over : (n : ℕ) → 1024 < n → (eqb n 0 || ltb 1024 n) ≡ true
  over n many = grind (arith, nat_tests)

  bad_test : (n : ℕ) → (n ≡ 0) ⊎ (1024 < n) → (eqb n 0 || ltb 1024 n) ≡ true
  bad_test n (inl none) = rw none refl
  bad_test n (inr many) = over n many

  count_bad : (n : ℕ) (rest : List ℕ) → n < 2 ^ 16 → (n ≡ 0) ⊎ (1024 < n) → read_count (half n ++ rest) ≡ Err (BadCount (length (half n ++ rest)))
  unfolding read_count
  count_bad n rest fits bad = rw ((number_codec w16 (2 ^ 16) wide16).again n rest fits, bad_test n bad) refl

  bad_is : (rest : List ℕ) (h : HasBadCount rest) → read_packet reader rest ≡ failed (BadCount (length (half h.count ++ h.rest)))
  unfolding read_packet
  bad_is rest h = ap (read_packet reader) h.parts ∙ rw (count_bad h.count h.rest h.fits h.bad) refl

  unknown_is : (rest : List ℕ) (left : ℕ) (h : HasUnknown set rest left) → read_packet reader rest ≡ failed (Unknown (length (h.byte ∷ h.rest)))
  unfolding read_packet
  unknown_is rest left h =
      let none : reader.named h.byte ≡ None = none_from_unknown h.byte (reader.named h.byte) refl h.unknown in
      let one = count_again set reader laws h.count (h.names ++ h.byte ∷ h.rest) h.some h.most in
      ap (read_packet reader) h.parts ∙ rw (one, names_broken h.count h.names h.byte h.rest h.few h.each none) refl

  ok_or_err : (x : List C × List ℕ) (f : Form) (r : Result (List C × List ℕ) Form) → r ≡ Ok x → r ≡ Err f → ⊥
  ok_or_err x f r p q = cc

  -- bytes that don't begin with a packet, behind packets of bytes that spell commands: there are none
  no_rest : (rs : List (List C)) (rest : List ℕ) → AllByRecursion (IsPacketOf set) rs → rest ≡ flat_map (packet_of set) rs → 0 < length rest → ((p : List C) (after : List ℕ) → IsPacketOf set p → rest ≡ packet_of set p ++ after → ⊥) → ⊥
  no_rest [] rest each e some none = absurd (omega (arith, ap length e))
  no_rest (r ∷ rs) rest each e some none = none r (flat_map (packet_of set) rs) each.0 (e ∙ flat_map-cons (packet_of set) r rs)

  cut_is_none : (rest : List ℕ) → IsCut set rest → (p : List C) (after : List ℕ) → IsPacketOf set p → rest ≡ packet_of set p ++ after → ⊥
  cut_is_none rest cut p after is e =
      let grouped : packet_of set p ++ (after ++ cut.more) ≡ packet_of set cut.commands ++ [] =
      sym (append_assoc (packet_of set p) after cut.more) ∙ ap (λ (l : List ℕ). l ++ cut.more) (sym e) ∙ cut.whole ∙ sym (append-nil (packet_of set cut.commands)) in
      let none = (same_packet p cut.commands (after ++ cut.more) [] grouped is cut.is_packet).1 in
      absurd (omega (arith, ap length none, length-append after cut.more, cut.some))

  failing_is_none : (rest : List ℕ) (f : Form) → read_packet reader rest ≡ Err f → (p : List C) (after : List ℕ) → IsPacketOf set p → rest ≡ packet_of set p ++ after → ⊥
  failing_is_none rest f fails p after is e = ok_or_err (p, after) f (read_packet reader rest) (ap (read_packet reader) e ∙ packet_again set reader laws p after is) fails

  abbrev NoPacket : List ℕ → Type 0
  NoPacket rest = (p : List C) (after : List ℕ) → IsPacketOf set p → rest ≡ packet_of set p ++ after → ⊥

  bad_none : (rest : List ℕ) → HasBadCount rest → NoPacket rest
  bad_none rest h = failing_is_none rest (BadCount (length (half h.count ++ h.rest))) (bad_is rest h)

  unknown_none : (rest : List ℕ) (left : ℕ) → HasUnknown set rest left → NoPacket rest
  unknown_none rest left h = failing_is_none rest (Unknown (length (h.byte ∷ h.rest))) (unknown_is rest left h)

  behind_none : (bytes rest : List ℕ) (cs : List C) → Behind set bytes rest → SpellsStreamOf set bytes cs → 0 < length rest → ((p : List C) (after : List ℕ) → IsPacketOf set p → rest ≡ packet_of set p ++ after → ⊥) → ⊥
  behind_none bytes rest cs h s some none =
      let r = strip h.packets s.packets rest h.each s.each (sym h.parts ∙ s.parts) in
      no_rest r.0 rest r.1 r.2 some none

  some_bad : (rest : List ℕ) → HasBadCount rest → 0 < length rest
  some_bad rest h = omega (arith, ap length h.parts, length-append (half h.count) h.rest)

  some_unknown : (rest : List ℕ) (left : ℕ) → HasUnknown set rest left → 0 < length rest
  some_unknown rest left h = omega (arith, ap length h.parts, length-append (half h.count) (h.names ++ h.byte ∷ h.rest))

  pub fails_is_none : (bytes : List ℕ) (f : PackFault) (cs : List C) → FailsAsStreamOf set bytes f → IsFault f → SpellsStreamOf set bytes cs → ⊥
  fails_is_none bytes (faults.BadCount at) cs h is s = behind_none bytes h.0 cs h.1 s (some_bad h.0 h.2) (bad_none h.0 h.2)
  fails_is_none bytes (faults.UnknownOpcode at) cs h is s = behind_none bytes h.0 cs h.2 s (some_unknown h.0 h.1 h.3) (unknown_none h.0 h.1 h.3)
  fails_is_none bytes (faults.Truncated at) cs h is s = behind_none bytes h.0 cs h.1 s h.2 (cut_is_none h.0 h.3)
  fails_is_none bytes faults.OutOfMemory cs h is s = absurd is

  -- an answer to bytes that spell commands is these commands, or want of memory
  pub only_these : (bytes : List ℕ) (r : Result (List C) PackFault) → IfOk r (SpellsStreamOf set bytes) → IfErr r (FailsAsStreamOf set bytes) → (cs : List C) → SpellsStreamOf set bytes cs → (r ≡ Ok cs) ⊎ (r ≡ Err faults.OutOfMemory)
  only_these bytes (Ok v) found fails cs s = inl (ap (λ (l : List C). Ok l) (one_spelling bytes v cs found s))
  only_these bytes (Err (faults.BadCount at)) found fails cs s = absurd (fails_is_none bytes (faults.BadCount at) cs fails tt s)
  only_these bytes (Err (faults.UnknownOpcode at)) found fails cs s = absurd (fails_is_none bytes (faults.UnknownOpcode at) cs fails tt s)
  only_these bytes (Err (faults.Truncated at)) found fails cs s = absurd (fails_is_none bytes (faults.Truncated at) cs fails tt s)
  only_these bytes (Err faults.OutOfMemory) found fails cs s = inr refl

  -- ---- one fault

  tail : (p : List C) (ps : List (List C)) (rest : List ℕ) → flat_map (packet_of set) (p ∷ ps) ++ rest ≡ packet_of set p ++ (flat_map (packet_of set) ps ++ rest)
  tail p ps rest = ap (λ (l : List ℕ). l ++ rest) (flat_map-cons (packet_of set) p ps) ∙ append_assoc (packet_of set p) (flat_map (packet_of set) ps) rest

  same_rests : (ps qs : List (List C)) (r s : List ℕ) → AllByRecursion (IsPacketOf set) ps → AllByRecursion (IsPacketOf set) qs → NoPacket r → NoPacket s → flat_map (packet_of set) ps ++ r ≡ flat_map (packet_of set) qs ++ s → r ≡ s
  same_rests [] [] r s p q none other e = e
  same_rests [] (b ∷ qs) r s p q none other e = absurd (none b (flat_map (packet_of set) qs ++ s) q.0 (e ∙ tail b qs s))
  same_rests (a ∷ ps) [] r s p q none other e = absurd (other a (flat_map (packet_of set) ps ++ r) p.0 (sym e ∙ tail a ps r))
  same_rests (a ∷ ps) (b ∷ qs) r s p q none other e =
      same_rests ps qs r s p.1 q.1 none other (same_packet a b (flat_map (packet_of set) ps ++ r) (flat_map (packet_of set) qs ++ s) (sym (tail a ps r) ∙ e ∙ tail b qs s) p.0 q.0).1

  same_rest : (bytes r s : List ℕ) → Behind set bytes r → Behind set bytes s → NoPacket r → NoPacket s → r ≡ s
  same_rest bytes r s h k none other = same_rests h.packets k.packets r s h.each k.each none other (sym h.parts ∙ k.parts)

  -- a bad count and a cut don't go together, since a part of a packet goes on to one
  bad_more : (rest more : List ℕ) → HasBadCount rest → HasBadCount (rest ++ more)
  bad_more rest more h = record { count = h.count; rest = h.rest ++ more; fits = h.fits; bad = h.bad; parts = ap (λ (l : List ℕ). l ++ more) h.parts ∙ append_assoc (half h.count) h.rest more }

  unknown_more : (rest more : List ℕ) (left : ℕ) (h : HasUnknown set rest left) → HasUnknown set (rest ++ more) (length (h.byte ∷ (h.rest ++ more)))
  unknown_more rest more left h = record {
    count = h.count;
    names = h.names;
    byte = h.byte;
    rest = h.rest ++ more;
    some = h.some;
    most = h.most;
    each = h.each;
    unknown = h.unknown;
    few = h.few;
    parts = ap (λ (l : List ℕ). l ++ more) h.parts ∙ append_assoc (half h.count) (h.names ++ h.byte ∷ h.rest) more ∙ ap (λ (l : List ℕ). half h.count ++ l) (append_assoc h.names (h.byte ∷ h.rest) more);
    left_is = refl;
  }

  whole_packet_is : (rest : List ℕ) (cut : IsCut set rest) → rest ++ cut.more ≡ packet_of set cut.commands ++ []
  whole_packet_is rest cut = cut.whole ∙ sym (append-nil (packet_of set cut.commands))

  bad_or_cut : (r s : List ℕ) → r ≡ s → HasBadCount r → IsCut set s → ⊥
  bad_or_cut r s same h cut = bad_none (s ++ cut.more) (bad_more s cut.more (subst HasBadCount same h)) cut.commands [] cut.is_packet (whole_packet_is s cut)

  unknown_or_cut : (r s : List ℕ) (left : ℕ) → r ≡ s → HasUnknown set r left → IsCut set s → ⊥
  unknown_or_cut r s left same h cut =
      let k = subst (λ (l : List ℕ). HasUnknown set l left) same h in
      unknown_none (s ++ cut.more) (length (k.byte ∷ (k.rest ++ cut.more))) (unknown_more s cut.more left k) cut.commands [] cut.is_packet (whole_packet_is s cut)

  bad_or_unknown : (r s : List ℕ) (left : ℕ) → r ≡ s → HasBadCount r → HasUnknown set s left → ⊥
  bad_or_unknown r s left same h k =
      let one : read_packet reader s ≡ failed (BadCount (length (half h.count ++ h.rest))) = ap (read_packet reader) (sym same) ∙ bad_is r h in
      let two : read_packet reader s ≡ failed (Unknown (length (k.byte ∷ k.rest))) = unknown_is s left k in
      let both : failed (BadCount (length (half h.count ++ h.rest))) ≡ failed (Unknown (length (k.byte ∷ k.rest))) = sym one ∙ two in
      absurd cc

  one_left : (r s : List ℕ) (left other : ℕ) → r ≡ s → HasUnknown set r left → HasUnknown set s other → left ≡ other
  one_left r s left other same h k =
      let one : read_packet reader s ≡ failed (Unknown (length (h.byte ∷ h.rest))) = ap (read_packet reader) (sym same) ∙ unknown_is r left h in
      let two : read_packet reader s ≡ failed (Unknown (length (k.byte ∷ k.rest))) = unknown_is s other k in
      let both : failed (Unknown (length (h.byte ∷ h.rest))) ≡ failed (Unknown (length (k.byte ∷ k.rest))) = sym one ∙ two in
      let lengths : length (h.byte ∷ h.rest) ≡ length (k.byte ∷ k.rest) = cc in
      h.left_is ∙ lengths ∙ sym k.left_is

  pub one_fault : (bytes : List ℕ) (f g : PackFault) → FailsAsStreamOf set bytes f → FailsAsStreamOf set bytes g → IsFault f → IsFault g → f ≡ g
  one_fault bytes (faults.BadCount at) (faults.BadCount to) h k a b =
      let same = same_rest bytes h.0 k.0 h.1 k.1 (bad_none h.0 h.2) (bad_none k.0 k.2) in
      ap (λ (n : ℕ). faults.BadCount n) (omega (arith, ap length same, h.3, k.3))
  one_fault bytes (faults.BadCount at) (faults.UnknownOpcode to) h k a b =
      absurd (bad_or_unknown h.0 k.0 k.1 (same_rest bytes h.0 k.0 h.1 k.2 (bad_none h.0 h.2) (unknown_none k.0 k.1 k.3)) h.2 k.3)
  one_fault bytes (faults.BadCount at) (faults.Truncated to) h k a b =
      absurd (bad_or_cut h.0 k.0 (same_rest bytes h.0 k.0 h.1 k.1 (bad_none h.0 h.2) (cut_is_none k.0 k.3)) h.2 k.3)
  one_fault bytes (faults.UnknownOpcode at) (faults.BadCount to) h k a b =
      absurd (bad_or_unknown k.0 h.0 h.1 (same_rest bytes k.0 h.0 k.1 h.2 (bad_none k.0 k.2) (unknown_none h.0 h.1 h.3)) k.2 h.3)
  one_fault bytes (faults.UnknownOpcode at) (faults.UnknownOpcode to) h k a b =
      let same = same_rest bytes h.0 k.0 h.2 k.2 (unknown_none h.0 h.1 h.3) (unknown_none k.0 k.1 k.3) in
      ap (λ (n : ℕ). faults.UnknownOpcode n) (omega (arith, one_left h.0 k.0 h.1 k.1 same h.3 k.3, h.4, k.4))
  one_fault bytes (faults.UnknownOpcode at) (faults.Truncated to) h k a b =
      absurd (unknown_or_cut h.0 k.0 h.1 (same_rest bytes h.0 k.0 h.2 k.1 (unknown_none h.0 h.1 h.3) (cut_is_none k.0 k.3)) h.3 k.3)
  one_fault bytes (faults.Truncated at) (faults.BadCount to) h k a b =
      absurd (bad_or_cut k.0 h.0 (same_rest bytes k.0 h.0 k.1 h.1 (bad_none k.0 k.2) (cut_is_none h.0 h.3)) k.2 h.3)
  one_fault bytes (faults.Truncated at) (faults.UnknownOpcode to) h k a b =
      absurd (unknown_or_cut k.0 h.0 k.1 (same_rest bytes k.0 h.0 k.2 h.1 (unknown_none k.0 k.1 k.3) (cut_is_none h.0 h.3)) k.3 h.3)
  one_fault bytes (faults.Truncated at) (faults.Truncated to) h k a b = ap (λ (n : ℕ). faults.Truncated n) (h.4 ∙ sym k.4)
  one_fault bytes faults.OutOfMemory g h k a b = absurd a
  one_fault bytes (faults.BadCount at) faults.OutOfMemory h k a b = absurd b
  one_fault bytes (faults.UnknownOpcode at) faults.OutOfMemory h k a b = absurd b
  one_fault bytes (faults.Truncated at) faults.OutOfMemory h k a b = absurd b
