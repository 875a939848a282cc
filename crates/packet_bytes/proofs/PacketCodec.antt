-- Names, counts and packets.
use Rattle.std.proofs.Common.{◌≡◌, ℕ, zero, suc, ◌+◌, ◌^◌, ◌<◌, ◌≤◌, Bool, true, false, cond, eqb, ltb, ◌||◌, List, [], ◌∷◌, ◌++◌, length, take, drop, map, Option, Some, None, Ok, Err, refl, sym, ap, subst, ◌∙◌, append_assoc, arith, ◌⊎◌, inl, inr, length-append}
use Rattle.std.specs.List.{AllByRecursion, flat_map}
use Rattle.std.proofs.lemmas.Bool.{cases_eq, ltb-true}
use Rattle.std.proofs.lemmas.Bool.Decides.{nat_tests}
use Rattle.std.proofs.lemmas.List.{length-map}
use Rattle.std.proofs.lemmas.Nat.{le_bytes_2}
use Rattle.std.specs.Int.{Width, w16, byte_len, from_le_bytes}
use Rattle.std.proofs.lemmas.List.Concat.{flat_map-cons}
use Rattle.rc_base.specs.Formats.Commands.{AreBytes}
use Rattle.byte_codec.specs.declared.fault.Form.{Form}
use Rattle.byte_codec.specs.declared.fault.Form.TheVariants.{BadCount, Unknown, Truncated}
use Rattle.packet_bytes.specs.Faults.{IsOpcode, HasBadCount, HasUnknown, IsCut, FailsAsPacket}
use Rattle.byte_codec.specs.Reading.{◌>>=◌, known, read_unsigned}
use Rattle.packet_bytes.specs.Packets.{read_payloads, read_opcode, read_opcodes, read_count, read_packet}
use Rattle.byte_codec.specs.Codec.{AreBytes-behind, bind_ok, bind_err, ok_no_err}
use Rattle.byte_codec.specs.NumberCodecs.{guard_err, number_codec, wide16}
use Rattle.rc_base.specs.Formats.Spelling.{CommandSet, half, packet_of, IsPacketOf}
use Rattle.packet_bytes.specs.Sets.{SetReader, Agrees, IsOf, byte_of}

module _ {C O : Type 0} (set : CommandSet C O) (reader : SetReader C O) (laws : Agrees set reader) where
  -- ---- names

  guard_known : (o : Option O) (left : ℕ) (x : O) → known o left ≡ Ok x → o ≡ Some x
  guard_known None left x e = absurd cc
  guard_known (Some o) left x e = cc

  known_fails : (o : Option O) (left : ℕ) (f : Form) → known o left ≡ Err f → (o ≡ None) × (f ≡ Unknown left)
  known_fails None left f e = (refl, cc)
  known_fails (Some o) left f e = absurd cc

  name_takes : (bytes : List ℕ) (o : O) (rest : List ℕ) → read_opcode reader bytes ≡ Ok (o, rest) → bytes ≡ set.number o ∷ rest
  unfolding read_opcode
  name_takes [] o rest e = absurd cc
  name_takes (b ∷ bs) o rest e =
      let one = bind_ok (known (reader.named b) (length (b ∷ bs))) (λ o. Ok (o, bs)) (o, rest) e in
      let same : (let v : O × List ℕ = (one.0, bs) in v) ≡ (o, rest) = cc in
      let byte : b ≡ set.number one.0 = laws.number_named b one.0 (guard_known (reader.named b) (length (b ∷ bs)) one.0 one.1) in
      subst (λ (v : O × List ℕ). b ∷ bs ≡ set.number v.0 ∷ v.1) same (ap (λ (x : ℕ). x ∷ bs) byte)

  name_again : (o : O) (rest : List ℕ) → read_opcode reader (set.number o ∷ rest) ≡ Ok (o, rest)
  unfolding read_opcode
  name_again o rest = rw (laws.named_number o) refl

  pub names_takes : (n : ℕ) (bytes : List ℕ) (os : List O) (rest : List ℕ) → read_opcodes reader n bytes ≡ Ok (os, rest) → (bytes ≡ map set.number os ++ rest) × (length os ≡ n)
  unfolding read_opcodes
  names_takes zero bytes os rest e =
      let same : (let v : List O × List ℕ = ([], bytes) in v) ≡ (os, rest) = cc in
      subst (λ (v : List O × List ℕ). (bytes ≡ map set.number v.0 ++ v.1) × (length v.0 ≡ 0)) same (refl, refl)
  names_takes (suc n) bytes os rest e =
      let a = bind_ok (read_opcode reader bytes) (λ first. read_opcodes reader n first.1 >>= λ others. Ok (first.0 ∷ others.0, others.1)) (os, rest) e in
      let b = bind_ok (read_opcodes reader n a.0.1) (λ others. Ok (a.0.0 ∷ others.0, others.1)) (os, rest) a.2 in
      let same : (let v : List O × List ℕ = (a.0.0 ∷ b.0.0, b.0.1) in v) ≡ (os, rest) = cc in
      let first = name_takes bytes a.0.0 a.0.1 a.1 in
      let others = names_takes n a.0.1 b.0.0 b.0.1 b.1 in
      subst (λ (v : List O × List ℕ). (bytes ≡ map set.number v.0 ++ v.1) × (length v.0 ≡ suc n)) same
      (first ∙ ap (λ (l : List ℕ). set.number a.0.0 ∷ l) others.0, ap suc others.1)

  pub names_again : (os : List O) (rest : List ℕ) → read_opcodes reader (length os) (map set.number os ++ rest) ≡ Ok (os, rest)
  unfolding read_opcodes
  names_again [] rest = refl
  names_again (o ∷ os) rest = rw (name_again o (map set.number os ++ rest), names_again os rest) refl

  -- the bytes end before the names do
  pub record NamesCut (n : ℕ) (bytes : List ℕ) : Type 0 where
    pub names : List O
    pub more : List ℕ
    pub size : length names ≡ n
    pub whole : bytes ++ more ≡ map set.number names
    pub some : 0 < length more

  -- a byte among them names nothing
  pub record NamesBroken (n : ℕ) (bytes : List ℕ) (f : Form) : Type 0 where
    pub names : List O
    pub byte : ℕ
    pub rest : List ℕ
    pub few : length names < n
    pub unknown : reader.named byte ≡ None
    pub parts : bytes ≡ map set.number names ++ byte ∷ rest
    pub is : f ≡ Unknown (length (byte ∷ rest))

  abbrev swaps : ℕ → List O
  swaps zero = []
  swaps (suc n) = laws.some ∷ swaps n

  length-swaps : (n : ℕ) → length (swaps n) ≡ n
  length-swaps zero = refl
  length-swaps (suc n) = ap suc (length-swaps n)

  name_fails : (b : ℕ) (bs : List ℕ) (f : Form) → read_opcode reader (b ∷ bs) ≡ Err f → (reader.named b ≡ None) × (f ≡ Unknown (length (b ∷ bs)))
  unfolding read_opcode
  name_fails b bs f e = elim (bind_err (known (reader.named b) (length (b ∷ bs))) (λ o. Ok (o, bs)) f e) [
    | inl early ↦ known_fails (reader.named b) (length (b ∷ bs)) f early
    | inr none ↦ absurd (ok_no_err none.2)
  ]

  name_short : (f : Form) → read_opcode reader [] ≡ Err f → f ≡ Truncated
  unfolding read_opcode
  name_short f e = cc

  name_empty : (x : O × List ℕ) → read_opcode reader [] ≡ Ok x → ⊥
  unfolding read_opcode
  name_empty x e = cc

  behind_name : (n : ℕ) (bytes : List ℕ) (f : Form) (o : O) (after : List ℕ) → bytes ≡ set.number o ∷ after
      → ((f ≡ Truncated) × NamesCut n after) ⊎ NamesBroken n after f → ((f ≡ Truncated) × NamesCut (suc n) bytes) ⊎ NamesBroken (suc n) bytes f
  behind_name n bytes f o after parts (inl k) =
      inl (
        k.0,
        record {
          names = o ∷ k.1.names;
          more = k.1.more;
          size = ap suc k.1.size;
          whole = ap (λ (l : List ℕ). l ++ k.1.more) parts ∙ ap (λ (l : List ℕ). set.number o ∷ l) k.1.whole;
          some = k.1.some;
        },
      )
  behind_name n bytes f o after parts (inr k) =
      inr (record {
        names = o ∷ k.names;
        byte = k.byte;
        rest = k.rest;
        few = omega (arith, k.few);
        unknown = k.unknown;
        parts = parts ∙ ap (λ (l : List ℕ). set.number o ∷ l) k.parts;
        is = k.is;
      })

  pub names_fail : (n : ℕ) (bytes : List ℕ) (f : Form) → read_opcodes reader n bytes ≡ Err f → ((f ≡ Truncated) × NamesCut n bytes) ⊎ NamesBroken n bytes f
  unfolding read_opcodes
  names_fail zero bytes f e = absurd cc
  names_fail (suc n) [] f e = elim (bind_err (read_opcode reader []) (λ first. read_opcodes reader n first.1 >>= λ others. Ok (first.0 ∷ others.0, others.1)) f e) [
    | inl early ↦ inl (name_short f early, record { names = laws.some ∷ swaps n; more = map set.number (laws.some ∷ swaps n); size = ap suc (length-swaps n); whole = refl; some = omega arith })
    | inr late ↦ absurd (name_empty late.0 late.1)
  ]
  names_fail (suc n) (b ∷ bs) f e = elim (bind_err (read_opcode reader (b ∷ bs)) (λ first. read_opcodes reader n first.1 >>= λ others. Ok (first.0 ∷ others.0, others.1)) f e) [
    | inl early ↦
        let k = name_fails b bs f early in
        inr (record { names = []; byte = b; rest = bs; few = omega arith; unknown = k.0; parts = refl; is = k.1 })
    | inr late ↦
        let first = name_takes (b ∷ bs) late.0.0 late.0.1 late.1 in
        elim (bind_err (read_opcodes reader n late.0.1) (λ others. Ok (late.0.0 ∷ others.0, others.1)) f late.2) [
          | inl failing ↦ behind_name n (b ∷ bs) f late.0.0 late.0.1 first (names_fail n late.0.1 f failing)
          | inr none ↦ absurd (ok_no_err none.2)
        ]
  ]

  -- ---- the payloads of several commands

  pub record Payloads (os : List O) (cs : List C) : Type 0 where
    pub each : AllByRecursion set.IsOne cs
    pub kinds : map set.opcode cs ≡ os

  one_more : (o : O) (os : List O) (c : C) (cs : List C) → IsOf set o c → Payloads os cs → Payloads (o ∷ os) (c ∷ cs)
  one_more o os c cs h k = record { each = (h.0, k.each); kinds = ap (λ (x : O). x ∷ map set.opcode cs) h.1 ∙ ap (λ (l : List O). o ∷ l) k.kinds }

  some_payloads : (os : List O) → (cs : List C) × Payloads os cs
  some_payloads [] = ([], record { each = tt; kinds = refl })
  some_payloads (o ∷ os) =
      let first = (laws.makes o).some in
      let others = some_payloads os in
      (first.0 ∷ others.0, one_more o os first.0 others.0 first.1 others.1)

  pub payloads_takes : (os : List O) (bytes : List ℕ) (cs : List C) (rest : List ℕ) → AreBytes bytes → read_payloads reader os bytes ≡ Ok (cs, rest) → (bytes ≡ flat_map set.fields cs ++ rest) × Payloads os cs
  unfolding read_payloads
  payloads_takes [] bytes cs rest fits e =
      let same : (let v : List C × List ℕ = ([], bytes) in v) ≡ (cs, rest) = cc in
      subst (λ (v : List C × List ℕ). (bytes ≡ flat_map set.fields v.0 ++ v.1) × Payloads [] v.0) same (refl, record { each = tt; kinds = refl })
  payloads_takes (o ∷ os) bytes cs rest fits e =
      let a = bind_ok (reader.read o bytes) (λ first. read_payloads reader os first.1 >>= λ others. Ok (first.0 ∷ others.0, others.1)) (cs, rest) e in
      let b = bind_ok (read_payloads reader os a.0.1) (λ others. Ok (a.0.0 ∷ others.0, others.1)) (cs, rest) a.2 in
      let same : (let v : List C × List ℕ = (a.0.0 ∷ b.0.0, b.0.1) in v) ≡ (cs, rest) = cc in
      let first = (laws.makes o).takes bytes a.0.0 a.0.1 fits a.1 in
      let fits_after : AreBytes a.0.1 = AreBytes-behind (set.fields a.0.0) a.0.1 (subst AreBytes first.0 fits) in
      let others = payloads_takes os a.0.1 b.0.0 b.0.1 fits_after b.1 in
      let parts : bytes ≡ flat_map set.fields (a.0.0 ∷ b.0.0) ++ b.0.1 =
      first.0 ∙ ap (λ (l : List ℕ). set.fields a.0.0 ++ l) others.0 ∙ sym (append_assoc (set.fields a.0.0) (flat_map set.fields b.0.0) b.0.1) ∙ ap (λ (l : List ℕ). l ++ b.0.1) (sym (flat_map-cons set.fields a.0.0 b.0.0)) in
      subst (λ (v : List C × List ℕ). (bytes ≡ flat_map set.fields v.0 ++ v.1) × Payloads (o ∷ os) v.0) same (parts, one_more o os a.0.0 b.0.0 first.1 others.1)

  pub payloads_again : (cs : List C) (rest : List ℕ) → AllByRecursion set.IsOne cs → read_payloads reader (map set.opcode cs) (flat_map set.fields cs ++ rest) ≡ Ok (cs, rest)
  unfolding read_payloads
  payloads_again [] rest fits = refl
  payloads_again (c ∷ cs) rest fits =
      let regrouped : flat_map set.fields (c ∷ cs) ++ rest ≡ set.fields c ++ (flat_map set.fields cs ++ rest) = ap (λ (l : List ℕ). l ++ rest) (flat_map-cons set.fields c cs) ∙ append_assoc (set.fields c) (flat_map set.fields cs) rest in
      ap (read_payloads reader (map set.opcode (c ∷ cs))) regrouped ∙ rw (laws.again c (flat_map set.fields cs ++ rest) fits.0, payloads_again cs rest fits.1) refl

  -- the bytes end before the payloads do
  pub record PayloadsCut (os : List O) (bytes : List ℕ) : Type 0 where
    pub commands : List C
    pub more : List ℕ
    pub are : Payloads os commands
    pub whole : bytes ++ more ≡ flat_map set.fields commands
    pub some : 0 < length more

  pub payloads_fail : (os : List O) (bytes : List ℕ) (f : Form) → AreBytes bytes → read_payloads reader os bytes ≡ Err f → (f ≡ Truncated) × PayloadsCut os bytes
  unfolding read_payloads
  payloads_fail [] bytes f fits e = absurd cc
  payloads_fail (o ∷ os) bytes f fits e = elim (bind_err (reader.read o bytes) (λ first. read_payloads reader os first.1 >>= λ others. Ok (first.0 ∷ others.0, others.1)) f e) [
    | inl early ↦
        let k = (laws.makes o).cut bytes f fits early in
        let others = some_payloads os in
        let c = k.1.value in (
          k.0,
          record {
            commands = c ∷ others.0;
            more = k.1.more ++ flat_map set.fields others.0;
            are = one_more o os c others.0 k.1.fits others.1;
            whole = sym (append_assoc bytes k.1.more (flat_map set.fields others.0)) ∙ ap (λ (l : List ℕ). l ++ flat_map set.fields others.0) k.1.whole ∙ sym (flat_map-cons set.fields c others.0);
            some = omega (arith, length-append k.1.more (flat_map set.fields others.0), k.1.some);
          },
        )
    | inr late ↦
        let first = (laws.makes o).takes bytes late.0.0 late.0.1 fits late.1 in
        let fits_after : AreBytes late.0.1 = AreBytes-behind (set.fields late.0.0) late.0.1 (subst AreBytes first.0 fits) in
        elim (bind_err (read_payloads reader os late.0.1) (λ others. Ok (late.0.0 ∷ others.0, others.1)) f late.2) [
          | inl failing ↦
              let k = payloads_fail os late.0.1 f fits_after failing in (
                k.0,
                record {
                  commands = late.0.0 ∷ k.1.commands;
                  more = k.1.more;
                  are = one_more o os late.0.0 k.1.commands first.1 k.1.are;
                  whole = ap (λ (l : List ℕ). l ++ k.1.more) first.0 ∙ append_assoc (set.fields late.0.0) late.0.1 k.1.more ∙ ap (λ (l : List ℕ). set.fields late.0.0 ++ l) k.1.whole ∙ sym (flat_map-cons set.fields late.0.0 k.1.commands);
                  some = k.1.some;
                },
              )
          | inr none ↦ absurd (ok_no_err none.2)
        ]
  ]

  -- ---- counts

  count_ok : (b : Bool) (d : Form) (x y : ℕ × List ℕ) → cond b (Err d) (Ok x) ≡ Ok y → (b ≡ false) × (x ≡ y)
  count_ok true d x y e = absurd cc
  count_ok false d x y e = (refl, cc)

  count_err : (b : Bool) (c d : Form) (x : ℕ × List ℕ) → cond b (Err c) (Ok x) ≡ Err d → (b ≡ true) × (c ≡ d)
  count_err true c d x e = (refl, cc)
  count_err false c d x e = absurd cc

  pub good_some : (n : ℕ) → (eqb n 0 || ltb 1024 n) ≡ false → 1 ≤ n
  good_some n e = grind (arith, nat_tests)

  pub good_most : (n : ℕ) → (eqb n 0 || ltb 1024 n) ≡ false → n ≤ 1024
  good_most n e = grind (arith, nat_tests)

  pub good_again : (n : ℕ) → 1 ≤ n → n ≤ 1024 → (eqb n 0 || ltb 1024 n) ≡ false
  good_again n some most = grind (arith, nat_tests)

  many : (n : ℕ) → (n ≡ 0 → ⊥) → (eqb n 0 || ltb 1024 n) ≡ true → 1024 < n
  many n some e = grind (arith, nat_tests)

  pub bad_count : (n : ℕ) → (eqb n 0 || ltb 1024 n) ≡ true → (n ≡ 0) ⊎ (1024 < n)
  bad_count n e = elim (cases_eq n 0) [
    | inl none ↦ inl none
    | inr some ↦ inr (many n some e)
  ]

  pub count_takes : (bytes : List ℕ) (n : ℕ) (rest : List ℕ) → AreBytes bytes → read_count bytes ≡ Ok (n, rest) → (bytes ≡ half n ++ rest) × (n < 2 ^ 16) × (1 ≤ n) × (n ≤ 1024)
  unfolding read_count
  count_takes bytes n rest fits e =
      let a = bind_ok (read_unsigned w16 bytes) (λ n. cond (eqb n.0 0 || ltb 1024 n.0) (Err (BadCount (length bytes))) (Ok n)) (n, rest) e in
      let g = count_ok (eqb a.0.0 0 || ltb 1024 a.0.0) (BadCount (length bytes)) a.0 (n, rest) a.2 in
      let t = (number_codec w16 (2 ^ 16) wide16).maker.takes bytes a.0.0 a.0.1 fits a.1 in
      subst (λ (v : ℕ × List ℕ). (bytes ≡ half v.0 ++ v.1) × (v.0 < 2 ^ 16) × (1 ≤ v.0) × (v.0 ≤ 1024)) g.1 (t.0, t.1, good_some a.0.0 g.0, good_most a.0.0 g.0)

  pub count_again : (n : ℕ) (rest : List ℕ) → 1 ≤ n → n ≤ 1024 → read_count (half n ++ rest) ≡ Ok (n, rest)
  unfolding read_count
  count_again n rest some most = rw ((number_codec w16 (2 ^ 16) wide16).again n rest (omega arith), good_again n some most) refl

  number_short : (w : Width) (bytes : List ℕ) (f : Form) → read_unsigned w bytes ≡ Err f → (f ≡ Truncated) × (length bytes < byte_len w)
  number_short w bytes f e =
      let g = guard_err (ltb (length bytes) (byte_len w)) Truncated f (from_le_bytes w (take (byte_len w) bytes), drop (byte_len w) bytes) e in
      (sym g.1, ltb-true _ _ g.0)

  pub count_fails : (bytes : List ℕ) (f : Form) → AreBytes bytes → read_count bytes ≡ Err f
      → ((f ≡ Truncated) × (length bytes < 2)) ⊎ ((f ≡ BadCount (length bytes)) × HasBadCount bytes)
  unfolding read_count
  count_fails bytes f fits e = elim (bind_err (read_unsigned w16 bytes) (λ n. cond (eqb n.0 0 || ltb 1024 n.0) (Err (BadCount (length bytes))) (Ok n)) f e) [
    | inl early ↦ inl (number_short w16 bytes f early)
    | inr late ↦
        let g = count_err (eqb late.0.0 0 || ltb 1024 late.0.0) (BadCount (length bytes)) f late.0 late.2 in
        let t = (number_codec w16 (2 ^ 16) wide16).maker.takes bytes late.0.0 late.0.1 fits late.1 in
        inr (sym g.1, record { count = late.0.0; rest = late.0.1; fits = t.1; bad = bad_count late.0.0 g.0; parts = t.0 })
  ]

  -- ---- packets

  length_kinds : (cs : List C) (os : List O) → map set.opcode cs ≡ os → length cs ≡ length os
  length_kinds cs os e = sym (length-map cs set.opcode) ∙ ap length e

  opcodes_of_kinds : (cs : List C) → map set.number (map set.opcode cs) ≡ map (byte_of set) cs
  opcodes_of_kinds [] = refl
  opcodes_of_kinds (c ∷ cs) = ap (λ (l : List ℕ). byte_of set c ∷ l) (opcodes_of_kinds cs)

  opcodes_are : (cs : List C) (os : List O) → map set.opcode cs ≡ os → map set.number os ≡ map (byte_of set) cs
  opcodes_are cs os e = ap (map set.number) (sym e) ∙ opcodes_of_kinds cs

  -- a count, names and payloads that belong together are a packet
  whole_packet : (n : ℕ) (os : List O) (cs : List C) → length os ≡ n → Payloads os cs → half n ++ (map set.number os ++ flat_map set.fields cs) ≡ packet_of set cs
  whole_packet n os cs size are =
      let count : n ≡ length cs = sym size ∙ sym (length_kinds cs os are.kinds) in
      ap (λ (k : ℕ). half k ++ (map set.number os ++ flat_map set.fields cs)) count ∙ ap (λ (l : List ℕ). half (length cs) ++ (l ++ flat_map set.fields cs)) (opcodes_are cs os are.kinds)

  is_packet : (n : ℕ) (os : List O) (cs : List C) → 1 ≤ n → n ≤ 1024 → length os ≡ n → Payloads os cs → IsPacketOf set cs
  is_packet n os cs some most size are =
      let count : length cs ≡ n = length_kinds cs os are.kinds ∙ size in
      record { some = omega arith; most = omega arith; each = are.each }

  pub packet_takes : (bytes : List ℕ) (cs : List C) (rest : List ℕ) → AreBytes bytes → read_packet reader bytes ≡ Ok (cs, rest) → (bytes ≡ packet_of set cs ++ rest) × IsPacketOf set cs
  unfolding read_packet
  packet_takes bytes cs rest fits e =
      let a = bind_ok (read_count bytes) (λ count. read_opcodes reader count.0 count.1 >>= λ names. read_payloads reader names.0 names.1) (cs, rest) e in
      let b = bind_ok (read_opcodes reader a.0.0 a.0.1) (λ names. read_payloads reader names.0 names.1) (cs, rest) a.2 in
      let n = a.0.0 in
      let os = b.0.0 in
      let count = count_takes bytes n a.0.1 fits a.1 in
      let fits1 : AreBytes a.0.1 = AreBytes-behind (half n) a.0.1 (subst AreBytes count.0 fits) in
      let names = names_takes n a.0.1 os b.0.1 b.1 in
      let fits2 : AreBytes b.0.1 = AreBytes-behind (map set.number os) b.0.1 (subst AreBytes names.0 fits1) in
      let loads = payloads_takes os b.0.1 cs rest fits2 b.2 in
      let inner : a.0.1 ≡ (map set.number os ++ flat_map set.fields cs) ++ rest = names.0 ∙ ap (λ (l : List ℕ). map set.number os ++ l) loads.0 ∙ sym (append_assoc (map set.number os) (flat_map set.fields cs) rest) in
      let parts : bytes ≡ (half n ++ (map set.number os ++ flat_map set.fields cs)) ++ rest = count.0 ∙ ap (λ (l : List ℕ). half n ++ l) inner ∙ sym (append_assoc (half n) (map set.number os ++ flat_map set.fields cs) rest) in
      (parts ∙ ap (λ (l : List ℕ). l ++ rest) (whole_packet n os cs names.1 loads.1), is_packet n os cs count.2 count.3 names.1 loads.1)

  pub packet_again : (cs : List C) (rest : List ℕ) → IsPacketOf set cs → read_packet reader (packet_of set cs ++ rest) ≡ Ok (cs, rest)
  unfolding read_packet
  packet_again cs rest fits =
      let os = map set.opcode cs in
      let behind = flat_map set.fields cs ++ rest in
      let size : length cs ≡ length os = length_kinds cs os refl in
      let regrouped : packet_of set cs ++ rest ≡ half (length os) ++ (map set.number os ++ behind) =
      ap (λ (l : List ℕ). l ++ rest) (sym (whole_packet (length os) os cs refl (record { each = fits.each; kinds = refl })))
      ∙ append_assoc (half (length os)) (map set.number os ++ flat_map set.fields cs) rest
      ∙ ap (λ (l : List ℕ). half (length os) ++ l) (append_assoc (map set.number os) (flat_map set.fields cs) rest) in
      let one = count_again (length os) (map set.number os ++ behind) (omega (arith, fits.some)) (omega (arith, fits.most)) in
      ap (read_packet reader) regrouped ∙ rw (one, names_again os behind, payloads_again cs rest fits.each) refl

  -- ---- what isn't a packet

  all_names : (os : List O) → AllByRecursion (IsOpcode set) (map set.number os)
  all_names [] = tt
  all_names (o ∷ os) = ((o, refl), all_names os)

  none_named : (b : ℕ) → reader.named b ≡ None → IsOpcode set b → ⊥
  none_named b none is =
      let some : reader.named b ≡ Some is.0 = ap reader.named (sym is.1) ∙ laws.named_number is.0 in
      absurd (cc (none, some))

  -- from a cut among the names on, any payloads will do
  cut_names : (bytes : List ℕ) (n : ℕ) (after : List ℕ) → bytes ≡ half n ++ after → 1 ≤ n → n ≤ 1024 → NamesCut n after → IsCut set bytes
  cut_names bytes n after parts some most k =
      let loads = some_payloads k.names in
      let rest = flat_map set.fields loads.0 in
      record {
        commands = loads.0;
        more = k.more ++ rest;
        is_packet = is_packet n k.names loads.0 some most k.size loads.1;
        whole = ap (λ (l : List ℕ). l ++ (k.more ++ rest)) parts ∙ append_assoc (half n) after (k.more ++ rest) ∙ ap (λ (l : List ℕ). half n ++ l) (sym (append_assoc after k.more rest) ∙ ap (λ (l : List ℕ). l ++ rest) k.whole)
            ∙ whole_packet n k.names loads.0 k.size loads.1;
        some = omega (arith, length-append k.more rest, k.some);
      }

  cut_payloads : (bytes : List ℕ) (n : ℕ) (after : List ℕ) (os : List O) (behind : List ℕ) → bytes ≡ half n ++ after → 1 ≤ n → n ≤ 1024
      → after ≡ map set.number os ++ behind → length os ≡ n → PayloadsCut os behind → IsCut set bytes
  cut_payloads bytes n after os behind parts some most names size k =
      let inner : after ++ k.more ≡ map set.number os ++ flat_map set.fields k.commands =
      ap (λ (l : List ℕ). l ++ k.more) names ∙ append_assoc (map set.number os) behind k.more ∙ ap (λ (l : List ℕ). map set.number os ++ l) k.whole in
      record {
        commands = k.commands;
        more = k.more;
        is_packet = is_packet n os k.commands some most size k.are;
        whole = ap (λ (l : List ℕ). l ++ k.more) parts ∙ append_assoc (half n) after k.more ∙ ap (λ (l : List ℕ). half n ++ l) inner ∙ whole_packet n os k.commands size k.are;
        some = k.some;
      }

  unknown_name : (bytes : List ℕ) (n : ℕ) (after : List ℕ) (f : Form) → bytes ≡ half n ++ after → 1 ≤ n → n ≤ 1024 → NamesBroken n after f → FailsAsPacket set bytes f
  unknown_name bytes n after f parts some most k =
      let found : HasUnknown set bytes (length (k.byte ∷ k.rest)) = record {
        count = n;
        names = map set.number k.names;
        byte = k.byte;
        rest = k.rest;
        some = some;
        most = most;
        each = all_names k.names;
        unknown = none_named k.byte k.unknown;
        few = omega (arith, length-map k.names set.number, k.few);
        parts = parts ∙ ap (λ (l : List ℕ). half n ++ l) k.parts;
        left_is = refl;
      } in
      subst (FailsAsPacket set bytes) (sym k.is) found

  -- a count of which a byte or more is missing
  swap_commands : (n : ℕ) → (cs : List C) × Payloads (swaps n) cs
  swap_commands n = some_payloads (swaps n)

  two_bytes : (b : ℕ) → b < 256 → AreBytes (b ∷ 1 ∷ [])
  two_bytes b lt zero = lt
  two_bytes b lt (suc zero) = omega arith
  two_bytes b lt (suc (suc i)) = omega arith

  half_of : (b : ℕ) → b < 256 → half (b + 256) ≡ b ∷ 1 ∷ []
  half_of b lt = le_bytes_2 (b ∷ 1 ∷ []) (b + 256) refl (two_bytes b lt) (omega arith)

  cut_count : (bytes : List ℕ) → AreBytes bytes → length bytes < 2 → IsCut set bytes
  cut_count [] fits short =
      let loads = swap_commands 1 in
      record { commands = loads.0; more = packet_of set loads.0; is_packet = is_packet 1 (swaps 1) loads.0 (omega arith) (omega arith) refl loads.1; whole = refl; some = omega arith }
  cut_count (b ∷ []) fits short =
      let n = b + 256 in
      let loads = swap_commands n in
      let behind = map set.number (swaps n) ++ flat_map set.fields loads.0 in
      let count : half n ≡ b ∷ 1 ∷ [] = half_of b (fits 0) in
      record {
        commands = loads.0;
        more = 1 ∷ behind;
        is_packet = is_packet n (swaps n) loads.0 (omega arith) (omega (arith, fits 0)) (length-swaps n) loads.1;
        whole = ap (λ (l : List ℕ). l ++ behind) (sym count) ∙ whole_packet n (swaps n) loads.0 (length-swaps n) loads.1;
        some = omega arith;
      }
  cut_count (b ∷ c ∷ bs) fits short = absurd (omega arith)

  pub packet_fails : (bytes : List ℕ) (f : Form) → AreBytes bytes → read_packet reader bytes ≡ Err f → FailsAsPacket set bytes f
  unfolding read_packet
  packet_fails bytes f fits e = elim (bind_err (read_count bytes) (λ count. read_opcodes reader count.0 count.1 >>= λ names. read_payloads reader names.0 names.1) f e) [
    | inl early ↦ elim (count_fails bytes f fits early) [
      | inl short ↦ subst (FailsAsPacket set bytes) (sym short.0) (cut_count bytes fits short.1)
      | inr bad ↦ let found : FailsAsPacket set bytes (BadCount (length bytes)) = (bad.1, refl) in subst (FailsAsPacket set bytes) (sym bad.0) found
    ]
    | inr late ↦
        let n = late.0.0 in
        let after = late.0.1 in
        let count = count_takes bytes n after fits late.1 in
        let fits1 : AreBytes after = AreBytes-behind (half n) after (subst AreBytes count.0 fits) in
        elim (bind_err (read_opcodes reader n after) (λ names. read_payloads reader names.0 names.1) f late.2) [
          | inl failing ↦ elim (names_fail n after f failing) [
            | inl cut ↦ subst (FailsAsPacket set bytes) (sym cut.0) (cut_names bytes n after count.0 count.2 count.3 cut.1)
            | inr broken ↦ unknown_name bytes n after f count.0 count.2 count.3 broken
          ]
          | inr further ↦
              let os = further.0.0 in
              let names = names_takes n after os further.0.1 further.1 in
              let fits2 : AreBytes further.0.1 = AreBytes-behind (map set.number os) further.0.1 (subst AreBytes names.0 fits1) in
              let cut = payloads_fail os further.0.1 f fits2 further.2 in
              subst (FailsAsPacket set bytes) (sym cut.0) (cut_payloads bytes n after os further.0.1 count.0 count.2 count.3 names.0 names.1 cut.1)
        ]
  ]
