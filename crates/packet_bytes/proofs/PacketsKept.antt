-- What is kept of a packet that is read.
use Rattle.std.proofs.Common.{◌≡◌, ℕ, ◌+◌, true, false, cond, List, [], ◌∷◌, ◌++◌, length, map, Result, Ok, Err, refl, sym, ap, ◌∙◌}
use Rattle.std.specs.List.{count_by}
use Rattle.std.proofs.lemmas.List.{length-map}
use Rattle.std.proofs.lemmas.List.Sums.{sum_by-cons}
use Rattle.byte_codec.specs.declared.fault.Form.{Form}
use Rattle.byte_codec.specs.declared.fault.ReadError.{ReadError}
use Rattle.byte_codec.specs.declared.fault.ReadError.TheVariants as errors
use Rattle.byte_codec.specs.Reading.{◌>>=◌, Fails, Gives, with_front}
use Rattle.packet_bytes.specs.declared.packets.Counts.{Counts}
use Rattle.packet_bytes.specs.Packets.{read_count, read_opcodes, read_payloads, read_packet, Keeps, AreCounted}
use Rattle.byte_codec.specs.Codec.{bind_ok}
use Rattle.packet_bytes.proofs.PacketCodec.{names_takes}
use Rattle.rc_base.specs.Formats.Spelling.{CommandSet}
use Rattle.packet_bytes.specs.Sets.{SetReader, Agrees}

module _ {C O : Type 0} (set : CommandSet C O) (reader : SetReader C O) (laws : Agrees set reader) where
  module _ {X : Type 0} (view : X → List ℕ) (old new : List C) where
    pub all_kept : (r : Result X ReadError) (read : Result (List C × List ℕ) Form) → Gives (λ x. (new, view x)) r (with_front old read) → Keeps view true old new r read
    all_kept (Ok x) (Ok y) h =
        let same : (let v : List C × List ℕ = (old ++ y.0, y.1) in v) ≡ (new, view x) = cc in
        (y.0, λ i. Ok (y.0, (same i).1), sym (ap (λ (v : List C × List ℕ). v.0) same))
    all_kept (Ok x) (Err f) h = absurd cc
    all_kept (Err errors.Memory) read h = tt
    all_kept (Err (errors.Form f)) (Ok y) h = absurd cc
    all_kept (Err (errors.Form f)) (Err g) h = let same : g ≡ f = cc in ap Err same

    -- the commands that were read are dropped
    pub none_kept : (dropped : List C) (r : Result X ReadError) (read : Result (List C × List ℕ) Form) → Gives (λ x. (dropped, view x)) r (with_front [] read)
        → Keeps view false old old r read
    none_kept dropped (Ok x) (Ok y) h =
        let same : (let v : List C × List ℕ = (y.0, y.1) in v) ≡ (dropped, view x) = cc in
        (y.0, λ i. Ok (y.0, (same i).1), refl)
    none_kept dropped (Ok x) (Err f) h = absurd cc
    none_kept dropped (Err errors.Memory) read h = tt
    none_kept dropped (Err (errors.Form f)) (Ok y) h = absurd cc
    none_kept dropped (Err (errors.Form f)) (Err g) h = let same : g ≡ f = cc in ap Err same

  -- ---- the steps of a packet

  pub count_failed : (bytes : List ℕ) (f : Form) → read_count bytes ≡ Err f → read_packet reader bytes ≡ Err f
  unfolding read_packet
  count_failed bytes f h = rw h refl

  pub opcodes_failed : (bytes : List ℕ) (n : ℕ) (after : List ℕ) (e : ReadError) → read_count bytes ≡ Ok (n, after) → Fails e (read_opcodes reader n after) → Fails e (read_packet reader bytes)
  unfolding read_packet
  opcodes_failed bytes n after errors.Memory count h = tt
  opcodes_failed bytes n after (errors.Form f) count h = rw (count, h) refl

  pub payloads_failed : (bytes : List ℕ) (n : ℕ) (after : List ℕ) (os : List O) (behind : List ℕ) (e : ReadError) → read_count bytes ≡ Ok (n, after)
      → read_opcodes reader n after ≡ Ok (os, behind) → Fails e (read_payloads reader os behind) → Fails e (read_packet reader bytes)
  unfolding read_packet
  payloads_failed bytes n after os behind errors.Memory count opcodes h = tt
  payloads_failed bytes n after os behind (errors.Form f) count opcodes h = rw (count, opcodes) h

  pub packet_read : (bytes : List ℕ) (n : ℕ) (after : List ℕ) (os : List O) (behind : List ℕ) (cs : List C) (rest : List ℕ) → read_count bytes ≡ Ok (n, after)
      → read_opcodes reader n after ≡ Ok (os, behind) → read_payloads reader os behind ≡ Ok (cs, rest) → read_packet reader bytes ≡ Ok (cs, rest)
  unfolding read_packet
  packet_read bytes n after os behind cs rest count opcodes payloads = rw (count, opcodes) payloads

  -- ---- how many they are

  opcodes_long : (n : ℕ) (bytes : List ℕ) (os : List O) (rest : List ℕ) → read_opcodes reader n bytes ≡ Ok (os, rest) → length os ≡ n
  opcodes_long n bytes os rest e = (names_takes set reader laws n bytes os rest e).1

  payloads_kinds : (os : List O) (bytes : List ℕ) (cs : List C) (rest : List ℕ) → read_payloads reader os bytes ≡ Ok (cs, rest) → map set.opcode cs ≡ os
  unfolding read_payloads
  payloads_kinds [] bytes cs rest e =
      let same : (let v : List C × List ℕ = ([], bytes) in v) ≡ (cs, rest) = cc in
      sym (ap (λ (v : List C × List ℕ). map set.opcode v.0) same)
  payloads_kinds (o ∷ os) bytes cs rest e =
      let a = bind_ok (reader.read o bytes) (λ first. read_payloads reader os first.1 >>= λ others. Ok (first.0 ∷ others.0, others.1)) (cs, rest) e in
      let b = bind_ok (read_payloads reader os a.0.1) (λ others. Ok (a.0.0 ∷ others.0, others.1)) (cs, rest) a.2 in
      let same : (let v : List C × List ℕ = (a.0.0 ∷ b.0.0, b.0.1) in v) ≡ (cs, rest) = cc in
      sym (ap (λ (v : List C × List ℕ). map set.opcode v.0) same)
      ∙ ap (λ (x : O). x ∷ map set.opcode b.0.0) (laws.kind o bytes a.0.0 a.0.1 a.1)
      ∙ ap (λ (l : List O). o ∷ l) (payloads_kinds os a.0.1 b.0.0 b.0.1 b.1)

  swaps_by_opcodes : (cs : List C) → count_by reader.is_swap (map set.opcode cs) ≡ count_by reader.shows cs
  swaps_by_opcodes [] = refl
  swaps_by_opcodes (c ∷ cs) =
      sum_by-cons (λ o. cond (reader.is_swap o) 1 0) (set.opcode c) (map set.opcode cs)
      ∙ ap (λ (n : ℕ). cond (reader.is_swap (set.opcode c)) 1 0 + n) (swaps_by_opcodes cs)
      ∙ ap (λ b. cond b 1 0 + (count_by reader.shows) cs) (sym (laws.shows_swap c))
      ∙ sym (sum_by-cons (λ d. cond (reader.shows d) 1 0) c cs)

  pub counted : (counts : Counts) (n : ℕ) (after : List ℕ) (os : List O) (behind : List ℕ) (cs : List C) (rest : List ℕ) → read_opcodes reader n after ≡ Ok (os, behind)
      → read_payloads reader os behind ≡ Ok (cs, rest) → counts.commands ≡ n → counts.swaps ≡ count_by reader.is_swap os → AreCounted reader.shows counts cs
  counted counts n after os behind cs rest opcodes payloads many swaps =
      let kinds = payloads_kinds os behind cs rest payloads in
      record {
        commands = many ∙ sym (sym (length-map cs set.opcode) ∙ ap length kinds ∙ opcodes_long n after os behind opcodes);
        swaps = swaps ∙ ap (count_by reader.is_swap) (sym kinds) ∙ swaps_by_opcodes cs;
      }
