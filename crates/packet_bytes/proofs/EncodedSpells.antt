-- Lists in pieces of 1,024.
use Rattle.std.proofs.Common.{◌≡◌, ℕ, zero, suc, ◌+◌, ◌*◌, ◌<◌, ◌≤◌, min, List, [], ◌∷◌, ◌++◌, length, take, drop, map, refl, sym, ap, subst, ◌∙◌, arith, inl, inr, length-take, length-drop}
use Rattle.std.specs.List.{AllByRecursion, flat_map, range_with_len}
use Rattle.std.proofs.lemmas.Bool.{cases_lt}
use Rattle.std.proofs.lemmas.Grind.{div_ceil_times}
use Rattle.std.proofs.lemmas.List.{take-append-drop, drop_all, take_all, drop-drop}
use Rattle.std.proofs.lemmas.List.Concat.{flat_map-cons}
use Rattle.std.proofs.lemmas.List.Folds.{flat_map-map}
use Rattle.std.proofs.Math.Seq.{take-add}
use Rattle.rc_base.specs.Formats.Spelling.{plain_set}
use Rattle.byte_codec.proofs.WrittenInTurn.{all_both, all_drop, all_take}
use Rattle.packet_bytes.specs.Packets.{plain_reader}
use Rattle.packet_bytes.specs.PlainLaws.{plain_agrees}
use Rattle.packet_bytes.proofs.DecodingProgress.{flat_more}
use Rattle.plain_lemmas.proofs.Ranges.{range_more}
use Rattle.rc_base.specs.declared.command.Command.{Command}
use Rattle.rc_base.specs.Formats.Commands.{IsCommand}
use Rattle.rc_base.specs.Formats.Spelling.{packet, IsPacket, SpellsStream, packet_commands, packet_count, encoded}

-- the front of a list, where less may be left
pub take_min : {X : Type 0} (n : ℕ) (xs : List X) → take (min (length xs) n) xs ≡ take n xs
take_min n xs = elim (cases_lt n (length xs)) [
  | inl lt ↦ let e : min (length xs) n ≡ n = omega arith in rw e refl
  | inr le ↦ let e : min (length xs) n ≡ length xs = omega arith in rw e (take_all (length xs) xs (omega arith) ∙ sym (take_all n xs le))
]

pub drop_min : {X : Type 0} (n : ℕ) (xs : List X) → drop (min (length xs) n) xs ≡ drop n xs
drop_min n xs = elim (cases_lt n (length xs)) [
  | inl lt ↦ let e : min (length xs) n ≡ n = omega arith in rw e refl
  | inr le ↦ let e : min (length xs) n ≡ length xs = omega arith in rw e (drop_all (length xs) xs (omega arith) ∙ sym (drop_all n xs le))
]

pieces : (cs : List Command) (a n : ℕ) → length cs ≤ 1024 * (a + n) → flat_map (packet_commands cs) (range_with_len a n) ≡ drop (1024 * a) cs
pieces cs a zero all = sym (drop_all (1024 * a) cs (omega arith))
pieces cs a (suc n) all =
    let others = pieces cs (a + 1) n (omega arith) in
    let next : 1024 * (a + 1) ≡ 1024 * a + 1024 = omega arith in
    flat_map-cons (packet_commands cs) a (range_with_len (a + 1) n)
    ∙ ap (λ (l : List Command). packet_commands cs a ++ l) (others ∙ ap (λ (k : ℕ). drop k cs) next ∙ sym (drop-drop 1024 (1024 * a) cs))
    ∙ take-append-drop 1024 (drop (1024 * a) cs)

-- each packet has a command
pub within : (cs : List Command) (i : ℕ) → i < packet_count cs → 1024 * i < length cs
within cs i lt = omega (arith, (div_ceil_times (length cs) 1024 (omega arith)).1, lt)

pub enough : (cs : List Command) → length cs ≤ 1024 * packet_count cs
enough cs = omega (arith, (div_ceil_times (length cs) 1024 (omega arith)).0)

pub some_commands : (cs : List Command) (i : ℕ) → i < packet_count cs → 1 ≤ length (packet_commands cs i)
some_commands cs i lt = omega (arith, within cs i lt, length-take 1024 (drop (1024 * i) cs), length-drop (1024 * i) cs)

pub most_commands : (cs : List Command) (i : ℕ) → length (packet_commands cs i) ≤ 1024
most_commands cs i = omega (arith, length-take 1024 (drop (1024 * i) cs))

-- ---- packets one after the other

abbrev pub packet_of : List Command → ℕ → List ℕ
packet_of cs i = packet (packet_commands cs i)

pub next_packet : (cs : List Command) (i : ℕ) (out new : List ℕ) (rest : List Command) → rest ≡ drop (1024 * i) cs → out ≡ flat_map (packet_of cs) (range_with_len 0 i)
    → new ≡ out ++ packet (take (min (length rest) 1024) rest) → new ≡ flat_map (packet_of cs) (range_with_len 0 (i + 1))
next_packet cs i out new rest here h k =
    let place : 0 + i ≡ i = omega arith in
    let front : take (min (length rest) 1024) rest ≡ packet_commands cs i = take_min 1024 rest ∙ ap (take 1024) here in
    k ∙ ap (λ (l : List Command). out ++ packet l) front ∙ ap (λ (l : List ℕ). l ++ packet_of cs i) h
    ∙ sym (flat_more plain_set plain_reader plain_agrees (packet_of cs) (range_with_len 0 i) i) ∙ ap (flat_map (packet_of cs)) (sym (range_more 0 i ∙ ap (λ (k : ℕ). range_with_len 0 i ++ k ∷ []) place))

pub next_rest : (cs : List Command) (i : ℕ) (rest : List Command) → rest ≡ drop (1024 * i) cs → drop (min (length rest) 1024) rest ≡ drop (1024 * (i + 1)) cs
next_rest cs i rest here =
    let next : 1024 * i + 1024 ≡ 1024 * (i + 1) = omega arith in
    drop_min 1024 rest ∙ ap (drop 1024) here ∙ drop-drop 1024 (1024 * i) cs ∙ ap (λ (k : ℕ). drop k cs) next

pub next_typed : (P : Command → Type 0) (cs : List Command) (i : ℕ) (rest : List Command) → rest ≡ drop (1024 * i) cs → AllByRecursion P (take (1024 * i) cs)
    → AllByRecursion P (take (min (length rest) 1024) rest) → AllByRecursion P (take (1024 * (i + 1)) cs)
next_typed P cs i rest here h k =
    let next : 1024 * i + 1024 ≡ 1024 * (i + 1) = omega arith in
    let parts : take (1024 * i) cs ++ take (min (length rest) 1024) rest ≡ take (1024 * (i + 1)) cs =
    ap (λ (l : List Command). take (1024 * i) cs ++ l) (take_min 1024 rest ∙ ap (take 1024) here) ∙ sym (take-add (1024 * i) 1024 cs) ∙ ap (λ (m : ℕ). take m cs) next in
    subst (AllByRecursion P) parts (all_both P (take (1024 * i) cs) (take (min (length rest) 1024) rest) h k)

pub all_typed : (P : Command → Type 0) (cs : List Command) (i : ℕ) → packet_count cs ≤ i → AllByRecursion P (take (1024 * i) cs) → AllByRecursion P cs
all_typed P cs i le h = rw (take_all (1024 * i) cs (omega (arith, enough cs))) at h

pub is_encoded : (cs : List Command) (i : ℕ) (out : List ℕ) → packet_count cs ≤ i → i ≤ packet_count cs → out ≡ flat_map (packet_of cs) (range_with_len 0 i) → out ≡ encoded cs
unfolding encoded
is_encoded cs i out le ge h =
    let same : i ≡ packet_count cs = omega arith in
    h ∙ ap (λ (k : ℕ). flat_map (packet_of cs) (range_with_len 0 k)) same

are_packets : (cs : List Command) (a n : ℕ) → a + n ≤ packet_count cs → AllByRecursion IsCommand cs → AllByRecursion IsPacket (map (packet_commands cs) (range_with_len a n))
are_packets cs a zero le fits = tt
are_packets cs a (suc n) le fits = (
  record { some = some_commands cs a (omega arith); most = most_commands cs a; each = all_take IsCommand 1024 (drop (1024 * a) cs) (all_drop IsCommand (1024 * a) cs fits) },
  are_packets cs (a + 1) n (omega arith) fits,
)

-- what is encoded spells the commands
pub encoded_spells : (cs : List Command) → AllByRecursion IsCommand cs → SpellsStream (encoded cs) cs
unfolding encoded
encoded_spells cs fits =
    let count = packet_count cs in
    record {
      packets = map (packet_commands cs) (range_with_len 0 count);
      each = are_packets cs 0 count (omega arith) fits;
      parts = sym (flat_map-map packet (packet_commands cs) (range_with_len 0 count));
      whole = sym (flat_map-map (λ p. p) (packet_commands cs) (range_with_len 0 count) ∙ pieces cs 0 count (omega (arith, enough cs)));
    }
