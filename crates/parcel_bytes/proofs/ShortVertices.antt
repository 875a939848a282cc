-- Fewer than 28 bytes are read as no vertex.
use Rattle.std.proofs.Common.{◌≡◌, ℕ, ℤ, pos, zero, suc, ◌+◌, ◌<◌, List, [], ◌∷◌, ◌++◌, length, get_or, Result, Ok, Err, refl, sym, ap, subst, ◌∙◌, arith, inl, inr, length-append}
use Rattle.std.specs.Int.{w32, cast_signed, cast_unsigned}
use Rattle.rc_base.specs.Formats.Commands.{AreBytes}
use Rattle.rc_base.specs.Formats.Spelling.{word}
use Rattle.rc_base.specs.declared.state.Vertex.{Vertex}
use Rattle.byte_codec.specs.declared.fault.Form.{Form}
use Rattle.byte_codec.specs.declared.fault.Form.TheVariants.{Truncated}
use Rattle.byte_codec.specs.Reading.{◌>>=◌, sized, convert, cons, read_byte, read_unsigned, read_word}
use Rattle.parcel_bytes.specs.Spelling.{color_bytes, vertex_bytes}
use Rattle.parcel_bytes.specs.Reading.{read_times, make_color, read_color, make_vertex, read_vertex}
use Rattle.byte_codec.specs.Codec.{bind_err, ok_no_err}
use Rattle.byte_codec.specs.NumberCodecs.{guard_err, wide32}
use Rattle.parcel_bytes.proofs.ParcelParsers.{vertex_parser}
use Rattle.parcel_bytes.proofs.VertexBytes.{four_words}

-- reading fails only where the bytes end
abbrev FailsAtEnd : {A : Type 0} → (List ℕ → Result (A × List ℕ) Form) → Type 0
FailsAtEnd read = (bytes : List ℕ) (f : Form) → read bytes ≡ Err f → f ≡ Truncated

byte_at_end : FailsAtEnd read_byte
byte_at_end [] f e = cc
byte_at_end (b ∷ bytes) f e = absurd cc

word_at_end : FailsAtEnd read_word
word_at_end bytes f e = elim (bind_err (read_unsigned w32 bytes) (λ n. Ok (cast_signed w32 n.0, n.1)) f e) [
  | inl early ↦ sym (guard_err _ Truncated f _ early).1
  | inr none ↦ absurd (ok_no_err none.2)
]

sized_at_end : {A B : Type 0} (p : List ℕ → Result (A × List ℕ) Form) (q : A → List ℕ → Result (B × List ℕ) Form)
    → FailsAtEnd p → ((a : A) → FailsAtEnd (q a)) → FailsAtEnd (sized p q)
sized_at_end p q first next bytes f e =
    elim (bind_err (p bytes) (λ x. q x.0 x.1 >>= λ y. Ok ((x.0, y.0), y.1)) f e) [
      | inl early ↦ first bytes f early
      | inr late ↦
          elim (bind_err (q late.0.0 late.0.1) (λ y. Ok ((late.0.0, y.0), y.1)) f late.2) [
            | inl failing ↦ next late.0.0 late.0.1 f failing
            | inr none ↦ absurd (ok_no_err none.2)
          ]
    ]

convert_at_end : {A B : Type 0} (g : A → B) (p : List ℕ → Result (A × List ℕ) Form) → FailsAtEnd p → FailsAtEnd (convert g p)
convert_at_end g p at_end bytes f e = elim (bind_err (p bytes) (λ x. Ok (g x.0, x.1)) f e) [
  | inl early ↦ at_end bytes f early
  | inr none ↦ absurd (ok_no_err none.2)
]

times_at_end : {A : Type 0} (p : List ℕ → Result (A × List ℕ) Form) → FailsAtEnd p → (n : ℕ) → FailsAtEnd (read_times p n)
unfolding read_times
times_at_end p one zero bytes f e = absurd cc
times_at_end p one (suc n) bytes f e = convert_at_end cons _ (sized_at_end p (λ _. read_times p n) one (λ _. times_at_end p one n)) bytes f e

color_at_end : FailsAtEnd read_color
unfolding read_color
color_at_end = convert_at_end make_color _ (sized_at_end _ _ byte_at_end (λ _. sized_at_end _ _ byte_at_end (λ _. sized_at_end _ _ byte_at_end (λ _. byte_at_end))))

vertex_at_end : FailsAtEnd read_vertex
unfolding read_vertex
vertex_at_end =
    convert_at_end make_vertex _ (sized_at_end _ _ (times_at_end read_word word_at_end 4) (λ _. sized_at_end _ _ color_at_end (λ _. sized_at_end _ _ word_at_end (λ _. word_at_end))))

-- ---- 28 bytes

word_length : (z : ℤ) → length (word z) ≡ 4
word_length z = wide32.len (cast_unsigned w32 z)

behind_word : (z : ℤ) (rest : List ℕ) → length (word z ++ rest) ≡ 4 + length rest
behind_word z rest = length-append (word z) rest ∙ ap (λ (n : ℕ). n + length rest) (word_length z)

pub vertex_length : (v : Vertex) → length v.pos ≡ 4 → length (vertex_bytes v) ≡ 28
vertex_length v four =
    let tail = color_bytes v.color ++ (word v.s ++ word v.t) in
    let x = get_or v.pos 0 (pos 0) in
    let y = get_or v.pos 1 (pos 0) in
    let z = get_or v.pos 2 (pos 0) in
    let w = get_or v.pos 3 (pos 0) in
    omega (
      arith,
      ap length (four_words v.pos (pos 0) four tail),
      behind_word x (word y ++ (word z ++ (word w ++ tail))),
      behind_word y (word z ++ (word w ++ tail)),
      behind_word z (word w ++ tail),
      behind_word w tail,
      behind_word v.s (word v.t),
      word_length v.t,
    )

pub short_vertex : (bytes : List ℕ) → AreBytes bytes → length bytes < 28 → read_vertex bytes ≡ Err Truncated
short_vertex bytes fits lt = next (read_vertex bytes) refl
  where
    next : (r : Result (Vertex × List ℕ) Form) → read_vertex bytes ≡ r → read_vertex bytes ≡ Err Truncated
    next (Err f) e = subst (λ (d : Form). read_vertex bytes ≡ Err d) (vertex_at_end bytes f e) e
    next (Ok x) e =
        let t = vertex_parser.reader.takes bytes x.0 x.1 fits e in
        absurd (omega (arith, lt, ap length t.0, length-append (vertex_bytes x.0) x.1, vertex_length x.0 t.1.0.0))
