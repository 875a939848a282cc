-- The block of a parcel by its bytes.
use Rattle.std.proofs.Common.{◌≡◌, ◌≢◌, ℕ, ℤ, ◌-◌, ◌*◌, ◌/◌, ◌<◌, ◌≤◌, ◌⊎◌, inl, inr, List, [], ◌∷◌, ◌++◌, length, take, drop, slice_index, refl, sym, ap, ◌∙◌, arith, length-append}
use Rattle.std.specs.Int.{w32, cast_signed, cast_unsigned, from_le_bytes, to_le_bytes}
use Rattle.std.specs.Prelude.{FitsSigned}
use Rattle.std.specs.List.{AllByRecursion, flat_map}
use Rattle.std.proofs.lemmas.List.{take_at, drop_at, take_all, length-drop}
use Rattle.std.proofs.lemmas.Int.{to_z-of_z}
use Rattle.std.proofs.Math.Facts.{Fits-of_z, Fits-lt-pow}
use Rattle.rc_base.specs.declared.command.Rgba.{Rgba}
use Rattle.rc_base.specs.declared.state.Act.{Act}
use Rattle.rc_base.specs.declared.state.Act.TheVariants as act
use Rattle.rc_base.specs.declared.state.Block.{Block}
use Rattle.rc_base.specs.declared.state.Parcel.{Parcel}
use Rattle.rc_base.specs.declared.state.Vertex.{Vertex}
use Rattle.byte_codec.specs.NumberCodecs.{wide32}
use Rattle.vertex_bytes.specs.Spelt.{vertex_in, first_vertices, spelt_vertices}
use Rattle.parcel_bytes.specs.Blocks.{IsNoDraw}
use Rattle.parcel_bytes.specs.Spelling.{IsAct, IsVertex, SpellsParcel, act_bytes, parcel_bytes, vertex_bytes}
use Rattle.parcel_bytes.proofs.ShortVertices.{vertex_length}

-- a word that was spelled
word_back : (z : ℤ) → FitsSigned w32 z → cast_signed w32 (from_le_bytes w32 (to_le_bytes w32 (cast_unsigned w32 z))) ≡ z
word_back z fits = ap (cast_signed w32) (wide32.again (cast_unsigned w32 z) (Fits-lt-pow {w = w32} (Fits-of_z {w = w32} {z = z} fits))) ∙ to_z-of_z w32 z fits

-- a vertex that was spelled, by its fields
back : (x y z w s t : ℤ) (c : Rgba) → FitsSigned w32 x → FitsSigned w32 y → FitsSigned w32 z → FitsSigned w32 w → FitsSigned w32 s → FitsSigned w32 t
    → vertex_in (vertex_bytes (record { pos = x ∷ y ∷ z ∷ w ∷ []; color = c; s = s; t = t })) ≡ record { pos = x ∷ y ∷ z ∷ w ∷ []; color = c; s = s; t = t }
unfolding vertex_in
back x y z w s t c fx fy fz fw fs ft = λ i. record {
  pos = word_back x fx i ∷ word_back y fy i ∷ word_back z fz i ∷ word_back w fw i ∷ [];
  color = c;
  s = word_back s fs i;
  t = word_back t ft i;
}

pub vertex_back : (v : Vertex) → IsVertex v → vertex_in (vertex_bytes v) ≡ v
vertex_back v is = of_fields v.pos v.color v.s v.t is
  where
    of_fields : (p : List ℤ) (c : Rgba) (s t : ℤ) → IsVertex (record { pos = p; color = c; s = s; t = t })
        → vertex_in (vertex_bytes (record { pos = p; color = c; s = s; t = t })) ≡ record { pos = p; color = c; s = s; t = t }
    of_fields [] c s t h = absurd (omega (arith, h.0.0))
    of_fields (x ∷ []) c s t h = absurd (omega (arith, h.0.0))
    of_fields (x ∷ y ∷ []) c s t h = absurd (omega (arith, h.0.0))
    of_fields (x ∷ y ∷ z ∷ []) c s t h = absurd (omega (arith, h.0.0))
    of_fields (x ∷ y ∷ z ∷ w ∷ []) c s t h = back x y z w s t c h.0.1.0 h.0.1.1.0 h.0.1.1.1.0 h.0.1.1.1.1.0 h.2 h.3
    of_fields (x ∷ y ∷ z ∷ w ∷ u ∷ p) c s t h = absurd (omega (arith, h.0.0))

bytes_count : (vs : List Vertex) → AllByRecursion IsVertex vs → length (flat_map vertex_bytes vs) ≡ 28 * length vs
bytes_count [] all = refl
bytes_count (v ∷ vs) all =
    let e = bytes_count vs all.1 in
    omega (arith, length-append (vertex_bytes v) (flat_map vertex_bytes vs), vertex_length v all.0.0.0, e)

first_back : (vs : List Vertex) → AllByRecursion IsVertex vs → first_vertices (length vs) (flat_map vertex_bytes vs) ≡ vs
unfolding first_vertices
first_back [] all = refl
first_back (v ∷ vs) all =
    let n = vertex_length v all.0.0.0 in
    let one : vertex_in (take 28 (vertex_bytes v ++ flat_map vertex_bytes vs)) ≡ v =
    ap vertex_in (take_at (vertex_bytes v) (flat_map vertex_bytes vs) 28 n) ∙ vertex_back v all.0 in
    let more : first_vertices (length vs) (drop 28 (vertex_bytes v ++ flat_map vertex_bytes vs)) ≡ vs =
    ap (first_vertices (length vs)) (drop_at (vertex_bytes v) (flat_map vertex_bytes vs) 28 n) ∙ first_back vs all.1 in
    λ i. one i ∷ more i

-- vertices that were spelled
pub vertices_back : (vs : List Vertex) → AllByRecursion IsVertex vs → spelt_vertices (flat_map vertex_bytes vs) ≡ vs
vertices_back vs all =
    let n = bytes_count vs all in
    let count : length (flat_map vertex_bytes vs) / 28 ≡ length vs = omega arith in
    ap (λ (k : ℕ). first_vertices k (flat_map vertex_bytes vs)) count ∙ first_back vs all

-- ---- the block of an act

-- the bytes of a draw: its tag, its mode, the count of its vertices in two, and they
module _ (block : Block) (bytes : List ℕ) (is : IsAct (act.Draw block)) (spelt : bytes ≡ act_bytes (act.Draw block)) where
  pub mode_is : slice_index bytes 1 ≡ block.mode
  mode_is = ap (λ (l : List ℕ). slice_index l 1) spelt

  pub rest_is : drop 4 bytes ≡ flat_map vertex_bytes block.vertices
  rest_is = ap (drop 4) spelt

  pub block_is : {mode : ℕ} {rest : List ℕ} → mode ≡ slice_index bytes 1 → rest ≡ drop 4 bytes → act.Draw block ≡ act.Draw (record { mode = mode; vertices = spelt_vertices rest })
  block_is {mode} {rest} m r =
      let mode_now : block.mode ≡ mode = sym (m ∙ mode_is) in
      let vertices_now : block.vertices ≡ spelt_vertices rest = sym (ap spelt_vertices (r ∙ rest_is) ∙ vertices_back block.vertices is.2) in
      λ i. act.Draw (record { mode = mode_now i; vertices = vertices_now i })

  pub long_enough : 4 ≤ length bytes
  long_enough = let e = ap length spelt in omega (arith, e)

-- an act that begins with 0 draws, and one that is shorter than four bytes or begins with another byte doesn't
pub no_draw : (a : Act) (bytes : List ℕ) → IsAct a → bytes ≡ act_bytes a → (length bytes < 4) ⊎ (slice_index bytes 0 ≢ 0) → IsNoDraw a
no_draw (act.Draw block) bytes is spelt (inl short) = absurd (let l = long_enough block bytes is spelt in omega arith)
no_draw (act.Draw block) bytes is spelt (inr other) = absurd (other (ap (λ (l : List ℕ). slice_index l 0) spelt))
no_draw (act.Clear mask) bytes is spelt short = λ block e. cc
no_draw (act.Shared part) bytes is spelt short = λ block e. cc
no_draw (act.Sync op) bytes is spelt short = λ block e. cc
no_draw act.End bytes is spelt short = λ block e. cc

abbrev pub IsBlockOf : ℕ → List ℕ → Act → Type 0
IsBlockOf mode rest a = a ≡ act.Draw (record { mode = mode; vertices = spelt_vertices rest })

pub draws : (a : Act) (bytes : List ℕ) (mode : ℕ) (rest : List ℕ) → IsAct a → bytes ≡ act_bytes a → slice_index bytes 0 ≡ 0
    → mode ≡ slice_index bytes 1 → rest ≡ drop 4 bytes → IsBlockOf mode rest a
draws (act.Draw block) bytes mode rest is spelt zero_ m r = block_is block bytes is spelt m r
draws (act.Clear mask) bytes mode rest is spelt zero_ m r = absurd (omega (arith, zero_, ap (λ (l : List ℕ). slice_index l 0) spelt))
draws (act.Shared part) bytes mode rest is spelt zero_ m r = absurd (omega (arith, zero_, ap (λ (l : List ℕ). slice_index l 0) spelt))
draws (act.Sync op) bytes mode rest is spelt zero_ m r = absurd (omega (arith, zero_, ap (λ (l : List ℕ). slice_index l 0) spelt))
draws act.End bytes mode rest is spelt zero_ m r = absurd (omega (arith, zero_, ap (λ (l : List ℕ). slice_index l 0) spelt))

-- all bytes from a place on
pub from_there : (bytes : List ℕ) (at : ℕ) → take (length bytes - at) (drop at bytes) ≡ drop at bytes
from_there bytes at = take_all (length bytes - at) (drop at bytes) (omega (arith, length-drop at bytes))

-- ---- the place of a parcel

pub place_back : (p : Parcel) (bytes : List ℕ) → SpellsParcel bytes p
    → from_le_bytes w32 (slice_index bytes 0 ∷ slice_index bytes 1 ∷ slice_index bytes 2 ∷ slice_index bytes 3 ∷ []) ≡ p.place
unfolding parcel_bytes
place_back p bytes s =
    ap (λ (l : List ℕ). from_le_bytes w32 (slice_index l 0 ∷ slice_index l 1 ∷ slice_index l 2 ∷ slice_index l 3 ∷ [])) s.parts
    ∙ wide32.again p.place s.is_parcel.place
