-- Values, sets, acts and parcels: what is read was spelled so, what is spelled so is read.
use Rattle.std.proofs.Common.{◌≡◌, ℕ, ◌*◌, ◌^◌, ◌<◌, Bool, true, false, List, [], ◌∷◌, ◌++◌, length, Ok, Some, refl, ap, subst, ◌∙◌, arith}
use Rattle.std.specs.Int.{w16, w32}
use Rattle.std.specs.Prelude.{FitsSigned}
use Rattle.std.specs.List.{AllByRecursion, flat_map}
use Rattle.std.proofs.lemmas.Bool.Decides.{nat_tests}
use Rattle.rc_base.specs.Contexts.Elements.{element_count}
use Rattle.rc_base.specs.Formats.Spelling.{half, long, word}
use Rattle.rc_base.specs.declared.state.Act.{Act}
use Rattle.rc_base.specs.declared.state.Act.TheVariants as act
use Rattle.rc_base.specs.declared.state.ElementValue.{ElementValue}
use Rattle.rc_base.specs.declared.state.ElementValue.TheVariants as val
use Rattle.rc_base.specs.declared.sync.SyncOp.{SyncOp}
use Rattle.rc_base.specs.declared.sync.SyncOp.TheVariants as sync
use Rattle.byte_codec.specs.Reading.{both, read_byte, read_unsigned, read_word, take_bytes}
use Rattle.element_table.specs.Kinds.{kind_of, kind_of_value}
use Rattle.element_table.specs.declared.kind.ValueKind.{ValueKind}
use Rattle.element_table.specs.declared.kind.ValueKind.TheVariants.{Matrix, Area, Range, Flag, Code, Pair, Mask, Color, Depth, Mode, Image}
use Rattle.parcel_bytes.specs.Spelling.{flag_byte, flag_bytes, color_bytes, value_bytes, set_bytes, vertex_bytes, part_bytes, op_bytes, act_bytes, parcel_bytes, AreWords, IsColor, IsValue, IsSet, IsVertex, IsPart, IsOp, IsAct, IsParcel}
use Rattle.parcel_bytes.specs.Reading.{second, read_times, flag_from, read_flag, make_color, read_color, read_texels, make_image, make_matrix, read_value, element_from, make_set, read_set, make_vertex, read_vertex, make_part, read_part, op_from, zero_from, make_swap, read_op_name, read_op, act_tag_from, make_draw, read_vertices, nothing, make_end, read_act_body, read_act, make_parcel, read_sets, read_parcel, ActTag, OpKind}
use Rattle.parcel_bytes.specs.Reading.OpKind.{BarrierKind, SemPKind, SemVKind, SwapKind}
use Rattle.parcel_bytes.specs.Reading.ActTag.{DrawTag, ClearTag, SharedTag, SyncTag, EndTag}
use Rattle.byte_codec.specs.NumberCodecs.{one_byte, IsByte, IsRun, byte_codec, number_codec, wide16, wide32, word_codec, run_codec}
use Rattle.parcel_bytes.proofs.Parsers.{Reader, Parser, Tags, codec_parser, sized_parser, convert_parser, convert_reader, convert_again, tag_parser, times_parser, counted_parser, AreAll, counted_bytes, AreCounted}

-- ---- numbers

byte_parser : Parser read_byte one_byte IsByte
byte_parser = codec_parser byte_codec

abbrev Below : ℕ → ℕ → Type 0
Below limit n = n < limit

half_parser : Parser (read_unsigned w16) half (Below (2 ^ 16))
half_parser = codec_parser (number_codec w16 (2 ^ 16) wide16)

long_parser : Parser (read_unsigned w32) long (Below (2 ^ 32))
long_parser = codec_parser (number_codec w32 (2 ^ 32) wide32)

word_parser : Parser read_word word (FitsSigned w32)
word_parser = codec_parser word_codec

words_parser : (n : ℕ) → Parser (read_times read_word n) (flat_map word) (AreWords n)
words_parser n = times_parser word_parser n

abbrev same_bytes : List ℕ → List ℕ
same_bytes bytes = bytes

run_parser : (n : ℕ) → Parser (take_bytes n) same_bytes (IsRun n)
run_parser n = codec_parser (run_codec n)

-- ---- tags

flag_back : (b : ℕ) (flag : Bool) → flag_from b ≡ Some flag → (b ≡ flag_byte flag) × Unit {0}
flag_back b true e = (grind (arith, nat_tests), tt)
flag_back b false e = (grind (arith, nat_tests), tt)

flag_there : (flag : Bool) → Unit {0} → flag_from (flag_byte flag) ≡ Some flag
flag_there true fits = refl
flag_there false fits = refl

abbrev IsFlag : Bool → Type 0
IsFlag flag = Unit {0}

flag_tags : Tags flag_from flag_byte IsFlag
flag_tags = record { back = flag_back; there = flag_there; one = (true, tt) }

pub flag_parser : Parser read_flag flag_bytes IsFlag
unfolding read_flag
flag_parser = tag_parser flag_tags

-- ---- colours and pictures

pub color_parser : Parser read_color color_bytes IsColor
unfolding read_color
color_parser =
    convert_parser make_color color_bytes IsColor (sized_parser byte_parser (λ _ _. sized_parser byte_parser (λ _ _. sized_parser byte_parser (λ _ _. byte_parser))))
    (λ x fits. (refl, (fits.0, fits.1.0, fits.1.1.0, fits.1.1.1)))
    (λ c fits. ((c.r, (c.g, (c.b, c.a))), (fits.0, (fits.1, (fits.2, fits.3))), refl))

abbrev texels_bytes : (ℕ × ℕ) × List ℕ → List ℕ
texels_bytes x = (half x.0.0 ++ half x.0.1) ++ x.1

abbrev AreTexels : (ℕ × ℕ) × List ℕ → Type 0
AreTexels x = ((x.0.0 < 2 ^ 16) × (x.0.1 < 2 ^ 16)) × IsRun (4 * (x.0.0 * x.0.1)) x.1

texels_parser : Parser read_texels texels_bytes AreTexels
texels_parser = sized_parser (sized_parser half_parser (λ _ _. half_parser)) (λ s _. run_parser (4 * (s.0 * s.1)))

-- ---- values

abbrev IsOfKind : ValueKind → ElementValue → Type 0
IsOfKind k v = (kind_of_value v ≡ k) × IsValue v

image_whole : Parser (both (read_unsigned w32) read_texels) (λ x. long x.0 ++ texels_bytes x.1) (λ x. (x.0 < 2 ^ 32) × AreTexels x.1)
image_whole = sized_parser long_parser (λ _ _. texels_parser)

flags_parser : Parser (read_times read_flag 4) (flat_map flag_bytes) (AreAll IsFlag 4)
flags_parser = times_parser flag_parser 4

all_flags : (flags : List Bool) → AllByRecursion IsFlag flags
all_flags [] = tt
all_flags (flag ∷ flags) = (tt, all_flags flags)

value_reader : (k : ValueKind) → Reader (read_value k) value_bytes (IsOfKind k)
unfolding read_value
value_reader Matrix = convert_reader make_matrix value_bytes (IsOfKind Matrix) (words_parser 16).reader (λ x fits. (refl, (refl, fits)))
value_reader Area = convert_reader val.Area value_bytes (IsOfKind Area) (words_parser 4).reader (λ x fits. (refl, (refl, fits)))
value_reader Range = convert_reader val.Range value_bytes (IsOfKind Range) (words_parser 2).reader (λ x fits. (refl, (refl, fits)))
value_reader Flag = convert_reader val.Flag value_bytes (IsOfKind Flag) flag_parser.reader (λ x fits. (refl, (refl, tt)))
value_reader Code = convert_reader val.Code value_bytes (IsOfKind Code) byte_parser.reader (λ x fits. (refl, (refl, fits)))
value_reader Pair = convert_reader val.Pair value_bytes (IsOfKind Pair) (run_parser 2).reader (λ x fits. (refl, (refl, fits)))
value_reader Mask = convert_reader val.Mask value_bytes (IsOfKind Mask) flags_parser.reader (λ x fits. (refl, (refl, fits.0)))
value_reader Color = convert_reader val.Color value_bytes (IsOfKind Color) color_parser.reader (λ x fits. (refl, (refl, fits)))
value_reader Depth = convert_reader val.Depth value_bytes (IsOfKind Depth) word_parser.reader (λ x fits. (refl, (refl, fits)))
value_reader Mode = convert_reader val.Mode value_bytes (IsOfKind Mode) (run_parser 3).reader (λ x fits. (refl, (refl, fits)))
value_reader Image =
    convert_reader make_image value_bytes (IsOfKind Image) image_whole.reader
    (λ x fits. (refl, (refl, (fits.0, fits.1.0.0, fits.1.0.1, fits.1.1))))

value_again : (v : ElementValue) (rest : List ℕ) → IsValue v → read_value (kind_of_value v) (value_bytes v ++ rest) ≡ Ok (v, rest)
unfolding read_value
value_again (val.Matrix m) rest fits = convert_again make_matrix (words_parser 16) m.m rest fits
value_again (val.Area area) rest fits = convert_again val.Area (words_parser 4) area rest fits
value_again (val.Range range) rest fits = convert_again val.Range (words_parser 2) range rest fits
value_again (val.Flag flag) rest fits = convert_again val.Flag flag_parser flag rest tt
value_again (val.Code code) rest fits = convert_again val.Code byte_parser code rest fits
value_again (val.Pair pair) rest fits = convert_again val.Pair (run_parser 2) pair rest fits
value_again (val.Mask mask) rest fits = convert_again val.Mask flags_parser mask rest (fits, all_flags mask)
value_again (val.Color color) rest fits = convert_again val.Color color_parser color rest fits
value_again (val.Depth depth) rest fits = convert_again val.Depth word_parser depth rest fits
value_again (val.Mode mode) rest fits = convert_again val.Mode (run_parser 3) mode rest fits
value_again (val.Image edit w h texels) rest fits = convert_again make_image image_whole (edit, ((w, h), texels)) rest (fits.0, ((fits.1, fits.2), fits.3))

value_parser : (k : ValueKind) → Parser (read_value k) value_bytes (IsOfKind k)
value_parser k = record {
  reader = value_reader k;
  again = λ v rest fits. subst (λ (x : ValueKind). read_value x (value_bytes v ++ rest) ≡ Ok (v, rest)) fits.0 (value_again v rest fits.1);
}

-- ---- sets

abbrev IsElement : ℕ → Type 0
IsElement e = e < element_count

abbrev itself : ℕ → ℕ
itself e = e

element_back : (b : ℕ) (e : ℕ) → element_from b ≡ Some e → (b ≡ e) × IsElement e
element_back b e h = grind (arith, nat_tests)

element_there : (e : ℕ) → IsElement e → element_from e ≡ Some e
element_there e fits = grind (arith, nat_tests)

element_tags : Tags element_from itself IsElement
element_tags = record { back = element_back; there = element_there; one = (0, omega arith) }

pub set_parser : Parser read_set set_bytes IsSet
unfolding read_set
set_parser =
    convert_parser make_set set_bytes IsSet (sized_parser (tag_parser element_tags) (λ e _. value_parser (kind_of e)))
    (λ x fits. (refl, record { element = fits.0; kind = fits.1.0; value = fits.1.1 }))
    (λ set fits. ((set.element, set.value), (fits.element, (fits.kind, fits.value)), refl))

-- ---- acts

pub vertex_parser : Parser read_vertex vertex_bytes IsVertex
unfolding read_vertex
vertex_parser =
    convert_parser make_vertex vertex_bytes IsVertex (sized_parser (words_parser 4) (λ _ _. sized_parser color_parser (λ _ _. sized_parser word_parser (λ _ _. word_parser))))
    (λ x fits. (refl, (fits.0, fits.1.0, fits.1.1.0, fits.1.1.1)))
    (λ v fits. ((v.pos, (v.color, (v.s, v.t))), (fits.0, (fits.1, (fits.2, fits.3))), refl))

part_parser : Parser read_part part_bytes IsPart
unfolding read_part
part_parser =
    convert_parser make_part part_bytes IsPart (sized_parser byte_parser (λ _ _. sized_parser half_parser (λ _ _. sized_parser half_parser (λ _ _. texels_parser))))
    (λ x fits. (refl, (fits.0, fits.1.0, fits.1.1.0, fits.1.1.1.0.0, fits.1.1.1.0.1, fits.1.1.1.1)))
    (λ part fits. ((part.name, (part.x, (part.y, ((part.w, part.h), part.texels)))), (fits.0, (fits.1, (fits.2, ((fits.3, fits.4), fits.5)))), refl))

-- ---- operations

abbrev op_kind : SyncOp → OpKind
op_kind (sync.Barrier name) = BarrierKind
op_kind (sync.SemP name) = SemPKind
op_kind (sync.SemV name) = SemVKind
op_kind sync.Swap = SwapKind

abbrev kind_byte : OpKind → ℕ
kind_byte BarrierKind = 0
kind_byte SemPKind = 1
kind_byte SemVKind = 2
kind_byte SwapKind = 3

abbrev name_bytes : SyncOp → List ℕ
name_bytes (sync.Barrier name) = name ∷ []
name_bytes (sync.SemP name) = name ∷ []
name_bytes (sync.SemV name) = name ∷ []
name_bytes sync.Swap = 0 ∷ []

abbrev IsOpKind : OpKind → Type 0
IsOpKind k = Unit {0}

kind_back : (b : ℕ) (k : OpKind) → op_from b ≡ Some k → (b ≡ kind_byte k) × Unit {0}
kind_back b BarrierKind e = (grind (arith, nat_tests), tt)
kind_back b SemPKind e = (grind (arith, nat_tests), tt)
kind_back b SemVKind e = (grind (arith, nat_tests), tt)
kind_back b SwapKind e = (grind (arith, nat_tests), tt)

kind_there : (k : OpKind) → Unit {0} → op_from (kind_byte k) ≡ Some k
kind_there BarrierKind fits = refl
kind_there SemPKind fits = refl
kind_there SemVKind fits = refl
kind_there SwapKind fits = refl

op_kind_tags : Tags op_from kind_byte IsOpKind
op_kind_tags = record { back = kind_back; there = kind_there; one = (SwapKind, tt) }

abbrev zero_byte : Unit {0} → ℕ
zero_byte x = 0

abbrev IsZero : Unit {0} → Type 0
IsZero x = Unit {0}

zero_back : (b : ℕ) (x : Unit {0}) → zero_from b ≡ Some x → (b ≡ zero_byte x) × Unit {0}
zero_back b x e = (grind (arith, nat_tests), tt)

zero_tags : Tags zero_from zero_byte IsZero
zero_tags = record { back = zero_back; there = λ x fits. refl; one = (tt, tt) }

abbrev IsOpOf : OpKind → SyncOp → Type 0
IsOpOf k op = (op_kind op ≡ k) × IsOp op

op_reader : (k : OpKind) → Reader (read_op_name k) name_bytes (IsOpOf k)
unfolding read_op_name
op_reader BarrierKind = convert_reader sync.Barrier name_bytes (IsOpOf BarrierKind) byte_parser.reader (λ x fits. (refl, (refl, fits)))
op_reader SemPKind = convert_reader sync.SemP name_bytes (IsOpOf SemPKind) byte_parser.reader (λ x fits. (refl, (refl, fits)))
op_reader SemVKind = convert_reader sync.SemV name_bytes (IsOpOf SemVKind) byte_parser.reader (λ x fits. (refl, (refl, fits)))
op_reader SwapKind = convert_reader make_swap name_bytes (IsOpOf SwapKind) (tag_parser zero_tags).reader (λ x fits. (refl, (refl, tt)))

op_again : (op : SyncOp) (rest : List ℕ) → IsOp op → read_op_name (op_kind op) (name_bytes op ++ rest) ≡ Ok (op, rest)
unfolding read_op_name
op_again (sync.Barrier name) rest fits = convert_again sync.Barrier byte_parser name rest fits
op_again (sync.SemP name) rest fits = convert_again sync.SemP byte_parser name rest fits
op_again (sync.SemV name) rest fits = convert_again sync.SemV byte_parser name rest fits
op_again sync.Swap rest fits = convert_again make_swap (tag_parser zero_tags) tt rest tt

op_name_parser : (k : OpKind) → Parser (read_op_name k) name_bytes (IsOpOf k)
op_name_parser k = record {
  reader = op_reader k;
  again = λ op rest fits. subst (λ (x : OpKind). read_op_name x (name_bytes op ++ rest) ≡ Ok (op, rest)) fits.0 (op_again op rest fits.1);
}

op_text : (op : SyncOp) → op_bytes op ≡ kind_byte (op_kind op) ∷ name_bytes op
op_text (sync.Barrier name) = refl
op_text (sync.SemP name) = refl
op_text (sync.SemV name) = refl
op_text sync.Swap = refl

pub op_parser : Parser read_op op_bytes IsOp
unfolding read_op
op_parser =
    convert_parser second op_bytes IsOp (sized_parser (tag_parser op_kind_tags) (λ k _. op_name_parser k))
    (λ x fits. (op_text x.1 ∙ ap (λ (k : OpKind). kind_byte k ∷ name_bytes x.1) fits.1.0, fits.1.1))
    (λ op fits. ((op_kind op, op), (tt, (refl, fits)), refl))

-- ---- acts behind their tags

abbrev act_tag_of : Act → ActTag
act_tag_of (act.Draw block) = DrawTag
act_tag_of (act.Clear mask) = ClearTag
act_tag_of (act.Shared part) = SharedTag
act_tag_of (act.Sync op) = SyncTag
act_tag_of act.End = EndTag

abbrev act_tag_byte : ActTag → ℕ
act_tag_byte DrawTag = 0
act_tag_byte ClearTag = 1
act_tag_byte SharedTag = 2
act_tag_byte SyncTag = 3
act_tag_byte EndTag = 4

abbrev body_bytes : Act → List ℕ
body_bytes (act.Draw block) = block.mode ∷ (half (length block.vertices) ++ flat_map vertex_bytes block.vertices)
body_bytes (act.Clear mask) = mask ∷ []
body_bytes (act.Shared part) = part_bytes part
body_bytes (act.Sync op) = op_bytes op
body_bytes act.End = []

abbrev IsActTag : ActTag → Type 0
IsActTag k = Unit {0}

act_tag_back : (b : ℕ) (k : ActTag) → act_tag_from b ≡ Some k → (b ≡ act_tag_byte k) × Unit {0}
act_tag_back b DrawTag e = (grind (arith, nat_tests), tt)
act_tag_back b ClearTag e = (grind (arith, nat_tests), tt)
act_tag_back b SharedTag e = (grind (arith, nat_tests), tt)
act_tag_back b SyncTag e = (grind (arith, nat_tests), tt)
act_tag_back b EndTag e = (grind (arith, nat_tests), tt)

act_tag_there : (k : ActTag) → Unit {0} → act_tag_from (act_tag_byte k) ≡ Some k
act_tag_there DrawTag fits = refl
act_tag_there ClearTag fits = refl
act_tag_there SharedTag fits = refl
act_tag_there SyncTag fits = refl
act_tag_there EndTag fits = refl

act_tags : Tags act_tag_from act_tag_byte IsActTag
act_tags = record { back = act_tag_back; there = act_tag_there; one = (EndTag, tt) }

pub vertices_parser : Parser read_vertices (counted_bytes vertex_bytes half) (AreCounted IsVertex (2 ^ 16))
unfolding read_vertices
vertices_parser = counted_parser (read_unsigned w16) half (2 ^ 16) half_parser vertex_parser

draw_parser : Parser (both read_byte read_vertices) (λ x. one_byte x.0 ++ counted_bytes vertex_bytes half x.1) (λ x. IsByte x.0 × AreCounted IsVertex (2 ^ 16) x.1)
draw_parser = sized_parser byte_parser (λ _ _. vertices_parser)

abbrev no_bytes : Unit {0} → List ℕ
no_bytes x = []

nothing_parser : Parser nothing no_bytes IsZero
nothing_parser = record {
  reader = record {
    takes = λ bytes x rest fits e.
        let same : (let v : Unit {0} × List ℕ = (tt, bytes) in v) ≡ (x, rest) = cc in
        (ap (λ (v : Unit {0} × List ℕ). v.1) same, tt);
    fails = λ bytes f fits e. absurd cc;
    some = (tt, tt);
  };
  again = λ x rest fits. refl;
}

abbrev IsActOf : ActTag → Act → Type 0
IsActOf k a = (act_tag_of a ≡ k) × IsAct a

act_reader : (k : ActTag) → Reader (read_act_body k) body_bytes (IsActOf k)
unfolding read_act_body
act_reader DrawTag = convert_reader make_draw body_bytes (IsActOf DrawTag) draw_parser.reader (λ x fits. (refl, (refl, (fits.0, fits.1.0, fits.1.1))))
act_reader ClearTag = convert_reader act.Clear body_bytes (IsActOf ClearTag) byte_parser.reader (λ x fits. (refl, (refl, fits)))
act_reader SharedTag = convert_reader act.Shared body_bytes (IsActOf SharedTag) part_parser.reader (λ x fits. (refl, (refl, fits)))
act_reader SyncTag = convert_reader act.Sync body_bytes (IsActOf SyncTag) op_parser.reader (λ x fits. (refl, (refl, fits)))
act_reader EndTag = convert_reader make_end body_bytes (IsActOf EndTag) nothing_parser.reader (λ x fits. (refl, (refl, tt)))

act_again : (a : Act) (rest : List ℕ) → IsAct a → read_act_body (act_tag_of a) (body_bytes a ++ rest) ≡ Ok (a, rest)
unfolding read_act_body
act_again (act.Draw block) rest fits = convert_again make_draw draw_parser (block.mode, block.vertices) rest (fits.0, (fits.1, fits.2))
act_again (act.Clear mask) rest fits = convert_again act.Clear byte_parser mask rest fits
act_again (act.Shared part) rest fits = convert_again act.Shared part_parser part rest fits
act_again (act.Sync op) rest fits = convert_again act.Sync op_parser op rest fits
act_again act.End rest fits = refl

body_parser : (k : ActTag) → Parser (read_act_body k) body_bytes (IsActOf k)
body_parser k = record {
  reader = act_reader k;
  again = λ a rest fits. subst (λ (x : ActTag). read_act_body x (body_bytes a ++ rest) ≡ Ok (a, rest)) fits.0 (act_again a rest fits.1);
}

act_text : (a : Act) → act_bytes a ≡ act_tag_byte (act_tag_of a) ∷ body_bytes a
act_text (act.Draw block) = refl
act_text (act.Clear mask) = refl
act_text (act.Shared part) = refl
act_text (act.Sync op) = refl
act_text act.End = refl

pub act_parser : Parser read_act act_bytes IsAct
unfolding read_act
act_parser =
    convert_parser second act_bytes IsAct (sized_parser (tag_parser act_tags) (λ k _. body_parser k))
    (λ x fits. (act_text x.1 ∙ ap (λ (k : ActTag). act_tag_byte k ∷ body_bytes x.1) fits.1.0, fits.1.1))
    (λ a fits. ((act_tag_of a, a), (tt, (refl, fits)), refl))

-- ---- parcels

pub sets_parser : Parser read_sets (counted_bytes set_bytes one_byte) (AreCounted IsSet 256)
unfolding read_sets
sets_parser = counted_parser read_byte one_byte 256 byte_parser set_parser

pub parcel_parser : Parser read_parcel parcel_bytes IsParcel
unfolding read_parcel parcel_bytes
parcel_parser =
    convert_parser make_parcel parcel_bytes IsParcel (sized_parser long_parser (λ _ _. sized_parser sets_parser (λ _ _. act_parser)))
    (λ x fits. (refl, record { place = fits.0; few = fits.1.0.0; sets = fits.1.0.1; act = fits.1.1 }))
    (λ p fits. ((p.place, (p.sets, p.act)), (fits.place, ((fits.few, fits.sets), fits.act)), refl))
