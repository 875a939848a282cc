-- Reading the payload of a command of a block field by field is reading its fields.
use Rattle.std.proofs.Common.{◌≡◌, ℕ, ℤ, suc, List, [], ◌∷◌, Result, Ok, Err, refl, ap, ◌∙◌}
use Rattle.rc_base.specs.declared.command.Command.{Command}
use Rattle.rc_base.specs.declared.command.Command.TheVariants as cmd
use Rattle.rc_base.specs.declared.command.Opcode.TheVariants as op
use Rattle.rc_base.specs.declared.command.Opcode.{Opcode}
use Rattle.rc_base.specs.Formats.Commands.{Kind, Fields, kinds_of}
use Rattle.rc_base.specs.Formats.Commands.Kind.{Byte, Word, Code}
use Rattle.command_table.specs.Making.{command_from}
use Rattle.byte_codec.specs.declared.fault.Form.{Form}
use Rattle.byte_codec.specs.Reading.{◌>>=◌, cons, read_byte, read_word, read_words}
use Rattle.packet_bytes.specs.Packets.{read_value, read_fields, read_command}

-- ---- a word, and then others

abbrev pair_up : {A B : Type 0} → A → B × List ℕ → Result ((A × B) × List ℕ) Form
pair_up a y = Ok ((a, y.0), y.1)

abbrev join : (ℤ × List ℤ) × List ℕ → Result (List ℤ × List ℕ) Form
join x = Ok (cons x.0, x.1)

abbrev put_first : ℤ → List ℤ × List ℕ → Result (List ℤ × List ℕ) Form
put_first z x = Ok (z ∷ x.0, x.1)

abbrev then_words : ℕ → ℤ × List ℕ → Result ((ℤ × List ℤ) × List ℕ) Form
then_words n x = read_words n x.1 >>= pair_up x.0

joined : (z : ℤ) (r : Result (List ℤ × List ℕ) Form) → ((r >>= pair_up z) >>= join) ≡ (r >>= put_first z)
joined z (Ok y) = refl
joined z (Err e) = refl

word_more : (n : ℕ) (z : ℤ) (bytes rest : List ℕ) → read_word bytes ≡ Ok (z, rest) → read_words (suc n) bytes ≡ (read_words n rest >>= put_first z)
unfolding read_words
word_more n z bytes rest e = ap (λ r. (r >>= then_words n) >>= join) e ∙ joined z (read_words n rest)

word_short : (n : ℕ) (bytes : List ℕ) (f : Form) → read_word bytes ≡ Err f → read_words (suc n) bytes ≡ Err f
unfolding read_words
word_short n bytes f e = ap (λ r. (r >>= then_words n) >>= join) e

words_none : (bytes : List ℕ) → read_words 0 bytes ≡ Ok ([], bytes)
unfolding read_words
words_none bytes = refl

-- ---- fields one by one

abbrev then_fields : {A : Type 0} → (ks : List Kind) → A × List ℕ → Result ((A × Fields ks) × List ℕ) Form
then_fields ks x = read_fields ks x.1 >>= pair_up x.0

byte_first : (ks : List Kind) (b : ℕ) (bytes rest : List ℕ) → read_byte bytes ≡ Ok (b, rest) → read_fields (Byte ∷ ks) bytes ≡ (read_fields ks rest >>= pair_up b)
unfolding read_fields read_value
byte_first ks b bytes rest e = ap (λ (r : Result (ℕ × List ℕ) Form). r >>= then_fields ks) e

byte_cut : (ks : List Kind) (bytes : List ℕ) (f : Form) → read_byte bytes ≡ Err f → read_fields (Byte ∷ ks) bytes ≡ Err f
unfolding read_fields read_value
byte_cut ks bytes f e = ap (λ (r : Result (ℕ × List ℕ) Form). r >>= then_fields ks) e

code_first : (count : ℕ) (ks : List Kind) (b : ℕ) (bytes rest : List ℕ) → read_byte bytes ≡ Ok (b, rest) → read_fields (Code count ∷ ks) bytes ≡ (read_fields ks rest >>= pair_up b)
unfolding read_fields read_value
code_first count ks b bytes rest e = ap (λ (r : Result (ℕ × List ℕ) Form). r >>= then_fields ks) e

code_cut : (count : ℕ) (ks : List Kind) (bytes : List ℕ) (f : Form) → read_byte bytes ≡ Err f → read_fields (Code count ∷ ks) bytes ≡ Err f
unfolding read_fields read_value
code_cut count ks bytes f e = ap (λ (r : Result (ℕ × List ℕ) Form). r >>= then_fields ks) e

word_first : (ks : List Kind) (z : ℤ) (bytes rest : List ℕ) → read_word bytes ≡ Ok (z, rest) → read_fields (Word ∷ ks) bytes ≡ (read_fields ks rest >>= pair_up z)
unfolding read_fields read_value
word_first ks z bytes rest e = ap (λ (r : Result (ℤ × List ℕ) Form). r >>= then_fields ks) e

word_cut : (ks : List Kind) (bytes : List ℕ) (f : Form) → read_word bytes ≡ Err f → read_fields (Word ∷ ks) bytes ≡ Err f
unfolding read_fields read_value
word_cut ks bytes f e = ap (λ (r : Result (ℤ × List ℕ) Form). r >>= then_fields ks) e

fields_none : (bytes : List ℕ) → read_fields [] bytes ≡ Ok (tt, bytes)
unfolding read_fields
fields_none bytes = refl

abbrev made : (o : Opcode) → Fields (kinds_of o) × List ℕ → Result (Command × List ℕ) Form
made o x = Ok (command_from o x.0, x.1)

command_of : (o : Opcode) (bytes : List ℕ) → read_command o bytes ≡ (read_fields (kinds_of o) bytes >>= made o)
unfolding read_command
command_of o bytes = refl

-- ---- a Begin and an End

pub begin_read : (bytes rest : List ℕ) (mode : ℕ) → read_byte bytes ≡ Ok (mode, rest) → read_command op.Begin bytes ≡ Ok (cmd.Begin mode, rest)
begin_read bytes rest mode e =
    command_of op.Begin bytes
    ∙ ap (λ (q : Result (Fields (Code 3 ∷ []) × List ℕ) Form). q >>= made op.Begin) (code_first 3 [] mode bytes rest e)
    ∙ ap (λ (q : Result (Fields [] × List ℕ) Form). (q >>= pair_up mode) >>= made op.Begin) (fields_none rest)

pub begin_cut : (bytes : List ℕ) (f : Form) → read_byte bytes ≡ Err f → read_command op.Begin bytes ≡ Err f
begin_cut bytes f e = command_of op.Begin bytes ∙ ap (λ (q : Result (Fields (Code 3 ∷ []) × List ℕ) Form). q >>= made op.Begin) (code_cut 3 [] bytes f e)

pub end_read : (bytes : List ℕ) → read_command op.End bytes ≡ Ok (cmd.End, bytes)
end_read bytes = command_of op.End bytes ∙ ap (λ (q : Result (Fields [] × List ℕ) Form). q >>= made op.End) (fields_none bytes)

-- ---- a colour

abbrev one : List Kind
one = Byte ∷ []

abbrev two : List Kind
two = Byte ∷ Byte ∷ []

abbrev three : List Kind
three = Byte ∷ Byte ∷ Byte ∷ []

abbrev four : List Kind
four = Byte ∷ Byte ∷ Byte ∷ Byte ∷ []

abbrev color_by : (r g b a : ℕ) → Command
color_by r g b a = cmd.Color (record { r = r; g = g; b = b; a = a })

abbrev from_four : Result (Fields four × List ℕ) Form → Result (Command × List ℕ) Form
from_four q = q >>= made op.Color

abbrev from_three : ℕ → Result (Fields three × List ℕ) Form → Result (Command × List ℕ) Form
from_three r q = from_four (q >>= pair_up r)

abbrev from_two : (r g : ℕ) → Result (Fields two × List ℕ) Form → Result (Command × List ℕ) Form
from_two r g q = from_three r (q >>= pair_up g)

abbrev from_one : (r g b : ℕ) → Result (Fields one × List ℕ) Form → Result (Command × List ℕ) Form
from_one r g b q = from_two r g (q >>= pair_up b)

abbrev from_none : (r g b a : ℕ) → Result (Fields [] × List ℕ) Form → Result (Command × List ℕ) Form
from_none r g b a q = from_one r g b (q >>= pair_up a)

color_after : (bytes r1 : List ℕ) (r : ℕ) → read_byte bytes ≡ Ok (r, r1) → read_command op.Color bytes ≡ from_three r (read_fields three r1)
color_after bytes r1 r e = command_of op.Color bytes ∙ ap from_four (byte_first three r bytes r1 e)

pub color_read : (bytes r1 r2 r3 r4 : List ℕ) (r g b a : ℕ) → read_byte bytes ≡ Ok (r, r1) → read_byte r1 ≡ Ok (g, r2) → read_byte r2 ≡ Ok (b, r3) → read_byte r3 ≡ Ok (a, r4)
    → read_command op.Color bytes ≡ Ok (color_by r g b a, r4)
color_read bytes r1 r2 r3 r4 r g b a e1 e2 e3 e4 =
    color_after bytes r1 r e1
    ∙ ap (from_three r) (byte_first two g r1 r2 e2)
    ∙ ap (from_two r g) (byte_first one b r2 r3 e3)
    ∙ ap (from_one r g b) (byte_first [] a r3 r4 e4)
    ∙ ap (from_none r g b a) (fields_none r4)

pub color_cut : (bytes : List ℕ) (f : Form) → read_byte bytes ≡ Err f → read_command op.Color bytes ≡ Err f
color_cut bytes f e = command_of op.Color bytes ∙ ap from_four (byte_cut three bytes f e)

pub color_cut_green : (bytes r1 : List ℕ) (r : ℕ) (f : Form) → read_byte bytes ≡ Ok (r, r1) → read_byte r1 ≡ Err f → read_command op.Color bytes ≡ Err f
color_cut_green bytes r1 r f e1 e = color_after bytes r1 r e1 ∙ ap (from_three r) (byte_cut two r1 f e)

pub color_cut_blue : (bytes r1 r2 : List ℕ) (r g : ℕ) (f : Form) → read_byte bytes ≡ Ok (r, r1) → read_byte r1 ≡ Ok (g, r2) → read_byte r2 ≡ Err f → read_command op.Color bytes ≡ Err f
color_cut_blue bytes r1 r2 r g f e1 e2 e =
    color_after bytes r1 r e1
    ∙ ap (from_three r) (byte_first two g r1 r2 e2)
    ∙ ap (from_two r g) (byte_cut one r2 f e)

pub color_cut_alpha : (bytes r1 r2 r3 : List ℕ) (r g b : ℕ) (f : Form) → read_byte bytes ≡ Ok (r, r1) → read_byte r1 ≡ Ok (g, r2) → read_byte r2 ≡ Ok (b, r3) → read_byte r3 ≡ Err f
    → read_command op.Color bytes ≡ Err f
color_cut_alpha bytes r1 r2 r3 r g b f e1 e2 e3 e =
    color_after bytes r1 r e1
    ∙ ap (from_three r) (byte_first two g r1 r2 e2)
    ∙ ap (from_two r g) (byte_first one b r2 r3 e3)
    ∙ ap (from_one r g b) (byte_cut [] r3 f e)

-- ---- a texture coordinate

abbrev from_pair : Result (Fields (Word ∷ Word ∷ []) × List ℕ) Form → Result (Command × List ℕ) Form
from_pair q = q >>= made op.TexCoord

abbrev from_last : ℤ → Result (Fields (Word ∷ []) × List ℕ) Form → Result (Command × List ℕ) Form
from_last s q = from_pair (q >>= pair_up s)

abbrev from_both : (s t : ℤ) → Result (Fields [] × List ℕ) Form → Result (Command × List ℕ) Form
from_both s t q = from_last s (q >>= pair_up t)

pub coordinate_read : (bytes r1 r2 : List ℕ) (s t : ℤ) → read_word bytes ≡ Ok (s, r1) → read_word r1 ≡ Ok (t, r2) → read_command op.TexCoord bytes ≡ Ok (cmd.TexCoord s t, r2)
coordinate_read bytes r1 r2 s t e1 e2 =
    command_of op.TexCoord bytes
    ∙ ap from_pair (word_first (Word ∷ []) s bytes r1 e1)
    ∙ ap (from_last s) (word_first [] t r1 r2 e2)
    ∙ ap (from_both s t) (fields_none r2)

pub coordinate_cut : (bytes : List ℕ) (f : Form) → read_word bytes ≡ Err f → read_command op.TexCoord bytes ≡ Err f
coordinate_cut bytes f e = command_of op.TexCoord bytes ∙ ap from_pair (word_cut (Word ∷ []) bytes f e)

pub coordinate_cut_t : (bytes r1 : List ℕ) (s : ℤ) (f : Form) → read_word bytes ≡ Ok (s, r1) → read_word r1 ≡ Err f → read_command op.TexCoord bytes ≡ Err f
coordinate_cut_t bytes r1 s f e1 e =
    command_of op.TexCoord bytes
    ∙ ap from_pair (word_first (Word ∷ []) s bytes r1 e1)
    ∙ ap (from_last s) (word_cut [] r1 f e)

-- ---- a vertex

abbrev from_words : Result (List ℤ × List ℕ) Form → Result (Command × List ℕ) Form
from_words q = (q >>= then_fields []) >>= made op.Vertex

vertex_of : (bytes : List ℕ) → read_command op.Vertex bytes ≡ from_words (read_words 4 bytes)
unfolding read_command read_fields read_value
vertex_of bytes = refl

vertex_done : (ws : List ℤ) (rest : List ℕ) → from_words (Ok (ws, rest)) ≡ Ok (cmd.Vertex ws, rest)
unfolding read_fields
vertex_done ws rest = refl

abbrev from_x : ℤ → Result (List ℤ × List ℕ) Form → Result (Command × List ℕ) Form
from_x x q = from_words (q >>= put_first x)

abbrev from_xy : (x y : ℤ) → Result (List ℤ × List ℕ) Form → Result (Command × List ℕ) Form
from_xy x y q = from_x x (q >>= put_first y)

abbrev from_xyz : (x y z : ℤ) → Result (List ℤ × List ℕ) Form → Result (Command × List ℕ) Form
from_xyz x y z q = from_xy x y (q >>= put_first z)

abbrev from_xyzw : (x y z w : ℤ) → Result (List ℤ × List ℕ) Form → Result (Command × List ℕ) Form
from_xyzw x y z w q = from_xyz x y z (q >>= put_first w)

vertex_after : (bytes r1 : List ℕ) (x : ℤ) → read_word bytes ≡ Ok (x, r1) → read_command op.Vertex bytes ≡ from_x x (read_words 3 r1)
vertex_after bytes r1 x e = vertex_of bytes ∙ ap from_words (word_more 3 x bytes r1 e)

pub vertex_read : (bytes r1 r2 r3 r4 : List ℕ) (x y z w : ℤ) → read_word bytes ≡ Ok (x, r1) → read_word r1 ≡ Ok (y, r2) → read_word r2 ≡ Ok (z, r3) → read_word r3 ≡ Ok (w, r4)
    → read_command op.Vertex bytes ≡ Ok (cmd.Vertex (x ∷ y ∷ z ∷ w ∷ []), r4)
vertex_read bytes r1 r2 r3 r4 x y z w e1 e2 e3 e4 =
    vertex_after bytes r1 x e1
    ∙ ap (from_x x) (word_more 2 y r1 r2 e2)
    ∙ ap (from_xy x y) (word_more 1 z r2 r3 e3)
    ∙ ap (from_xyz x y z) (word_more 0 w r3 r4 e4)
    ∙ ap (from_xyzw x y z w) (words_none r4)
    ∙ vertex_done (x ∷ y ∷ z ∷ w ∷ []) r4

pub vertex_cut : (bytes : List ℕ) (f : Form) → read_word bytes ≡ Err f → read_command op.Vertex bytes ≡ Err f
vertex_cut bytes f e = vertex_of bytes ∙ ap from_words (word_short 3 bytes f e)

pub vertex_cut_y : (bytes r1 : List ℕ) (x : ℤ) (f : Form) → read_word bytes ≡ Ok (x, r1) → read_word r1 ≡ Err f → read_command op.Vertex bytes ≡ Err f
vertex_cut_y bytes r1 x f e1 e = vertex_after bytes r1 x e1 ∙ ap (from_x x) (word_short 2 r1 f e)

pub vertex_cut_z : (bytes r1 r2 : List ℕ) (x y : ℤ) (f : Form) → read_word bytes ≡ Ok (x, r1) → read_word r1 ≡ Ok (y, r2) → read_word r2 ≡ Err f
    → read_command op.Vertex bytes ≡ Err f
vertex_cut_z bytes r1 r2 x y f e1 e2 e =
    vertex_after bytes r1 x e1
    ∙ ap (from_x x) (word_more 2 y r1 r2 e2)
    ∙ ap (from_xy x y) (word_short 1 r2 f e)

pub vertex_cut_w : (bytes r1 r2 r3 : List ℕ) (x y z : ℤ) (f : Form) → read_word bytes ≡ Ok (x, r1) → read_word r1 ≡ Ok (y, r2) → read_word r2 ≡ Ok (z, r3) → read_word r3 ≡ Err f
    → read_command op.Vertex bytes ≡ Err f
vertex_cut_w bytes r1 r2 r3 x y z f e1 e2 e3 e =
    vertex_after bytes r1 x e1
    ∙ ap (from_x x) (word_more 2 y r1 r2 e2)
    ∙ ap (from_xy x y) (word_more 1 z r2 r3 e3)
    ∙ ap (from_xyz x y z) (word_short 0 r3 f e)
