-- A command, its fields and its parts tell one another.
use Rattle.std.proofs.Common.{◌≡◌, ℕ, ℤ, ◌&&◌, Bool, true, false, List, [], ◌∷◌, map, ap, refl, sym, ◌∙◌, subst, append-nil, pos, unsigned_abs}
use Rattle.rc_base.specs.declared.command.Command.{Command}
use Rattle.rc_base.specs.declared.command.Command.TheVariants as cmd
use Rattle.rc_base.specs.declared.command.Opcode.{Opcode}
use Rattle.rc_base.specs.declared.command.Opcode.TheVariants as op
use Rattle.rc_base.specs.Numbers.{entry}
use Rattle.rc_base.specs.Formats.Commands.{Kind, Value, Fields, AreValues, IsCommand, opcode_of, kinds_of, fields_of, value_numbers, value_texels, field_numbers, field_texels, field_parts, parts_of}
use Rattle.rc_base.specs.Formats.Commands.Kind.{Byte, Half, Word, Code, Bytes, Words, Image}
use Rattle.rc_base.specs.Formats.Spelling.{field_bytes, payload}
use Rattle.command_table.specs.Making.{command_from}
use Rattle.command_table.specs.ByOpcode.{when_known}
use Rattle.command_table.proofs.ByOpcode.{same_for_each}

-- a field of one number, without texels
abbrev pub is_single : Kind → Bool
is_single Byte = true
is_single Half = true
is_single Word = true
is_single (Code count) = true
is_single (Bytes count) = false
is_single (Words count) = false
is_single Image = false

-- each field but the last is of one number
abbrev pub leads_singly : List Kind → Bool
leads_singly [] = true
leads_singly (k ∷ []) = true
leads_singly (k ∷ (l ∷ ks)) = is_single k && leads_singly (l ∷ ks)

pub leads : (o : Opcode) → leads_singly (kinds_of o) ≡ true
leads = same_for_each (λ o. leads_singly (kinds_of o)) (λ _. true) refl

-- ---- a command and its fields

-- an opcode with the fields of its row
abbrev pub Filled : Type 0
Filled = (o : Opcode) × Fields (kinds_of o)

abbrev pub filled : Command → Filled
filled c = (opcode_of c, fields_of c)

-- the command that is made of fields has these fields
pub filled_again : (o : Opcode) (x : Fields (kinds_of o)) → filled (command_from o x) ≡ (o, x)
filled_again op.Begin x = refl
filled_again o x = refl

-- a command is made of its own fields
pub made_again : (c : Command) → command_from (opcode_of c) (fields_of c) ≡ c
made_again (cmd.Begin mode) = refl
made_again c = refl

pub known : (P : Command → Type 0) (c : Command) → when_known P c → P c
unfolding when_known
known P (cmd.Begin mode) fact = fact
known P c fact = fact

pub opcode_made : (o : Opcode) (x : Fields (kinds_of o)) → opcode_of (command_from o x) ≡ o
opcode_made o x = ap (λ (f : Filled). f.0) (filled_again o x)

pub in_range_made : (o : Opcode) (x : Fields (kinds_of o)) → AreValues (kinds_of o) x → IsCommand (command_from o x)
in_range_made o x h = subst (λ (f : Filled). AreValues (kinds_of f.0) f.1) (sym (filled_again o x)) h

pub payload_made : (o : Opcode) (x : Fields (kinds_of o)) → payload (command_from o x) ≡ field_bytes (kinds_of o) x
payload_made o x = ap (λ (f : Filled). field_bytes (kinds_of f.0) f.1) (filled_again o x)

pub parts_made : (o : Opcode) (x : Fields (kinds_of o)) → parts_of (command_from o x) ≡ field_parts o x
parts_made o x = ap (λ (f : Filled). field_parts f.0 f.1) (filled_again o x)

-- ---- the fields can be told from the numbers and the texels

abbrev magnitude : List ℤ → ℕ → ℕ
magnitude zs i = unsigned_abs (entry zs i)

abbrev magnitudes : List ℤ → List ℕ
magnitudes zs = map unsigned_abs zs

magnitudes_of : (ns : List ℕ) → magnitudes (map pos ns) ≡ ns
magnitudes_of [] = refl
magnitudes_of (n ∷ ns) = ap (λ l. n ∷ l) (magnitudes_of ns)

abbrev pub rest : List ℤ → List ℤ
rest [] = []
rest (z ∷ zs) = zs

-- the field that is told by the numbers from its first one on
abbrev pub value_from : (k : Kind) → List ℤ → List ℕ → Value k
value_from Byte zs ts = magnitude zs 0
value_from Half zs ts = magnitude zs 0
value_from Word zs ts = entry zs 0
value_from (Code count) zs ts = magnitude zs 0
value_from (Bytes count) zs ts = magnitudes zs
value_from (Words count) zs ts = zs
value_from Image zs ts = record { w = magnitude zs 0; h = magnitude zs 1; texels = ts }

abbrev pub fields_from : (ks : List Kind) → List ℤ → List ℕ → Fields ks
fields_from [] zs ts = tt
fields_from (k ∷ ks) zs ts = (value_from k zs ts, fields_from ks (rest zs) ts)

value_again : (k : Kind) (v : Value k) → value_from k (value_numbers k v) (value_texels k v) ≡ v
value_again Byte v = refl
value_again Half v = refl
value_again Word v = refl
value_again (Code count) v = refl
value_again (Bytes count) v = magnitudes_of v
value_again (Words count) v = refl
value_again Image v = refl

fields_again : (ks : List Kind) (x : Fields ks) → leads_singly ks ≡ true → fields_from ks (field_numbers ks x) (field_texels ks x) ≡ x
fields_again [] x e = refl
fields_again (k ∷ []) x e =
    ap (λ v. (v, tt)) ((λ i. value_from k (append-nil (value_numbers k x.0) i) (append-nil (value_texels k x.0) i)) ∙ value_again k x.0)
fields_again (Byte ∷ (l ∷ ks)) x e = ap (λ y. (x.0, y)) (fields_again (l ∷ ks) x.1 e)
fields_again (Half ∷ (l ∷ ks)) x e = ap (λ y. (x.0, y)) (fields_again (l ∷ ks) x.1 e)
fields_again (Word ∷ (l ∷ ks)) x e = ap (λ y. (x.0, y)) (fields_again (l ∷ ks) x.1 e)
fields_again (Code count ∷ (l ∷ ks)) x e = ap (λ y. (x.0, y)) (fields_again (l ∷ ks) x.1 e)
fields_again (Bytes count ∷ (l ∷ ks)) x e = absurd cc
fields_again (Words count ∷ (l ∷ ks)) x e = absurd cc
fields_again (Image ∷ (l ∷ ks)) x e = absurd cc

-- the command of these parts
abbrev pub command_of_parts : Opcode → List ℤ → List ℕ → Command
command_of_parts o zs ts = command_from o (fields_from (kinds_of o) zs ts)

pub command_again : (c : Command) → command_of_parts (opcode_of c) (parts_of c).numbers (parts_of c).texels ≡ c
command_again c =
    let o = opcode_of c in
    ap (command_from o) (fields_again (kinds_of o) (fields_of c) (leads o)) ∙ made_again c

-- two commands of the same parts are one
pub same_parts : (c d : Command) → parts_of c ≡ parts_of d → c ≡ d
same_parts c d e = sym (command_again c) ∙ (λ i. command_of_parts (e i).opcode (e i).numbers (e i).texels) ∙ command_again d
