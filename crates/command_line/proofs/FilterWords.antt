-- The filter at the front of a line: at most one, and none where a job stands.
use Rattle.std.proofs.Common.{◌≡◌, ◌∙◌, sym, ap, refl, arith, ℕ, ◌<◌, true, false, eqb, List, [], ◌∷◌, ◌++◌, None, Some, if◌then◌else◌}
use Rattle.std.specs.Prelude.{◌^◌}
use Rattle.std.specs.Fmt.{decimal}
use Rattle.std.proofs.lemmas.Fmt.{decimal_injective}
use Rattle.rc_base.specs.declared.command.Opcode.{Opcode}
use Rattle.rc_base.specs.Formats.Commands.{table_row}
use Rattle.command_table.specs.Opcodes.{opcode_of_name}
use Rattle.rc_base.specs.declared.command.Rgba.{Rgba}
use Rattle.command_table.proofs.ByOpcode.{opcode_of_its_name, one_name}
use Rattle.command_line.specs.declared.job.JobName.{JobName}
use Rattle.command_line.specs.declared.job.JobName.TheVariants.{Render}
use Rattle.command_line.specs.Words.{Setting, IsCommandLine, job_word}
use Rattle.command_line.proofs.OneRow.{row_in, one_row, no_row}
use Rattle.rc_base.specs.Colors.{rgba}
use Rattle.rc_base.specs.declared.command.Opcode.TheVariants as op
use Rattle.command_line.specs.Filters.{Filter, filter_word, filter_words, IsFilter, BeginsFilter}
use Rattle.command_line.specs.Filters.Filter.{Recolour, Cull, Drop, Count}

-- ---- names of commands

-- words of which the first is no command's name
pub no_command : (text : List ℕ) (words rest : List (List ℕ)) → words ≡ text ∷ rest → None ≡ opcode_of_name text
    → (o : Opcode) (more : List (List ℕ)) → words ≡ (table_row o).name ∷ more → ⊥
no_command text words rest parts none o more e =
    let same : text ≡ (table_row o).name = cc in
    let found : opcode_of_name text ≡ Some o = ap opcode_of_name same ∙ opcode_of_its_name o in
    absurd cc

-- ---- numbers of 8 bits

-- words of which the first is a number past 255
pub no_channel : (m : ℕ) (words rest : List (List ℕ)) → words ≡ decimal m ∷ rest → m < 2 ^ 64 → 255 < m
    → (n : ℕ) (more : List (List ℕ)) → n < 256 → words ≡ decimal n ∷ more → ⊥
no_channel m words rest parts small large n more fits e =
    let texts : decimal m ≡ decimal n = cc in
    let same : m ≡ n = decimal_injective m n small (omega arith) texts in
    absurd (omega arith)

-- ---- one reading

same_tint : (t u : Rgba) → t.r ≡ u.r → t.g ≡ u.g → t.b ≡ u.b → t.a ≡ u.a → t ≡ u
same_tint t u r g b a = λ i. record { r = r i; g = g i; b = b i; a = a i }

-- the filter of this word, with what its words say in the table
abbrev listed : Filter → Filter
listed (Recolour t) = Recolour (rgba 0 0 0 0)
listed (Drop o) = Drop op.Swap
listed f = f

abbrev filters : List Filter
filters = Recolour (rgba 0 0 0 0) ∷ Cull ∷ Drop op.Swap ∷ Count ∷ []

filter_found : (f : Filter) → row_in filter_word filters (filter_word f) ≡ Some (listed f)
filter_found Cull = refl
filter_found f = refl

-- the word of a job is none of them
job_not_found : (job : JobName) → row_in filter_word filters (job_word job) ≡ None
job_not_found Render = refl
job_not_found job = refl

pub job_is_no_filter : (words : List (List ℕ)) (job : JobName) (settings : List Setting) → IsCommandLine words job settings → BeginsFilter words → ⊥
job_is_no_filter words job settings line b =
    let first : filter_word b.0 ≡ job_word job = let both = sym b.2 ∙ line.parts in cc in
    no_row filter_word filters _ _ (listed b.0) (filter_found b.0) (job_not_found job) first

same_row : (f g : Filter) (xs ys : List (List ℕ)) → filter_words f ++ xs ≡ filter_words g ++ ys → listed f ≡ listed g
same_row f g xs ys e =
    let first : filter_word f ≡ filter_word g = cc in
    one_row filter_word filters _ _ (listed f) (listed g) (filter_found f) (filter_found g) first

-- words begin with at most one filter
pub same_filter : (f g : Filter) (xs ys : List (List ℕ)) → IsFilter f → IsFilter g → filter_words f ++ xs ≡ filter_words g ++ ys → (f ≡ g) × (xs ≡ ys)
same_filter (Recolour t) (Recolour u) xs ys hf hg e =
    let r : t.r ≡ u.r = decimal_injective t.r u.r (omega (arith, hf)) (omega (arith, hg)) cc in
    let g : t.g ≡ u.g = decimal_injective t.g u.g (omega (arith, hf)) (omega (arith, hg)) cc in
    let b : t.b ≡ u.b = decimal_injective t.b u.b (omega (arith, hf)) (omega (arith, hg)) cc in
    let a : t.a ≡ u.a = decimal_injective t.a u.a (omega (arith, hf)) (omega (arith, hg)) cc in
    (ap Recolour (same_tint t u r g b a), cc)
same_filter Cull Cull xs ys hf hg e = (refl, cc)
same_filter (Drop o) (Drop p) xs ys hf hg e = (ap Drop (one_name o p cc), cc)
same_filter Count Count xs ys hf hg e = (refl, cc)
same_filter f g xs ys hf hg e = absurd (let row = same_row f g xs ys e in cc)
