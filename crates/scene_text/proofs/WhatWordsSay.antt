-- What the words of a line say, by cases.
use Rattle.std.proofs.Common.{◌≡◌, ℕ, ℤ, Bool, true, false, cond, List, [], ◌∷◌, length, take, drop, ap, sym, Option, Some, None, Ok, Err}
use Rattle.std.specs.Option.{option_map}
use Rattle.rc_base.specs.declared.scene.TextKind.TheVariants as kind
use Rattle.rc_base.specs.declared.text.LineName.{LineName}
use Rattle.rc_base.specs.Formats.Commands.{picture_area}
use Rattle.scene_text.specs.Text.Statements.{Statement, statement, line_ranges}
use Rattle.scene_text.specs.Text.Read.{is_counted, numbers_of, spelled_texels, or_fault, has_version, with_texels, with_numbers, arguments_say}
use Rattle.scene_text.specs.declared.draft.Draft.{Draft}
use Rattle.scene_text.specs.declared.parse.LineFault.{LineFault}
use Rattle.scene_text.specs.declared.parse.LineFault.TheVariants as fault
use Rattle.scene_text.specs.Drafts.{ReadsStatement, TexelsRead}

pub texels_told : (old new : Draft) (name : LineName) (rest : List (List ℕ)) (numbers : List ℤ) (e : LineFault)
    → TexelsRead name rest numbers (Err e) → ReadsStatement old new (Err e) (with_texels name rest numbers)
texels_told old new name rest numbers (fault.Text k) h = h
texels_told old new name rest numbers fault.OutOfMemory h = tt

texels_name : (name : LineName) (numbers : List ℤ) (o : Option (List ℕ)) (s : Statement)
    → or_fault kind.BadHex (option_map (statement name numbers) o) ≡ Ok s → s.name ≡ name
texels_name name numbers None s h = absurd (cc)
texels_name name numbers (Some t) s h = let e : statement name numbers t ≡ s = cc in sym (ap (λ x. x.name) e)

rest_name : (name : LineName) (zs : List ℤ) (rest : List (List ℕ)) (s : Statement) → with_texels name rest zs ≡ Ok s → s.name ≡ name
rest_name name zs [] s h = let e : statement name zs [] ≡ s = cc in sym (ap (λ x. x.name) e)
rest_name name zs (w ∷ ws) s h = texels_name name zs (spelled_texels (picture_area zs) w) s h

-- numbers that say something are of the right version
pub versioned : (name : LineName) (zs : List ℤ) (rest : List (List ℕ)) (b : Bool) (s : Statement) → cond b (with_texels name rest zs) (Err kind.BadNumber) ≡ Ok s
    → with_texels name rest zs ≡ Ok s
versioned name zs rest true s h = h
versioned name zs rest false s h = absurd (cc)

counted_name : (name : LineName) (b : Bool) (o : Option (List ℤ)) (rest : List (List ℕ)) (s : Statement)
    → cond b (with_numbers name rest o) (Err kind.WrongCount) ≡ Ok s → s.name ≡ name
counted_name name false o rest s h = absurd (cc)
counted_name name true None rest s h = absurd (cc)
counted_name name true (Some zs) rest s h = rest_name name zs rest s (versioned name zs rest (has_version name zs) s h)

-- a line says something of its own name
pub says_name : (name : LineName) (ws : List (List ℕ)) (s : Statement) → arguments_say name ws ≡ Ok s → s.name ≡ name
unfolding arguments_say
says_name name ws s h =
    counted_name name (is_counted name ws) (numbers_of (line_ranges name) (take (length (line_ranges name)) ws)) (drop (length (line_ranges name)) ws) s h
