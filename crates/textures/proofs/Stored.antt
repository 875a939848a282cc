-- Parts that are written into a set of shared textures.
use Rattle.std.proofs.Common.{◌≡◌, ℕ, zero, suc, ◌*◌, ◌/◌, ◌%◌, ◌<◌, ◌≤◌, ◌==◌, ◌&&◌, Bool, true, false, List, [], ◌∷◌, length, map, Some, None, refl, sym, ap, ◌∙◌, subst, arith, eqb-true, eq-eqb, slice_get}
use Rattle.std.specs.Prelude.{if◌then◌else◌, nat_lt, slice_index, unwrap_or}
use Rattle.std.specs.declared.option.Option.{Option}
use Rattle.std.specs.Option.{option_map}
use Rattle.std.proofs.lemmas.Bool.Decides.{nat_tests}
use Rattle.std.proofs.lemmas.List.{ext_get_or, length-replicate, length-map}
use native.Mathlib.Decide.{ℕ_discrete}
use mathlib.Core.Logic.{dite}
use Rattle.rc_base.specs.Lists.{at_name, with_name}
use Rattle.rc_base.specs.Pictures.{Picture, with_part, is_in_part}
use Rattle.rc_base.specs.Contexts.Context.{shared_sides}
use Rattle.rc_base.specs.Drawing.Serial.{blank_textures, stored}
use Rattle.rc_base.specs.Drawing.Texel.{SharedTexels, shared_picture}
use Rattle.rc_base.specs.declared.command.Part.{Part}
use Rattle.rc_base.specs.declared.scene.Scene.{Scene}
use Rattle.rc_base.specs.declared.state.Effect.TheVariants as eff
use Rattle.textures.specs.Images.{IsWhole, LiesInside, Fits, picture, texture_image, with_texture_part, blank_texture}
use Rattle.textures.specs.Stores.{HasTexels}
use Rattle.textures.proofs.Names.{other_name, same_name, length_with_name}
use Rattle.textures.proofs.Written.{length_written, byte_written}

-- ---- blank textures

named : (sizes : List (List ℕ)) (n : ℕ) → n < length sizes → unwrap_or (slice_get (map blank_texture sizes) n) None ≡ blank_texture (unwrap_or (slice_get sizes n) [])
named [] n low = absurd (omega arith)
named (s ∷ sizes) zero low = refl
named (s ∷ sizes) (suc n) low = named sizes n (omega arith)

blank_each : (scene : Scene) (name : ℕ) → 0 < name → name ≤ length scene.decl.shared → texture_image (map blank_texture scene.decl.shared) name ≡ Some (shared_picture scene.decl.shared (blank_textures scene) name)
blank_each scene zero some low = absurd (omega arith)
blank_each scene (suc n) some low = named scene.decl.shared n (omega arith)

pub blank : (scene : Scene) → HasTexels scene.decl.shared (blank_textures scene) (map blank_texture scene.decl.shared)
blank scene = record {
  count = length-map scene.decl.shared blank_texture;
  whole = λ name some low. let zero_byte : ℕ = 0 in length-replicate (4 * (slice_index (shared_sides scene.decl.shared name) 0 * slice_index (shared_sides scene.decl.shared name) 1)) zero_byte;
  each = blank_each scene;
}

-- ---- a part without texels

nothing_in : (part : Part) (c r : ℕ) → (nat_lt 0 part.w && nat_lt 0 part.h) ≡ false → is_in_part part c r ≡ false
nothing_in part c r none = grind (arith, nat_tests)

nothing_written : (p : Picture) (part : Part) → Fits p part → (nat_lt 0 part.w && nat_lt 0 part.h) ≡ false → with_part p part ≡ p
unfolding with_part
nothing_written p part f none =
    ap (λ (bytes : List ℕ). picture p.w p.h bytes) (ext_get_or 0 (with_part p part).texels p.texels (length_written p part f ∙ sym f.whole) (λ i l.
    byte_written p part f i (rw (sym (length_written p part f)) l) ∙ rw (nothing_in part (i / 4 % p.w) (i / 4 / p.w) none) refl))

same_sides : (p : Picture) (part : Part) → with_part p part ≡ picture p.w p.h (with_part p part).texels
unfolding with_part
same_sides p part = refl

whole_written : (p : Picture) (part : Part) → Fits p part → IsWhole (with_part p part)
unfolding with_part
whole_written p part f = length_written p part f

written_name : {A : Type 0} (xs : List A) (name : ℕ) (v : A) → 0 < name → name ≤ length xs → at_name (with_name xs name v) name ≡ Some v
written_name xs zero v some low = absurd (omega arith)
written_name xs (suc n) v some low = same_name xs n v (omega (arith, low))

-- ---- a part that is written

module _ (sizes : List (List ℕ)) (shared : SharedTexels) (set : List (Option Picture)) (part : Part) (has : HasTexels sizes shared set) where
  other_stored : (name : ℕ) → (name ≡ part.name → ⊥) → stored sizes (eff.Shared part) shared name ≡ shared name
  other_stored name ne = by (part.name == name) refl
    where
      by : (b : Bool) → (part.name == name) ≡ b → (if b && (nat_lt 0 part.w && nat_lt 0 part.h) then (with_part (shared_picture sizes shared name) part).texels else shared name) ≡ shared name
      by true e = absurd (ne (sym (eqb-true part.name name e)))
      by false e = refl

  fits : 0 < part.name → part.name ≤ length sizes → length part.texels ≡ 4 * (part.w * part.h) → LiesInside part (texture_image set part.name) → Fits (shared_picture sizes shared part.name) part
  fits some low texels inside =
      let i = subst (LiesInside part) (has.each part.name some low) inside in
      record { whole = has.whole part.name some low; room = omega (arith, texels); across = i.0; up = i.1 }

  -- the texture that it names
  self_stored : Fits (shared_picture sizes shared part.name) part → with_part (shared_picture sizes shared part.name) part ≡ shared_picture sizes (stored sizes (eff.Shared part) shared) part.name
  self_stored f = by (nat_lt 0 part.w && nat_lt 0 part.h) refl
    where
      by : (b : Bool) → (nat_lt 0 part.w && nat_lt 0 part.h) ≡ b
          → with_part (shared_picture sizes shared part.name) part
          ≡ picture (slice_index (shared_sides sizes part.name) 0) (slice_index (shared_sides sizes part.name) 1) (if part.name == part.name && b then (with_part (shared_picture sizes shared part.name) part).texels else shared part.name)
      by true e = rw (eq-eqb part.name part.name refl) (same_sides (shared_picture sizes shared part.name) part)
      by false e = rw (eq-eqb part.name part.name refl) (nothing_written (shared_picture sizes shared part.name) part f e)

  stored_each : Fits (shared_picture sizes shared part.name) part → 0 < part.name → part.name ≤ length sizes → (name : ℕ) → 0 < name → name ≤ length sizes
      → texture_image (with_texture_part set part) name ≡ Some (shared_picture sizes (stored sizes (eff.Shared part) shared) name)
  stored_each f some low name some' low' =
      let v = option_map (λ (p : Picture). with_part p part) (texture_image set part.name) in
      dite (ℕ_discrete name part.name)
      (λ (same : name ≡ part.name).
      subst (λ (n : ℕ). texture_image (with_texture_part set part) n ≡ Some (shared_picture sizes (stored sizes (eff.Shared part) shared) n)) (sym same)
      (ap (λ (o : Option (Option Picture)). unwrap_or o None) (written_name set part.name v some (omega (arith, low, has.count)))
      ∙ ap (option_map (λ (p : Picture). with_part p part)) (has.each part.name some low) ∙ ap (λ (p : Picture). Some p) (self_stored f)))
      (λ (ne : name ≡ part.name → ⊥).
      ap (λ (o : Option (Option Picture)). unwrap_or o None) (other_name set part.name name v ne)
      ∙ has.each name some' low'
      ∙ ap (λ (bytes : List ℕ). Some (picture (slice_index (shared_sides sizes name) 0) (slice_index (shared_sides sizes name) 1) bytes)) (sym (other_stored name ne)))

  stored_whole : Fits (shared_picture sizes shared part.name) part → (name : ℕ) → 0 < name → name ≤ length sizes → IsWhole (shared_picture sizes (stored sizes (eff.Shared part) shared) name)
  stored_whole f name some low =
      dite (ℕ_discrete name part.name)
      (λ (same : name ≡ part.name).
      subst (λ (n : ℕ). IsWhole (shared_picture sizes (stored sizes (eff.Shared part) shared) n)) (sym same)
      (subst IsWhole (self_stored f) (whole_written (shared_picture sizes shared part.name) part f)))
      (λ (ne : name ≡ part.name → ⊥). ap length (other_stored name ne) ∙ has.whole name some low)

pub written : (sizes : List (List ℕ)) (shared : SharedTexels) (set : List (Option Picture)) (part : Part) → HasTexels sizes shared set
    → 0 < part.name → part.name ≤ length sizes → length part.texels ≡ 4 * (part.w * part.h) → LiesInside part (texture_image set part.name)
    → HasTexels sizes (stored sizes (eff.Shared part) shared) (with_texture_part set part)
written sizes shared set part has some low texels inside =
    let f = fits sizes shared set part has some low texels inside in
    record {
      count = length_with_name set part.name (option_map (λ (p : Picture). with_part p part) (texture_image set part.name)) ∙ has.count;
      whole = stored_whole sizes shared set part has f;
      each = stored_each sizes shared set part has f some low;
    }
