-- Parts that stand among the bytes stay there while others are written.
use Rattle.std.proofs.Common.{◌≡◌, ℕ, ◌+◌, ◌<◌, ◌≤◌, List, Some, None, inl, inr, ◌∙◌, arith, length, take, drop, sym, ap, length-take, length-drop}
use Rattle.std.specs.declared.option.Option.{Option}
use Rattle.std.proofs.lemmas.Bool.{cases_Bool}
use Rattle.std.proofs.lemmas.List.{drop-take, take-take}
use Rattle.rc_base.specs.Cluster.Tiles.{boundary_of, tile_column, tile_count, tile_pixels, tile_row}
use Rattle.rc_base.specs.declared.cluster.TilePart.{TilePart}
use Rattle.rc_base.specs.declared.window.Layout.{Layout}
use Rattle.scene_lemmas.proofs.Boundaries.{boundary_most, has_place}
use Rattle.assembler.specs.Drawn.{AreDrawn, IsDrawn, StaysBeside, place_of_bytes}
use Rattle.assembler.specs.Places.{in_place, no_parts}
use Rattle.assembler.proofs.Fitting.{row_below_rows}
use Rattle.assembler.proofs.Shown.{one_tile}
use Rattle.assembler.proofs.Waiting.{none_in}

pub stays_drawn : (l : Layout) (tile other : ℕ) (p : TilePart) (old new : List ℕ) → 0 < l.columns → 0 < l.rows → other < tile_count l → (other ≡ tile → ⊥)
    → StaysBeside l tile old new → IsDrawn l old other p → IsDrawn l new other p
stays_drawn l tile other p old new columns rows low differs stays drawn x y has =
    let place = has_place l other x y has in
    let right : boundary_of l.width l.columns (tile_column l other + 1) ≤ l.width = boundary_most l.width l.columns (tile_column l other) (omega arith) in
    let top : boundary_of l.height l.rows (tile_row l other + 1) ≤ l.height = boundary_most l.height l.rows (tile_row l other) (row_below_rows l other columns low) in
    let in_width : x < l.width = (let a = place.across.high in omega (arith, a, right)) in
    let in_height : y < l.height = (let a = place.up.high in omega (arith, a, top)) in
    elim (cases_Bool (tile_pixels l tile x y)) [
      | inl both ↦ absurd (differs (one_tile l other tile x y columns rows place (has_place l tile x y both)))
      | inr one ↦ stays x y in_width in_height one ∙ drawn x y has
    ]

-- where no part is there, nothing has to stand
pub none_drawn : (l other : Layout) (places : List (Option TilePart)) (bytes : List ℕ) → places ≡ no_parts other → AreDrawn l places bytes
none_drawn l other places bytes empty tile p is =
    absurd (both (in_place places tile) p (ap (λ (os : List (Option TilePart)). in_place os tile) empty ∙ none_in (tile_count other) tile) is)
  where
    both : (o : Option TilePart) (q : TilePart) → o ≡ None → o ≡ Some q → ⊥
    both o q a b = cc

-- and where the bytes go on
pub longer_drawn : (l : Layout) (places : List (Option TilePart)) (old new : List ℕ) → take (length old) new ≡ old → AreDrawn l places old → AreDrawn l places new
longer_drawn l places old new front drawn tile p is x y has =
    let at = place_of_bytes l x y in
    let was = drawn tile p is x y has in
    let count : length (take 3 (drop at old)) ≡ 3 = ap length was in
    let inside : at + 3 ≤ length old = omega (arith, simp (length-take, length-drop) at count) in
    sym (drop-take at 3 new)
    ∙ ap (drop at) (sym (take-take (at + 3) (length old) new inside) ∙ ap (take (at + 3)) front)
    ∙ drop-take at 3 old
    ∙ was
