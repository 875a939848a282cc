use Rattle.std.proofs.Common.{◌≡◌, ◌∙◌, Option, Some, map, refl, sym, ap, subst, arith, inl, inr, ℕ}
use Rattle.std.specs.Prelude.{slice_get}
use Rattle.std.proofs.lemmas.Bool.{cases_lt}
use Rattle.std.proofs.lemmas.Option.{slice_get-get_or}
use Rattle.std.proofs.lemmas.List.{length-map}
use Rattle.rc_base.specs.declared.cluster.TilePart.{TilePart}
use Rattle.assembler.specs.Drawn.{IsDrawn}
use Rattle.assembler.specs.Places.{in_place}
use Rattle.assembler.proofs.Drawn.{stays_drawn}
use Rattle.assembler.proofs.Waiting.{place_below, stands_in}
use Rattle.assembler.proofs.Whole.{all_drawn}
use Rattle.assembler.proofs.images.write_parts.Goals as goal

-- the part that was written is the one in its place
same_part : (a p : TilePart) (o : Option TilePart) → o ≡ Some a → o ≡ Some p → a ≡ p
same_part a p o is has = cc

pub write_part-requires-clause-pixels : goal.write_part-requires-clause-pixels
write_part-requires-clause-pixels c =
    let parts = c.args.parts.now in
    let tile = c.loop-tile.tile in
    let a = c.index-parts-tile.result in
    c.requires.parts.size tile a (slice_get-get_or parts tile a c.loop-tile-test.true ∙ ap (λ (p : TilePart). Some p) (sym c.index-parts-tile.is))

pub loop-tile-preserved : goal.loop-tile-preserved
loop-tile-preserved c =
    let l = c.args.layout.now in
    let parts = c.args.parts.now in
    let tile = c.loop-tile.tile in
    let a = c.index-parts-tile.result in
    let read : slice_get parts tile ≡ Some a = slice_get-get_or parts tile a c.loop-tile-test.true ∙ ap (λ (p : TilePart). Some p) (sym c.index-parts-tile.is) in
    record {
      size = c.write_part.ensures.size ∙ c.loop-tile.invariant.size;
      drawn = λ k p low is. elim (cases_lt k tile) [
        | inl less ↦ stays_drawn l tile k p c.loop-tile.rgb c.write_part.new.rgb c.requires.columns c.requires.rows
            (omega (arith, less, c.loop-tile-test.true, c.requires.parts.count)) (λ same. absurd (omega (arith, same, less))) c.write_part.ensures.others
            (c.loop-tile.invariant.drawn k p less is)
        | inr more ↦
            let here : tile ≡ k = omega (arith, low, more) in
            let there : in_place (map (λ q. Some q) parts) tile ≡ Some a = stands_in parts tile a read in
            let same : a ≡ p = same_part a p (in_place (map (λ q. Some q) parts) tile) there (subst (λ (n : ℕ). in_place (map (λ q. Some q) parts) n ≡ Some p) (sym here) is) in
            subst (λ (n : ℕ). IsDrawn l c.write_part.new.rgb n p) here (subst (IsDrawn l c.write_part.new.rgb tile) same c.write_part.ensures.drawn)
      ];
    }

pub returns : goal.returns
returns c =
    let parts = c.args.parts.now in
    all_drawn c.args.layout.now parts c.requires.columns c.requires.rows c.requires.parts (map (λ q. Some q) parts) c.loop-tile.rgb refl
    (c.loop-tile.invariant.size ∙ c.requires.room)
    (λ k p is. c.loop-tile.invariant.drawn k p
    (let n = place_below (map (λ q. Some q) parts) k p is in omega (arith, n, length-map parts (λ (q : TilePart). Some q), c.loop-tile-test.false)) is)
