use Rattle.std.proofs.Common.{◌≡◌, ◌∙◌, ℕ, ◌&&◌, min, ap, rules, arith}
use Rattle.std.specs.Prelude.{nat_lt}
use Rattle.rc_base.specs.Orders.Journal.{has}
use Rattle.rc_base.specs.Cluster.Tiles.{tile_column, tile_row}
use Rattle.bounds_bucket.specs.Tiles.{part_meets}
use Rattle.bounds_bucket.proofs.BitSets.{tiles_met}
use Rattle.bounds_bucket.proofs.TileSets.{are_few, one_more_row, all_rows}
use Rattle.bounds_bucket.proofs.tiles.meets.Goals as goal

pub loop-row-preserved : goal.loop-row-preserved
loop-row-preserved c =
    let l = c.args.layout.now in
    let few = are_few l c.parts_met-columns.result (part_meets l.width l.columns c.columns_of.result) c.parts_met-columns.ensures in
    one_more_row l c.parts_met-columns.result c.parts_met-rows.result c.loop-row.row c.loop-row.met c.with_row-met.result few c.loop-row.invariant c.with_row-met.ensures

pub returns : goal.returns
returns c t few =
    let l = c.args.layout.now in
    let columns = c.parts_met-columns.result in
    let rows = c.parts_met-rows.result in
    let none = are_few l columns (part_meets l.width l.columns c.columns_of.result) c.parts_met-columns.ensures in
    let all : c.loop-row.row ≡ min l.rows 32 = search (rules, arith) in
    tiles_met l c.args.area columns rows t few (rw c.columns_of.ensures at c.parts_met-columns.ensures) (rw c.rows_of.ensures at c.parts_met-rows.ensures) (has c.loop-row.met t)
    (c.loop-row.invariant.each t few ∙ ap (λ (n : ℕ). nat_lt (tile_row l t) n && (has columns (tile_column l t) && has rows (tile_row l t))) all ∙ all_rows l columns rows t none few)
