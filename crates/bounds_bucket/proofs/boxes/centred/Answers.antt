use Rattle.bounds_bucket.specs.Extents.{is_between}
use Rattle.bounds_bucket.proofs.Cutting.{part_is}
use Rattle.bounds_bucket.proofs.boxes.centred.Goals as goal

pub returns : goal.returns
returns c =
    rw c.rect_of.ensures
    (part_is c.args.rect (record { x0 = c.between.result.from; y0 = c.between-2.result.from; x1 = c.between.result.end; y1 = c.between-2.result.end })
    (is_between c.args.extent.across) (is_between c.args.extent.up)
    (rw c.columns_of.ensures at c.between.ensures) (rw c.rows_of.ensures at c.between-2.ensures))
