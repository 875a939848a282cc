use Rattle.std.proofs.Common.{List, Option, Some, None, IfSome}
use Rattle.raster.specs.Spans.{IsOnlyColumn, IsColumnIn}
use Rattle.raster.specs.Clamped.{HoldsCover, IsFull}
use Rattle.raster.proofs.OneColumn.{only_column}
use Rattle.rc_base.specs.declared.window.WindowVertex.{WindowVertex}
use Rattle.rc_base.specs.declared.window.Rect.{Rect}
use Rattle.raster.specs.declared.column.Column.{Column}
use Rattle.raster.proofs.rows.SpanIter.column.Goals as goal

pub returns : goal.returns
returns c =
    let s = c.args.self.now in
    columns s.tri.now.v s.rect s.cut.part c.column_in.result s.cover (s.full c.if-not-self.false) c.column_in.ensures
  where
    columns : (v : List WindowVertex) (rect part : Rect) (r : Option Column) → HoldsCover v rect part → IsFull v part
        → IfSome r (λ c. IsColumnIn rect part c) → IfSome r (λ c. IsOnlyColumn v rect c)
    columns v rect part None h full is = tt
    columns v rect part (Some c) h full is = only_column v rect part c h full is
