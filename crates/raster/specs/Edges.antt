-- The edges of triangles.
use Rattle.rc_base.specs.Drawing.Cover.{IsInBounds}
use Rattle.rc_base.specs.declared.window.WindowVertex.{WindowVertex}

-- both ends of an edge lie within the bounds of window coordinates
pub record IsEdgeInBounds (a b : WindowVertex) : Type 0 where
  pub from : IsInBounds a
  pub to : IsInBounds b
