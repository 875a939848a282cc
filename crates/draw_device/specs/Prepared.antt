-- What is settled once for all blocks that are drawn with a state.
use Rattle.std.proofs.Props.{props}
use Rattle.rc_base.specs.declared.state.State.{State}
use Rattle.rc_base.specs.declared.window.Rect.{Rect}
use Rattle.geometry.specs.Beside.{AreSurrounds}
use Rattle.geometry.specs.Placed.{AreIdentities}
use Rattle.raster.specs.Clips.{IsPartWhere, is_let_through}
use Rattle.draw_device.specs.Plans.{IsPlan, IsPlan-prop}
use Rattle.draw_device.specs.declared.prepared.Prepared.{Prepared}

-- it is what the state says of all blocks that are drawn in the rectangle
pub record IsPreparedFor (s : State) (rect : Rect) (p : Prepared) : Type 0 where
  pub planned : IsPlan s p.plan
  pub within : IsPartWhere rect p.part (is_let_through s)
  pub beside : AreSurrounds p.part p.near
  pub products : AreIdentities s p.identities

pub IsPreparedFor-prop : (s : State) (rect : Rect) (p : Prepared) → IsProp (IsPreparedFor s rect p)
IsPreparedFor-prop s rect p = Prim.hlevel (props, IsPlan-prop)
