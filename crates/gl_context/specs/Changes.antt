-- What a change of a context leaves.
use Rattle.std.specs.Prelude.{◌≡◌, OnOk, OnErr, Option, None}
use Rattle.std.specs.declared.result.Result.{Result}
use Rattle.rc_base.specs.Contexts.Context.{ClientContext}
use Rattle.rc_base.specs.Contexts.Faults.{fault_of}
use Rattle.rc_base.specs.declared.command.Command.{Command}
use Rattle.rc_base.specs.declared.command.Mat4.{Mat4}
use Rattle.gl_context.specs.Arguments.{HasTexels, product_asked}
use Rattle.gl_context.specs.Edits.{HasRoomForEdits}

-- the change was made, or for want of memory nothing was changed
abbrev pub BecomesOrStays : {A E X : Type 0} → Result A E → X → X → X → Type 0
BecomesOrStays result before after changed = OnOk result (after ≡ changed) × OnErr result (after ≡ before)

-- the command breaks no rule, and its product is known
pub record CanCarryOut (x : ClientContext) (command : Command) (product : Option Mat4) : Type 0 where
  pub passes : fault_of x command ≡ None
  pub product_is : product ≡ product_asked x command
  pub texels : HasTexels command
  pub room : HasRoomForEdits x
