use Rattle.std.proofs.Common.{◌+◌, ◌∙◌, pos, to_z-of_z, FitsSigned, w32}
use Rattle.rc_base.specs.Drawing.Fragment.{fragment_of}
use Rattle.draw_device.proofs.stepped.value_by.Goals as goal

pub returns : goal.returns
unfolding fragment_of
returns c =
    let f : FitsSigned w32 c.mean.result = record { sfits = c.mean.type_inv } in
    let v = c.args.tri.now.v in
    let r = c.args.run in
    let x = c.args.x in
    let few = c.requires.few in
    let inside = c.requires.inside in
    let area = rw c.args.tri.now.area_is at c.args.tri.now.positive in
    record {
      depth = λ h. to_z-of_z f ∙ c.mean.ensures v (pos (r.left + x)) (pos r.row) _ (1 + x + r.up) h few area inside;
      s = λ h. to_z-of_z f ∙ c.mean.ensures v (pos (r.left + x)) (pos r.row) _ (1 + x + r.up) h few area inside;
      t = λ h. to_z-of_z f ∙ c.mean.ensures v (pos (r.left + x)) (pos r.row) _ (1 + x + r.up) h few area inside;
    }
