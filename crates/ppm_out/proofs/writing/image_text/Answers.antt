use Rattle.std.proofs.Common.{◌≡◌, arith, subst, sym, List, ℕ}
use Rattle.std.proofs.lemmas.Grind.{common_steps}
use Rattle.rc_base.specs.Formats.Netpbm.{p6_text, SpellsImage}
use Rattle.rc_base.specs.Formats.Commands.{AreBytes}
use Rattle.ppm_out.proofs.Framed.{written_is_spelled}
use Rattle.ppm_out.proofs.writing.image_text.Goals as goal

pub returns-clause-spelled : goal.returns-clause-spelled
returns-clause-spelled c =
    let m = c.args.image.now in
    let channels : AreBytes m.rgb = subst AreBytes c.as_slice-2.ensures c.joined.ensures.channels in
    let text : c.from_vec.result ≡ p6_text m = grind (arith, common_steps) in
    subst (λ (l : List ℕ). SpellsImage l m) (sym text) (written_is_spelled m c.requires channels)
