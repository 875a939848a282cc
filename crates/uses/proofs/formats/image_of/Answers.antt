use Rattle.std.proofs.Common.{ℕ, Result, subst}
use Rattle.std.specs.Prelude.{IfErr}
use Rattle.rc_base.specs.declared.image.Image.{Image}
use Rattle.ppm_out.specs.Faults.{TellsWhy}
use Rattle.ppm_out.specs.declared.reading.PpmFault.{PpmFault}
use Rattle.ppm_out.specs.declared.reading.PpmFault.TheVariants as faults
use Rattle.uses.proofs.formats.image_of.Goals as goal

pub returns : goal.returns
returns c none lacks =
    let why : TellsWhy c.args.bytes.now faults.OutOfMemory =
    subst (λ (r : Result (Image × ℕ) PpmFault). IfErr r (TellsWhy c.args.bytes.now)) lacks c.read_ppm.ensures.why in
    none why.0 why.1 why.2
