use Rattle.std.proofs.Common.{◌≡◌, ◌++◌, ℕ, length, take, drop, sym, ap, ◌∙◌}
use Rattle.std.proofs.Math.Seq.{take-append_seam}
use Rattle.assembler.proofs.Pictures.{are_parts_of}
use Rattle.assembler.proofs.Whole.{one_picture}
use Rattle.assembler.proofs.assembly.assemble.Goals as goal

pub returns-clause-pixels : goal.returns-clause-pixels
returns-clause-pixels c = λ pixels show.
    let l = c.args.layout.now in
    let parts = c.args.parts.now in
    let new = c.write_parts.new.rgb in
    let rgb = c.in_ok-image.image.rgb in
    let size : length new ≡ length rgb = c.write_parts.auto.rgb ∙ ap length c.as_mut_slice.ensures.value in
    ap (λ (n : ℕ). take n (new ++ drop (length new) rgb)) (sym size)
    ∙ take-append_seam new (drop (length new) rgb)
    ∙ c.write_parts.ensures
    ∙ one_picture l parts c.requires.columns c.requires.rows (are_parts_of l parts c.requires.parts) pixels show
