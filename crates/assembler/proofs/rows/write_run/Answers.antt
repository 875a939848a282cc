use Rattle.std.proofs.Common.{◌≡◌, ◌+◌, ◌-◌, ◌*◌, ◌≤◌, ℕ, List, length, take, drop, ap, ◌∙◌, arith, inl, inr}
use borrow.Rule.Slice.PartMut.{mid_len}
use Rattle.rc_base.specs.Drawing.Serial.{blank_pixel}
use Rattle.assembler.proofs.Lines.{pixel_bytes}
use Rattle.assembler.proofs.Pieces.{before_written, behind_written, within_written}
use Rattle.assembler.proofs.rows.write_run.Goals as goal

pub returns-clause-run : goal.returns-clause-run
returns-clause-run c = λ i low.
    let rgb = c.args.rgb.now in
    let from = c.args.from in
    let to = from + 3 * length c.args.pixels.now in
    let room : to ≤ length rgb = c.requires.room in
    let long : length c.copy_run.new.out ≡ to - from = c.copy_run.auto.out ∙ mid_len from to rgb room in
    within_written from (to - from) rgb c.copy_run.new.out (omega (arith, room)) long (3 * i) 3 (omega (arith, low))
    ∙ ap (λ (l : List ℕ). take 3 (drop (3 * i) l)) c.copy_run.ensures
    ∙ pixel_bytes c.args.pixels.now i blank_pixel low

pub returns-clause-others : goal.returns-clause-others
returns-clause-others c = λ at beside.
    let rgb = c.args.rgb.now in
    let from = c.args.from in
    let to = from + 3 * length c.args.pixels.now in
    let room : to ≤ length rgb = c.requires.room in
    let long : length c.copy_run.new.out ≡ to - from = c.copy_run.auto.out ∙ mid_len from to rgb room in
    elim beside [
      | inl before ↦ before_written from (to - from) rgb c.copy_run.new.out (omega (arith, room)) long at 3 before
      | inr behind ↦ behind_written from (to - from) rgb c.copy_run.new.out (omega (arith, room)) long at 3 (omega (arith, behind))
    ]
