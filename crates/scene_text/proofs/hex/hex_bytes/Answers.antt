use Rattle.std.proofs.Common.{◌≤◌, length, ◌∙◌, arith}
use Rattle.std.proofs.lemmas.List.{take_rest}
use Rattle.scene_text.proofs.NumbersInTurn.{front_pair}
use Rattle.scene_text.proofs.hex.hex_bytes.Goals as goal

pub loop-digits-preserved : goal.loop-digits-preserved
loop-digits-preserved c =
    let two : 2 ≤ length c.loop-digits.digits.now = omega arith in
    rw (take_rest, c.in_ok-push-in-Some.ensures.items)
    (front_pair c.loop-digits.bytes c.loop-digits.digits.now c.in-Some.byte two c.in-Some.ensures ∙ c.loop-digits.invariant)
