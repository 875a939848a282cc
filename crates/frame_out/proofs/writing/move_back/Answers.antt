use Rattle.std.proofs.Common.{◌≡◌, ◌-◌, ◌≤◌, ℕ, length, take, drop, ap, ◌∙◌, arith}
use Rattle.std.proofs.lemmas.Slice.{between-put_mid}
use borrow.Rule.Slice.PartMut.{mid_len}
use Rattle.frame_out.proofs.MovedBack.{new_count, new_moved, new_stay}
use Rattle.frame_out.proofs.writing.move_back.Goals as goal

pub loop-left-preserved : goal.loop-left-preserved
loop-left-preserved c =
    let was = c.loop-left.invariant in
    let least = c.min-count.ensures in
    let from : ℕ = c.loop-left.left - c.min-count.result in
    let order : from ≤ c.loop-left.left = omega arith in
    let is : c.copy_from_slice-in-loop-left.new.self ≡ take (c.loop-left.left - from) (drop from c.loop-left.text) =
    c.copy_from_slice-in-loop-left.ensures.after
    ∙ between-put_mid 0 (c.min-count.result - 0) _ c.copy_from_slice.new.self c.min-count.result (omega arith)
    (ap length c.copy_from_slice.ensures.after ∙ mid_len from c.loop-left.left c.loop-left.text (let n = was.count in let f = was.few in let r = c.requires in omega (arith, n, f, r))
    ∙ (let e : c.loop-left.left - from ≡ c.min-count.result - 0 = omega (arith, least) in e))
    ∙ c.copy_from_slice.ensures.after in
    let count = new_count c.args.text.now c.loop-left.text _ from c.loop-left.left c.args.size c.args.by order was.few c.requires was.count was.left was.moved is in
    let stay = new_stay c.args.text.now c.loop-left.text _ from c.loop-left.left c.args.size c.args.by order was.few c.requires was.count was.left was.moved is in
    let moved = new_moved c.args.text.now c.loop-left.text _ from c.loop-left.left c.args.size c.args.by order was.few c.requires was.count was.left was.moved is in
    let few : from ≤ c.args.size = (let f = was.few in omega (arith, f)) in
    record { few = few; count = count; left = stay; moved = moved }
