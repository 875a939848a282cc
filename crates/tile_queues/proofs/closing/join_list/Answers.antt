use Rattle.std.proofs.Common.{◌≡◌, ℕ, List, ◌∷◌, vec_len, ◌+◌, ◌<◌, length, get_or, arith, ap, sym, subst, ◌∙◌}
use Rattle.std.proofs.lemmas.Grind.{common_steps}
use Rattle.std.specs.Vec.Iter.{into_iter_items, into_iter_len}
use Rattle.rc_base.proofs.Paired.{each_push}
use Rattle.tile_queues.specs.Ends.{lane_in, lane_out}
use Rattle.tile_queues.specs.Grids.{IsJoined}
use Rattle.tile_queues.proofs.closing.join_list.Goals as goal

-- what is left of a list from a place on: its first item, and what is left then
first_is : {A : Type 0} (xs left later : List A) (x : A) (n m : ℕ) → ((k : ℕ) (d : A) → k < m → get_or left k d ≡ get_or xs (n + k) d) → left ≡ x ∷ later → 0 < m
    → (d : A) → x ≡ get_or xs n d
first_is xs left later x n m was e low d = let h = was 0 d low in grind (arith, common_steps)

later_is : {A : Type 0} (xs left later : List A) (x : A) (n n' m m' : ℕ) → ((k : ℕ) (d : A) → k < m → get_or left k d ≡ get_or xs (n + k) d) → left ≡ x ∷ later
    → n' ≡ n + 1 → m' + 1 ≡ m
    → (k : ℕ) (d : A) → k < m' → get_or later k d ≡ get_or xs (n' + k) d
later_is xs left later x n n' m m' was e f g k d low = let h = was (k + 1) d (omega arith) in grind (arith, common_steps)

pub close-requires : goal.close-requires
close-requires g c =
    let was = c.loop-a.invariant in
    let step = c.in-Some.ensures.steps in
    let other = c.in-Some-next.ensures.cases in
    let a = c.in-Some.a in
    let b = c.in-Some-next.b in
    let ins = c.args.ins.items in
    let outs = c.args.outs.items in
    let done = vec_len c.loop-a.rests in
    let a_is = first_is ins _ _ a done _ was.rest step.0 (omega (arith, step.1)) in
    let b_is = first_is outs _ _ b done _ was.other other.0 (omega (arith, other.1)) in
    let low : done < length ins = omega (arith, c.args.ins.ok.0, was.count, step.1) in
    ap (λ x. lane_out x) (b_is b) ∙ c.requires.paired.at done a b low ∙ ap (λ x. lane_in x) (sym (a_is a))

pub loop-a-preserved : goal.loop-a-preserved
loop-a-preserved g c =
    let was = c.loop-a.invariant in
    let step = c.in-Some.ensures.steps in
    let other = c.in-Some-next.ensures.cases in
    let one = c.push_reserved.ensures.len in
    let ins = c.args.ins.items in
    let outs = c.args.outs.items in
    let done = vec_len c.loop-a.rests in
    let z = c.close.result in
    let joined : IsJoined c.in-Some.a c.in-Some-next.b z = record { lane = c.close.ensures.lane; sent = c.close.ensures.sent; taken = c.close.ensures.taken } in
    record {
      count = omega (arith, was.count, step.1, one);
      others = omega (arith, was.others, other.1, one);
      rest =
          later_is ins (into_iter_items c.loop-a.a-iterator) (into_iter_items c.next.new.self) c.in-Some.a done (vec_len c.push_reserved.new.self)
          (into_iter_len c.loop-a.a-iterator) (into_iter_len c.next.new.self) was.rest step.0 one step.1;
      other =
          later_is outs (into_iter_items c.loop-a.others) (into_iter_items c.next-in-loop-a.new.self) c.in-Some-next.b done (vec_len c.push_reserved.new.self)
          (into_iter_len c.loop-a.others) (into_iter_len c.next-in-loop-a.new.self) was.other other.0 one other.1;
      room = omega (arith, was.room, c.push_reserved.ensures.capacity);
      each = λ i a b r below.
          each_push (λ n a r. IsJoined a (get_or outs n b) r) ins c.loop-a.rests.items c.push_reserved.new.self.items z done
          (sym c.loop-a.rests.ok.0) c.push_reserved.ensures.items (λ i d e low. was.each i d b e low)
          (λ d. subst (λ x. IsJoined x (get_or outs done b) z) (first_is ins _ _ c.in-Some.a done _ was.rest step.0 (omega (arith, step.1)) d)
          (subst (λ y. IsJoined c.in-Some.a y z) (first_is outs _ _ c.in-Some-next.b done _ was.other other.0 (omega (arith, other.1)) b) joined))
          i a r (omega (arith, below, one));
    }
