use Rattle.std.proofs.Common.{◌≡◌, [], ◌∷◌, ◌++◌, length, sym, ap, ◌∙◌, arith, length-append, append-nil}
use Rattle.std.proofs.lemmas.Grind.{common_steps}
use Rattle.std.specs.Vec.Iter.{into_iter_items}
use Rattle.rc_base.proofs.Paired.{goes_on}
use Rattle.sort_last.specs.Players.{HasDrawn}
use Rattle.sort_last.specs.declared.player.Player.{Player}
use Rattle.sort_last.proofs.DrawnFrames.{client_pushed, next_begun}
use Rattle.sort_last.proofs.player.all_begun.Goals as goal

pub loop-one-init : goal.loop-one-init
loop-one-init c =
    let none = ap length c.new-players.ensures.items in
    record {
      whole = sym c.into_iter-one-iterator.ensures.into_iter_gives.0;
      count = none;
      each = λ client p lt. absurd (omega (arith, lt));
    }

pub loop-one-preserved : goal.loop-one-preserved
loop-one-preserved c =
    let s = c.args.scene.now in
    let was = c.loop-one.invariant in
    let done = c.loop-one.yielded in
    let r = c.in-Some.one in
    let p = c.in_ok-player.player in
    let rest = into_iter_items c.loop-one.one-iterator in
    let more = into_iter_items c.next.new.self in
    let begun = next_begun s c.args.made.items done rest more r c.requires was.whole c.in-Some.ensures.steps.0 p c.in_ok-player.was in
    record {
      whole = goes_on c.args.made.items done rest more r was.whole c.in-Some.ensures.steps.0;
      count = omega (arith, was.count, ap length c.in_ok-push.ensures.items, length-append c.loop-one.players.items (p ∷ []), length-append done (r ∷ []));
      each = λ client q lt.
          client_pushed (λ k (m : Player). HasDrawn s k 0 0 m) c.loop-one.players.items _ p (length done) was.count c.in_ok-push.ensures.items was.each (begun (length done)) client q
          (omega (arith, lt, length-append done (r ∷ [])));
    }

pub returns : goal.returns
returns c =
    let was = c.loop-one.invariant in
    let done = c.loop-one.yielded in
    let none : into_iter_items c.loop-one.one-iterator ≡ [] = let steps = c.in-None.ensures.steps in grind (arith, common_steps) in
    let all : done ≡ c.args.made.items = sym (was.whole ∙ ap (λ rest. done ++ rest) none ∙ append-nil done) in
    record {
      count = was.count ∙ ap length all ∙ c.requires.count;
      each = λ client p lt. was.each client p (omega (arith, lt, ap length all, c.requires.count));
    }
