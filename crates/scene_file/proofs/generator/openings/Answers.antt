use Rattle.std.proofs.Common.{◌≡◌, ℕ, ◌+◌, [], ◌∷◌, ◌++◌, List, map, sym, ◌∙◌, arith}
use Rattle.std.specs.List.{range_with_len}
use Rattle.std.proofs.lemmas.List.FromFn.{map-range_with_len_more}
use Rattle.scene_file.specs.Generated.{opening_of}
use Rattle.scene_file.proofs.generator.openings.Goals as goal

one_more : {X : Type 0} (f : ℕ → X) (n : ℕ) (xs : List X) (x : X) → xs ≡ map f (range_with_len 0 n) → x ≡ f n → xs ++ x ∷ [] ≡ map f (range_with_len 0 (n + 1))
one_more f n xs x before last = (λ i. before i ++ last i ∷ []) ∙ sym (map-range_with_len_more f 0 n n (omega arith))

pub loop-client-preserved : goal.loop-client-preserved
loop-client-preserved c =
    c.in_ok-push.ensures.items ∙ one_more opening_of c.loop-client.client c.loop-client.streams.items c.in_ok-stream.stream c.loop-client.invariant c.in_ok-stream.ensures
