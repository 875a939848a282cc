use Rattle.std.proofs.Common.{◌≡◌, ℕ, suc, ◌+◌, ◌/◌, ◌%◌, ◌^◌, List, [], ◌∷◌, ◌++◌, map, refl, sym, ap, ◌∙◌, arith}
use Rattle.std.specs.List.{range_with_len}
use Rattle.std.proofs.lemmas.List.FromFn.{map-range_with_len_more}
use Rattle.scene_file.specs.Generator.{next_state, drawn_state, draw_of, picks_of}
use Rattle.scene_file.proofs.DrawsFromState.{draw_is}
use Rattle.render_core.proofs.picks.picks_of.Goals as goal

state_more : (seed n : ℕ) → drawn_state seed (n + 1) ≡ next_state (drawn_state seed n)
unfolding drawn_state
state_more seed n = let more : n + 1 ≡ suc n = omega arith in ap (drawn_state seed) more

abbrev drawn : ℕ → ℕ → ℕ → List ℕ
drawn seed actors n = map (λ (k : ℕ). draw_of seed k % actors) (range_with_len 0 n)

all_drawn : (seed actors : ℕ) → drawn seed actors 4096 ≡ picks_of seed actors
unfolding picks_of
all_drawn seed actors = refl

no_draw : (seed : ℕ) → seed ≡ drawn_state seed 0
unfolding drawn_state
no_draw seed = refl

one_more : (seed actors n value state : ℕ) (items : List ℕ) → items ≡ drawn seed actors n → state ≡ drawn_state seed n
    → value ≡ next_state state / 2 ^ 40 % actors → items ++ (value ∷ []) ≡ drawn seed actors (n + 1)
one_more seed actors n value state items so_far state_is value_is =
    let last : value ≡ draw_of seed n % actors =
    value_is ∙ ap (λ (s : ℕ). next_state s / 2 ^ 40 % actors) state_is ∙ ap (λ (s : ℕ). s / 2 ^ 40 % actors) (sym (state_more seed n)) ∙ ap (λ (d : ℕ). d % actors) (sym (draw_is seed n)) in
    ap (λ (l : List ℕ). l ++ (value ∷ [])) so_far ∙ ap (λ (v : ℕ). drawn seed actors n ++ (v ∷ [])) last
    ∙ sym (map-range_with_len_more (λ (k : ℕ). draw_of seed k % actors) 0 n n (omega arith))

pub loop-init : goal.loop-init
loop-init c = record { drawn = c.in_ok-picks.ensures.items; state = no_draw c.args.seed }

pub loop-preserved : goal.loop-preserved
loop-preserved c = record {
  drawn = c.in_ok-push.ensures.items ∙ one_more c.args.seed c.args.actors c.loop.counter (c.next_state-state.result / 2 ^ 40 % c.args.actors) c.loop.state c.loop.picks.items
      c.loop.invariant.drawn c.loop.invariant.state (ap (λ (s : ℕ). s / 2 ^ 40 % c.args.actors) c.next_state-state.ensures);
  state = c.next_state-state.ensures ∙ ap next_state c.loop.invariant.state ∙ sym (state_more c.args.seed c.loop.counter);
}

pub returns : goal.returns
returns c =
    let most = c.loop.auto.counter-end in
    let least = c.loop-test.false in
    let all : c.loop.counter ≡ 4096 = omega (arith, most, least) in
    c.loop.invariant.drawn ∙ ap (drawn c.args.seed c.args.actors) all ∙ all_drawn c.args.seed c.args.actors
