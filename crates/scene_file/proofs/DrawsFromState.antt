-- Draws from a later state are draws of the seed.
use Rattle.std.proofs.Common.{◌≡◌, ℕ, zero, suc, ◌+◌, ◌/◌, ◌%◌, ◌^◌, List, [], ◌∷◌, ◌++◌, refl, sym, ap, ◌∙◌, arith, append_assoc}
use Rattle.std.specs.Prelude.{pos, ◌-ℤ◌}
use Rattle.rc_base.specs.Colors.{rgba}
use Rattle.scene_file.specs.Generator.{next_state, drawn_state, draw_of, coordinate_of, generated_vertex, generated_triangle}
use Rattle.rc_base.specs.declared.command.Command.TheVariants as cmd

pub state_none : (seed : ℕ) → drawn_state seed 0 ≡ seed
unfolding drawn_state
state_none seed = refl

state_after : (seed m n : ℕ) → drawn_state (drawn_state seed m) n ≡ drawn_state seed (m + n)
unfolding drawn_state
state_after seed m zero = let none : m ≡ m + 0 = omega arith in ap (drawn_state seed) none
state_after seed m (suc n) = let more : suc (m + n) ≡ m + suc n = omega arith in ap next_state (state_after seed m n) ∙ ap (drawn_state seed) more

pub draw_is : (seed n : ℕ) → draw_of seed n ≡ drawn_state seed (n + 1) / 2 ^ 40
unfolding draw_of
draw_is seed n = refl

-- a state behind so many draws of a seed
module _ (seed m state : ℕ) (is : state ≡ drawn_state seed m) where
  pub state_later : (n k : ℕ) → m + n ≡ k → drawn_state state n ≡ drawn_state seed k
  state_later n k e = ap (λ (s : ℕ). drawn_state s n) is ∙ state_after seed m n ∙ ap (drawn_state seed) e

  pub draw_later : (n k : ℕ) → m + n ≡ k → draw_of state n ≡ draw_of seed k
  draw_later n k e =
      let more : m + (n + 1) ≡ k + 1 = omega arith in
      draw_is state n ∙ ap (λ (s : ℕ). s / 2 ^ 40) (state_later (n + 1) (k + 1) more) ∙ sym (draw_is seed k)

  pub channel_later : (n k : ℕ) → m + n ≡ k → draw_of state n % 256 ≡ draw_of seed k % 256
  channel_later n k e = ap (λ (d : ℕ). d % 256) (draw_later n k e)

  pub coordinate_later : (n k : ℕ) → m + n ≡ k → coordinate_of state n ≡ coordinate_of seed k
  coordinate_later n k e = ap (λ (d : ℕ). pos (d % 131073) -ℤ pos 65536) (draw_later n k e)

  pub vertex_later : (n k : ℕ) → m + n ≡ k → generated_vertex state n ≡ generated_vertex seed k
  vertex_later n k e =
      let x = coordinate_later n k e in
      let y = coordinate_later (n + 1) (k + 1) (omega arith) in
      λ i. cmd.Vertex (x i ∷ y i ∷ pos 0 ∷ pos 65536 ∷ [])

  pub triangle_later : generated_triangle state 0 ≡ generated_triangle seed m
  triangle_later =
      let r = channel_later 0 m (omega arith) in
      let g = channel_later 1 (m + 1) refl in
      let b = channel_later 2 (m + 2) refl in
      let a = channel_later 3 (m + 3) refl in
      let u = vertex_later 4 (m + 4) refl in
      let v = vertex_later 6 (m + 6) refl in
      let w = vertex_later 8 (m + 8) refl in
      λ i. cmd.Color (rgba (r i) (g i) (b i) (a i)) ∷ cmd.Begin 0 ∷ u i ∷ v i ∷ w i ∷ cmd.End ∷ []

-- six values that are added one by one
pub six_added : {A : Type 0} (old : List A) (a b c d e f : A)
    → (((((old ++ a ∷ []) ++ b ∷ []) ++ c ∷ []) ++ d ∷ []) ++ e ∷ []) ++ f ∷ [] ≡ old ++ (a ∷ b ∷ c ∷ d ∷ e ∷ f ∷ [])
six_added old a b c d e f = simp append_assoc
