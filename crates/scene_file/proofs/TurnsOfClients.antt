-- The clients of a generated scene take turns, and each turn is a round of one client's stream.
use Rattle.std.proofs.Common.{◌≡◌, ◌≢◌, ℕ, ◌+◌, ◌*◌, ◌/◌, ◌%◌, ◌<◌, inl, inr, List, [], ◌∷◌, ◌++◌, length, map, get_or, refl, sym, ap, ◌∙◌, arith, lit<}
use Rattle.std.specs.Prelude.{◌==◌, if◌then◌else◌}
use Rattle.std.specs.List.{flat_map, range_with_len}
use Rattle.std.proofs.Math.ListN.{set, length-set}
use Rattle.std.proofs.lemmas.Bool.{cases_order}
use Rattle.std.proofs.lemmas.Bool.Decides.{nat_tests}
use Rattle.std.proofs.lemmas.List.{flat_map_more, get_or-set_same, get_or-set_other}
use Rattle.std.proofs.lemmas.List.FromFn.{length-map-range_with_len, get_or-map-range_with_len, fill_by_all}
use Rattle.scene_file.specs.Generator.{drawn_state, is_lone, lone_client, triangles_before, generated_round, generated_stream, generated_scene}
use Rattle.rc_base.specs.declared.command.Command.{Command}
use Rattle.rc_base.specs.declared.command.Command.TheVariants as cmd
use Rattle.plain_lemmas.proofs.Ranges.{range_more}
use Rattle.scene_file.specs.Generated.{triangles_in, drawing_from, opening_of, stream_before, turns_of, streams_at, ended}
use Rattle.scene_file.proofs.DrawsFromState.{state_later, triangle_later}

-- ---- a list by its index, of which one value is replaced

module _ {X : Type 0} (f g : ℕ → X) (n k : ℕ) (y : X) (xs : List X) (low : k < n) (is : xs ≡ map f (range_with_len 0 n)) (here : y ≡ g k)
    (others : (j : ℕ) → j < n → j ≢ k → f j ≡ g j) where
  long : length xs ≡ n
  long = ap length is ∙ length-map-range_with_len f 0 n

  each : (j : ℕ) → j < n → get_or (set xs k y) j y ≡ g j
  each j lt = elim (cases_order j k) [
    | inl same ↦ ap (λ (i : ℕ). get_or (set xs k y) i y) same ∙ get_or-set_same xs k y y (omega (arith, long)) ∙ here ∙ ap g (sym same)
    | inr differs ↦
        let ne : j ≢ k = elim differs [ inl a ↦ omega arith | inr b ↦ omega arith ] in
        get_or-set_other xs k j y y ne ∙ ap (λ (l : List X). get_or l j y) is ∙ get_or-map-range_with_len f 0 n j j y lt (omega arith) ∙ others j lt ne
  ]

  pub one_replaced : set xs k y ≡ map g (range_with_len 0 n)
  one_replaced = fill_by_all g (set xs k y) n y (length-set xs k y ∙ long) each

-- ---- a round

round_drawn : (seed state round client : ℕ) → state ≡ drawn_state seed (10 * triangles_before round client)
    → drawing_from state round client ++ cmd.Barrier 1 ∷ [] ≡ generated_round seed client round
round_drawn seed state round client is =
    ap (λ (t : List Command). (if is_lone round then (if lone_client round == client then cmd.Disable 0 ∷ t else []) else cmd.Enable 0 ∷ t) ++ cmd.Barrier 1 ∷ [])
    (triangle_later seed (10 * triangles_before round client) state is)

-- a round more
stream_more : (seed round client : ℕ) → stream_before seed (round + 1) client ≡ stream_before seed round client ++ generated_round seed client round
unfolding stream_before
stream_more seed round client =
    let rounds = generated_round seed client in
    let last : 0 + round ≡ round = omega arith in
    ap (λ (l : List ℕ). opening_of client ++ flat_map rounds l) (range_more 0 round ∙ ap (λ (r : ℕ). range_with_len 0 round ++ r ∷ []) last)
    ∙ sym (flat_map_more rounds (opening_of client) (range_with_len 0 round) round)

-- ---- a turn

triangles_of_client : (round client : ℕ) → triangles_before round client + triangles_in round client ≡ triangles_before round (client + 1)
triangles_of_client round client = grind (arith, nat_tests)

triangles_of_round : (round : ℕ) → triangles_before round 7 + triangles_in round 7 ≡ triangles_before (round + 1) 0
triangles_of_round round = grind (arith, nat_tests)

triangles_more : (turn : ℕ)
    → triangles_before (turn / 8) (turn % 8) + triangles_in (turn / 8) (turn % 8) ≡ triangles_before ((turn + 1) / 8) ((turn + 1) % 8)
triangles_more turn = elim (cases_order (turn % 8) 7) [
  | inl last ↦
      let round : turn / 8 + 1 ≡ (turn + 1) / 8 = omega arith in
      let first : 0 ≡ (turn + 1) % 8 = omega arith in
      ap (λ (client : ℕ). triangles_before (turn / 8) client + triangles_in (turn / 8) client) last ∙ triangles_of_round (turn / 8)
      ∙ (λ i. triangles_before (round i) (first i))
  | inr other ↦
      let low : turn % 8 < 7 = elim other [ inl a ↦ a | inr b ↦ omega arith ] in
      let round : turn / 8 ≡ (turn + 1) / 8 = omega arith in
      let next : turn % 8 + 1 ≡ (turn + 1) % 8 = omega arith in
      triangles_of_client (turn / 8) (turn % 8) ∙ (λ i. triangles_before (round i) (next i))
]

pub draws_more : (seed turn state after : ℕ) → state ≡ drawn_state seed (10 * triangles_before (turn / 8) (turn % 8))
    → after ≡ drawn_state state (10 * triangles_in (turn / 8) (turn % 8)) → after ≡ drawn_state seed (10 * triangles_before ((turn + 1) / 8) ((turn + 1) % 8))
draws_more seed turn state after is grown =
    grown ∙ state_later seed (10 * triangles_before (turn / 8) (turn % 8)) state is (10 * triangles_in (turn / 8) (turn % 8)) (10 * triangles_before ((turn + 1) / 8) ((turn + 1) % 8))
    (omega (arith, triangles_more turn))

pub first_turn : (seed : ℕ) → map opening_of (range_with_len 0 8) ≡ streams_at seed 0
unfolding stream_before streams_at
first_turn seed = refl

pub streams_more : (seed turn state : ℕ) (streams : List (List Command)) (old new : List Command)
    → state ≡ drawn_state seed (10 * triangles_before (turn / 8) (turn % 8)) → streams ≡ streams_at seed turn → old ≡ get_or streams (turn % 8) old
    → new ≡ old ++ (drawing_from state (turn / 8) (turn % 8) ++ cmd.Barrier 1 ∷ []) → set streams (turn % 8) new ≡ streams_at seed (turn + 1)
unfolding streams_at
streams_more seed turn state streams old new is before place grown =
    let client = turn % 8 in
    let round = turn / 8 in
    let low : turn % 8 < 8 = omega arith in
    let now : turns_of turn (turn % 8) ≡ turn / 8 = omega arith in
    let next : turn / 8 + 1 ≡ turns_of (turn + 1) (turn % 8) = omega arith in
    let stood : old ≡ stream_before seed round client =
    place ∙ ap (λ (l : List (List Command)). get_or l client old) before
    ∙ get_or-map-range_with_len (λ (c : ℕ). stream_before seed (turns_of turn c) c) 0 8 client client old low (omega arith)
    ∙ ap (λ (r : ℕ). stream_before seed r client) now in
    let here : new ≡ stream_before seed (turns_of (turn + 1) client) client =
    grown ∙ ap (λ (l : List Command). l ++ (drawing_from state round client ++ cmd.Barrier 1 ∷ [])) stood
    ∙ ap (λ (l : List Command). stream_before seed round client ++ l) (round_drawn seed state round client is)
    ∙ sym (stream_more seed round client) ∙ ap (λ (r : ℕ). stream_before seed r client) next in
    one_replaced (λ (c : ℕ). stream_before seed (turns_of turn c) c) (λ (c : ℕ). stream_before seed (turns_of (turn + 1) c) c) 8 client new streams low before here
    (λ j lt ne. let same : turns_of turn j ≡ turns_of (turn + 1) j = omega arith in ap (λ (r : ℕ). stream_before seed r j) same)

-- behind the last turn, with the Swaps
pub all_turns : (seed size : ℕ) → map ended (streams_at seed (8 * size)) ≡ map (generated_stream seed size) (range_with_len 0 8)
unfolding stream_before streams_at
all_turns seed size =
    let same : (c : ℕ) → c < 8 → turns_of (8 * size) c ≡ size = λ c lt. omega arith in
    let at = λ (r : ℕ) (c : ℕ). ended (stream_before seed r c) in
    λ i. at (same 0 (lit< tt) i) 0 ∷ at (same 1 (lit< tt) i) 1 ∷ at (same 2 (lit< tt) i) 2 ∷ at (same 3 (lit< tt) i) 3
    ∷ at (same 4 (lit< tt) i) 4 ∷ at (same 5 (lit< tt) i) 5 ∷ at (same 6 (lit< tt) i) 6 ∷ at (same 7 (lit< tt) i) 7 ∷ []

pub scene_is : (seed size : ℕ) (shared : List (List ℕ)) (barriers semaphores : List ℕ) (streams : List (List Command)) → shared ≡ [] → barriers ≡ 8 ∷ []
    → semaphores ≡ [] → streams ≡ map ended (streams_at seed (8 * size)) → record {
      decl = record { version = 1; width = 256; height = 256; shared = shared; barriers = barriers; semaphores = semaphores };
      streams = streams;
    } ≡ generated_scene seed size
unfolding generated_scene
scene_is seed size shared barriers semaphores streams no_shared one_barrier no_semaphores is =
    let all = is ∙ all_turns seed size in
    λ i. record {
      decl = record { version = 1; width = 256; height = 256; shared = no_shared i; barriers = one_barrier i; semaphores = no_semaphores i };
      streams = all i;
    }
