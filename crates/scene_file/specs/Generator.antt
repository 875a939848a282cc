-- The numbers of a seed, the schedule that they give, and the scene that they give.
use Rattle.std.specs.Prelude.{ℕ, zero, suc, ◌+◌, ◌-◌, ◌*◌, ◌/◌, ◌%◌, ◌^◌, ◌==◌, nat_lt, Bool, List, [], ◌∷◌, ◌++◌, map, ℤ, pos, ◌-ℤ◌, if◌then◌else◌}
use Rattle.std.specs.List.{flat_map, range_with_len}
use Rattle.rc_base.specs.Colors.{rgba}
use Rattle.rc_base.specs.Numbers.{fixed_one}
use Rattle.rc_base.specs.declared.command.Command.{Command}
use Rattle.rc_base.specs.declared.command.Command.TheVariants as cmd
use Rattle.rc_base.specs.declared.scene.Scene.{Scene}

-- ---- draws: a linear congruence modulo 2^64, of which the high 24 bits are taken

abbrev pub next_state : ℕ → ℕ
next_state x = (x * 6364136223846793005 + 1442695040888963407) % 2 ^ 64

-- the state after n draws
unfoldable pub drawn_state : ℕ → ℕ → ℕ
drawn_state seed zero = seed
drawn_state seed (suc n) = next_state (drawn_state seed n)

-- draw n of a seed, from 0
unfoldable pub draw_of : ℕ → ℕ → ℕ
draw_of seed n = drawn_state seed (n + 1) / 2 ^ 40

-- ---- a schedule

abbrev pub pick_count : ℕ
pick_count = 4096

-- the actors that are picked one after the other
unfoldable pub picks_of : ℕ → ℕ → List ℕ
picks_of seed actors = map (λ n. draw_of seed n % actors) (range_with_len 0 pick_count)

-- ---- a scene of eight clients, who draw in bands of their own or one at a time, and meet after each round

abbrev pub generated_clients : ℕ
generated_clients = 8

-- in each fourth round one client draws alone, over the whole window
abbrev pub is_lone : ℕ → Bool
is_lone round = round % 4 == 3

-- which client that is
abbrev pub lone_client : ℕ → ℕ
lone_client round = round / 4 % generated_clients

-- how many triangles come before a client's in a round: the rounds before have eight each, or one
abbrev pub triangles_before : ℕ → ℕ → ℕ
triangles_before round client =
    generated_clients * (round - round / 4) + round / 4
    + (if is_lone round then (if nat_lt (lone_client round) client then 1 else 0) else client)

-- a coordinate from -1 to 1 in 16.16
abbrev pub coordinate_of : ℕ → ℕ → ℤ
coordinate_of seed n = pos (draw_of seed n % (2 * fixed_one + 1)) -ℤ pos fixed_one

abbrev pub generated_vertex : ℕ → ℕ → Command
generated_vertex seed n = cmd.Vertex (coordinate_of seed n ∷ coordinate_of seed (n + 1) ∷ pos 0 ∷ pos fixed_one ∷ [])

-- the triangle of ten draws from draw n on: a colour, and x and y of three vertices
abbrev pub generated_triangle : ℕ → ℕ → List Command
generated_triangle seed n =
    cmd.Color (rgba (draw_of seed n % 256) (draw_of seed (n + 1) % 256) (draw_of seed (n + 2) % 256) (draw_of seed (n + 3) % 256))
    ∷ cmd.Begin 0 ∷ generated_vertex seed (n + 4) ∷ generated_vertex seed (n + 6) ∷ generated_vertex seed (n + 8) ∷ cmd.End ∷ []

-- a client's commands of a round: in its own band with the scissor test, or alone without it, and then the barrier
abbrev pub generated_round : ℕ → ℕ → ℕ → List Command
generated_round seed client round =
    let triangle = generated_triangle seed (10 * triangles_before round client) in
    (if is_lone round then (if lone_client round == client then cmd.Disable 0 ∷ triangle else []) else cmd.Enable 0 ∷ triangle)
    ++ cmd.Barrier 1 ∷ []

-- blending by alpha, a scissor box of 32 rows, the rounds, and a swap
abbrev pub generated_stream : ℕ → ℕ → ℕ → List Command
generated_stream seed size client =
    cmd.Enable 3 ∷ cmd.BlendFunc 6 7 ∷ cmd.Scissor (pos 0 ∷ pos (32 * client) ∷ pos 256 ∷ pos 32 ∷ [])
    ∷ (flat_map (generated_round seed client) (range_with_len 0 size) ++ cmd.Swap ∷ [])

-- the scene of a seed and a number of rounds
unfoldable pub generated_scene : ℕ → ℕ → Scene
generated_scene seed size = record {
  decl = record { version = 1; width = 256; height = 256; shared = []; barriers = generated_clients ∷ []; semaphores = [] };
  streams = map (generated_stream seed size) (range_with_len 0 generated_clients);
}
