-- A generated scene as it grows, round by round.
use Rattle.std.specs.Prelude.{ℕ, ◌+◌, ◌-◌, ◌*◌, ◌/◌, ◌%◌, ◌≤◌, ◌==◌, List, [], ◌∷◌, ◌++◌, map, pos, if◌then◌else◌}
use Rattle.std.specs.List.{flat_map, range_with_len}
use Rattle.rc_base.specs.Colors.{rgba}
use Rattle.rc_base.specs.declared.command.Command.{Command}
use Rattle.rc_base.specs.declared.command.Command.TheVariants as cmd
use Rattle.rc_base.specs.declared.command.Rgba.{Rgba}
use Rattle.rc_base.specs.Formats.Within.{IsWithin}
use Rattle.scene_file.specs.Generator.{draw_of, drawn_state, generated_clients, is_lone, lone_client, generated_triangle, generated_round, generated_scene}

-- how many triangles a client draws in a round
abbrev pub triangles_in : ℕ → ℕ → ℕ
triangles_in round client = if is_lone round then (if lone_client round == client then 1 else 0) else 1

-- what a client draws in a round, by the draws from a state on
abbrev pub drawing_from : ℕ → ℕ → ℕ → List Command
drawing_from state round client =
    if is_lone round then (if lone_client round == client then cmd.Disable 0 ∷ generated_triangle state 0 else [])
    else cmd.Enable 0 ∷ generated_triangle state 0

-- the state behind that
abbrev pub state_behind : ℕ → ℕ → ℕ → ℕ
state_behind state round client = drawn_state state (10 * triangles_in round client)

-- a colour of the first four draws from a state on
abbrev pub color_from : ℕ → Rgba
color_from state = rgba (draw_of state 0 % 256) (draw_of state 1 % 256) (draw_of state 2 % 256) (draw_of state 3 % 256)

-- blending by alpha, and the scissor box of the client's band
abbrev pub opening_of : ℕ → List Command
opening_of client = cmd.Enable 3 ∷ cmd.BlendFunc 6 7 ∷ cmd.Scissor (pos 0 ∷ pos (32 * client) ∷ pos 256 ∷ pos 32 ∷ []) ∷ []

-- a client's stream before a round
unfoldable pub stream_before : ℕ → ℕ → ℕ → List Command
stream_before seed round client = opening_of client ++ flat_map (generated_round seed client) (range_with_len 0 round)

-- how many of the first turns are a client's, who take them one after the other
abbrev pub turns_of : ℕ → ℕ → ℕ
turns_of turn client = (turn + 7 - client) / 8

-- the clients' streams behind so many turns
unfoldable pub streams_at : ℕ → ℕ → List (List Command)
streams_at seed turn = map (λ client. stream_before seed (turns_of turn client) client) (range_with_len 0 generated_clients)

-- a stream and its Swap
abbrev pub ended : List Command → List Command
ended stream = stream ++ cmd.Swap ∷ []

-- Each generated scene of at most 4096 rounds is within the limits.
abbrev pub GeneratedScenesAreWithin : Type 0
GeneratedScenesAreWithin = (seed size : ℕ) → size ≤ 4096 → IsWithin (generated_scene seed size)
