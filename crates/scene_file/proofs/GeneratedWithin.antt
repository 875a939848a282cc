-- Generated scenes are within the limits, and their commands' fields in their ranges.
use Rattle.std.proofs.Common.{◌≡◌, ℕ, zero, suc, ◌+◌, ◌*◌, ◌%◌, ◌<◌, ◌≤◌, Bool, true, false, cond, List, [], ◌∷◌, ◌++◌, length, map, None, refl, ◌∙◌, arith, length-append, le-leb, lit<, lit≤, Some}
use Rattle.std.specs.Prelude.{not, ◌&&◌, pos, ◌-ℤ◌, ◌==◌, FitsSigned, if◌then◌else◌}
use Rattle.std.specs.Int.{w32}
use Rattle.std.specs.List.{flat_map, range_with_len, AllByRecursion}
use Rattle.std.proofs.lemmas.Int.{ints}
use Rattle.std.proofs.lemmas.List.Sums.{sum_by-append, sum_by-cons}
use Rattle.std.proofs.lemmas.List.FromFn.{length-map-range_with_len}
use Rattle.rc_base.specs.Formats.Commands.{IsCommand}
use Rattle.rc_base.specs.Formats.Limits.{Quantity, quantity, first_outside, is_swap_command, swaps_in, least_swaps, commands_in, limit_of}
use Rattle.rc_base.specs.Formats.Within.{IsWithin}
use Rattle.scene_file.specs.Generator.{draw_of, is_lone, lone_client, triangles_before, generated_vertex, generated_triangle, generated_round, generated_stream, generated_scene}
use Rattle.rc_base.specs.declared.command.Command.{Command}
use Rattle.rc_base.specs.declared.command.Command.TheVariants as cmd
use Rattle.plain_lemmas.proofs.Lists.{all_append}

-- ---- lists by parts

module _ {A : Type 0} (f : ℕ → List A) where
  joined_all : (P : A → Type 0) → ((n : ℕ) → AllByRecursion P (f n)) → (a n : ℕ) → AllByRecursion P (flat_map f (range_with_len a n))
  joined_all P each a zero = tt
  joined_all P each a (suc n) = all_append P (f a) (flat_map f (range_with_len (a + 1) n)) (each a) (joined_all P each (a + 1) n)

  joined_length : (most : ℕ) → ((n : ℕ) → length (f n) ≤ most) → (a n : ℕ) → length (flat_map f (range_with_len a n)) ≤ most * n
  joined_length most each a zero = omega arith
  joined_length most each a (suc n) =
      omega (arith, length-append (f a) (flat_map f (range_with_len (a + 1) n)), each a, joined_length most each (a + 1) n)

swaps_append : (xs ys : List Command) → swaps_in (xs ++ ys) ≡ swaps_in xs + swaps_in ys
swaps_append xs ys = sum_by-append (λ c. cond (is_swap_command c) 1 0) xs ys

module _ (f : ℕ → List Command) where
  joined_swaps : ((n : ℕ) → swaps_in (f n) ≡ 0) → (a n : ℕ) → swaps_in (flat_map f (range_with_len a n)) ≡ 0
  joined_swaps each a zero = refl
  joined_swaps each a (suc n) = swaps_append (f a) (flat_map f (range_with_len (a + 1) n)) ∙ omega (arith, each a, joined_swaps each (a + 1) n)

  listed_all : (P : Command → Type 0) (a n : ℕ) → ((k : ℕ) → k < a + n → AllByRecursion P (f k)) → AllByRecursion (AllByRecursion P) (map f (range_with_len a n))
  listed_all P a zero each = tt
  listed_all P a (suc n) each = (each a (omega arith), listed_all P (a + 1) n (λ k lt. each k (omega arith)))

  listed_commands : (most : ℕ) → ((n : ℕ) → length (f n) ≤ most) → (a n : ℕ) → commands_in (map f (range_with_len a n)) ≤ most * n
  listed_commands most each a zero = omega arith
  listed_commands most each a (suc n) =
      let more : commands_in (map f (range_with_len a (suc n))) ≡ length (f a) + commands_in (map f (range_with_len (a + 1) n)) =
      sum_by-cons length (f a) (map f (range_with_len (a + 1) n)) in
      omega (arith, more, each a, listed_commands most each (a + 1) n)

  listed_swaps : ((n : ℕ) → swaps_in (f n) ≡ 1) → (a n : ℕ) → least_swaps (map f (range_with_len a (suc n))) ≡ 1
  listed_swaps each a zero = each a
  listed_swaps each a (suc n) = omega (arith, each a, listed_swaps each (a + 1) n)

-- ---- a round, whether alone or not, about a triangle

abbrev round_of : Bool → Bool → List Command → List Command
round_of lone own t = (if lone then (if own then cmd.Disable 0 ∷ t else []) else cmd.Enable 0 ∷ t) ++ cmd.Barrier 1 ∷ []

round_all : (lone own : Bool) (t : List Command) → AllByRecursion IsCommand t → AllByRecursion IsCommand (round_of lone own t)
round_all true true t h = ((lit< tt, tt), all_append IsCommand t (cmd.Barrier 1 ∷ []) h ((lit< tt, tt), tt))
round_all true false t h = ((lit< tt, tt), tt)
round_all false own t h = ((lit< tt, tt), all_append IsCommand t (cmd.Barrier 1 ∷ []) h ((lit< tt, tt), tt))

round_length : (lone own : Bool) (t : List Command) → length t ≤ 6 → length (round_of lone own t) ≤ 8
round_length true true t h = omega (arith, length-append t (cmd.Barrier 1 ∷ []))
round_length true false t h = omega arith
round_length false own t h = omega (arith, length-append t (cmd.Barrier 1 ∷ []))

round_swaps : (lone own : Bool) (t : List Command) → swaps_in t ≡ 0 → swaps_in (round_of lone own t) ≡ 0
round_swaps true true t h = omega (arith, swaps_append t (cmd.Barrier 1 ∷ []))
round_swaps true false t h = refl
round_swaps false own t h = omega (arith, swaps_append t (cmd.Barrier 1 ∷ []))

-- ---- a triangle

is_byte : (d : ℕ) → d % 256 < 256
is_byte d = omega arith

is_coordinate : (d : ℕ) → FitsSigned w32 (pos (d % 131073) -ℤ pos 65536)
is_coordinate d = omega (arith, ints)

is_word : (n : ℕ) → n < 2147483648 → FitsSigned w32 (pos n)
is_word n lt = omega (arith, ints)

is_vertex : (seed n : ℕ) → IsCommand (generated_vertex seed n)
is_vertex seed n = ((refl, (is_coordinate (draw_of seed n), (is_coordinate (draw_of seed (n + 1)), (is_word 0 (lit< tt), (is_word 65536 (lit< tt), tt))))), tt)

triangle_all : (seed n : ℕ) → AllByRecursion IsCommand (generated_triangle seed n)
triangle_all seed n = (
  (is_byte (draw_of seed n), (is_byte (draw_of seed (n + 1)), (is_byte (draw_of seed (n + 2)), (is_byte (draw_of seed (n + 3)), tt)))),
  ((lit< tt, tt), (is_vertex seed (n + 4), (is_vertex seed (n + 6), (is_vertex seed (n + 8), (tt, tt))))),
)

-- ---- a stream, and the scene

module _ (seed size client : ℕ) where
  abbrev rounds : List Command
  rounds = flat_map (generated_round seed client) (range_with_len 0 size)

  stream_all : client < 8 → AllByRecursion IsCommand (generated_stream seed size client)
  stream_all lt =
      let low : 32 * client < 2147483648 = omega arith in (
        (lit< tt, tt),
        (
          (lit< tt, (lit< tt, tt)),
          (
            ((refl, (is_word 0 (lit< tt), (is_word (32 * client) low, (is_word 256 (lit< tt), (is_word 32 (lit< tt), tt))))), tt),
            all_append IsCommand rounds (cmd.Swap ∷ [])
                (joined_all (generated_round seed client) IsCommand (λ round. round_all (is_lone round) (lone_client round == client) (generated_triangle seed (10 * triangles_before round client)) (triangle_all seed (10 * triangles_before round client))) 0 size)
                (tt, tt),
          ),
        ),
      )

  stream_length : length (generated_stream seed size client) ≤ 4 + 8 * size
  stream_length =
      omega (
        arith,
        length-append rounds (cmd.Swap ∷ []),
        joined_length (generated_round seed client) 8 (λ round. round_length (is_lone round) (lone_client round == client) (generated_triangle seed (10 * triangles_before round client)) (lit≤ tt)) 0 size,
      )

  stream_swaps : swaps_in (generated_stream seed size client) ≡ 1
  stream_swaps =
      omega (
        arith,
        swaps_append rounds (cmd.Swap ∷ []),
        joined_swaps (generated_round seed client) (λ round. round_swaps (is_lone round) (lone_client round == client) (generated_triangle seed (10 * triangles_before round client)) refl) 0 size,
      )

abbrev table : ℕ → ℕ → ℕ → List Quantity
table clients commands frames =
    quantity 2 256 1 2048 ∷ quantity 3 256 1 2048 ∷ quantity 4 clients 1 8 ∷ quantity 5 0 0 16 ∷ quantity 7 0 0 1048576 ∷ quantity 8 1 0 64
    ∷ quantity 9 8 1 8 ∷ quantity 10 0 0 64 ∷ quantity 11 commands 0 1048576 ∷ quantity 12 frames 0 1048576
    ∷ quantity 13 (frames * (256 * 256)) 0 2147483648 ∷ []

table_fits : (commands : ℕ) → commands ≤ 1048576 → first_outside (table 8 commands 1) ≡ None
table_fits commands few =
    let low = le-leb 0 commands (omega arith) in
    let high = le-leb commands 1048576 few in
    λ i. if not (low i && high i) then Some (record { what = 11; value = commands }) else None

within_table : (streams : List (List Command)) → length streams ≡ 8 → commands_in streams ≤ 1048576 → least_swaps streams ≡ 1 → limit_of (record {
  decl = record { version = 1; width = 256; height = 256; shared = []; barriers = 8 ∷ []; semaphores = [] };
  streams = streams;
}) ≡ None
unfolding limit_of
within_table streams clients few frames = (λ i. first_outside (table (clients i) (commands_in streams) (frames i))) ∙ table_fits (commands_in streams) few

pub generated_within : (seed size : ℕ) → size ≤ 4096 → IsWithin (generated_scene seed size)
unfolding generated_scene
generated_within seed size most =
    let stream = generated_stream seed size in
    record {
      limits = within_table (map stream (range_with_len 0 8)) (length-map-range_with_len stream 0 8)
          (omega (arith, listed_commands stream (4 + 8 * size) (stream_length seed size) 0 8)) (listed_swaps stream (stream_swaps seed size) 0 7);
      commands = listed_all stream IsCommand 0 8 (λ client lt. stream_all seed size client lt);
      sizes = tt;
    }
