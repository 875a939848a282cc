-- Judging the quantities of a scene part by part.
use Rattle.std.specs.Prelude.{◌≡◌, ℕ, ◌*◌, ◌≤◌, List, [], ◌∷◌, length, map, sum_by, Option, Some, None, Result, MatchResult}
use Rattle.std.specs.List.{flat_map}
use Rattle.rc_base.specs.declared.scene.Decl.{Decl}
use Rattle.rc_base.specs.declared.scene.Limit.{Limit}
use Rattle.rc_base.specs.Formats.Limits.{Quantity, first_outside, size_area, side, barrier_count}

-- it says that no quantity is outside its range, or which one is the first
abbrev pub Tells : Result (Unit {0}) Limit → Option Limit → Type 0
Tells result limit = MatchResult result (λ _. limit ≡ None) (λ l. limit ≡ Some l)

-- a window is no larger than that of a scene may be
pub record IsWindowWithin (decl : Decl) : Type 0 where
  pub width : decl.width ≤ 2048
  pub height : decl.height ≤ 2048

abbrev pub window_part : Decl → ℕ → List Quantity
window_part d clients =
    record { what = 2; value = d.width; least = 1; most = 2048 } ∷ record { what = 3; value = d.height; least = 1; most = 2048 }
    ∷ record { what = 4; value = clients; least = 1; most = 8 } ∷ record { what = 5; value = length d.shared; least = 0; most = 16 } ∷ []

-- what the first part found, or else what the second did
abbrev pub or_else : Option Limit → Option Limit → Option Limit
or_else None later = later
or_else (Some l) later = Some l

abbrev pub one : ℕ → ℕ → ℕ → List Quantity
one what value most = record { what = what; value = value; least = 0; most = most } ∷ []

abbrev pub judge_counts : Decl → Option Limit
judge_counts d =
    or_else (first_outside (map side (flat_map (λ size. size) d.shared)))
    (or_else (first_outside (one 7 (sum_by size_area d.shared) 1048576))
    (or_else (first_outside (one 8 (length d.barriers) 64))
    (or_else (first_outside (map barrier_count d.barriers)) (first_outside (one 10 (length d.semaphores) 64)))))

-- what is judged before the commands
abbrev pub judge_decl : Decl → ℕ → Option Limit
judge_decl d clients = or_else (first_outside (window_part d clients)) (judge_counts d)

-- the commands and the frames, so many in all
abbrev pub stream_part : Decl → ℕ → ℕ → List Quantity
stream_part d commands frames =
    record { what = 11; value = commands; least = 0; most = 1048576 }
    ∷ record { what = 12; value = frames; least = 0; most = 1048576 }
    ∷ record { what = 13; value = frames * (d.width * d.height); least = 0; most = 2147483648 } ∷ []

-- the parts in the order of the table, of so many clients with so many commands and frames
abbrev pub judge_parts : Decl → ℕ → ℕ → ℕ → Option Limit
judge_parts d clients commands frames = or_else (judge_decl d clients) (first_outside (stream_part d commands frames))
