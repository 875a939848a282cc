-- The lines of the notes.
use Rattle.std.specs.Prelude.{ℕ, List, [], ◌∷◌, ◌++◌, codes, length, slice_index_or}
use Rattle.std.specs.List.{flat_map, range_with_len}
use Rattle.std.specs.Fmt.{decimal}
use Rattle.rc_base.specs.Formats.Limits.{limit_name}
use Rattle.rc_base.specs.declared.scene.SceneKind.{SceneKind}
use Rattle.rc_base.specs.declared.scene.SceneKind.TheVariants as scene_kind
use Rattle.rc_base.specs.declared.scene.TextKind.{TextKind}
use Rattle.rc_base.specs.declared.scene.TextKind.TheVariants as text_kind
use Rattle.rc_base.specs.declared.sync.Name.{Name}
use Rattle.rc_base.specs.declared.state.Fault.{Fault}
use Rattle.order_model.specs.Report.{joined_line, list_fault_line}
use Rattle.race_check.specs.declared.verdict.Spot.{Spot}
use Rattle.race_check.specs.declared.verdict.Spot.TheVariants.{Pixel, Shared}
use Rattle.race_check.specs.declared.verdict.Verdict.{Verdict}
use Rattle.race_check.specs.declared.verdict.Verdict.TheVariants.{Ordered, Race}

-- what bytes have that spell no scene
abbrev pub scene_kind_name : SceneKind → List ℕ
scene_kind_name scene_kind.BadMagic = codes "BadMagic"
scene_kind_name scene_kind.BadCount = codes "BadCount"
scene_kind_name scene_kind.UnknownOpcode = codes "UnknownOpcode"
scene_kind_name scene_kind.Truncated = codes "Truncated"
scene_kind_name scene_kind.Trailing = codes "Trailing"

-- what a text has that spells no scene
abbrev pub text_kind_name : TextKind → List ℕ
text_kind_name text_kind.NotText = codes "NotText"
text_kind_name text_kind.UnknownWord = codes "UnknownWord"
text_kind_name text_kind.OutOfPlace = codes "OutOfPlace"
text_kind_name text_kind.WrongCount = codes "WrongCount"
text_kind_name text_kind.BadNumber = codes "BadNumber"
text_kind_name text_kind.BadHex = codes "BadHex"
text_kind_name text_kind.NoScene = codes "NoScene"

-- a fault of the input, and the byte from 0 or the line from 1 at which it stands
unfoldable pub malformed_line : List ℕ → ℕ → List ℕ
malformed_line kind at = codes "rc: malformed " ++ (kind ++ (codes " at " ++ (decimal at ++ codes "\n")))

-- a quantity that is outside its range, by its number, and its value
unfoldable pub limit_line : ℕ → ℕ → List ℕ
limit_line what value = codes "rc: limit " ++ (limit_name what ++ (codes " " ++ (decimal value ++ codes "\n")))

-- the first command that keeps a scene's clients from being drawn apart, by its client and its place
unfoldable pub not_last_line : Name → List ℕ
not_last_line name = codes "rc: not for last " ++ (decimal name.client ++ (codes " " ++ (decimal name.place ++ codes "\n")))

-- how many bytes the image took before it failed
unfoldable pub image_fault_line : ℕ → List ℕ
image_fault_line done = codes "rc: image fault after " ++ (decimal done ++ codes " bytes\n")

-- each client's commands that are refused among its call lists
abbrev pub list_fault_lines : List (List (ℕ × Fault)) → List ℕ
list_fault_lines faults = flat_map (λ client. flat_map (list_fault_line client) (slice_index_or faults client [])) (range_with_len 0 (length faults))

-- a filter that counts, by its place from 0, and its number
abbrev pub filter_line : (ℕ × ℕ) → List ℕ
filter_line count = joined_line (codes "filter " ∷ decimal count.0 ∷ codes " count " ∷ decimal count.1 ∷ [])

abbrev pub filter_lines : List (ℕ × ℕ) → List ℕ
filter_lines counts = flat_map filter_line counts

-- the words are no job
unfoldable pub usage_line : List ℕ
usage_line = codes "rc: usage\n"

-- the source failed
unfoldable pub read_fault_line : List ℕ
read_fault_line = codes "rc: read fault\n"

-- there was no memory
unfoldable pub memory_line : List ℕ
memory_line = codes "rc: out of memory\n"

-- where two commands touch the same
abbrev pub spot_text : Spot → List ℕ
spot_text (Pixel x y) = codes "pixel " ++ (decimal x ++ (codes " " ++ decimal y))
spot_text (Shared texture) = codes "shared " ++ decimal texture

-- the two commands that race, by their clients and their places, and where
abbrev pub race_line : Verdict → List ℕ
race_line Ordered = codes "race none\n"
race_line (Race first second spot) = joined_line
    (codes "race " ∷ decimal first.client ∷ codes " " ∷ decimal first.place ∷ codes " " ∷ decimal second.client ∷ codes " " ∷ decimal second.place
    ∷ codes " " ∷ spot_text spot ∷ [])
