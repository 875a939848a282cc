-- Scenes whose commands and frames are counted, and whose commands are stored where they are no more than may be.
use Rattle.std.specs.Prelude.{◌≡◌, ℕ, ◌==◌, ◌≤◌, ◌<◌, ◌^◌, min, Bool, List, [], ◌∷◌, length, map, sum_by, count_by, if◌then◌else◌}
use Rattle.rc_base.specs.declared.scene.Decl.{Decl}
use Rattle.rc_base.specs.Formats.Spelling.{CommandSet, SceneForm, SpellsSceneOf}
use Rattle.packet_bytes.specs.declared.packets.DecodedOf.{DecodedOf}
use Rattle.scene_file.specs.declared.reading.Counted.{Counted}
use Rattle.scene_file.specs.Faults.{IsFirstText}

-- the frames of some streams and of one more, which has so many Swaps
abbrev pub frames_with : ℕ → ℕ → ℕ → ℕ
frames_with before frames swaps = if before == 0 then swaps else min frames swaps

-- the least number of commands in a stream that show a frame
abbrev pub least_shown : {C : Type 0} → (C → Bool) → List (List C) → ℕ
least_shown shows [] = 0
least_shown shows (s ∷ []) = count_by shows s
least_shown shows (s ∷ (t ∷ ts)) = min (count_by shows s) (least_shown shows (t ∷ ts))

-- The bytes begin with a stream's length and its bytes, which spell commands. They and the Swaps among them were counted, and they were stored where
-- there was room for so many.
pub record DecodesFirst {C O : Type 0} (set : CommandSet C O) (shows : C → Bool) (bytes : List ℕ) (room : ℕ) (x : DecodedOf (List C)) (after : List ℕ) : Type 0 where
  pub all : List C
  pub first : IsFirstText set bytes all after
  pub counted : x.count ≡ length all
  pub swaps : x.swaps ≡ count_by shows all
  pub stored : x.count ≤ room → x.commands ≡ all
  pub few : x.count < 2 ^ 32

-- what was read, with the streams that are kept so
abbrev pub counted_as : {K C : Type 0} → (K → List C) → Counted K → Counted (List C)
counted_as of x = record { decl = x.decl; streams = map of x.streams; commands = x.commands; frames = x.frames }

-- What was read stands for a scene of this declaration and these streams: the declaration, as many streams, how many commands and frames they have,
-- and the commands where they are not too many.
pub record Counts {C : Type 0} (shows : C → Bool) (x : Counted (List C)) (d : Decl) (streams : List (List C)) : Type 0 where
  pub decl : x.decl ≡ d
  pub clients : length x.streams ≡ length streams
  pub counted : x.commands ≡ sum_by length streams
  pub frames : x.frames ≡ least_shown shows streams
  pub stored : x.commands ≤ 1048576 → x.streams ≡ streams

-- The bytes spell a scene, for which this stands.
pub record SpellsCounted {C O : Type 0} (form : SceneForm C O) (shows : C → Bool) (bytes : List ℕ) (x : Counted (List C)) : Type 0 where
  pub decl : Decl
  pub streams : List (List C)
  pub spells : SpellsSceneOf form bytes decl streams
  pub counts : Counts shows x decl streams
