-- What is wrong with bytes that spell no scene, and at which place: the first fault from the left.
use Rattle.std.specs.Prelude.{◌≡◌, ℕ, suc, ◌+◌, ◌<◌, ◌^◌, ◌⊎◌, List, [], ◌∷◌, ◌++◌, length, Option, Some, None, Result, Ok, Err, IfOk, IfErr}
use Rattle.std.specs.List.{flat_map, AllByRecursion}
use Rattle.rc_base.specs.declared.scene.Decl.{Decl}
use Rattle.rc_base.specs.declared.scene.Scene.{Scene}
use Rattle.rc_base.specs.declared.scene.Limit.{Limit}
use Rattle.rc_base.specs.declared.scene.SceneKind.{SceneKind}
use Rattle.rc_base.specs.declared.scene.SceneKind.TheVariants.{BadMagic, BadCount, UnknownOpcode, Truncated, Trailing}
use Rattle.rc_base.specs.Formats.Spelling.{CommandSet, SceneForm, plain_form, list_form, header_of, IsDecl, IsDeclOf, stream_text, SpellStreamsOf, SpellsStreamOf, SpellsSceneOf, SpellsScene}
use Rattle.rc_base.specs.Formats.Commands.{IsCommand}
use Rattle.rc_base.specs.Formats.Limits.{limit_of, read_limit}
use Rattle.rc_base.specs.Formats.Within.{IsWithin}
use Rattle.packet_bytes.specs.declared.fault.PackFault.{PackFault}
use Rattle.packet_bytes.specs.declared.fault.PackFault.TheVariants as faults
use Rattle.packet_bytes.specs.Faults.{FailsAsStreamOf}
use Rattle.scene_file.specs.declared.fault.Broken.{Broken}
use Rattle.scene_file.specs.declared.fault.Broken.TheVariants as broken
use Rattle.scene_file.specs.declared.fault.SceneFault.{SceneFault}
use Rattle.scene_file.specs.declared.fault.SceneFault.TheVariants as scene_faults
use Rattle.scene_file.specs.declared.list_scene.ListScene.{ListScene}
use Rattle.scene_file.specs.Letters.{Letters, plain_letters, list_letters}

-- The bytes begin as the letters do, and then comes another byte than theirs, at this place.
pub record Differs (letters bytes : List ℕ) (at : ℕ) : Type 0 where
  pub front : List ℕ
  pub letter : ℕ
  pub others : List ℕ
  pub byte : ℕ
  pub rest : List ℕ
  pub letters_are : letters ≡ front ++ letter ∷ others
  pub parts : bytes ≡ front ++ byte ∷ rest
  pub differs : byte ≡ letter → ⊥
  pub place : at ≡ length front

-- The same of several: the bytes begin as they all do up to this place, and there none of them goes on.
abbrev pub DiffersFromAll : List (List ℕ) → List ℕ → ℕ → Type 0
DiffersFromAll [] bytes at = Unit {0}
DiffersFromAll (letters ∷ []) bytes at = Differs letters bytes at
DiffersFromAll (letters ∷ (others ∷ more)) bytes at = Differs letters bytes at × DiffersFromAll (others ∷ more) bytes at

-- a part of a list, and not the whole
pub record IsProperPrefix (whole bytes : List ℕ) : Type 0 where
  pub more : List ℕ
  pub parts : bytes ++ more ≡ whole
  pub some : 0 < length more

-- a part of a header
pub record IsCutHeader {C O : Type 0} (form : SceneForm C O) (bytes : List ℕ) : Type 0 where
  pub decl : Decl
  pub clients : ℕ
  pub is_decl : IsDeclOf form decl
  pub few : clients < 256
  pub is_part : IsProperPrefix (header_of form decl clients) bytes

-- a part of a stream's length and of as many bytes as it says
pub record IsCutText (bytes : List ℕ) : Type 0 where
  pub text : List ℕ
  pub fits : length text < 2 ^ 32
  pub is_part : IsProperPrefix (stream_text text) bytes

-- The bytes begin with a stream's length and its bytes, which spell these commands.
pub record IsFirstText {C O : Type 0} (set : CommandSet C O) (bytes : List ℕ) (commands : List C) (after : List ℕ) : Type 0 where
  pub text : List ℕ
  pub fits : length text < 2 ^ 32
  pub spells : SpellsStreamOf set text commands
  pub parts : bytes ≡ stream_text text ++ after

-- The bytes are a header, some whole streams, and then the rest. So many streams are still to come.
pub record HasFront {C O : Type 0} (form : SceneForm C O) (bytes rest : List ℕ) (others : ℕ) : Type 0 where
  pub decl : Decl
  pub texts : List (List ℕ)
  pub streams : List (List C)
  pub is_decl : IsDeclOf form decl
  pub each : SpellStreamsOf form.set texts streams
  pub few : length streams + others < 256
  pub parts : bytes ≡ header_of form decl (length streams + others) ++ (flat_map stream_text texts ++ rest)

-- The bytes begin with a stream whose own bytes are all there, and among them is this fault. So many bytes stand from the fault on.
pub record HasStreamFault {C O : Type 0} (set : CommandSet C O) (bytes : List ℕ) (fault : ℕ → PackFault) (left : ℕ) : Type 0 where
  pub text : List ℕ
  pub after : List ℕ
  pub inner : ℕ
  pub fits : length text < 2 ^ 32
  pub parts : bytes ≡ stream_text text ++ after
  pub fails : FailsAsStreamOf set text (fault inner)
  pub left_is : left + (4 + inner) ≡ length bytes

-- the fault of bytes that don't begin with a stream and its length
abbrev pub FailsAsText : {C O : Type 0} → CommandSet C O → List ℕ → SceneKind → ℕ → Type 0
FailsAsText set bytes BadMagic left = ⊥
FailsAsText set bytes BadCount left = HasStreamFault set bytes (λ at. faults.BadCount at) left
FailsAsText set bytes UnknownOpcode left = HasStreamFault set bytes (λ at. faults.UnknownOpcode at) left
FailsAsText set bytes Truncated left = (IsCutText bytes × (left ≡ 0)) ⊎ HasStreamFault set bytes (λ at. faults.Truncated at) left
FailsAsText set bytes Trailing left = ⊥

-- one of the streams to come fails
pub record FailsInStreams {C O : Type 0} (form : SceneForm C O) (bytes : List ℕ) (kind : SceneKind) (at : ℕ) : Type 0 where
  pub rest : List ℕ
  pub others : ℕ
  pub left : ℕ
  pub front : HasFront form bytes rest (suc others)
  pub fails : FailsAsText form.set rest kind left
  pub place : at + left ≡ length bytes

-- something follows the last stream
pub record HasTrailing {C O : Type 0} (form : SceneForm C O) (bytes : List ℕ) (at : ℕ) : Type 0 where
  pub rest : List ℕ
  pub front : HasFront form bytes rest 0
  pub some : 0 < length rest
  pub place : at + length rest ≡ length bytes

-- Why the bytes spell no scene of a form, and where, for a reader that goes by these letters.
abbrev pub FailsAsSceneOf : {C O : Type 0} → SceneForm C O → List (List ℕ) → List ℕ → SceneKind → ℕ → Type 0
FailsAsSceneOf form all bytes BadMagic at = DiffersFromAll all bytes at
FailsAsSceneOf form all bytes BadCount at = FailsInStreams form bytes BadCount at
FailsAsSceneOf form all bytes UnknownOpcode at = FailsInStreams form bytes UnknownOpcode at
FailsAsSceneOf form all bytes Truncated at = (IsCutHeader form bytes × (at ≡ length bytes)) ⊎ FailsInStreams form bytes Truncated at
FailsAsSceneOf form all bytes Trailing at = HasTrailing form bytes at

-- the same of scenes of the commands of the table, by the letters of both versions
abbrev pub FailsAsScene : List ℕ → SceneKind → ℕ → Type 0
FailsAsScene bytes kind at = FailsAsSceneOf plain_form plain_letters.all bytes kind at

-- the same of scenes with call lists, by their own letters
abbrev pub FailsAsListScene : List ℕ → SceneKind → ℕ → Type 0
FailsAsListScene bytes kind at = FailsAsSceneOf list_form list_letters.all bytes kind at

-- ---- what readers answer

-- the bytes spell a scene with call lists
abbrev pub SpellsListScene : List ℕ → ListScene → Type 0
SpellsListScene bytes s = SpellsSceneOf list_form bytes s.decl s.streams

-- the first quantity outside its range of what is read of it
abbrev pub list_limit_of : ListScene → Option Limit
list_limit_of s = read_limit s.decl s.streams

-- where a reader says that the bytes are malformed, they are, and so
abbrev pub TellsFormBy : (List ℕ → SceneKind → ℕ → Type 0) → List ℕ → SceneFault → Type 0
TellsFormBy Fails bytes (scene_faults.Malformed kind at) = Fails bytes kind at
TellsFormBy Fails bytes (scene_faults.Limit what value) = Unit {0}
TellsFormBy Fails bytes scene_faults.OutOfMemory = Unit {0}

-- the scene itself, where its quantities are within their ranges, or the first one that is not
abbrev pub IsJudgedBy : {S : Type 0} → (S → Option Limit) → S → Result S SceneFault → Type 0
IsJudgedBy limit s (Ok x) = (x ≡ s) × (limit s ≡ None)
IsJudgedBy limit s (Err (scene_faults.Malformed kind at)) = ⊥
IsJudgedBy limit s (Err (scene_faults.Limit what value)) = limit s ≡ Some (record { what = what; value = value })
IsJudgedBy limit s (Err scene_faults.OutOfMemory) = ⊥

-- where a reader says that a quantity is outside its range, a scene is spelled in which it is
abbrev pub IsBeyondBy : {S : Type 0} → (List ℕ → S → Type 0) → (S → Option Limit) → List ℕ → SceneFault → Type 0
IsBeyondBy Spells limit bytes (scene_faults.Malformed kind at) = Unit {0}
IsBeyondBy {S = S} Spells limit bytes (scene_faults.Limit what value) = (s : S) × Spells bytes s × (limit s ≡ Some (record { what = what; value = value }))
IsBeyondBy Spells limit bytes scene_faults.OutOfMemory = Unit {0}

-- the same of scenes of the commands of the table
abbrev pub TellsForm : List ℕ → SceneFault → Type 0
TellsForm bytes fault = TellsFormBy FailsAsScene bytes fault

abbrev pub IsJudged : Scene → Result Scene SceneFault → Type 0
IsJudged s result = IsJudgedBy limit_of s result

abbrev pub IsBeyond : List ℕ → SceneFault → Type 0
IsBeyond bytes fault = IsBeyondBy SpellsScene limit_of bytes fault

-- What was read of bytes: a scene that they spell, within the limits, or what is wrong with them, or the first quantity outside its range.
pub record IsReadBy {X S : Type 0} (view : X → S) (Spells : List ℕ → S → Type 0) (limit_in : S → Option Limit) (Fails : List ℕ → SceneKind → ℕ → Type 0)
    (bytes : List ℕ) (result : Result X SceneFault) : Type 0 where
  pub found : IfOk result (λ x. Spells bytes (view x) × (limit_in (view x) ≡ None))
  pub malformed : IfErr result (TellsFormBy Fails bytes)
  pub limit : IfErr result (IsBeyondBy Spells limit_in bytes)

-- ---- what readers answer unless memory runs out

-- the answer is this, or that memory ran out
abbrev pub AnswersOrLacks : {S : Type 0} → Result S SceneFault → Result S SceneFault → Type 0
AnswersOrLacks result answer = (result ≡ answer) ⊎ (result ≡ Err scene_faults.OutOfMemory)

-- a scene that the bytes spell is read, where its quantities are within their ranges
abbrev pub ReadsEachBy : {S : Type 0} → (List ℕ → S → Type 0) → (S → Option Limit) → List ℕ → Result S SceneFault → Type 0
ReadsEachBy {S = S} Spells limit bytes result = (s : S) → Spells bytes s → limit s ≡ None → AnswersOrLacks result (Ok s)

-- malformed bytes are told so, with the fault and its place
abbrev pub TellsEachFormBy : {S : Type 0} → (List ℕ → SceneKind → ℕ → Type 0) → List ℕ → Result S SceneFault → Type 0
TellsEachFormBy Fails bytes result = (kind : SceneKind) → (at : ℕ) → Fails bytes kind at → AnswersOrLacks result (Err (scene_faults.Malformed kind at))

-- the first quantity outside its range, of a scene that the bytes spell, is told
abbrev pub TellsEachLimitBy : {S : Type 0} → (List ℕ → S → Type 0) → (S → Option Limit) → List ℕ → Result S SceneFault → Type 0
TellsEachLimitBy {S = S} Spells limit bytes result =
    (s : S) → (l : Limit) → Spells bytes s → limit s ≡ Some l → AnswersOrLacks result (Err (scene_faults.Limit l.what l.value))

-- the same of scenes of the commands of the table
abbrev pub ReadsEach : List ℕ → Result Scene SceneFault → Type 0
ReadsEach bytes result = ReadsEachBy SpellsScene limit_of bytes result

abbrev pub TellsEachForm : List ℕ → Result Scene SceneFault → Type 0
TellsEachForm bytes result = TellsEachFormBy FailsAsScene bytes result

abbrev pub TellsEachLimit : List ℕ → Result Scene SceneFault → Type 0
TellsEachLimit bytes result = TellsEachLimitBy SpellsScene limit_of bytes result

-- the fields of its declaration and of its commands are in their ranges
abbrev pub HasFields : Scene → Type 0
HasFields s = IsDecl s.decl × AllByRecursion (AllByRecursion IsCommand) s.streams

-- all that `read_scene` says of its answer
pub record IsSceneRead (bytes : List ℕ) (result : Result Scene SceneFault) : Type 0 where
  pub found : IfOk result (λ s. SpellsScene bytes s × (limit_of s ≡ None))
  pub fields : IfOk result HasFields
  pub within : IfOk result IsWithin
  pub only : ReadsEach bytes result
  pub malformed : IfErr result (TellsForm bytes)
  pub malformed_only : TellsEachForm bytes result
  pub limit : IfErr result (IsBeyond bytes)
  pub limit_only : TellsEachLimit bytes result

-- ---- the same of faults on their way up, whose places are told by how many bytes stand from there on

abbrev pub LettersFailBy : List ℕ → List ℕ → Broken → Type 0
LettersFailBy letters bytes broken.Memory = ⊥
LettersFailBy letters bytes (broken.Form BadMagic left) = (at : ℕ) × Differs letters bytes at × (at + left ≡ length bytes)
LettersFailBy letters bytes (broken.Form BadCount left) = ⊥
LettersFailBy letters bytes (broken.Form UnknownOpcode left) = ⊥
LettersFailBy letters bytes (broken.Form Truncated left) = IsProperPrefix letters bytes × (left ≡ 0)
LettersFailBy letters bytes (broken.Form Trailing left) = ⊥

-- the same of the letters of a form
abbrev pub MagicFailsBy : Letters → List ℕ → Broken → Type 0
MagicFailsBy letters bytes broken.Memory = ⊥
MagicFailsBy letters bytes (broken.Form BadMagic left) = (at : ℕ) × DiffersFromAll letters.all bytes at × (at + left ≡ length bytes)
MagicFailsBy letters bytes (broken.Form BadCount left) = ⊥
MagicFailsBy letters bytes (broken.Form UnknownOpcode left) = ⊥
MagicFailsBy letters bytes (broken.Form Truncated left) = (version : ℕ) × letters.IsDrawn version × IsProperPrefix (letters.begins version) bytes × (left ≡ 0)
MagicFailsBy letters bytes (broken.Form Trailing left) = ⊥

abbrev pub TextFailsBy : {C O : Type 0} → CommandSet C O → List ℕ → Broken → Type 0
TextFailsBy set bytes broken.Memory = Unit {0}
TextFailsBy set bytes (broken.Form kind left) = FailsAsText set bytes kind left

abbrev pub SceneFailsBy : {C O : Type 0} → SceneForm C O → List (List ℕ) → List ℕ → Broken → Type 0
SceneFailsBy form all bytes broken.Memory = Unit {0}
SceneFailsBy form all bytes (broken.Form kind left) = (at : ℕ) × FailsAsSceneOf form all bytes kind at × (at + left ≡ length bytes)
