-- Reading the header of a scene and its streams, each with its length.
use Rattle.std.specs.Prelude.{ℕ, zero, suc, ◌-◌, List, [], ◌∷◌, Result, Ok}
use Rattle.std.specs.Int.{w16, w32}
use Rattle.rc_base.specs.declared.scene.SceneKind.TheVariants as kinds
use Rattle.byte_codec.specs.declared.fault.Form.{Form}
use Rattle.byte_codec.specs.declared.fault.Form.TheVariants as forms
use Rattle.byte_codec.specs.declared.fault.ReadError.{ReadError}
use Rattle.byte_codec.specs.declared.fault.ReadError.TheVariants as errors
use Rattle.packet_bytes.specs.declared.fault.PackFault.{PackFault}
use Rattle.packet_bytes.specs.declared.fault.PackFault.TheVariants as faults
use Rattle.byte_codec.specs.Reading.{cons, read_byte, read_unsigned, take_bytes, sized, both, convert}
use Rattle.scene_file.specs.declared.header.Head.{Head}
use Rattle.scene_file.specs.declared.fault.Broken.{Broken}
use Rattle.scene_file.specs.declared.fault.Broken.TheVariants as broken
use Rattle.scene_file.specs.declared.fault.SceneFault.{SceneFault}
use Rattle.scene_file.specs.declared.fault.SceneFault.TheVariants as scene_faults

abbrev pub read_half : List ℕ → Result (ℕ × List ℕ) Form
read_half = read_unsigned w16

-- so many things of one kind
unfoldable pub read_times : {A : Type 0} → (List ℕ → Result (A × List ℕ) Form) → ℕ → List ℕ → Result (List A × List ℕ) Form
read_times p zero bytes = Ok ([], bytes)
read_times p (suc n) bytes = convert cons (both p (read_times p n)) bytes

abbrev pub make_size : ℕ × ℕ → List ℕ
make_size x = x.0 ∷ x.1 ∷ []

-- width and height of a shared texture
unfoldable pub read_size : List ℕ → Result (List ℕ × List ℕ) Form
read_size = convert make_size (both read_half read_half)

-- width, height, and how many clients, shared textures, barriers and semaphores there are
abbrev pub Front : Type 0
Front = ℕ × (ℕ × (ℕ × (ℕ × (ℕ × ℕ))))

abbrev pub make_head : ℕ → Front × (List (List ℕ) × (List ℕ × List ℕ)) → Head
make_head version x = record {
  decl = record { version = version; width = x.0.0; height = x.0.1.0; shared = x.1.0; barriers = x.1.1.0; semaphores = x.1.1.1 };
  clients = x.0.1.1.0;
}

-- what stands between the magic and the streams
unfoldable pub read_head : ℕ → List ℕ → Result (Head × List ℕ) Form
read_head version =
    convert (make_head version)
    (sized (both read_half (both read_half (both read_byte (both read_byte (both read_byte read_byte)))))
    (λ x. both (read_times read_size x.1.1.1.0) (both (take_bytes x.1.1.1.1.0) (read_times read_half x.1.1.1.1.1))))

abbrev pub second : {A B : Type 0} → A × B → B
second x = x.1

-- a stream's length, and then the stream
unfoldable pub read_text : List ℕ → Result (List ℕ × List ℕ) Form
read_text = convert second (sized (read_unsigned w32) take_bytes)

-- ---- faults on their way up

-- a fault of a field of the header or of a stream's length
abbrev pub form_fault : Form → Broken
form_fault (forms.BadCount left) = broken.Form kinds.BadCount left
form_fault (forms.Unknown left) = broken.Form kinds.UnknownOpcode left
form_fault forms.Truncated = broken.Form kinds.Truncated 0

abbrev pub field_fault : ReadError → Broken
field_fault errors.Memory = broken.Memory
field_fault (errors.Form f) = form_fault f

-- A fault inside a stream. So many bytes stand from the stream's length on.
abbrev pub stream_fault : PackFault → ℕ → Broken
stream_fault faults.OutOfMemory size = broken.Memory
stream_fault (faults.BadCount at) size = broken.Form kinds.BadCount (size - 4 - at)
stream_fault (faults.UnknownOpcode at) size = broken.Form kinds.UnknownOpcode (size - 4 - at)
stream_fault (faults.Truncated at) size = broken.Form kinds.Truncated (size - 4 - at)

-- the fault with its place, in bytes of which there are so many
abbrev pub scene_fault : Broken → ℕ → SceneFault
scene_fault broken.Memory size = scene_faults.OutOfMemory
scene_fault (broken.Form kind left) size = scene_faults.Malformed kind (size - left)
