-- What bytes spell of a scene, and of one with call lists: one scene, or one fault.
use Rattle.std.proofs.Common.{◌≡◌, ◌++◌, length, sym, ◌∙◌, append_assoc, inl, inr}
use Rattle.std.specs.List.{flat_map}
use Rattle.rc_base.specs.Formats.Spelling.{plain_set, list_set, magic, list_magic, stream_text}
use Rattle.packet_bytes.specs.Packets.{plain_reader}
use Rattle.packet_bytes.specs.PlainLaws.{plain_agrees}
use Rattle.packet_bytes.specs.Lists.{list_reader}
use Rattle.packet_bytes.specs.ListLaws.{list_agrees}
use Rattle.packet_bytes.proofs.OneSpelling as packets
use Rattle.scene_file.specs.Letters.{plain_letters, list_letters}
use Rattle.scene_file.specs.Laws.{ScenesAreOne, FaultsSpellNoScene, SceneFaultsAreOne, ScenesOrFaults, ListScenesAreOne, FaultsSpellNoListScene, ListSceneFaultsAreOne, ListScenesOrFaults, FormsAreApart}
use Rattle.scene_file.proofs.HeaderCodec.{head_text}
use Rattle.scene_file.proofs.Versions.{plain_apart, list_apart, never_both}
use Rattle.scene_file.proofs.OneScene.{same_scene, scene_none}
use Rattle.scene_file.proofs.OneFault.{fault_once}
use Rattle.scene_file.proofs.SpelledOrFaulty.{spelled_or_faulty}

-- ---- scenes of the commands of the table

pub one_scene : ScenesAreOne
one_scene bytes a b p q =
    let same = same_scene plain_set plain_letters plain_reader plain_agrees plain_apart bytes a.decl b.decl a.streams b.streams p q in
    λ i. record { decl = same.0 i; streams = same.1 i }

pub fault_no_scene : FaultsSpellNoScene
fault_no_scene bytes kind at s h sp = scene_none plain_set plain_letters plain_reader plain_agrees plain_apart bytes kind at s.decl s.streams h sp

pub one_fault : SceneFaultsAreOne
one_fault bytes kind other at place h k =
    fault_once plain_set plain_letters plain_reader plain_agrees plain_apart (packets.one_fault plain_set plain_reader plain_agrees) bytes kind other at place h k

pub scene_or_fault : ScenesOrFaults
scene_or_fault bytes fits = elim (spelled_or_faulty plain_set plain_letters plain_reader plain_agrees plain_apart bytes fits) [
  | inl x ↦ inl (record { decl = x.0; streams = x.1 }, x.2)
  | inr y ↦ inr y
]

-- ---- scenes with call lists

pub one_list_scene : ListScenesAreOne
one_list_scene bytes a b p q =
    let same = same_scene list_set list_letters list_reader list_agrees list_apart bytes a.decl b.decl a.streams b.streams p q in
    λ i. record { decl = same.0 i; streams = same.1 i }

pub fault_no_list_scene : FaultsSpellNoListScene
fault_no_list_scene bytes kind at s h sp = scene_none list_set list_letters list_reader list_agrees list_apart bytes kind at s.decl s.streams h sp

pub one_list_fault : ListSceneFaultsAreOne
one_list_fault bytes kind other at place h k =
    fault_once list_set list_letters list_reader list_agrees list_apart (packets.one_fault list_set list_reader list_agrees) bytes kind other at place h k

pub list_scene_or_fault : ListScenesOrFaults
list_scene_or_fault bytes fits = elim (spelled_or_faulty list_set list_letters list_reader list_agrees list_apart bytes fits) [
  | inl x ↦ inl (record { decl = x.0; streams = x.1 }, x.2)
  | inr y ↦ inr y
]

-- ---- both

pub never_both_forms : FormsAreApart
never_both_forms bytes s l p q =
    let text = head_text (record { decl = s.decl; clients = length s.streams }) in
    let other = head_text (record { decl = l.decl; clients = length l.streams }) in
    let x = flat_map stream_text p.texts in
    let y = flat_map stream_text q.texts in
    let same : magic s.decl.version ++ (text ++ x) ≡ list_magic ++ (other ++ y) =
    sym (append_assoc (magic s.decl.version) text x) ∙ sym p.parts ∙ q.parts ∙ append_assoc list_magic other y in
    never_both s.decl.version (text ++ x) (other ++ y) p.decl.version same
