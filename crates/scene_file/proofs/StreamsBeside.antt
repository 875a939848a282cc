-- Streams that were decoded side by side, each with all of its commands.
use Rattle.std.proofs.Common.{◌≡◌, ℕ, suc, ◌+◌, min, List, [], ◌∷◌, ◌++◌, length, Result, Ok, map, refl, sym, ap, subst, ◌∙◌, arith}
use Rattle.std.specs.Prelude.{Option, Some, None, IfSome, IfOk, count_by}
use Rattle.std.specs.List.{flat_map}
use Rattle.std.proofs.lemmas.List.Concat.{flat_map-cons}
use Rattle.std.proofs.Math.ListN.{length-map}
use Rattle.std.proofs.lemmas.List.Sums.{sum_by-cons}
use Rattle.rc_base.specs.declared.command.Command.{Command}
use Rattle.rc_base.specs.declared.scene.Scene.{Scene}
use Rattle.rc_base.specs.Formats.Commands.{AreBytes}
use Rattle.rc_base.specs.Formats.Limits.{is_swap_command, commands_in, limit_of}
use Rattle.rc_base.specs.Formats.Spelling.{plain_set, plain_form, magic, header_of, stream_text, IsVersion, SpellStreams, SpellsScene}
use Rattle.packet_bytes.specs.declared.packets.DecodedOf.{DecodedOf}
use Rattle.packet_bytes.specs.Packets.{decoded_as}
use Rattle.scene_file.specs.declared.header.Head.{Head}
use Rattle.scene_file.specs.declared.beside.Gathered.{Gathered}
use Rattle.scene_file.specs.declared.reading.Counted.{Counted}
use Rattle.scene_file.specs.Reading.{read_head, read_text}
use Rattle.scene_file.specs.Letters.{plain_letters}
use Rattle.scene_file.specs.declared.fault.SceneFault.{SceneFault}
use Rattle.scene_file.specs.Counting.{Counts, counted_as, frames_with, least_shown}
use Rattle.scene_file.specs.Faults.{FailsAsScene, IsJudged}
use Rattle.scene_file.specs.Beside.{HoldsStream, HoldsStreams, gathered_as}
use Rattle.scene_file.proofs.HeaderCodec.{text_codec}
use Rattle.scene_file.proofs.StreamsInTurn.{stage_none}
use Rattle.scene_file.proofs.CommandsCounted.{frames_some, judged_found, seen, seen_ok}

-- the frames of a stream and of those behind it
frames_first : (cs : List Command) (css : List (List Command)) (swaps frames : ℕ) → swaps ≡ count_by is_swap_command cs → frames ≡ least_shown is_swap_command css
    → frames_with (length css) frames swaps ≡ least_shown is_swap_command (cs ∷ css)
frames_first cs [] swaps frames first others = first
frames_first cs (a ∷ css) swaps frames first others = frames_some (length (a ∷ css)) frames swaps (omega arith) ∙ (λ i. min (others i) (first i)) ∙ omega arith

-- one stream more in front
one_more : (bytes text after : List ℕ) (n : ℕ) (first : DecodedOf (List Command)) (others x : Gathered (List Command)) → AreBytes bytes → read_text bytes ≡ Ok (text, after) → HoldsStream text first → HoldsStreams after n others
    → x.streams ≡ first.commands ∷ others.streams → x.commands ≡ first.count + others.commands → x.frames ≡ frames_with (length others.streams) others.frames first.swaps → HoldsStreams bytes (suc n) x
one_more bytes text after n first others x fits read f o streams commands frames =
    let t = text_codec.maker.takes bytes text after fits read in
    record {
      texts = text ∷ o.texts;
      each = subst (λ (css : List (List Command)). SpellStreams (text ∷ o.texts) css) (sym streams) (f.spells, t.1.0, o.each);
      as_many = ap length streams ∙ ap suc o.as_many;
      parts = t.0 ∙ ap (λ (l : List ℕ). stream_text text ++ l) o.parts ∙ sym (flat_map-cons stream_text text o.texts);
      counted = omega (arith, commands, f.counted, o.counted, sum_by-cons length first.commands others.streams, ap commands_in streams);
      frames = frames ∙ frames_first first.commands others.streams first.swaps others.frames f.swaps o.frames ∙ ap (least_shown is_swap_command) (sym streams);
      few = omega (arith, commands, f.few, o.few);
    }

-- the same of what the two threads gave, and of what was put together
pub streams_held : {K : Type 0} (of : K → List Command) (bytes text after : List ℕ) (count left : ℕ) (a : Option (DecodedOf K)) (first : DecodedOf K) (b : Option (Gathered K)) (others : Gathered K) (r : Option (Gathered K))
    → AreBytes bytes → read_text bytes ≡ Ok (text, after) → suc left ≡ count
    → IfSome a (λ x. HoldsStream text (decoded_as of x)) → a ≡ Some first → IfSome b (λ x. HoldsStreams after left (gathered_as of x)) → b ≡ Some others
    → IfSome r (λ x. x.streams ≡ first.commands ∷ others.streams) → IfSome r (λ x. x.commands ≡ first.count + others.commands)
    → IfSome r (λ x. x.frames ≡ frames_with (length others.streams) others.frames first.swaps) → IfSome r (λ x. HoldsStreams bytes count (gathered_as of x))
streams_held of bytes text after count left a first b others None fits read more f is_first o is_others streams commands frames = tt
streams_held {K = K} of bytes text after count left a first b others (Some x) fits read more f is_first o is_others streams commands frames =
    subst (λ (n : ℕ). HoldsStreams bytes n (gathered_as of x)) more
    (one_more bytes text after left (decoded_as of first) (gathered_as of others) (gathered_as of x) fits read
    (subst (λ (y : Option (DecodedOf K)). IfSome y (λ z. HoldsStream text (decoded_as of z))) is_first f)
    (subst (λ (y : Option (Gathered K)). IfSome y (λ z. HoldsStreams after left (gathered_as of z))) is_others o) (ap (map of) streams) commands
    (frames ∙ ap (λ (n : ℕ). frames_with n others.frames first.swaps) (sym (length-map others.streams of))))

no_texts : (texts : List (List ℕ)) → SpellStreams texts [] → texts ≡ []
no_texts [] h = refl
no_texts (t ∷ ts) h = absurd h

-- a header, and the streams behind it
scene_held : (version : ℕ) → IsVersion version → (bytes body rest : List ℕ) (h : Head) (x : Gathered (List Command)) → AreBytes bytes → bytes ≡ magic version ++ body → read_head version body ≡ Ok (h, rest)
    → HoldsStreams rest h.clients x → SpellsScene bytes (record { decl = h.decl; streams = x.streams })
scene_held version is bytes body rest h x fits parts read held =
    let s = stage_none plain_set plain_letters version is bytes body h rest fits parts read in
    let front : List ℕ → List ℕ = λ l. header_of plain_form h.decl h.clients ++ l in
    record {
      texts = held.texts;
      each = held.each;
      few = omega (arith, s.few, held.as_many);
      decl = s.is_decl;
      parts = s.parts ∙ ap (λ (ts : List (List ℕ)). front (flat_map stream_text ts ++ rest)) (no_texts s.texts s.each) ∙ ap front held.parts
          ∙ ap (λ (n : ℕ). header_of plain_form h.decl n ++ flat_map stream_text held.texts) (sym held.as_many);
    }

-- and where the quantities were judged, and none is outside its range
pub scene_found : {K X : Type 0} (of : K → List Command) (view : X → Scene) (version : ℕ) → IsVersion version → (bytes body rest : List ℕ) (h : Head) → AreBytes bytes → bytes ≡ magic version ++ body
    → read_head version body ≡ Ok (h, rest) → (behind : List ℕ) (clients : ℕ) (b : Option (Gathered K)) (x : Gathered K) → IfSome b (λ y. HoldsStreams behind clients (gathered_as of y)) → b ≡ Some x
    → rest ≡ behind → h.clients ≡ clients → (counted : Counted K) (r : Result X SceneFault) (scene : X)
    → ((s : Scene) → Counts is_swap_command (counted_as of counted) s.decl s.streams → IsJudged s (seen view r)) → r ≡ Ok scene
    → counted.decl ≡ h.decl → counted.streams ≡ x.streams → counted.commands ≡ x.commands → counted.frames ≡ x.frames → SpellsScene bytes (view scene) × (limit_of (view scene) ≡ None)
scene_found {K = K} {X = X} of view version is bytes body rest h fits parts read behind clients b x held is_some same_rest same_clients counted r scene judged is_ok decl streams commands frames =
    let found = gathered_as of x in
    let there : HoldsStreams behind clients found = subst (λ (y : Option (Gathered K)). IfSome y (λ z. HoldsStreams behind clients (gathered_as of z))) is_some held in
    let all : HoldsStreams rest h.clients found = subst (λ (l : List ℕ). HoldsStreams l h.clients found) (sym same_rest) (subst (λ (n : ℕ). HoldsStreams behind n found) (sym same_clients) there) in
    let s : Scene = record { decl = h.decl; streams = found.streams } in
    let counts : Counts is_swap_command (counted_as of counted) s.decl s.streams =
    record { decl = decl; clients = ap (λ (l : List K). length (map of l)) streams; counted = commands ∙ all.counted; frames = frames ∙ all.frames; stored = λ _. ap (map of) streams } in
    let is = judged_found SpellsScene limit_of FailsAsScene bytes s (scene_held version is bytes body rest h found fits parts read all) (seen view r) (judged s counts) in
    subst (λ (y : Result X SceneFault). IfOk y (λ z. SpellsScene bytes (view z) × (limit_of (view z) ≡ None))) is_ok (seen_ok view (λ z. SpellsScene bytes z × (limit_of z ≡ None)) r is)
