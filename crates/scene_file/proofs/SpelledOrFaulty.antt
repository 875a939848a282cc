-- Bytes spell a scene, or they have a fault.
use Rattle.std.proofs.Common.{◌≡◌, ℕ, zero, suc, ◌+◌, ◌<◌, ◌⊎◌, inl, inr, List, [], ◌∷◌, ◌++◌, length, Result, Ok, Err, refl, subst, arith}
use Rattle.rc_base.specs.declared.scene.Decl.{Decl}
use Rattle.rc_base.specs.declared.scene.SceneKind.{SceneKind}
use Rattle.rc_base.specs.declared.scene.SceneKind.TheVariants.{Trailing}
use Rattle.rc_base.specs.Formats.Commands.{AreBytes}
use Rattle.rc_base.specs.Formats.Spelling.{CommandSet, SceneForm, stream_text, SpellsSceneOf}
use Rattle.packet_bytes.specs.Sets.{SetReader, Agrees}
use Rattle.byte_codec.specs.declared.fault.Form.{Form}
use Rattle.byte_codec.specs.declared.fault.Form.TheVariants as forms
use Rattle.byte_codec.specs.declared.fault.ReadError.TheVariants as errors
use Rattle.packet_bytes.specs.declared.fault.PackFault.{PackFault}
use Rattle.packet_bytes.specs.declared.fault.PackFault.TheVariants as faults
use Rattle.packet_bytes.specs.Faults.{IsFault}
use Rattle.byte_codec.specs.Codec.{AreBytes-behind}
use Rattle.packet_bytes.proofs.SpelledOrFaulty as streams
use Rattle.scene_file.specs.declared.header.Head.{Head}
use Rattle.scene_file.specs.declared.fault.Broken.{Broken}
use Rattle.scene_file.specs.declared.fault.Broken.TheVariants as broken
use Rattle.scene_file.specs.Reading.{read_head, read_text, field_fault, stream_fault}
use Rattle.scene_file.specs.Letters.{Letters, form_of}
use Rattle.scene_file.specs.Faults.{FailsAsSceneOf, SceneFailsBy}
use Rattle.scene_file.proofs.HeaderCodec.{head_text, head_codec, text_codec}
use Rattle.scene_file.proofs.Versions.{AreApart, IsForm}
use Rattle.scene_file.proofs.StreamsInTurn.{Stage, letters_fail, head_fails, stage_none, stage_more, stage_fails, stage_trailing, stage_done, text_field, text_found, text_fails}

field_form : (f : Form) → IsForm (field_fault (errors.Form f))
field_form (forms.BadCount left) = tt
field_form (forms.Unknown left) = tt
field_form forms.Truncated = tt

stream_form : (f : PackFault) (size : ℕ) → IsFault f → IsForm (stream_fault f size)
stream_form (faults.BadCount at) size h = tt
stream_form (faults.UnknownOpcode at) size h = tt
stream_form (faults.Truncated at) size h = tt
stream_form faults.OutOfMemory size h = absurd h

module _ {C O : Type 0} (set : CommandSet C O) (letters : Letters) (reader : SetReader C O) (laws : Agrees set reader) (apart : AreApart letters) where
  abbrev form : SceneForm C O
  form = form_of set letters

  abbrev pub SpelledOrFaulty : List ℕ → Type 0
  SpelledOrFaulty bytes = ((d : Decl) × (css : List (List C)) × SpellsSceneOf form bytes d css) ⊎ ((kind : SceneKind) × (at : ℕ) × FailsAsSceneOf form letters.all bytes kind at)

  faulty_by : (bytes : List ℕ) (b : Broken) → IsForm b → SceneFailsBy form letters.all bytes b → SpelledOrFaulty bytes
  faulty_by bytes broken.Memory f h = absurd f
  faulty_by bytes (broken.Form kind left) f h = inr (kind, h.0, h.1)

  -- stream by stream, of which so many are still to come
  onward : (more : ℕ) (bytes : List ℕ) (d : Decl) (n i : ℕ) (css : List (List C)) (rest : List ℕ) → AreBytes rest → i + more ≡ n → Stage set letters bytes d n i css rest → SpelledOrFaulty bytes
  onward zero bytes d n i css [] fits count s = inl (d, css, stage_done set letters bytes d n i css [] s (omega (arith, count)) refl)
  onward zero bytes d n i css (b ∷ rest) fits count s =
      let trailing = stage_trailing set letters bytes d n i css (b ∷ rest) s (omega (arith, count)) (omega arith) in
      inr (Trailing, trailing.0, trailing.1)
  onward (suc more) bytes d n i css rest fits count s = next (read_text rest) refl (λ cs after. onward more bytes d n (i + 1) (css ++ cs ∷ []) after)
    where
      less : i < n
      less = omega (arith, count)

      next : (r : Result (List ℕ × List ℕ) Form) → read_text rest ≡ r
          → ((cs : List C) (after : List ℕ) → AreBytes after → i + 1 + more ≡ n → Stage set letters bytes d n (i + 1) (css ++ cs ∷ []) after → SpelledOrFaulty bytes) → SpelledOrFaulty bytes
      next (Err f) read then_ =
          faulty_by bytes (field_fault (errors.Form f)) (field_form f) (stage_fails set letters bytes d n i css rest (field_fault (errors.Form f)) s less (text_field set rest (errors.Form f) fits read))
      next (Ok x) read then_ =
          let t = text_codec.maker.takes rest x.0 x.1 fits read in
          elim (streams.spelled_or_faulty set reader laws x.0 t.1.1) [
            | inl spelled ↦
                then_ spelled.0 x.1 (AreBytes-behind (stream_text x.0) x.1 (subst AreBytes t.0 fits)) (omega (arith, count))
                (stage_more set letters bytes d n i css rest spelled.0 x.1 s (text_found set rest x.0 x.1 spelled.0 fits read spelled.1))
            | inr failed ↦
                faulty_by bytes (stream_fault failed.0 (length rest)) (stream_form failed.0 (length rest) failed.1)
                (stage_fails set letters bytes d n i css rest (stream_fault failed.0 (length rest)) s less (text_fails set rest x.0 x.1 failed.0 fits read failed.2))
          ]

  headed : (version : ℕ) → letters.IsDrawn version → (bytes body : List ℕ) → AreBytes bytes → bytes ≡ letters.begins version ++ body
      → (r : Result (Head × List ℕ) Form) → read_head version body ≡ r → SpelledOrFaulty bytes
  headed version is bytes body fits parts (Err f) read = faulty_by bytes (field_fault (errors.Form f)) (field_form f) (head_fails set letters version is bytes body (errors.Form f) fits parts read)
  headed version is bytes body fits parts (Ok x) read =
      let inner : AreBytes body = AreBytes-behind (letters.begins version) body (subst AreBytes parts fits) in
      let t = (head_codec form version is).maker.takes body x.0 x.1 inner read in
      onward x.0.clients bytes x.0.decl x.0.clients 0 [] x.1 (AreBytes-behind (head_text x.0) x.1 (subst AreBytes t.0 inner)) (omega arith) (stage_none set letters version is bytes body x.0 x.1 fits parts read)

  pub spelled_or_faulty : (bytes : List ℕ) → AreBytes bytes → SpelledOrFaulty bytes
  spelled_or_faulty bytes fits = elim (apart.front bytes) [
    | inl x ↦ headed x.version x.is_drawn bytes x.body fits x.parts (read_head x.version x.body) refl
    | inr y ↦ faulty_by bytes y.0 y.1 (letters_fail set letters bytes y.0 y.2)
  ]
