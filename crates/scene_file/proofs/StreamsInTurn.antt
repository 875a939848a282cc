-- The reader of a scene, between two streams.
use Rattle.std.proofs.Common.{Bool, true, false, eqb, ◌≡◌, ℕ, suc, ◌+◌, ◌-◌, ◌<◌, ◌≤◌, ◌^◌, inl, inr, List, [], ◌∷◌, ◌++◌, length, Ok, refl, sym, ap, subst, ◌∙◌, append_assoc, arith, length-append, ◌≤◌, ◌<◌}
use Rattle.std.specs.List.{flat_map}
use Rattle.std.proofs.lemmas.Bool.Decides.{nat_tests}
use Rattle.std.proofs.lemmas.List.{append-nil}
use Rattle.std.proofs.lemmas.Grind.{flat_map-append}
use Rattle.std.proofs.lemmas.List.Concat.{flat_map-cons}
use Rattle.rc_base.specs.declared.scene.Decl.{Decl}
use Rattle.rc_base.specs.declared.scene.SceneKind.{SceneKind}
use Rattle.rc_base.specs.declared.scene.SceneKind.TheVariants.{BadMagic, BadCount, UnknownOpcode, Truncated, Trailing}
use Rattle.rc_base.specs.Formats.Commands.{AreBytes}
use Rattle.rc_base.specs.Formats.Spelling.{CommandSet, SceneForm, long, header_of, IsDeclOf, stream_text, SpellStreamsOf, SpellsStreamOf, SpellsSceneOf}
use Rattle.byte_codec.specs.declared.fault.Form.{Form}
use Rattle.byte_codec.specs.declared.fault.Form.TheVariants as forms
use Rattle.byte_codec.specs.declared.fault.ReadError.{ReadError}
use Rattle.byte_codec.specs.declared.fault.ReadError.TheVariants as errors
use Rattle.packet_bytes.specs.declared.fault.PackFault.{PackFault}
use Rattle.packet_bytes.specs.declared.fault.PackFault.TheVariants as faults
use Rattle.packet_bytes.specs.Faults.{FailsAsStreamOf}
use Rattle.packet_bytes.specs.declared.packets.DecodedOf.{DecodedOf}
use Rattle.packet_bytes.specs.Packets.{DecodesOf}
use Rattle.byte_codec.specs.Reading.{Fails}
use Rattle.byte_codec.specs.Codec.{CutOff, AreBytes-behind}
use Rattle.scene_file.specs.declared.header.Head.{Head}
use Rattle.scene_file.specs.declared.fault.Broken.{Broken}
use Rattle.scene_file.specs.declared.fault.Broken.TheVariants as broken
use Rattle.scene_file.specs.Reading.{read_head, read_text, field_fault, stream_fault}
use Rattle.scene_file.specs.Letters.{Letters, form_of}
use Rattle.scene_file.specs.Faults.{IsProperPrefix, IsCutHeader, IsFirstText, HasFront, HasStreamFault, FailsAsText, FailsInStreams, HasTrailing, MagicFailsBy, TextFailsBy, SceneFailsBy}
use Rattle.scene_file.specs.Counting.{DecodesFirst}
use Rattle.scene_file.proofs.HeaderCodec.{head_text, IsHead, head_codec, text_codec}
use Rattle.scene_file.proofs.LettersAtFront.{part_before}

size_of_text : (text after : List ℕ) → length (stream_text text ++ after) ≡ 4 + (length text + length after)
size_of_text text after = omega (arith, length-append (stream_text text) after, length-append (long (length text)) text)

module _ {C O : Type 0} (set : CommandSet C O) where
  -- ---- the stream at the front

  pub text_field : (bytes : List ℕ) (e : ReadError) → AreBytes bytes → Fails e (read_text bytes) → TextFailsBy set bytes (field_fault e)
  text_field bytes errors.Memory fits h = tt
  text_field bytes (errors.Form (forms.BadCount left)) fits h = let a = (text_codec.maker.cut bytes (forms.BadCount left) fits h).0 in absurd cc
  text_field bytes (errors.Form (forms.Unknown left)) fits h = let a = (text_codec.maker.cut bytes (forms.Unknown left) fits h).0 in absurd cc
  text_field bytes (errors.Form forms.Truncated) fits h =
      let cut = (text_codec.maker.cut bytes forms.Truncated fits h).1 in
      inl (record { text = cut.value; fits = cut.fits.0; is_part = record { more = cut.more; parts = cut.whole; some = cut.some } }, refl)

  pub text_found : (bytes text after : List ℕ) (cs : List C) → AreBytes bytes → read_text bytes ≡ Ok (text, after) → SpellsStreamOf set text cs → IsFirstText set bytes cs after
  text_found bytes text after cs fits h spells =
      let t = text_codec.maker.takes bytes text after fits h in
      record { text = text; fits = t.1.0; spells = spells; parts = t.0 }

  pub text_decoded : (shows : C → Bool) (bytes text after : List ℕ) (room : ℕ) (x : DecodedOf (List C)) → AreBytes bytes → read_text bytes ≡ Ok (text, after) → DecodesOf set shows text room x → DecodesFirst set shows bytes room x after
  text_decoded shows bytes text after room x fits h d =
      let t = text_codec.maker.takes bytes text after fits h in
      record { all = d.all; first = text_found bytes text after d.all fits h d.spells; counted = d.counted; swaps = d.swaps; stored = d.stored; few = omega (arith, d.short, t.1.0) }

  has_fault : (bytes text after : List ℕ) (fault : ℕ → PackFault) (inner : ℕ) → AreBytes bytes → read_text bytes ≡ Ok (text, after) → FailsAsStreamOf set text (fault inner) → inner ≤ length text
      → HasStreamFault set bytes fault (length bytes - 4 - inner)
  has_fault bytes text after fault inner fits h fails inside =
      let t = text_codec.maker.takes bytes text after fits h in
      record { text = text; after = after; inner = inner; fits = t.1.0; parts = t.0; fails = fails; left_is = omega (arith, ap length t.0, size_of_text text after) }

  pub text_fails : (bytes text after : List ℕ) (f : PackFault) → AreBytes bytes → read_text bytes ≡ Ok (text, after) → FailsAsStreamOf set text f → TextFailsBy set bytes (stream_fault f (length bytes))
  text_fails bytes text after faults.OutOfMemory fits h fails = tt
  text_fails bytes text after (faults.BadCount at) fits h fails = has_fault bytes text after (λ at. faults.BadCount at) at fits h fails (omega (arith, fails.3))
  text_fails bytes text after (faults.UnknownOpcode at) fits h fails = has_fault bytes text after (λ at. faults.UnknownOpcode at) at fits h fails (omega (arith, fails.4))
  text_fails bytes text after (faults.Truncated at) fits h fails = inr (has_fault bytes text after (λ at. faults.Truncated at) at fits h fails (omega (arith, fails.4)))

module _ {C O : Type 0} (set : CommandSet C O) (letters : Letters) where
  abbrev form : SceneForm C O
  form = form_of set letters

  -- ---- the header

  -- a declaration of a version
  declared : ℕ → Decl
  declared version = record { version = version; width = 0; height = 0; shared = []; barriers = []; semaphores = [] }

  declared_is : (version : ℕ) → letters.IsDrawn version → IsDeclOf form (declared version)
  unfolding declared
  declared_is version is = record {
    version = is;
    width = omega arith;
    height = omega arith;
    few_shared = omega arith;
    few_barriers = omega arith;
    few_semaphores = omega arith;
    shared = tt;
    barriers = tt;
    semaphores = tt;
  }

  cut_letters : (bytes : List ℕ) (version : ℕ) → letters.IsDrawn version → IsProperPrefix (letters.begins version) bytes → IsCutHeader form bytes
  unfolding declared
  cut_letters bytes version is h = record {
    decl = declared version;
    clients = 0;
    is_decl = declared_is version is;
    few = omega arith;
    is_part = part_before (letters.begins version) bytes (head_text (record { decl = declared version; clients = 0 })) h;
  }

  pub letters_fail : (bytes : List ℕ) (b : Broken) → MagicFailsBy letters bytes b → SceneFailsBy form letters.all bytes b
  letters_fail bytes broken.Memory h = absurd h
  letters_fail bytes (broken.Form BadMagic left) h = h
  letters_fail bytes (broken.Form BadCount left) h = absurd h
  letters_fail bytes (broken.Form UnknownOpcode left) h = absurd h
  letters_fail bytes (broken.Form Truncated left) h = (length bytes, inl (cut_letters bytes h.0 h.1 h.2, refl), omega (arith, h.3))
  letters_fail bytes (broken.Form Trailing left) h = absurd h

  cut_head : (version : ℕ) (bytes body : List ℕ) → bytes ≡ letters.begins version ++ body → CutOff head_text (IsHead form version) body → IsCutHeader form bytes
  cut_head version bytes body parts cut = record {
    decl = cut.value.decl;
    clients = cut.value.clients;
    is_decl = cut.fits.decl;
    few = cut.fits.clients;
    is_part = record {
      more = cut.more;
      parts = ap (λ (l : List ℕ). l ++ cut.more) parts ∙ append_assoc (letters.begins version) body cut.more ∙ ap (λ (l : List ℕ). letters.begins version ++ l) cut.whole
          ∙ ap (λ (v : ℕ). letters.begins v ++ head_text cut.value) (sym cut.fits.version);
      some = cut.some;
    };
  }

  head_cut : (version : ℕ) (bytes body : List ℕ) (f : Form) → bytes ≡ letters.begins version ++ body → (f ≡ forms.Truncated) × CutOff head_text (IsHead form version) body → SceneFailsBy form letters.all bytes (field_fault (errors.Form f))
  head_cut version bytes body (forms.BadCount left) parts h = let a = h.0 in absurd cc
  head_cut version bytes body (forms.Unknown left) parts h = let a = h.0 in absurd cc
  head_cut version bytes body forms.Truncated parts h = (length bytes, inl (cut_head version bytes body parts h.1, refl), omega arith)

  pub head_fails : (version : ℕ) → letters.IsDrawn version → (bytes body : List ℕ) (e : ReadError) → AreBytes bytes → bytes ≡ letters.begins version ++ body
      → Fails e (read_head version body) → SceneFailsBy form letters.all bytes (field_fault e)
  head_fails version is bytes body errors.Memory fits parts h = tt
  head_fails version is bytes body (errors.Form f) fits parts h = head_cut version bytes body f parts ((head_codec form version is).maker.cut body f (AreBytes-behind (letters.begins version) body (subst AreBytes parts fits)) h)

  -- a header, and then streams that spell these commands, and the rest
  pub record Stage (bytes : List ℕ) (decl : Decl) (clients count : ℕ) (streams : List (List C)) (rest : List ℕ) : Type 0 where
    pub texts : List (List ℕ)
    pub counted : length streams ≡ count
    pub is_decl : IsDeclOf form decl
    pub few : clients < 256
    pub each : SpellStreamsOf set texts streams
    pub parts : bytes ≡ header_of form decl clients ++ (flat_map stream_text texts ++ rest)

  pub stage_none : (version : ℕ) → letters.IsDrawn version → (bytes body : List ℕ) (h : Head) (rest : List ℕ) → AreBytes bytes → bytes ≡ letters.begins version ++ body
      → read_head version body ≡ Ok (h, rest) → Stage bytes h.decl h.clients 0 [] rest
  stage_none version is bytes body h rest fits parts read =
      let t = (head_codec form version is).maker.takes body h rest (AreBytes-behind (letters.begins version) body (subst AreBytes parts fits)) read in
      record {
        texts = [];
        counted = refl;
        is_decl = t.1.decl;
        few = t.1.clients;
        each = tt;
        parts = parts ∙ ap (λ (l : List ℕ). letters.begins version ++ l) t.0 ∙ sym (append_assoc (letters.begins version) (head_text h) rest)
            ∙ ap (λ (v : ℕ). (letters.begins v ++ head_text h) ++ rest) (sym t.1.version);
      }

  spell_more : (ts : List (List ℕ)) (css : List (List C)) (t : List ℕ) (cs : List C) → SpellStreamsOf set ts css → SpellsStreamOf set t cs → length t < 2 ^ 32 → SpellStreamsOf set (ts ++ t ∷ []) (css ++ cs ∷ [])
  spell_more [] [] t cs h spells fits = (spells, fits, tt)
  spell_more [] (ds ∷ dss) t cs h spells fits = absurd h
  spell_more (u ∷ us) [] t cs h spells fits = absurd h
  spell_more (u ∷ us) (ds ∷ dss) t cs h spells fits = (h.0, h.1, spell_more us dss t cs h.2 spells fits)

  text_more : (ts : List (List ℕ)) (t after : List ℕ) → flat_map stream_text ts ++ (stream_text t ++ after) ≡ flat_map stream_text (ts ++ t ∷ []) ++ after
  text_more ts t after =
      sym (append_assoc (flat_map stream_text ts) (stream_text t) after)
      ∙ ap (λ (l : List ℕ). l ++ after) (sym (flat_map-append stream_text ts (t ∷ []) ∙ ap (λ (l : List ℕ). flat_map stream_text ts ++ l) (flat_map-cons stream_text t [] ∙ append-nil (stream_text t))))

  pub stage_more : (bytes : List ℕ) (d : Decl) (n i : ℕ) (css : List (List C)) (rest : List ℕ) (cs : List C) (after : List ℕ)
      → Stage bytes d n i css rest → IsFirstText set rest cs after → Stage bytes d n (i + 1) (css ++ cs ∷ []) after
  stage_more bytes d n i css rest cs after s h = record {
    texts = s.texts ++ h.text ∷ [];
    counted = omega (arith, length-append css (cs ∷ []), s.counted);
    is_decl = s.is_decl;
    few = s.few;
    each = spell_more s.texts css h.text cs s.each h.spells h.fits;
    parts = s.parts ∙ ap (λ (l : List ℕ). header_of form d n ++ l) (ap (λ (l : List ℕ). flat_map stream_text s.texts ++ l) h.parts ∙ text_more s.texts h.text after);
  }

  front_of : (bytes : List ℕ) (d : Decl) (n i : ℕ) (css : List (List C)) (rest : List ℕ) (others : ℕ) → Stage bytes d n i css rest → i + others ≡ n → HasFront form bytes rest others
  front_of bytes d n i css rest others s count =
      let whole : n ≡ length css + others = omega (arith, s.counted) in
      record {
        decl = d;
        texts = s.texts;
        streams = css;
        is_decl = s.is_decl;
        each = s.each;
        few = omega (arith, s.few);
        parts = s.parts ∙ ap (λ (k : ℕ). header_of form d k ++ (flat_map stream_text s.texts ++ rest)) whole;
      }

  pub rest_size : (bytes rest : List ℕ) (others : ℕ) → HasFront form bytes rest others → length rest ≤ length bytes
  rest_size bytes rest others h =
      let n = length h.streams + others in
      omega (arith, ap length h.parts, length-append (header_of form h.decl n) (flat_map stream_text h.texts ++ rest), length-append (flat_map stream_text h.texts) rest)

  stream_fails : (bytes rest : List ℕ) (kind : SceneKind) (others left : ℕ) → HasFront form bytes rest (suc others) → FailsAsText set rest kind left → left ≤ length rest
      → (let at : ℕ = length bytes - left in FailsInStreams form bytes kind at × (at + left ≡ length bytes))
  stream_fails bytes rest kind others left front fails inside =
      let size = rest_size bytes rest (suc others) front in
      (record { rest = rest; others = others; left = left; front = front; fails = fails; place = omega arith }, omega arith)

  left_inside : (rest : List ℕ) (fault : ℕ → PackFault) (left : ℕ) → HasStreamFault set rest fault left → left ≤ length rest
  left_inside rest fault left h = omega (arith, h.left_is)

  pub stage_fails : (bytes : List ℕ) (d : Decl) (n i : ℕ) (css : List (List C)) (rest : List ℕ) (b : Broken) → Stage bytes d n i css rest → i < n → TextFailsBy set rest b → SceneFailsBy form letters.all bytes b
  stage_fails bytes d n i css rest broken.Memory s lt h = tt
  stage_fails bytes d n i css rest (broken.Form BadMagic left) s lt h = absurd h
  stage_fails bytes d n i css rest (broken.Form BadCount left) s lt h =
      let front = front_of bytes d n i css rest (suc (n - (i + 1))) s (omega arith) in
      let f = stream_fails bytes rest BadCount (n - (i + 1)) left front h (left_inside rest (λ at. faults.BadCount at) left h) in
      (length bytes - left, f.0, f.1)
  stage_fails bytes d n i css rest (broken.Form UnknownOpcode left) s lt h =
      let front = front_of bytes d n i css rest (suc (n - (i + 1))) s (omega arith) in
      let f = stream_fails bytes rest UnknownOpcode (n - (i + 1)) left front h (left_inside rest (λ at. faults.UnknownOpcode at) left h) in
      (length bytes - left, f.0, f.1)
  stage_fails bytes d n i css rest (broken.Form Truncated left) s lt h =
      let front = front_of bytes d n i css rest (suc (n - (i + 1))) s (omega arith) in
      let inside : left ≤ length rest = elim h [ inl cut ↦ omega (arith, cut.1) | inr inner ↦ left_inside rest (λ at. faults.Truncated at) left inner ] in
      let f = stream_fails bytes rest Truncated (n - (i + 1)) left front h inside in
      (length bytes - left, inr f.0, f.1)
  stage_fails bytes d n i css rest (broken.Form Trailing left) s lt h = absurd h

  pub stage_trailing : (bytes : List ℕ) (d : Decl) (n i : ℕ) (css : List (List C)) (rest : List ℕ) → Stage bytes d n i css rest → i ≡ n → 0 < length rest
      → (at : ℕ) × HasTrailing form bytes at × (at + length rest ≡ length bytes)
  stage_trailing bytes d n i css rest s all some =
      let front = front_of bytes d n i css rest 0 s (omega arith) in
      let size = rest_size bytes rest 0 front in
      (length bytes - length rest, record { rest = rest; front = front; some = some; place = omega arith }, omega arith)

  pub stage_done : (bytes : List ℕ) (d : Decl) (n i : ℕ) (css : List (List C)) (rest : List ℕ) → Stage bytes d n i css rest → i ≡ n → length rest ≡ 0
      → SpellsSceneOf form bytes d css
  stage_done bytes d n i css (b ∷ rest) s all none = absurd (omega arith)
  stage_done bytes d n i css [] s all none =
      let whole : n ≡ length css = omega (arith, s.counted) in
      record {
        texts = s.texts;
        each = s.each;
        few = omega (arith, s.few);
        decl = s.is_decl;
        parts = s.parts ∙ ap (λ (l : List ℕ). header_of form d n ++ l) (append-nil (flat_map stream_text s.texts)) ∙ ap (λ (k : ℕ). header_of form d k ++ flat_map stream_text s.texts) whole;
      }

pub some_left : (b : Bool) (n : ℕ) → b ≡ eqb n 0 → b ≡ false → 0 < n
some_left b n e f = let g : eqb n 0 ≡ false = sym e ∙ f in grind (arith, nat_tests)

pub none_left : (b : Bool) (n : ℕ) → b ≡ eqb n 0 → b ≡ true → n ≡ 0
none_left b n e f = let g : eqb n 0 ≡ true = sym e ∙ f in grind (arith, nat_tests)
