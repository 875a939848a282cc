-- Bytes that spell no scene have one fault, at one place.
use Rattle.std.proofs.Common.{◌≡◌, ℕ, suc, ◌+◌, ◌-◌, ◌<◌, ◌⊎◌, inl, inr, List, ◌∷◌, ◌++◌, length, get_or, refl, sym, ap, subst, ◌∙◌, append_assoc, arith}
use Rattle.std.specs.List.{flat_map}
use Rattle.std.proofs.Math.Seq.{get_or-append_seam}
use Rattle.std.proofs.lemmas.List.{get_or_append_left}
use Rattle.std.proofs.lemmas.Bool.{cases_lt}
use Rattle.rc_base.specs.declared.scene.SceneKind.{SceneKind}
use Rattle.rc_base.specs.declared.scene.SceneKind.TheVariants.{BadMagic, BadCount, UnknownOpcode, Truncated, Trailing}
use Rattle.rc_base.specs.Formats.Spelling.{CommandSet, SceneForm, stream_text}
use Rattle.packet_bytes.specs.declared.fault.PackFault.{PackFault}
use Rattle.packet_bytes.specs.declared.fault.PackFault.TheVariants as faults
use Rattle.packet_bytes.specs.Faults.{FailsAsStreamOf, IsFault, FaultsAreOneOf}
use Rattle.packet_bytes.specs.Sets.{SetReader, Agrees}
use Rattle.scene_file.specs.Letters.{Letters, form_of}
use Rattle.scene_file.specs.Faults.{Differs, DiffersFromAll, IsCutHeader, IsCutText, HasFront, HasStreamFault, FailsAsText, FailsInStreams, HasTrailing, FailsAsSceneOf}
use Rattle.scene_file.proofs.HeaderCodec.{head_text}
use Rattle.scene_file.proofs.Versions.{AreApart}
use Rattle.scene_file.proofs.OneScene.{same_text, first_of, none_of, fronts, cut_header_none, cut_text_none, differs_none, text_none}

-- ---- at a stream

abbrev kind_is : PackFault → SceneKind
kind_is (faults.BadCount at) = BadCount
kind_is (faults.UnknownOpcode at) = UnknownOpcode
kind_is (faults.Truncated at) = Truncated
kind_is faults.OutOfMemory = BadMagic

abbrev place_is : PackFault → ℕ
place_is (faults.BadCount at) = at
place_is (faults.UnknownOpcode at) = at
place_is (faults.Truncated at) = at
place_is faults.OutOfMemory = 0

-- ---- at the letters

differs_more : (letters bytes more : List ℕ) (at : ℕ) → Differs letters bytes at → Differs letters (bytes ++ more) at
differs_more letters bytes more at d = record {
  front = d.front;
  letter = d.letter;
  others = d.others;
  byte = d.byte;
  rest = d.rest ++ more;
  letters_are = d.letters_are;
  parts = ap (λ (l : List ℕ). l ++ more) d.parts ∙ append_assoc d.front (d.byte ∷ d.rest) more;
  differs = d.differs;
  place = d.place;
}

differs_within : (letters bytes : List ℕ) (m n : ℕ) → Differs letters bytes m → Differs letters bytes n → m < n → ⊥
differs_within letters bytes m n a b lt =
    let inside : length a.front < length b.front = omega (arith, a.place, b.place) in
    let k = length a.front in
    let byte : get_or bytes k 0 ≡ a.byte = ap (λ (l : List ℕ). get_or l k 0) a.parts ∙ get_or-append_seam a.front a.byte a.rest 0 in
    let letter : get_or letters k 0 ≡ a.letter = ap (λ (l : List ℕ). get_or l k 0) a.letters_are ∙ get_or-append_seam a.front a.letter a.others 0 in
    let byte_too : get_or bytes k 0 ≡ get_or b.front k 0 = ap (λ (l : List ℕ). get_or l k 0) b.parts ∙ get_or_append_left b.front (b.byte ∷ b.rest) 0 k inside in
    let letter_too : get_or letters k 0 ≡ get_or b.front k 0 = ap (λ (l : List ℕ). get_or l k 0) b.letters_are ∙ get_or_append_left b.front (b.letter ∷ b.others) 0 k inside in
    a.differs (sym byte ∙ byte_too ∙ sym letter_too ∙ letter)

differs_once : (letters bytes : List ℕ) (m n : ℕ) → Differs letters bytes m → Differs letters bytes n → m ≡ n
differs_once letters bytes m n a b =
    elim (cases_lt m n) [
      | inl lt ↦ absurd (differs_within letters bytes m n a b lt)
      | inr le ↦ elim (cases_lt n m) [ inl lt ↦ absurd (differs_within letters bytes n m b a lt) | inr ge ↦ omega arith ]
    ]

module _ {C O : Type 0} (set : CommandSet C O) (letters : Letters) (reader : SetReader C O) (laws : Agrees set reader) (apart : AreApart letters) where
  abbrev form : SceneForm C O
  form = form_of set letters

  -- a fault inside a stream whose bytes are all there
  record Inside (x : List ℕ) (kind : SceneKind) (left : ℕ) : Type 0 where
    fault : ℕ → PackFault
    has : HasStreamFault set x fault left
    is_form : (at : ℕ) → IsFault (fault at)
    kind_of : (at : ℕ) → kind_is (fault at) ≡ kind
    place_of : (at : ℕ) → place_is (fault at) ≡ at

  -- or a stream whose bytes are not all there
  record Cut (x : List ℕ) (kind : SceneKind) (left : ℕ) : Type 0 where
    cut : IsCutText x
    kind_of : kind ≡ Truncated
    none : left ≡ 0

  text_case : (x : List ℕ) (kind : SceneKind) (left : ℕ) → FailsAsText set x kind left → Cut x kind left ⊎ Inside x kind left
  text_case x BadMagic left h = absurd h
  text_case x BadCount left h = inr (record { fault = λ at. faults.BadCount at; has = h; is_form = λ at. tt; kind_of = λ at. refl; place_of = λ at. refl })
  text_case x UnknownOpcode left h = inr (record { fault = λ at. faults.UnknownOpcode at; has = h; is_form = λ at. tt; kind_of = λ at. refl; place_of = λ at. refl })
  text_case x Truncated left (inl cut) = inl (record { cut = cut.0; kind_of = refl; none = cut.1 })
  text_case x Truncated left (inr h) = inr (record { fault = λ at. faults.Truncated at; has = h; is_form = λ at. tt; kind_of = λ at. refl; place_of = λ at. refl })
  text_case x Trailing left h = absurd h

  inside_once : (FaultsAreOneOf set) → (x : List ℕ) (k l : SceneKind) (m n : ℕ) → Inside x k m → Inside x l n → (k ≡ l) × (m ≡ n)
  inside_once one x k l m n a b =
      let f = a.has in
      let g = b.has in
      let same = (same_text f.text g.text f.after g.after (sym f.parts ∙ g.parts) f.fits g.fits).0 in
      let fault = one g.text (a.fault f.inner) (b.fault g.inner) (subst (λ (t : List ℕ). FailsAsStreamOf set t (a.fault f.inner)) same f.fails) g.fails (a.is_form f.inner) (b.is_form g.inner) in
      let place : f.inner ≡ g.inner = sym (a.place_of f.inner) ∙ ap place_is fault ∙ b.place_of g.inner in
      (sym (a.kind_of f.inner) ∙ ap kind_is fault ∙ b.kind_of g.inner, omega (arith, f.left_is, g.left_is, place))

  text_once : (FaultsAreOneOf set) → (x : List ℕ) (k l : SceneKind) (m n : ℕ) → FailsAsText set x k m → FailsAsText set x l n → (k ≡ l) × (m ≡ n)
  text_once one x k l m n a b =
      elim (text_case x k m a) [
        | inl c ↦ elim (text_case x l n b) [
          | inl d ↦ (c.kind_of ∙ sym d.kind_of, c.none ∙ sym d.none)
          | inr d ↦ absurd (cut_text_none x c.cut d.has.text d.has.after d.has.fits d.has.parts)
        ]
        | inr c ↦ elim (text_case x l n b) [
          | inl d ↦ absurd (cut_text_none x d.cut c.has.text c.has.after c.has.fits c.has.parts)
          | inr d ↦ inside_once one x k l m n c d
        ]
      ]

  differs_cut : (bytes : List ℕ) (at : ℕ) → DiffersFromAll letters.all bytes at → IsCutHeader form bytes → ⊥
  differs_cut bytes at d cut =
      let m = letters.begins cut.decl.version in
      differs_none m (bytes ++ cut.is_part.more) at (head_text (record { decl = cut.decl; clients = cut.clients })) (differs_more m bytes cut.is_part.more at (apart.differs bytes at cut.decl.version cut.is_decl.version d)) cut.is_part.parts

  differs_front : (bytes rest : List ℕ) (at others : ℕ) → DiffersFromAll letters.all bytes at → HasFront form bytes rest others → ⊥
  differs_front bytes rest at others d f =
      let text = head_text (record { decl = f.decl; clients = length f.streams + others }) in
      let behind = flat_map stream_text f.texts ++ rest in
      differs_none (letters.begins f.decl.version) bytes at (text ++ behind) (apart.differs bytes at f.decl.version f.is_decl.version d) (f.parts ∙ append_assoc (letters.begins f.decl.version) text behind)

  letters_once : (bytes : List ℕ) (m n : ℕ) → DiffersFromAll letters.all bytes m → DiffersFromAll letters.all bytes n → m ≡ n
  letters_once bytes m n a b = differs_once (letters.begins apart.some) bytes m n (apart.differs bytes m apart.some apart.is_drawn a) (apart.differs bytes n apart.some apart.is_drawn b)

  cut_front : (bytes rest : List ℕ) (others : ℕ) → IsCutHeader form bytes → HasFront form bytes rest others → ⊥
  cut_front bytes rest others cut f = cut_header_none set letters reader laws apart bytes cut f.decl (length f.streams + others) (flat_map stream_text f.texts ++ rest) f.is_decl f.few f.parts

  -- ---- at the streams

  streams_below : (bytes : List ℕ) (k l : SceneKind) (m n : ℕ) (a : FailsInStreams form bytes k m) (b : FailsInStreams form bytes l n) → b.others < a.others → ⊥
  streams_below bytes k l m n a b lt =
      let count : suc a.others ≡ suc (a.others - suc b.others) + suc b.others = omega arith in
      text_none set letters reader laws apart a.rest k a.left a.fails (first_of set letters reader laws apart (a.others - suc b.others) a.rest b.rest (fronts set letters reader laws apart bytes a.rest b.rest (suc (a.others - suc b.others)) (suc b.others) (subst (HasFront form bytes a.rest) count a.front) b.front))

  streams_level : (FaultsAreOneOf set) → (bytes : List ℕ) (k l : SceneKind) (m n : ℕ) (a : FailsInStreams form bytes k m) (b : FailsInStreams form bytes l n) → a.others ≡ b.others → (k ≡ l) × (m ≡ n)
  streams_level one bytes k l m n a b level =
      let count : suc a.others ≡ 0 + suc b.others = omega arith in
      let same = none_of set letters reader laws apart a.rest b.rest (fronts set letters reader laws apart bytes a.rest b.rest 0 (suc b.others) (subst (HasFront form bytes a.rest) count a.front) b.front) in
      let once = text_once one b.rest k l a.left b.left (subst (λ (x : List ℕ). FailsAsText set x k a.left) same a.fails) b.fails in
      (once.0, omega (arith, a.place, b.place, once.1))

  streams_once : (FaultsAreOneOf set) → (bytes : List ℕ) (k l : SceneKind) (m n : ℕ) → FailsInStreams form bytes k m → FailsInStreams form bytes l n → (k ≡ l) × (m ≡ n)
  streams_once one bytes k l m n a b =
      elim (cases_lt a.others b.others) [
        | inl lt ↦ absurd (streams_below bytes l k n m b a lt)
        | inr le ↦ elim (cases_lt b.others a.others) [ inl lt ↦ absurd (streams_below bytes k l m n a b lt) | inr ge ↦ streams_level one bytes k l m n a b (omega arith) ]
      ]

  streams_trailing : (bytes : List ℕ) (k : SceneKind) (m n : ℕ) → FailsInStreams form bytes k m → HasTrailing form bytes n → ⊥
  streams_trailing bytes k m n a b =
      let count : suc a.others ≡ suc a.others + 0 = omega arith in
      text_none set letters reader laws apart a.rest k a.left a.fails (first_of set letters reader laws apart a.others a.rest b.rest (fronts set letters reader laws apart bytes a.rest b.rest (suc a.others) 0 (subst (HasFront form bytes a.rest) count a.front) b.front))

  trailing_once : (bytes : List ℕ) (m n : ℕ) → HasTrailing form bytes m → HasTrailing form bytes n → m ≡ n
  trailing_once bytes m n a b =
      let same = ap length (none_of set letters reader laws apart a.rest b.rest (fronts set letters reader laws apart bytes a.rest b.rest 0 0 a.front b.front)) in
      omega (arith, a.place, b.place, same)

  -- ---- all of them

  data Case (bytes : List ℕ) (kind : SceneKind) (at : ℕ) : Type 0 where
    apart_from : DiffersFromAll letters.all bytes at → kind ≡ BadMagic → Case bytes kind at
    cut : IsCutHeader form bytes → kind ≡ Truncated → at ≡ length bytes → Case bytes kind at
    streams : FailsInStreams form bytes kind at → Case bytes kind at
    trailing : HasTrailing form bytes at → kind ≡ Trailing → Case bytes kind at

  case_of : (bytes : List ℕ) (kind : SceneKind) (at : ℕ) → FailsAsSceneOf form letters.all bytes kind at → Case bytes kind at
  case_of bytes BadMagic at h = apart_from h refl
  case_of bytes BadCount at h = streams h
  case_of bytes UnknownOpcode at h = streams h
  case_of bytes Truncated at (inl h) = cut h.0 refl h.1
  case_of bytes Truncated at (inr h) = streams h
  case_of bytes Trailing at h = trailing h refl

  cases_once : (FaultsAreOneOf set) → (bytes : List ℕ) (k l : SceneKind) (m n : ℕ) → Case bytes k m → Case bytes l n → (k ≡ l) × (m ≡ n)
  cases_once one bytes k l m n (apart_from a p) (apart_from b q) = (p ∙ sym q, letters_once bytes m n a b)
  cases_once one bytes k l m n (apart_from a p) (cut b q e) = absurd (differs_cut bytes m a b)
  cases_once one bytes k l m n (apart_from a p) (streams b) = absurd (differs_front bytes b.rest m (suc b.others) a b.front)
  cases_once one bytes k l m n (apart_from a p) (trailing b q) = absurd (differs_front bytes b.rest m 0 a b.front)
  cases_once one bytes k l m n (cut a p d) (apart_from b q) = absurd (differs_cut bytes n b a)
  cases_once one bytes k l m n (cut a p d) (cut b q e) = (p ∙ sym q, d ∙ sym e)
  cases_once one bytes k l m n (cut a p d) (streams b) = absurd (cut_front bytes b.rest (suc b.others) a b.front)
  cases_once one bytes k l m n (cut a p d) (trailing b q) = absurd (cut_front bytes b.rest 0 a b.front)
  cases_once one bytes k l m n (streams a) (apart_from b q) = absurd (differs_front bytes a.rest n (suc a.others) b a.front)
  cases_once one bytes k l m n (streams a) (cut b q e) = absurd (cut_front bytes a.rest (suc a.others) b a.front)
  cases_once one bytes k l m n (streams a) (streams b) = streams_once one bytes k l m n a b
  cases_once one bytes k l m n (streams a) (trailing b q) = absurd (streams_trailing bytes k m n a b)
  cases_once one bytes k l m n (trailing a p) (apart_from b q) = absurd (differs_front bytes a.rest n 0 b a.front)
  cases_once one bytes k l m n (trailing a p) (cut b q e) = absurd (cut_front bytes a.rest 0 b a.front)
  cases_once one bytes k l m n (trailing a p) (streams b) = absurd (streams_trailing bytes l n m b a)
  cases_once one bytes k l m n (trailing a p) (trailing b q) = (p ∙ sym q, trailing_once bytes m n a b)

  pub fault_once : (FaultsAreOneOf set) → (bytes : List ℕ) (k l : SceneKind) (m n : ℕ) → FailsAsSceneOf form letters.all bytes k m → FailsAsSceneOf form letters.all bytes l n → (k ≡ l) × (m ≡ n)
  fault_once one bytes k l m n a b = cases_once one bytes k l m n (case_of bytes k m a) (case_of bytes l n b)
