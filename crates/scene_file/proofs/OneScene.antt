-- Bytes spell one scene at most, and bytes with a fault spell none.
use Rattle.std.proofs.Common.{◌≡◌, ℕ, suc, ◌+◌, ◌<◌, ◌^◌, inl, inr, List, [], ◌∷◌, ◌++◌, length, get_or, Result, Ok, refl, sym, ap, subst, ◌∙◌, append_assoc, arith, length-append}
use Rattle.std.specs.List.{flat_map}
use Rattle.std.specs.Int.{w32}
use Rattle.std.proofs.lemmas.List.{append-nil}
use Rattle.std.proofs.lemmas.List.Concat.{flat_map-cons}
use Rattle.rc_base.specs.declared.scene.Decl.{Decl}
use Rattle.rc_base.specs.declared.scene.SceneKind.{SceneKind}
use Rattle.rc_base.specs.declared.scene.SceneKind.TheVariants.{BadMagic, BadCount, UnknownOpcode, Truncated, Trailing}
use Rattle.rc_base.specs.Formats.Spelling.{CommandSet, SceneForm, long, header_of, IsDeclOf, stream_text, SpellStreamsOf, SpellsStreamOf, SpellsSceneOf}
use Rattle.byte_codec.specs.declared.fault.Form.{Form}
use Rattle.packet_bytes.specs.declared.fault.PackFault.{PackFault}
use Rattle.packet_bytes.specs.declared.fault.PackFault.TheVariants as faults
use Rattle.packet_bytes.specs.Faults.{IsFault}
use Rattle.byte_codec.specs.Reading.{read_unsigned}
use Rattle.packet_bytes.specs.Sets.{SetReader, Agrees}
use Rattle.byte_codec.specs.NumberCodecs.{number_codec, wide32}
use Rattle.packet_bytes.proofs.OneSpelling.{one_spelling, fails_is_none}
use Rattle.plain_lemmas.proofs.Lists.{same_parts}
use Rattle.scene_file.specs.declared.header.Head.{Head}
use Rattle.scene_file.specs.Reading.{read_head}
use Rattle.scene_file.specs.Letters.{Letters, form_of}
use Rattle.scene_file.specs.Faults.{Differs, IsCutHeader, IsCutText, HasFront, HasStreamFault, FailsAsText, FailsInStreams, FailsAsSceneOf}
use Rattle.scene_file.proofs.HeaderCodec.{head_text, head_codec}
use Rattle.scene_file.proofs.Versions.{AreApart}

-- ---- what stands at the front

same_long : (a b : ℕ) (x y : List ℕ) → long a ++ x ≡ long b ++ y → a < 2 ^ 32 → b < 2 ^ 32 → (a ≡ b) × (x ≡ y)
same_long a b x y e p q =
    let c = number_codec w32 (2 ^ 32) wide32 in
    let both : (let r : Result (ℕ × List ℕ) Form = Ok (a, x) in r) ≡ Ok (b, y) = sym (c.again a x p) ∙ ap (read_unsigned w32) e ∙ c.again b y q in
    let pair : (let v : ℕ × List ℕ = (a, x) in v) ≡ (b, y) = cc in
    (ap (λ (v : ℕ × List ℕ). v.0) pair, ap (λ (v : ℕ × List ℕ). v.1) pair)

pub same_text : (t u x y : List ℕ) → stream_text t ++ x ≡ stream_text u ++ y → length t < 2 ^ 32 → length u < 2 ^ 32 → (t ≡ u) × (x ≡ y)
same_text t u x y e p q =
    let grouped : long (length t) ++ (t ++ x) ≡ long (length u) ++ (u ++ y) = sym (append_assoc (long (length t)) t x) ∙ e ∙ append_assoc (long (length u)) u y in
    let sizes = same_long (length t) (length u) (t ++ x) (u ++ y) grouped p q in
    same_parts t u x y sizes.0 sizes.1

head : Decl → ℕ → Head
head d n = record { decl = d; clients = n }

texts_cons : (t : List ℕ) (ts : List (List ℕ)) (x : List ℕ) → flat_map stream_text (t ∷ ts) ++ x ≡ stream_text t ++ (flat_map stream_text ts ++ x)
texts_cons t ts x = ap (λ (l : List ℕ). l ++ x) (flat_map-cons stream_text t ts) ∙ append_assoc (stream_text t) (flat_map stream_text ts) x

pub cut_text_none : (x : List ℕ) → IsCutText x → (text after : List ℕ) → length text < 2 ^ 32 → x ≡ stream_text text ++ after → ⊥
cut_text_none x cut text after fits parts =
    let more = cut.is_part.more in
    let grouped : stream_text text ++ (after ++ more) ≡ stream_text cut.text ++ [] =
    sym (append_assoc (stream_text text) after more) ∙ ap (λ (l : List ℕ). l ++ more) (sym parts) ∙ cut.is_part.parts ∙ sym (append-nil (stream_text cut.text)) in
    let none = (same_text text cut.text (after ++ more) [] grouped fits cut.fits).1 in
    absurd (omega (arith, ap length none, length-append after more, cut.is_part.some))

-- bytes that differ from letters don't begin with them
pub differs_none : (letters bytes : List ℕ) (at : ℕ) (x : List ℕ) → Differs letters bytes at → bytes ≡ letters ++ x → ⊥
differs_none letters bytes at x d parts =
    let grouped : d.front ++ (d.byte ∷ d.rest) ≡ d.front ++ (d.letter ∷ (d.others ++ x)) =
    sym d.parts ∙ parts ∙ ap (λ (l : List ℕ). l ++ x) d.letters_are ∙ append_assoc d.front (d.letter ∷ d.others) x in
    let behind = (same_parts d.front d.front (d.byte ∷ d.rest) (d.letter ∷ (d.others ++ x)) refl grouped).1 in
    d.differs (ap (λ (l : List ℕ). get_or l 0 0) behind)

module _ {C O : Type 0} (set : CommandSet C O) (letters : Letters) (reader : SetReader C O) (laws : Agrees set reader) (apart : AreApart letters) where
  abbrev form : SceneForm C O
  form = form_of set letters

  pub same_header : (d e : Decl) (n m : ℕ) (x y : List ℕ) → header_of form d n ++ x ≡ header_of form e m ++ y → IsDeclOf form d → n < 256 → IsDeclOf form e → m < 256 → (d ≡ e) × (n ≡ m) × (x ≡ y)
  unfolding head
  same_header d e n m x y same p few q few2 =
      let codec = head_codec form d.version p.version in
      let grouped : letters.begins d.version ++ (head_text (head d n) ++ x) ≡ letters.begins e.version ++ (head_text (head e m) ++ y) =
      sym (append_assoc (letters.begins d.version) (head_text (head d n)) x) ∙ same ∙ append_assoc (letters.begins e.version) (head_text (head e m)) y in
      let split = apart.same d.version e.version (head_text (head d n) ++ x) (head_text (head e m) ++ y) p.version q.version grouped in
      let both : (let r : Result (Head × List ℕ) Form = Ok (head d n, x) in r) ≡ Ok (head e m, y) =
      sym (codec.again (head d n) x (record { decl = p; version = refl; clients = few })) ∙ ap (read_head d.version) split.1
      ∙ codec.again (head e m) y (record { decl = q; version = sym split.0; clients = few2 }) in
      let pair : (let v : Head × List ℕ = (head d n, x) in v) ≡ (head e m, y) = cc in
      (ap (λ (v : Head × List ℕ). v.0.decl) pair, ap (λ (v : Head × List ℕ). v.0.clients) pair, ap (λ (v : Head × List ℕ). v.1) pair)

  -- ---- streams

  -- what is left of streams when some at their front are taken away
  pub record Left (count : ℕ) (x y : List ℕ) : Type 0 where
    pub texts : List (List ℕ)
    pub streams : List (List C)
    pub each : SpellStreamsOf set texts streams
    pub counted : length streams ≡ count
    pub parts : x ≡ flat_map stream_text texts ++ y

  pub strip : (ts us : List (List ℕ)) (css dss : List (List C)) (x y : List ℕ) (others : ℕ) → SpellStreamsOf set ts css → SpellStreamsOf set us dss → length css + others ≡ length dss
      → flat_map stream_text ts ++ x ≡ flat_map stream_text us ++ y → Left others x y
  strip [] us [] dss x y others p q count e = record { texts = us; streams = dss; each = q; counted = omega arith; parts = e }
  strip [] us (cs ∷ css) dss x y others p q count e = absurd p
  strip (t ∷ ts) us [] dss x y others p q count e = absurd p
  strip (t ∷ ts) us (cs ∷ css) [] x y others p q count e = absurd (omega arith)
  strip (t ∷ ts) [] (cs ∷ css) (ds ∷ dss) x y others p q count e = absurd q
  strip (t ∷ ts) (u ∷ us) (cs ∷ css) (ds ∷ dss) x y others p q count e =
      let grouped : stream_text t ++ (flat_map stream_text ts ++ x) ≡ stream_text u ++ (flat_map stream_text us ++ y) = sym (texts_cons t ts x) ∙ e ∙ texts_cons u us y in
      strip ts us css dss x y others p.2 q.2 (omega arith) (same_text t u (flat_map stream_text ts ++ x) (flat_map stream_text us ++ y) grouped p.1 q.1).1

  -- a stream that is spelled stands at the front
  pub record HasText (x : List ℕ) : Type 0 where
    pub text : List ℕ
    pub commands : List C
    pub after : List ℕ
    pub spells : SpellsStreamOf set text commands
    pub fits : length text < 2 ^ 32
    pub parts : x ≡ stream_text text ++ after

  first_in : (count : ℕ) (x y : List ℕ) (ts : List (List ℕ)) (css : List (List C)) → SpellStreamsOf set ts css → length css ≡ suc count → x ≡ flat_map stream_text ts ++ y → HasText x
  first_in count x y [] [] each counted parts = absurd (omega arith)
  first_in count x y [] (cs ∷ css) each counted parts = absurd each
  first_in count x y (t ∷ ts) [] each counted parts = absurd each
  first_in count x y (t ∷ ts) (cs ∷ css) each counted parts = record { text = t; commands = cs; after = flat_map stream_text ts ++ y; spells = each.0; fits = each.1; parts = parts ∙ texts_cons t ts y }

  pub first_of : (count : ℕ) (x y : List ℕ) → Left (suc count) x y → HasText x
  first_of count x y l = first_in count x y l.texts l.streams l.each l.counted l.parts

  none_in : (x y : List ℕ) (ts : List (List ℕ)) (css : List (List C)) → SpellStreamsOf set ts css → length css ≡ 0 → x ≡ flat_map stream_text ts ++ y → x ≡ y
  none_in x y [] css each counted parts = parts
  none_in x y (t ∷ ts) [] each counted parts = absurd each
  none_in x y (t ∷ ts) (cs ∷ css) each counted parts = absurd (omega arith)

  pub none_of : (x y : List ℕ) → Left 0 x y → x ≡ y
  none_of x y l = none_in x y l.texts l.streams l.each l.counted l.parts

  -- two fronts of the same bytes
  pub fronts : (bytes x y : List ℕ) (more others : ℕ) → HasFront form bytes x (more + others) → HasFront form bytes y others → Left more x y
  fronts bytes x y more others f g =
      let n = length f.streams + (more + others) in
      let m = length g.streams + others in
      let same = same_header f.decl g.decl n m (flat_map stream_text f.texts ++ x) (flat_map stream_text g.texts ++ y) (sym f.parts ∙ g.parts) f.is_decl f.few g.is_decl g.few in
      strip f.texts g.texts f.streams g.streams x y more f.each g.each (omega (arith, same.1)) same.2

  -- a front and the whole
  pub front_left : (bytes rest : List ℕ) (others : ℕ) → HasFront form bytes rest others → (d : Decl) (css : List (List C)) → SpellsSceneOf form bytes d css → Left others rest []
  front_left bytes rest others f d css sp =
      let n = length f.streams + others in
      let m = length css in
      let whole : bytes ≡ header_of form d m ++ (flat_map stream_text sp.texts ++ []) = sp.parts ∙ ap (λ (l : List ℕ). header_of form d m ++ l) (sym (append-nil (flat_map stream_text sp.texts))) in
      let same = same_header f.decl d n m (flat_map stream_text f.texts ++ rest) (flat_map stream_text sp.texts ++ []) (sym f.parts ∙ whole) f.is_decl f.few sp.decl sp.few in
      strip f.texts sp.texts f.streams css rest [] others f.each sp.each same.1 same.2

  pub cut_header_none : (bytes : List ℕ) → IsCutHeader form bytes → (d : Decl) (n : ℕ) (x : List ℕ) → IsDeclOf form d → n < 256 → bytes ≡ header_of form d n ++ x → ⊥
  cut_header_none bytes cut d n x is few parts =
      let more = cut.is_part.more in
      let grouped : header_of form d n ++ (x ++ more) ≡ header_of form cut.decl cut.clients ++ [] =
      sym (append_assoc (header_of form d n) x more) ∙ ap (λ (l : List ℕ). l ++ more) (sym parts) ∙ cut.is_part.parts ∙ sym (append-nil (header_of form cut.decl cut.clients)) in
      let none = (same_header d cut.decl n cut.clients (x ++ more) [] grouped is few cut.is_decl cut.few).2 in
      absurd (omega (arith, ap length none, length-append x more, cut.is_part.some))

  -- ---- whole scenes

  same_streams : (ts us : List (List ℕ)) (css dss : List (List C)) → SpellStreamsOf set ts css → SpellStreamsOf set us dss → length css ≡ length dss → flat_map stream_text ts ≡ flat_map stream_text us → css ≡ dss
  same_streams [] us [] [] p q count e = refl
  same_streams [] us [] (ds ∷ dss) p q count e = absurd (omega arith)
  same_streams [] us (cs ∷ css) dss p q count e = absurd p
  same_streams (t ∷ ts) us [] dss p q count e = absurd p
  same_streams (t ∷ ts) us (cs ∷ css) [] p q count e = absurd (omega arith)
  same_streams (t ∷ ts) [] (cs ∷ css) (ds ∷ dss) p q count e = absurd q
  same_streams (t ∷ ts) (u ∷ us) (cs ∷ css) (ds ∷ dss) p q count e =
      let grouped : stream_text t ++ flat_map stream_text ts ≡ stream_text u ++ flat_map stream_text us = sym (flat_map-cons stream_text t ts) ∙ e ∙ flat_map-cons stream_text u us in
      let same = same_text t u (flat_map stream_text ts) (flat_map stream_text us) grouped p.1 q.1 in
      let first = one_spelling set reader laws u cs ds (subst (λ (l : List ℕ). SpellsStreamOf set l cs) same.0 p.0) q.0 in
      let others = same_streams ts us css dss p.2 q.2 (omega arith) same.1 in
      λ i. first i ∷ others i

  pub same_scene : (bytes : List ℕ) (d e : Decl) (css dss : List (List C)) → SpellsSceneOf form bytes d css → SpellsSceneOf form bytes e dss → (d ≡ e) × (css ≡ dss)
  same_scene bytes d e css dss p q =
      let x = flat_map stream_text p.texts in
      let y = flat_map stream_text q.texts in
      let same = same_header d e (length css) (length dss) x y (sym p.parts ∙ q.parts) p.decl p.few q.decl q.few in
      (same.0, same_streams p.texts q.texts css dss p.each q.each same.1 same.2)

  stream_fault_none : (x : List ℕ) (fault : ℕ → PackFault) (left : ℕ) → ((at : ℕ) → IsFault (fault at)) → HasStreamFault set x fault left → HasText x → ⊥
  stream_fault_none x fault left is h t =
      let same = (same_text t.text h.text t.after h.after (sym t.parts ∙ h.parts) t.fits h.fits).0 in
      fails_is_none set reader laws h.text (fault h.inner) t.commands h.fails (is h.inner) (subst (λ (l : List ℕ). SpellsStreamOf set l t.commands) same t.spells)

  pub text_none : (x : List ℕ) (kind : SceneKind) (left : ℕ) → FailsAsText set x kind left → HasText x → ⊥
  text_none x BadMagic left h t = absurd h
  text_none x BadCount left h t = stream_fault_none x (λ at. faults.BadCount at) left (λ at. tt) h t
  text_none x UnknownOpcode left h t = stream_fault_none x (λ at. faults.UnknownOpcode at) left (λ at. tt) h t
  text_none x Truncated left (inl cut) t = cut_text_none x cut.0 t.text t.after t.fits t.parts
  text_none x Truncated left (inr h) t = stream_fault_none x (λ at. faults.Truncated at) left (λ at. tt) h t
  text_none x Trailing left h t = absurd h

  in_streams_none : (bytes : List ℕ) (kind : SceneKind) (at : ℕ) (d : Decl) (css : List (List C)) → FailsInStreams form bytes kind at → SpellsSceneOf form bytes d css → ⊥
  in_streams_none bytes kind at d css h sp = text_none h.rest kind h.left h.fails (first_of h.others h.rest [] (front_left bytes h.rest (suc h.others) h.front d css sp))

  -- a fault excludes each scene
  pub scene_none : (bytes : List ℕ) (kind : SceneKind) (at : ℕ) (d : Decl) (css : List (List C)) → FailsAsSceneOf form letters.all bytes kind at → SpellsSceneOf form bytes d css → ⊥
  unfolding head
  scene_none bytes BadMagic at d css h sp =
      let text = head_text (head d (length css)) in
      differs_none (letters.begins d.version) bytes at (text ++ flat_map stream_text sp.texts) (apart.differs bytes at d.version sp.decl.version h)
      (sp.parts ∙ append_assoc (letters.begins d.version) text (flat_map stream_text sp.texts))
  scene_none bytes BadCount at d css h sp = in_streams_none bytes BadCount at d css h sp
  scene_none bytes UnknownOpcode at d css h sp = in_streams_none bytes UnknownOpcode at d css h sp
  scene_none bytes Truncated at d css (inl cut) sp = cut_header_none bytes cut.0 d (length css) (flat_map stream_text sp.texts) sp.decl sp.few sp.parts
  scene_none bytes Truncated at d css (inr h) sp = in_streams_none bytes Truncated at d css h sp
  scene_none bytes Trailing at d css h sp = absurd (omega (arith, ap length (none_of h.rest [] (front_left bytes h.rest 0 h.front d css sp)), h.some))
