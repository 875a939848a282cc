-- A reader that may meet a byte that stands for nothing: what is read was spelled so, what is spelled so is read, and a fault is where no spelling
-- goes on.
use Rattle.std.proofs.Common.{◌≡◌, ℕ, zero, suc, ◌<◌, List, [], ◌∷◌, ◌++◌, length, Result, Ok, Err, Option, Some, None, refl, sym, ap, subst, ◌∙◌, append_assoc, arith, inl, inr, length-append}
use Rattle.std.specs.List.{AllByRecursion, flat_map}
use Rattle.std.proofs.lemmas.List.Concat.{flat_map-cons}
use Rattle.rc_base.specs.Formats.Commands.{AreBytes}
use Rattle.byte_codec.specs.declared.fault.Form.{Form}
use Rattle.byte_codec.specs.declared.fault.Form.TheVariants.{BadCount, Unknown, Truncated}
use Rattle.byte_codec.specs.Reading.{◌>>=◌, sized, convert, known, cons}
use Rattle.parcel_bytes.specs.Reading.{read_tag, second, read_times, read_counted}
use Rattle.byte_codec.specs.Codec.{AreBytes-behind, bind_ok, bind_err, ok_no_err, CutOff, Codec}

-- the bytes before it begin a spelling, and reading fails at it whatever follows
pub record HasUnknownByte {A : Type 0} (read : List ℕ → Result (A × List ℕ) Form) (spell : A → List ℕ) (Fits : A → Type 0) (bytes : List ℕ) (left : ℕ) : Type 0 where
  pub front : List ℕ
  pub byte : ℕ
  pub rest : List ℕ
  pub parts : bytes ≡ front ++ byte ∷ rest
  pub left_is : left ≡ length (byte ∷ rest)
  pub begins : CutOff spell Fits front
  pub firm : (more : List ℕ) → read (front ++ byte ∷ more) ≡ Err (Unknown (length (byte ∷ more)))

abbrev pub FailsAs : {A : Type 0} → (List ℕ → Result (A × List ℕ) Form) → (A → List ℕ) → (A → Type 0) → List ℕ → Form → Type 0
FailsAs read spell Fits bytes (BadCount left) = ⊥
FailsAs read spell Fits bytes (Unknown left) = HasUnknownByte read spell Fits bytes left
FailsAs read spell Fits bytes Truncated = CutOff spell Fits bytes

-- what is read was spelled so, and a fault is where no spelling goes on
pub record Reader {A : Type 0} (read : List ℕ → Result (A × List ℕ) Form) (spell : A → List ℕ) (Fits : A → Type 0) : Type 0 where
  pub takes : (bytes : List ℕ) (a : A) (rest : List ℕ) → AreBytes bytes → read bytes ≡ Ok (a, rest) → (bytes ≡ spell a ++ rest) × Fits a
  pub fails : (bytes : List ℕ) (f : Form) → AreBytes bytes → read bytes ≡ Err f → FailsAs read spell Fits bytes f
  pub some : (a : A) × Fits a

-- and what is spelled so is read
pub record Parser {A : Type 0} (read : List ℕ → Result (A × List ℕ) Form) (spell : A → List ℕ) (Fits : A → Type 0) : Type 0 where
  pub reader : Reader read spell Fits
  pub again : (a : A) (rest : List ℕ) → Fits a → read (spell a ++ rest) ≡ Ok (a, rest)

-- ---- a codec is a parser without strangers

module _ {A : Type 0} (read : List ℕ → Result (A × List ℕ) Form) (spell : A → List ℕ) (Fits : A → Type 0) where
  cut_fails : (bytes : List ℕ) (f : Form) → (f ≡ Truncated) × CutOff spell Fits bytes → FailsAs read spell Fits bytes f
  cut_fails bytes (BadCount left) c = absurd cc
  cut_fails bytes (Unknown left) c = absurd cc
  cut_fails bytes Truncated c = c.1

module _ {A : Type 0} {read : List ℕ → Result (A × List ℕ) Form} {spell : A → List ℕ} {Fits : A → Type 0} where
  pub codec_parser : Codec read spell Fits → Parser read spell Fits
  codec_parser c = record {
    reader = record {
      takes = c.maker.takes;
      fails = λ bytes f fits e. cut_fails read spell Fits bytes f (c.maker.cut bytes f fits e);
      some = c.maker.some;
    };
    again = c.again;
  }

-- ---- one thing, and then another that may depend on it

-- a part of a spelling, before more of it
extended : {A B : Type 0} (s : A → List ℕ) (F : A → Type 0) (t : A → B → List ℕ) (G : A → B → Type 0) (bytes : List ℕ)
    → CutOff s F bytes → ((a : A) → F a → (b : B) × G a b) → CutOff {A = A × B} (λ x. s x.0 ++ t x.0 x.1) (λ x. F x.0 × G x.0 x.1) bytes
extended s F t G bytes c next =
    let b = next c.value c.fits in
    record {
      more = c.more ++ t c.value b.0;
      value = (c.value, b.0);
      fits = (c.fits, b.1);
      whole = sym (append_assoc bytes c.more (t c.value b.0)) ∙ ap (λ (l : List ℕ). l ++ t c.value b.0) c.whole;
      some = omega (arith, length-append c.more (t c.value b.0), c.some);
    }

-- a whole spelling, and then a part of one
behind : {A B : Type 0} (s : A → List ℕ) (F : A → Type 0) (t : A → B → List ℕ) (G : A → B → Type 0) (bytes : List ℕ) (a : A) (after : List ℕ)
    → bytes ≡ s a ++ after → F a → CutOff (t a) (G a) after → CutOff {A = A × B} (λ x. s x.0 ++ t x.0 x.1) (λ x. F x.0 × G x.0 x.1) bytes
behind s F t G bytes a after parts fits c =
    record {
      more = c.more;
      value = (a, c.value);
      fits = (fits, c.fits);
      whole = ap (λ (l : List ℕ). l ++ c.more) parts ∙ append_assoc (s a) after c.more ∙ ap (λ (l : List ℕ). s a ++ l) c.whole;
      some = c.some;
    }

module _ {A B : Type 0} (p : List ℕ → Result (A × List ℕ) Form) (s : A → List ℕ) (F : A → Type 0)
    (q : A → List ℕ → Result (B × List ℕ) Form) (t : A → B → List ℕ) (G : A → B → Type 0) where
  early_fails : (bytes : List ℕ) (f : Form) → ((a : A) → F a → (b : B) × G a b) → FailsAs p s F bytes f
      → FailsAs (sized p q) (λ x. s x.0 ++ t x.0 x.1) (λ x. F x.0 × G x.0 x.1) bytes f
  early_fails bytes (BadCount left) next fails = fails
  early_fails bytes (Unknown left) next fails = record {
    front = fails.front;
    byte = fails.byte;
    rest = fails.rest;
    parts = fails.parts;
    left_is = fails.left_is;
    begins = extended s F t G fails.front fails.begins next;
    firm = λ more. rw (fails.firm more) refl;
  }
  early_fails bytes Truncated next fails = extended s F t G bytes fails next

  late_fails : (bytes : List ℕ) (a : A) (after : List ℕ) (f : Form) → ((a : A) (rest : List ℕ) → F a → p (s a ++ rest) ≡ Ok (a, rest))
      → bytes ≡ s a ++ after → F a → FailsAs (q a) (t a) (G a) after f
      → FailsAs (sized p q) (λ x. s x.0 ++ t x.0 x.1) (λ x. F x.0 × G x.0 x.1) bytes f
  late_fails bytes a after (BadCount left) again parts fits fails = fails
  late_fails bytes a after (Unknown left) again parts fits fails = record {
    front = s a ++ fails.front;
    byte = fails.byte;
    rest = fails.rest;
    parts = parts ∙ ap (λ (l : List ℕ). s a ++ l) fails.parts ∙ sym (append_assoc (s a) fails.front (fails.byte ∷ fails.rest));
    left_is = fails.left_is;
    begins = behind s F t G (s a ++ fails.front) a fails.front refl fits fails.begins;
    firm = λ more.
        ap (sized p q) (append_assoc (s a) fails.front (fails.byte ∷ more))
        ∙ rw (again a (fails.front ++ fails.byte ∷ more) fits, fails.firm more) refl;
  }
  late_fails bytes a after Truncated again parts fits fails = behind s F t G bytes a after parts fits fails

module _ {A B : Type 0} {p : List ℕ → Result (A × List ℕ) Form} {s : A → List ℕ} {F : A → Type 0}
    {q : A → List ℕ → Result (B × List ℕ) Form} {t : A → B → List ℕ} {G : A → B → Type 0} where
  pub sized_reader : Parser p s F → ((a : A) → F a → Reader (q a) (t a) (G a)) → Reader (sized p q) (λ x. s x.0 ++ t x.0 x.1) (λ x. F x.0 × G x.0 x.1)
  sized_reader first second_ = record {
    takes = λ bytes x rest fits e.
        let one = bind_ok (p bytes) (λ x. q x.0 x.1 >>= λ y. Ok ((x.0, y.0), y.1)) (x, rest) e in
        let two = bind_ok (q one.0.0 one.0.1) (λ y. Ok ((one.0.0, y.0), y.1)) (x, rest) one.2 in
        let a = one.0.0 in
        let after = one.0.1 in
        let b = two.0.0 in
        let front = first.reader.takes bytes a after fits one.1 in
        let fits_after : AreBytes after = AreBytes-behind (s a) after (subst AreBytes front.0 fits) in
        let back = (second_ a front.1).takes after b two.0.1 fits_after two.1 in
        let same : (let v : (A × B) × List ℕ = ((a, b), two.0.1) in v) ≡ (x, rest) = cc in
        let parts : bytes ≡ (s a ++ t a b) ++ two.0.1 = front.0 ∙ ap (λ (l : List ℕ). s a ++ l) back.0 ∙ sym (append_assoc (s a) (t a b) two.0.1) in
        subst (λ (v : (A × B) × List ℕ). (bytes ≡ (s v.0.0 ++ t v.0.0 v.0.1) ++ v.1) × (F v.0.0 × G v.0.0 v.0.1)) same (parts, (front.1, back.1));
    fails = λ bytes f fits e.
        elim (bind_err (p bytes) (λ x. q x.0 x.1 >>= λ y. Ok ((x.0, y.0), y.1)) f e) [
          | inl early ↦ early_fails p s F q t G bytes f (λ a ok. (second_ a ok).some) (first.reader.fails bytes f fits early)
          | inr late ↦
              let front = first.reader.takes bytes late.0.0 late.0.1 fits late.1 in
              let fits_after : AreBytes late.0.1 = AreBytes-behind (s late.0.0) late.0.1 (subst AreBytes front.0 fits) in
              elim (bind_err (q late.0.0 late.0.1) (λ y. Ok ((late.0.0, y.0), y.1)) f late.2) [
                | inl failing ↦ late_fails p s F q t G bytes late.0.0 late.0.1 f first.again front.0 front.1 ((second_ late.0.0 front.1).fails late.0.1 f fits_after failing)
                | inr none ↦ absurd (ok_no_err none.2)
              ]
        ];
    some = ((first.reader.some.0, (second_ first.reader.some.0 first.reader.some.1).some.0), (first.reader.some.1, (second_ first.reader.some.0 first.reader.some.1).some.1));
  }

  pub sized_parser : Parser p s F → ((a : A) → F a → Parser (q a) (t a) (G a)) → Parser (sized p q) (λ x. s x.0 ++ t x.0 x.1) (λ x. F x.0 × G x.0 x.1)
  sized_parser first second_ = record {
    reader = sized_reader first (λ a ok. (second_ a ok).reader);
    again = λ x rest fits.
        let one = first.again x.0 (t x.0 x.1 ++ rest) fits.0 in
        let two = (second_ x.0 fits.0).again x.1 rest fits.1 in
        ap (sized p q) (append_assoc (s x.0) (t x.0 x.1) rest) ∙ rw (one, two) refl;
  }

-- ---- the value that is made of what was read

module _ {A B : Type 0} (p : List ℕ → Result (A × List ℕ) Form) (s : A → List ℕ) (F : A → Type 0) where
  converted_cut : (f : A → B) (t : B → List ℕ) (G : B → Type 0) → ((a : A) → F a → (t (f a) ≡ s a) × G (f a)) → (bytes : List ℕ) → CutOff s F bytes → CutOff t G bytes
  converted_cut f t G same bytes c =
      record { more = c.more; value = f c.value; fits = (same c.value c.fits).1; whole = c.whole ∙ sym (same c.value c.fits).0; some = c.some }

  converted_fails : (f : A → B) (t : B → List ℕ) (G : B → Type 0) → ((a : A) → F a → (t (f a) ≡ s a) × G (f a))
      → (bytes : List ℕ) (d : Form) → FailsAs p s F bytes d → FailsAs (convert f p) t G bytes d
  converted_fails f t G same bytes (BadCount left) fails = fails
  converted_fails f t G same bytes (Unknown left) fails = record {
    front = fails.front;
    byte = fails.byte;
    rest = fails.rest;
    parts = fails.parts;
    left_is = fails.left_is;
    begins = converted_cut f t G same fails.front fails.begins;
    firm = λ more. rw (fails.firm more) refl;
  }
  converted_fails f t G same bytes Truncated fails = converted_cut f t G same bytes fails

module _ {A B : Type 0} {p : List ℕ → Result (A × List ℕ) Form} {s : A → List ℕ} {F : A → Type 0} where
  pub convert_reader : (f : A → B) (t : B → List ℕ) (G : B → Type 0) → Reader p s F → ((a : A) → F a → (t (f a) ≡ s a) × G (f a)) → Reader (convert f p) t G
  convert_reader f t G c same = record {
    takes = λ bytes b rest fits e.
        let one = bind_ok (p bytes) (λ x. Ok (f x.0, x.1)) (b, rest) e in
        let a = one.0.0 in
        let got = c.takes bytes a one.0.1 fits one.1 in
        let made : (let v : B × List ℕ = (f a, one.0.1) in v) ≡ (b, rest) = cc in
        subst (λ (v : B × List ℕ). (bytes ≡ t v.0 ++ v.1) × G v.0) made (got.0 ∙ ap (λ (l : List ℕ). l ++ one.0.1) (sym (same a got.1).0), (same a got.1).1);
    fails = λ bytes d fits e.
        elim (bind_err (p bytes) (λ x. Ok (f x.0, x.1)) d e) [
          | inl early ↦ converted_fails p s F f t G same bytes d (c.fails bytes d fits early)
          | inr none ↦ absurd (ok_no_err none.2)
        ];
    some = (f c.some.0, (same c.some.0 c.some.1).1);
  }

  pub convert_again : (f : A → B) → Parser p s F → (a : A) (rest : List ℕ) → F a → convert f p (s a ++ rest) ≡ Ok (f a, rest)
  convert_again f c a rest fits = rw (c.again a rest fits) refl

  -- f makes each value that fits, of parts that fit, and its spelling is theirs
  pub convert_parser : (f : A → B) (t : B → List ℕ) (G : B → Type 0) → Parser p s F
      → ((a : A) → F a → (t (f a) ≡ s a) × G (f a)) → ((b : B) → G b → (a : A) × F a × (f a ≡ b)) → Parser (convert f p) t G
  convert_parser f t G c same back = record {
    reader = convert_reader f t G c.reader same;
    again = λ b rest fits.
        let a = back b fits in
        let text : t b ≡ s a.0 = ap t (sym a.2) ∙ (same a.0 a.1).0 in
        let done : (let r : Result (B × List ℕ) Form = Ok (f a.0, rest) in r) ≡ Ok (b, rest) = ap (λ (v : B). Ok (v, rest)) a.2 in
        ap (λ (l : List ℕ). convert f p (l ++ rest)) text ∙ convert_again f c a.0 rest a.1 ∙ done;
  }

-- ---- bytes that stand for one of some things

-- the bytes of tags: a byte stands for what has that byte
pub record Tags {L : Type 0} (from : ℕ → Option L) (number : L → ℕ) (Fits : L → Type 0) : Type 0 where
  pub back : (b : ℕ) (l : L) → from b ≡ Some l → (b ≡ number l) × Fits l
  pub there : (l : L) → Fits l → from (number l) ≡ Some l
  pub one : (l : L) × Fits l

module _ {L : Type 0} (from : ℕ → Option L) (number : L → ℕ) (Fits : L → Type 0) where
  known_ok : (o : Option L) (left : ℕ) (l : L) → known o left ≡ Ok l → o ≡ Some l
  known_ok None left l e = absurd cc
  known_ok (Some m) left l e = cc

  known_err : (o : Option L) (left : ℕ) (f : Form) → known o left ≡ Err f → (o ≡ None) × (f ≡ Unknown left)
  known_err None left f e = (refl, cc)
  known_err (Some m) left f e = absurd cc

  tag_takes : Tags from number Fits → (bytes : List ℕ) (l : L) (rest : List ℕ) → read_tag from bytes ≡ Ok (l, rest) → (bytes ≡ number l ∷ rest) × Fits l
  tag_takes tags [] l rest e = absurd cc
  tag_takes tags (b ∷ bs) l rest e =
      let one = bind_ok (known (from b) (length (b ∷ bs))) (λ l. Ok (l, bs)) (l, rest) e in
      let back = tags.back b one.0 (known_ok (from b) (length (b ∷ bs)) one.0 one.1) in
      let same : (let v : L × List ℕ = (one.0, bs) in v) ≡ (l, rest) = cc in
      subst (λ (v : L × List ℕ). (b ∷ bs ≡ number v.0 ∷ v.1) × Fits v.0) same (ap (λ (x : ℕ). x ∷ bs) back.0, back.1)

  tag_begins : Tags from number Fits → CutOff (λ (l : L). number l ∷ []) Fits []
  tag_begins tags = record { more = number tags.one.0 ∷ []; value = tags.one.0; fits = tags.one.1; whole = refl; some = omega arith }

  unknown_byte : Tags from number Fits → (b : ℕ) (bs : List ℕ) → from b ≡ None → HasUnknownByte (read_tag from) (λ (l : L). number l ∷ []) Fits (b ∷ bs) (length (b ∷ bs))
  unknown_byte tags b bs none = record {
    front = [];
    byte = b;
    rest = bs;
    parts = refl;
    left_is = refl;
    begins = tag_begins tags;
    firm = λ more. rw none refl;
  }

  tag_fails : Tags from number Fits → (bytes : List ℕ) (f : Form) → read_tag from bytes ≡ Err f → FailsAs (read_tag from) (λ (l : L). number l ∷ []) Fits bytes f
  tag_fails tags [] f e = subst (FailsAs (read_tag from) (λ (l : L). number l ∷ []) Fits []) (let same : Truncated ≡ f = cc in same) (tag_begins tags)
  tag_fails tags (b ∷ bs) f e =
      elim (bind_err (known (from b) (length (b ∷ bs))) (λ l. Ok (l, bs)) f e) [
        | inl early ↦
            let none = known_err (from b) (length (b ∷ bs)) f early in
            subst (FailsAs (read_tag from) (λ (l : L). number l ∷ []) Fits (b ∷ bs)) (sym none.1) (unknown_byte tags b bs none.0)
        | inr late ↦ absurd (ok_no_err late.2)
      ]

module _ {L : Type 0} {from : ℕ → Option L} {number : L → ℕ} {Fits : L → Type 0} where
  pub tag_parser : Tags from number Fits → Parser (read_tag from) (λ (l : L). number l ∷ []) Fits
  tag_parser tags = record {
    reader = record {
      takes = λ bytes l rest fits e. tag_takes from number Fits tags bytes l rest e;
      fails = λ bytes f fits e. tag_fails from number Fits tags bytes f e;
      some = tags.one;
    };
    again = λ l rest fits. rw (tags.there l fits) refl;
  }

-- ---- so many things

abbrev pub AreAll : {A : Type 0} → (A → Type 0) → ℕ → List A → Type 0
AreAll F n xs = (length xs ≡ n) × AllByRecursion F xs

module _ {A : Type 0} (p : List ℕ → Result (A × List ℕ) Form) (s : A → List ℕ) (F : A → Type 0) where
  none_again : (xs : List A) (rest : List ℕ) → AreAll F 0 xs → read_times p 0 (flat_map s xs ++ rest) ≡ Ok (xs, rest)
  unfolding read_times
  none_again [] rest fits = refl
  none_again (x ∷ xs) rest fits = absurd (omega (arith, fits.0))

  none_parser : Parser (read_times p 0) (flat_map s) (AreAll F 0)
  unfolding read_times
  none_parser = record {
    reader = record {
      takes = λ bytes xs rest fits e.
          let same : (let v : List A × List ℕ = ([], bytes) in v) ≡ (xs, rest) = cc in
          subst (λ (v : List A × List ℕ). (bytes ≡ flat_map s v.0 ++ v.1) × AreAll F 0 v.0) same (refl, (refl, tt));
      fails = λ bytes f fits e. absurd cc;
      some = ([], (refl, tt));
    };
    again = none_again;
  }

module _ {A : Type 0} (F : A → Type 0) where
  abbrev TakenApart : ℕ → List A → Type 0
  TakenApart n xs = (x : A × List A) × (F x.0 × AreAll F n x.1) × (cons x ≡ xs)

  apart : (n : ℕ) (xs : List A) → AreAll F (suc n) xs → TakenApart n xs
  apart n [] fits = absurd (omega (arith, fits.0))
  apart n (x ∷ xs) fits = ((x, xs), (fits.1.0, (omega (arith, fits.0), fits.1.1)), refl)

abbrev pub counted_bytes : {A : Type 0} → (A → List ℕ) → (ℕ → List ℕ) → List A → List ℕ
counted_bytes s num xs = num (length xs) ++ flat_map s xs

abbrev pub AreCounted : {A : Type 0} → (A → Type 0) → ℕ → List A → Type 0
AreCounted F limit xs = (length xs < limit) × AllByRecursion F xs

module _ {A : Type 0} {p : List ℕ → Result (A × List ℕ) Form} {s : A → List ℕ} {F : A → Type 0} where
  pub times_parser : Parser p s F → (n : ℕ) → Parser (read_times p n) (flat_map s) (AreAll F n)
  unfolding read_times
  times_parser one zero = none_parser p s F
  times_parser one (suc n) =
      convert_parser cons (flat_map s) (AreAll F (suc n)) (sized_parser one (λ _ _. times_parser one n))
      (λ x fits. (flat_map-cons s x.0 x.1, (ap suc fits.1.0, (fits.0, fits.1.1))))
      (apart F n)

  -- their number first
  pub counted_parser : (count : List ℕ → Result (ℕ × List ℕ) Form) (num : ℕ → List ℕ) (limit : ℕ) → Parser count num (λ n. n < limit) → Parser p s F
      → Parser (read_counted count p) (counted_bytes s num) (AreCounted F limit)
  counted_parser count num limit numbers one =
      convert_parser second (counted_bytes s num) (AreCounted F limit) (sized_parser numbers (λ n _. times_parser one n))
      (λ x fits. (ap (λ (n : ℕ). num n ++ flat_map s x.1) fits.1.0, (subst (λ (n : ℕ). n < limit) (sym fits.1.0) fits.0, fits.1.1)))
      (λ xs fits. ((length xs, xs), (fits.0, (refl, fits.1)), refl))
