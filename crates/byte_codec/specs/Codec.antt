-- A reader and a spelling that belong together: what is read was spelled so, what is spelled so is read, and where the bytes end
-- too early they go on to a spelling.
use Rattle.std.proofs.Common.{◌≡◌, ℕ, zero, suc, ◌<◌, List, [], ◌∷◌, ◌++◌, length, take, replicate, Result, Ok, Err, refl, sym, ap, subst, ◌∙◌, append_assoc, arith, ◌⊎◌, inl, inr, length-append, length-take}
use Rattle.std.proofs.lemmas.Bool.{cases_lt}
use Rattle.std.proofs.lemmas.List.{get_or-take, get_or_past}
use Rattle.byte_codec.specs.declared.fault.Form.{Form}
use Rattle.byte_codec.specs.declared.fault.Form.TheVariants.{Truncated}
use Rattle.rc_base.specs.Formats.Commands.{AreBytes}
use Rattle.byte_codec.specs.Reading.{◌>>=◌, sized, convert}

pub AreBytes-take : (n : ℕ) (bytes : List ℕ) → AreBytes bytes → AreBytes (take n bytes)
AreBytes-take n bytes h i =
    elim (cases_lt i n) [
      | inl lt ↦ rw (get_or-take n bytes i 0 lt) (h i)
      | inr le ↦ rw (get_or_past (take n bytes) i 0 (omega (arith, length-take n bytes))) (omega arith)
    ]

pub AreBytes-rest : (b : ℕ) (bytes : List ℕ) → AreBytes (b ∷ bytes) → AreBytes bytes
AreBytes-rest b bytes h i = h (suc i)

pub AreBytes-behind : (xs ys : List ℕ) → AreBytes (xs ++ ys) → AreBytes ys
AreBytes-behind [] ys h = h
AreBytes-behind (x ∷ xs) ys h = AreBytes-behind xs ys (AreBytes-rest x (xs ++ ys) h)

pub AreBytes-zeros : (n : ℕ) → AreBytes (replicate n 0)
AreBytes-zeros zero i = omega arith
AreBytes-zeros (suc n) zero = omega arith
AreBytes-zeros (suc n) (suc i) = AreBytes-zeros n i

pub AreBytes-both : (xs ys : List ℕ) → AreBytes xs → AreBytes ys → AreBytes (xs ++ ys)
AreBytes-both [] ys h k i = k i
AreBytes-both (x ∷ xs) ys h k zero = h zero
AreBytes-both (x ∷ xs) ys h k (suc i) = AreBytes-both xs ys (AreBytes-rest x xs h) k i

-- the value of a step that did not fail
pub bind_ok : {A B : Type 0} (r : Result A Form) (f : A → Result B Form) (y : B) → (r >>= f) ≡ Ok y → (x : A) × (r ≡ Ok x) × (f x ≡ Ok y)
bind_ok (Ok x) f y e = (x, refl, e)
bind_ok (Err d) f y e = absurd cc

abbrev failed : (A : Type 0) → Form → Result A Form
failed A c = Err c

err_is : (B : Type 0) (c d : Form) → failed B c ≡ Err d → c ≡ d
err_is B c d e = cc

pub ok_no_err : {A : Type 0} {x : A} {d : Form} → (let r : Result A Form = Ok x in r) ≡ Err d → ⊥
ok_no_err e = cc

abbrev pub BindFails : {A B : Type 0} → Result A Form → (A → Result B Form) → Form → Type 0
BindFails {A} r f d = (r ≡ Err d) ⊎ ((x : A) × (r ≡ Ok x) × (f x ≡ Err d))

-- the step that failed
pub bind_err : {A B : Type 0} (r : Result A Form) (f : A → Result B Form) (d : Form) → (r >>= f) ≡ Err d → BindFails r f d
bind_err (Ok x) f d e = inr (x, refl, e)
bind_err {A = A} {B = B} (Err c) f d e = inl (ap (failed A) (err_is B c d e))

-- ---- codecs

-- the bytes are a part of a spelling, and not the whole
pub record CutOff {A : Type 0} (spell : A → List ℕ) (Fits : A → Type 0) (bytes : List ℕ) : Type 0 where
  pub more : List ℕ
  pub value : A
  pub fits : Fits value
  pub whole : bytes ++ more ≡ spell value
  pub some : 0 < length more

-- what is read was spelled so, and what isn't goes on to a spelling
pub record Maker {A : Type 0} (read : List ℕ → Result (A × List ℕ) Form) (spell : A → List ℕ) (Fits : A → Type 0) : Type 0 where
  pub takes : (bytes : List ℕ) (a : A) (rest : List ℕ) → AreBytes bytes → read bytes ≡ Ok (a, rest) → (bytes ≡ spell a ++ rest) × Fits a
  pub cut : (bytes : List ℕ) (f : Form) → AreBytes bytes → read bytes ≡ Err f → (f ≡ Truncated) × CutOff spell Fits bytes
  pub some : (a : A) × Fits a

-- and what is spelled so is read
pub record Codec {A : Type 0} (read : List ℕ → Result (A × List ℕ) Form) (spell : A → List ℕ) (Fits : A → Type 0) : Type 0 where
  pub maker : Maker read spell Fits
  pub again : (a : A) (rest : List ℕ) → Fits a → read (spell a ++ rest) ≡ Ok (a, rest)

-- a part of a spelling, before more of it
extended : {A B : Type 0} (s : A → List ℕ) (F : A → Type 0) (t : A → B → List ℕ) (G : A → B → Type 0) (bytes : List ℕ)
    → CutOff s F bytes → ((a : A) → F a → (b : B) × G a b) → CutOff {A = A × B} (λ x. s x.0 ++ t x.0 x.1) (λ x. F x.0 × G x.0 x.1) bytes
extended s F t G bytes c next =
    let b = next c.value c.fits in
    record {
      more = c.more ++ t c.value b.0;
      value = (c.value, b.0);
      fits = (c.fits, b.1);
      whole = sym (append_assoc bytes c.more (t c.value b.0)) ∙ ap (λ (l : List ℕ). l ++ t c.value b.0) c.whole;
      some = omega (arith, length-append c.more (t c.value b.0), c.some);
    }

-- a whole spelling, and then a part of one
behind : {A B : Type 0} (s : A → List ℕ) (F : A → Type 0) (t : A → B → List ℕ) (G : A → B → Type 0) (bytes : List ℕ) (a : A) (after : List ℕ)
    → bytes ≡ s a ++ after → F a → CutOff (t a) (G a) after → CutOff {A = A × B} (λ x. s x.0 ++ t x.0 x.1) (λ x. F x.0 × G x.0 x.1) bytes
behind s F t G bytes a after parts fits c =
    record {
      more = c.more;
      value = (a, c.value);
      fits = (fits, c.fits);
      whole = ap (λ (l : List ℕ). l ++ c.more) parts ∙ append_assoc (s a) after c.more ∙ ap (λ (l : List ℕ). s a ++ l) c.whole;
      some = c.some;
    }

module _ {A B : Type 0} {p : List ℕ → Result (A × List ℕ) Form} {s : A → List ℕ} {F : A → Type 0}
    {q : A → List ℕ → Result (B × List ℕ) Form} {t : A → B → List ℕ} {G : A → B → Type 0} where
  pub sized_maker : Maker p s F → ((a : A) → F a → Maker (q a) (t a) (G a)) → Maker (sized p q) (λ x. s x.0 ++ t x.0 x.1) (λ x. F x.0 × G x.0 x.1)
  sized_maker first second = record {
    takes = λ bytes x rest fits e.
        let one = bind_ok (p bytes) (λ x. q x.0 x.1 >>= λ y. Ok ((x.0, y.0), y.1)) (x, rest) e in
        let two = bind_ok (q one.0.0 one.0.1) (λ y. Ok ((one.0.0, y.0), y.1)) (x, rest) one.2 in
        let a = one.0.0 in
        let after = one.0.1 in
        let b = two.0.0 in
        let front = first.takes bytes a after fits one.1 in
        let fits_after : AreBytes after = AreBytes-behind (s a) after (subst AreBytes front.0 fits) in
        let back = (second a front.1).takes after b two.0.1 fits_after two.1 in
        let made : Result ((A × B) × List ℕ) Form = Ok ((a, b), two.0.1) in
        let same : (let v : (A × B) × List ℕ = ((a, b), two.0.1) in v) ≡ (x, rest) = cc in
        let parts : bytes ≡ (s a ++ t a b) ++ two.0.1 = front.0 ∙ ap (λ (l : List ℕ). s a ++ l) back.0 ∙ sym (append_assoc (s a) (t a b) two.0.1) in
        subst (λ (v : (A × B) × List ℕ). (bytes ≡ (s v.0.0 ++ t v.0.0 v.0.1) ++ v.1) × (F v.0.0 × G v.0.0 v.0.1)) same (parts, (front.1, back.1));
    cut = λ bytes f fits e.
        elim (bind_err (p bytes) (λ x. q x.0 x.1 >>= λ y. Ok ((x.0, y.0), y.1)) f e) [
          | inl early ↦
              let c = first.cut bytes f fits early in
              (c.0, extended s F t G bytes c.1 (λ a ok. (second a ok).some))
          | inr late ↦
              let front = first.takes bytes late.0.0 late.0.1 fits late.1 in
              let fits_after : AreBytes late.0.1 = AreBytes-behind (s late.0.0) late.0.1 (subst AreBytes front.0 fits) in
              elim (bind_err (q late.0.0 late.0.1) (λ y. Ok ((late.0.0, y.0), y.1)) f late.2) [
                | inl failing ↦
                    let c = (second late.0.0 front.1).cut late.0.1 f fits_after failing in
                    (c.0, behind s F t G bytes late.0.0 late.0.1 front.0 front.1 c.1)
                | inr none ↦ absurd (ok_no_err none.2)
              ]
        ];
    some = ((first.some.0, (second first.some.0 first.some.1).some.0), (first.some.1, (second first.some.0 first.some.1).some.1));
  }

  pub sized_codec : Codec p s F → ((a : A) → F a → Codec (q a) (t a) (G a)) → Codec (sized p q) (λ x. s x.0 ++ t x.0 x.1) (λ x. F x.0 × G x.0 x.1)
  sized_codec first second = record {
    maker = sized_maker first.maker (λ a ok. (second a ok).maker);
    again = λ x rest fits.
        let one = first.again x.0 (t x.0 x.1 ++ rest) fits.0 in
        let two = (second x.0 fits.0).again x.1 rest fits.1 in
        ap (sized p q) (append_assoc (s x.0) (t x.0 x.1) rest) ∙ rw (one, two) refl;
  }

module _ {A B : Type 0} {p : List ℕ → Result (A × List ℕ) Form} {s : A → List ℕ} {F : A → Type 0} where
  pub convert_maker : (f : A → B) (t : B → List ℕ) (G : B → Type 0) → Maker p s F → ((a : A) → F a → (t (f a) ≡ s a) × G (f a)) → Maker (convert f p) t G
  convert_maker f t G c same = record {
    takes = λ bytes b rest fits e.
        let one = bind_ok (p bytes) (λ x. Ok (f x.0, x.1)) (b, rest) e in
        let a = one.0.0 in
        let got = c.takes bytes a one.0.1 fits one.1 in
        let made : (let v : B × List ℕ = (f a, one.0.1) in v) ≡ (b, rest) = cc in
        subst (λ (v : B × List ℕ). (bytes ≡ t v.0 ++ v.1) × G v.0) made (got.0 ∙ ap (λ (l : List ℕ). l ++ one.0.1) (sym (same a got.1).0), (same a got.1).1);
    cut = λ bytes d fits e.
        elim (bind_err (p bytes) (λ x. Ok (f x.0, x.1)) d e) [
          | inl early ↦
              let k = c.cut bytes d fits early in
              (k.0, record { more = k.1.more; value = f k.1.value; fits = (same k.1.value k.1.fits).1; whole = k.1.whole ∙ sym (same k.1.value k.1.fits).0; some = k.1.some })
          | inr none ↦ absurd (ok_no_err none.2)
        ];
    some = (f c.some.0, (same c.some.0 c.some.1).1);
  }

  pub convert_again : (f : A → B) → Codec p s F → (a : A) (rest : List ℕ) → F a → convert f p (s a ++ rest) ≡ Ok (f a, rest)
  convert_again f c a rest fits = rw (c.again a rest fits) refl

  -- the same by the value that is made: f makes each value that fits, of parts that fit, and its spelling is theirs
  pub convert_codec : (f : A → B) (t : B → List ℕ) (G : B → Type 0) → Codec p s F
      → ((a : A) → F a → (t (f a) ≡ s a) × G (f a)) → ((b : B) → G b → (a : A) × F a × (f a ≡ b)) → Codec (convert f p) t G
  convert_codec f t G c same back = record {
    maker = convert_maker f t G c.maker same;
    again = λ b rest fits.
        let a = back b fits in
        let text : t b ≡ s a.0 = ap t (sym a.2) ∙ (same a.0 a.1).0 in
        let done : (let r : Result (B × List ℕ) Form = Ok (f a.0, rest) in r) ≡ Ok (b, rest) = ap (λ (v : B). Ok (v, rest)) a.2 in
        ap (λ (l : List ℕ). convert f p (l ++ rest)) text ∙ convert_again f c a.0 rest a.1 ∙ done;
  }
