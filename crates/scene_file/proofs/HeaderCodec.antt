-- The codecs of a scene's header, and of a stream with its length.
use Rattle.std.proofs.Common.{◌≡◌, ℕ, zero, suc, ◌<◌, ◌^◌, List, [], ◌∷◌, ◌++◌, length, Result, Ok, refl, sym, ap, subst, arith}
use Rattle.std.specs.List.{flat_map, AllByRecursion}
use Rattle.std.specs.Int.{w16, w32}
use Rattle.std.proofs.lemmas.List.Concat.{flat_map-cons}
use Rattle.rc_base.specs.Formats.Commands.{AreBytes}
use Rattle.rc_base.specs.Formats.Spelling.{SceneForm, half, long, size, IsDeclOf, IsSide, IsSize, IsCount, stream_text}
use Rattle.byte_codec.specs.declared.fault.Form.{Form}
use Rattle.byte_codec.specs.Codec.{AreBytes-rest, Codec, sized_codec, convert_codec}
use Rattle.byte_codec.specs.NumberCodecs.{IsByte, one_byte, byte_codec, number_codec, run_codec, IsRun, wide16, wide32}
use Rattle.scene_file.specs.declared.header.Head.{Head}
use Rattle.byte_codec.specs.Reading.{cons}
use Rattle.scene_file.specs.Reading.{read_half, read_times, make_size, read_size, Front, make_head, read_head, second, read_text}

-- ---- so many things

abbrev pub AreTimes : {A : Type 0} → (A → Type 0) → ℕ → List A → Type 0
AreTimes F n xs = (length xs ≡ n) × AllByRecursion F xs

module _ {A : Type 0} {p : List ℕ → Result (A × List ℕ) Form} {s : A → List ℕ} {F : A → Type 0} (c : Codec p s F) where
  none_again : (xs : List A) (rest : List ℕ) → AreTimes F 0 xs → read_times p 0 (flat_map s xs ++ rest) ≡ Ok (xs, rest)
  unfolding read_times
  none_again [] rest fits = refl
  none_again (x ∷ xs) rest fits = absurd (omega (arith, fits.0))

  none_codec : Codec (read_times p 0) (flat_map s) (AreTimes F 0)
  unfolding read_times
  none_codec = record {
    maker = record {
      takes = λ bytes xs rest fits e.
          let same : (let v : List A × List ℕ = ([], bytes) in v) ≡ (xs, rest) = cc in
          subst (λ (v : List A × List ℕ). (bytes ≡ flat_map s v.0 ++ v.1) × AreTimes F 0 v.0) same (refl, (refl, tt));
      cut = λ bytes f fits e. absurd cc;
      some = ([], (refl, tt));
    };
    again = none_again;
  }

  cons_back : (n : ℕ) (xs : List A) → AreTimes F (suc n) xs → (x : A × List A) × (F x.0 × AreTimes F n x.1) × (cons x ≡ xs)
  cons_back n [] fits = absurd (omega (arith, fits.0))
  cons_back n (x ∷ xs) fits = ((x, xs), (fits.1.0, (omega (arith, fits.0), fits.1.1)), refl)

  pub times_codec : (n : ℕ) → Codec (read_times p n) (flat_map s) (AreTimes F n)
  unfolding read_times
  times_codec zero = none_codec
  times_codec (suc n) =
      convert_codec cons (flat_map s) (AreTimes F (suc n)) (sized_codec c (λ _ _. times_codec n))
      (λ x fits. (flat_map-cons s x.0 x.1, (ap suc fits.1.0, (fits.0, fits.1.1))))
      (cons_back n)

-- ---- the header

abbrev half_codec : Codec read_half half IsSide
half_codec = number_codec w16 (2 ^ 16) wide16

size_back : (sides : List ℕ) → IsSize sides → (x : ℕ × ℕ) × (IsSide x.0 × IsSide x.1) × (make_size x ≡ sides)
size_back [] fits = absurd (omega (arith, fits.0))
size_back (a ∷ []) fits = absurd (omega (arith, fits.0))
size_back (a ∷ b ∷ []) fits = ((a, b), (fits.1.0, fits.1.1.0), refl)
size_back (a ∷ b ∷ c ∷ sides) fits = absurd (omega (arith, fits.0))

size_codec : Codec read_size size IsSize
unfolding read_size
size_codec = convert_codec make_size size IsSize (sized_codec half_codec (λ _ _. half_codec)) (λ x fits. (refl, (refl, (fits.0, (fits.1, tt))))) size_back

all_bytes : (bytes : List ℕ) → AreBytes bytes → AllByRecursion IsCount bytes
all_bytes [] h = tt
all_bytes (b ∷ bytes) h = (h 0, all_bytes bytes (AreBytes-rest b bytes h))

pub are_bytes : (bytes : List ℕ) → AllByRecursion IsCount bytes → AreBytes bytes
are_bytes [] h i = omega arith
are_bytes (b ∷ bytes) h zero = h.0
are_bytes (b ∷ bytes) h (suc i) = are_bytes bytes h.1 i

-- what stands between the magic and the streams
abbrev pub head_text : Head → List ℕ
head_text h =
    half h.decl.width ++ (half h.decl.height
    ++ ((h.clients ∷ length h.decl.shared ∷ length h.decl.barriers ∷ length h.decl.semaphores ∷ [])
    ++ (flat_map size h.decl.shared ++ (h.decl.barriers ++ flat_map half h.decl.semaphores))))

abbrev IsFront : Front → Type 0
IsFront x = IsSide x.0 × (IsSide x.1.0 × (IsByte x.1.1.0 × (IsByte x.1.1.1.0 × (IsByte x.1.1.1.1.0 × IsByte x.1.1.1.1.1))))

abbrev front_text : Front → List ℕ
front_text x = half x.0 ++ (half x.1.0 ++ (one_byte x.1.1.0 ++ (one_byte x.1.1.1.0 ++ (one_byte x.1.1.1.1.0 ++ one_byte x.1.1.1.1.1))))

abbrev Lists : Type 0
Lists = List (List ℕ) × (List ℕ × List ℕ)

abbrev AreLists : Front → Lists → Type 0
AreLists x y = AreTimes IsSize x.1.1.1.0 y.0 × (IsRun x.1.1.1.1.0 y.1.0 × AreTimes IsSide x.1.1.1.1.1 y.1.1)

abbrev lists_text : Lists → List ℕ
lists_text y = flat_map size y.0 ++ (y.1.0 ++ flat_map half y.1.1)

module _ {C O : Type 0} (form : SceneForm C O) where
  pub record IsHead (v : ℕ) (h : Head) : Type 0 where
    pub decl : IsDeclOf form h.decl
    pub version : h.decl.version ≡ v
    pub clients : h.clients < 256

  head_same : (version : ℕ) → form.IsDrawn version → (x : Front × Lists) → IsFront x.0 × AreLists x.0 x.1
      → (head_text (make_head version x) ≡ front_text x.0 ++ lists_text x.1) × IsHead version (make_head version x)
  head_same version is_version x fits =
      let few = fits.0.1.1.1 in
      let shared = fits.1.0 in
      let barriers = fits.1.1.0 in
      let semaphores = fits.1.1.1 in (
        λ i. half x.0.0 ++ (half x.0.1.0 ++ ((x.0.1.1.0 ∷ shared.0 i ∷ barriers.0 i ∷ semaphores.0 i ∷ []) ++ lists_text x.1)),
        record {
          decl = record {
            version = is_version;
            width = fits.0.0;
            height = fits.0.1.0;
            few_shared = omega (arith, shared.0, few.0);
            few_barriers = omega (arith, barriers.0, few.1.0);
            few_semaphores = omega (arith, semaphores.0, few.1.1);
            shared = shared.1;
            barriers = all_bytes x.1.1.0 barriers.1;
            semaphores = semaphores.1;
          };
          version = refl;
          clients = fits.0.1.1.0;
        },
      )

  head_back : (version : ℕ) (h : Head) → IsHead version h → (x : Front × Lists) × (IsFront x.0 × AreLists x.0 x.1) × (make_head version x ≡ h)
  head_back version h is =
      let d = h.decl in (
        ((d.width, (d.height, (h.clients, (length d.shared, (length d.barriers, length d.semaphores))))), (d.shared, (d.barriers, d.semaphores))),
        (
          (is.decl.width, (is.decl.height, (is.clients, (is.decl.few_shared, (is.decl.few_barriers, is.decl.few_semaphores))))),
          ((refl, is.decl.shared), ((refl, are_bytes d.barriers is.decl.barriers), (refl, is.decl.semaphores))),
        ),
        λ i. record { decl = record { version = sym is.version i; width = d.width; height = d.height; shared = d.shared; barriers = d.barriers; semaphores = d.semaphores }; clients = h.clients },
      )

  pub head_codec : (version : ℕ) → form.IsDrawn version → Codec (read_head version) head_text (IsHead version)
  unfolding read_head
  head_codec version is_version =
      convert_codec (make_head version) head_text (IsHead version)
      (sized_codec {s = front_text} {F = IsFront} {t = λ _ y. lists_text y} {G = AreLists}
      (sized_codec half_codec (λ _ _. sized_codec half_codec (λ _ _. sized_codec byte_codec (λ _ _. sized_codec byte_codec (λ _ _. sized_codec byte_codec (λ _ _. byte_codec))))))
      (λ x _. sized_codec (times_codec size_codec x.1.1.1.0) (λ _ _. sized_codec (run_codec x.1.1.1.1.0) (λ _ _. times_codec half_codec x.1.1.1.1.1))))
      (head_same version is_version)
      (head_back version)

-- ---- a stream and its length

abbrev pub IsText : List ℕ → Type 0
IsText text = (length text < 2 ^ 32) × AreBytes text

pub text_codec : Codec read_text stream_text IsText
unfolding read_text
text_codec =
    convert_codec second stream_text IsText (sized_codec (number_codec w32 (2 ^ 32) wide32) (λ n _. run_codec n))
    (λ x fits. (λ i. long (fits.1.0 i) ++ x.1, (omega (arith, fits.0, fits.1.0), fits.1.1)))
    (λ t is. ((length t, t), (is.0, (refl, is.1)), refl))
