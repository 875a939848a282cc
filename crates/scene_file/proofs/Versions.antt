-- The letters of scenes, of which bytes begin with those of one version at most.
use Rattle.std.proofs.Common.{◌≡◌, ℕ, zero, suc, ◌+◌, ◌-◌, ◌<◌, ◌≤◌, List, [], ◌∷◌, ◌++◌, length, drop, get_or, ◌⊎◌, inl, inr, refl, sym, ap, subst, ◌∙◌, arith, length-append}
use Rattle.std.proofs.lemmas.Bool.{cases_eq}
use Rattle.rc_base.specs.Formats.Spelling.{IsVersion, letters, digit, magic, list_magic}
use Rattle.rc_base.specs.declared.scene.SceneKind.TheVariants.{BadMagic, BadCount, UnknownOpcode, Truncated, Trailing}
use Rattle.scene_lemmas.proofs.Formats.{digit_is_not_three}
use Rattle.scene_file.specs.declared.fault.Broken.{Broken}
use Rattle.scene_file.specs.declared.fault.Broken.TheVariants as broken
use Rattle.scene_file.specs.Letters.{Letters, plain_letters, list_letters}
use Rattle.scene_file.specs.Faults.{Differs, DiffersFromAll, IsProperPrefix, LettersFailBy, MagicFailsBy}
use Rattle.scene_file.proofs.LettersAtFront.{part_before, differs_longer, begins}

-- a fault of the bytes
abbrev pub IsForm : Broken → Type 0
IsForm broken.Memory = ⊥
IsForm (broken.Form kind left) = Unit {0}

-- the letters of a version stand at the front
pub record BeginsAs (letters : Letters) (bytes : List ℕ) : Type 0 where
  pub version : ℕ
  pub body : List ℕ
  pub is_drawn : letters.IsDrawn version
  pub parts : bytes ≡ letters.begins version ++ body

-- What is used of letters: there is a version, bytes begin as one version at most, and what differs from all letters differs from those of each version;
-- and bytes begin as a version, or have a fault among the letters.
pub record AreApart (letters : Letters) : Type 0 where
  pub some : ℕ
  pub is_drawn : letters.IsDrawn some
  pub same : (v w : ℕ) (x y : List ℕ) → letters.IsDrawn v → letters.IsDrawn w → letters.begins v ++ x ≡ letters.begins w ++ y → (v ≡ w) × (x ≡ y)
  pub differs : (bytes : List ℕ) (at version : ℕ) → letters.IsDrawn version → DiffersFromAll letters.all bytes at → Differs (letters.begins version) bytes at
  pub front : (bytes : List ℕ) → BeginsAs letters bytes ⊎ ((b : Broken) × IsForm b × MagicFailsBy letters bytes b)

-- ---- the two versions of scenes of the commands of the table

-- a version is 1 or 2
which_version : (version : ℕ) → IsVersion version → (version ≡ 1) ⊎ (version ≡ 2)
which_version zero h = absurd (omega (arith, h.0))
which_version (suc zero) h = inl refl
which_version (suc (suc zero)) h = inr refl
which_version (suc (suc (suc n))) h = absurd (omega (arith, h.1))

-- a place where bytes differ lies within them
differs_inside : (ls bytes : List ℕ) (at : ℕ) → Differs ls bytes at → at + (length bytes - at) ≡ length bytes
differs_inside ls bytes at d = omega (arith, ap length d.parts, length-append d.front (d.byte ∷ d.rest), d.place)

-- what differs from both magics differs from that of the version
differs_by : (bytes : List ℕ) (at version : ℕ) → IsVersion version → DiffersFromAll plain_letters.all bytes at → Differs (magic version) bytes at
differs_by bytes at version is d = elim (which_version version is) [
  | inl one ↦ subst (λ (v : ℕ). Differs (magic v) bytes at) (sym one) d.0
  | inr two ↦ subst (λ (v : ℕ). Differs (magic v) bytes at) (sym two) d.1
]

other_digit : (n : ℕ) → n ≡ 0x31 → n ≡ 0x32 → ⊥
other_digit n d e = absurd (omega (arith, d, e))

-- a version is told by its digit
same_version : (v w : ℕ) → IsVersion v → IsVersion w → digit v ≡ digit w → v ≡ w
same_version v w p q e = elim (which_version v p) [
  | inl one ↦ elim (which_version w q) [
    | inl one' ↦ one ∙ sym one'
    | inr two' ↦ absurd (other_digit (digit v) (ap digit one) (e ∙ ap digit two'))
  ]
  | inr two ↦ elim (which_version w q) [
    | inl one' ↦ absurd (other_digit (digit v) (e ∙ ap digit one') (ap digit two))
    | inr two' ↦ two ∙ sym two'
  ]
]

differs_both : (bytes : List ℕ) (at : ℕ) → Differs letters bytes at → Differs (magic 1) bytes at × Differs (magic 2) bytes at
differs_both bytes at d = (differs_longer letters (digit 1 ∷ []) bytes at d, differs_longer letters (digit 2 ∷ []) bytes at d)

-- another byte than the digits stands behind the letters
differs_digit : (bytes rest : List ℕ) (version byte : ℕ) → bytes ≡ letters ++ byte ∷ rest → (byte ≡ digit version → ⊥) → Differs (magic version) bytes 3
differs_digit bytes rest version byte parts ne = record {
  front = letters;
  letter = digit version;
  others = [];
  byte = byte;
  rest = rest;
  letters_are = refl;
  parts = parts;
  differs = ne;
  place = refl;
}

digits_differ : (bytes rest : List ℕ) (byte : ℕ) → bytes ≡ letters ++ byte ∷ rest → (byte ≡ digit 1 → ⊥) → (byte ≡ digit 2 → ⊥) → Differs (magic 1) bytes 3 × Differs (magic 2) bytes 3
digits_differ bytes rest byte parts one two = (differs_digit bytes rest 1 byte parts one, differs_digit bytes rest 2 byte parts two)

-- the bytes end among the letters, or behind them
letters_part : (bytes : List ℕ) → IsProperPrefix letters bytes → IsProperPrefix (magic 1) bytes
letters_part bytes h = part_before letters bytes (digit 1 ∷ []) h

letters_whole : (bytes : List ℕ) → bytes ≡ letters → IsProperPrefix (magic 1) bytes
letters_whole bytes e = record { more = digit 1 ∷ []; parts = ap (λ (l : List ℕ). l ++ digit 1 ∷ []) e; some = omega arith }

-- a fault among the letters
pub magic_fails : (bytes : List ℕ) (b : Broken) → LettersFailBy letters bytes b → MagicFailsBy plain_letters bytes b
magic_fails bytes broken.Memory h = absurd h
magic_fails bytes (broken.Form BadMagic left) h = (h.0, differs_both bytes h.0 h.1, h.2)
magic_fails bytes (broken.Form BadCount left) h = absurd h
magic_fails bytes (broken.Form UnknownOpcode left) h = absurd h
magic_fails bytes (broken.Form Truncated left) h = (1, (omega arith, omega arith), letters_part bytes h.0, h.1)
magic_fails bytes (broken.Form Trailing left) h = absurd h

-- no byte behind the letters, or another one than the digits
pub letters_end : (bytes rest : List ℕ) → bytes ≡ letters ++ rest → length rest < 1 → IsProperPrefix (magic 1) bytes
letters_end bytes [] e low = letters_whole bytes e
letters_end bytes (b ∷ rest) e low = absurd (omega (arith, low))

pub digit_fails : (bytes rest : List ℕ) → bytes ≡ letters ++ rest → 1 ≤ length rest → (get_or rest 0 0 ≡ digit 1 → ⊥) → (get_or rest 0 0 ≡ digit 2 → ⊥)
    → (at : ℕ) × (Differs (magic 1) bytes at × Differs (magic 2) bytes at) × (at + length rest ≡ length bytes)
digit_fails bytes [] e some one two = absurd (omega (arith, some))
digit_fails bytes (b ∷ rest) e some one two = (3, digits_differ bytes rest b e one two, omega (arith, ap length e))

-- the same where the bytes may begin with the letters
by_digit : (bytes body : List ℕ) → bytes ≡ letters ++ body → BeginsAs plain_letters bytes ⊎ ((b : Broken) × IsForm b × MagicFailsBy plain_letters bytes b)
by_digit bytes [] parts = inr (broken.Form Truncated 0, tt, (1, (omega arith, omega arith), letters_whole bytes parts, refl))
by_digit bytes (b ∷ body) parts = elim (cases_eq b (digit 1)) [
  | inl one ↦ inl (record { version = 1; body = body; is_drawn = (omega arith, omega arith); parts = parts ∙ ap (λ (d : ℕ). letters ++ d ∷ body) one })
  | inr not_one ↦ elim (cases_eq b (digit 2)) [
    | inl two ↦ inl (record { version = 2; body = body; is_drawn = (omega arith, omega arith); parts = parts ∙ ap (λ (d : ℕ). letters ++ d ∷ body) two })
    | inr not_two ↦
        let size : 3 + length (b ∷ body) ≡ length bytes = omega (arith, ap length parts) in
        inr (broken.Form BadMagic (length (b ∷ body)), tt, (3, digits_differ bytes body b parts not_one not_two, size))
  ]
]

plain_front : (bytes : List ℕ) → BeginsAs plain_letters bytes ⊎ ((b : Broken) × IsForm b × MagicFailsBy plain_letters bytes b)
plain_front bytes = elim (begins letters bytes) [
  | inl x ↦ by_digit bytes x.0 x.1
  | inr y ↦ elim y [
    | inl part ↦ inr (broken.Form Truncated 0, tt, (1, (omega arith, omega arith), letters_part bytes part, refl))
    | inr d ↦ inr (broken.Form BadMagic (length bytes - d.0), tt, (d.0, differs_both bytes d.0 d.1, differs_inside letters bytes d.0 d.1))
  ]
]

plain_same : (v w : ℕ) (x y : List ℕ) → IsVersion v → IsVersion w → magic v ++ x ≡ magic w ++ y → (v ≡ w) × (x ≡ y)
plain_same v w x y p q same = (same_version v w p q (ap (λ (l : List ℕ). get_or l 3 0) same), ap (drop 4) same)

pub plain_apart : AreApart plain_letters
plain_apart = record { some = 1; is_drawn = (omega arith, omega arith); same = plain_same; differs = differs_by; front = plain_front }

-- ---- scenes with call lists

pub list_magic_fails : (bytes : List ℕ) (b : Broken) → LettersFailBy list_magic bytes b → MagicFailsBy list_letters bytes b
list_magic_fails bytes broken.Memory h = absurd h
list_magic_fails bytes (broken.Form BadMagic left) h = h
list_magic_fails bytes (broken.Form BadCount left) h = absurd h
list_magic_fails bytes (broken.Form UnknownOpcode left) h = absurd h
list_magic_fails bytes (broken.Form Truncated left) h = (2, refl, h.0, h.1)
list_magic_fails bytes (broken.Form Trailing left) h = absurd h

list_front : (bytes : List ℕ) → BeginsAs list_letters bytes ⊎ ((b : Broken) × IsForm b × MagicFailsBy list_letters bytes b)
list_front bytes = elim (begins list_magic bytes) [
  | inl x ↦ inl (record { version = 2; body = x.0; is_drawn = refl; parts = x.1 })
  | inr y ↦ elim y [
    | inl part ↦ inr (broken.Form Truncated 0, tt, (2, refl, part, refl))
    | inr d ↦ inr (broken.Form BadMagic (length bytes - d.0), tt, (d.0, d.1, differs_inside list_magic bytes d.0 d.1))
  ]
]

list_same : (v w : ℕ) (x y : List ℕ) → v ≡ 2 → w ≡ 2 → list_magic ++ x ≡ list_magic ++ y → (v ≡ w) × (x ≡ y)
list_same v w x y p q same = (p ∙ sym q, ap (drop 4) same)

pub list_apart : AreApart list_letters
list_apart = record { some = 2; is_drawn = refl; same = list_same; differs = λ bytes at version is d. d; front = list_front }

-- ---- both

-- bytes of a scene of the commands of the table don't begin as those of one with call lists do
pub never_both : (version : ℕ) (x y : List ℕ) → IsVersion version → magic version ++ x ≡ list_magic ++ y → ⊥
never_both version x y is same = digit_is_not_three version is (ap (λ (l : List ℕ). get_or l 3 0) same)
