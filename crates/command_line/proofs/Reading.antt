-- Settings in turn.
use Rattle.std.proofs.Common.{◌≡◌, ◌≢◌, ℕ, ◌<◌, List, [], ◌∷◌, ◌++◌, Option, None, Some, MatchOption, length, sym, ap, subst, ◌∙◌, refl, arith}
use Rattle.command_line.specs.declared.job.JobName.{JobName}
use Rattle.command_line.specs.Words.{Setting, option_of, setting_words}
use Rattle.command_line.specs.Words.Setting.{TilesOf, DepthOf, WithOrder, SeedOf, SizeOf}
use Rattle.command_line.specs.declared.seen.Seen.{Seen}
use Rattle.command_line.specs.Begins.{Begins}
use Rattle.command_line.specs.Reads.{ReadsOptions, IsFree, with_option}
use Rattle.command_line.specs.Reads.ReadsOptions.{done, more}
use Rattle.command_line.proofs.OneSetting.{same_setting}

abbrev Text : Type 0
Text = List ℕ

-- a setting has words
fewer_words : (s : Setting) (rest : List Text) → length rest < length (setting_words s ++ rest)
fewer_words (TilesOf c r) rest = omega arith
fewer_words (DepthOf d) rest = omega arith
fewer_words WithOrder rest = omega arith
fewer_words (SeedOf n) rest = omega arith
fewer_words (SizeOf n) rest = omega arith

pub rest_is_shorter : {words rest : List Text} {s : Setting} → Begins words s rest → length rest < length words
rest_is_shorter {words} {rest} {s} b = omega (arith, fewer_words s rest, ap length b.parts)

-- what nothing is read of
pub none_begins : {job : JobName} {g : Seen} {words : List Text} → words ≢ [] → ((s : Setting) (rest : List Text) → Begins words s rest → ⊥)
    → (ss : List Setting) (last : Seen) → ReadsOptions job g words ss last → ⊥
none_begins some n [] last done = some refl
none_begins some n (s ∷ ss) last (more b f r) = n _ _ b

-- what is read begins with the setting
pub record Begun (job : JobName) (g last : Seen) (rest : List Text) (s : Setting) (ss : List Setting) : Type 0 where
  pub free : IsFree job g (option_of s)
  pub others : List Setting
  pub first : ss ≡ s ∷ others
  pub reads : ReadsOptions job (with_option g (option_of s)) rest others last

rest_read : {job : JobName} {g last : Seen} {words rest : List Text} {s : Setting} {ss : List Setting} → Begins words s rest → ReadsOptions job g words ss last
    → Begun job g last rest s ss
rest_read b done = let none : length _ < 0 = rest_is_shorter b in absurd (omega arith)
rest_read {job} {g} {last} {words} {rest} {s} b (more {s = t} {ss = ts} d f r) =
    let k = same_setting s t b d in
    record {
      free = subst (λ q. IsFree job g (option_of q)) (sym k.0) f;
      others = ts;
      first = ap (λ q. q ∷ ts) (sym k.0);
      reads = subst (λ q. ReadsOptions job (with_option g (option_of q)) rest ts last) (sym k.0) (subst (λ ws. ReadsOptions job (with_option g (option_of t)) ws ts last) (sym k.1) r);
    }

-- words are read in at most one way
pub one_reading : {job : JobName} {g last last' : Seen} {words : List Text} {ss ss' : List Setting} → ReadsOptions job g words ss last → ReadsOptions job g words ss' last'
    → (ss ≡ ss') × (last ≡ last')
one_reading done done = (refl, refl)
one_reading done (more b f r) = let none : length _ < 0 = rest_is_shorter b in absurd (omega arith)
one_reading (more {s = s} {ss = ts} b f r) k =
    let o = rest_read b k in
    let n = one_reading r o.reads in
    (ap (λ qs. s ∷ qs) n.0 ∙ sym o.first, n.1)

pub not_free : {job : JobName} {g : Seen} {words rest : List Text} {s : Setting} → Begins words s rest → (IsFree job g (option_of s) → ⊥)
    → (ss : List Setting) (last : Seen) → ReadsOptions job g words ss last → ⊥
not_free b n ss last r = n (rest_read b r).free

abbrev pub IsRead : JobName → Seen → List Text → Option Seen → Type 0
IsRead job g words r = MatchOption r ((ss : List Setting) (last : Seen) → ReadsOptions job g words ss last → ⊥) (λ last. (ss : List Setting) × ReadsOptions job g words ss last)

pub read_on : {job : JobName} {g : Seen} {words rest : List Text} {s : Setting} → Begins words s rest → IsFree job g (option_of s)
    → (r : Option Seen) → IsRead job (with_option g (option_of s)) rest r → IsRead job g words r
read_on b f None h = λ ss last r. let k = rest_read b r in h k.others last k.reads
read_on {s = s} b f (Some last) h = (s ∷ h.0, more b f h.1)

pub nothing_read : {job : JobName} {g : Seen} {words : List Text} → words ≡ [] → (ss : List Setting) × ReadsOptions job g words ss g
nothing_read {job} {g} e = ([], subst (λ ws. ReadsOptions job g ws [] g) (sym e) done)
