-- What is read of a job's words is the line of its settings.
use Rattle.std.proofs.Common.{◌≡◌, ◌≢◌, ℕ, true, false, List, [], ◌∷◌, ◌++◌, ◌⊎◌, inl, inr, Some, map, sym, ap, subst, ◌∙◌, refl}
use Rattle.std.specs.List.{flat_map, AllByRecursion}
use Rattle.rc_base.specs.Lists.{IsIn, NoRepeat}
use Rattle.command_line.specs.declared.job.JobName.{JobName}
use Rattle.command_line.specs.declared.job.OptionName.{OptionName}
use Rattle.command_line.specs.Words.{Setting, option_of, options_of, options_due, setting_words, job_word, IsSetting, IsCommandLine}
use Rattle.command_line.specs.declared.job.OptionName.TheVariants.{Tiles, Depth, Order, Seed, Size}
use Rattle.command_line.specs.declared.job.JobName.TheVariants.{Render, Simulate, Serial, Last, Check, Race, Pack, Unpack, Gen, Demo}
use Rattle.command_line.proofs.OneRow.{row_in, one_row}
use Rattle.command_line.proofs.Reading.{one_reading}
use Rattle.command_line.specs.declared.seen.Seen.{Seen}
use Rattle.command_line.specs.Begins.{Begins}
use Rattle.command_line.specs.Reads.{ReadsOptions, IsFree, nothing, has, with_option}
use Rattle.command_line.specs.Reads.ReadsOptions.{done, more}

abbrev Text : Type 0
Text = List ℕ

-- ---- one more setting

-- with one more option, that option was seen, and each other one as before
has_with : (g : Seen) (p o : OptionName) → ((o ≡ p) × (has (with_option g p) o ≡ true)) ⊎ ((o ≢ p) × (has (with_option g p) o ≡ has g o))
has_with g Tiles Tiles = inl (refl, refl)
has_with g Depth Depth = inl (refl, refl)
has_with g Order Order = inl (refl, refl)
has_with g Seed Seed = inl (refl, refl)
has_with g Size Size = inl (refl, refl)
has_with g p o = inr (λ e. absurd cc, refl)

-- ---- what the settings that were read are

pub record Told (job : JobName) (g : Seen) (words : List Text) (ss : List Setting) (last : Seen) : Type 0 where
  pub parts : words ≡ flat_map setting_words ss
  pub each : AllByRecursion IsSetting ss
  pub taken : (o : OptionName) → IsIn o (map option_of ss) → IsIn o (options_of job)
  pub new : (o : OptionName) → IsIn o (map option_of ss) → has g o ≡ false
  pub once : NoRepeat (map option_of ss)
  pub kept : (o : OptionName) → has g o ≡ true → has last o ≡ true
  pub seen : (o : OptionName) → IsIn o (map option_of ss) → has last o ≡ true
  pub found : (o : OptionName) → has last o ≡ true → (has g o ≡ true) ⊎ IsIn o (map option_of ss)

told_more : {job : JobName} {g last : Seen} {words rest : List Text} {s : Setting} {ss : List Setting}
    → Begins words s rest → IsFree job g (option_of s) → Told job (with_option g (option_of s)) rest ss last → Told job g words (s ∷ ss) last
told_more {job} {g} {last} {words} {rest} {s} {ss} b f t = record {
  parts = b.parts ∙ ap (λ ws. setting_words s ++ ws) t.parts;
  each = (b.fits, t.each);
  taken = λ o i. elim i [ inl e ↦ subst (λ p. IsIn p (options_of job)) e f.taken | inr later ↦ t.taken o later ];
  new = λ o i. elim i [ inl e ↦ subst (λ p. has g p ≡ false) e f.new | inr later ↦ new_later o later ];
  once = (λ i. elim (has_with g (option_of s) (option_of s)) [ inl h ↦ (let no = t.new (option_of s) i in absurd cc) | inr h ↦ h.0 refl ], t.once);
  kept = λ o h. t.kept o (elim (has_with g (option_of s) o) [ inl k ↦ k.1 | inr k ↦ k.1 ∙ h ]);
  seen = λ o i. elim i [ inl e ↦ subst (λ p. has last p ≡ true) e (t.kept (option_of s) own) | inr later ↦ t.seen o later ];
  found = λ o h. elim (t.found o h) [ inl k ↦ first_or o k | inr later ↦ inr (inr later) ];
}
  where
    new_later : (o : OptionName) → IsIn o (map option_of ss) → has g o ≡ false
    new_later o later = elim (has_with g (option_of s) o) [ inl h ↦ (let no = t.new o later in absurd cc) | inr h ↦ sym h.1 ∙ t.new o later ]

    own : has (with_option g (option_of s)) (option_of s) ≡ true
    own = elim (has_with g (option_of s) (option_of s)) [ inl h ↦ h.1 | inr h ↦ absurd (h.0 refl) ]

    first_or : (o : OptionName) → has (with_option g (option_of s)) o ≡ true → (has g o ≡ true) ⊎ IsIn o (map option_of (s ∷ ss))
    first_or o k = elim (has_with g (option_of s) o) [ inl h ↦ inr (inl (sym h.0)) | inr h ↦ inl (sym h.1 ∙ k) ]

pub told : {job : JobName} {g last : Seen} {words : List Text} {ss : List Setting} → ReadsOptions job g words ss last → Told job g words ss last
told done = record {
  parts = refl;
  each = tt;
  taken = λ o i. absurd i;
  new = λ o i. absurd i;
  once = tt;
  kept = λ o h. h;
  seen = λ o i. absurd i;
  found = λ o h. inl h;
}
told (more b f r) = told_more b f (told r)

-- ---- settings that may be read are read

all_read : {job : JobName} (g : Seen) (ss : List Setting) → AllByRecursion IsSetting ss
    → ((o : OptionName) → IsIn o (map option_of ss) → IsIn o (options_of job)) → ((o : OptionName) → IsIn o (map option_of ss) → has g o ≡ false)
    → NoRepeat (map option_of ss) → (last : Seen) × ReadsOptions job g (flat_map setting_words ss) ss last
all_read g [] each taken new once = (g, done)
all_read {job} g (s ∷ ss) each taken new once =
    let k = all_read {job = job} (with_option g (option_of s)) ss each.1 (λ o i. taken o (inr i)) still once.1 in
    (k.0, more (record { parts = refl; fits = each.0 }) (record { taken = taken (option_of s) (inl refl); new = new (option_of s) (inl refl) }) k.1)
  where
    still : (o : OptionName) → IsIn o (map option_of ss) → has (with_option g (option_of s)) o ≡ false
    still o i = elim (has_with g (option_of s) o) [ inl h ↦ absurd (once.0 (subst (λ p. IsIn p (map option_of ss)) h.0 i)) | inr h ↦ h.1 ∙ new o (inr i) ]

none_seen : (o : OptionName) → has nothing o ≡ false
none_seen Tiles = refl
none_seen Depth = refl
none_seen Order = refl
none_seen Seed = refl
none_seen Size = refl

-- ---- lines

abbrev pub HasDue : JobName → Seen → Type 0
HasDue job g = (o : OptionName) → IsIn o (options_due job) → has g o ≡ true

pub line_read : {job : JobName} {rest : List Text} {ss : List Setting} {last : Seen} → ReadsOptions job nothing rest ss last → HasDue job last
    → IsCommandLine (job_word job ∷ rest) job ss
line_read {job} r d =
    let t = told r in
    record {
      parts = ap (λ ws. job_word job ∷ ws) t.parts;
      each = t.each;
      taken = t.taken;
      once = t.once;
      due = λ o i. elim (t.found o (d o i)) [ inl h ↦ (let no = none_seen o in absurd cc) | inr there ↦ there ];
    }

pub read_line : {words : List Text} {job : JobName} {ss : List Setting} → IsCommandLine words job ss
    → (last : Seen) × ReadsOptions job nothing (flat_map setting_words ss) ss last × HasDue job last
read_line {words} {job} {ss} l =
    let k = all_read {job = job} nothing ss l.each l.taken (λ o i. none_seen o) l.once in
    (k.0, k.1, λ o i. (told k.1).seen o (l.due o i))

-- all jobs
abbrev jobs : List JobName
jobs = Render ∷ Simulate ∷ Serial ∷ Last ∷ Check ∷ Race ∷ Pack ∷ Unpack ∷ Gen ∷ Demo ∷ []

job_found : (job : JobName) → row_in job_word jobs (job_word job) ≡ Some job
job_found Render = refl
job_found job = refl

-- a line of these words is one of this job
line_rest : {words rest : List Text} {job other : JobName} {ss : List Setting} → words ≡ job_word job ∷ rest → IsCommandLine words other ss
    → (job ≡ other) × (flat_map setting_words ss ≡ rest)
line_rest {words} {rest} {job} {other} e l =
    let first : job_word job ≡ job_word other = let both = sym e ∙ l.parts in cc in
    (one_row job_word jobs _ _ job other (job_found job) (job_found other) first, let both = sym e ∙ l.parts in cc)

pub no_line : {words rest : List Text} {job : JobName} → words ≡ job_word job ∷ rest
    → ((ss : List Setting) (last : Seen) → ReadsOptions job nothing rest ss last → HasDue job last → ⊥)
    → (other : JobName) (ss : List Setting) → IsCommandLine words other ss → ⊥
no_line {words} {rest} {job} e n other ss l =
    let k = line_rest e l in
    let line : IsCommandLine words job ss = subst (λ j. IsCommandLine words j ss) (sym k.0) l in
    let r = read_line line in
    n ss r.0 (subst (λ ws. ReadsOptions job nothing ws ss r.0) k.1 r.1) r.2

pub lacks_due : {rest : List Text} {job : JobName} {ss : List Setting} {last : Seen} → ReadsOptions job nothing rest ss last → (HasDue job last → ⊥)
    → (others : List Setting) (other : Seen) → ReadsOptions job nothing rest others other → HasDue job other → ⊥
lacks_due {job = job} r n others other k d = n (subst (λ g. HasDue job g) (sym (one_reading r k).1) d)

-- words are the line of at most one job and one list of settings
pub one_line : {words : List Text} {job other : JobName} {ss others : List Setting} → IsCommandLine words job ss → IsCommandLine words other others
    → (job ≡ other) × (ss ≡ others)
one_line {words} {job} {other} {ss} {others} l k =
    let rest = line_rest l.parts k in
    let line : IsCommandLine words job others = subst (λ j. IsCommandLine words j others) (sym rest.0) k in
    let r = read_line l in
    let q = read_line line in
    (rest.0, (one_reading r.1 (subst (λ ws. ReadsOptions job nothing ws others q.0) rest.1 q.1)).0)
