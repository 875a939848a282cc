-- From what a reader answers to what the task finds in its input.
use Rattle.std.proofs.Common.{◌≡◌, ℕ, ◌<◌, ◌≤◌, inl, inr, true, false, List, ◌∷◌, length, None, Some, refl, sym, ap, ap₂, subst, arith, ◌∙◌}
use Rattle.std.proofs.lemmas.Bool.{cases_lt}
use Rattle.std.specs.Option.{option_or}
use Rattle.std.specs.declared.option.Option.{Option}
use Rattle.rc_base.specs.Formats.Limits.{held_limit, limit_of, size_limit}
use Rattle.rc_base.specs.Formats.Spelling.{SpellsScene}
use Rattle.rc_base.specs.Outside.Transfer.{byte_limit}
use Rattle.rc_base.specs.declared.scene.Limit.{Limit}
use Rattle.rc_base.specs.declared.scene.Scene.{Scene}
use Rattle.rc_base.specs.declared.sync.Name.{Name}
use Rattle.scene_file.specs.Faults.{SpellsListScene}
use Rattle.scene_file.specs.Laws.{FormsAreApart, ListScenesAreOne, ScenesAreOne}
use Rattle.scene_file.specs.declared.list_scene.ListScene.{ListScene}
use Rattle.scene_text.specs.Laws.{OneScene}
use Rattle.sort_last.specs.Offends.{offends, IsFirstOffence}
use Rattle.run_words.specs.declared.job.Form.{Form}
use Rattle.run_words.specs.declared.job.Form.TheVariants.{Bytes, PlainBytes, Text}
use Rattle.run_words.specs.declared.job.Job.{Job}
use Rattle.run_words.specs.declared.job.Job.TheVariants.{Render, Simulate, Last, Gen, Demo}
use Rattle.run_words.specs.declared.job.Origin.{Origin}
use Rattle.run_words.specs.declared.job.Origin.TheVariants.{Read, Generated}
use Rattle.scene_lemmas.proofs.Formats.{digit_is_not_three}
use Rattle.render_core.specs.declared.work.Meaning.{Meaning}
use Rattle.run_words.specs.declared.work.Work.{Work}
use Rattle.rc_base.specs.Outside.Ends.{Used}
use Rattle.run_words.specs.Jobs.{Task, cluster_of, origin_of}
use Rattle.render_core.specs.Scenes.{Found, Plain, Lists, found_limit, limit_for, meant, scene_for, scene_limit, work_for, Spells, Gives, HasWork, IsFor, IsNotFor}
use Rattle.run_words.specs.Asked.{cluster_limit, tile_limit, with_rounds, word_limit}
use Rattle.run_words.specs.Lines.{limit_line, not_last_line}
use Rattle.render_core.specs.Findings.{Finding, Long, Malformed, Outside, Unsuited, Sound, TellsFault, IsJudged, Judged}
use Rattle.scene_file.specs.Letters.{BeginWithLists}
use Rattle.render_core.specs.Laws.{FindingsAreOne}
use Rattle.render_core.specs.Refusals.{Came}

-- ---- limits: the scene's come first

scene_first : (job : Job) (found : Found) (limit : Limit) → scene_limit (origin_of job) found ≡ Some limit → limit_for job found ≡ Some limit
scene_first job found limit e = ap (λ (l : Option Limit). option_or l (word_limit job (meant found))) e

words_next : (job : Job) (found : Found) → scene_limit (origin_of job) found ≡ None → limit_for job found ≡ word_limit job (meant found)
words_next job found e = ap (λ (l : Option Limit). option_or l (word_limit job (meant found))) e

pub neither : (a b : Option Limit) → option_or a b ≡ None → (a ≡ None) × (b ≡ None)
neither None b e = (refl, e)
neither (Some limit) b e = absurd cc

-- where nothing is outside its range, neither the scene nor the words are
pub within_both : (job : Job) (found : Found) → limit_for job found ≡ None → (scene_limit (origin_of job) found ≡ None) × (word_limit job (meant found) ≡ None)
within_both job found e = neither (scene_limit (origin_of job) found) (word_limit job (meant found)) e

-- nor are its rounds, where the scene is made
pub rounds_within : (seed size : ℕ) (first : Option Limit) → with_rounds (Generated seed size) first ≡ None → size_limit size ≡ None
rounds_within seed size first e = (neither first (size_limit size) e).1

-- of the words tiles and lanes aren't
pub tiles_within : (job : Job) (scene : Scene) → word_limit job scene ≡ None → tile_limit (cluster_of job) scene ≡ None
tiles_within (Render cluster) scene e = e
tiles_within (Simulate seed cluster) scene e = (neither (cluster_limit cluster scene) (held_limit scene) e).0
tiles_within (Demo seed size cluster) scene e = (neither (cluster_limit cluster scene) (size_limit size) e).0
tiles_within job scene e = refl

-- of a job that makes its scene, its tiles and lanes and then its rounds are judged
pub made_words : (job : Job) (seed size : ℕ) (scene : Scene) → origin_of job ≡ Generated seed size
    → word_limit job scene ≡ option_or (tile_limit (cluster_of job) scene) (size_limit size)
made_words (Gen other rounds) seed size scene e = ap (λ (origin : Origin). with_rounds origin None) e
made_words (Demo other rounds cluster) seed size scene e = ap (λ (origin : Origin). with_rounds origin (cluster_limit cluster scene)) e
made_words job seed size scene e = absurd cc

-- where no scene of a kind is within the limits and none outside, there is none
pub no_scene : (Is : Scene → Type 0) → ((s : Scene) → Is s → limit_of s ≡ None → ⊥) → ((s : Scene) (l : Limit) → Is s → limit_of s ≡ Some l → ⊥) → (s : Scene) → Is s → ⊥
no_scene Is within outside s is = go (limit_of s) refl where
  go : (o : Option Limit) → limit_of s ≡ o → ⊥
  go None e = within s is e
  go (Some l) e = outside s l is e

-- ---- bytes with call lists and without

-- bytes that spell a scene with call lists begin so
pub begins : (input : List ℕ) (s : ListScene) → SpellsListScene input s → BeginWithLists input
begins input s is = (_, is.parts)

fourth : List ℕ → ℕ
fourth (a ∷ (b ∷ (c ∷ (d ∷ rest)))) = d
fourth _ = 0

-- and those of a scene without don't
pub never_begins : (input : List ℕ) (s : Scene) → SpellsScene input s → BeginWithLists input → ⊥
unfolding fourth
never_begins input s is begin = digit_is_not_three s.decl.version is.decl.version (ap fourth (sym is.parts) ∙ ap fourth begin.1)

-- ---- an input is one thing

module _ (bytes : ScenesAreOne) (lists : ListScenesAreOne) (differ : FormsAreApart) (text : OneScene) where
  pub one_given : (origin : Origin) (input : List ℕ) (s t : Found) → Gives origin input s → Gives origin input t → s ≡ t
  one_given (Read Bytes) input (Plain s) (Plain t) a b = ap Plain (bytes input s t a b)
  one_given (Read Bytes) input (Plain s) (Lists t) a b = absurd (differ input s t a b)
  one_given (Read Bytes) input (Lists s) (Plain t) a b = absurd (differ input t s b a)
  one_given (Read Bytes) input (Lists s) (Lists t) a b = ap Lists (lists input s t a b)
  one_given (Read PlainBytes) input (Plain s) (Plain t) a b = ap Plain (bytes input s t a b)
  one_given (Read PlainBytes) input (Plain s) (Lists t) a b = absurd b
  one_given (Read PlainBytes) input (Lists s) t a b = absurd a
  one_given (Read Text) input (Plain s) (Plain t) a b = ap Plain (text input s t a b)
  one_given (Read Text) input (Plain s) (Lists t) a b = absurd b
  one_given (Read Text) input (Lists s) t a b = absurd a
  one_given (Generated seed size) input s t a b = a ∙ sym b

abbrev past : Option Limit → Finding
past None = Long
past (Some limit) = Outside limit

-- ---- a job isn't for a scene by one command, and is for no such scene

module _ (scene : Scene) where
  first_client : (n m : Name) → IsFirstOffence scene n → IsFirstOffence scene m → n.client < m.client → ⊥
  first_client n m a b less = let none : true ≡ false = sym a.is ∙ b.clients n.client n.place less in cc

  same_client : (n m : Name) → IsFirstOffence scene n → IsFirstOffence scene m → n.client ≡ m.client
  same_client n m a b = elim (cases_lt n.client m.client) [
    | inl less ↦ absurd (first_client n m a b less)
    | inr more ↦ elim (cases_lt m.client n.client) [ inl less ↦ absurd (first_client m n b a less) | inr most ↦ omega (arith, more, most) ]
  ]

  first_place : (n m : Name) → IsFirstOffence scene n → IsFirstOffence scene m → n.client ≡ m.client → n.place < m.place → ⊥
  first_place n m a b client less =
      let none : true ≡ false = sym a.is ∙ ap (λ (c : ℕ). offends scene c n.place) client ∙ b.places n.place less in cc

  same_place : (n m : Name) → IsFirstOffence scene n → IsFirstOffence scene m → n.client ≡ m.client → n.place ≡ m.place
  same_place n m a b client = elim (cases_lt n.place m.place) [
    | inl less ↦ absurd (first_place n m a b client less)
    | inr more ↦ elim (cases_lt m.place n.place) [ inl less ↦ absurd (first_place m n b a (sym client) less) | inr most ↦ omega (arith, more, most) ]
  ]

  same_offence : (n m : Name) → IsFirstOffence scene n → IsFirstOffence scene m → n ≡ m
  same_offence n m a b =
      let client = same_client n m a b in ap₂ (λ (c p : ℕ). record { client = c; place = p }) client (same_place n m a b client)

same_keeper : (job : Job) (scene : Scene) (n m : Name) → IsNotFor job scene n → IsNotFor job scene m → n ≡ m
same_keeper Last scene n m a b = same_offence scene n m a b
same_keeper job scene n m a b = absurd a

never_both : (job : Job) (scene : Scene) (n : Name) → IsNotFor job scene n → IsFor job scene → ⊥
never_both Last scene n not is = let none : true ≡ false = sym not.is ∙ is n.client n.place in cc
never_both job scene n not is = not

module _ (bytes : ScenesAreOne) (lists : ListScenesAreOne) (differ : FormsAreApart) (text : OneScene) where
  module _ (task : Task) (input : List ℕ) where
    same_found : (s t : Found) → Gives (origin_of task.job) input s → Gives (origin_of task.job) input t → s ≡ t
    same_found s t a b = one_given bytes lists differ text (origin_of task.job) input s t a b

    same_limit : (s t : Found) (a b : Option Limit) → Gives (origin_of task.job) input s → Gives (origin_of task.job) input t
        → limit_for task.job s ≡ a → limit_for task.job t ≡ b → a ≡ b
    same_limit s t a b given other is_a is_b = sym is_a ∙ ap (limit_for task.job) (same_found s t given other) ∙ is_b

    -- a scene that a job isn't for is none that it is for
    unsuited : (s t : Found) (name : Name) (work : Work) → Gives (origin_of task.job) input s → Gives (origin_of task.job) input t
        → IsNotFor task.job (scene_for task (meant s)) name → work ≡ work_for task t → IsFor task.job work.scene → ⊥
    unsuited s t name work a b not is suits =
        let scene : work.scene ≡ scene_for task (meant s) = ap (λ (w : Work). w.scene) is ∙ ap (λ (f : Found). scene_for task (meant f)) (same_found t s b a) in
        never_both task.job (scene_for task (meant s)) name not (subst (IsFor task.job) scene suits)

  pub findings_one : FindingsAreOne
  findings_one task input Long Long a b = refl
  findings_one task input Long Malformed a b = let short = b.0 in absurd (omega (arith, a, short))
  findings_one task input Long (Outside m) a b = let short = b.0 in absurd (omega (arith, a, short))
  findings_one task input Long (Unsuited m) a b = let short = b.0 in absurd (omega (arith, a, short))
  findings_one task input Long (Sound w) a b = let short = b.short in absurd (omega (arith, a, short))
  findings_one task input Malformed Long a b = let short = a.0 in absurd (omega (arith, b, short))
  findings_one task input Malformed Malformed a b = refl
  findings_one task input Malformed (Outside m) a b = absurd (a.1 b.1.0 b.1.1)
  findings_one task input Malformed (Unsuited m) a b = absurd (a.1 b.1.0 b.1.1)
  findings_one task input Malformed (Sound w) a b = absurd (a.1 b.found b.gives)
  findings_one task input (Outside l) Long a b = let short = a.0 in absurd (omega (arith, b, short))
  findings_one task input (Outside l) Malformed a b = absurd (b.1 a.1.0 a.1.1)
  findings_one task input (Outside l) (Outside m) a b = ap past (same_limit task input a.1.0 b.1.0 (Some l) (Some m) a.1.1 b.1.1 a.1.2 b.1.2)
  findings_one task input (Outside l) (Unsuited m) a b =
      let none : Some l ≡ None = same_limit task input a.1.0 b.1.0 (Some l) None a.1.1 b.1.1 a.1.2 b.1.2 in absurd cc
  findings_one task input (Outside l) (Sound w) a b =
      let none : Some l ≡ None = same_limit task input a.1.0 b.found (Some l) None a.1.1 b.gives a.1.2 b.within in absurd cc
  findings_one task input (Unsuited n) Long a b = let short = a.0 in absurd (omega (arith, b, short))
  findings_one task input (Unsuited n) Malformed a b = absurd (b.1 a.1.0 a.1.1)
  findings_one task input (Unsuited n) (Outside m) a b =
      let none : Some m ≡ None = same_limit task input b.1.0 a.1.0 (Some m) None b.1.1 a.1.1 b.1.2 a.1.2 in absurd cc
  findings_one task input (Unsuited n) (Unsuited m) a b =
      let same = same_found task input b.1.0 a.1.0 b.1.1 a.1.1 in
      ap Unsuited (same_keeper task.job (scene_for task (meant a.1.0)) n m a.1.3 (subst (λ (s : Found). IsNotFor task.job (scene_for task (meant s)) m) same b.1.3))
  findings_one task input (Unsuited n) (Sound w) a b = absurd (unsuited task input a.1.0 b.found n w a.1.1 b.gives a.1.3 b.is b.suits)
  findings_one task input (Sound w) Long a b = let short = a.short in absurd (omega (arith, b, short))
  findings_one task input (Sound w) Malformed a b = absurd (b.1 a.found a.gives)
  findings_one task input (Sound w) (Outside m) a b =
      let none : Some m ≡ None = same_limit task input b.1.0 a.found (Some m) None b.1.1 a.gives b.1.2 a.within in absurd cc
  findings_one task input (Sound w) (Unsuited m) a b = absurd (unsuited task input b.1.0 a.found m w b.1.1 a.gives b.1.3 a.is a.suits)
  findings_one task input (Sound v) (Sound w) a b =
      ap Sound (a.is ∙ ap (work_for task) (same_found task input a.found b.found a.gives b.gives) ∙ sym b.is)

-- ---- an input that is refused

module _ (task : Task) (input : List ℕ) (short : length input ≤ byte_limit) where
  pub judged_malformed : (line : List ℕ) → ((found : Found) → Gives (origin_of task.job) input found → ⊥) → TellsFault (origin_of task.job) input line
      → IsJudged task input 3 line
  judged_malformed line none told = record { finding = Malformed; is = (short, none); refused = refl; told = told }

  -- the first limit of what the input gives
  judged_past : (found : Found) (limit : Limit) → Gives (origin_of task.job) input found → limit_for task.job found ≡ Some limit
      → IsJudged task input 4 (limit_line limit.what limit.value)
  judged_past found limit gives first = record { finding = Outside limit; is = (short, (found, gives, first)); refused = refl; told = refl }

  pub judged_outside : (form : Form) → origin_of task.job ≡ Read form → (found : Found) (limit : Limit) → Spells form input found → found_limit found ≡ Some limit
      → IsJudged task input 4 (limit_line limit.what limit.value)
  judged_outside form reads found limit spelled first =
      judged_past found limit (subst (λ (o : Origin). Gives o input found) (sym reads) spelled)
      (scene_first task.job found limit (subst (λ (o : Origin). scene_limit o found ≡ Some limit) (sym reads) first))

module _ (task : Task) (source : Used) (x : Meaning) (came : Came task.job source x) where
  -- the words ask for what is outside its range in the scene's window
  pub judged_by_words : (limit : Limit) → word_limit task.job x.scene ≡ Some limit → Judged task source 4 (limit_line limit.what limit.value)
  judged_by_words limit first = record {
    input = came.input;
    took = came.took;
    judged =
        judged_past task came.input came.short came.found limit came.gives
        (words_next task.job came.found came.within ∙ ap (word_limit task.job) (sym came.means.scene) ∙ first);
  }

  module _ (asked : word_limit task.job x.scene ≡ None) where
    within : limit_for task.job came.found ≡ None
    within = words_next task.job came.found came.within ∙ ap (word_limit task.job) (sym came.means.scene) ∙ asked

    -- the job isn't for the scene
    pub judged_unsuited : (name : Name) → IsNotFor task.job (scene_for task (meant came.found)) name → Judged task source 12 (not_last_line name)
    judged_unsuited name not = record {
      input = came.input;
      took = came.took;
      judged = record { finding = Unsuited name; is = (came.short, (came.found, came.gives, within, not)); refused = refl; told = refl };
    }

    pub has_work : (work : Work) → work ≡ work_for task came.found → IsFor task.job work.scene → HasWork task source work
    has_work work is suits = record {
      input = came.input;
      took = came.took;
      is = record { found = came.found; short = came.short; gives = came.gives; within = within; is = is; suits = suits };
    }
