-- From what the readers of bytes answer to what is found, what it means, and why it is refused.
use Rattle.std.proofs.Common.{◌≡◌, ℕ, ◌+◌, ◌<◌, ◌≤◌, ◌⊎◌, inl, inr, false, List, [], ◌∷◌, ◌++◌, length, map, None, Some, Ok, Err, refl, sym, ap, ◌∙◌, subst, arith, append_assoc}
use Rattle.std.specs.Prelude.{IfErr, IfOk, MatchResult, sum_by}
use Rattle.std.specs.declared.result.Result.{Result}
use Rattle.std.specs.declared.option.Option.{Option}
use Rattle.std.specs.List.{AllByRecursion, flat_map}
use Rattle.std.specs.Option.{option_or}
use Rattle.std.proofs.lemmas.List.{length-map}
use Rattle.std.proofs.lemmas.List.Sums.{sum_by-cons}
use Rattle.rc_base.proofs.WithinLimits.{first_within, in_range}
use Rattle.rc_base.specs.Formats.Commands.{IsCommand}
use Rattle.rc_base.specs.Formats.Limits.{Quantity, barrier_count, commands_in, expansion_limit, first_outside, frame_quantities, is_outside, limit_of, quantities_with, quantity, read_limit, side, size_area, stream_limit}
use Rattle.rc_base.specs.Formats.Spelling.{IsDeclOf, IsListCommand, IsVersion, SpellsScene, list_form, digit, letters, list_magic, magic}
use Rattle.rc_base.specs.Outside.Transfer.{byte_limit}
use Rattle.rc_base.specs.declared.command.Command.{Command}
use Rattle.rc_base.specs.declared.list_command.ListCommand.{ListCommand}
use Rattle.rc_base.specs.declared.scene.Decl.{Decl}
use Rattle.rc_base.specs.declared.scene.Limit.{Limit}
use Rattle.rc_base.specs.declared.scene.Scene.{Scene}
use Rattle.rc_base.specs.declared.scene.SceneKind.{SceneKind}
use Rattle.rc_base.specs.declared.state.Fault.{Fault}
use Rattle.rc_base.specs.declared.scene.SceneKind.TheVariants.{BadMagic, BadCount, UnknownOpcode, Truncated, Trailing}
use Rattle.call_lists.specs.Expansion.{TellsTooLong, list_faults, most_cost}
use Rattle.call_lists.specs.Laws.{CostsAreTold, ExpansionsAreWhole, ExpansionsStayInRange}
use Rattle.call_lists.specs.Scenes.{AreExpanded, IsShort, cost_told, expanded, expanded_count, met_in}
use Rattle.call_lists.specs.declared.answer.ExpandFault.TheVariants as expanding
use Rattle.call_lists.specs.declared.streams.Expansions.{Expansions}
use Rattle.scene_file.specs.Faults.{Differs, FailsAsListScene, FailsAsScene, IsBeyond, IsBeyondBy, SpellsListScene, TellsForm, TellsFormBy, list_limit_of}
use Rattle.scene_file.specs.declared.fault.SceneFault.{SceneFault}
use Rattle.scene_file.specs.declared.fault.SceneFault.TheVariants.{Malformed, Limit as PastLimit, OutOfMemory}
use Rattle.scene_file.specs.declared.list_scene.ListScene.{ListScene}
use Rattle.run_words.specs.declared.job.Form.{Form}
use Rattle.run_words.specs.declared.job.Form.TheVariants.{Bytes, PlainBytes}
use Rattle.run_words.specs.declared.job.Origin.{Origin}
use Rattle.run_words.specs.declared.job.Origin.TheVariants.{Read}
use Rattle.run_words.specs.declared.refusal.InputRefusal.{InputRefusal}
use Rattle.run_words.specs.declared.refusal.InputRefusal.TheVariants as refused
use Rattle.render_core.specs.Stored.{meaning_in}
use Rattle.render_core.specs.declared.work.Meaning.{Meaning}
use Rattle.render_core.specs.declared.work.StoredMeaning.{StoredMeaning}
use Rattle.render_core.specs.Findings.{FailsAsFound, TellsFault}
use Rattle.scene_file.specs.Letters.{BeginWithLists}
use Rattle.scene_file.proofs.LimitsByParts.{many_commands}
use Rattle.std.proofs.lemmas.Bool.{cases_lt}
use Rattle.run_words.specs.Lines.{malformed_line, scene_kind_name}
use Rattle.render_core.specs.Refusals.{IsExpanded, IsPast, IsRead, IsRefusedInput, refusal_of_scene}
use Rattle.run_words.specs.Asked.{IsWellRead}
use Rattle.render_core.specs.Scenes.{Found, Plain, Lists, found_limit, meant, refused_in, Gives, Spells}
use Rattle.render_core.proofs.Filtered.{meant_within}
use Rattle.render_core.proofs.Judging.{begins, neither, judged_malformed, judged_outside, never_begins, no_scene}

-- ---- bytes that differ from the letters of every version

-- a letter of some and one behind them is one of them with letters behind it, or the last
split_last : (ls : List ℕ) (d : ℕ) (front : List ℕ) (letter : ℕ) (others : List ℕ) → ls ++ d ∷ [] ≡ front ++ letter ∷ others
    → ((front ≡ ls) × (letter ≡ d)) ⊎ ((mid : List ℕ) × (ls ≡ front ++ letter ∷ mid))
split_last [] d [] letter others e = inl (refl, sym (ap (head d) e)) where
  head : ℕ → List ℕ → ℕ
  head d [] = d
  head d (x ∷ xs) = x
split_last [] d (x ∷ front) letter others e = absurd (none front (ap tail e)) where
  tail : List ℕ → List ℕ
  tail [] = []
  tail (x ∷ xs) = xs

  none : (f : List ℕ) → [] ≡ f ++ letter ∷ others → ⊥
  none [] e = cc
  none (y ∷ f) e = cc
split_last (l ∷ ls) d [] letter others e = inr (ls, ap (λ (x : ℕ). x ∷ ls) (ap (head l) e)) where
  head : ℕ → List ℕ → ℕ
  head d [] = d
  head d (x ∷ xs) = x
split_last (l ∷ ls) d (x ∷ front) letter others e = go (split_last ls d front letter others (ap tail e)) where
  head : ℕ → List ℕ → ℕ
  head d [] = d
  head d (x ∷ xs) = x

  tail : List ℕ → List ℕ
  tail [] = []
  tail (x ∷ xs) = xs

  same : l ≡ x
  same = ap (head l) e

  go : ((front ≡ ls) × (letter ≡ d)) ⊎ ((mid : List ℕ) × (ls ≡ front ++ letter ∷ mid))
      → ((x ∷ front ≡ l ∷ ls) × (letter ≡ d)) ⊎ ((mid : List ℕ) × (l ∷ ls ≡ (x ∷ front) ++ letter ∷ mid))
  go (inl last) = inl (ap (λ (f : List ℕ). x ∷ f) last.0 ∙ ap (λ (y : ℕ). y ∷ ls) (sym same), last.1)
  go (inr inner) = inr (inner.0, ap (λ (r : List ℕ). l ∷ r) inner.1 ∙ ap (λ (y : ℕ). y ∷ (front ++ letter ∷ inner.0)) same)

-- where bytes don't begin as those of a scene with call lists, what differs from another version differs from that too
differs_too : (input : List ℕ) (at : ℕ) → (BeginWithLists input → ⊥) → Differs (magic 1) input at → Differs list_magic input at
differs_too input at other d = go (split_last letters (digit 1) d.front d.letter d.others d.letters_are) where
  go : ((d.front ≡ letters) × (d.letter ≡ digit 1)) ⊎ ((mid : List ℕ) × (letters ≡ d.front ++ d.letter ∷ mid)) → Differs list_magic input at
  go (inl last) = record {
    front = d.front;
    letter = 0x33;
    others = [];
    byte = d.byte;
    rest = d.rest;
    letters_are = ap (λ (f : List ℕ). f ++ 0x33 ∷ []) (sym last.0);
    parts = d.parts;
    differs =
        λ same. other (d.rest, d.parts ∙ ap (λ (f : List ℕ). f ++ d.byte ∷ d.rest) last.0 ∙ ap (λ (b : ℕ). letters ++ b ∷ d.rest) same);
    place = d.place;
  }
  go (inr inner) = record {
    front = d.front;
    letter = d.letter;
    others = inner.0 ++ 0x33 ∷ [];
    byte = d.byte;
    rest = d.rest;
    letters_are = ap (λ (f : List ℕ). f ++ 0x33 ∷ []) inner.1 ∙ append_assoc d.front (d.letter ∷ inner.0) (0x33 ∷ []);
    parts = d.parts;
    differs = d.differs;
    place = d.place;
  }

fails_plainly : (input : List ℕ) (kind : SceneKind) (at : ℕ) → (BeginWithLists input → ⊥) → FailsAsScene input kind at → FailsAsFound input kind at
fails_plainly input BadMagic at other fails = (fails.0, (fails.1, differs_too input at other fails.0))
fails_plainly input BadCount at other fails = inr (other, fails)
fails_plainly input UnknownOpcode at other fails = inr (other, fails)
fails_plainly input Truncated at other fails = inr (other, fails)
fails_plainly input Trailing at other fails = inr (other, fails)

-- bytes that begin with letters don't differ from them
begun : (ls front : List ℕ) (letter byte : ℕ) (others rest more : List ℕ) → ls ≡ front ++ letter ∷ others → ls ++ more ≡ front ++ byte ∷ rest → byte ≡ letter
begun ls [] letter byte others rest more e f =
    let g : letter ∷ (others ++ more) ≡ byte ∷ rest = ap (λ (l : List ℕ). l ++ more) (sym e) ∙ f in sym (ap (first letter) g)
  where
    first : ℕ → List ℕ → ℕ
    first d [] = d
    first d (x ∷ xs) = x
begun ls (x ∷ front) letter byte others rest more e f =
    begun (front ++ letter ∷ others) front letter byte others rest more refl (ap behind (ap (λ (l : List ℕ). l ++ more) (sym e) ∙ f))
  where
    behind : List ℕ → List ℕ
    behind [] = []
    behind (x ∷ xs) = xs

fails_with_lists : (input : List ℕ) (kind : SceneKind) (at : ℕ) → BeginWithLists input → FailsAsListScene input kind at → FailsAsFound input kind at
fails_with_lists input BadMagic at begin d =
    absurd (d.differs (begun list_magic d.front d.letter d.byte d.others d.rest begin.0 d.letters_are (sym begin.1 ∙ d.parts)))
fails_with_lists input BadCount at begin fails = inl (begin, fails)
fails_with_lists input UnknownOpcode at begin fails = inl (begin, fails)
fails_with_lists input Truncated at begin fails = inl (begin, fails)
fails_with_lists input Trailing at begin fails = inl (begin, fails)

-- ---- why bytes are refused

module _ (input : List ℕ) (short : length input ≤ byte_limit) where
  refused_as : (form : Form) (fault : SceneFault)
      → ((kind : SceneKind) (at : ℕ) → fault ≡ Malformed kind at
      → ((found : Found) → Spells form input found → ⊥) × TellsFault (Read form) input (malformed_line (scene_kind_name kind) at))
      → ((what value : ℕ) → fault ≡ PastLimit what value
      → (found : Found) × Spells form input found × (found_limit found ≡ Some (record { what = what; value = value })))
      → IsRefusedInput form input (refusal_of_scene fault)
  refused_as form (Malformed kind at) malformed past =
      let none = malformed kind at refl in
      inr (λ task reads. judged_malformed task input short (malformed_line (scene_kind_name kind) at)
      (subst (λ (o : Origin). (found : Found) → Gives o input found → ⊥) (sym reads) none.0)
      (subst (λ (o : Origin). TellsFault o input (malformed_line (scene_kind_name kind) at)) (sym reads) none.1))
  refused_as form (PastLimit what value) malformed past =
      let found = past what value refl in
      inr (λ task reads. judged_outside task input short form reads found.0 (record { what = what; value = value }) found.1 found.2)
  refused_as form OutOfMemory malformed past = inl refl

  -- by the reader of scenes without call lists
  module _ (fault : SceneFault) (r : Result Scene SceneFault) (is : r ≡ Err fault)
      (only : (s : Scene) → SpellsScene input s → limit_of s ≡ None → (r ≡ Ok s) ⊎ (r ≡ Err OutOfMemory))
      (limit_only : (s : Scene) (l : Limit) → SpellsScene input s → limit_of s ≡ Some l → (r ≡ Err (PastLimit l.what l.value)) ⊎ (r ≡ Err OutOfMemory))
      (tells : IfErr r (TellsForm input)) (beyond : IfErr r (IsBeyond input)) where
    unspelled : (kind : SceneKind) (at : ℕ) → fault ≡ Malformed kind at → (s : Scene) → SpellsScene input s → ⊥
    unspelled kind at e =
        let here : r ≡ Err (Malformed kind at) = is ∙ ap Err e in
        no_scene (SpellsScene input) (λ s spelled within. elim (only s spelled within) [ inl p ↦ cc | inr p ↦ cc ])
        (λ s l spelled first. elim (limit_only s l spelled first) [ inl p ↦ cc | inr p ↦ cc ])

    fails : (kind : SceneKind) (at : ℕ) → fault ≡ Malformed kind at → FailsAsScene input kind at
    fails kind at e = subst (λ (q : Result Scene SceneFault). IfErr q (TellsForm input)) (is ∙ ap Err e) tells

    outside : (what value : ℕ) → fault ≡ PastLimit what value → (s : Scene) × SpellsScene input s × (limit_of s ≡ Some (record { what = what; value = value }))
    outside what value e = subst (λ (q : Result Scene SceneFault). IfErr q (IsBeyond input)) (is ∙ ap Err e) beyond

    pub refused_plainly : IsRefusedInput PlainBytes input (refusal_of_scene fault)
    refused_plainly = refused_as PlainBytes fault
        (λ kind at e. (none kind at e, (kind, at, fails kind at e, refl)))
        (λ what value e. let s = outside what value e in (Plain s.0, s.1, s.2))
      where
        none : (kind : SceneKind) (at : ℕ) → fault ≡ Malformed kind at → (found : Found) → Spells PlainBytes input found → ⊥
        none kind at e (Plain s) spelled = unspelled kind at e s spelled
        none kind at e (Lists s) spelled = spelled

    pub refused_without_lists : (BeginWithLists input → ⊥) → IsRefusedInput Bytes input (refusal_of_scene fault)
    refused_without_lists other = refused_as Bytes fault
        (λ kind at e. (none kind at e, (kind, at, fails_plainly input kind at other (fails kind at e), refl)))
        (λ what value e. let s = outside what value e in (Plain s.0, s.1, s.2))
      where
        none : (kind : SceneKind) (at : ℕ) → fault ≡ Malformed kind at → (found : Found) → Spells Bytes input found → ⊥
        none kind at e (Plain s) spelled = unspelled kind at e s spelled
        none kind at e (Lists s) spelled = other (begins input s spelled)

  -- by the reader of scenes with them
  module _ (begin : BeginWithLists input) (fault : SceneFault) (r : Result ListScene SceneFault) (is : r ≡ Err fault)
      (only : (s : ListScene) → SpellsListScene input s → read_limit s.decl s.streams ≡ None → (r ≡ Ok s) ⊎ (r ≡ Err OutOfMemory))
      (limit_only : (s : ListScene) (l : Limit) → SpellsListScene input s → read_limit s.decl s.streams ≡ Some l
      → (r ≡ Err (PastLimit l.what l.value)) ⊎ (r ≡ Err OutOfMemory))
      (tells : IfErr r (TellsFormBy FailsAsListScene input)) (beyond : IfErr r (IsBeyondBy SpellsListScene list_limit_of input)) where
    pub refused_with_lists : IsRefusedInput Bytes input (refusal_of_scene fault)
    refused_with_lists = refused_as Bytes fault
        (λ kind at e. (none kind at e, (kind, at, fails_with_lists input kind at begin (fails kind at e), refl)))
        (λ what value e. let s = outside what value e in (Lists s.0, s.1, past s.0 (record { what = what; value = value }) s.2))
      where
        past : (s : ListScene) (limit : Limit) → read_limit s.decl s.streams ≡ Some limit → found_limit (Lists s) ≡ Some limit
        past s limit e =
            ap (λ (o : Option Limit). option_or o (option_or (expansion_limit (cost_told 0 (met_in s.streams))) (stream_limit (meant (Lists s))))) e

        fails : (kind : SceneKind) (at : ℕ) → fault ≡ Malformed kind at → FailsAsListScene input kind at
        fails kind at e = subst (λ (q : Result ListScene SceneFault). IfErr q (TellsFormBy FailsAsListScene input)) (is ∙ ap Err e) tells

        outside : (what value : ℕ) → fault ≡ PastLimit what value
            → (s : ListScene) × SpellsListScene input s × (read_limit s.decl s.streams ≡ Some (record { what = what; value = value }))
        outside what value e = subst (λ (q : Result ListScene SceneFault). IfErr q (IsBeyondBy SpellsListScene list_limit_of input)) (is ∙ ap Err e) beyond

        unspelled : (kind : SceneKind) (at : ℕ) → r ≡ Err (Malformed kind at) → (s : ListScene) → SpellsListScene input s → (o : Option Limit)
            → read_limit s.decl s.streams ≡ o → ⊥
        unspelled kind at here s spelled None within = elim (only s spelled within) [ inl p ↦ cc | inr p ↦ cc ]
        unspelled kind at here s spelled (Some l) first = elim (limit_only s l spelled first) [ inl p ↦ cc | inr p ↦ cc ]

        none : (kind : SceneKind) (at : ℕ) → fault ≡ Malformed kind at → (found : Found) → Spells Bytes input found → ⊥
        none kind at e (Plain s) spelled = never_begins input s spelled begin
        none kind at e (Lists s) spelled = unspelled kind at (is ∙ ap Err e) s spelled (read_limit s.decl s.streams) refl

-- ---- expansions

-- quantities behind those of a list
behind_each : {A : Type 0} (f : A → Quantity) (xs : List A) (rs : List Quantity) → first_outside (map f xs ++ rs) ≡ None → first_outside rs ≡ None
behind_each f [] rs e = e
behind_each f (x ∷ xs) rs e = behind_each f xs rs (first_within (f x) (map f xs ++ rs) e).1

-- the quantities of a declaration and of so many streams and commands, from behind some of them on
module _ (d : Decl) (clients commands : ℕ) (rest : List Quantity) where
  abbrev semaphores_on : List Quantity
  semaphores_on = quantity 10 (length d.semaphores) 0 64 ∷ quantity 11 commands 0 1048576 ∷ rest

  abbrev barriers_on : List Quantity
  barriers_on = map barrier_count d.barriers ++ semaphores_on

  abbrev texels_on : List Quantity
  texels_on = quantity 7 (sum_by size_area d.shared) 0 1048576 ∷ quantity 8 (length d.barriers) 0 64 ∷ barriers_on

  abbrev sides_on : List Quantity
  sides_on = map side (flat_map (λ (size : List ℕ). size) d.shared) ++ texels_on

  abbrev clients_on : List Quantity
  clients_on = quantity 4 clients 1 8 ∷ quantity 5 (length d.shared) 0 16 ∷ sides_on

  module _ (e : first_outside (quantities_with d clients commands rest) ≡ None) where
    width : (is_outside (quantity 2 d.width 1 2048) ≡ false) × (first_outside (quantity 3 d.height 1 2048 ∷ clients_on) ≡ None)
    width = first_within (quantity 2 d.width 1 2048) (quantity 3 d.height 1 2048 ∷ clients_on) e

    height : (is_outside (quantity 3 d.height 1 2048) ≡ false) × (first_outside clients_on ≡ None)
    height = first_within (quantity 3 d.height 1 2048) clients_on width.1

    window : (d.width ≤ 2048) × (d.height ≤ 2048)
    window = ((in_range 2 d.width 1 2048 width.0).1, (in_range 3 d.height 1 2048 height.0).1)

    few_clients : clients ≤ 8
    few_clients =
        (in_range 4 clients 1 8 (first_within (quantity 4 clients 1 8) (quantity 5 (length d.shared) 0 16 ∷ sides_on) height.1).0).1

    few : commands ≤ 1048576
    few =
        let textures = (first_within (quantity 4 clients 1 8) (quantity 5 (length d.shared) 0 16 ∷ sides_on) height.1).1 in
        let sides = (first_within (quantity 5 (length d.shared) 0 16) sides_on textures).1 in
        let texels = behind_each side (flat_map (λ (size : List ℕ). size) d.shared) texels_on sides in
        let counts = (first_within (quantity 7 (sum_by size_area d.shared) 0 1048576) (quantity 8 (length d.barriers) 0 64 ∷ barriers_on) texels).1 in
        let barriers = (first_within (quantity 8 (length d.barriers) 0 64) barriers_on counts).1 in
        let semaphores = behind_each barrier_count d.barriers semaphores_on barriers in
        let last = (first_within (quantity 10 (length d.semaphores) 0 64) (quantity 11 commands 0 1048576 ∷ rest) semaphores).1 in
        (in_range 11 commands 0 1048576 (first_within (quantity 11 commands 0 1048576) rest last).0).1

-- the commands that are read are few
read_few : (d : Decl) (streams : List (List ListCommand)) → read_limit d streams ≡ None → sum_by length streams ≤ 1048576
unfolding read_limit
read_few d streams e = few d (length streams) (sum_by length streams) [] e

-- and the window is small
pub read_window : (d : Decl) (streams : List (List ListCommand)) → read_limit d streams ≡ None → (d.width ≤ 2048) × (d.height ≤ 2048)
unfolding read_limit
read_window d streams e = window d (length streams) (sum_by length streams) [] e

-- and the clients are few
read_clients : (d : Decl) (streams : List (List ListCommand)) → read_limit d streams ≡ None → length streams ≤ 8
unfolding read_limit
read_clients d streams e = few_clients d (length streams) (sum_by length streams) [] e

-- so are the commands of a scene within the limits
pub scene_few : (s : Scene) → limit_of s ≡ None → commands_in s.streams ≤ 1048576
unfolding limit_of
scene_few s e = few s.decl (length s.streams) (commands_in s.streams) (frame_quantities s) e

all_short : (streams : List (List ListCommand)) → sum_by length streams ≤ 1048576 → AllByRecursion IsShort streams
all_short [] few = tt
all_short (s ∷ ss) few =
    let sum = sum_by-cons length s ss in (omega (arith, few, sum), all_short ss (omega (arith, few, sum)))

pub streams_short : (d : Decl) (streams : List (List ListCommand)) → read_limit d streams ≡ None → AllByRecursion IsShort streams
streams_short d streams e = all_short streams (read_few d streams e)

costs_within : (n : ℕ) → n ≤ 67108864 → expansion_limit n ≡ None
unfolding expansion_limit
costs_within n few = grind (arith, few)

costs_past : (n : ℕ) → 67108864 < n → expansion_limit n ≡ Some (record { what = 20; value = n })
unfolding expansion_limit
costs_past n many = grind (arith, many)

streams_beyond : (s : Scene) (n : ℕ) → commands_in s.streams ≡ n → 1048576 < n → stream_limit s ≡ Some (record { what = 11; value = n })
unfolding stream_limit
streams_beyond s n c many =
    ap (λ (k : ℕ). first_outside (quantity 11 k 0 1048576 ∷ frame_quantities s)) c ∙ many_commands n (frame_quantities s) many

few_commands : (s : Scene) → stream_limit s ≡ None → commands_in s.streams ≤ 1048576
unfolding stream_limit
few_commands s e = (in_range 11 (commands_in s.streams) 0 1048576 (first_within (quantity 11 (commands_in s.streams) 0 1048576) (frame_quantities s) e).0).1

each_length : (streams : List (List ListCommand)) → commands_in (map expanded streams) ≡ expanded_count streams
each_length [] = refl
each_length (s ∷ ss) =
    sum_by-cons length (expanded s) (map expanded ss) ∙ ap (λ (n : ℕ). length (expanded s) + n) (each_length ss)
    ∙ sym (sum_by-cons (λ (stream : List ListCommand). length (expanded stream)) s ss)

module _ (scene : ListScene) (read : read_limit scene.decl scene.streams ≡ None) where
  -- of what is past its limit
  pub streams_past : (limit : Limit) → expansion_limit (cost_told 0 (met_in scene.streams)) ≡ None → stream_limit (meant (Lists scene)) ≡ Some limit
      → found_limit (Lists scene) ≡ Some limit
  streams_past limit costs first =
      ap (λ (o : Option Limit). option_or o (option_or (expansion_limit (cost_told 0 (met_in scene.streams))) (stream_limit (meant (Lists scene))))) read
      ∙ ap (λ (o : Option Limit). option_or o (stream_limit (meant (Lists scene)))) costs ∙ first

  module _ (told : CostsAreTold) where
    pub costs_too_long : (spent : ℕ) → TellsTooLong 0 (met_in scene.streams) (expanding.TooLong spent) → found_limit (Lists scene) ≡ Some (record { what = 20; value = spent })
    costs_too_long spent passes =
        ap (λ (o : Option Limit). option_or o (option_or (expansion_limit (cost_told 0 (met_in scene.streams))) (stream_limit (meant (Lists scene))))) read
        ∙ ap (λ (o : Option Limit). option_or o (stream_limit (meant (Lists scene))))
        (ap expansion_limit ((told 0 (met_in scene.streams) (omega arith)).1 spent passes) ∙ costs_past spent passes.passed)

    module _ (x : Expansions) (are : AreExpanded scene.streams x) (within : x.spent ≤ most_cost) where
      costs : expansion_limit (cost_told 0 (met_in scene.streams)) ≡ None
      costs =
          let paid = are.paid in
          ap expansion_limit ((told 0 (met_in scene.streams) (omega arith)).0 (omega (arith, paid, within))) ∙ costs_within _ (omega (arith, paid, within))

      -- what is stored of what the streams mean is the whole, or there is too much of it
      pub counted : commands_in (meant (Lists scene)).streams ≡ x.count
      counted = each_length scene.streams ∙ sym are.counted

      pub stored_whole : ExpansionsAreWhole → x.count ≤ 1048576 → meant (Lists scene) ≡ record { decl = scene.decl; streams = x.streams }
      stored_whole whole few = ap (λ (ss : List (List Command)). record { decl = scene.decl; streams = ss }) (sym (whole.1 scene.streams x are few))

      -- what was found of what is stored is what is outside its range
      pub judged_whole : ExpansionsAreWhole → (stored : Scene) → stored ≡ record { decl = scene.decl; streams = x.streams } → (r : Result (Unit {0}) Limit)
          → (x.count ≤ 1048576 → MatchResult r (λ _. stream_limit stored ≡ None) (λ l. stream_limit stored ≡ Some l))
          → (1048576 < x.count → r ≡ Err (record { what = 11; value = x.count }))
          → MatchResult r (λ _. stream_limit (meant (Lists scene)) ≡ None) (λ l. stream_limit (meant (Lists scene)) ≡ Some l)
      judged_whole whole stored is r few many = elim (cases_lt 1048576 x.count) [
        | inl above ↦
            subst (λ (s : Result (Unit {0}) Limit). MatchResult s (λ _. stream_limit (meant (Lists scene)) ≡ None) (λ l. stream_limit (meant (Lists scene)) ≡ Some l))
            (sym (many above)) (streams_beyond (meant (Lists scene)) x.count counted above)
        | inr within ↦
            subst (λ (s : Scene). MatchResult r (λ _. stream_limit s ≡ None) (λ l. stream_limit s ≡ Some l)) (is ∙ sym (stored_whole whole within)) (few within)
      ]

      pub past_streams : (limit : Limit) → stream_limit (meant (Lists scene)) ≡ Some limit → found_limit (Lists scene) ≡ Some limit
      past_streams limit first = streams_past limit costs first

      pub expanded_is : ExpansionsAreWhole → (y : Meaning) → y.scene ≡ record { decl = scene.decl; streams = x.streams } → y.faults ≡ x.faults
          → stream_limit (meant (Lists scene)) ≡ None → IsExpanded scene y
      expanded_is whole y scene_is faults_are few =
          let commands : x.count ≤ 1048576 = (let c = counted in let n = few_commands (meant (Lists scene)) few in omega (arith, c, n)) in (
            record { scene = scene_is ∙ sym (stored_whole whole commands); faults = faults_are ∙ are.faults_are },
            ap (λ (o : Option Limit). option_or o (option_or (expansion_limit (cost_told 0 (met_in scene.streams))) (stream_limit (meant (Lists scene))))) read
                ∙ ap (λ (o : Option Limit). option_or o (stream_limit (meant (Lists scene)))) costs ∙ few,
          )

-- the commands of an expansion are in range
pub all_in_range : ExpansionsStayInRange → (streams : List (List ListCommand)) → AllByRecursion (AllByRecursion IsListCommand) streams
    → AllByRecursion (AllByRecursion IsCommand) (map expanded streams)
all_in_range stays [] all = tt
all_in_range stays (s ∷ ss) all = (stays s all.0, all_in_range stays ss all.1)

-- ---- what is answered of them

-- what an expansion means is read
pub read_expanded : (input : List ℕ) (scene : ListScene) → SpellsListScene input scene → (r : Result StoredMeaning InputRefusal) → IfOk r (λ x. IsExpanded scene (meaning_in x))
    → IfOk r (λ x. IsRead Bytes input (meaning_in x))
read_expanded input scene spelled (Ok x) is = record { found = Lists scene; spelled = spelled; within = is.1; means = is.0 }
read_expanded input scene spelled (Err refusal) is = tt

pub well_expanded : ExpansionsStayInRange → (scene : ListScene) → IsDeclOf list_form scene.decl → AllByRecursion (AllByRecursion IsListCommand) scene.streams
    → (r : Result StoredMeaning InputRefusal) → IfOk r (λ x. IsExpanded scene (meaning_in x)) → IfOk r (λ x. IsWellRead Bytes x.scene)
well_expanded stays scene decl commands (Ok x) is =
    subst (IsWellRead Bytes) (sym is.0.scene) (
      record {
        version = subst IsVersion (sym decl.version) (omega arith, omega arith);
        width = decl.width;
        height = decl.height;
        few_shared = decl.few_shared;
        few_barriers = decl.few_barriers;
        few_semaphores = decl.few_semaphores;
        shared = decl.shared;
        barriers = decl.barriers;
        semaphores = decl.semaphores;
      },
      all_in_range stays scene.streams commands,
    )
well_expanded stays scene decl commands (Err refusal) is = tt

pub within_expanded : (scene : ListScene) (r : Result StoredMeaning InputRefusal) → IfOk r (λ x. IsExpanded scene (meaning_in x)) → IfOk r (λ x. limit_of x.scene ≡ None)
within_expanded scene (Ok x) is = subst (λ (s : Scene). limit_of s ≡ None) (sym is.0.scene) (meant_within (Lists scene) is.1)
within_expanded scene (Err refusal) is = tt

-- the refused commands are of few clients
refused_few : (found : Found) → found_limit found ≡ None → length (refused_in found) ≤ 8
refused_few (Plain s) e = omega arith
refused_few (Lists s) e =
    let clients = read_clients s.decl s.streams (neither (read_limit s.decl s.streams) _ e).0 in
    let count = length-map s.streams list_faults in
    omega (arith, clients, count)

pub faults_few : (form : Form) (input : List ℕ) (x : Meaning) → IsRead form input x → length x.faults ≤ 8
faults_few form input x read = subst (λ (fs : List (List (ℕ × Fault))). length fs ≤ 8) (sym read.means.faults) (refused_few read.found read.within)

-- and what is past its limits is refused
past_refused : (input : List ℕ) → length input ≤ byte_limit → (scene : ListScene) → SpellsListScene input scene → (refusal : InputRefusal) → IsPast scene refusal
    → IsRefusedInput Bytes input refusal
past_refused input short scene spelled (refused.MalformedScene kind at) past = absurd past
past_refused input short scene spelled (refused.MalformedText kind line) past = absurd past
past_refused input short scene spelled (refused.PastLimit limit) past =
    inr (λ task reads. judged_outside task input short Bytes reads (Lists scene) limit spelled past)
past_refused input short scene spelled refused.OutOfMemory past = inl refl

pub refused_expanded : (input : List ℕ) → length input ≤ byte_limit → (scene : ListScene) → SpellsListScene input scene → (r : Result StoredMeaning InputRefusal)
    → IfErr r (IsPast scene) → IfErr r (IsRefusedInput Bytes input)
refused_expanded input short scene spelled (Ok x) past = tt
refused_expanded input short scene spelled (Err refusal) past = past_refused input short scene spelled refusal past

-- a scene without call lists means itself
pub read_plainly : (form : Form) (input : List ℕ) (scene : Scene) → Spells form input (Plain scene) → limit_of scene ≡ None → (x : Meaning) → x.scene ≡ scene → x.faults ≡ []
    → IsRead form input x
read_plainly form input scene spelled within x scene_is none =
    record { found = Plain scene; spelled = spelled; within = within; means = record { scene = scene_is; faults = none } }
