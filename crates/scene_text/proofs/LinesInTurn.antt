-- What a line does to what is read, in the words of the whole text.
use Rattle.std.proofs.Common.{◌≡◌, ℕ, ◌+◌, ◌&&◌, ◌⊎◌, true, false, not, cond, inl, inr, List, [], ◌∷◌, ◌++◌, map, ap, refl, sym, subst, ◌∙◌, append-nil, append_assoc, Some, None, Result, Ok, Err}
use Rattle.std.specs.List.{list_all, filter}
use Rattle.std.specs.Option.{option_map_or}
use Rattle.std.specs.Str.Lines.{lines}
use Rattle.std.proofs.lemmas.Bool.{eq-eqb}
use Rattle.std.proofs.lemmas.List.{map-append}
use Rattle.rc_base.specs.declared.scene.Scene.{Scene}
use Rattle.rc_base.specs.declared.scene.TextKind.{TextKind}
use Rattle.rc_base.specs.declared.scene.TextKind.TheVariants as kind
use Rattle.rc_base.specs.declared.text.LineName.{LineName}
use Rattle.scene_text.specs.Text.Statements.{Statement, scene_statements}
use Rattle.scene_text.specs.Text.Read.{is_text, is_skipped, words_of, name_of, words_say, words_say_under, arguments_say, spoken, SpellsText}
use Rattle.scene_text.specs.Text.Faults.{rank_of, rank_after, rank_after_words, may_stand, kind_of_fault, fault_of_line, fault_of_words, fault_under, first_fault, text_fault}
use Rattle.scene_text.specs.declared.draft.Draft.{Draft}
use Rattle.scene_text.specs.declared.parse.LineFault.{LineFault}
use Rattle.scene_text.specs.declared.parse.LineFault.TheVariants as fault
use Rattle.scene_text.specs.Drafts.{said, IsDraft, ReadsStatement, ReadsNamed, ReadsWords, ReadsLine, TakesLine, Progress}
use Rattle.scene_text.proofs.WhatWordsSay.{says_name}

-- ---- the words of a line

pub named_ok : (old new : Draft) (x : Unit {0}) (name : LineName) (ws : List (List ℕ)) → may_stand old.rank name ≡ true
    → ReadsStatement old new (Ok x) (arguments_say name ws) → ReadsNamed old new (Ok x) name ws
named_ok old new x name ws m h = (
  h.0,
  h.1,
  ap (λ t. cond t (kind_of_fault (arguments_say name ws)) (Some kind.OutOfPlace)) m ∙ ap kind_of_fault h.1,
  h.2.rank ∙ ap rank_of (says_name name ws h.0 h.1),
  h.2,
)

pub words_ok : (old new : Draft) (x : Unit {0}) (words : List (List ℕ)) (w : List ℕ) (ws : List (List ℕ)) (name : LineName) → words ≡ w ∷ ws → name_of w ≡ Some name
    → ReadsNamed old new (Ok x) name ws → ReadsWords old new (Ok x) words
words_ok old new x words w ws name e n h = subst (ReadsWords old new (Ok x)) (sym e) (
  h.0,
  ap (λ o. words_say_under o ws) n ∙ h.1,
  ap (λ o. fault_under old.rank o ws) n ∙ h.2,
  h.3 ∙ sym (ap (λ o. option_map_or rank_of o old.rank) n),
  h.4,
)

pub words_err : (old new : Draft) (f : LineFault) (words : List (List ℕ)) (w : List ℕ) (ws : List (List ℕ)) (name : LineName) → words ≡ w ∷ ws → name_of w ≡ Some name
    → ReadsNamed old new (Err f) name ws → ReadsWords old new (Err f) words
words_err old new (fault.Text k) words w ws name e n h = ap (fault_of_words old.rank) e ∙ ap (λ o. fault_under old.rank o ws) n ∙ h
words_err old new fault.OutOfMemory words w ws name e n h = tt

pub words_unknown : (before : ℕ) (words : List (List ℕ)) (w : List ℕ) (ws : List (List ℕ)) → words ≡ w ∷ ws → name_of w ≡ None
    → fault_of_words before words ≡ Some kind.UnknownWord
words_unknown before words w ws e n = ap (fault_of_words before) e ∙ ap (λ o. fault_under before o ws) n

-- ---- a line

pub line_fault_is : (before : ℕ) (line : List ℕ) → is_text line ≡ true → is_skipped line ≡ false → fault_of_line before line ≡ fault_of_words before (words_of line)
unfolding fault_of_line
line_fault_is before line t s =
    ap (λ b. cond (not b) (Some kind.NotText) (cond (is_skipped line) None (fault_of_words before (words_of line)))) t
    ∙ ap (λ b. cond b None (fault_of_words before (words_of line))) s

pub rank_is : (before : ℕ) (line : List ℕ) → is_skipped line ≡ false → rank_after before line ≡ rank_after_words before (words_of line)
unfolding rank_after
rank_is before line s = ap (λ b. cond b before (rank_after_words before (words_of line))) s

pub line_ok : (old new : Draft) (x : Unit {0}) (line : List ℕ) → is_text line ≡ true → is_skipped line ≡ false
    → ReadsWords old new (Ok x) (words_of line) → TakesLine old new line
line_ok old new x line t s h = record {
  draft = h.4.draft;
  text = t;
  fault = line_fault_is old.rank line t s ∙ h.2;
  rank = h.3 ∙ sym (rank_is old.rank line s);
  said = inr (s, (h.0, h.1, h.4.said));
}

pub line_err : (old new : Draft) (f : LineFault) (line : List ℕ) → is_text line ≡ true → is_skipped line ≡ false
    → ReadsWords old new (Err f) (words_of line) → ReadsLine old new (Err f) line
line_err old new (fault.Text k) line t s h = line_fault_is old.rank line t s ∙ h
line_err old new fault.OutOfMemory line t s h = tt

pub skipped_fault : (before : ℕ) (line : List ℕ) → is_text line ≡ true → is_skipped line ≡ true → fault_of_line before line ≡ None
unfolding fault_of_line
skipped_fault before line t s =
    ap (λ b. cond (not b) (Some kind.NotText) (cond (is_skipped line) None (fault_of_words before (words_of line)))) t
    ∙ ap (λ b. cond b None (fault_of_words before (words_of line))) s

pub skipped_rank : (before : ℕ) (line : List ℕ) → is_skipped line ≡ true → rank_after before line ≡ before
unfolding rank_after
skipped_rank before line s = ap (λ b. cond b before (rank_after_words before (words_of line))) s

pub line_skipped : (d : Draft) (line : List ℕ) → IsDraft d → is_text line ≡ true → is_skipped line ≡ true → TakesLine d d line
line_skipped d line h t s = record {
  draft = h;
  text = t;
  fault = skipped_fault d.rank line t s;
  rank = sym (skipped_rank d.rank line s);
  said = inl (s, refl);
}

-- ---- a text

pub begin : (text : List ℕ) (d : Draft) → IsDraft d → said d ≡ [] → d.rank ≡ 0 → Progress text d 0 (lines text)
unfolding text_fault
begin text d h s r = record {
  draft = h;
  fault = ap (λ n. first_fault 1 n (lines text)) r;
  texts = refl;
  says = sym (ap (λ l. map (λ x. Ok x) l ++ map words_say (spoken (lines text))) s);
}

pub spoken_skipped : (l : List ℕ) (ls : List (List ℕ)) → is_skipped l ≡ true → spoken (l ∷ ls) ≡ spoken ls
spoken_skipped l ls s =
    let rest = filter (λ x. not (is_skipped x)) ls in
    ap (λ b. map words_of (cond (not b) (l ∷ rest) rest)) s

pub spoken_more : (l : List ℕ) (ls : List (List ℕ)) → is_skipped l ≡ false → spoken (l ∷ ls) ≡ words_of l ∷ spoken ls
spoken_more l ls s =
    let rest = filter (λ x. not (is_skipped x)) ls in
    ap (λ b. map words_of (cond (not b) (l ∷ rest) rest)) s

abbrev Say : Type 0
Say = Result Statement TextKind

says_step : (whole : List Say) (old new : List Statement) (l : List ℕ) (ls : List (List ℕ))
    → whole ≡ map (λ x. Ok x) old ++ map words_say (spoken (l ∷ ls))
    → ((is_skipped l ≡ true) × (new ≡ old)) ⊎ ((is_skipped l ≡ false) × ((s : Statement) × (words_say (words_of l) ≡ Ok s) × (new ≡ old ++ s ∷ [])))
    → whole ≡ map (λ x. Ok x) new ++ map words_say (spoken ls)
says_step whole old new l ls h (inl p) =
    h ∙ ap (λ y. map (λ x. Ok x) old ++ map words_say y) (spoken_skipped l ls p.0)
    ∙ sym (ap (λ y. map (λ x. Ok x) y ++ map words_say (spoken ls)) p.1)
says_step whole old new l ls h (inr p) =
    let front : List Say = map (λ x. Ok x) old in
    let rest : List Say = map words_say (spoken ls) in
    h ∙ ap (λ y. front ++ map words_say y) (spoken_more l ls p.0)
    ∙ ap (λ y. front ++ (y ∷ rest)) p.1.1
    ∙ sym (append_assoc front (Ok p.1.0 ∷ []) rest)
    ∙ ap (λ y. y ++ rest) (sym (map-append (λ x. Ok x) old (p.1.0 ∷ [])))
    ∙ sym (ap (λ y. map (λ x. Ok x) y ++ rest) p.1.2)

pub onward : (text : List ℕ) (old new : Draft) (n : ℕ) (l : List ℕ) (ls all : List (List ℕ)) → all ≡ l ∷ ls → Progress text old n all → TakesLine old new l
    → Progress text new (n + 1) ls
onward text old new n l ls all e h p =
    record {
      draft = p.draft;
      fault = ap (λ r. first_fault (n + 1 + 1) r ls) p.rank
          ∙ sym (ap (λ o. option_map_or (λ k. Some (n + 1, k)) o (first_fault (n + 1 + 1) (rank_after old.rank l) ls)) p.fault)
          ∙ sym (ap (first_fault (n + 1) old.rank) e) ∙ h.fault;
      texts = sym (ap (λ b. b && list_all is_text ls) p.text) ∙ sym (ap (list_all is_text) e) ∙ h.texts;
      says = says_step (map words_say (spoken (lines text))) (said old) (said new) l ls
          (h.says ∙ ap (λ y. map (λ x. Ok x) (said old) ++ map words_say (spoken y)) e) p.said;
    }

pub faulty : (text : List ℕ) (old : Draft) (n : ℕ) (l : List ℕ) (ls all : List (List ℕ)) (k : TextKind) → all ≡ l ∷ ls → Progress text old n all
    → fault_of_line old.rank l ≡ Some k → text_fault text ≡ Some (n + 1, k)
faulty text old n l ls all k e h f =
    sym h.fault ∙ ap (first_fault (n + 1) old.rank) e
    ∙ ap (λ o. option_map_or (λ y. Some (n + 1, y)) o (first_fault (n + 1 + 1) (rank_after old.rank l) ls)) f

pub nothing_said : (text : List ℕ) (d : Draft) (n : ℕ) (rest : List (List ℕ)) → rest ≡ [] → Progress text d n rest → d.rank ≡ 0 → text_fault text ≡ Some (1, kind.NoScene)
nothing_said text d n rest e h r =
    sym h.fault ∙ ap (first_fault (n + 1) d.rank) e ∙ ap (λ b. cond b (Some (1, kind.NoScene)) None) (eq-eqb d.rank 0 r)

pub spelled : (text : List ℕ) (d : Draft) (n : ℕ) (rest : List (List ℕ)) (s : Scene) → rest ≡ [] → Progress text d n rest → scene_statements s ≡ said d → SpellsText text s
spelled text d n rest s e h w = record {
  text_bytes = sym h.texts ∙ ap (list_all is_text) e;
  says = h.says ∙ ap (λ y. map (λ x. Ok x) (said d) ++ map words_say (spoken y)) e ∙ append-nil (map (λ x. Ok x) (said d)) ∙ sym (ap (map (λ x. Ok x)) w);
}
