-- A text without fault spells a scene.
use Rattle.std.proofs.Common.{◌≡◌, ℕ, ℤ, ◌+◌, ◌≤◌, ◌==◌, ◌||◌, Bool, true, false, cond, inl, inr, List, [], ◌∷◌, ◌++◌, zero, suc, length, take, drop, pos, unsigned_abs, ap, refl, sym, subst, ◌∙◌, arith, append-nil, not, length-append, Option, Some, None, Result, Ok, Err}
use Rattle.std.specs.List.{flat_map}
use Rattle.std.specs.Option.{option_map, option_map_or}
use Rattle.std.specs.Str.Lines.{lines}
use Rattle.std.proofs.Math.ListN.{drop_of_length-le}
use Rattle.std.proofs.lemmas.Bool.{and_parts, cases_Bool, cases_lt, leb-true, eqb-true}
use Rattle.std.proofs.lemmas.Grind.{flat_map-append}
use Rattle.std.proofs.lemmas.List.Sums.{sum_by-append, sum_by-cons}
use Rattle.rc_base.specs.declared.command.Command.{Command}
use Rattle.rc_base.specs.declared.command.Opcode.{Opcode}
use Rattle.rc_base.specs.Formats.Limits.{commands_in}
use Rattle.rc_base.specs.declared.scene.Scene.{Scene}
use Rattle.rc_base.specs.declared.scene.TextKind.{TextKind}
use Rattle.rc_base.specs.declared.scene.TextKind.TheVariants as kind
use Rattle.rc_base.specs.declared.text.LineName.{LineName}
use Rattle.rc_base.specs.declared.text.LineName.TheVariants as line
use Rattle.rc_base.specs.Formats.Commands.{picture_area, CommandParts}
use Rattle.scene_text.specs.Text.Statements.{Statement, statement, line_ranges, line_has_picture, decl_statements, client_statements, scene_statements, command_statement}
use Rattle.scene_text.specs.Text.Read.{is_text, is_comment, has_no_word, is_skipped, words_of, name_of, numbers_of, spelled_texels, is_counted, or_fault, has_version, with_texels, with_numbers, arguments_say, SpellsText}
use Rattle.scene_text.specs.Text.Faults.{rank_of, rank_after, rank_after_words, least_before, most_before, may_stand, kind_of_fault, fault_of_line, fault_of_words, fault_under, first_fault, text_fault}
use Rattle.command_table.specs.Ranges.{AreIn}
use Rattle.command_table.proofs.FieldsAndParts.{command_of_parts}
use Rattle.command_table.proofs.PartsMakeCommands.{byte_again, half_again, parts_again}
use Rattle.scene_text.specs.declared.draft.Draft.{Draft}
use Rattle.scene_text.specs.Drafts.{said, IsDraft, Adds, ReadsNamed, ReadsWords, TakesLine, Progress}
use Rattle.scene_text.specs.Tally.{first_name, line_name, Grows, Totals}
use Rattle.scene_text.proofs.DraftsGrow.{declared, attended, adds_window, adds_shared, adds_barrier, adds_semaphore, adds_first_client, adds_client, adds_command}
use Rattle.scene_text.proofs.NumbersReadInRange.{numbers_in}
use Rattle.scene_text.proofs.WhatWordsSay.{versioned}
use Rattle.scene_text.proofs.LinesInTurn.{named_ok, words_ok, line_ok, line_skipped, line_fault_is, rank_is, skipped_rank, begin, onward, spelled}

-- ---- what a line without fault says

-- what is said under a name: its numbers in their ranges, and texels only where it has a picture
record Said (name : LineName) (s : Statement) : Type 0 where
  named : s ≡ statement name s.numbers s.texels
  in_ranges : AreIn (line_ranges name) s.numbers
  texels_are : line_has_picture name ≡ false → s.texels ≡ []

texels_said : (name : LineName) (zs : List ℤ) (o : Option (List ℕ)) (s : Statement) → AreIn (line_ranges name) zs → (line_has_picture name ≡ false → ⊥)
    → or_fault kind.BadHex (option_map (statement name zs) o) ≡ Ok s → Said name s
texels_said name zs None s h p e = absurd (cc)
texels_said name zs (Some ts) s h p e = let same : statement name zs ts ≡ s = cc in subst (Said name) same (record { named = refl; in_ranges = h; texels_are = λ f. absurd (p f) })

rest_said : (name : LineName) (zs : List ℤ) (rest : List (List ℕ)) (s : Statement) → AreIn (line_ranges name) zs → (line_has_picture name ≡ false → rest ≡ [])
    → with_texels name rest zs ≡ Ok s → Said name s
rest_said name zs [] s h p e = let same : statement name zs [] ≡ s = cc in subst (Said name) same (record { named = refl; in_ranges = h; texels_are = λ f. refl })
rest_said name zs (w ∷ ws) s h p e = texels_said name zs (spelled_texels (picture_area zs) w) s h (λ f. let x : w ∷ ws ≡ [] = p f in absurd (cc)) e

numbers_said : (name : LineName) (ws rest : List (List ℕ)) (o : Option (List ℤ)) (s : Statement) → numbers_of (line_ranges name) ws ≡ o
    → (line_has_picture name ≡ false → rest ≡ []) → with_numbers name rest o ≡ Ok s → Said name s
numbers_said name ws rest None s n p e = absurd (cc)
numbers_said name ws rest (Some zs) s n p e = rest_said name zs rest s (numbers_in (line_ranges name) ws zs n) p (versioned name zs rest (has_version name zs) s e)

-- where no picture follows, the numbers are all
counted_rest : (name : LineName) (ws : List (List ℕ)) → is_counted name ws ≡ true → line_has_picture name ≡ false → drop (length (line_ranges name)) ws ≡ []
counted_rest name ws c p =
    let count = length (line_ranges name) in
    let c' = rw p at c in
    let n : length ws ≡ count = eqb-true (length ws) count (and_parts (_) (length ws == count) c').1 in
    drop_of_length-le ws (omega (arith, n))

counted_said : (name : LineName) (ws : List (List ℕ)) (b : Bool) (s : Statement) → is_counted name ws ≡ b
    → cond b (with_numbers name (drop (length (line_ranges name)) ws) (numbers_of (line_ranges name) (take (length (line_ranges name)) ws))) (Err kind.WrongCount) ≡ Ok s → Said name s
counted_said name ws false s c e = absurd (cc)
counted_said name ws true s c e =
    let count = length (line_ranges name) in
    numbers_said name (take count ws) (drop count ws) (numbers_of (line_ranges name) (take count ws)) s refl (counted_rest name ws c) e

arguments_said : (name : LineName) (ws : List (List ℕ)) (s : Statement) → arguments_say name ws ≡ Ok s → Said name s
unfolding arguments_say
arguments_said name ws s h = counted_said name ws (is_counted name ws) s refl h

-- ---- and what it adds

abbrev More : Draft → Statement → Type 0
More d s = (new : Draft) × Adds d new s × (d.rank ≡ 5 → Grows d new (Some s.name))

commands_more : (css : List (List Command)) (cs : List Command) → commands_in (css ++ cs ∷ []) ≡ commands_in css + length cs
commands_more css cs = sum_by-append length css (cs ∷ []) ∙ omega (arith, sum_by-cons length cs [])

standing : (r : ℕ) (n : LineName) → may_stand r n ≡ true → (least_before n ≤ r) × (r ≤ most_before n)
standing r n m = let h = and_parts _ _ m in (leb-true (least_before n) r h.0, leb-true r (most_before n) h.1)

parts_said : (o : Opcode) (zs : List ℤ) (ts : List ℕ) → AreIn (line_ranges (line.Command o)) zs → (line_has_picture (line.Command o) ≡ false → ts ≡ [])
    → command_statement (command_of_parts o zs ts) ≡ statement (line.Command o) zs ts
parts_said o zs ts h none = ap (λ (p : CommandParts). statement (line.Command p.opcode) p.numbers p.texels) (parts_again o zs ts h none)

adds_said : (d : Draft) (name : LineName) (zs : List ℤ) (ts : List ℕ) → IsDraft d → may_stand d.rank name ≡ true → AreIn (line_ranges name) zs
    → (line_has_picture name ≡ false → ts ≡ []) → More d (statement name zs ts)
adds_said d line.Scene [] ts hd m h t = absurd h
adds_said d line.Scene (v ∷ []) ts hd m h t = absurd h.1
adds_said d line.Scene (v ∷ (x ∷ [])) ts hd m h t = absurd h.1.1
adds_said d line.Scene (v ∷ (x ∷ (y ∷ (z ∷ zs)))) ts hd m h t = absurd h.1.1.1
adds_said d line.Scene (v ∷ (x ∷ (y ∷ []))) ts hd m h t =
    let k = standing d.rank line.Scene m in
    let e : statement line.Scene (pos (unsigned_abs v) ∷ pos (unsigned_abs x) ∷ pos (unsigned_abs y) ∷ []) [] ≡ statement line.Scene (v ∷ x ∷ y ∷ []) ts =
    λ i. statement line.Scene (byte_again v h.0 i ∷ half_again x h.1.0 i ∷ half_again y h.1.1.0 i ∷ []) (sym (t refl) i)
    in
    subst (More d) e (_, adds_window d (unsigned_abs v) (unsigned_abs x) (unsigned_abs y) hd (omega (arith, k.1)), λ five. absurd (omega (arith, five, k.1)))
adds_said d line.Shared [] ts hd m h t = absurd h
adds_said d line.Shared (x ∷ []) ts hd m h t = absurd h.1
adds_said d line.Shared (x ∷ (y ∷ (z ∷ zs))) ts hd m h t = absurd h.1.1
adds_said d line.Shared (x ∷ (y ∷ [])) ts hd m h t =
    let k = standing d.rank line.Shared m in
    let e : statement line.Shared (pos (unsigned_abs x) ∷ pos (unsigned_abs y) ∷ []) [] ≡ statement line.Shared (x ∷ y ∷ []) ts =
    λ i. statement line.Shared (half_again x h.0 i ∷ half_again y h.1.0 i ∷ []) (sym (t refl) i)
    in
    subst (More d) e (_, adds_shared d (unsigned_abs x ∷ unsigned_abs y ∷ []) hd k.0 k.1, λ five. absurd (omega (arith, five, k.1)))
adds_said d line.Barrier [] ts hd m h t = absurd h
adds_said d line.Barrier (x ∷ (y ∷ zs)) ts hd m h t = absurd h.1
adds_said d line.Barrier (x ∷ []) ts hd m h t =
    let k = standing d.rank line.Barrier m in
    let e : statement line.Barrier (pos (unsigned_abs x) ∷ []) [] ≡ statement line.Barrier (x ∷ []) ts =
    λ i. statement line.Barrier (byte_again x h.0 i ∷ []) (sym (t refl) i)
    in
    subst (More d) e (_, adds_barrier d (unsigned_abs x) hd k.0 k.1, λ five. absurd (omega (arith, five, k.1)))
adds_said d line.Semaphore [] ts hd m h t = absurd h
adds_said d line.Semaphore (x ∷ (y ∷ zs)) ts hd m h t = absurd h.1
adds_said d line.Semaphore (x ∷ []) ts hd m h t =
    let k = standing d.rank line.Semaphore m in
    let e : statement line.Semaphore (pos (unsigned_abs x) ∷ []) [] ≡ statement line.Semaphore (x ∷ []) ts =
    λ i. statement line.Semaphore (half_again x h.0 i ∷ []) (sym (t refl) i)
    in
    subst (More d) e (_, adds_semaphore d (unsigned_abs x) hd k.0 k.1, λ five. absurd (omega (arith, five, k.1)))
adds_said d line.Client (x ∷ zs) ts hd m h t = absurd h
adds_said d line.Client [] ts hd m h t =
    let k = standing d.rank line.Client m in
    let more : More d (statement line.Client [] []) = elim (cases_lt d.rank 5) [
      | inl lt ↦ (_, adds_first_client d hd k.0 lt, λ five. absurd (omega (arith, five, lt)))
      | inr ge ↦ (
        _,
        adds_client d (omega (arith, ge, k.1)),
        λ five. record {
          decl = refl;
          clients = length-append d.streams (d.stream ∷ []);
          commands = omega (arith, commands_more d.streams d.stream);
        },
      )
    ] in
    subst (λ x. More d (statement line.Client [] x)) (sym (t refl)) more
adds_said d (line.Command o) zs ts hd m h t =
    let k = standing d.rank (line.Command o) m in
    let last : d.rank ≡ 5 = omega (arith, k.0, k.1) in
    subst (More d) (parts_said o zs ts h t) (
      _,
      adds_command d (command_of_parts o zs ts) last,
      λ five. record { decl = refl; clients = omega arith; commands = omega (arith, length-append d.stream (command_of_parts o zs ts ∷ [])) },
    )

-- ---- a line

abbrev Step : Draft → List (List ℕ) → Type 0
Step d words = (new : Draft) × ReadsWords d new (Ok tt) words × (d.rank ≡ 5 → Grows d new (first_name words))

named_step : (d : Draft) (name : LineName) (ws : List (List ℕ)) (b : Bool) (r : Result Statement TextKind) → IsDraft d → may_stand d.rank name ≡ b
    → arguments_say name ws ≡ r → cond b (kind_of_fault r) (Some kind.OutOfPlace) ≡ None → (new : Draft) × ReadsNamed d new (Ok tt) name ws × (d.rank ≡ 5 → Grows d new (Some name))
named_step d name ws false r hd m a h = absurd (cc)
named_step d name ws true (Err k) hd m a h = absurd (cc)
named_step d name ws true (Ok s) hd m a h =
    let says = arguments_said name ws s a in
    let more = subst (More d) (sym says.named) (adds_said d name s.numbers s.texels hd m says.in_ranges says.texels_are) in
    (more.0, named_ok d more.0 tt name ws m (s, a, more.1), λ five. subst (λ (n : LineName). Grows d more.0 (Some n)) (ap (λ (x : Statement). x.name) says.named) (more.2 five))

word_step : (d : Draft) (w : List ℕ) (ws : List (List ℕ)) (o : Option LineName) → IsDraft d → name_of w ≡ o → fault_under d.rank o ws ≡ None → Step d (w ∷ ws)
word_step d w ws None hd n h = absurd (cc)
word_step d w ws (Some name) hd n h =
    let named = named_step d name ws (may_stand d.rank name) (arguments_say name ws) hd refl refl h in
    (named.0, words_ok d named.0 tt (w ∷ ws) w ws name refl n named.1, λ five. subst (Grows d named.0) (sym n) (named.2 five))

words_step : (d : Draft) (words : List (List ℕ)) → IsDraft d → has_no_word words ≡ false → fault_of_words d.rank words ≡ None → Step d words
words_step d [] hd n h = absurd (cc)
words_step d (w ∷ ws) hd n h = word_step d w ws (name_of w) hd refl h

no_part : (a b : Bool) → a || b ≡ false → b ≡ false
no_part true b h = absurd (cc)
no_part false b h = h

name_skipped : (l : List ℕ) → is_skipped l ≡ true → line_name l ≡ None
unfolding line_name
name_skipped l e = ap (λ b. cond b None (first_name (words_of l))) e

name_said : (l : List ℕ) → is_skipped l ≡ false → line_name l ≡ first_name (words_of l)
unfolding line_name
name_said l e = ap (λ b. cond b None (first_name (words_of l))) e

line_step : (d : Draft) (l : List ℕ) → IsDraft d → fault_of_line d.rank l ≡ None → (new : Draft) × TakesLine d new l × (d.rank ≡ 5 → Grows d new (line_name l))
unfolding fault_of_line
line_step d l hd h = elim (cases_Bool (is_text l)) [
  | inl t ↦ elim (cases_Bool (is_skipped l)) [
    | inl s ↦ (d, line_skipped d l hd t s, λ five. subst (Grows d d) (sym (name_skipped l s)) (record { decl = refl; clients = omega arith; commands = omega arith }))
    | inr s ↦
        let h' : fault_of_words d.rank (words_of l) ≡ None = rw (t, s) at h in
        let step = words_step d (words_of l) hd (no_part (is_comment l) (has_no_word (words_of l)) s) h' in
        (step.0, line_ok d step.0 tt l t s step.1, λ five. subst (Grows d step.0) (sym (name_said l s)) (step.2 five))
  ]
  | inr f ↦ let h' : Some kind.NotText ≡ None = rw f at h in absurd (cc)
]

-- ---- a text

-- the draft is a scene
finished : (d : Draft) → IsDraft d → 1 ≤ d.rank → (s : Scene) × (scene_statements s ≡ said d) × (d.rank ≡ 5 → Totals d [] s)
finished d hd low = elim (cases_lt d.rank 5) [
  | inl lt ↦
      let none : d.streams ≡ [] = hd.streams lt in (
        record { decl = d.decl; streams = [] },
        append-nil (decl_statements d.decl) ∙ sym (declared d low lt none),
        λ five. absurd (omega (arith, five, lt)),
      )
  | inr ge ↦
      let last : d.rank ≡ 5 = omega (arith, ge, hd.rank) in (
        record { decl = d.decl; streams = d.streams ++ d.stream ∷ [] },
        ap (λ l. decl_statements d.decl ++ l) (flat_map-append client_statements d.streams (d.stream ∷ []) ∙ ap (λ l. flat_map client_statements d.streams ++ l) (append-nil (client_statements d.stream)))
            ∙ sym (attended d last),
        λ five. record { decl = refl; clients = omega (arith, length-append d.streams (d.stream ∷ [])); commands = omega (arith, commands_more d.streams d.stream) },
      )
]

some_rank : (r : ℕ) → cond {A = Option (ℕ × TextKind)} (r == 0) (Some (1, kind.NoScene)) None ≡ None → 1 ≤ r
some_rank zero h = absurd (cc)
some_rank (suc r) h = omega arith

highest : (n : LineName) → 5 ≤ most_before n → rank_of n ≡ 5
highest line.Scene h = absurd (omega (arith, h))
highest line.Shared h = absurd (omega (arith, h))
highest line.Barrier h = absurd (omega (arith, h))
highest line.Semaphore h = absurd (omega (arith, h))
highest line.Client h = refl
highest (line.Command o) h = refl

named_five : (r : ℕ) (name : LineName) (ws : List (List ℕ)) (b : Bool) → r ≡ 5 → may_stand r name ≡ b
    → cond b (kind_of_fault (arguments_say name ws)) (Some kind.OutOfPlace) ≡ None → rank_of name ≡ 5
named_five r name ws false five m g = absurd (cc)
named_five r name ws true five m g = let k = standing r name m in highest name (omega (arith, five, k.1))

under_five : (r : ℕ) (o : Option LineName) (ws : List (List ℕ)) → r ≡ 5 → fault_under r o ws ≡ None → option_map_or rank_of o r ≡ 5
under_five r None ws five f = five
under_five r (Some name) ws five f = named_five r name ws (may_stand r name) five refl f

words_five : (r : ℕ) (words : List (List ℕ)) → r ≡ 5 → fault_of_words r words ≡ None → rank_after_words r words ≡ 5
words_five r [] five f = five
words_five r (w ∷ ws) five f = under_five r (name_of w) ws five f

not_text : (r : ℕ) (l : List ℕ) → is_text l ≡ false → fault_of_line r l ≡ Some kind.NotText
unfolding fault_of_line
not_text r l t = ap (λ b. cond (not b) (Some kind.NotText) (cond (is_skipped l) None (fault_of_words r (words_of l)))) t

pub last_rank : (r : ℕ) (l : List ℕ) → r ≡ 5 → fault_of_line r l ≡ None → rank_after r l ≡ 5
last_rank r l five f = elim (cases_Bool (is_text l)) [
  | inl t ↦ elim (cases_Bool (is_skipped l)) [
    | inl s ↦ skipped_rank r l s ∙ five
    | inr s ↦ rank_is r l s ∙ words_five r (words_of l) five (sym (line_fault_is r l t s) ∙ f)
  ]
  | inr t ↦ absurd (cc (not_text r l t, f))
]

abbrev Ends : List ℕ → Draft → List (List ℕ) → Type 0
Ends text d rest = (s : Scene) × SpellsText text s × (d.rank ≡ 5 → Totals d rest s)

totals_more : (d new : Draft) (l : List ℕ) (ls : List (List ℕ)) (s : Scene) → Grows d new (line_name l) → Totals new ls s → Totals d (l ∷ ls) s
totals_more d new l ls s g t = record {
  decl = t.decl ∙ g.decl;
  clients = omega (arith, t.clients, g.clients);
  commands = omega (arith, t.commands, g.commands);
}

-- a line without fault leaves the clients' rank
stays : (d new : Draft) (l : List ℕ) → TakesLine d new l → d.rank ≡ 5 → new.rank ≡ 5
stays d new l p five = p.rank ∙ last_rank d.rank l five p.fault

pub through : (text : List ℕ) (d : Draft) (n : ℕ) (rest : List (List ℕ)) → Progress text d n rest → first_fault (n + 1) d.rank rest ≡ None → Ends text d rest
through text d n [] p h =
    let s = finished d p.draft (some_rank d.rank h) in
    (s.0, spelled text d n [] s.0 refl p s.1, s.2)
through text d n (l ∷ ls) p h = onto (fault_of_line d.rank l) refl h (λ new q k. through text new (n + 1) ls q k)
  where
    onto : (o : Option TextKind) → fault_of_line d.rank l ≡ o → option_map_or (λ k. Some (n + 1, k)) o (first_fault (n + 1 + 1) (rank_after d.rank l) ls) ≡ None
        → ((new : Draft) → Progress text new (n + 1) ls → first_fault (n + 1 + 1) new.rank ls ≡ None → Ends text new ls)
        → Ends text d (l ∷ ls)
    onto (Some k) f g then_ = absurd (cc)
    onto None f g then_ =
        let step = line_step d l p.draft f in
        let end = then_ step.0 (onward text d step.0 n l ls (l ∷ ls) refl p step.1) (subst (λ r. first_fault (n + 1 + 1) r ls ≡ None) (sym step.1.rank) g) in
        (end.0, end.1, λ five. totals_more d step.0 l ls end.0 (step.2 five) (end.2 (stays d step.0 l step.1 five)))

pub fault_free : (text : List ℕ) → text_fault text ≡ None → (s : Scene) × SpellsText text s
unfolding text_fault said
fault_free text h =
    let d : Draft = record { rank = 0; decl = record { version = 1; width = 0; height = 0; shared = []; barriers = []; semaphores = [] }; streams = []; stream = [] } in
    let hd : IsDraft d = record { rank = omega arith; shared = λ _. refl; barriers = λ _. refl; semaphores = λ _. refl; streams = λ _. refl; stream = λ _. refl } in
    let end = through text d 0 (lines text) (begin text d hd refl refl) h in
    (end.0, end.1)
