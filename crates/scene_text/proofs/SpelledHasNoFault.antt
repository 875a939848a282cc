-- A text that spells a scene has no fault.
use Rattle.std.proofs.Common.{◌≡◌, ℕ, ◌+◌, ◌≤◌, Bool, true, false, cond, List, [], ◌∷◌, ◌++◌, map, ap, refl, sym, subst, ◌∙◌, arith, append_assoc, Option, Some, None, Ok}
use Rattle.std.specs.List.{list_all, flat_map}
use Rattle.std.specs.Option.{option_map_or}
use Rattle.std.specs.Str.Lines.{lines}
use Rattle.std.proofs.lemmas.Bool.{ne_eqb, le-leb, and_from, and_parts}
use Rattle.rc_base.specs.declared.command.Command.{Command}
use Rattle.rc_base.specs.declared.scene.Scene.{Scene}
use Rattle.rc_base.specs.declared.scene.TextKind.TheVariants as kind
use Rattle.rc_base.specs.declared.text.LineName.{LineName}
use Rattle.rc_base.specs.declared.text.LineName.TheVariants as line
use Rattle.scene_text.specs.Text.Statements.{Statement, command_statement, shared_statement, barrier_statement, semaphore_statement, client_statements, scene_statements}
use Rattle.scene_text.specs.Text.Read.{is_text, is_skipped, words_of, name_of, words_say, words_say_under, arguments_say, spoken, SpellsText}
use Rattle.scene_text.specs.Text.Faults.{rank_of, rank_after, rank_after_words, least_before, most_before, may_stand, kind_of_fault, fault_of_words, fault_under, first_fault, text_fault}
use Rattle.scene_text.proofs.WhatWordsSay.{says_name}
use Rattle.scene_text.proofs.LinesInTurn.{line_fault_is, rank_is, skipped_fault, skipped_rank, spoken_skipped, spoken_more}

-- each statement may stand behind the one before it
abbrev Rises : ℕ → List Statement → Type 0
Rises r [] = Unit {0}
Rises r (s ∷ ss) = (may_stand r s.name ≡ true) × Rises (rank_of s.name) ss

under_ok : (r : ℕ) (o : Option LineName) (ws : List (List ℕ)) (s : Statement) → words_say_under o ws ≡ Ok s → may_stand r s.name ≡ true
    → (fault_under r o ws ≡ None) × (option_map_or rank_of o r ≡ rank_of s.name)
under_ok r None ws s h m = absurd (cc)
under_ok r (Some name) ws s h m =
    let e : s.name ≡ name = says_name name ws s h in
    let stands : may_stand r name ≡ true = subst (λ n. may_stand r n ≡ true) e m in
    (ap (λ t. cond t (kind_of_fault (arguments_say name ws)) (Some kind.OutOfPlace)) stands ∙ ap kind_of_fault h, ap rank_of (sym e))

words_rise : (r : ℕ) (ws : List (List ℕ)) (s : Statement) → words_say ws ≡ Ok s → may_stand r s.name ≡ true
    → (fault_of_words r ws ≡ None) × (rank_after_words r ws ≡ rank_of s.name)
words_rise r [] s h m = absurd (cc)
words_rise r (w ∷ ws) s h m = under_ok r (name_of w) ws s h m

-- where something was said, or is
abbrev IsSaid : ℕ → List Statement → Type 0
IsSaid r [] = 1 ≤ r
IsSaid r (s ∷ ss) = Unit {0}

ranked : (n : LineName) (ss : List Statement) → IsSaid (rank_of n) ss
ranked line.Scene [] = omega arith
ranked line.Shared [] = omega arith
ranked line.Barrier [] = omega arith
ranked line.Semaphore [] = omega arith
ranked line.Client [] = omega arith
ranked (line.Command o) [] = omega arith
ranked n (s ∷ ss) = tt

line_then : (n r : ℕ) (l : List ℕ) (ls : List (List ℕ)) → is_text l ≡ true
    → ((q : ℕ) (qs : List Statement) → map words_say (spoken ls) ≡ map (λ x. Ok x) qs → Rises q qs → IsSaid q qs → first_fault (n + 1) q ls ≡ None)
    → (b : Bool) → is_skipped l ≡ b → (qs : List Statement) → map words_say (spoken (l ∷ ls)) ≡ map (λ x. Ok x) qs → Rises r qs → IsSaid r qs
    → first_fault n r (l ∷ ls) ≡ None
line_then n r l ls t then_ true e qs k up said =
    ap (λ o. option_map_or (λ f. Some (n, f)) o (first_fault (n + 1) (rank_after r l) ls)) (skipped_fault r l t e)
    ∙ ap (λ q. first_fault (n + 1) q ls) (skipped_rank r l e)
    ∙ then_ r qs (sym (ap (map words_say) (spoken_skipped l ls e)) ∙ k) up said
line_then n r l ls t then_ false e [] k up said = absurd (cc (k, spoken_more l ls e))
line_then n r l ls t then_ false e (q ∷ qs) k up said =
    let m : words_say (words_of l) ∷ map words_say (spoken ls) ≡ Ok q ∷ map (λ x. Ok x) qs = sym (ap (map words_say) (spoken_more l ls e)) ∙ k in
    let one : words_say (words_of l) ≡ Ok q = cc in
    let more : map words_say (spoken ls) ≡ map (λ x. Ok x) qs = cc in
    let w = words_rise r (words_of l) q one up.0 in
    ap (λ o. option_map_or (λ f. Some (n, f)) o (first_fault (n + 1) (rank_after r l) ls)) (line_fault_is r l t e ∙ w.0)
    ∙ ap (λ z. first_fault (n + 1) z ls) (rank_is r l e ∙ w.1)
    ∙ then_ (rank_of q.name) qs more up.1 (ranked q.name qs)

no_fault : (n r : ℕ) (ls : List (List ℕ)) (ss : List Statement) → list_all is_text ls ≡ true
    → map words_say (spoken ls) ≡ map (λ x. Ok x) ss → Rises r ss → IsSaid r ss → first_fault n r ls ≡ None
no_fault n r [] [] t h rise some = ap (λ b. cond b (Some (1, kind.NoScene)) None) (ne_eqb r 0 (omega arith))
no_fault n r [] (s ∷ ss) t h rise some = absurd (cc)
no_fault n r (l ∷ ls) ss t h rise some =
    let text = and_parts (is_text l) (list_all is_text ls) t in
    line_then n r l ls text.0 (λ q qs. no_fault (n + 1) q ls qs text.1) (is_skipped l) refl ss h rise some

-- ---- the statements of a scene rise

stands : (r : ℕ) (n : LineName) → least_before n ≤ r → r ≤ most_before n → may_stand r n ≡ true
stands r n low high = and_from _ _ (le-leb (least_before n) r low) (le-leb r (most_before n) high)

rise_commands : (cs : List Command) (rest : List Statement) → Rises 5 rest → Rises 5 (map command_statement cs ++ rest)
rise_commands [] rest h = h
rise_commands (c ∷ cs) rest h = (refl, rise_commands cs rest h)

rise_clients : (css : List (List Command)) (r : ℕ) → 1 ≤ r → r ≤ 5 → Rises r (flat_map client_statements css)
rise_clients [] r low high = tt
rise_clients (cs ∷ css) r low high =
    (stands r line.Client low high, rise_commands cs (flat_map client_statements css) (rise_clients css 5 (omega arith) (omega arith)))

rise_semaphores : (us : List ℕ) (rest : List Statement) → ((r : ℕ) → 1 ≤ r → r ≤ 5 → Rises r rest) → (r : ℕ) → 1 ≤ r → r ≤ 4
    → Rises r (map semaphore_statement us ++ rest)
rise_semaphores [] rest h r low high = h r low (omega arith)
rise_semaphores (u ∷ us) rest h r low high = (stands r line.Semaphore low high, rise_semaphores us rest h 4 (omega arith) (omega arith))

rise_barriers : (bs : List ℕ) (rest : List Statement) → ((r : ℕ) → 1 ≤ r → r ≤ 4 → Rises r rest) → (r : ℕ) → 1 ≤ r → r ≤ 3
    → Rises r (map barrier_statement bs ++ rest)
rise_barriers [] rest h r low high = h r low (omega arith)
rise_barriers (b ∷ bs) rest h r low high = (stands r line.Barrier low high, rise_barriers bs rest h 3 (omega arith) (omega arith))

rise_shared : (ss : List (List ℕ)) (rest : List Statement) → ((r : ℕ) → 1 ≤ r → r ≤ 3 → Rises r rest) → (r : ℕ) → 1 ≤ r → r ≤ 2
    → Rises r (map shared_statement ss ++ rest)
rise_shared [] rest h r low high = h r low (omega arith)
rise_shared (s ∷ ss) rest h r low high = (stands r line.Shared low high, rise_shared ss rest h 2 (omega arith) (omega arith))

scene_rises : (s : Scene) → Rises 0 (scene_statements s)
scene_rises s =
    let clients = flat_map client_statements s.streams in
    let a = map shared_statement s.decl.shared in
    let b = map barrier_statement s.decl.barriers in
    let u = map semaphore_statement s.decl.semaphores in (
      refl,
      subst (Rises 1) (sym (append_assoc a (b ++ u) clients ∙ ap (λ l. a ++ l) (append_assoc b u clients)))
          (rise_shared s.decl.shared (b ++ (u ++ clients))
          (rise_barriers s.decl.barriers (u ++ clients) (rise_semaphores s.decl.semaphores clients (rise_clients s.streams)))
          1 (omega arith) (omega arith)),
    )

pub spelled_no_fault : (text : List ℕ) (s : Scene) → SpellsText text s → text_fault text ≡ None
unfolding text_fault
spelled_no_fault text s h = no_fault 1 0 (lines text) (scene_statements s) h.text_bytes h.says (scene_rises s) tt
