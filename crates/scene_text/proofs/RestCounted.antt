-- Lines that are counted and not stored, and what they make of a text.
use Rattle.std.proofs.Common.{◌≡◌, ℕ, suc, ◌+◌, ◌<◌, ◌≤◌, ◌==◌, true, List, [], ◌∷◌, length, ap, refl, sym, subst, ◌∙◌, arith, eqb-true, Some, None, Ok, Err}
use Rattle.std.specs.Option.{option_map_or}
use Rattle.std.specs.Str.Lines.{lines}
use Rattle.std.proofs.lemmas.Bool.{and_parts}
use Rattle.rc_base.specs.declared.scene.Limit.{Limit}
use Rattle.rc_base.specs.declared.scene.Scene.{Scene}
use Rattle.rc_base.specs.Formats.Limits.{commands_in, limit_of}
use Rattle.scene_text.specs.Text.Faults.{rank_after, fault_of_line, first_fault}
use Rattle.scene_text.specs.declared.draft.Draft.{Draft}
use Rattle.scene_text.specs.declared.tally.Tally.{Tally}
use Rattle.scene_text.specs.declared.parse.LineFault.{LineFault}
use Rattle.scene_text.specs.declared.parse.LineFault.TheVariants as fault
use Rattle.scene_text.specs.declared.parse.TextSceneFault.{TextSceneFault}
use Rattle.scene_text.specs.declared.parse.TextSceneFault.TheVariants as text_fault_of
use Rattle.scene_text.specs.Drafts.{TakesLine, ReadsLine, Progress, IsTextFault, line_fault_of}
use Rattle.scene_text.specs.Tally.{line_name, clients_by, commands_by, clients_in_lines, commands_in_lines, stored_commands, is_over, CountsRest, JudgesRest}
use Rattle.scene_text.proofs.FaultFreeSpells.{last_rank, through}

-- so many clients and commands are counted, and these bytes are left
pub record Counted (text : List ℕ) (before line : ℕ) (rest : List ℕ) (tally : Tally) : Type 0 where
  pub fault : first_fault (line + 1) 5 (lines rest) ≡ first_fault (before + 1) 5 (lines text)
  pub clients : tally.clients + clients_in_lines (lines rest) ≡ clients_in_lines (lines text)
  pub commands : tally.commands + commands_in_lines (lines rest) ≡ commands_in_lines (lines text)
  pub few_clients : tally.clients + length rest ≤ length text
  pub few_commands : tally.commands + length rest ≤ length text
  pub few_lines : line + length rest ≤ before + length text

pub counted_none : (text : List ℕ) (before : ℕ) → Counted text before before text (record { clients = 0; commands = 0 })
counted_none text before = record { fault = refl; clients = omega arith; commands = omega arith; few_clients = omega arith; few_commands = omega arith; few_lines = omega arith }

pub counted_more : (text : List ℕ) (before line : ℕ) (rest first after : List ℕ) (t : Tally) (more : ℕ) (most : ℕ) (d new : Draft) → Counted text before line rest t
    → lines rest ≡ first ∷ lines after → length after < length rest → d.rank ≡ 5 → TakesLine d new first → more ≡ clients_by (line_name first) → most ≡ commands_by (line_name first)
    → more ≤ 1 → most ≤ 1 → Counted text before (line + 1) after (record { clients = t.clients + more; commands = t.commands + most })
counted_more text before line rest first after t more most d new c parts less five p one two a b =
    let none : fault_of_line 5 first ≡ None = subst (λ r. fault_of_line r first ≡ None) five p.fault in
    let last : rank_after 5 first ≡ 5 = last_rank 5 first refl none in
    record {
      fault = ap (λ r. first_fault (line + 1 + 1) r (lines after)) (sym last)
          ∙ sym (ap (λ o. option_map_or (λ k. Some (line + 1, k)) o (first_fault (line + 1 + 1) (rank_after 5 first) (lines after))) none)
          ∙ sym (ap (first_fault (line + 1) 5) parts) ∙ c.fault;
      clients = omega (arith, c.clients, ap clients_in_lines parts, one);
      commands = omega (arith, c.commands, ap commands_in_lines parts, two);
      few_clients = omega (arith, c.few_clients, less, a);
      few_commands = omega (arith, c.few_commands, less, b);
      few_lines = omega (arith, c.few_lines, less);
    }

pub counted_fails : (text : List ℕ) (before line : ℕ) (rest first after : List ℕ) (t : Tally) (d new : Draft) (f : LineFault) → Counted text before line rest t
    → lines rest ≡ first ∷ lines after → d.rank ≡ 5 → ReadsLine d new (Err f) first → CountsRest before text (Err (line_fault_of (line + 1) f))
counted_fails text before line rest first after t d new fault.OutOfMemory c parts five h = tt
counted_fails text before line rest first after t d new (fault.Text k) c parts five h =
    let here : fault_of_line 5 first ≡ Some k = subst (λ r. fault_of_line r first ≡ Some k) five h in
    sym c.fault ∙ ap (first_fault (line + 1) 5) parts
    ∙ ap (λ o. option_map_or (λ y. Some (line + 1, y)) o (first_fault (line + 1 + 1) (rank_after 5 first) (lines after))) here

pub counted_all : (text : List ℕ) (before line : ℕ) (rest : List ℕ) (t : Tally) → Counted text before line rest t → lines rest ≡ []
    → CountsRest before text (Ok t)
counted_all text before line rest t c none = (
  sym c.fault ∙ ap (first_fault (line + 1) 5) none,
  omega (arith, c.clients, ap clients_in_lines none),
  omega (arith, c.commands, ap commands_in_lines none),
)

-- ---- what is judged

pub over_rank : (d : Draft) → is_over d ≡ true → d.rank ≡ 5
over_rank d e = eqb-true d.rank 5 (and_parts (d.rank == 5) _ e).0

pub judges_tally : (d : Draft) (before : ℕ) (rest : List ℕ) (t : Tally) (l : Limit) → CountsRest before rest (Ok t)
    → ((s : Scene) → s.decl ≡ d.decl → length s.streams ≡ suc (length d.streams) + t.clients → commands_in s.streams ≡ stored_commands d + t.commands → limit_of s ≡ Some l)
    → JudgesRest d before rest (text_fault_of.Limit l.what l.value)
judges_tally d before rest t l c h = (
  c.0,
  λ s totals. h s totals.decl (omega (arith, totals.clients, c.1)) (omega (arith, totals.commands, c.2)),
)

pub judged_rest : (text : List ℕ) (d : Draft) (line : ℕ) (rest : List ℕ) (f : TextSceneFault) → Progress text d line (lines rest) → is_over d ≡ true → JudgesRest d line rest f
    → IsTextFault text f
judged_rest text d line rest text_fault_of.OutOfMemory p over h = tt
judged_rest text d line rest (text_fault_of.Text at k) p over h =
    sym p.fault ∙ ap (λ r. first_fault (line + 1) r (lines rest)) (over_rank d over) ∙ h
judged_rest text d line rest (text_fault_of.Limit what value) p over h =
    let five = over_rank d over in
    let end = through text d line (lines rest) p (ap (λ r. first_fault (line + 1) r (lines rest)) five ∙ h.0) in
    (end.0, end.1, h.1 end.0 (end.2 five))
