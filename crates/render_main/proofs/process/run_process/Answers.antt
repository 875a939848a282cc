use Rattle.std.proofs.Common.{◌≡◌, ℕ, List, Option, sym, ap, subst, ◌∙◌, inr}
use Rattle.std.proofs.lemmas.Result.{IfOk-weaker}
use Rattle.std.specs.declared.string.String.{String}
use Rattle.std.specs.Global.{Global}
use Rattle.rc_base.specs.Outside.Ends.{use_of}
use Rattle.render_main.specs.Exits.{EndsUsed}
use Rattle.render_main.specs.Processes.{AreRun}
use Rattle.render_main.specs.declared.process.NoWords.TheVariants.{NotText}
use Rattle.render_main.specs.declared.process.NoWords.TheVariants.{OutOfMemory as NoMemory}
use Rattle.render_main.proofs.process.run_process.Goals.{in-Ok, in-Err-NotText, in-Err-OutOfMemory}
use Rattle.render_main.proofs.process.run_process.Goals as goal

module _ {S I N : Type 0} (ls : S → Option (List ℕ)) (fs : S → ℕ) (li : I → Option (List ℕ)) (fi : I → ℕ) (ln : N → Option (List ℕ)) (fn : N → ℕ) where
  -- words that were run on ends that are these
  on_ends : {words later : List (String Global)} {s_old s_start s_new s_end : S} {i_old i_start i_new i_end : I} {n_old n_start n_new n_end : N} {status last : ℕ}
      → words ≡ later → s_old ≡ s_start → s_end ≡ s_new → i_old ≡ i_start → i_end ≡ i_new → n_old ≡ n_start → n_end ≡ n_new → last ≡ status
      → AreRun words (record { source = use_of ls fs s_old s_new; image = use_of li fi i_old i_new; notes = use_of ln fn n_old n_new }) status
      → AreRun later (record { source = use_of ls fs s_start s_end; image = use_of li fi i_start i_end; notes = use_of ln fn n_start n_end }) last
  on_ends {words} {later} {s_old} {s_start} {s_new} {s_end} {i_old} {i_start} {i_new} {i_end} {n_old} {n_start} {n_new} {n_end} {status} {last} w s0 s1 i0 i1 n0 n1 st ran =
      let ends : S → S → I → I → N → N → EndsUsed = λ a b p q x y. record { source = use_of ls fs a b; image = use_of li fi p q; notes = use_of ln fn x y } in
      subst (λ l. AreRun later (ends s_start s_end i_start i_end n_start n_end) l) (sym st)
      (subst (λ l. AreRun l (ends s_start s_end i_start i_end n_start n_end) status) w
      (subst (λ l. AreRun words (ends l s_end i_start i_end n_start n_end) status) s0
      (subst (λ l. AreRun words (ends s_old l i_start i_end n_start n_end) status) (sym s1)
      (subst (λ l. AreRun words (ends s_old s_new l i_end n_start n_end) status) i0
      (subst (λ l. AreRun words (ends s_old s_new i_old l n_start n_end) status) (sym i1)
      (subst (λ l. AreRun words (ends s_old s_new i_old i_new l n_end) status) n0
      (subst (λ l. AreRun words (ends s_old s_new i_old i_new n_old l) status) (sym n1) ran)))))))

pub returns-clause-ran : goal.returns-clause-ran
returns-clause-ran g c =
    elim c.match-words_of.branch [
      | in-Ok w ↦
          IfOk-weaker c.args.args _ _
          (λ all words. on_ends (λ s. s.left) (λ s. s.faults) (λ s. s.held) (λ s. s.faults) (λ s. s.held) (λ s. s.faults)
          (w.as_slice.ensures.value ∙ words) c.new-source.ensures w.source-is c.new-image.ensures w.image-is c.new-notes.ensures w.notes-is w.status-is
          w.status_of_words-status.ensures)
          w.in-Ok.ensures.given
      | in-Err-NotText w ↦
          IfOk-weaker c.args.args _ _ (λ all none. let apart : NotText ≡ NoMemory = sym w.in-Err-NotText.field-0-is ∙ none in absurd cc) w.in-Err-NotText.ensures.given
      | in-Err-OutOfMemory w ↦
          IfOk-weaker c.args.args _ _
          (λ all none. record {
            outcome = inr (record {
              status_is = w.status-is;
              source = (ap (λ s. s.left) (w.source-is ∙ c.new-source.ensures), ap (λ s. s.faults) (w.source-is ∙ c.new-source.ensures));
              image = (ap (λ s. s.held) (w.image-is ∙ c.new-image.ensures), ap (λ s. s.faults) (w.image-is ∙ c.new-image.ensures));
              notes = (ap (λ s. s.held) (w.notes-is ∙ c.new-notes.ensures), ap (λ s. s.faults) (w.notes-is ∙ c.new-notes.ensures));
            });
          })
          w.in-Err-OutOfMemory.ensures.given
    ]
