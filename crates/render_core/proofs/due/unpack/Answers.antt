use Rattle.std.proofs.Common.{None, ◌∙◌, List, ℕ, [], ap, subst, sym, rules}
use Rattle.scene_text.specs.Text.Read.{SpellsText}
use Rattle.run_words.specs.declared.told.Ending.TheVariants.{Complete}
use Rattle.render_core.specs.Due.{Outcome}
use Rattle.render_core.proofs.due.unpack.Goals as goal

pub returns : goal.returns
returns c = record {
  outcome =
      let fields = c.requires.well in
      let is = c.text_alone.ensures.outcome in
      let image : Outcome → List ℕ = λ o. o.image in (
        is ∙ ap (λ (l : List ℕ). record { image = l; notes = []; ending = Complete; kept = None }) c.in_ok-text.ensures.text,
        subst (λ (l : List ℕ). SpellsText l c.args.scene.now) (sym (ap image is)) (c.in_ok-text.ensures.spells fields.0 fields.1),
      );
  writable = search rules;
  refused = search rules;
}
