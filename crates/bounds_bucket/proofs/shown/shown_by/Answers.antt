use Rattle.std.proofs.Common.{◌∙◌, ap, sym, not}
use Rattle.bounds_bucket.proofs.Signs.{shown_above, shown_below}
use Rattle.bounds_bucket.proofs.shown.shown_by.Goals as goal

pub returns : goal.returns
returns c = record {
  above = λ a h. shown_above c.args.state.now a h ∙ ap not (sym c.is_culled.ensures);
  below = λ a h. shown_below c.args.state.now a h ∙ ap not (sym c.is_culled-2.ensures);
}
