use Rattle.std.proofs.Common.{◌∙◌, subst, codes}
use Rattle.clap.specs.Words.{found_of, one_text}
use Rattle.command_line.proofs.ValuesRead.{ReadsNumber, ReadsTiles, tiles_value, depth_value, order_value, seed_value, size_value}
use Rattle.command_line.proofs.values.settings_of.Goals as goal

pub returns : goal.returns
returns c = λ ss each texts. record {
  tiles = tiles_value ss c.tiles_or_one-columns.result each (subst (λ t. ReadsTiles t c.tiles_or_one-columns.result) (c.get_str.ensures ∙ texts.tiles) (record { none = c.tiles_or_one-columns.ensures.none; some = c.tiles_or_one-columns.ensures.some }));
  depth = depth_value ss c.number_or.result each (subst (λ t. ReadsNumber t 8 c.number_or.result) (c.get_str-2.ensures ∙ texts.depth) (record { none = c.number_or.ensures.none; some = c.number_or.ensures.some }));
  order = order_value ss c.get_flag.result (one_text (found_of c.args.matches.now) (codes "order")) texts.order c.get_flag.ensures.value c.get_flag.ensures.other;
  seed = seed_value ss c.number_or-2.result each (subst (λ t. ReadsNumber t 0 c.number_or-2.result) (c.get_str-3.ensures ∙ texts.seed) (record { none = c.number_or-2.ensures.none; some = c.number_or-2.ensures.some }));
  size = size_value ss c.number_or-3.result each (subst (λ t. ReadsNumber t 0 c.number_or-3.result) (c.get_str-4.ensures ∙ texts.size) (record { none = c.number_or-3.ensures.none; some = c.number_or-3.ensures.some }));
}
