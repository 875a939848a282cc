-- Ends that are named by their lanes.
use Rattle.std.proofs.Common.{◌<◌, sym, ◌∙◌, arith}
use Rattle.tile_queues.specs.Laws.{NamedRowsAndColumnsAreAGrid, NamedEndsArePaired}

module _ {T R : Type 0} where
  pub grid_law : NamedRowsAndColumnsAreAGrid T R
  grid_law senders receivers names ins outs rows columns into out_of = record {
    rows = λ c d low. (into c d (omega (arith, low, rows))).size ∙ sym columns;
    columns = λ t e low. (out_of t e (omega (arith, low, columns))).size ∙ sym rows;
    lanes = λ c t d e a b low t_low.
        let c_in : c < senders = omega (arith, low, rows) in
        let t_in : t < receivers = omega (arith, t_low, columns) in
        (out_of t e t_in).named c b c_in ∙ sym ((into c d c_in).named t a t_in);
  }

  pub pairs_law : NamedEndsArePaired T R
  pairs_law count names ins outs into out_of = record {
    count = out_of.size ∙ sym into.size;
    at = λ i a b low. let n = into.size in let i_in : i < count = omega (arith, low, n) in out_of.named i b i_in ∙ sym (into.named i a i_in);
  }
