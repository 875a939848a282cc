use Rattle.std.proofs.Common.{◌^◌, ◌-◌, pos, neg_ℤ, sym, subst, to_z-of_z, FitsSigned}
use mir.Syntax.{w128}
use Rattle.raster.specs.Planes.{IsFromTo}
use Rattle.raster.proofs.WordQuotients.{short_of}
use Rattle.raster.proofs.Flat.{word_quotient_flat, word_quotient_across, word_quotient_up}
use Rattle.raster.proofs.word_plane.flat_word_plane.Goals as goal

pub returns : goal.returns
returns c v x y f h =
    let a = c.args.a in
    let g : FitsSigned w128 c.from.result = record { sfits = c.from.type_inv } in
    let short = IsFromTo (neg_ℤ (pos (2 ^ 31))) (pos (2 ^ 31 - 1)) in
    record {
      short = (subst short (sym h.0) (short_of a c.ranges.a), subst short (sym h.1) (short_of a c.ranges.a), subst short (sym h.2) (short_of a c.ranges.a));
      at = word_quotient_flat v x y f a _ h (rw (to_z-of_z g, c.from.ensures, to_z-of_z c.ranges.a) at c.wide_high_parts.ensures);
      across = word_quotient_across v x y f a h;
      up = word_quotient_up v x y f a h;
    }
