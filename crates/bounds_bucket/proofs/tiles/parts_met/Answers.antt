use Rattle.std.proofs.Common.{◌≡◌, ◌∙◌, ℕ, ◌+◌, pos, Bool, ◌&&◌, min, ap, sym, rules, arith, w32, to_z, of_z, to_z-of_z, FitsSigned}
use Rattle.std.specs.Prelude.{nat_lt, ◌==◌, ◌||◌, int_lt}
use Rattle.std.specs.Int.{int_min, int_max}
use Rattle.rc_base.specs.Orders.Journal.{has}
use Rattle.rc_base.specs.Cluster.Tiles.{boundary_of}
use Rattle.bounds_bucket.specs.Tiles.{part_meets}
use Rattle.bounds_bucket.proofs.BitSets.{one_more_met, below_both, rises, any_among}
use Rattle.bounds_bucket.proofs.TileSets.{begins}
use Rattle.bounds_bucket.proofs.tiles.parts_met.Goals as goal

pub loop-part-init : goal.loop-part-init
loop-part-init c = record { first = ap pos (sym (begins c.args.side c.args.parts)); met = λ j. search rules }

pub loop-part-preserved : goal.loop-part-preserved
loop-part-preserved c =
    let l = c.loop-part in
    let side = c.args.side in
    let parts = c.args.parts in
    let r = c.args.range in
    let f : FitsSigned w32 c.boundary-end.result = record { sfits = c.boundary-end.type_inv } in
    let part : c.from.result ≡ c.loop-part.part = search rules in
    let end : to_z w32 (of_z w32 c.boundary-end.result) ≡ pos (boundary_of side parts (l.part + 1)) = to_z-of_z f ∙ c.boundary-end.ensures ∙ ap (λ (p : ℕ). pos (boundary_of side parts (p + 1))) part in
    let here : c.meets_part.result ≡ part_meets side parts r l.part =
    c.meets_part.ensures ∙ (λ i. int_lt (int_max (l.invariant.first i) r.from) (int_min (end i) r.end))
    ∙ sym (any_among r (boundary_of side parts l.part) (boundary_of side parts (l.part + 1)) (rises side parts l.part)) in
    record {
      first = end;
      met = λ j. c.with_if-met.ensures j ∙ ap (λ (b : Bool). (b && j == l.part) || has l.met j) here
          ∙ one_more_met (part_meets side parts r) l.part j (has l.met j) (l.invariant.met j);
    }

pub returns : goal.returns
returns c j few =
    let all : c.loop-part.part ≡ min c.args.parts 32 = search (rules, arith) in
    c.loop-part.invariant.met j ∙ ap (λ (n : ℕ). nat_lt j n && part_meets c.args.side c.args.parts c.args.range j) all
    ∙ ap (λ (b : Bool). b && part_meets c.args.side c.args.parts c.args.range j) (below_both j c.args.parts few)
