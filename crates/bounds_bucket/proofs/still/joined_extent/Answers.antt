use Rattle.std.proofs.Common.{◌≡◌, ◌∙◌, ◌<◌, ◌≤◌, ◌-◌, ◌+◌, List, ℕ, length, refl, sym, ap, subst, arith}
use Rattle.std.specs.Prelude.{◌==◌}
use Rattle.rc_base.specs.Cluster.Tiles.{kept_corners}
use Rattle.geometry.specs.Items.{rest_from}
use Rattle.geometry.proofs.Triples.{rest_whole}
use Rattle.bounds_bucket.specs.Extents.{corners_from}
use Rattle.bounds_bucket.proofs.Grown.{FrontSpanned, none_spanned, one_spanned, all_spanned}
use Rattle.bounds_bucket.proofs.Held.{joined, first, second, starts, third_is, turn, keep, next_joined, no_joined, same_stand}
use Rattle.bounds_bucket.proofs.still.joined_extent.Goals.{then-is_turn, else-is_turn}
use Rattle.bounds_bucket.proofs.still.joined_extent.Goals as goal

pub returns-then-vertices-lt3 : goal.returns-then-vertices-lt3
returns-then-vertices-lt3 c =
    let s = c.args.state.now in
    let b = c.args.block.now in
    let count : length c.as_slice-vertices.result.now ≡ length c.args.block.now.vertices = ap length c.as_slice-vertices.ensures in
    let past : length c.args.block.now.vertices - 2 ≤ 0 = let t = c.if-vertices-lt3.true in omega (arith, count, t) in
    all_spanned s b (rest_from b 0) (kept_corners s b) c.empty-extent.result (no_joined b 0 c.requires.some c.requires.few past)
    (subst (λ (ts : List (List ℕ)). FrontSpanned (kept_corners s b) (corners_from s b ts) c.empty-extent.result) (sym (rest_whole b)) (none_spanned (kept_corners s b) c.empty-extent.result c.empty-extent.ensures))

pub loop-i-init : goal.loop-i-init
loop-i-init c =
    let s = c.args.state.now in
    let b = c.args.block.now in
    let strip = b.mode == 1 in
    let same = c.as_slice-vertices.ensures in
    record {
      a = same_stand s c.as_slice-vertices.result.now b.vertices 0 (first strip 0) c.in_ok-a.a c.in_ok-a.a same (sym (starts strip).0) refl c.in_ok-a.ensures;
      b = same_stand s c.as_slice-vertices.result.now b.vertices 1 (second strip 0) c.in_ok-b.b c.in_ok-b.b same (sym (starts strip).1) refl c.in_ok-b.ensures;
      spans = subst (λ (ts : List (List ℕ)). FrontSpanned (kept_corners s b) (corners_from s b ts) c.empty-extent.result) (sym (rest_whole b)) (none_spanned (kept_corners s b) c.empty-extent.result c.empty-extent.ensures);
    }

pub loop-i-preserved : goal.loop-i-preserved
loop-i-preserved c =
    let s = c.args.state.now in
    let b = c.args.block.now in
    let i = c.loop-i.i in
    let strip = b.mode == 1 in
    let vs = c.as_slice-vertices.result.now in
    let same = c.as_slice-vertices.ensures in
    let count : length c.as_slice-vertices.result.now ≡ length c.args.block.now.vertices = ap length same in
    let few : c.loop-i.i < length c.args.block.now.vertices - 2 = let t = c.loop-i-test.true in omega (arith, count, t) in
    let m : c.args.block.now.mode < 16 = let h = c.requires.few in omega (arith, h) in
    let spans : FrontSpanned (kept_corners s b) (corners_from s b (rest_from b (i + 1))) c.grown-extent.result =
    one_spanned s b (joined strip i) (rest_from b i) (rest_from b (i + 1)) (kept_corners s b) c.loop-i.a c.loop-i.b c.in_ok-c.c c.loop-i.extent c.grown-extent.result m
    (next_joined b i c.requires.some c.requires.few few) c.loop-i.invariant.spans
    (record {
      first = c.loop-i.invariant.a;
      second = c.loop-i.invariant.b;
      third = same_stand s vs b.vertices (i + 2) _ c.in_ok-c.c c.in_ok-c.c same (sym (third_is strip i)) refl c.in_ok-c.ensures;
    })
    (record { grown = c.grown-extent.ensures.grown; same = c.grown-extent.ensures.same }) in
    elim c.if-is_turn.branch [
      | then-is_turn w ↦
          let t = turn strip i (sym c.is_turn.ensures ∙ w.if-is_turn.true) in
          record {
            a = same_stand s vs b.vertices (i + 2) (first strip (i + 1)) c.in_ok-c.c c.if-is_turn.a same (sym t.0) (sym w.a-is) c.in_ok-c.ensures;
            b = same_stand s b.vertices b.vertices (second strip i) (second strip (i + 1)) c.loop-i.b c.if-is_turn.b refl (sym t.1) (sym w.b-is) c.loop-i.invariant.b;
            spans = spans;
          }
      | else-is_turn w ↦
          let t = keep strip i (sym c.is_turn.ensures ∙ w.if-is_turn.false) in
          record {
            a = same_stand s b.vertices b.vertices (first strip i) (first strip (i + 1)) c.loop-i.a c.if-is_turn.a refl (sym t.0) (sym w.a-is) c.loop-i.invariant.a;
            b = same_stand s vs b.vertices (i + 2) (second strip (i + 1)) c.in_ok-c.c c.if-is_turn.b same (sym t.1) (sym w.b-is) c.in_ok-c.ensures;
            spans = spans;
          }
    ]

pub returns : goal.returns
returns c =
    let s = c.args.state.now in
    let b = c.args.block.now in
    let i = c.loop-i.i in
    let count : length c.as_slice-vertices.result.now ≡ length c.args.block.now.vertices = ap length c.as_slice-vertices.ensures in
    let past : length c.args.block.now.vertices - 2 ≤ c.loop-i.i = let t = c.loop-i-test.false in omega (arith, count, t) in
    all_spanned s b (rest_from b i) (kept_corners s b) c.loop-i.extent (no_joined b i c.requires.some c.requires.few past) c.loop-i.invariant.spans
