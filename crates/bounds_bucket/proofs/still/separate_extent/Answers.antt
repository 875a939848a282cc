use Rattle.std.proofs.Common.{◌≡◌, ◌<◌, ◌≤◌, ◌/◌, ◌*◌, ◌+◌, List, ℕ, length, refl, sym, ap, subst, arith}
use Rattle.rc_base.specs.Cluster.Tiles.{kept_corners}
use Rattle.rc_base.specs.Drawing.Triangles.{separate}
use Rattle.geometry.specs.Items.{rest_from}
use Rattle.geometry.proofs.Triples.{rest_whole}
use Rattle.bounds_bucket.specs.Extents.{corners_from}
use Rattle.bounds_bucket.proofs.Grown.{FrontSpanned, none_spanned, one_spanned, all_spanned}
use Rattle.bounds_bucket.proofs.Held.{next_separate, no_separate, same_stand}
use Rattle.bounds_bucket.proofs.still.separate_extent.Goals as goal

pub loop-i-init : goal.loop-i-init
loop-i-init c =
    let s = c.args.state.now in
    let b = c.args.block.now in
    subst (λ (ts : List (List ℕ)). FrontSpanned (kept_corners s b) (corners_from s b ts) c.empty-extent.result) (sym (rest_whole b)) (none_spanned (kept_corners s b) c.empty-extent.result c.empty-extent.ensures)

pub loop-i-preserved : goal.loop-i-preserved
loop-i-preserved c =
    let s = c.args.state.now in
    let b = c.args.block.now in
    let i = c.loop-i.i in
    let same = c.as_slice-vertices.ensures in
    let count : length c.as_slice-vertices.result.now ≡ length c.args.block.now.vertices = ap length same in
    let few : c.loop-i.i < length c.args.block.now.vertices / 3 = let t = c.loop-i-test.true in omega (arith, count, t) in
    let m : c.args.block.now.mode < 16 = let h = c.requires.mode in omega (arith, h) in
    one_spanned s b (separate i) (rest_from b i) (rest_from b (i + 1)) (kept_corners s b) c.in_ok-a.a c.in_ok-b.b c.in_ok-c.c c.loop-i.extent c.grown-extent.result m
    (next_separate b i c.requires.mode few) c.loop-i.invariant
    (record {
      first = same_stand s c.as_slice-vertices.result.now b.vertices (3 * i) (3 * i) c.in_ok-a.a c.in_ok-a.a same refl refl c.in_ok-a.ensures;
      second = same_stand s c.as_slice-vertices.result.now b.vertices (3 * i + 1) (3 * i + 1) c.in_ok-b.b c.in_ok-b.b same refl refl c.in_ok-b.ensures;
      third = same_stand s c.as_slice-vertices.result.now b.vertices (3 * i + 2) (3 * i + 2) c.in_ok-c.c c.in_ok-c.c same refl refl c.in_ok-c.ensures;
    })
    (record { grown = c.grown-extent.ensures.grown; same = c.grown-extent.ensures.same })

pub returns : goal.returns
returns c =
    let s = c.args.state.now in
    let b = c.args.block.now in
    let i = c.loop-i.i in
    let count : length c.as_slice-vertices.result.now ≡ length c.args.block.now.vertices = ap length c.as_slice-vertices.ensures in
    let past : length c.args.block.now.vertices / 3 ≤ c.loop-i.i = let t = c.loop-i-test.false in omega (arith, count, t) in
    all_spanned s b (rest_from b i) (kept_corners s b) c.loop-i.extent (no_separate b i c.requires.mode past) c.loop-i.invariant
