use Rattle.std.proofs.Common.{◌≡◌, List, length, slice_index, subst, sym, ◌∙◌}
use Rattle.std.specs.Prelude.{option_to_list}
use Rattle.rc_base.specs.Drawing.Kept.{kept_whole, vertex_at}
use Rattle.rc_base.specs.declared.state.State.{State}
use Rattle.rc_base.specs.declared.state.Vertex.{Vertex}
use Rattle.rc_base.specs.declared.window.WindowVertex.{WindowVertex}
use Rattle.geometry.specs.Items.{AreBelow}
use Rattle.rc_base.specs.Drawing.Pieces.{kept_corners_of}
use Rattle.geometry.proofs.PiecesKept.{whole_kept}
use Rattle.rc_base.specs.Cluster.Tiles.{kept_corners, corners_in}
use Rattle.plain_lemmas.proofs.Lists.{all_behind_first}
use Rattle.bounds_bucket.specs.Extents.{IsGrown}
use Rattle.bounds_bucket.proofs.EndsOfCorners.{one_more}
use Rattle.bounds_bucket.proofs.block.any_extent.Goals as goal

pub block-preserved : goal.block-preserved
block-preserved c =
    let v = c.block.invariant in
    let e = c.in-Some.ensures.steps in
    let s = c.args.state.now in
    let vs = c.args.block.now.vertices in
    let t = c.in-Some.corners in
    let grown = subst (λ (r : State). IsGrown (corners_in (option_to_list (kept_whole r vs t))) c.block.extent c.grown-extent.result) v.state
    (subst (λ (us : List Vertex). IsGrown (corners_in (option_to_list (kept_whole c.block.cache.state.now us t))) c.block.extent c.grown-extent.result) v.vertices
    c.grown-extent.ensures.grown) in
    let whole : kept_corners_of s c.args.block.now t ≡ option_to_list (kept_whole s vs t) =
    whole_kept s c.args.block.now.mode (vertex_at vs (slice_index t 0)) (vertex_at vs (slice_index t 1)) (vertex_at vs (slice_index t 2)) c.requires in
    let more = subst (λ (us : List (List WindowVertex)). IsGrown (corners_in us) c.block.extent c.grown-extent.result) (sym whole) grown in
    record {
      state = c.grown-extent.ensures.state ∙ v.state;
      vertices = c.grown-extent.ensures.vertices ∙ v.vertices;
      below = all_behind_first (AreBelow (length vs)) t _ _ e v.below;
      spans = one_more s c.args.block.now t _ _ (kept_corners s c.args.block.now) c.block.extent c.grown-extent.result e v.spans more;
    }
