use Rattle.std.proofs.Common.{◌≡◌, ◌∙◌, ◌++◌, ◌||◌, ℕ, suc, List, [], ◌∷◌, length, refl, subst, sym, ap, arith, append_assoc, append-nil, rules}
use Rattle.std.specs.List.{All, flat_map}
use Rattle.rc_base.specs.Drawing.Pieces.{kept_corners_of, kept_triangles}
use Rattle.rc_base.specs.Drawing.Triangles.{triangles_in}
use Rattle.rc_base.specs.declared.state.State.{State}
use Rattle.rc_base.specs.declared.window.Rect.{Rect}
use Rattle.rc_base.specs.declared.window.WindowVertex.{WindowVertex}
use Rattle.raster.specs.Clips.{IsPartWhere, is_let_through}
use Rattle.geometry.specs.Items.{AreBelow, rest_from}
use Rattle.plain_lemmas.proofs.Lists.{first_of_all}
use Rattle.race_check.specs.Touches.{IsTouch, triangles_have, block_has}
use Rattle.race_check.proofs.TouchesInTurn.{touch_none, touch_as, touch_then}
use Rattle.race_check.proofs.TrianglesBeside.{all_covers, have_then, part_of_window}
use Rattle.race_check.proofs.touch.touch_block.Goals as goal

all_rest : (P : List ℕ → Type 0) (t : List ℕ) (rest more : List (List ℕ)) → rest ≡ t ∷ more → All P rest → All P more
all_rest P t rest more e all k d lt = (rw e at all) (suc k) d (omega arith)

map_then : (f : List ℕ → List (List WindowVertex)) (us : List (List ℕ)) (t : List ℕ) → flat_map f (us ++ t ∷ []) ≡ flat_map f us ++ f t
map_then f [] t = append-nil (f t)
map_then f (u ∷ us) t = ap (λ vs. f u ++ vs) (map_then f us t) ∙ sym (append_assoc (f u) (flat_map f us) (f t))

one_more : (f : List ℕ → List (List WindowVertex)) (us : List (List ℕ)) (t : List ℕ) (part : Rect) (x y : ℕ)
    → triangles_have (flat_map f (us ++ t ∷ [])) part x y ≡ (triangles_have (flat_map f us) part x y || triangles_have (f t) part x y)
one_more f us t part x y = ap (λ vs. triangles_have vs part x y) (map_then f us t) ∙ have_then (flat_map f us) (f t) part x y

pub cuts-init : goal.cuts-init
cuts-init c =
    let block = c.args.block.now in
    let s = c.args.state.now in
    let v = c.args.visit.now in
    let r : rest_from c.into_iter-corners-iterator.result.block.now c.into_iter-corners-iterator.result.given ≡ triangles_in block =
    ap (λ t. rest_from t.block.now t.given) c.into_iter-corners-iterator.ensures.into_iter_gives ∙ c.triangles-corners-items.ensures.rest in
    record {
      state = c.new-cache.ensures.state;
      vertices = c.new-cache.ensures.vertices ∙ c.as_slice.ensures;
      part = subst (λ (q : Rect). IsPartWhere q c.drawn_part-part.result (is_let_through s)) c.window_rect.ensures c.drawn_part-part.ensures;
      below = subst (λ (ts : List (List ℕ)). All (AreBelow (length block.vertices)) ts) (sym r) c.triangles-corners-items.ensures.indices;
      size = refl;
      front = [];
      all = sym r;
      touched = touch_none v c.args.pixels.now.cells.items c.args.seen;
    }

pub touch_corners-seen-requires-clause-part : goal.touch_corners-seen-requires-clause-part
touch_corners-seen-requires-clause-part c = record {
  visit = record { client = c.requires.client; place = c.requires.place; size = c.cuts.invariant.size ∙ c.requires.size };
  part = part_of_window (is_let_through c.args.state.now) c.args.visit.now.width c.args.visit.now.height c.drawn_part-part.result c.cuts.invariant.part;
}

pub touch_corners-seen-requires-clause-corners : goal.touch_corners-seen-requires-clause-corners
touch_corners-seen-requires-clause-corners c =
    first_of_all (AreBelow (length c.args.block.now.vertices)) c.in-Some.corners _ _ c.in-Some.ensures.steps c.cuts.invariant.below

pub cuts-preserved : goal.cuts-preserved
cuts-preserved c =
    let v = c.cuts.invariant in
    let e = c.in-Some.ensures.steps in
    let s = c.args.state.now in
    let block = c.args.block.now in
    let t = c.in-Some.corners in
    let part = c.drawn_part-part.result in
    let start = c.args.pixels.now.cells.items in
    let old = c.cuts.pixels.cells.items in
    let new = c.touch_corners-seen.new.pixels.cells.items in
    let one : IsTouch (triangles_have (kept_corners_of s block t) part) c.args.visit.now old new c.cuts.seen c.touch_corners-seen.result =
    subst (λ (q : State). IsTouch (triangles_have (kept_corners_of q block t) part) c.args.visit.now old new c.cuts.seen c.touch_corners-seen.result) v.state c.touch_corners-seen.ensures.touches.touched in
    record {
      state = c.touch_corners-seen.ensures.state ∙ v.state;
      vertices = c.touch_corners-seen.ensures.vertices;
      part = v.part;
      below = all_rest (AreBelow (length block.vertices)) t _ _ e v.below;
      size = c.touch_corners-seen.ensures.touches.size ∙ v.size;
      front = v.front ++ t ∷ [];
      all = v.all ∙ ap (λ (r : List (List ℕ)). v.front ++ r) e ∙ sym (append_assoc v.front (t ∷ []) _);
      touched = touch_then (λ x y. triangles_have (flat_map (kept_corners_of s block) v.front) part x y) (triangles_have (kept_corners_of s block t) part)
          (λ x y. triangles_have (flat_map (kept_corners_of s block) (v.front ++ t ∷ [])) part x y) c.args.visit.now start old new c.args.seen c.cuts.seen c.touch_corners-seen.result v.touched one
          (λ x y lx ly. one_more (kept_corners_of s block) v.front t part x y);
    }

pub returns : goal.returns
returns c = record {
  size = search rules;
  touched =
      let v = c.cuts.invariant in
      let s = c.args.state.now in
      let block = c.args.block.now in
      let w = c.args.visit.now in
      let part = c.drawn_part-part.result in
      let e = c.in-None.ensures.steps in
      let whole : triangles_in block ≡ v.front = v.all ∙ ap (λ (r : List (List ℕ)). v.front ++ r) e.0 ∙ append-nil v.front in
      touch_as (λ x y. triangles_have (flat_map (kept_corners_of s block) v.front) part x y) (block_has s block) w c.args.pixels.now.cells.items c.cuts.pixels.cells.items c.args.seen c.cuts.seen v.touched
      (λ x y lx ly. all_covers s (kept_triangles s block) part w.width w.height v.part x y lx ly ∙ ap (λ (ts : List (List ℕ)). triangles_have (flat_map (kept_corners_of s block) ts) part x y) whole);
}
