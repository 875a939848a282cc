-- The least and the greatest coordinates of the vertices that a loop has met.
use Rattle.std.proofs.Common.{◌≡◌, ℕ, ◌+◌, ◌<◌, ◌≤◌, ℤ, pos, List, [], length, fold, take, sym, ap, ◌∙◌}
use Rattle.std.specs.Int.{int_min, int_max}
use Rattle.std.proofs.lemmas.List.{get_or-map, take_all}
use Rattle.std.proofs.lemmas.List.Sums.{fold_more}
use Rattle.std.proofs.Math.ListN.{length-map}
use Rattle.rc_base.specs.Numbers.{entry}
use Rattle.rc_base.specs.Colors.{rgba}
use Rattle.rc_base.specs.Drawing.Kept.{vertex_at}
use Rattle.rc_base.specs.declared.state.Vertex.{Vertex}
use Rattle.rc_base.specs.declared.interval.Interval.{Interval}
use Rattle.rc_base.specs.Cluster.ObjectBox.{coordinates, hull_of}
use Rattle.bounds_bucket.specs.declared.extent.Ends.{Ends}

-- these are the least and the greatest of the first number and the first i numbers
pub record AreEndsOf (e : Ends) (zs : List ℤ) (i : ℕ) : Type 0 where
  pub least : e.least ≡ fold int_min (entry zs 0) (take i zs)
  pub greatest : e.greatest ≡ fold int_max (entry zs 0) (take i zs)

coordinate_at : (c : ℕ) (vs : List Vertex) (i : ℕ) → i < length vs → entry (coordinates c vs) i ≡ entry (vertex_at vs i).pos c
coordinate_at c vs i h = get_or-map (λ (v : Vertex). entry v.pos c) vs i (record { pos = []; color = rgba 0 0 0 0; s = pos 0; t = pos 0 }) (pos 0) h

some_coordinates : (c : ℕ) (vs : List Vertex) → length (coordinates c vs) ≡ length vs
some_coordinates c vs = length-map vs (λ (v : Vertex). entry v.pos c)

pub runs_none : (c : ℕ) (vs : List Vertex) (e : Ends) → 0 < length vs → e.least ≡ entry (vertex_at vs 0).pos c → e.greatest ≡ entry (vertex_at vs 0).pos c → AreEndsOf e (coordinates c vs) 0
runs_none c vs e some l g =
    let first = coordinate_at c vs 0 some in
    record { least = l ∙ sym first; greatest = g ∙ sym first }

pub runs_more : (c : ℕ) (vs : List Vertex) (i : ℕ) (before after : Ends) → i < length vs → AreEndsOf before (coordinates c vs) i
    → after.least ≡ int_min before.least (entry (vertex_at vs i).pos c) → after.greatest ≡ int_max before.greatest (entry (vertex_at vs i).pos c)
    → AreEndsOf after (coordinates c vs) (i + 1)
runs_more c vs i before after h b l g =
    let zs = coordinates c vs in
    let at = coordinate_at c vs i h in
    let inside : i < length (coordinates c vs) = rw (some_coordinates c vs) h in
    record {
      least = l ∙ (λ k. int_min (b.least k) (sym at k)) ∙ sym (fold_more int_min (entry zs 0) zs i (pos 0) inside);
      greatest = g ∙ (λ k. int_max (b.greatest k) (sym at k)) ∙ sym (fold_more int_max (entry zs 0) zs i (pos 0) inside);
    }

pub runs_all : (c : ℕ) (vs : List Vertex) (i : ℕ) (e : Ends) (r : Interval) → length vs ≤ i → AreEndsOf e (coordinates c vs) i → r.lo ≡ e.least → r.hi ≡ e.greatest → r ≡ hull_of (coordinates c vs)
unfolding hull_of
runs_all c vs i e r h b l g =
    let zs = coordinates c vs in
    let all : take i (coordinates c vs) ≡ coordinates c vs = take_all i (coordinates c vs) (rw (some_coordinates c vs) h) in
    let low = l ∙ b.least ∙ ap (fold int_min (entry zs 0)) all in
    let high = g ∙ b.greatest ∙ ap (fold int_max (entry zs 0)) all in
    λ k. record { lo = low k; hi = high k }
