use Rattle.std.proofs.Common.{◌≡◌, ◌∙◌, ◌∷◌, ◌<◌, ◌+◌, ℕ, List, ap, sym, subst, length}
use Rattle.rc_base.specs.Drawing.Triangles.{triangles_of, triangles_in, shape_of}
use Rattle.geometry.specs.Items.{rest_from, triple_at, AreBelow}
use Rattle.geometry.specs.Listed.{listed, listed_block}
use Rattle.geometry.proofs.Triples.{rest_step, triple_below}
use Rattle.geometry.proofs.primitives.ListedBlock.corners.Goals as goal

pub triple-requires : goal.triple-requires
triple-requires c =
    let n : length (triangles_of c.shape_of.result c.count.result) ≡ length (triangles_in (listed_block c.args.self.now)) =
    λ j. length (triangles_of (c.shape_of.ensures j) (c.count.ensures j)) in
    subst (λ (k : ℕ). c.args.i < k) (sym n) c.requires

pub returns-clause-next : goal.returns-clause-next
returns-clause-next c =
    let b = listed_block c.args.self.now in
    let e : c.triple.result ≡ triple_at (shape_of b.mode) (length b.vertices) c.args.i = c.triple.ensures ∙ (λ j. triple_at (c.shape_of.ensures j) (c.count.ensures j) c.args.i) in
    rest_step b c.args.i c.requires ∙ ap (λ (t : List ℕ). t ∷ rest_from b (c.args.i + 1)) (sym e)

pub returns-clause-below : goal.returns-clause-below
returns-clause-below c =
    let b = listed_block c.args.self.now in
    let n = length (listed c.args.self.now.vertices) in
    let e : c.triple.result ≡ triple_at (shape_of b.mode) n c.args.i = c.triple.ensures ∙ (λ j. triple_at (c.shape_of.ensures j) (c.count.ensures j) c.args.i) in
    subst (λ (t : List ℕ). AreBelow n t) (sym e) (triple_below (shape_of b.mode) n c.args.i c.requires)
