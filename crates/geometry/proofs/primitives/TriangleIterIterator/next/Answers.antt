use Rattle.std.proofs.Common.{◌≡◌, ◌<◌, ◌≤◌, ℕ, arith, length, ◌∷◌, ◌+◌, ap, ◌∙◌, sym, subst}
use Rattle.rc_base.specs.Drawing.Triangles.{triangles_of, shape_of, triangles_in}
use Rattle.geometry.specs.Items.{rest_from, triple_at}
use Rattle.geometry.proofs.Triples.{rest_done, rest_step}
use Rattle.geometry.proofs.primitives.TriangleIterIterator.next.Goals as goal

pub returns-then-self-count-clause-steps : goal.returns-then-self-count-clause-steps
returns-then-self-count-clause-steps c =
    let b = c.args.self.now.block.now in
    let n : c.count.result ≡ length (triangles_in b) = c.count.ensures ∙ (λ i. length (triangles_of (c.shape_of-shape.ensures i) (c.len-n.ensures i))) in
    let e = rest_done b c.args.self.now.given (subst (λ (k : ℕ). k ≤ c.args.self.now.given) n c.if-self-count.true) in
    (e, e)

pub returns-clause-steps : goal.returns-clause-steps
returns-clause-steps c =
    let b = c.args.self.now.block.now in
    let g = c.args.self.now.given in
    let n : c.count.result ≡ length (triangles_in b) = c.count.ensures ∙ (λ i. length (triangles_of (c.shape_of-shape.ensures i) (c.len-n.ensures i))) in
    let e : c.triple-corners.result ≡ triple_at (shape_of b.mode) (length b.vertices) g = c.triple-corners.ensures ∙ (λ i. triple_at (c.shape_of-shape.ensures i) (c.len-n.ensures i) g) in
    rest_step b g (subst (λ (k : ℕ). g < k) n c.if-self-count.false) ∙ ap (λ t. t ∷ rest_from b (g + 1)) (sym e)

pub returns-clause-goes : goal.returns-clause-goes
returns-clause-goes c =
    let b = c.args.self.now.block.now in
    let g = c.args.self.now.given in
    let n : c.count.result ≡ length (triangles_in b) = c.count.ensures ∙ (λ i. length (triangles_of (c.shape_of-shape.ensures i) (c.len-n.ensures i))) in
    let e = ap length (rest_step b g (subst (λ (k : ℕ). g < k) n c.if-self-count.false)) in
    record { on = λ _. (tt, tt, omega (arith, e)); keeps = tt; rests = λ _. tt }
