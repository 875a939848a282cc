use Rattle.std.proofs.Common.{◌≡◌, ◌<◌, length, slice_index, rules, subst, sym}
use Rattle.geometry.specs.Listed.{listed}
use Rattle.geometry.specs.Placed.{IsCorner}
use Rattle.geometry.specs.declared.cache.Corner.{Corner}
use Rattle.geometry.proofs.Cached.{cached_corner}
use Rattle.geometry.proofs.cache.VertexCache.bring.Goals as goal

pub returns-clause-first_at : goal.returns-clause-first_at
returns-clause-first_at c =
    let n = c.if-self-corners.self in
    let o = c.args.self.now in
    let e : n.state.now ≡ o.state.now = search rules in
    let g : listed n.vertices ≡ listed o.vertices = search rules in
    let h : n.first.index ≡ slice_index c.args.corners 0 = search rules in
    let l : slice_index c.args.corners 0 < length (listed o.vertices) = search rules in
    subst (λ (k : Corner). IsCorner o.state.now (listed o.vertices) k) (sym c.place-2.ensures.first) (cached_corner _ _ _ _ _ _ n.first_cached e g h l)

pub returns-clause-second_at : goal.returns-clause-second_at
returns-clause-second_at c =
    let n = c.if-self-corners.self in
    let o = c.args.self.now in
    let e : n.state.now ≡ o.state.now = search rules in
    let g : listed n.vertices ≡ listed o.vertices = search rules in
    let h : n.second.index ≡ slice_index c.args.corners 1 = search rules in
    let l : slice_index c.args.corners 1 < length (listed o.vertices) = search rules in
    subst (λ (k : Corner). IsCorner o.state.now (listed o.vertices) k) (sym c.place-2.ensures.second) (cached_corner _ _ _ _ _ _ n.second_cached e g h l)

pub place-requires-2 : goal.place-requires-2
place-requires-2 c =
    let g : listed c.if-self-corners.self.vertices ≡ listed c.args.self.now.vertices = search rules in
    let l : slice_index c.args.corners 2 < length (listed c.args.self.now.vertices) = search rules in
    rw g l
