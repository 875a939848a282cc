use Rattle.std.proofs.Common.{◌≡◌, ◌∙◌, sym, subst, Some}
use Rattle.rc_base.specs.declared.state.Vertex.{Vertex}
use Rattle.geometry.specs.Placed.{IsPlace, stands_in_front}
use Rattle.geometry.proofs.Unmoved.{unmoved, usual_of}
use Rattle.geometry.proofs.cache.VertexCache.place.Goals as goal

pub still_front-front-requires : goal.still_front-front-requires
still_front-front-requires c =
    let o = c.args.self.now in
    unmoved o.state.now o.identities c.vertex-vertex.result o.products (sym o.stillness ∙ c.if-self.true)

pub still_vertex-requires-clause-clip : goal.still_vertex-requires-clause-clip
still_vertex-requires-clause-clip c =
    let o = c.args.self.now in
    unmoved o.state.now o.identities c.vertex-vertex.result o.products (sym o.stillness ∙ c.if-self.true)

pub still_vertex-requires-clause-usual : goal.still_vertex-requires-clause-usual
still_vertex-requires-clause-usual c =
    let o = c.args.self.now in
    o.products.usual (usual_of o.identities (sym o.stillness ∙ c.if-self.true))

pub invariant_of-self : goal.invariant_of-self
invariant_of-self c =
    let o = c.args.self.now in
    record {
      products = o.products;
      stillness = o.stillness;
      first_cached = o.first_cached;
      second_cached = o.second_cached;
      third_cached = λ l. (
        subst (λ (v : Vertex). IsPlace o.state.now v (Some c.in-Some.at)) c.vertex-vertex.ensures c.in-Some.ensures,
        subst (λ (v : Vertex). c.still_front-front.result ≡ stands_in_front o.state.now v) c.vertex-vertex.ensures c.still_front-front.ensures,
      );
    }
