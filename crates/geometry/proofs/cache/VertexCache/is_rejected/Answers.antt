use Rattle.std.proofs.Common.{◌≡◌, Some}
use Rattle.rc_base.specs.Drawing.Kept.{kept_of}
use Rattle.geometry.proofs.Units.{clip_fixed}
use Rattle.geometry.proofs.Rejected.{bounds_of, rejected}
use Rattle.geometry.proofs.cache.VertexCache.is_rejected.Goals as goal

pub still_front-requires : goal.still_front-requires
still_front-requires c =
    let s = c.args.self.now.state.now in
    let known = bounds_of s c.args.near.now c.args.bounds.now c.in-Some.bounds c.in-Some.is c.requires.bounds in
    clip_fixed s c.vertex-a.result known.modelview known.projection

pub still_front-requires-then-still_front : goal.still_front-requires-then-still_front
still_front-requires-then-still_front c =
    let s = c.args.self.now.state.now in
    let known = bounds_of s c.args.near.now c.args.bounds.now c.in-Some.bounds c.in-Some.is c.requires.bounds in
    clip_fixed s c.vertex-b.result known.modelview known.projection

pub still_front-requires-then-still_front-2 : goal.still_front-requires-then-still_front-2
still_front-requires-then-still_front-2 c =
    let s = c.args.self.now.state.now in
    let known = bounds_of s c.args.near.now c.args.bounds.now c.in-Some.bounds c.in-Some.is c.requires.bounds in
    clip_fixed s c.vertex-c.result known.modelview known.projection

pub returns-then-still_front-2-clause-beside : goal.returns-then-still_front-2-clause-beside
returns-then-still_front-2-clause-beside c _ t e =
    let s = c.args.self.now.state.now in
    let known = bounds_of s c.args.near.now c.args.bounds.now c.in-Some.bounds c.in-Some.is c.requires.bounds in
    let k : kept_of s c.vertex-a.result c.vertex-b.result c.vertex-c.result ≡ Some t = rw (c.vertex-a.ensures, c.vertex-b.ensures, c.vertex-c.ensures) e in
    rejected s c.args.near.now c.in-Some.bounds c.vertex-a.result c.vertex-b.result c.vertex-c.result known (c.are_rejected.ensures c.if-not-are_rejected.false) t k
