use Rattle.std.proofs.Common.{◌∙◌, sym}
use Rattle.std.proofs.lemmas.Bool.{not-true, not-false}
use Rattle.rc_base.specs.Drawing.Kept.{vertex_at}
use Rattle.geometry.specs.Listed.{listed}
use Rattle.geometry.proofs.Corners.{found, missing, without_first, without_second, without_third, not_shown, shown}
use Rattle.geometry.proofs.Oriented.{not_flat}
use Rattle.geometry.proofs.cache.VertexCache.brought.Goals as goal

pub returns-in_default : goal.returns-in_default
returns-in_default c =
    let o = c.args.self.now in
    let vs = listed o.vertices in
    let v = vertex_at vs o.first.index in
    let w = vertex_at vs o.second.index in
    let x = vertex_at vs o.third.index in
    without_first o.state.now v w x (missing o.state.now v o.first.at c.in_default.is c.requires.first.0)

pub returns-in_default-at : goal.returns-in_default-at
returns-in_default-at c =
    let o = c.args.self.now in
    let vs = listed o.vertices in
    let v = vertex_at vs o.first.index in
    let w = vertex_at vs o.second.index in
    let x = vertex_at vs o.third.index in
    without_second o.state.now v w x (missing o.state.now w o.second.at c.in_default-at.is c.requires.second.0)

pub returns-in_default-at-2 : goal.returns-in_default-at-2
returns-in_default-at-2 c =
    let o = c.args.self.now in
    let vs = listed o.vertices in
    let v = vertex_at vs o.first.index in
    let w = vertex_at vs o.second.index in
    let x = vertex_at vs o.third.index in
    without_third o.state.now v w x (missing o.state.now x o.third.at c.in_default-at-2.is c.requires.third.0)

pub returns-then-is_dropped : goal.returns-then-is_dropped
returns-then-is_dropped c =
    let o = c.args.self.now in
    let vs = listed o.vertices in
    let v = vertex_at vs o.first.index in
    let w = vertex_at vs o.second.index in
    let x = vertex_at vs o.third.index in
    let p = found o.state.now v o.first.at c.in-Some.first c.in-Some.is c.requires.first.0 in
    let q = found o.state.now w o.second.at c.in-Some-at.second c.in-Some-at.is c.requires.second.0 in
    let r = found o.state.now x o.third.at c.in-Some-at-2.third c.in-Some-at-2.is c.requires.third.0 in
    not_shown o.state.now v w x c.in-Some.first c.in-Some-at.second c.in-Some-at-2.third p.1 q.1 r.1 (not-true _ (sym c.is_dropped.ensures ∙ c.if-is_dropped.true))

pub turned-requires-clause-apart : goal.turned-requires-clause-apart
turned-requires-clause-apart c = not_flat c.args.self.now.state.now _ (not-false _ (sym c.is_dropped.ensures ∙ c.if-is_dropped.false))

pub returns : goal.returns
returns c =
    let o = c.args.self.now in
    let vs = listed o.vertices in
    let v = vertex_at vs o.first.index in
    let w = vertex_at vs o.second.index in
    let x = vertex_at vs o.third.index in
    let p = found o.state.now v o.first.at c.in-Some.first c.in-Some.is c.requires.first.0 in
    let q = found o.state.now w o.second.at c.in-Some-at.second c.in-Some-at.is c.requires.second.0 in
    let r = found o.state.now x o.third.at c.in-Some-at-2.third c.in-Some-at-2.is c.requires.third.0 in
    shown o.state.now v w x c.in-Some.first c.in-Some-at.second c.in-Some-at-2.third c.turned.result.v p.0 q.0 r.0 p.1 q.1 r.1
    (not-false _ (sym c.is_dropped.ensures ∙ c.if-is_dropped.false)) c.turned.ensures
