use Rattle.std.proofs.Common.{rules, ◌≡◌, ◌∙◌, List, refl, sym, ap, subst}
use Rattle.rc_base.specs.declared.cluster.TilePart.{TilePart}
use Rattle.assembler.specs.Assembled.{short_of}
use Rattle.frame_out.specs.OnTheWay.{IsMissing}
use Rattle.frame_out.specs.declared.on_the_way.FrameWriter.{FrameWriter}
use Rattle.tile_queues.specs.Ends.{sent_in, taken_in}
use Rattle.tile_queues.specs.declared.ends.Rest.{Rest}
use Rattle.cluster_run.specs.Serving.{HasServed}
use Rattle.cluster_run.proofs.writing.write_rest.Goals as goal
use Rattle.cluster_run.proofs.writing.write_rest.Goals.{in-None, in-Some+then-not-serve_rest}

pub loop-preserved : goal.loop-preserved
loop-preserved g c = record {
  room = c.serve_rest.ensures.room;
  served = λ w first start h. c.serve_rest.ensures.served w first start (c.loop.invariant.served w first start h);
}

pub returns-clause-served : goal.returns-clause-served
returns-clause-served g c = λ v first start h. elim c.match-next.branch [
  | in-None w ↦ search rules
  | in-Some+then-not-serve_rest w ↦
      subst (λ (x : FrameWriter × List (Rest TilePart g.row.R.Denot) × g.row.K.Denot). HasServed sent_in taken_in g.K.Sink.held g.K.Sink.faults v first start x.0 x.1 x.2)
      (λ i. (sym w.writer-is i, ap (λ r. r.items) (sym w.rests-is) i, sym w.image-is i))
      (w.serve_rest.ensures.served v first start (c.loop.invariant.served v first start h))
]

pub returns-clause-missing : goal.returns-clause-missing
returns-clause-missing g c = λ ample. elim c.match-next.branch [
  | in-None w ↦ search rules
  | in-Some+then-not-serve_rest w ↦
      subst (λ (x : FrameWriter × List (Rest TilePart g.row.R.Denot)). IsMissing (λ r. taken_in r ≡ sent_in r) x.0 x.1)
      (λ i. (sym w.writer-is i, ap (λ r. r.items) (sym w.rests-is) i))
      (w.if-not-serve_rest.ensures.missing refl (ap (λ (x : FrameWriter). short_of x.parts) (sym w.writer-is) ∙ ample))
]
