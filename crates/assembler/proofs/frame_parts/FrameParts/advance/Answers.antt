use Rattle.std.proofs.Common.{List, Option, length, ap, sym, subst, ◌∙◌, true≢false}
use Rattle.std.proofs.lemmas.List.{with_items_is}
use Rattle.rc_base.specs.declared.cluster.TilePart.{TilePart}
use Rattle.rc_base.specs.declared.window.Layout.{Layout}
use Rattle.assembler.specs.Assembled.{places_of}
use Rattle.assembler.specs.Drawn.{AreDrawn}
use Rattle.assembler.specs.Places.{AreFound}
use Rattle.assembler.proofs.Settled.{settled, still_drawn}
use Rattle.assembler.proofs.frame_parts.FrameParts.advance.Goals as goal

pub returns-clause-step : goal.returns-clause-step
returns-clause-step g c =
    let l = c.args.self.now.layout in
    let found = c.take_parts.new.places in
    let rgb = c.take_parts.new.rgb in
    let items = with_items_is c.args.self.now.places found (c.take_parts.auto.places ∙ c.as_mut_slice.ensures.len) in
    record {
      layout = c.settle.ensures.layout;
      whole = λ ample. record {
        found = found;
        each = subst (λ (os : List (Option TilePart)). AreFound g.I.Inlet.gave g.I.Inlet.same g.I.Inlet.empty_seen g.I.Inlet.bare os c.args.lanes.now found c.take_parts.new.lanes)
            c.as_mut_slice.ensures.value c.take_parts.ensures.found;
        comes = settled l _ found items rgb (c.take_parts.ensures.drawn c.if-take_parts.false) c.settle.result c.settle.new.self c.args.self.now.columns c.args.self.now.rows
            (c.take_parts.auto.places ∙ ap length c.as_mut_slice.ensures.value ∙ c.args.self.now.count)
            (c.take_parts.ensures.fit c.if-take_parts.false) (c.take_parts.ensures.size ∙ c.requires.bytes)
            c.settle.ensures.short c.settle.ensures.gap c.settle.ensures.waiting c.settle.ensures.all c.settle.ensures.empty;
      };
      refused = λ short. absurd (true≢false (sym short ∙ c.if-self.false));
    }

pub returns-clause-drawn : goal.returns-clause-drawn
returns-clause-drawn g c = λ ample.
    let l = c.args.self.now.layout in
    let found = c.take_parts.new.places in
    let items = with_items_is c.args.self.now.places found (c.take_parts.auto.places ∙ c.as_mut_slice.ensures.len) in
    subst (λ (k : Layout). AreDrawn k (places_of c.settle.new.self) c.take_parts.new.rgb) (sym c.settle.ensures.layout)
    (still_drawn l _ found items c.take_parts.new.rgb (c.take_parts.ensures.drawn c.if-take_parts.false) c.settle.result (places_of c.settle.new.self) c.settle.ensures.waiting c.settle.ensures.empty)
