use Rattle.std.proofs.Common.{◌≡◌, ◌+◌, ◌<◌, ◌^◌, ◌++◌, List, ℕ, length, take, drop, refl, sym, ap, subst, ◌∙◌, take-append-drop, length-drop}
use Rattle.std.proofs.lemmas.List.{with_items_is}
use Rattle.std.proofs.lemmas.Slice.{between_is}
use Rattle.rc_base.specs.Cluster.Tiles.{tile_count}
use Rattle.rc_base.specs.Formats.Netpbm.{p6_text}
use Rattle.rc_base.specs.Outside.Ends.{use_of}
use Rattle.rc_base.specs.declared.image.Image.{Image}
use Rattle.assembler.specs.Assembled.{layout_of, places_of}
use Rattle.assembler.specs.Parts.{image_with}
use Rattle.assembler.proofs.Drawn.{longer_drawn}
use Rattle.frame_out.specs.Windows.{frame_header}
use Rattle.frame_out.specs.Writing.{HasGiven, IsCounted}
use Rattle.frame_out.proofs.WriterGoesOn.{is_missing, waits, writes}
use Rattle.frame_out.proofs.on_the_way.FrameWriter.serve.Goals as goal

-- what stands behind a header goes on too, where the whole does
behind : (front : ℕ) (old new : List ℕ) → take (length old) new ≡ old → take (length (drop front old)) (drop front new) ≡ drop front old
behind front old new kept = ap (λ (n : ℕ). take n (drop front new)) (length-drop front old) ∙ between_is new front (length old) ∙ ap (drop front) kept

pub take_parts-requires-clause-drawn : goal.take_parts-requires-clause-drawn
take_parts-requires-clause-drawn g c = λ ample.
    let w = c.args.self.now in
    let old = w.text.items in
    let new = c.as_mut_slice.result.now in
    let kept : take (length old) new ≡ old = ap (take (length old)) c.as_mut_slice.ensures.value ∙ c.make_whole.ensures.kept in
    longer_drawn (layout_of w.parts) (places_of w.parts) (drop w.front old) (drop w.front new) (behind w.front old new kept) (w.drawn ample)

pub returns-then-not-take_parts-clause-goes_on : goal.returns-then-not-take_parts-clause-goes_on
returns-then-not-take_parts-clause-goes_on g c = λ taken l start d f h.
    waits g.I.Inlet.gave g.I.Inlet.same g.I.Inlet.empty_seen g.I.Inlet.bare taken f l d c.args.lanes.now c.take_parts.new.lanes
    (c.requires.lanes ∙ ap tile_count h.layout_is) c.take_parts.ensures.each (use_of g.K.Sink.held g.K.Sink.faults start c.args.image.now) c.args.self.now _
    c.if-not-take_parts.ensures.step refl h

pub returns-then-not-take_parts-clause-missing : goal.returns-then-not-take_parts-clause-missing
returns-then-not-take_parts-clause-missing g c = λ _ ample.
    is_missing g.I.Inlet.gave g.I.Inlet.same g.I.Inlet.empty_seen g.I.Inlet.bare c.args.lanes.now c.take_parts.new.lanes c.args.self.now _ c.requires.lanes
    c.if-not-take_parts.ensures.step ample

pub returns-clause-goes_on : goal.returns-clause-goes_on
returns-clause-goes_on g c = λ taken l start d f h.
    let held = g.K.Sink.held in
    let faults = g.K.Sink.faults in
    let w = c.args.self.now in
    let old = c.args.image.now in
    let new = c.write_behind-self.new.image in
    let whole = c.take_parts.new.text in
    let image : Image = image_with (layout_of w.parts) (drop w.front whole) in
    let front : take w.front whole ≡ frame_header (layout_of w.parts) =
    c.take_parts.ensures.front ∙ ap (take w.front) c.as_mut_slice.ensures.value ∙ c.make_whole.ensures.front ∙ w.header in
    let text : c.as_slice.result.now ≡ p6_text image =
    c.as_slice.ensures.value ∙ with_items_is c.make_whole.new.text whole (c.take_parts.auto.text ∙ c.as_mut_slice.ensures.len)
    ∙ sym (take-append-drop w.front whole) ∙ ap (λ (t : List ℕ). t ++ drop w.front whole) front in
    writes g.I.Inlet.gave g.I.Inlet.same g.I.Inlet.empty_seen g.I.Inlet.bare taken f l d c.args.lanes.now c.take_parts.new.lanes
    (c.requires.lanes ∙ ap tile_count h.layout_is) c.take_parts.ensures.each
    (held start) (held old) (held new) (faults start) (faults old) (faults new)
    w _ image w.window c.if-not-take_parts.ensures.step
    (subst (λ (t : List ℕ). (before : List ℕ) → length before + length t < 2 ^ 64 → IsCounted (use_of held faults start old) before w.written
    → IsCounted (use_of held faults start new) (before ++ t) c.write_behind-self.result) text (c.write_behind-self.ensures.written start))
    (subst (λ (t : List ℕ). HasGiven (held old) (held new) t w.written c.write_behind-self.result) text c.write_behind-self.ensures.given) h
