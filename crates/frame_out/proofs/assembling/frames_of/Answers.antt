use Rattle.std.proofs.Common.{◌≡◌, ℕ, ◌+◌, ◌*◌, ◌/◌, ◌<◌, List, [], ◌∷◌, ◌++◌, length, take, drop, sym, ap, subst, ◌∙◌, arith}
use Rattle.std.proofs.lemmas.List.{drop-drop}
use Rattle.std.proofs.lemmas.List.FromFn.{map-range_with_len_more}
use Rattle.rc_base.specs.Cluster.Tiles.{tile_count}
use Rattle.rc_base.specs.declared.cluster.TilePart.{TilePart}
use Rattle.rc_base.specs.declared.image.Image.{Image}
use Rattle.assembler.specs.Parts.{AreParts, ShowPixels}
use Rattle.frame_out.specs.Frames.{frame_parts, frame_total, window_image, window_images}
use Rattle.frame_out.proofs.assembling.frames_of.Goals as goal

-- parts that are the same from a frame on are so from the next one on
later_parts : (old now new : List TilePart) (n frame k : ℕ) → drop (frame * n) now ≡ drop (frame * n) old → drop k new ≡ drop k now → k ≡ frame * n + n
    → drop ((frame + 1) * n) new ≡ drop ((frame + 1) * n) old
later_parts old now new n frame k before gone e =
    let next : (frame + 1) * n ≡ frame * n + n = omega arith in
    ap (λ (j : ℕ). drop j new) (next ∙ sym e) ∙ gone ∙ ap (λ (j : ℕ). drop j now) e
    ∙ sym (drop-drop n (frame * n) now) ∙ ap (drop n) before ∙ drop-drop n (frame * n) old ∙ ap (λ (j : ℕ). drop j old) (sym next)

pub loop-frame-preserved : goal.loop-frame-preserved
loop-frame-preserved c =
    let l = c.args.layout.now in
    let n = tile_count l in
    let frame = c.loop-frame.frame in
    let i = c.loop-frame.invariant in
    let tiles : c.from.result * c.from-2.result ≡ n = cc (c.from.ensures, c.from-2.ensures) in
    let total : length c.args.parts.now / (c.from.result * c.from-2.result) ≡ frame_total l c.args.parts.now = ap (λ (k : ℕ). length c.args.parts.now / k) tiles in
    let low : frame < frame_total l c.args.parts.now = omega (arith, total, c.loop-frame-test.true) in
    let same : frame_parts l c.loop-frame.parts frame ≡ frame_parts l c.args.parts.now frame = ap (take n) i.later in
    record {
      images = λ pixels shown.
          c.in_ok-push.ensures.items
          ∙ ap (λ (images : List Image). images ++ c.in_ok-image.image ∷ []) (i.images pixels shown)
          ∙ ap (λ (image : Image). window_images l pixels frame ++ image ∷ [])
          (c.in_ok-image.ensures (pixels (frame + 1)) (subst (λ (ps : List TilePart). ShowPixels l ps (pixels (frame + 1))) (sym same) (shown frame low)))
          ∙ sym (map-range_with_len_more (λ k. window_image l (pixels k)) 1 frame (frame + 1) (omega arith));
      count = c.let_go.ensures.count ∙ i.count;
      later = later_parts c.args.parts.now c.loop-frame.parts c.let_go.new.parts n frame _ i.later c.let_go.ensures.later
          (ap (λ (k : ℕ). frame * k + k) tiles);
    }

pub image_of-requires-clause-parts : goal.image_of-requires-clause-parts
image_of-requires-clause-parts c =
    let l = c.args.layout.now in
    let n = tile_count l in
    let frame = c.loop-frame.frame in
    let i = c.loop-frame.invariant in
    let tiles : c.from.result * c.from-2.result ≡ n = cc (c.from.ensures, c.from-2.ensures) in
    let total : length c.args.parts.now / (c.from.result * c.from-2.result) ≡ frame_total l c.args.parts.now = ap (λ (k : ℕ). length c.args.parts.now / k) tiles in
    let low : frame < frame_total l c.args.parts.now = omega (arith, total, c.loop-frame-test.true) in
    subst (AreParts l) (sym (ap (take n) i.later)) (c.requires.parts frame low)

pub returns : goal.returns
returns c = λ pixels shown.
    let l = c.args.layout.now in
    let total : length c.args.parts.now / (c.from.result * c.from-2.result) ≡ frame_total l c.args.parts.now = cc (c.from.ensures, c.from-2.ensures) in
    let last : c.loop-frame.frame ≡ frame_total l c.args.parts.now = omega (arith, total, c.loop-frame.auto.frame-end, c.loop-frame-test.false) in
    c.loop-frame.invariant.images pixels shown ∙ ap (window_images l pixels) last
