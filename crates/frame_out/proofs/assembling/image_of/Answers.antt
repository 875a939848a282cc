use Rattle.std.proofs.Common.{◌≡◌, ℕ, ◌+◌, ◌-◌, ◌*◌, List, take, drop, Ok, Err, ap, ◌∙◌, subst, arith}
use Rattle.std.specs.Prelude.{IfOk}
use Rattle.std.specs.declared.result.Result.{Result}
use Rattle.rc_base.specs.Cluster.Tiles.{tile_count}
use Rattle.rc_base.specs.Drawing.Images.{Pixels, rgb_bytes}
use Rattle.rc_base.specs.declared.cluster.TilePart.{TilePart}
use Rattle.rc_base.specs.declared.image.Image.{Image}
use Rattle.rc_base.specs.declared.window.Layout.{Layout}
use Rattle.assembler.specs.Parts.{ShowPixels}
use Rattle.frame_out.specs.Frames.{frame_parts, window_image}
use Rattle.frame_out.proofs.assembling.image_of.Goals as goal

whole : {E : Type 0} (l : Layout) (Shown : Pixels → Type 0) (r : Result Image E) → IfOk r (λ m. m.width ≡ l.width) → IfOk r (λ m. m.height ≡ l.height)
    → ((pixels : Pixels) → Shown pixels → IfOk r (λ m. m.rgb ≡ rgb_bytes pixels l.width l.height))
    → IfOk r (λ m. (pixels : Pixels) → Shown pixels → m ≡ window_image l pixels)
whole l Shown (Ok m) width height bytes = λ pixels shown.
    ap (λ (n : ℕ). record { width = n; height = m.height; rgb = m.rgb }) width
    ∙ ap (λ (n : ℕ). record { width = l.width; height = n; rgb = m.rgb }) height
    ∙ ap (λ (bytes : List ℕ). record { width = l.width; height = l.height; rgb = bytes }) (bytes pixels shown)
whole l Shown (Err e) width height bytes = tt

-- the elements that are lent are the parts of the frame
same_parts : (parts : List TilePart) (frame tiles n : ℕ) → tiles ≡ n → take (frame * tiles + tiles - frame * tiles) (drop (frame * tiles) parts) ≡ take n (drop (frame * n) parts)
same_parts parts frame tiles n same =
    let k : frame * tiles + tiles - frame * tiles ≡ tiles = omega arith in
    ap (λ (j : ℕ). take j (drop (frame * tiles) parts)) k ∙ ap (λ (j : ℕ). take j (drop (frame * j) parts)) same

pub returns : goal.returns
returns c =
    let l = c.args.layout.now in
    let tiles : c.from.result * c.from-2.result ≡ tile_count l = cc (c.from.ensures, c.from-2.ensures) in
    let slice = same_parts c.args.parts.now c.args.frame (c.from.result * c.from-2.result) (tile_count l) tiles in
    whole l (ShowPixels l (frame_parts l c.args.parts.now c.args.frame)) c.assemble.result c.assemble.ensures.width c.assemble.ensures.height
    (subst (λ (ps : List TilePart). (pixels : Pixels) → ShowPixels l ps pixels → IfOk c.assemble.result (λ m. m.rgb ≡ rgb_bytes pixels l.width l.height)) slice c.assemble.ensures.pixels)
