use Rattle.std.proofs.Common.{◌≡◌, ◌<◌, pos, length, get_or, sym, ap, ◌∙◌}
use Rattle.std.specs.Int.{w32}
use Rattle.std.specs.Prelude.{FitsSigned}
use Rattle.std.proofs.lemmas.Int.{to_z-of_z}
use Rattle.rc_base.specs.Formats.Spelling.{word}
use Rattle.parcel_bytes.proofs.VertexBytes.{four_words, four_fit}
use Rattle.parcel_bytes.proofs.writing.vertex_bytes.Goals as goal

pub returns-clause-text : goal.returns-clause-text
returns-clause-text c =
    let v = c.args.vertex in
    let l : length v.pos ≡ 4 = search in
    let fx : FitsSigned w32 (get_or v.pos 0 (pos 0)) = search in
    let fy : FitsSigned w32 (get_or v.pos 1 (pos 0)) = search in
    let fz : FitsSigned w32 (get_or v.pos 2 (pos 0)) = search in
    let fw : FitsSigned w32 (get_or v.pos 3 (pos 0)) = search in
    let fs : FitsSigned w32 v.s = search in
    let ft : FitsSigned w32 v.t = search in
    let x : c.word_bytes.result ≡ word (get_or v.pos 0 (pos 0)) = c.word_bytes.ensures.text ∙ ap word (to_z-of_z w32 _ fx) in
    let y : c.word_bytes-2.result ≡ word (get_or v.pos 1 (pos 0)) = c.word_bytes-2.ensures.text ∙ ap word (to_z-of_z w32 _ fy) in
    let z : c.word_bytes-3.result ≡ word (get_or v.pos 2 (pos 0)) = c.word_bytes-3.ensures.text ∙ ap word (to_z-of_z w32 _ fz) in
    let w : c.word_bytes-4.result ≡ word (get_or v.pos 3 (pos 0)) = c.word_bytes-4.ensures.text ∙ ap word (to_z-of_z w32 _ fw) in
    let s : c.word_bytes-5.result ≡ word v.s = c.word_bytes-5.ensures.text ∙ ap word (to_z-of_z w32 _ fs) in
    let t : c.word_bytes-6.result ≡ word v.t = c.word_bytes-6.ensures.text ∙ ap word (to_z-of_z w32 _ ft) in
    c.joined.ensures ∙ rw (x, y, z, w, s, t) (sym (four_words v.pos (pos 0) l _))

pub returns-clause-typed : goal.returns-clause-typed
returns-clause-typed c =
    let v = c.args.vertex in
    let l : length v.pos ≡ 4 = search in
    let x : FitsSigned w32 (get_or v.pos 0 (pos 0)) = search in
    let y : FitsSigned w32 (get_or v.pos 1 (pos 0)) = search in
    let z : FitsSigned w32 (get_or v.pos 2 (pos 0)) = search in
    let w : FitsSigned w32 (get_or v.pos 3 (pos 0)) = search in
    let r : v.color.r < 256 = search in
    let g : v.color.g < 256 = search in
    let b : v.color.b < 256 = search in
    let a : v.color.a < 256 = search in
    let fs : FitsSigned w32 v.s = search in
    let ft : FitsSigned w32 v.t = search in
    ((l, four_fit v.pos (pos 0) l x y z w), (r, g, b, a), fs, ft)
