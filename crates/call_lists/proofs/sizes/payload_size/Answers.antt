use Rattle.std.proofs.Common.{◌∙◌, ap, sym, ◌+◌, length}
use Rattle.call_lists.proofs.PayloadSizes.{flags_size, vertex_size, area_size, matrix_size, image_size, part_size}
use Rattle.call_lists.proofs.sizes.payload_size.Goals as goal

pub returns-in-ColorMask-clause-size : goal.returns-in-ColorMask-clause-size
returns-in-ColorMask-clause-size c = c.bytes_size.ensures.size ∙ sym (flags_size _ _ c.in-ColorMask.is)

pub returns-in-Vertex-clause-size : goal.returns-in-Vertex-clause-size
returns-in-Vertex-clause-size c = c.words_size.ensures.size ∙ sym (vertex_size _ _ c.in-Vertex.is)

pub returns-in-Viewport-clause-size : goal.returns-in-Viewport-clause-size
returns-in-Viewport-clause-size c = c.words_size-in-Viewport.ensures.size ∙ sym (area_size _ _ c.in-Viewport.is)

pub returns-in-LoadMatrix-clause-size : goal.returns-in-LoadMatrix-clause-size
returns-in-LoadMatrix-clause-size c = c.words_size-in-LoadMatrix.ensures.size ∙ sym (matrix_size _ _ c.in-LoadMatrix.is)

pub returns-in-TexImage-clause-size : goal.returns-in-TexImage-clause-size
returns-in-TexImage-clause-size c =
    ap (λ n. 5 + n) (c.bytes_size-in-TexImage.ensures.size ∙ ap length c.as_slice.ensures) ∙ sym (image_size _ _ _ _ _ c.in-TexImage.is)

pub returns-in-TexPart-clause-size : goal.returns-in-TexPart-clause-size
returns-in-TexPart-clause-size c =
    ap (λ n. 9 + n) (c.bytes_size-in-TexPart.ensures.size ∙ ap length c.as_slice-in-TexPart.ensures) ∙ sym (part_size _ _ c.in-TexPart.is)
