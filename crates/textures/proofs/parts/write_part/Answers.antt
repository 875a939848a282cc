use Rattle.std.proofs.Common.{◌+◌, sym, arith}
use Rattle.textures.specs.Images.{picture_with, part}
use Rattle.textures.proofs.Written.{none_written, row_written, fits_rows, row_inside, length_row}
use Rattle.textures.proofs.parts.write_part.Goals as goal

pub loop-row-init : goal.loop-row-init
loop-row-init c =
    let p = picture_with c.args.sides c.args.bytes.now in
    let d = part 0 c.args.x c.args.y c.args.w c.args.h c.args.texels.now in
    sym (none_written p d (fits_rows p d c.requires.fits 0 (omega arith)))

pub write_at-requires : goal.write_at-requires
write_at-requires c =
    let p = picture_with c.args.sides c.args.bytes.now in
    let d = part 0 c.args.x c.args.y c.args.w c.args.h c.args.texels.now in
    let row = c.loop-row.row in
    let f = fits_rows p d c.requires.fits (row + 1) (omega arith) in
    let inside = row_inside p d row f in
    let many = length_row p d row f in
    rw (c.loop-row.invariant, c.row_of_texels.ensures) (grind (arith, inside, many))

pub loop-row-preserved : goal.loop-row-preserved
loop-row-preserved c =
    let p = picture_with c.args.sides c.args.bytes.now in
    let d = part 0 c.args.x c.args.y c.args.w c.args.h c.args.texels.now in
    let row = c.loop-row.row in
    let f = fits_rows p d c.requires.fits (row + 1) (omega arith) in
    rw (c.write_at.ensures, c.loop-row.invariant, c.row_of_texels.ensures, c.from-wide.ensures, c.from.ensures, c.from-in-loop-row.ensures, c.from-in-loop-row-2.ensures) (row_written p d row f)
