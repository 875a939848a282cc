-- How long the texts of images are.
use Rattle.std.proofs.Common.{◌≡◌, ℕ, ◌+◌, ◌*◌, ◌<◌, ◌≤◌, ◌^◌, List, [], ◌∷◌, ◌++◌, length, length-append, arith}
use Rattle.std.specs.Prelude.{codes}
use Rattle.std.specs.Fmt.{decimal}
use Rattle.std.specs.List.{AllByRecursion}
use Rattle.std.proofs.Math.Nat.{mul-le-mul}
use Rattle.std.proofs.lemmas.Fmt.{length-decimal-le}
use Rattle.rc_base.specs.Formats.Netpbm.{p6_text, p6_texts}
use Rattle.rc_base.specs.declared.image.Image.{Image}
use Rattle.ppm_out.specs.Pictures.{IsWholeImage}

-- a side has four digits at most
digits_few : (side : ℕ) → side ≤ 2048 → length (decimal side) ≤ 4
digits_few side most = length-decimal-le 4 side (omega arith) (omega (arith, most)) (omega (arith, most))

sizes : (a b c d e f : List ℕ) → length (a ++ b ++ c ++ d ++ e ++ f) ≡ length a + (length b + (length c + (length d + (length e + length f))))
sizes a b c d e f =
    omega (arith, length-append (a ++ b ++ c ++ d ++ e) f, length-append (a ++ b ++ c ++ d) e, length-append (a ++ b ++ c) d, length-append (a ++ b) c, length-append a b)

text_short : (m : Image) → IsWholeImage m → length (p6_text m) < 2 ^ 24
text_short m is =
    let size = sizes (codes "P6\n") (decimal m.width) (codes " ") (decimal m.height) (codes "\n255\n") m.rgb in
    let area : m.width * m.height ≤ 2048 * 2048 = mul-le-mul is.width.1 is.height.1 in
    omega (arith, size, area, is.pixels, digits_few m.width is.width.1, digits_few m.height is.height.1)

-- so many images have so many bytes at most
pub texts_short : (xs : List Image) → AllByRecursion IsWholeImage xs → length (p6_texts xs) ≤ 2 ^ 24 * length xs
texts_short [] whole = omega arith
texts_short (m ∷ ms) whole = omega (arith, text_short m whole.0, texts_short ms whole.1, length-append (p6_text m) (p6_texts ms))
