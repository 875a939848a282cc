use Rattle.std.proofs.Common.{◌≡◌, ℕ, List, ◌+◌, ◌-◌, ◌*◌, ◌≤◌, length, take, drop, inl, ap, ◌∙◌, subst, arith, length-drop}
use Rattle.std.proofs.lemmas.List.{take_all}
use Rattle.std.proofs.lemmas.Result.{err_from_is_err_and}
use Rattle.ppm_out.proofs.Framed.{framed, no_front, only_framed, spells_framed, too_few}
use Rattle.ppm_out.proofs.reading.read_ppm.Goals as goal

pub returns-in-Err-clause-only : goal.returns-in-Err-clause-only
returns-in-Err-clause-only c = λ front behind image e spells. absurd (no_front c.args.bytes.now c.in-Err.at c.in-Err.ensures.none front behind image e spells)

pub returns-then-rest-size-clause-only : goal.returns-then-rest-size-clause-only
returns-then-rest-size-clause-only c = λ front behind image e spells.
    let framed = only_framed c.args.bytes.now c.in-Ok.header c.in-Ok.ensures.header front behind image e spells in
    absurd (omega (arith, framed.enough, c.if-rest-size.true, length-drop c.in-Ok.header.len c.args.bytes.now))

pub returns-then-rest-size-clause-why : goal.returns-then-rest-size-clause-why
returns-then-rest-size-clause-why c =
    too_few c.args.bytes.now c.in-Ok.header c.in-Ok.ensures.header (λ i. let fits = c.type_inv.bytes i in omega (arith, fits)) (omega (arith, c.if-rest-size.true, length-drop c.in-Ok.header.len c.args.bytes.now))

pub returns-in_err-rgb-clause-why : goal.returns-in_err-rgb-clause-why
returns-in_err-rgb-clause-why c =
    let bytes = c.args.bytes.now in
    let header = c.in-Ok.header in
    let size : ℕ = 3 * (header.width * header.height) in
    let rest : take (length bytes - header.len) (drop header.len bytes) ≡ drop header.len bytes = take_all (length bytes - header.len) (drop header.len bytes) (omega (arith, length-drop header.len bytes)) in
    let enough : size ≤ length (drop header.len bytes) = subst (λ (l : List ℕ). size ≤ length l) rest c.if-rest-size.false in
    let p = err_from_is_err_and c.from_residual.result c.from_residual.ensures.1 in
    rw (p.1, p.2)
    (header.len + size, framed bytes header c.in-Ok.ensures.header, spells_framed bytes header c.in-Ok.ensures.header (λ i. let fits = c.type_inv.bytes i in omega (arith, fits)) enough)

pub returns-clause-read : goal.returns-clause-read
returns-clause-read c =
    let bytes = c.args.bytes.now in
    let header = c.in-Ok.header in
    let size : ℕ = 3 * (header.width * header.height) in
    let rest : take (length bytes - header.len) (drop header.len bytes) ≡ drop header.len bytes = take_all (length bytes - header.len) (drop header.len bytes) (omega (arith, length-drop header.len bytes)) in
    let enough : size ≤ length (drop header.len bytes) = subst (λ (l : List ℕ). size ≤ length l) rest c.if-rest-size.false in
    let pixels : c.in_ok-rgb.rgb ≡ take size (drop header.len bytes) = c.in_ok-rgb.ensures ∙ ap (take size) rest in (
      omega (arith, enough, length-drop header.len bytes, c.in-Ok.ensures.header.most),
      rw pixels (spells_framed bytes header c.in-Ok.ensures.header (λ i. let fits = c.type_inv.bytes i in omega (arith, fits)) enough),
    )

pub returns-clause-only : goal.returns-clause-only
returns-clause-only c = λ front behind image e spells.
    let bytes = c.args.bytes.now in
    let header = c.in-Ok.header in
    let size : ℕ = 3 * (header.width * header.height) in
    let rest : take (length bytes - header.len) (drop header.len bytes) ≡ drop header.len bytes = take_all (length bytes - header.len) (drop header.len bytes) (omega (arith, length-drop header.len bytes)) in
    let pixels : c.in_ok-rgb.rgb ≡ take size (drop header.len bytes) = c.in_ok-rgb.ensures ∙ ap (take size) rest in
    let framed = only_framed bytes header c.in-Ok.ensures.header front behind image e spells in
    let same_image = framed.image in
    let same_end = framed.ends in
    inl (cc (pixels, same_image, same_end))
