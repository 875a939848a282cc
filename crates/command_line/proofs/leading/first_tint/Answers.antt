use Rattle.std.proofs.Common.{◌∷◌}
use Rattle.std.specs.Fmt.{decimal}
use Rattle.command_line.proofs.leading.first_tint.Goals as goal

pub returns-in_err-g : goal.returns-in_err-g
returns-in_err-g c = rw (c.from_residual-in_err-g.ensures) (λ tint more fits e.
    let r = c.in_ok-r.ensures in
    c.in_err-g.ensures tint.g (decimal tint.b ∷ decimal tint.a ∷ more) fits.1 cc)

pub returns-in_err-b : goal.returns-in_err-b
returns-in_err-b c = rw (c.from_residual-in_err-b.ensures) (λ tint more fits e.
    let r = c.in_ok-r.ensures in
    let g = c.in_ok-g.ensures in
    c.in_err-b.ensures tint.b (decimal tint.a ∷ more) fits.2 cc)

pub returns-in_err-a : goal.returns-in_err-a
returns-in_err-a c = rw (c.from_residual-in_err-a.ensures) (λ tint more fits e.
    let r = c.in_ok-r.ensures in
    let g = c.in_ok-g.ensures in
    let b = c.in_ok-b.ensures in
    c.in_err-a.ensures tint.a more fits.3 cc)
