use Rattle.command_line.proofs.Numbers.{no_tiles, tiles_parts}
use Rattle.command_line.proofs.number.tiles.Goals as goal

pub returns-in_err-columns : goal.returns-in_err-columns
returns-in_err-columns c = rw (c.from_residual.ensures) (no_tiles c.args.text.now c.in_err-columns.ensures.cases)

pub returns-in_err-columns-2 : goal.returns-in_err-columns-2
returns-in_err-columns-2 c = rw (c.from_residual-in_err-columns-2.ensures) (λ n m small small' e.
    c.in_err-columns-2.ensures n small (tiles_parts c.args.text.now c.in_ok-columns.columns c.in_ok-columns.rows c.in_ok-columns.ensures.cases n m small small' e).0)

pub returns-in_err-rows : goal.returns-in_err-rows
returns-in_err-rows c = rw (c.from_residual-in_err-rows.ensures) (λ n m small small' e.
    c.in_err-rows.ensures m small' (tiles_parts c.args.text.now c.in_ok-columns.columns c.in_ok-columns.rows c.in_ok-columns.ensures.cases n m small small' e).1)
