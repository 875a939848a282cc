use Rattle.std.proofs.Common.{rules, ◌≡◌, ℕ, ◌++◌, append_assoc}
use Rattle.std.specs.Prelude.{codes}
use Rattle.std.specs.Fmt.{decimal}
use Rattle.rc_base.specs.declared.cluster.Tally.{Tally}
use Rattle.run_words.specs.Reports.{line_of_tile}
use Rattle.run_words.proofs.report.tile_line.Goals as goal

-- the line piece by piece
pieces : (tile : ℕ) (tally : Tally)
    → codes "tile " ++ (decimal tile ++ (codes " parcels " ++ (decimal tally.parcels ++ (codes " sets " ++ (decimal tally.sets ++ (codes " looks " ++ (decimal tally.looks ++ codes "\n"))))))) ≡ line_of_tile tile tally
pieces tile tally = simp append_assoc

pub returns : goal.returns
returns c = rw (← pieces c.args.tile c.args.tally.now) (search rules)
