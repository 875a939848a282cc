use Rattle.std.proofs.Common.{rules, ◌≡◌, ◌++◌, append_assoc}
use Rattle.std.specs.Prelude.{codes}
use Rattle.std.specs.Fmt.{decimal}
use Rattle.rc_base.specs.declared.sync.Name.{Name}
use Rattle.race_check.specs.declared.verdict.Spot.{Spot}
use Rattle.race_check.specs.declared.verdict.Verdict.TheVariants.{Race}
use Rattle.run_words.specs.Lines.{race_line, spot_text}
use Rattle.run_words.proofs.report.pair_line.Goals as goal

-- the line piece by piece
pieces : (first second : Name) (spot : Spot)
    → codes "race " ++ (decimal first.client ++ (codes " " ++ (decimal first.place ++ (codes " " ++ (decimal second.client ++ (codes " " ++ (decimal second.place
    ++ (codes " " ++ (spot_text spot ++ codes "\n"))))))))) ≡ race_line (Race first second spot)
pieces first second spot = simp append_assoc

pub returns : goal.returns
returns c = rw (← pieces c.args.first c.args.second c.args.spot) (search rules)
