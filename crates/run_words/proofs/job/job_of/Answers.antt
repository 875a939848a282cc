use Rattle.std.proofs.Common.{List, ℕ, map, sym, subst}
use Rattle.std.specs.Prelude.{IfSome, string_bytes}
use Rattle.std.specs.declared.option.Option.{Option}
use Rattle.command_line.specs.Lines.{IsLineOf}
use Rattle.command_line.specs.declared.line.CommandLine.{CommandLine}
use Rattle.run_words.proofs.job.job_of.Goals as goal

pub returns-in-Some-clause-job : goal.returns-in-Some-clause-job
returns-in-Some-clause-job c = record { name = c.in-Some.line.job; settings = read.settings; line = read.line; asked = sym (c.job_on.ensures read.settings read.values) } where
  words : List (List ℕ)
  words = map string_bytes c.args.words.now

  read : IsLineOf words c.in-Some.line
  read = subst (λ (r : Option CommandLine). IfSome r (IsLineOf words)) c.in-Some.is c.in_ok-line.ensures.some
