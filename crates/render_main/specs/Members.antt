-- What the members of the filters that words begin with are left with.
use Rattle.std.specs.Prelude.{ℕ, List, map, string_bytes}
use Rattle.std.specs.declared.string.String.{String}
use Rattle.std.specs.Global.{Global}
use Rattle.rc_base.specs.Outside.Ends.{Used}
use Rattle.spu_chain.specs.declared.rule.SpuRule.{SpuRule}
use Rattle.command_line.specs.Filters.{AreNamed}
use Rattle.run_words.specs.Jobs.{AskFiltered}
use Rattle.render_core.specs.Outcomes.{LeavesMembers}

-- they began with the rules that the words name, and a run of the words leaves them with these
pub record AreLeft (words : List (String Global)) (source : Used) (status : ℕ) (left : List SpuRule) : Type 0 where
  pub rules : List SpuRule
  pub named : AreNamed (map string_bytes words) rules
  pub leaves : LeavesMembers (AskFiltered words) source status rules left
