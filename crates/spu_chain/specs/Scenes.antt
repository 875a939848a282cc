-- A chain over a scene: its clients' streams, one client after the other.
use Rattle.std.specs.Prelude.{ℕ, ◌+◌, List, [], ◌∷◌, fold}
use Rattle.rc_base.specs.declared.command.Command.{Command}
use Rattle.rc_base.specs.declared.scene.Scene.{Scene}
use Rattle.spu_chain.specs.declared.rule.SpuRule.{SpuRule}
use Rattle.spu_chain.specs.declared.rule.SpuRule.TheVariants.{Count}
use Rattle.spu_chain.specs.Filter.{filtered_by, rules_after}

-- what comes out of the streams: each meets the rules that those before it leave
abbrev pub streams_by : List SpuRule → List (List Command) → List (List Command)
streams_by rules [] = []
streams_by rules (s ∷ ss) = filtered_by rules s ∷ streams_by (rules_after rules s) ss

-- the rules that the members have then
abbrev pub rules_after_all : List SpuRule → List (List Command) → List SpuRule
rules_after_all rules ss = fold rules_after rules ss

-- the scene of what comes out
abbrev pub scene_by : List SpuRule → Scene → Scene
scene_by rules scene = record { decl = scene.decl; streams = streams_by rules scene.streams }

-- each counting member by its place, counted from k, and the number of commands that it was given
abbrev pub counts_from : ℕ → List SpuRule → List (ℕ × ℕ)
counts_from k [] = []
counts_from k (Count n ∷ rules) = (k, n) ∷ counts_from (k + 1) rules
counts_from k (r ∷ rules) = counts_from (k + 1) rules
