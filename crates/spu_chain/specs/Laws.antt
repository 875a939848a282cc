-- Laws on filters.
use Rattle.std.specs.Prelude.{◌≡◌, ℕ, ◌+◌, not, None, List, ◌∷◌, ◌++◌, length, map, fold}
use Rattle.std.specs.List.{AllByRecursion, filter}
use Rattle.rc_base.specs.declared.command.Command.{Command}
use Rattle.rc_base.specs.declared.scene.Scene.{Scene}
use Rattle.rc_base.specs.Formats.Commands.{IsCommand}
use Rattle.rc_base.specs.Formats.Limits.{limit_of, held_limit}
use Rattle.spu_chain.specs.declared.rule.SpuRule.{SpuRule}
use Rattle.spu_chain.specs.declared.rule.SpuRule.TheVariants.{Recolour, Cull, Drop, Count}
use Rattle.spu_chain.specs.Filter.{recoloured, culled, is_of, HasByteTint, filtered_by, rules_after}
use Rattle.spu_chain.specs.Scenes.{streams_by, scene_by}

-- What a member makes of a whole list: of each colour its product with the tint, of culling switched off culling switched on, the commands that
-- aren't of the opcode, the list itself.
abbrev pub made_by : SpuRule → List Command → List Command
made_by (Recolour tint) cs = map (recoloured tint) cs
made_by Cull cs = map culled cs
made_by (Drop byte) cs = filter (λ c. not (is_of byte c)) cs
made_by (Count n) cs = cs

-- A chain is its members' meanings, one after the other, each applied to the whole list that the one before makes.
abbrev pub MembersFollow : Type 0
MembersFollow = (rules : List SpuRule) (cs : List Command) → filtered_by rules cs ≡ fold (λ xs r. made_by r xs) cs rules

-- Two chains, one behind the other, are the second applied to what the first gives of the whole list.
abbrev pub ChainsFollow : Type 0
ChainsFollow = (first second : List SpuRule) (cs : List Command)
    → (filtered_by (first ++ second) cs ≡ filtered_by second (filtered_by first cs))
    × (rules_after (first ++ second) cs ≡ rules_after first cs ++ rules_after second (filtered_by first cs))

-- Two lists, one behind the other: the second meets the rules that the first leaves.
abbrev pub ListsFollow : Type 0
ListsFollow = (rules : List SpuRule) (cs ds : List Command)
    → (filtered_by rules (cs ++ ds) ≡ filtered_by rules cs ++ filtered_by (rules_after rules cs) ds)
    × (rules_after rules (cs ++ ds) ≡ rules_after (rules_after rules cs) ds)

-- A counting member counts the commands that come out of the members before it.
abbrev pub CountsWhatComes : Type 0
CountsWhatComes = (before behind : List SpuRule) (n : ℕ) (cs : List Command)
    → rules_after (before ++ Count n ∷ behind) cs
    ≡ rules_after before cs ++ Count (n + length (filtered_by before cs)) ∷ rules_after behind (filtered_by before cs)

-- What a chain makes of a scene within the limits is within them, with all its frames held at once too.
abbrev pub FilteredStaysWithin : Type 0
FilteredStaysWithin = (rules : List SpuRule) (scene : Scene)
    → (limit_of scene ≡ None → limit_of (scene_by rules scene) ≡ None) × (held_limit scene ≡ None → held_limit (scene_by rules scene) ≡ None)

-- And its commands have fields in their ranges, where those of the scene have and the tints are of bytes.
abbrev pub FilteredStaysWell : Type 0
FilteredStaysWell = (rules : List SpuRule) (streams : List (List Command)) → AllByRecursion HasByteTint rules
    → AllByRecursion (AllByRecursion IsCommand) streams → AllByRecursion (AllByRecursion IsCommand) (streams_by rules streams)

-- It has the declaration of the scene, and as many streams.
abbrev pub FilteredKeepsClients : Type 0
FilteredKeepsClients = (rules : List SpuRule) (scene : Scene)
    → ((scene_by rules scene).decl ≡ scene.decl) × (length (streams_by rules scene.streams) ≡ length scene.streams)
