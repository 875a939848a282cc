-- A chain without members leaves a scene as it is.
use Rattle.std.proofs.Common.{◌≡◌, List, [], ◌∷◌, ◌++◌, length, refl, ap, ap₂, length-append, ◌∙◌, arith}
use Rattle.rc_base.specs.declared.command.Command.{Command}
use Rattle.rc_base.specs.declared.scene.Scene.{Scene}
use Rattle.spu_chain.specs.Filter.{rules_after}
use Rattle.spu_chain.specs.Laws.{ChainsFollow, MembersFollow}
use Rattle.spu_chain.specs.Scenes.{rules_after_all, scene_by, streams_by}
use Rattle.spu_chain.specs.declared.rule.SpuRule.{SpuRule}

twice : (rules : List SpuRule) → rules ≡ rules ++ rules → rules ≡ []
twice [] e = refl
twice (r ∷ rules) e = absurd (let sizes = ap length e ∙ length-append (r ∷ rules) (r ∷ rules) in omega (arith, sizes))

module _ (members : MembersFollow) (chains : ChainsFollow) where
  no_rules : (cs : List Command) → rules_after [] cs ≡ []
  no_rules cs = twice (rules_after [] cs) ((chains [] [] cs).1 ∙ ap (λ (ds : List Command). rules_after [] cs ++ rules_after [] ds) (members [] cs))

  no_change : (ss : List (List Command)) → streams_by [] ss ≡ ss
  no_change [] = refl
  no_change (s ∷ ss) =
      ap₂ (λ (x : List Command) (xs : List (List Command)). x ∷ xs) (members [] s) (ap (λ (rs : List SpuRule). streams_by rs ss) (no_rules s) ∙ no_change ss)

  pub no_rules_behind : (ss : List (List Command)) → rules_after_all [] ss ≡ []
  no_rules_behind [] = refl
  no_rules_behind (s ∷ ss) = ap (λ (rs : List SpuRule). rules_after_all rs ss) (no_rules s) ∙ no_rules_behind ss

  pub plain_scene : (scene : Scene) → scene_by [] scene ≡ scene
  plain_scene scene = ap (λ (ss : List (List Command)). (let s : Scene = record { decl = scene.decl; streams = ss } in s)) (no_change scene.streams)
