-- A run goes on with the moves of more picks.
use Rattle.std.proofs.Common.{ℕ, List, [], ◌∷◌, ◌++◌, map, ap, ◌∙◌, subst}
use Rattle.std.proofs.lemmas.List.{map-append}
use Rattle.rc_base.specs.declared.scene.Scene.{Scene}
use Rattle.rc_base.specs.declared.window.Layout.{Layout}
use Rattle.world_model.specs.Laws.{RunsGoOn}
use Rattle.world_model.specs.declared.moves.Move.{Move}
use Rattle.world_model.specs.Moves.{AreMoves}
use Rattle.world_model.specs.Runs.{actor_of}
use Rattle.world_model.specs.World.{World}

moves_go_on : (scene : Scene) (l : Layout) (depth : ℕ) (moves more : List Move) (a b c : World) → AreMoves scene l depth a moves b → AreMoves scene l depth b more c
    → AreMoves scene l depth a (moves ++ more) c
moves_go_on scene l depth [] more a b c h k = subst (λ w. AreMoves scene l depth w more c) h k
moves_go_on scene l depth (move ∷ moves) more a b c h k = (h.0, h.1, moves_go_on scene l depth moves more h.0 b c h.2 k)

pub runs_go_on : RunsGoOn
runs_go_on scene l depth picks later moves more w v run actors h = record {
  first = run.first;
  new = run.new;
  actors = map-append (actor_of scene) moves more ∙ ap (λ xs. xs ++ map (actor_of scene) more) run.actors ∙ ap (λ xs. picks ++ xs) actors;
  leads = moves_go_on scene l depth moves more run.first w v run.leads h;
}
