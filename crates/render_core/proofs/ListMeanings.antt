-- Scenes with call lists mean the scenes of their expansions.
use Rattle.std.proofs.Common.{◌≡◌, ℕ, List, [], ◌∷◌, map, refl, sym, ap, ap₂}
use Rattle.call_lists.specs.Expansion.{list_faults}
use Rattle.call_lists.specs.Laws.{PlainStreamsMeanThemselves}
use Rattle.call_lists.specs.Scenes.{expanded}
use Rattle.rc_base.specs.declared.command.Command.{Command}
use Rattle.rc_base.specs.declared.list_command.ListCommand.{ListCommand}
use Rattle.rc_base.specs.declared.list_command.ListCommand.TheVariants.{Plain}
use Rattle.rc_base.specs.declared.scene.Scene.{Scene}
use Rattle.rc_base.specs.declared.state.Fault.{Fault}
use Rattle.render_core.specs.Laws.{ListScenesMeanTheirExpansions}

module _ (plain : PlainStreamsMeanThemselves) where
  abbrev as_plain : List ListCommand → List ListCommand
  as_plain cs = map (λ c. Plain c) (expanded cs)

  same_streams : (ss : List (List ListCommand)) → map expanded ss ≡ map expanded (map as_plain ss)
  same_streams [] = refl
  same_streams (s ∷ ss) = ap₂ (λ (x : List Command) (xs : List (List Command)). x ∷ xs) (sym (plain (expanded s)).1) (same_streams ss)

  none_refused : (ss : List (List ListCommand)) → map list_faults (map as_plain ss) ≡ map (λ cs. []) ss
  none_refused [] = refl
  none_refused (s ∷ ss) = ap₂ (λ (x : List (ℕ × Fault)) (xs : List (List (ℕ × Fault))). x ∷ xs) (plain (expanded s)).2 (none_refused ss)

  pub lists_mean : ListScenesMeanTheirExpansions
  lists_mean s = (ap (λ (ss : List (List Command)). (let scene : Scene = record { decl = s.decl; streams = ss } in scene)) (same_streams s.streams), none_refused s.streams)
