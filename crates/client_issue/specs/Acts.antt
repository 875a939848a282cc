-- What an effect asks of tiles, and of which.
use Rattle.std.specs.Prelude.{ℕ, nat_eq, Bool, true, false, List, [], Option, Some, None}
use Rattle.std.specs.List.{list_any}
use Rattle.std.specs.Option.{option_map_or}
use Rattle.rc_base.specs.Contexts.Context.{ClientContext}
use Rattle.rc_base.specs.Cluster.Looks.{looks_for}
use Rattle.rc_base.specs.Cluster.Parcels.{examined, sets_for}
use Rattle.rc_base.specs.declared.state.ElementSet.{ElementSet}
use Rattle.rc_base.specs.declared.state.ElementValue.{ElementValue}
use Rattle.rc_base.specs.Cluster.Tiles.{meets_tile}
use Rattle.rc_base.specs.declared.state.Act.{Act}
use Rattle.rc_base.specs.declared.state.Act.TheVariants as act
use Rattle.rc_base.specs.declared.state.Effect.{Effect}
use Rattle.rc_base.specs.declared.state.Effect.TheVariants as eff
use Rattle.rc_base.specs.declared.state.State.{State}
use Rattle.rc_base.specs.declared.window.Layout.{Layout}

-- what the effect asks of tiles, if anything
abbrev pub act_by : Effect → Option Act
act_by eff.Quiet = None
act_by (eff.Refused fault) = None
act_by (eff.Block block) = Some (act.Draw block)
act_by (eff.Clear mask) = Some (act.Clear mask)
act_by (eff.Shared part) = Some (act.Shared part)
act_by (eff.Sync op) = Some (act.Sync op)

-- the act goes to the tile: a draw and a Clear where their box meets it, all others everywhere
abbrev pub goes_to : Layout → State → Act → ℕ → Bool
goes_to l s (act.Draw block) t = meets_tile l s (eff.Block block) t
goes_to l s (act.Clear mask) t = meets_tile l s (eff.Clear mask) t
goes_to l s (act.Shared part) t = true
goes_to l s (act.Sync op) t = true
goes_to l s act.End t = true

-- an effect goes to the tile
abbrev pub asks_of : Layout → State → Effect → ℕ → Bool
asks_of l s effect t = option_map_or (λ a. goes_to l s a t) (act_by effect) false

-- the sets that a tile gets with the act, where it was told these values
abbrev pub act_sets : (ℕ → ElementValue) → ClientContext → Act → List ElementSet
act_sets values x (act.Draw block) = sets_for values x true
act_sets values x (act.Clear mask) = sets_for values x false
act_sets values x (act.Shared part) = []
act_sets values x (act.Sync op) = []
act_sets values x act.End = []

-- the act examines the element
abbrev pub examines : ClientContext → Act → ℕ → Bool
examines x (act.Draw block) e = list_any (nat_eq e) (examined x true)
examines x (act.Clear mask) e = list_any (nat_eq e) (examined x false)
examines x (act.Shared part) e = false
examines x (act.Sync op) e = false
examines x act.End e = false

-- the looks that the act costs, where these elements are pending
abbrev pub act_looks : (ℕ → Bool) → Act → ℕ
act_looks pending (act.Draw block) = looks_for pending
act_looks pending (act.Clear mask) = looks_for pending
act_looks pending (act.Shared part) = 0
act_looks pending (act.Sync op) = 0
act_looks pending act.End = 0
