-- What a renderer keeps of each client while it carries out an order.
use Rattle.std.specs.Prelude.{◌≡◌, ℕ, ◌+◌, ◌<◌, ◌≤◌, List, length, map, Some, slice_get, slice_set}
use Rattle.std.specs.List.{range_with_len}
use Rattle.rc_base.specs.Contexts.Context.{ClientContext}
use Rattle.rc_base.specs.Contexts.Issue.{context_after, stream_of}
use Rattle.rc_base.specs.Drawing.Serial.{accepted_swaps}
use Rattle.rc_base.specs.Formats.Within.{IsWithin}
use Rattle.rc_base.specs.Orders.Order.{names_in}
use Rattle.rc_base.specs.declared.scene.Scene.{Scene}
use Rattle.rc_base.specs.declared.state.Effect.{Effect}
use Rattle.rc_base.specs.declared.state.Effect.TheVariants as eff
use Rattle.rc_base.specs.declared.sync.Name.{Name}
use Rattle.stream_replay.specs.declared.client.Client.{Client}

-- a client after its first n commands: its context, and how many Swaps were accepted
abbrev pub client_after : Scene → ℕ → ℕ → Client
client_after scene client n = record { context = context_after scene client n; swaps = accepted_swaps scene client n }

-- the scene is within the limits, and a client's context, or the client, stands before the client's command at the place
pub record IsNextCommand (scene : Scene) (client place : ℕ) (x : ClientContext) : Type 0 where
  pub within : IsWithin scene
  pub inside : place < length (stream_of scene client)
  pub before : x ≡ context_after scene client place

pub record IsNextOfClient (scene : Scene) (client place : ℕ) (x : Client) : Type 0 where
  pub within : IsWithin scene
  pub inside : place < length (stream_of scene client)
  pub before : x ≡ client_after scene client place

-- the scene is within the limits, and the client has commands from a place on, below another one
pub record AreCommandsOf (scene : Scene) (client from to : ℕ) : Type 0 where
  pub within : IsWithin scene
  pub order : from ≤ to
  pub inside : to ≤ length (stream_of scene client)

-- all clients before their first commands
abbrev pub first_clients : Scene → List Client
first_clients scene = map (λ client. client_after scene client 0) (range_with_len 0 (length scene.streams))

-- the name is the next one of its client
abbrev pub StandsBefore : Scene → List Client → Name → Type 0
StandsBefore scene clients name = slice_get clients name.client ≡ Some (client_after scene name.client name.place)

-- and names a command, in a scene within the limits
pub record IsNextName (scene : Scene) (clients : List Client) (name : Name) : Type 0 where
  pub within : IsWithin scene
  pub inside : name.place < length (stream_of scene name.client)
  pub before : StandsBefore scene clients name

-- the clients after the name was issued, the next one of its client
abbrev pub issued_by : Scene → List Client → Name → List Client
issued_by scene clients name = slice_set clients name.client (client_after scene name.client (name.place + 1))

-- nothing is done beyond the command's context: it is quiet, or refused
abbrev pub IsStill : Effect → Type 0
IsStill eff.Quiet = Unit {0}
IsStill (eff.Refused fault) = Unit {0}
IsStill (eff.Block block) = ⊥
IsStill (eff.Clear mask) = ⊥
IsStill (eff.Shared part) = ⊥
IsStill (eff.Sync op) = ⊥

-- each client stands behind its names among those that were carried out
pub record AreIssued (scene : Scene) (done : List Name) (clients : List Client) : Type 0 where
  pub count : length clients ≡ length scene.streams
  pub each : (client : ℕ) → client < length scene.streams → slice_get clients client ≡ Some (client_after scene client (names_in client done))
