-- What a command uses, the tables of the last uses, and what they tell of a name.
use Rattle.std.specs.Prelude.{◌≡◌, ◌≢◌, ℕ, suc, ◌+◌, ◌*◌, ◌^◌, ◌<◌, ◌≤◌, ◌&&◌, nat_lt, Bool, true, List, [], ◌∷◌, ◌++◌, length, slice_get, slice_index, slice_set, Option, Some, pos}
use Rattle.std.specs.List.{list_any, range_with_len}
use Rattle.rc_base.specs.Contexts.Issue.{stream_of}
use Rattle.rc_base.specs.Drawing.Touch.{touches, may_sample, writes_shared}
use Rattle.rc_base.specs.Lists.{IsIn}
use Rattle.rc_base.specs.Orders.Order.{Footprint}
use Rattle.rc_base.specs.declared.scene.Decl.{Decl}
use Rattle.rc_base.specs.declared.scene.Scene.{Scene}
use Rattle.rc_base.specs.declared.state.Effect.{Effect}
use Rattle.rc_base.specs.declared.state.State.{State}
use Rattle.rc_base.specs.declared.sync.Name.{Name}
use Rattle.stream_replay.specs.Clients.{client_after}
use Rattle.stream_replay.specs.declared.client.Client.{Client}
use Rattle.race_check.specs.Finds.{IsFirst, cell_at}
use Rattle.race_check.specs.Races.{OverlapsAt}
use Rattle.race_check.specs.declared.found.Found.{Found}
use Rattle.race_check.specs.declared.marks.Marks.{Marks}
use Rattle.race_check.specs.declared.visit.Visit.{Visit}

abbrev pub named : ℕ → ℕ → Name
named c p = record { client = c; place = p }

-- ---- what a command uses

-- what an effect touches of a window, and which shared texture it samples
abbrev pub window_touches : ℕ → ℕ → State → Effect → ℕ × ℕ → Bool
window_touches width height s e p = (nat_lt p.0 width && nat_lt p.1 height) && touches s e (pos p.0) (pos p.1)

abbrev pub touches_one : ℕ → ℕ → State → Effect → Bool
touches_one width height s e = list_any (λ y. list_any (λ x. touches s e (pos x) (pos y)) (range_with_len 0 width)) (range_with_len 0 height)

abbrev pub window_samples : ℕ → ℕ → State → Effect → ℕ → Bool
window_samples width height s e texture = may_sample s e texture && touches_one width height s e

-- the name uses what the effect uses of the window
pub record HasEffect (f : Footprint (ℕ × ℕ)) (n : Name) (width height : ℕ) (s : State) (e : Effect) : Type 0 where
  pub touches : (p : ℕ × ℕ) → f.touches n p ≡ window_touches width height s e p
  pub samples : (t : ℕ) → f.samples n t ≡ window_samples width height s e t
  pub writes : (t : ℕ) → f.writes n t ≡ writes_shared e t

-- ---- the tables

-- one more than the last of the places that pass a test, or 0 where none does
pub record IsLast (passes : ℕ → Type 0) (v : ℕ) : Type 0 where
  pub most : (i : ℕ) → passes i → i < v
  pub there : (i : ℕ) → v ≡ suc i → passes i

-- A table of cells of pixels or textures, each at its index: for each of them and each client the last place among the names that were passed that
-- used it.
pub record AreLast {I : Type 0} (uses : Name → I → Bool) (index : I → ℕ) (IsThere : I → Type 0) (passed : List Name) (cells : List (List ℕ)) : Type 0 where
  pub within : (i : I) → IsThere i → index i < length cells
  pub slots : (i : I) → IsThere i → length (cell_at cells (index i)) ≡ 8
  pub last : (i : I) → IsThere i → (d : ℕ) → IsLast (λ p. IsIn (named d p) passed × (uses (named d p) i ≡ true)) (slice_index (cell_at cells (index i)) d)

abbrev pub pixel_index : ℕ → ℕ × ℕ → ℕ
pixel_index width p = p.1 * width + p.0

abbrev pub IsPixelOf : ℕ → ℕ → ℕ × ℕ → Type 0
IsPixelOf width height p = (p.0 < width) × (p.1 < height)

abbrev pub IsTexture : ℕ → Type 0
IsTexture t = t < 256

-- For each pixel the last place of each client that touched it, and for each shared texture the last that wrote it and the last that sampled it.
pub record AreTables (f : Footprint (ℕ × ℕ)) (width height : ℕ) (passed : List Name) (m : Marks) : Type 0 where
  pub touched : AreLast f.touches (pixel_index width) (IsPixelOf width height) passed m.pixels.cells.items
  pub written : AreLast f.writes (λ t. t) IsTexture passed m.writers.cells.items
  pub read : AreLast f.samples (λ t. t) IsTexture passed m.readers.cells.items

-- the tables of a window
pub record AreSized (width height : ℕ) (m : Marks) : Type 0 where
  pub pixels : length m.pixels.cells.items ≡ height * width
  pub writers : length m.writers.cells.items ≡ 256
  pub readers : length m.readers.cells.items ≡ 256

-- a name of one of eight clients, with 32 bits for the place behind it, visits the window of these tables
pub record AreVisited (v : Visit) (m : Marks) : Type 0 where
  pub client : v.name.client < 8
  pub place : v.name.place + 1 < 2 ^ 32
  pub sized : AreSized v.width v.height m

-- a name of one of eight clients, with 32 bits for the place behind it, uses textures, and each has its cells
pub record UsesTextures (n : Name) (m : Marks) : Type 0 where
  pub client : n.client < 8
  pub place : n.place + 1 < 2 ^ 32
  pub writers : length m.writers.cells.items ≡ 256
  pub readers : length m.readers.cells.items ≡ 256

-- ---- one name

-- of the names that were passed, one of another client that conflicts with a name at a spot and that the name's clock doesn't count
pub record IsUnordered (f : Footprint (ℕ × ℕ)) (clock : ℕ → ℕ) (n : Name) (passed : List Name) (x : Found) : Type 0 where
  pub earlier : IsIn (named x.client x.place) passed
  pub other : x.client ≢ n.client
  pub at : OverlapsAt f (named x.client x.place) n x.spot
  pub uncounted : clock x.client ≤ x.place

-- the name comes behind those of its client that were passed
abbrev pub IsBehind : List Name → Name → Type 0
IsBehind passed n = (p : ℕ) → IsIn (named n.client p) passed → p < n.place

-- A name passes the tables of the names that were passed: they become tables of it too, and of what conflicts with it and isn't counted the first is told.
pub record PassesTables {T : Type 0} (AreOf : List Name → T → Type 0) (f : Footprint (ℕ × ℕ)) (clock : ℕ → ℕ) (n : Name) (old new : T) (told : Option Found) : Type 0 where
  pub tables : (passed : List Name) → IsBehind passed n → AreOf passed old → AreOf (passed ++ n ∷ []) new
  pub first : (passed : List Name) → AreOf passed old → IsFirst (IsUnordered f clock n passed) told

-- it passes the tables of pixels and textures
abbrev pub PassesMarks : Footprint (ℕ × ℕ) → ℕ → ℕ → (ℕ → ℕ) → Name → Marks → Marks → Option Found → Type 0
PassesMarks f width height = PassesTables (AreTables f width height) f

-- so it does in whatever footprint it has this effect
abbrev pub IsCarried : State → Effect → Decl → (ℕ → ℕ) → Name → Marks → Marks → Option Found → Type 0
IsCarried s e decl clock n old new told =
    (f : Footprint (ℕ × ℕ)) → HasEffect f n decl.width decl.height s e → PassesMarks f decl.width decl.height clock n old new told

-- and so does a visit
abbrev pub IsVisited : State → Effect → Visit → Marks → Marks → Option Found → Type 0
IsVisited s e v old new told =
    (f : Footprint (ℕ × ℕ)) → HasEffect f v.name v.width v.height s e → PassesMarks f v.width v.height (slice_index v.clock) v.name old new told

-- ---- the next command of a client

-- the clients stand where the name's client is at the name's command
pub record IsNextOf (scene : Scene) (clients : List Client) (n : Name) : Type 0 where
  pub count : length clients ≡ length scene.streams
  pub inside : n.place < length (stream_of scene n.client)
  pub before : slice_get clients n.client ≡ Some (client_after scene n.client n.place)
  pub client : n.client < 8
  pub place : n.place + 1 < 2 ^ 32

-- that client has issued it
abbrev pub HasIssued : Scene → List Client → Name → List Client → Type 0
HasIssued scene before n after = after ≡ slice_set before n.client (client_after scene n.client (n.place + 1))
