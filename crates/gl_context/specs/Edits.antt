-- How the private images of a client and their edit numbers go on along its stream.
use Rattle.std.specs.Prelude.{◌≡◌, ℕ, ◌+◌, ◌^◌, ◌<◌, ◌≤◌}
use Rattle.rc_base.specs.Contexts.Context.{ClientContext, private_count, private_image, edit_of}
use Rattle.rc_base.specs.Contexts.Issue.{context_after}
use Rattle.rc_base.specs.declared.scene.Scene.{Scene}

-- the number of writes of each private texture can rise by one
abbrev pub HasRoomForEdits : ClientContext → Type 0
HasRoomForEdits x = (name : ℕ) → 0 < name → name ≤ private_count → edit_of x name + 1 < 2 ^ 32

-- the private texture of this name can be written once more
pub record CanWrite (x : ClientContext) (name : ℕ) : Type 0 where
  pub low : 0 < name
  pub high : name ≤ private_count
  pub room : edit_of x name + 1 < 2 ^ 32

abbrev pub EditsNeverFall : Type 0
EditsNeverFall = (scene : Scene) (client n more name : ℕ) → edit_of (context_after scene client n) name ≤ edit_of (context_after scene client (n + more)) name

-- at any two places
abbrev pub EqualEditsMeanEqualImages : Type 0
EqualEditsMeanEqualImages =
    (scene : Scene) (client a b name : ℕ) → edit_of (context_after scene client a) name ≡ edit_of (context_after scene client b) name
    → private_image (context_after scene client a) name ≡ private_image (context_after scene client b) name
