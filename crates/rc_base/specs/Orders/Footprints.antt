-- What the commands of a scene use beyond their own contexts.
use Rattle.std.specs.Prelude.{ℕ, ◌&&◌, nat_lt, Bool, List, pos}
use Rattle.std.specs.List.{list_any, range_with_len}
use Rattle.rc_base.specs.Contexts.Issue.{context_after, effect_at}
use Rattle.rc_base.specs.Drawing.Touch.{touches, may_sample, writes_shared}
use Rattle.rc_base.specs.Orders.Order.{Footprint, IsOrdered}
use Rattle.rc_base.specs.Orders.Sync.{sync_lists_of}
use Rattle.rc_base.specs.declared.scene.Scene.{Scene}
use Rattle.rc_base.specs.declared.sync.Entry.{Entry}
use Rattle.rc_base.specs.declared.sync.Name.{Name}

-- a pixel of the window, by its column and its row
abbrev pub is_in_window : Scene → ℕ → ℕ → Bool
is_in_window scene x y = nat_lt x scene.decl.width && nat_lt y scene.decl.height

-- the command touches the pixel (x, y)
abbrev pub touches_pixel : Scene → Name → ℕ → ℕ → Bool
touches_pixel scene n x y = touches (context_after scene n.client n.place).state (effect_at scene n.client n.place) (pos x) (pos y)

-- it touches a pixel of the window
unfoldable pub touches_some : Scene → Name → Bool
touches_some scene n =
    list_any (λ y. list_any (λ x. touches_pixel scene n x y) (range_with_len 0 scene.decl.width)) (range_with_len 0 scene.decl.height)

-- A draw that touches no pixel of the window samples no texture.
abbrev pub footprint_of : Scene → Footprint (ℕ × ℕ)
footprint_of scene = record {
  touches = λ n p. is_in_window scene p.0 p.1 && touches_pixel scene n p.0 p.1;
  samples = λ n texture. may_sample (context_after scene n.client n.place).state (effect_at scene n.client n.place) texture && touches_some scene n;
  writes = λ n texture. writes_shared (effect_at scene n.client n.place) texture;
}

-- every two conflicting commands of the scene stand in the same sequence in all orders that the journal permits
abbrev pub IsOrderedScene : Scene → List Entry → Type 0
IsOrderedScene scene journal = IsOrdered (sync_lists_of scene) journal (footprint_of scene)
