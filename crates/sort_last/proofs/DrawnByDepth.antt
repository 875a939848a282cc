-- In a scene whose clients can be drawn apart each command but a Clear only puts something before a pixel.
use Rattle.std.proofs.Common.{◌≡◌, ℕ, ◌/◌, ◌%◌, ◌≤◌, Bool, true, false, List, refl, sym, ap, ◌∙◌, arith, ℤ, eqb-true}
use Rattle.std.specs.Prelude.{◌==◌, ◌&&◌, ◌||◌, not, slice_index_or, pos, negsuc, ◌≤ℤ◌, ◌*ℤ◌, if◌then◌else◌}
use Rattle.std.specs.declared.option.Option.{Option}
use Rattle.std.proofs.lemmas.Int.{ints}
use Rattle.std.proofs.lemmas.Bool.{and_parts, not-false, not-true}
use Rattle.rc_base.specs.Numbers.{natural, is_between, floor_quotient, fixed_one}
use Rattle.rc_base.specs.Colors.{rgba}
use Rattle.rc_base.specs.Contexts.Context.{private_image}
use Rattle.rc_base.specs.Contexts.Issue.{context_after, effect_at}
use Rattle.rc_base.specs.Drawing.Cover.{covers, is_in_scissor}
use Rattle.rc_base.specs.Drawing.Fragment.{fragment_of}
use Rattle.rc_base.specs.Drawing.Pieces.{kept_triangles}
use Rattle.rc_base.specs.Drawing.PixelStep.{compares, passes_alpha, blended, shaded, fragment_color, fragment_step, triangle_step, block_step, cleared, cleared_depth, effect_step}
use Rattle.rc_base.specs.Drawing.Serial.{blank_pixel, blank_textures, pixel_step}
use Rattle.rc_base.specs.Drawing.Texel.{shared_picture}
use Rattle.rc_base.specs.Drawing.Window.{depth_most}
use Rattle.rc_base.specs.Pictures.{Picture}
use Rattle.rc_base.specs.declared.command.Rgba.{Rgba}
use Rattle.rc_base.specs.declared.scene.Scene.{Scene}
use Rattle.rc_base.specs.declared.state.Block.{Block}
use Rattle.rc_base.specs.declared.state.Effect.{Effect}
use Rattle.rc_base.specs.declared.state.Effect.TheVariants as eff
use Rattle.rc_base.specs.declared.state.State.{State}
use Rattle.rc_base.specs.declared.sync.Name.{Name}
use Rattle.rc_base.specs.declared.window.Fragment.{Fragment}
use Rattle.rc_base.specs.declared.window.Pixel.{Pixel}
use Rattle.rc_base.specs.declared.window.WindowVertex.{WindowVertex}
use Rattle.rc_base.specs.Drawing.Nearer.{nearer}
use Rattle.sort_last.specs.Layers.{is_clear, clears}
use Rattle.sort_last.specs.Players.{draw}
use Rattle.sort_last.specs.Offends.{keeps_nearest, writes_all_channels, has_drawn, is_offence, offends, IsComposable}
use Rattle.sort_last.proofs.Nearer.{Merges, merges_still, merges_one, merges_fold}

-- the flags of such a state
record KeepsNearest (s : State) : Type 0 where
  pub depth_on : s.depth_on ≡ true
  pub depth_mask : s.depth_mask ≡ true
  pub less : (s.depth_func == 1) ≡ true
  pub whole : s.blend_on ≡ false
  pub red : slice_index_or s.color_mask 0 false ≡ true
  pub green : slice_index_or s.color_mask 1 false ≡ true
  pub blue : slice_index_or s.color_mask 2 false ≡ true
  pub opacity : slice_index_or s.color_mask 3 false ≡ true

flags_of : (s : State) → keeps_nearest s ≡ true → KeepsNearest s
unfolding keeps_nearest
flags_of s h =
    let masks = slice_index_or s.color_mask in
    let a = and_parts (s.depth_on && s.depth_mask) (s.depth_func == 1 && (not s.blend_on && writes_all_channels s)) h in
    let b = and_parts s.depth_on s.depth_mask a.0 in
    let c = and_parts (s.depth_func == 1) (not s.blend_on && writes_all_channels s) a.1 in
    let d = and_parts (not s.blend_on) (writes_all_channels s) c.1 in
    let e = and_parts (masks 0 false && masks 1 false) (masks 2 false && masks 3 false) d.1 in
    let f = and_parts (masks 0 false) (masks 1 false) e.0 in
    let g = and_parts (masks 2 false) (masks 3 false) e.1 in
    record { depth_on = b.0; depth_mask = b.1; less = c.0; whole = not-true s.blend_on d.0; red = f.0; green = f.1; blue = g.0; opacity = g.1 }

-- a test and then another one
then_if : (a b : Bool) (p q : Pixel) → (if a && b then p else q) ≡ (if a then (if b then p else q) else q)
then_if true b p q = refl
then_if false b p q = refl

less_compares : (function a b : ℕ) → (function == 1) ≡ true → compares function a b ≡ compares 1 a b
less_compares function a b h = ap (λ (f : ℕ). compares f a b) (equal_one function h)
  where
    equal_one : (f : ℕ) → (f == 1) ≡ true → f ≡ 1
    equal_one f h = eqb-true f 1 h

shaded_is : (s : State) → KeepsNearest s → (c : Rgba) (depth : ℕ) (old : Pixel)
    → shaded s c depth old ≡ (if passes_alpha s c.a then nearer old (record { color = c; depth = depth }) else old)
unfolding shaded
shaded_is s k c depth old =
    (λ i. if passes_alpha s c.a && (not (k.depth_on i) || less_compares s.depth_func depth old.depth k.less i)
    then record {
      color = rgba
          (if k.red i then (if k.whole i then blended s c.r old.color.r c.a old.color.a else c.r) else old.color.r)
          (if k.green i then (if k.whole i then blended s c.g old.color.g c.a old.color.a else c.g) else old.color.g)
          (if k.blue i then (if k.whole i then blended s c.b old.color.b c.a old.color.a else c.b) else old.color.b)
          (if k.opacity i then (if k.whole i then blended s c.a old.color.a c.a old.color.a else c.a) else old.color.a);
      depth = if k.depth_on i && k.depth_mask i then depth else old.depth;
    }
    else old)
    ∙ then_if (passes_alpha s c.a) (compares 1 depth old.depth) (record { color = c; depth = depth }) old

-- ---- steps that merge

same_merges : (g h : Pixel → Pixel) → ((p : Pixel) → g p ≡ h p) → Merges h → Merges g
same_merges g h e m p le = e p ∙ m p le ∙ ap (nearer p) (sym (e blank_pixel))

where_merges : (b : Bool) (g : Pixel → Pixel) → Merges g → Merges (λ p. if b then g p else p)
where_merges true g m = m
where_merges false g m = merges_still

shaded_merges : (s : State) → KeepsNearest s → (c : Rgba) (depth : ℕ) → Merges (shaded s c depth)
shaded_merges s k c depth =
    let f : Pixel = record { color = c; depth = depth } in
    same_merges (shaded s c depth) (λ p. if passes_alpha s c.a then nearer p f else p) (shaded_is s k c depth)
    (where_merges (passes_alpha s c.a) (λ p. nearer p f) (merges_one f))

fragment_merges : (s : State) → KeepsNearest s → (picture : Option Picture) (f : Fragment) → Merges (fragment_step s picture f)
fragment_merges s k picture f =
    where_merges (is_between (pos 0) (pos depth_most) f.depth) (shaded s (fragment_color s picture f) (natural f.depth))
    (shaded_merges s k (fragment_color s picture f) (natural f.depth))

triangle_merges : (s : State) → KeepsNearest s → (picture : Option Picture) (x y : ℤ) (v : List WindowVertex) → Merges (λ p. triangle_step s picture x y p v)
triangle_merges s k picture x y v = where_merges (covers s v x y) (fragment_step s picture (fragment_of v x y)) (fragment_merges s k picture (fragment_of v x y))

block_merges : (s : State) → KeepsNearest s → (picture : Option Picture) (b : Block) (x y : ℤ) → Merges (block_step s picture b x y)
unfolding block_step
block_merges s k picture b x y =
    merges_fold (triangle_step s picture x y) (kept_triangles s b) (λ v i. triangle_merges s k picture x y v)

effect_merges : (s : State) (privates : ℕ → Option Picture) (shareds : ℕ → Picture) (client : ℕ) (drawn : Bool) (e : Effect) (x y : ℤ)
    → is_offence (keeps_nearest s) client drawn e ≡ false → is_clear e ≡ false → Merges (effect_step s privates shareds e x y)
effect_merges s privates shareds client drawn eff.Quiet x y h n = merges_still
effect_merges s privates shareds client drawn (eff.Refused f) x y h n = merges_still
effect_merges s privates shareds client drawn (eff.Block b) x y h n = block_merges s (flags_of s (not-false (keeps_nearest s) h)) _ b x y
effect_merges s privates shareds client drawn (eff.Clear m) x y h n = absurd cc
effect_merges s privates shareds client drawn (eff.Shared p) x y h n = merges_still
effect_merges s privates shareds client drawn (eff.Sync o) x y h n = merges_still

-- ---- names

pub name_merges : (scene : Scene) → IsComposable scene → (x y : ℤ) (n : Name) → clears scene n ≡ false → Merges (λ p. draw scene x y p n)
unfolding offends pixel_step
name_merges scene h x y n none =
    let context = context_after scene n.client n.place in
    effect_merges context.state (private_image context) (shared_picture scene.decl.shared (blank_textures scene)) n.client (has_drawn scene n.client n.place)
    (effect_at scene n.client n.place) x y (h n.client n.place) none

-- ---- Clears keep depths in the buffer's range

-- a clear depth from 0 to 1
pub record IsDepth (z : ℤ) : Type 0 where
  pub low : pos 0 ≤ℤ z
  pub high : z ≤ℤ pos 65536

depth_within : (z : ℤ) → IsDepth z → natural (floor_quotient (z *ℤ pos depth_most) (pos fixed_one)) ≤ depth_most
depth_within (pos n) h = bound n (le_of n h.high)
  where
    le_of : (n : ℕ) → pos n ≤ℤ pos 65536 → n ≤ 65536
    le_of n h = omega (arith, ints, h)

    bound : (n : ℕ) → n ≤ 65536 → natural (floor_quotient (pos n *ℤ pos 16777215) (pos 65536)) ≤ 16777215
    bound n le = omega (arith, le)
depth_within (negsuc n) h = omega (arith, ints, h.low)

cleared_within : (s : State) → IsDepth s.clear_depth → (mask : ℕ) (p : Pixel) → p.depth ≤ depth_most → (cleared s mask p).depth ≤ depth_most
unfolding cleared
cleared_within s h mask p le = by (mask / 2 % 2 == 1 && s.depth_mask)
  where
    by : (b : Bool) → (if b then cleared_depth s else p.depth) ≤ depth_most
    by true = depth_within s.clear_depth h
    by false = le

where_within : (b : Bool) (p q : Pixel) → p.depth ≤ depth_most → q.depth ≤ depth_most → (if b then p else q).depth ≤ depth_most
where_within true p q a b = a
where_within false p q a b = b

clear_within : (s : State) (privates : ℕ → Option Picture) (shareds : ℕ → Picture) (e : Effect) (x y : ℤ) → IsDepth s.clear_depth → is_clear e ≡ true
    → (p : Pixel) → p.depth ≤ depth_most → (effect_step s privates shareds e x y p).depth ≤ depth_most
clear_within s privates shareds (eff.Clear mask) x y h is p le = where_within (is_in_scissor s x y) (cleared s mask p) p (cleared_within s h mask p le) le
clear_within s privates shareds e x y h is p le = absurd (cc is)

pub name_within : (scene : Scene) (x y : ℤ) (n : Name) → IsDepth (context_after scene n.client n.place).state.clear_depth → clears scene n ≡ true
    → (p : Pixel) → p.depth ≤ depth_most → (draw scene x y p n).depth ≤ depth_most
unfolding pixel_step
name_within scene x y n depth is p le =
    let context = context_after scene n.client n.place in
    clear_within context.state (private_image context) (shared_picture scene.decl.shared (blank_textures scene)) (effect_at scene n.client n.place) x y depth is p le
