-- The commands of a scene change and read only what their footprints say.
use Rattle.std.proofs.Common.{◌≡◌, ℕ, ◌==◌, Bool, true, false, List, [], ◌∷◌, fold, Option, Some, ℤ, inl, inr, refl, ap, ◌∙◌, eq-eqb, slice_index, ◌+◌, ◌<◌, ◌&&◌, nat_lt, cond, pos, sym, arith, ltb-true}
use Rattle.std.specs.Prelude.{slice_index}
use Rattle.std.proofs.lemmas.Bool.{cases_Bool, and_parts, and_from, or_parts}
use Rattle.std.proofs.lemmas.List.Folds.{list_any_at}
use Rattle.std.proofs.lemmas.List.FromFn.{length-range_with_len, get_or-range_with_len}
use Rattle.std.specs.List.{list_any, range_with_len}
use Rattle.rc_base.specs.Pictures.{Picture}
use Rattle.rc_base.specs.Contexts.Context.{private_image, shared_sides}
use Rattle.rc_base.specs.Contexts.Issue.{context_after, effect_at}
use Rattle.rc_base.specs.Drawing.Cover.{covers}
use Rattle.rc_base.specs.Drawing.Pieces.{kept_triangles}
use Rattle.rc_base.specs.Drawing.PixelStep.{triangle_step, block_step, effect_step}
use Rattle.rc_base.specs.Drawing.Serial.{stored, pixel_step, textures_step}
use Rattle.rc_base.specs.Drawing.Texel.{bound_kind, bound_name, sampled, SharedTexels, shared_picture, samples_shared}
use Rattle.rc_base.specs.Drawing.Touch.{touches, may_sample, writes_shared}
use Rattle.rc_base.specs.Orders.Footprints.{is_in_window, touches_pixel, touches_some}
use Rattle.rc_base.specs.declared.scene.Scene.{Scene}
use Rattle.rc_base.specs.declared.state.Effect.{Effect}
use Rattle.rc_base.specs.declared.state.Effect.TheVariants as eff
use Rattle.rc_base.specs.declared.state.State.{State}
use Rattle.rc_base.specs.declared.sync.Name.{Name}
use Rattle.rc_base.specs.declared.window.Pixel.{Pixel}
use Rattle.rc_base.specs.declared.window.WindowVertex.{WindowVertex}
use Rattle.order_model.specs.Commuting.{IsLocal, drawing_of}

-- triangles that don't cover the pixel
no_triangle : (s : State) (picture : Option Picture) (x y : ℤ) (vs : List (List WindowVertex)) (old : Pixel)
    → list_any (λ v. covers s v x y) vs ≡ false → fold (triangle_step s picture x y) old vs ≡ old
no_triangle s picture x y [] old h = refl
no_triangle s picture x y (v ∷ vs) old h =
    let k = or_parts (covers s v x y) (list_any (λ u. covers s u x y) vs) h in
    let one : triangle_step s picture x y old v ≡ old = rw k.0 refl in
    ap (λ p. fold (triangle_step s picture x y) p vs) one ∙ no_triangle s picture x y vs old k.1

pub untouched_stays : (s : State) (privates : ℕ → Option Picture) (shareds : ℕ → Picture) (e : Effect) (px py : ℤ) (old : Pixel) → touches s e px py ≡ false
    → effect_step s privates shareds e px py old ≡ old
unfolding touches block_step
untouched_stays s privates shareds (eff.Block block) px py old h =
    no_triangle s (sampled s privates shareds) px py (kept_triangles s block) old h
untouched_stays s privates shareds (eff.Clear mask) px py old h = rw h refl
untouched_stays s privates shareds eff.Quiet px py old h = refl
untouched_stays s privates shareds (eff.Refused f) px py old h = refl
untouched_stays s privates shareds (eff.Shared part) px py old h = refl
untouched_stays s privates shareds (eff.Sync op) px py old h = refl

-- a draw goes by the one texture that it samples
same_picture : (s : State) (privates : ℕ → Option Picture) (shareds shareds' : ℕ → Picture) → ((t : ℕ) → samples_shared s t ≡ true → shareds t ≡ shareds' t)
    → sampled s privates shareds ≡ sampled s privates shareds'
same_picture s privates shareds shareds' h = elim (cases_Bool s.texture_on) [
  | inl on ↦ elim (cases_Bool (bound_kind s == 1)) [
    | inl t ↦
        let name = bound_name s in
        let own : samples_shared s name ≡ true = rw (on, t) (eq-eqb name name refl) in
        rw (on, t) (ap (λ picture. Some picture) (h name own))
    | inr f ↦ rw (on, f) refl
  ]
  | inr off ↦ rw off refl
]

reads_sampled : (s : State) (privates : ℕ → Option Picture) (shareds shareds' : ℕ → Picture) (e : Effect) (px py : ℤ) (old : Pixel)
    → ((t : ℕ) → may_sample s e t ≡ true → shareds t ≡ shareds' t) → effect_step s privates shareds e px py old ≡ effect_step s privates shareds' e px py old
reads_sampled s privates shareds shareds' (eff.Block block) px py old h = ap (λ picture. block_step s picture block px py old) (same_picture s privates shareds shareds' h)
reads_sampled s privates shareds shareds' (eff.Clear mask) px py old h = refl
reads_sampled s privates shareds shareds' eff.Quiet px py old h = refl
reads_sampled s privates shareds shareds' (eff.Refused f) px py old h = refl
reads_sampled s privates shareds shareds' (eff.Shared part) px py old h = refl
reads_sampled s privates shareds shareds' (eff.Sync op) px py old h = refl

-- ---- a touched pixel of the window is one of those that are looked at

any_below : (test : ℕ → Bool) (n k : ℕ) → k < n → test k ≡ true → list_any test (range_with_len 0 n) ≡ true
any_below test n k lt h =
    let e : 0 + k ≡ k = omega arith in
    list_any_at test (range_with_len 0 n) k 0 (omega (arith, length-range_with_len 0 n, lt)) (ap test (get_or-range_with_len 0 n k 0 lt ∙ e) ∙ h)

some_touched : (scene : Scene) (n : Name) (x y : ℕ) → is_in_window scene x y ≡ true → touches_pixel scene n x y ≡ true → touches_some scene n ≡ true
unfolding touches_some
some_touched scene n x y inside h =
    let k = and_parts (nat_lt x scene.decl.width) (nat_lt y scene.decl.height) inside in
    any_below (λ j. list_any (λ i. touches_pixel scene n i j) (range_with_len 0 scene.decl.width)) scene.decl.height y (ltb-true y scene.decl.height k.1)
    (any_below (λ i. touches_pixel scene n i y) scene.decl.width x (ltb-true x scene.decl.width k.0) h)

-- ---- the drawing is local

unwritten_stays : (sizes : List (List ℕ)) (e : Effect) (shared : SharedTexels) (t : ℕ) → writes_shared e t ≡ false → stored sizes e shared t ≡ shared t
unwritten_stays sizes (eff.Shared part) shared t h = rw h refl
unwritten_stays sizes (eff.Block block) shared t h = refl
unwritten_stays sizes (eff.Clear mask) shared t h = refl
unwritten_stays sizes (eff.Quiet) shared t h = refl
unwritten_stays sizes (eff.Refused f) shared t h = refl
unwritten_stays sizes (eff.Sync op) shared t h = refl

stored_by_own : (sizes : List (List ℕ)) (e : Effect) (shared shared' : SharedTexels) (t : ℕ) → shared t ≡ shared' t → stored sizes e shared t ≡ stored sizes e shared' t
stored_by_own sizes (eff.Shared part) shared shared' t h = rw h refl
stored_by_own sizes (eff.Block block) shared shared' t h = h
stored_by_own sizes (eff.Clear mask) shared shared' t h = h
stored_by_own sizes (eff.Quiet) shared shared' t h = h
stored_by_own sizes (eff.Refused f) shared shared' t h = h
stored_by_own sizes (eff.Sync op) shared shared' t h = h

same_shared : (sizes : List (List ℕ)) (tex tex' : SharedTexels) (k : ℕ) → tex k ≡ tex' k → shared_picture sizes tex k ≡ shared_picture sizes tex' k
same_shared sizes tex tex' k h = ap (λ texels. record { w = slice_index (shared_sides sizes k) 0; h = slice_index (shared_sides sizes k) 1; texels = texels }) h

pub drawing_is_local : (scene : Scene) → IsLocal (drawing_of scene)
unfolding pixel_step textures_step
drawing_is_local scene = record {
  untouched = λ n p old tex h. elim (cases_Bool (is_in_window scene p.0 p.1)) [
    | inl t ↦
        let free : touches_pixel scene n p.0 p.1 ≡ false = sym (ap (λ b. b && touches_pixel scene n p.0 p.1) t) ∙ h in
        ap (λ b. cond b (pixel_step scene n tex (pos p.0) (pos p.1) old) old) t
        ∙ (let x = context_after scene n.client n.place in
        untouched_stays x.state (private_image x) (shared_picture scene.decl.shared tex) (effect_at scene n.client n.place) (pos p.0) (pos p.1) old free)
    | inr f ↦ ap (λ b. cond b (pixel_step scene n tex (pos p.0) (pos p.1) old) old) f
  ];
  reads = λ n p old tex tex' h.
      let x = context_after scene n.client n.place in
      let e = effect_at scene n.client n.place in
      elim (cases_Bool (is_in_window scene p.0 p.1)) [
        | inl t ↦ ap (λ b. cond b (pixel_step scene n tex (pos p.0) (pos p.1) old) old) t ∙ elim (cases_Bool (touches_pixel scene n p.0 p.1)) [
          | inl touched ↦ reads_sampled x.state (private_image x) (shared_picture scene.decl.shared tex) (shared_picture scene.decl.shared tex') e (pos p.0) (pos p.1) old
              (λ k s. same_shared scene.decl.shared tex tex' k (h k (and_from (may_sample x.state e k) (touches_some scene n) s (some_touched scene n p.0 p.1 t touched))))
          | inr free ↦
              untouched_stays x.state (private_image x) (shared_picture scene.decl.shared tex) e (pos p.0) (pos p.1) old free
              ∙ sym (untouched_stays x.state (private_image x) (shared_picture scene.decl.shared tex') e (pos p.0) (pos p.1) old free)
        ] ∙ sym (ap (λ b. cond b (pixel_step scene n tex' (pos p.0) (pos p.1) old) old) t)
        | inr f ↦ ap (λ b. cond b (pixel_step scene n tex (pos p.0) (pos p.1) old) old) f ∙ sym (ap (λ b. cond b (pixel_step scene n tex' (pos p.0) (pos p.1) old) old) f)
      ];
  unwritten = λ n tex t h. unwritten_stays scene.decl.shared (effect_at scene n.client n.place) tex t h;
  own = λ n tex tex' t h. stored_by_own scene.decl.shared (effect_at scene n.client n.place) tex tex' t h;
}
