-- The frame of a Swap, in every order that goes on from the names that a tile had added when it performed the Swap.
use Rattle.std.proofs.Common.{◌≡◌, ℕ, zero, suc, ◌+◌, ◌-◌, ◌<◌, ◌≤◌, nat_lt, Bool, true, false, List, [], ◌∷◌, ◌++◌, fold, inl, inr, refl, sym, ap, ◌∙◌, subst, arith, lt-ltb, ltb-true, append-nil, append_assoc, ℤ, pos}
use Rattle.std.specs.Prelude.{◌⊎◌, ◌≢◌, if◌then◌else◌}
use Rattle.std.proofs.lemmas.Bool.{cases_Bool}
use Rattle.std.proofs.lemmas.List.Sums.{fold-append}
use native.Mathlib.Decide.{ℕ_discrete}
use mathlib.Core.Logic.{dite}
use Rattle.rc_base.specs.Lists.{IsIn}
use Rattle.rc_base.specs.Contexts.Context.{private_image}
use Rattle.rc_base.specs.Contexts.Issue.{context_after, effect_at}
use Rattle.rc_base.specs.Drawing.PixelStep.{effect_step}
use Rattle.rc_base.specs.Drawing.Serial.{Canvas, canvas_step, painted, blank_canvas, pixel_step, textures_step, accepted_swaps, is_below_swap, frame_pixel}
use Rattle.rc_base.specs.Drawing.Texel.{SharedTexels, shared_picture}
use Rattle.rc_base.specs.Orders.Journal.{SyncState, is_member, after, stop}
use Rattle.rc_base.specs.Orders.Order.{names_from, names_in, added, all_added, performed}
use Rattle.rc_base.specs.Orders.Sync.{client_count}
use Rattle.rc_base.specs.declared.scene.Scene.{Scene}
use Rattle.rc_base.specs.declared.state.Effect.{Effect}
use Rattle.rc_base.specs.declared.state.Effect.TheVariants as eff
use Rattle.rc_base.specs.declared.sync.Entry.{Entry}
use Rattle.rc_base.specs.declared.sync.Name.{Name}
use Rattle.rc_base.specs.declared.sync.SyncLists.{SyncLists}
use Rattle.rc_base.specs.declared.sync.SyncOp.TheVariants as op
use Rattle.rc_base.specs.declared.window.Pixel.{Pixel}
use Rattle.order_model.specs.Log.{logged}
use Rattle.order_model.specs.declared.record.LogEntry.{LogEntry}
use Rattle.order_model.specs.declared.record.LogEntry.TheVariants.{Took, Performed}
use Rattle.order_model.proofs.AddedNames.{names_append}
use Rattle.order_model.proofs.StandsInLists.{in_append}
use Rattle.scene_lemmas.proofs.Numbered.{is_in_behind}
use Rattle.tile_model.proofs.IdleNamesChangeNothing.{paint}
use Rattle.tile_model.proofs.LogsCountSwaps.{AreCounted, swaps_rise}

-- ---- a frame's names

-- each name is shown, or draws nothing
abbrev pub IsShown : Scene → ℕ → Name → Type 0
IsShown scene k n = (is_below_swap scene k n ≡ true) ⊎ ((shared : SharedTexels) (x y : ℤ) (old : Pixel) → pixel_step scene n shared x y old ≡ old)

one_shown : (scene : Scene) (k x y : ℕ) (n : Name) (c : Canvas SharedTexels Pixel) → IsShown scene k n → paint scene (is_below_swap scene k) x y c n ≡ paint scene (λ n. true) x y c n
unfolding canvas_step
one_shown scene k x y n c (inl t) = rw t refl
one_shown scene k x y n c (inr f) = elim (cases_Bool (is_below_swap scene k n)) [
  | inl t ↦ rw t refl
  | inr g ↦ let e = f c.shared (pos x) (pos y) c.pixel in rw g (λ i. record { shared = textures_step scene c.shared n; pixel = sym e i })
]

all_shown : (scene : Scene) (k x y : ℕ) (names : List Name) (c : Canvas SharedTexels Pixel) → ((n : Name) → IsIn n names → IsShown scene k n)
    → fold (paint scene (is_below_swap scene k) x y) c names ≡ fold (paint scene (λ n. true) x y) c names
all_shown scene k x y [] c h = refl
all_shown scene k x y (n ∷ names) c h =
    ap (λ d. fold (paint scene (is_below_swap scene k) x y) d names) (one_shown scene k x y n c (h n (inl refl))) ∙ all_shown scene k x y names (paint scene (λ n. true) x y c n) (λ m i. h m (inr i))

pub frame_is_painted : (scene : Scene) (k x y : ℕ) (names : List Name) → ((n : Name) → IsIn n names → IsShown scene k n)
    → frame_pixel scene names k (pos x) (pos y) ≡ (painted scene (λ n. true) (pos x) (pos y) names).pixel
unfolding frame_pixel
frame_is_painted scene k x y names h = ap (λ (c : Canvas SharedTexels Pixel). c.pixel) (all_shown scene k x y names (blank_canvas scene) h)

-- where each client's last name is its k-th Swap, all others are below it
pub shown_names : (scene : Scene) (m k : ℕ) (names : List Name) → AreCounted m names
    → ((c : ℕ) → c < m → (last : ℕ) × (names_in c names ≡ last + 1) × (accepted_swaps scene c last + 1 ≡ k) × (effect_at scene c last ≡ eff.Sync op.Swap)) → (n : Name) → IsIn n names → IsShown scene k n
unfolding pixel_step
shown_names scene m k names counted last n i =
    let low = (counted n i).1 in
    let l = last n.client (counted n i).0 in
    let whole = l.1 in
    dite (ℕ_discrete n.place l.0)
    (λ (e : n.place ≡ l.0). inr (λ shared x y old.
    let x' = context_after scene n.client n.place in
    ap (λ (effect : Effect). effect_step x'.state (private_image x') (shared_picture scene.decl.shared shared) effect x y old) (ap (effect_at scene n.client) e ∙ l.3)))
    (λ (ne : n.place ≢ l.0).
    let rise = swaps_rise scene n.client (n.place + 1) (l.0 - (n.place + 1)) in
    let e : n.place + 1 + (l.0 - (n.place + 1)) ≡ l.0 = omega arith in
    let count = l.2 in
    inl (lt-ltb (accepted_swaps scene n.client (n.place + 1)) k (omega (arith, rise, ap (accepted_swaps scene n.client) e, count))))

-- ---- what comes later

-- more names, each behind those that its client has
pub record IsFurther (o o' : List Name) : Type 0 where
  pub more : List Name
  pub whole : o' ≡ o ++ more
  pub behind : (n : Name) → IsIn n more → names_in n.client o ≤ n.place

further_same : (o : List Name) → IsFurther o o
further_same o = record { more = []; whole = sym (append-nil o); behind = λ n i. absurd i }

pub further_then : (o p q : List Name) → IsFurther o p → IsFurther p q → IsFurther o q
further_then o p q f g = record {
  more = f.more ++ g.more;
  whole = g.whole ∙ ap (λ l. l ++ g.more) f.whole ∙ append_assoc o f.more g.more;
  behind = λ n i. elim (in_append n f.more g.more i) [
    | inl a ↦ f.behind n a
    | inr b ↦
        let le = g.behind n b in
        let e : names_in n.client p ≡ names_in n.client o + names_in n.client f.more = ap (names_in n.client) f.whole ∙ names_append n.client o f.more in omega arith
  ];
}

stretch_low : (n : Name) (c a m : ℕ) → IsIn n (names_from c a m) → (n.client ≡ c) × (a ≤ n.place)
stretch_low n c a zero h = absurd h
stretch_low n c a (suc m) (inl e) = (sym (ap (λ (k : Name). k.client) e), let p : a ≡ n.place = ap (λ (k : Name). k.place) e in omega arith)
stretch_low n c a (suc m) (inr h) = let r = stretch_low n c (a + 1) m h in (r.0, let le = r.1 in omega arith)

further_added : (c p : ℕ) (o : List Name) → IsFurther o (added c p o)
further_added c p o = record {
  more = names_from c (names_in c o) (p - names_in c o);
  whole = refl;
  behind = λ n i.
      let r = stretch_low n c (names_in c o) (p - names_in c o) i in
      let own : names_in n.client o ≡ names_in c o = ap (λ k. names_in k o) r.0 in
      let le = r.1 in omega arith;
}

pub further_all : (meant : ℕ → Bool) (places : ℕ → ℕ) (n : ℕ) (o : List Name) → IsFurther o (all_added meant places n o)
further_all meant places zero o = further_same o
further_all meant places (suc n) o =
    let h = further_all meant places n o in
    elim (cases_Bool (meant n)) [
      | inl t ↦ rw t (further_then o (all_added meant places n o) (added n (places n) (all_added meant places n o)) h (further_added n (places n) (all_added meant places n o)))
      | inr f ↦ rw f h
    ]

pub further_log : (syncs : SyncLists) (s : SyncState) (js : List Entry) (log more : List LogEntry) (o : List Name) → IsFurther (logged syncs s js log o) (logged syncs s js (log ++ more) o)
further_log syncs s js [] [] o = further_same o
further_log syncs s js [] (Took c place ∷ more) o = further_then o (added c (place + 1) o) _ (further_added c (place + 1) o) (further_log syncs s js [] more (added c (place + 1) o))
further_log syncs s [] [] (Performed ∷ more) o = further_log syncs s [] [] more o
further_log syncs s (e ∷ js) [] (Performed ∷ more) o =
    further_then o (performed syncs s e o) _ (further_all (is_member (client_count syncs) e) (λ c. stop syncs s c + 1) (client_count syncs) o) (further_log syncs (after syncs s e) js [] more (performed syncs s e o))
further_log syncs s js (Took c place ∷ log) more o = further_log syncs s js log more (added c (place + 1) o)
further_log syncs s [] (Performed ∷ log) more o = further_log syncs s [] log more o
further_log syncs s (e ∷ js) (Performed ∷ log) more o = further_log syncs (after syncs s e) js log more (performed syncs s e o)

-- names that aren't shown leave the pixel
hidden : (scene : Scene) (k x y : ℕ) (more : List Name) (c : Canvas SharedTexels Pixel) → ((n : Name) → IsIn n more → is_below_swap scene k n ≡ false)
    → (fold (paint scene (is_below_swap scene k) x y) c more).pixel ≡ c.pixel
unfolding canvas_step
hidden scene k x y [] c h = refl
hidden scene k x y (n ∷ more) c h =
    hidden scene k x y more (paint scene (is_below_swap scene k) x y c n) (λ m i. h m (inr i))
    ∙ ap (λ (b : Bool). if b then pixel_step scene n c.shared (pos x) (pos y) c.pixel else c.pixel) (h n (inl refl))

pub frame_stays : (scene : Scene) (m k x y : ℕ) (o o' : List Name) → IsFurther o o' → ((n : Name) → IsIn n o' → n.client < m) → ((c place : ℕ) → c < m → names_in c o ≤ place → k ≤ accepted_swaps scene c (place + 1))
    → frame_pixel scene o' k (pos x) (pos y) ≡ frame_pixel scene o k (pos x) (pos y)
unfolding frame_pixel
frame_stays scene m k x y o o' f clients enough =
    ap (λ (ns : List Name). (fold (paint scene (is_below_swap scene k) x y) (blank_canvas scene) ns).pixel) f.whole
    ∙ ap (λ (c : Canvas SharedTexels Pixel). c.pixel) (fold-append (paint scene (is_below_swap scene k) x y) (blank_canvas scene) o f.more)
    ∙ hidden scene k x y f.more (fold (paint scene (is_below_swap scene k) x y) (blank_canvas scene) o)
    (λ n i. not_below (accepted_swaps scene n.client (n.place + 1)) k (enough n.client n.place (clients n (subst (IsIn n) (sym f.whole) (is_in_behind n o f.more i))) (f.behind n i)))
  where
    not_below : (a b : ℕ) → b ≤ a → nat_lt a b ≡ false
    not_below a b le = elim (cases_Bool (nat_lt a b)) [ inl t ↦ absurd (omega (arith, ltb-true a b t)) | inr g ↦ g ]
