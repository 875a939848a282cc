-- The names of a client that make one of its frames, and what a fold over all its names keeps of them.
use Rattle.std.proofs.Common.{◌≡◌, ℕ, zero, suc, ◌+◌, ◌-◌, ◌<◌, ◌≤◌, Bool, true, false, List, [], ◌∷◌, ◌++◌, ◌⊎◌, length, inl, inr, refl, sym, ap, subst, ◌∙◌, arith, ℤ, eq-eqb, eqb-true}
use Rattle.std.specs.Prelude.{◌==◌, ◌&&◌, ◌||◌, not, fold, if◌then◌else◌}
use Rattle.std.specs.List.{range_with_len}
use Rattle.std.proofs.lemmas.Bool.{cases_lt, cases_Bool, ne_eqb}
use Rattle.std.proofs.lemmas.List.Folds.{list_any_at}
use Rattle.std.proofs.lemmas.List.FromFn.{length-range_with_len, get_or-range_with_len}
use Rattle.std.proofs.lemmas.List.Sums.{fold-append}
use Rattle.rc_base.specs.Contexts.Context.{private_image}
use Rattle.rc_base.specs.Contexts.Issue.{context_after, effect_at, stream_of}
use Rattle.rc_base.specs.Drawing.PixelStep.{effect_step}
use Rattle.rc_base.specs.Drawing.Serial.{blank_pixel, blank_textures, pixel_step, textures_step, stored, canvas_step, canvas_after, accepted_swaps, is_swap_effect}
use Rattle.rc_base.specs.Drawing.Texel.{SharedTexels, shared_picture}
use Rattle.rc_base.specs.Drawing.Window.{depth_most}
use Rattle.rc_base.specs.Lists.{IsIn}
use Rattle.rc_base.specs.Orders.Order.{names_from}
use Rattle.rc_base.specs.Pictures.{Picture}
use Rattle.std.specs.declared.option.Option.{Option}
use Rattle.rc_base.specs.declared.scene.Scene.{Scene}
use Rattle.rc_base.specs.declared.state.Effect.{Effect}
use Rattle.rc_base.specs.declared.state.Effect.TheVariants as eff
use Rattle.rc_base.specs.declared.state.State.{State}
use Rattle.rc_base.specs.declared.sync.Name.{Name}
use Rattle.rc_base.specs.declared.window.Pixel.{Pixel}
use Rattle.rc_base.specs.Drawing.Nearer.{nearer}
use Rattle.stream_replay.proofs.AcceptedSwaps.{swaps_next, swaps_le}
use Rattle.sort_last.specs.Layers.{is_clear, clears, is_of_frame, names_of, layer_pixel, cleared_pixel}
use Rattle.sort_last.specs.Players.{draw, draw_if}
use Rattle.sort_last.specs.Offends.{keeps_nearest, is_block, has_drawn, is_offence, offends, IsComposable}
use Rattle.sort_last.proofs.DrawnByDepth.{name_merges, name_within, IsDepth}
use Rattle.sort_last.proofs.Nearer.{Merges, merges_fold, blank_behind}

-- ---- Swaps along a stream

pub swaps_after_swap : (s : Scene) (client place : ℕ) → is_swap_effect (effect_at s client place) ≡ true → accepted_swaps s client (place + 1) ≡ accepted_swaps s client place + 1
swaps_after_swap s client place is = swaps_next s client place ∙ ap (λ (b : Bool). accepted_swaps s client place + (if b then 1 else 0)) is

-- ---- folds

pub fold_same : {A : Type 0} (f g : A → Name → A) (o : List Name) → ((a : A) (n : Name) → IsIn n o → f a n ≡ g a n) → (a : A) → fold f a o ≡ fold g a o
fold_same f g [] h a = refl
fold_same f g (n ∷ o) h a = ap (λ b. fold f b o) (h a n (inl refl)) ∙ fold_same f g o (λ b m i. h b m (inr i)) (g a n)

pub fold_still : {A : Type 0} (f : A → Name → A) (o : List Name) → ((a : A) (n : Name) → IsIn n o → f a n ≡ a) → (a : A) → fold f a o ≡ a
fold_still f [] h a = refl
fold_still f (n ∷ o) h a = ap (λ b. fold f b o) (h a n (inl refl)) ∙ fold_still f o (λ b m i. h b m (inr i)) a

-- ---- one name

pub shown_is : (scene : Scene) (x y : ℤ) (shown : Name → Bool) (p : Pixel) (n : Name) → shown n ≡ true → draw_if scene x y shown p n ≡ draw scene x y p n
shown_is scene x y shown p n h = ap (λ (b : Bool). if b then draw scene x y p n else p) h

pub hidden_is : (scene : Scene) (x y : ℤ) (shown : Name → Bool) (p : Pixel) (n : Name) → shown n ≡ false → draw_if scene x y shown p n ≡ p
hidden_is scene x y shown p n h = ap (λ (b : Bool). if b then draw scene x y p n else p) h

-- only blocks and Clears draw
still_effect : (s : State) (privates : ℕ → Option Picture) (shareds : ℕ → Picture) (e : Effect) (x y : ℤ) (p : Pixel) → is_block e ≡ false → is_clear e ≡ false
    → effect_step s privates shareds e x y p ≡ p
still_effect s privates shareds eff.Quiet x y p b c = refl
still_effect s privates shareds (eff.Refused f) x y p b c = refl
still_effect s privates shareds (eff.Block k) x y p b c = absurd cc
still_effect s privates shareds (eff.Clear m) x y p b c = absurd cc
still_effect s privates shareds (eff.Shared k) x y p b c = refl
still_effect s privates shareds (eff.Sync o) x y p b c = refl

pub still_name : (scene : Scene) (x y : ℤ) (p : Pixel) (n : Name) → is_block (effect_at scene n.client n.place) ≡ false → clears scene n ≡ false → draw scene x y p n ≡ p
unfolding pixel_step
still_name scene x y p n b c =
    let context = context_after scene n.client n.place in
    still_effect context.state (private_image context) (shared_picture scene.decl.shared (blank_textures scene)) (effect_at scene n.client n.place) x y p b c

swap_is_no_block : (e : Effect) → is_swap_effect e ≡ true → (is_block e ≡ false) × (is_clear e ≡ false)
swap_is_no_block (eff.Sync o) h = (refl, refl)
swap_is_no_block e h = absurd (cc h)

pub swap_draws_nothing : (scene : Scene) (x y : ℤ) (p : Pixel) (n : Name) → is_swap_effect (effect_at scene n.client n.place) ≡ true → draw scene x y p n ≡ p
swap_draws_nothing scene x y p n h =
    let no = swap_is_no_block (effect_at scene n.client n.place) h in
    still_name scene x y p n no.0 no.1

pub swap_is_still : (scene : Scene) (x y : ℤ) (shown : Name → Bool) (p : Pixel) (n : Name) → is_swap_effect (effect_at scene n.client n.place) ≡ true → draw_if scene x y shown p n ≡ p
swap_is_still scene x y shown p n h = by (shown n)
  where
    by : (b : Bool) → (if b then draw scene x y p n else p) ≡ p
    by true = swap_draws_nothing scene x y p n h
    by false = refl

-- ---- no shared texture is written

stored_still : (sizes : List (List ℕ)) (s : State) (client : ℕ) (drawn : Bool) (e : Effect) (t : SharedTexels) → is_offence (keeps_nearest s) client drawn e ≡ false → stored sizes e t ≡ t
stored_still sizes s client drawn (eff.Shared p) t h = absurd cc
stored_still sizes s client drawn eff.Quiet t h = refl
stored_still sizes s client drawn (eff.Refused f) t h = refl
stored_still sizes s client drawn (eff.Block b) t h = refl
stored_still sizes s client drawn (eff.Clear m) t h = refl
stored_still sizes s client drawn (eff.Sync o) t h = refl

textures_still : (scene : Scene) → IsComposable scene → (t : SharedTexels) (n : Name) → textures_step scene t n ≡ t
unfolding textures_step offends
textures_still scene h t n =
    stored_still scene.decl.shared (context_after scene n.client n.place).state n.client (has_drawn scene n.client n.place) (effect_at scene n.client n.place) t (h n.client n.place)

abbrev drawing : Scene → ℤ → ℤ → Name → SharedTexels → Pixel → Pixel
drawing scene x y n shared old = pixel_step scene n shared x y old

-- so a canvas is its pixel
pub canvas_is : (scene : Scene) → IsComposable scene → (x y : ℤ) (shown : Name → Bool) (o : List Name) (p : Pixel)
    → (canvas_after (textures_step scene) (drawing scene x y) shown (record { shared = blank_textures scene; pixel = p }) o).pixel ≡ fold (draw_if scene x y shown) p o
unfolding canvas_step
canvas_is scene h x y shown [] p = refl
canvas_is scene h x y shown (n ∷ o) p =
    ap (λ (t : SharedTexels). (canvas_after (textures_step scene) (drawing scene x y) shown (record { shared = t; pixel = draw_if scene x y shown p n }) o).pixel) (textures_still scene h (blank_textures scene) n)
    ∙ canvas_is scene h x y shown o (draw_if scene x y shown p n)

-- ---- runs of a client's names

pub in_names : (c p m : ℕ) (n : Name) → IsIn n (names_from c p m) → (n.client ≡ c) × (p ≤ n.place) × (n.place < p + m)
in_names c p zero n i = absurd i
in_names c p (suc m) n (inl e) =
    let client = ap (λ (k : Name). k.client) (sym e) in
    let place : n.place ≡ p = ap (λ (k : Name). k.place) (sym e) in
    (client, omega (arith, place), omega (arith, place))
in_names c p (suc m) n (inr i) = let r = in_names c (p + 1) m n i in (r.0, omega (arith, r.1), omega (arith, r.2))

pub names_split : (c p m k : ℕ) → names_from c p (m + k) ≡ names_from c p m ++ names_from c (p + m) k
names_split c p zero k =
    let a : zero + k ≡ k = omega arith in
    let b : p ≡ p + zero = omega arith in
    ap (names_from c p) a ∙ ap (λ q. names_from c q k) b
names_split c p (suc m) k =
    let a : suc m + k ≡ suc (m + k) = omega arith in
    let b : p + 1 + m ≡ p + suc m = omega arith in
    ap (names_from c p) a
    ∙ ap (λ (o : List Name). record { client = c; place = p } ∷ o) (names_split c (p + 1) m k ∙ ap (λ q. names_from c (p + 1) m ++ names_from c q k) b)

-- Frame j of a client, from 0: its names from a to below b. After them comes a Swap, or the end of the stream.
pub record IsFrame (scene : Scene) (c j a b : ℕ) : Type 0 where
  pub order : a ≤ b
  pub within : b ≤ length (stream_of scene c)
  pub before : (i : ℕ) → i < a → accepted_swaps scene c i < j
  pub first : accepted_swaps scene c a ≡ j
  pub last : accepted_swaps scene c b ≡ j
  pub over : (b ≡ length (stream_of scene c)) ⊎ (is_swap_effect (effect_at scene c b) ≡ true)

pub inside_frame : (scene : Scene) (c j a b : ℕ) → IsFrame scene c j a b → (i : ℕ) → a ≤ i → i ≤ b → accepted_swaps scene c i ≡ j
inside_frame scene c j a b h i low high = omega (arith, swaps_le scene c a i low, swaps_le scene c i b high, h.first, h.last)

-- a fold over all names of the client that shows this frame alone
pub frame_alone : (scene : Scene) (c j a b : ℕ) → IsFrame scene c j a b → (x y : ℤ) (test : Name → Bool) (p : Pixel)
    → fold (draw_if scene x y (λ n. is_of_frame scene (j + 1) n && test n)) p (names_of scene c) ≡ fold (draw_if scene x y test) p (names_from c a (b - a))
frame_alone scene c j a b h x y test p =
    let end = length (stream_of scene c) in
    let shown = λ (n : Name). is_of_frame scene (j + 1) n && test n in
    let f = draw_if scene x y shown in
    let front = names_from c 0 a in
    let middle = names_from c a (b - a) in
    let back = names_from c b (end - b) in
    let all : a + ((b - a) + (end - b)) ≡ end = omega (arith, h.order, h.within) in
    let at : 0 + a ≡ a = omega arith in
    let to : a + (b - a) ≡ b = omega (arith, h.order) in
    let parts : names_of scene c ≡ front ++ (middle ++ back) =
    ap (names_from c 0) (sym all) ∙ names_split c 0 a ((b - a) + (end - b))
    ∙ ap (λ (o : List Name). front ++ o) (ap (λ q. names_from c q ((b - a) + (end - b))) at ∙ names_split c a (b - a) (end - b) ∙ ap (λ q. middle ++ names_from c q (end - b)) to) in
    ap (fold f p) parts
    ∙ fold-append f p front (middle ++ back)
    ∙ ap (λ q. fold f q (middle ++ back)) (fold_still f front (λ q n i. let r = in_names c 0 a n i in earlier q n r.0 (omega (arith, r.2))) p)
    ∙ fold-append f p middle back
    ∙ fold_still f back (λ q n i. let r = in_names c b (end - b) n i in later q n r.0 r.1 (omega (arith, r.2, h.within))) (fold f p middle)
    ∙ fold_same f (draw_if scene x y test) middle (λ q n i. let r = in_names c a (b - a) n i in now q n r.0 r.1 (omega (arith, r.2, to))) p
  where
    hidden : (q : Pixel) (n : Name) → (accepted_swaps scene n.client n.place ≡ j → ⊥) → draw_if scene x y (λ n. is_of_frame scene (j + 1) n && test n) q n ≡ q
    hidden q n ne =
        hidden_is scene x y (λ n. is_of_frame scene (j + 1) n && test n) q n
        (ap (λ (b : Bool). b && test n) (ne_eqb (accepted_swaps scene n.client n.place + 1) (j + 1) (λ e. ne (omega (arith, e)))))

    earlier : (q : Pixel) (n : Name) → n.client ≡ c → n.place < a → draw_if scene x y (λ n. is_of_frame scene (j + 1) n && test n) q n ≡ q
    earlier q n is lt = hidden q n (λ e. let less = h.before n.place lt in omega (arith, less, e, ap (λ k. accepted_swaps scene k n.place) is))

    now : (q : Pixel) (n : Name) → n.client ≡ c → a ≤ n.place → n.place < b → draw_if scene x y (λ n. is_of_frame scene (j + 1) n && test n) q n ≡ draw_if scene x y test q n
    now q n is low high =
        let at : accepted_swaps scene n.client n.place ≡ j = ap (λ k. accepted_swaps scene k n.place) is ∙ inside_frame scene c j a b h n.place low (omega (arith, high)) in
        ap (λ (b : Bool). if b && test n then draw scene x y q n else q) (eq-eqb (accepted_swaps scene n.client n.place + 1) (j + 1) (ap (λ k. k + 1) at))

    later : (q : Pixel) (n : Name) → n.client ≡ c → b ≤ n.place → n.place < length (stream_of scene c) → draw_if scene x y (λ n. is_of_frame scene (j + 1) n && test n) q n ≡ q
    later q n is low high = elim h.over [
      | inl end ↦ absurd (omega (arith, low, high, end))
      | inr swap ↦ elim (cases_lt b n.place) [
        | inr le ↦
            let at : n.place ≡ b = omega (arith, low, le) in
            swap_is_still scene x y (λ n. is_of_frame scene (j + 1) n && test n) q n
            (ap (λ k. is_swap_effect (effect_at scene k n.place)) is ∙ ap (λ k. is_swap_effect (effect_at scene c k)) at ∙ swap)
        | inl lt ↦ hidden q n (λ e. omega (
          arith,
          swaps_after_swap scene c b swap,
          h.last,
          swaps_le scene c (b + 1) n.place (omega (arith, lt)),
          e,
          ap (λ k. accepted_swaps scene k n.place) is,
        ))
      ]
    ]

-- what a layer keeps
abbrev pub others : Scene → Name → Bool
others scene n = not (clears scene n)

pub layer_is : (scene : Scene) → IsComposable scene → (c j a b : ℕ) → IsFrame scene c j a b → (x y : ℤ)
    → layer_pixel scene c (j + 1) x y ≡ fold (draw_if scene x y (others scene)) blank_pixel (names_from c a (b - a))
unfolding layer_pixel
layer_is scene d c j a b h x y =
    canvas_is scene d x y (λ n. is_of_frame scene (j + 1) n && others scene n) (names_of scene c) blank_pixel ∙ frame_alone scene c j a b h x y (others scene) blank_pixel

pub cleared_is : (scene : Scene) → IsComposable scene → (j a b : ℕ) → IsFrame scene 0 j a b → (x y : ℤ) (p : Pixel)
    → cleared_pixel scene (j + 1) x y p ≡ fold (draw_if scene x y (clears scene)) p (names_from 0 a (b - a))
unfolding cleared_pixel
cleared_is scene d j a b h x y p =
    canvas_is scene d x y (λ n. is_of_frame scene (j + 1) n && clears scene n) (names_of scene 0) p ∙ frame_alone scene 0 j a b h x y (clears scene) p

-- ---- Clears come before blocks

no_clear : (s : State) (client : ℕ) (drawn : Bool) (e : Effect) → is_offence (keeps_nearest s) client drawn e ≡ false → is_clear e ≡ true → ((client == 0) ≡ true) × (drawn ≡ false)
no_clear s client drawn (eff.Clear m) h is = by (client == 0) drawn h
  where
    by : (a b : Bool) → (not a || b) ≡ false → (a ≡ true) × (b ≡ false)
    by true b h = (refl, h)
    by false b h = absurd cc
no_clear s client drawn e h is = absurd (cc is)

clear_is_first : (scene : Scene) → IsComposable scene → (n : Name) → clears scene n ≡ true → ((n.client == 0) ≡ true) × (has_drawn scene n.client n.place ≡ false)
unfolding offends
clear_is_first scene h n is =
    no_clear (context_after scene n.client n.place).state n.client (has_drawn scene n.client n.place) (effect_at scene n.client n.place) (h n.client n.place) is

drawn_at : (scene : Scene) (c p q : ℕ) → p < q → is_block (effect_at scene c p) ≡ true → accepted_swaps scene c p ≡ accepted_swaps scene c q → has_drawn scene c q ≡ true
unfolding has_drawn
drawn_at scene c p q lt block same =
    let test = λ (i : ℕ). is_block (effect_at scene c i) && (accepted_swaps scene c i == accepted_swaps scene c q) in
    list_any_at test (range_with_len 0 q) p 0 (omega (arith, lt, length-range_with_len 0 q))
    (ap test (get_or-range_with_len 0 q p 0 lt ∙ omega arith) ∙ ap (λ (b : Bool). b && (accepted_swaps scene c p == accepted_swaps scene c q)) block ∙ eq-eqb _ _ same)

-- behind a block of the list there is no Clear
abbrev pub ClearsFirst : Scene → List Name → Type 0
ClearsFirst scene [] = Unit {0}
ClearsFirst scene (n ∷ ns) = (is_block (effect_at scene n.client n.place) ≡ true → (m : Name) → IsIn m ns → clears scene m ≡ false) × ClearsFirst scene ns

clear_cases : (scene : Scene) (n : Name) → (clears scene n ≡ true → ⊥) → clears scene n ≡ false
clear_cases scene n h = elim (cases_Bool (clears scene n)) [ inl t ↦ absurd (h t) | inr f ↦ f ]

not_both : (b : Bool) → b ≡ true → b ≡ false → ⊥
not_both b t f = absurd cc

pub clears_first : (scene : Scene) → IsComposable scene → (c j p m : ℕ) → ((i : ℕ) → p ≤ i → i < p + m → accepted_swaps scene c i ≡ j) → ClearsFirst scene (names_from c p m)
clears_first scene d c j p zero h = tt
clears_first scene d c j p (suc m) h = (behind, clears_first scene d c j (p + 1) m (λ i low high. h i (omega (arith, low)) (omega (arith, high))))
  where
    behind : is_block (effect_at scene c p) ≡ true → (n : Name) → IsIn n (names_from c (p + 1) m) → clears scene n ≡ false
    behind block n i =
        let r = in_names c (p + 1) m n i in
        let one = h p (omega arith) (omega arith) in
        let two = h n.place (omega (arith, r.1)) (omega (arith, r.2)) in
        let some : has_drawn scene c n.place ≡ true = drawn_at scene c p n.place (omega (arith, r.1)) block (one ∙ sym two) in
        clear_cases scene n (λ is. not_both (has_drawn scene c n.place) some (ap (λ k. has_drawn scene k n.place) (sym r.0) ∙ (clear_is_first scene d n is).1))

pub no_clears : (scene : Scene) → IsComposable scene → (c p m : ℕ) → 0 < c → (n : Name) → IsIn n (names_from c p m) → clears scene n ≡ false
no_clears scene d c p m lt n i =
    let client = (in_names c p m n i).0 in
    clear_cases scene n (λ is. absurd (omega (arith, lt, client, eqb-true n.client 0 (clear_is_first scene d n is).0)))

-- ---- a run of names: first its Clears, then what is merged

module _ (scene : Scene) (d : IsComposable scene) (depths : (c n : ℕ) → IsDepth (context_after scene c n).state.clear_depth) (x y : ℤ) where
  abbrev cleared : Pixel → List Name → Pixel
  cleared p ns = fold (draw_if scene x y (clears scene)) p ns

  abbrev merged : Pixel → List Name → Pixel
  merged p ns = fold (draw_if scene x y (others scene)) p ns

  step_merges : (n : Name) → Merges (λ p. draw_if scene x y (others scene) p n)
  step_merges n = elim (cases_Bool (clears scene n)) [
    | inl t ↦ λ p le. hidden_is scene x y (others scene) p n (ap not t) ∙ sym (blank_behind p le) ∙ ap (nearer p) (sym (hidden_is scene x y (others scene) blank_pixel n (ap not t)))
    | inr f ↦ λ p le. shown_is scene x y (others scene) p n (ap not f) ∙ name_merges scene d x y n f p le ∙ ap (nearer p) (sym (shown_is scene x y (others scene) blank_pixel n (ap not f)))
  ]

  pub run_merges : (ns : List Name) → Merges (λ p. merged p ns)
  run_merges ns = merges_fold (draw_if scene x y (others scene)) ns (λ n i. step_merges n)

  pub cleared_within : (ns : List Name) (p : Pixel) → p.depth ≤ depth_most → (cleared p ns).depth ≤ depth_most
  cleared_within [] p le = le
  cleared_within (n ∷ ns) p le = cleared_within ns (draw_if scene x y (clears scene) p n) (elim (cases_Bool (clears scene n)) [
    | inl t ↦ subst (λ (q : Pixel). q.depth ≤ depth_most) (sym (shown_is scene x y (clears scene) p n t)) (name_within scene x y n (depths n.client n.place) t p le)
    | inr f ↦ subst (λ (q : Pixel). q.depth ≤ depth_most) (sym (hidden_is scene x y (clears scene) p n f)) le
  ])

  pub cleared_still : (ns : List Name) → ((n : Name) → IsIn n ns → clears scene n ≡ false) → (p : Pixel) → cleared p ns ≡ p
  cleared_still ns none p = fold_still (draw_if scene x y (clears scene)) ns (λ q n i. hidden_is scene x y (clears scene) q n (none n i)) p

  no_others : (ns : List Name) → ((n : Name) → IsIn n ns → clears scene n ≡ false) → (p : Pixel) → fold (draw scene x y) p ns ≡ merged p ns
  no_others ns none p = fold_same (draw scene x y) (draw_if scene x y (others scene)) ns (λ q n i. sym (shown_is scene x y (others scene) q n (ap not (none n i)))) p

  -- all names, drawn one after the other, leave the nearer one of what their Clears leave and of what the others draw on a blank buffer
  pub run_is : (ns : List Name) → ClearsFirst scene ns → (p : Pixel) → p.depth ≤ depth_most → fold (draw scene x y) p ns ≡ nearer (cleared p ns) (merged blank_pixel ns)
  run_is [] first p le = sym (blank_behind p le)
  run_is (n ∷ ns) first p le = elim (cases_Bool (clears scene n)) [
    | inl t ↦
        let now = shown_is scene x y (clears scene) p n t in
        run_is ns first.1 (draw scene x y p n) (name_within scene x y n (depths n.client n.place) t p le)
        ∙ ap (λ q. nearer (cleared q ns) (merged blank_pixel ns)) (sym now)
        ∙ ap (λ q. nearer (cleared p (n ∷ ns)) (merged q ns)) (sym (hidden_is scene x y (others scene) blank_pixel n (ap not t)))
    | inr f ↦ elim (cases_Bool (is_block (effect_at scene n.client n.place))) [
      | inl block ↦
          let none = first.0 block in
          let still = cleared_still ns none p in
          ap (λ q. fold (draw scene x y) q ns) (sym (shown_is scene x y (others scene) p n (ap not f)))
          ∙ no_others ns none (draw_if scene x y (others scene) p n)
          ∙ run_merges (n ∷ ns) p le
          ∙ ap (λ q. nearer q (merged blank_pixel (n ∷ ns))) (sym (ap (λ q. cleared q ns) (hidden_is scene x y (clears scene) p n f) ∙ still))
      | inr other ↦
          let here = still_name scene x y p n other f in
          let blank = still_name scene x y blank_pixel n other f in
          ap (λ q. fold (draw scene x y) q ns) here
          ∙ run_is ns first.1 p le
          ∙ ap (λ q. nearer (cleared q ns) (merged blank_pixel ns)) (sym (hidden_is scene x y (clears scene) p n f))
          ∙ ap (λ q. nearer (cleared p (n ∷ ns)) (merged q ns)) (sym (shown_is scene x y (others scene) blank_pixel n (ap not f) ∙ blank))
    ]
  ]
