-- Names that give a tile no work change nothing in it.
use Rattle.std.proofs.Common.{◌≡◌, ℕ, zero, suc, ◌+◌, ◌-◌, ◌<◌, ◌≤◌, Bool, true, false, cond, List, [], ◌∷◌, fold, inl, inr, refl, sym, ap, ◌∙◌, arith, true≢false, pos}
use Rattle.std.specs.List.{AllByRecursion}
use Rattle.std.proofs.lemmas.Bool.{cases_Bool}
use Rattle.std.proofs.lemmas.List.Sums.{fold-append}
use Rattle.rc_base.specs.Pictures.{Picture}
use Rattle.rc_base.specs.Contexts.Context.{ClientContext, private_image}
use Rattle.rc_base.specs.Contexts.Issue.{context_after, effect_at}
use Rattle.rc_base.specs.Drawing.PixelStep.{effect_step}
use Rattle.rc_base.specs.Drawing.Serial.{Canvas, canvas_step, canvas_after, stored, pixel_step, textures_step}
use Rattle.rc_base.specs.Drawing.Texel.{SharedTexels, shared_picture}
use Rattle.rc_base.specs.Drawing.Touch.{touches}
use Rattle.rc_base.specs.Orders.Order.{names_from}
use Rattle.rc_base.specs.Cluster.Parcels.{told, draws_on, parcel_of, parcels_before}
use Rattle.rc_base.specs.Cluster.Tiles.{tile_pixels, meets_tile}
use Rattle.rc_base.specs.declared.scene.Scene.{Scene}
use Rattle.rc_base.specs.declared.state.Effect.{Effect}
use Rattle.rc_base.specs.declared.state.Effect.TheVariants as eff
use Rattle.rc_base.specs.declared.state.ElementValue.{ElementValue}
use Rattle.rc_base.specs.declared.state.State.{State}
use Rattle.rc_base.specs.declared.sync.Name.{Name}
use Rattle.rc_base.specs.declared.window.Layout.{Layout}
use Rattle.rc_base.specs.declared.window.Pixel.{Pixel}
use Rattle.order_model.proofs.CommandsAreLocal.{untouched_stays}
use Rattle.order_model.proofs.OrdersBySteps.{spread}
use Rattle.tile_model.specs.Laws.{GivesNothing}

-- what a lower law says: a tile that has a pixel that a command touches meets its box
abbrev pub BoxesHold : Type 0
BoxesHold =
    (l : Layout) (s : State) (effect : Effect) (tile x y : ℕ) → tile_pixels l tile x y ≡ true → touches s effect (pos x) (pos y) ≡ true → meets_tile l s effect tile ≡ true

-- ---- what a command is for a tile

-- it gives work: a block or a Clear whose box meets the tile, or a write of a shared texture
abbrev pub works_on : Layout → ℕ → ClientContext → Effect → Bool
works_on l tile x (eff.Block block) = draws_on l tile x (eff.Block block)
works_on l tile x (eff.Clear mask) = draws_on l tile x (eff.Clear mask)
works_on l tile x (eff.Shared part) = true
works_on l tile x eff.Quiet = false
works_on l tile x (eff.Refused fault) = false
works_on l tile x (eff.Sync op) = false

missed : BoxesHold → (l : Layout) (tile : ℕ) (s : State) (effect : Effect) (px py : ℕ) → meets_tile l s effect tile ≡ false → tile_pixels l tile px py ≡ true
    → touches s effect (pos px) (pos py) ≡ false
missed box l tile s effect px py none has = elim (cases_Bool (touches s effect (pos px) (pos py))) [
  | inl t ↦ absurd (true≢false (sym (box l s effect tile px py has t) ∙ none))
  | inr f ↦ f
]

-- no pixel of the tile changes
pixel_stays : BoxesHold → (l : Layout) (tile : ℕ) (x : ClientContext) (effect : Effect) (shareds : ℕ → Picture) (px py : ℕ) (old : Pixel) → works_on l tile x effect ≡ false
    → tile_pixels l tile px py ≡ true → effect_step x.state (private_image x) shareds effect (pos px) (pos py) old ≡ old
pixel_stays box l tile x (eff.Block b) shareds px py old none has =
    untouched_stays x.state (private_image x) shareds (eff.Block b) (pos px) (pos py) old (missed box l tile x.state (eff.Block b) px py none has)
pixel_stays box l tile x (eff.Clear m) shareds px py old none has =
    untouched_stays x.state (private_image x) shareds (eff.Clear m) (pos px) (pos py) old (missed box l tile x.state (eff.Clear m) px py none has)
pixel_stays box l tile x (eff.Shared p) shareds px py old none has = absurd (true≢false none)
pixel_stays box l tile x eff.Quiet shareds px py old none has = refl
pixel_stays box l tile x (eff.Refused f) shareds px py old none has = refl
pixel_stays box l tile x (eff.Sync op) shareds px py old none has = refl

-- nor a shared texture
textures_stay : (l : Layout) (tile : ℕ) (x : ClientContext) (effect : Effect) (sizes : List (List ℕ)) (shared : SharedTexels) → works_on l tile x effect ≡ false → stored sizes effect shared ≡ shared
textures_stay l tile x (eff.Block b) sizes shared none = refl
textures_stay l tile x (eff.Clear m) sizes shared none = refl
textures_stay l tile x (eff.Shared p) sizes shared none = absurd (true≢false none)
textures_stay l tile x eff.Quiet sizes shared none = refl
textures_stay l tile x (eff.Refused f) sizes shared none = refl
textures_stay l tile x (eff.Sync op) sizes shared none = refl

-- a name that gives the tile no work
abbrev pub IsIdle : Scene → Layout → ℕ → Name → Type 0
IsIdle scene l tile n = works_on l tile (context_after scene n.client n.place) (effect_at scene n.client n.place) ≡ false

canvas_is : (c d : Canvas SharedTexels Pixel) → c.shared ≡ d.shared → c.pixel ≡ d.pixel → c ≡ d
canvas_is c d e f = λ i. record { shared = e i; pixel = f i }

-- one name is carried out at a pixel, with whatever is shown
abbrev pub paint : Scene → (Name → Bool) → ℕ → ℕ → Canvas SharedTexels Pixel → Name → Canvas SharedTexels Pixel
paint scene shown x y = canvas_step (textures_step scene) (λ n shared old. pixel_step scene n shared (pos x) (pos y) old) shown

pub idle_textures : (scene : Scene) (l : Layout) (tile : ℕ) (n : Name) (shared : SharedTexels) → IsIdle scene l tile n → textures_step scene shared n ≡ shared
unfolding textures_step
idle_textures scene l tile n shared idle = textures_stay l tile (context_after scene n.client n.place) (effect_at scene n.client n.place) scene.decl.shared shared idle

idle_pixel : BoxesHold → (scene : Scene) (l : Layout) (tile : ℕ) (n : Name) (shared : SharedTexels) (x y : ℕ) (old : Pixel) → IsIdle scene l tile n → tile_pixels l tile x y ≡ true
    → pixel_step scene n shared (pos x) (pos y) old ≡ old
unfolding pixel_step
idle_pixel box scene l tile n shared x y old idle has =
    pixel_stays box l tile (context_after scene n.client n.place) (effect_at scene n.client n.place) (shared_picture scene.decl.shared shared) x y old idle has

pub idle_paint : BoxesHold → (scene : Scene) (l : Layout) (tile : ℕ) (shown : Name → Bool) (n : Name) (x y : ℕ) (c : Canvas SharedTexels Pixel) → IsIdle scene l tile n
    → tile_pixels l tile x y ≡ true → paint scene shown x y c n ≡ c
unfolding canvas_step
idle_paint box scene l tile shown n x y c idle has =
    canvas_is (paint scene shown x y c n) c (idle_textures scene l tile n c.shared idle) (elim (cases_Bool (shown n)) [
      | inl t ↦ rw t (idle_pixel box scene l tile n c.shared x y c.pixel idle has)
      | inr f ↦ rw f refl
    ])

-- ---- names that gave no parcel

no_work : (l : Layout) (tile : ℕ) (values : ℕ → ElementValue) (x : ClientContext) (n : ℕ) (effect : Effect) → parcel_of l tile values x n effect ≡ [] → works_on l tile x effect ≡ false
no_work l tile values x n (eff.Block b) e = elim (cases_Bool (draws_on l tile x (eff.Block b))) [ inl t ↦ absurd (cc (rw t at e)) | inr f ↦ f ]
no_work l tile values x n (eff.Clear m) e = elim (cases_Bool (draws_on l tile x (eff.Clear m))) [ inl t ↦ absurd (cc (rw t at e)) | inr f ↦ f ]
no_work l tile values x n (eff.Shared p) e = absurd cc
no_work l tile values x n (eff.Sync op) e = absurd cc
no_work l tile values x n eff.Quiet e = refl
no_work l tile values x n (eff.Refused f) e = refl

pub names_change_nothing : BoxesHold → (scene : Scene) (l : Layout) (tile : ℕ) (names : List Name) (shown : Name → Bool) (x y : ℕ) (c : Canvas SharedTexels Pixel)
    → AllByRecursion (GivesNothing scene l tile) names → tile_pixels l tile x y ≡ true
    → canvas_after (textures_step scene) (λ n shared old. pixel_step scene n shared (pos x) (pos y) old) shown c names ≡ c
names_change_nothing box scene l tile [] shown x y c none has = refl
names_change_nothing box scene l tile (n ∷ names) shown x y c none has =
    let values = told scene.decl (parcels_before scene l n.client tile n.place) in
    let idle : IsIdle scene l tile n = no_work l tile values (context_after scene n.client n.place) n.place (effect_at scene n.client n.place) none.0 in
    ap (λ d. fold (paint scene shown x y) d names) (idle_paint box scene l tile shown n x y c idle has)
    ∙ names_change_nothing box scene l tile names shown x y c none.1 has

-- ---- many names that change nothing, whatever is folded

abbrev pub Stays : {S : Type 0} → (S → Name → S) → ℕ → ℕ → ℕ → Type 0
Stays f client low high = (k : ℕ) → low ≤ k → k < high → (d : _) → f d (record { client = client; place = k }) ≡ d

pub stays_names : {S : Type 0} (f : S → Name → S) (client a n : ℕ) (c : S) → Stays f client a (a + n) → fold f c (names_from client a n) ≡ c
stays_names f client a zero c still = refl
stays_names f client a (suc n) c still =
    ap (λ d. fold f d (names_from client (a + 1) n)) (still a (omega arith) (omega arith) c)
    ∙ stays_names f client (a + 1) n c (λ k low high. still k (omega arith) (omega arith))

pub stays_spread : {S : Type 0} (f : S → Name → S) (meant : ℕ → Bool) (places cursor : ℕ → ℕ) (n : ℕ) (c : S)
    → ((d : ℕ) → meant d ≡ true → Stays f d (cursor d) (places d)) → fold f c (spread meant places cursor n) ≡ c
stays_spread f meant places cursor zero c still = refl
stays_spread f meant places cursor (suc n) c still =
    fold-append f c (spread meant places cursor n) (cond (meant n) (names_from n (cursor n) (places n - cursor n)) [])
    ∙ ap (λ d. fold f d (cond (meant n) (names_from n (cursor n) (places n - cursor n)) [])) (stays_spread f meant places cursor n c still)
    ∙ elim (cases_Bool (meant n)) [
      | inl t ↦ rw t (stays_names f n (cursor n) (places n - cursor n) c (λ k low high. still n t k low (omega arith)))
      | inr g ↦ rw g refl
    ]
