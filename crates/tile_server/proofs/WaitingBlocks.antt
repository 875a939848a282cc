-- What contracts see of a canvas on which blocks wait: where none waits, when one more does, and when the first is drawn.
use Rattle.std.proofs.Common.{◌≡◌, ℕ, ◌+◌, ◌<◌, ◌&&◌, Bool, true, List, [], ◌∷◌, ◌++◌, length, length-append, ◌-◌, Some, inl, inr, refl, sym, ap, ◌∙◌, subst, arith, ltb-true, leb-true, lt-ltb, ℤ, pos}
use Rattle.std.specs.Prelude.{nat_le, nat_lt, if◌then◌else◌, fold}
use Rattle.std.proofs.Math.Path.{fun_ext}
use Rattle.std.proofs.lemmas.Bool.{and_parts, cases_Bool}
use Rattle.std.proofs.lemmas.List.Sums.{fold-append}
use Rattle.std.proofs.lemmas.List.Folds.{list_all-append}
use Rattle.rc_base.specs.Cluster.Parcels.{effect_by}
use Rattle.rc_base.specs.Cluster.Tiles.{is_in_rect, tile_pixels, tile_rectangle}
use Rattle.rc_base.specs.Drawing.PixelStep.{effect_step}
use Rattle.rc_base.specs.Drawing.Serial.{blank_pixel}
use Rattle.rc_base.specs.Drawing.Texel.{SharedTexels, shared_picture}
use Rattle.rc_base.specs.declared.cluster.TilePart.{TilePart}
use Rattle.rc_base.specs.declared.scene.Decl.{Decl}
use Rattle.rc_base.specs.declared.state.Act.{Act}
use Rattle.rc_base.specs.declared.state.Parcel.{Parcel}
use Rattle.rc_base.specs.declared.window.Layout.{Layout}
use Rattle.rc_base.specs.declared.window.Pixel.{Pixel}
use Rattle.rc_base.specs.declared.window.Rect.{Rect}
use Rattle.draw_device.specs.Devices.{EachTakes, pixel_of}
use Rattle.order_model.specs.Board.{Kept, Board}
use Rattle.parcel_bytes.specs.Spelling.{parcel_bytes}
use Rattle.tile_model.specs.Boards.{IsCarriedOut, IsNewBoard}
use Rattle.tile_server.specs.Boards.{board_on, drawn_pixel, is_plain, kept_in, IsPartOf, IsSameTile, KeepsAll}
use Rattle.tile_server.specs.Waits.{are_plain, board_behind, has_room, pixel_behind, waiting_bytes, waiting_pixel, IsBounded}
use Rattle.tile_server.specs.Works.{texels_in}
use Rattle.tile_server.specs.declared.canvas.Canvas.{Canvas}
use Rattle.tile_server.specs.declared.waiting.WaitingBlock.{WaitingBlock}
use Rattle.tile_server.proofs.PlainBlocks.{kept_same, no_sets_made, plain_act, plain_sets, texels_same, unwritten}

-- ---- they are plain

abbrev is_right : ℕ → WaitingBlock → Bool
is_right n w = nat_lt w.client n && is_plain w.parcel

pub first_plain : (n : ℕ) (w : WaitingBlock) (ws : List WaitingBlock) → are_plain n (w ∷ ws) ≡ true → (w.client < n) × (is_plain w.parcel ≡ true) × (are_plain n ws ≡ true)
first_plain n w ws all =
    let both = and_parts (is_right n w) (are_plain n ws) all in
    let one = and_parts (nat_lt w.client n) (is_plain w.parcel) both.0 in
    (ltb-true w.client n one.0, one.1, both.1)

pub last_plain : (n : ℕ) (w : WaitingBlock) (ws : List WaitingBlock) → are_plain n ws ≡ true → w.client < n → is_plain w.parcel ≡ true → are_plain n (ws ++ w ∷ []) ≡ true
last_plain n w ws all low plain = list_all-append (is_right n) ws (w ∷ []) ∙ rw (all, lt-ltb w.client n low, plain) refl

-- ---- a pixel of the tile

module _ (c : Canvas) (ws : List WaitingBlock) (x y : ℤ) where
  shown : is_in_rect (tile_rectangle c.layout c.tile) x y ≡ true → pixel_behind c ws x y ≡ fold (waiting_pixel c x y) (pixel_of c.device x y) ws
  shown inside = rw inside refl

-- a pixel of the tile lies in its rectangle
in_rectangle : (c : Canvas) (x y : ℕ) → tile_pixels c.layout c.tile x y ≡ true → is_in_rect (tile_rectangle c.layout c.tile) (pos x) (pos y) ≡ true
in_rectangle c x y has = ap (λ (r : Rect). is_in_rect r (pos x) (pos y)) (sym c.place.rectangle) ∙ c.place.pixels x y ∙ has

-- ---- none waits

module _ (c : Canvas) where
  at_once : (x y : ℕ) → tile_pixels c.layout c.tile x y ≡ true → pixel_behind c [] (pos x) (pos y) ≡ pixel_of c.device (pos x) (pos y)
  at_once x y has = shown c [] (pos x) (pos y) (in_rectangle c x y has)

  pub new_behind : (d : Decl) (l : Layout) (tile : ℕ) → c.layout ≡ l → c.tile ≡ tile → IsNewBoard d l tile (board_on c) → IsNewBoard d l tile (board_behind c [])
  new_behind d l tile layout number new = record {
    state = new.state;
    image = new.image;
    shared = new.shared;
    pixel = λ x y has.
        at_once x y (subst (λ (m : Layout). tile_pixels m c.tile x y ≡ true) (sym layout) (subst (λ (n : ℕ). tile_pixels l n x y ≡ true) (sym number) has)) ∙ new.pixel x y has;
  }

  pub part_behind : (frame : ℕ) (part : TilePart) → IsPartOf c.layout c.tile frame (board_on c) part → IsPartOf c.layout c.tile frame (board_behind c []) part
  part_behind frame part h = record {
    tile = h.tile;
    frame = h.frame;
    count = h.count;
    pixel = λ x y has. h.pixel x y has ∙ ap (λ (p : Pixel). Some p) (sym (at_once x y has));
  }

module _ (c c' : Canvas) (same : IsSameTile c c') where
  pub carried_behind : (client : ℕ) (parcel : Parcel) → IsCarriedOut c.decl c.layout client c.tile parcel (board_on c) (board_on c')
      → IsCarriedOut c.decl c.layout client c.tile parcel (board_behind c []) (board_behind c' [])
  carried_behind client parcel h = record {
    kept = h.kept;
    others = h.others;
    shared = h.shared;
    pixel = λ x y has.
        at_once c' x y (subst (λ (m : Layout). tile_pixels m c'.tile x y ≡ true) (sym same.layout) (subst (λ (n : ℕ). tile_pixels c.layout n x y ≡ true) (sym same.tile) has))
        ∙ h.pixel x y has
        ∙ ap (λ (old : Pixel). effect_step (kept_in c' client).state (kept_in c' client).image (shared_picture c.decl.shared (texels_in c.shared)) (effect_by parcel.act) (pos x) (pos y) old)
        (sym (at_once c x y has));
  }

  -- what is seen of the board in the tile's rectangle
  abbrev masked : Layout → ℕ → Board → Board
  masked l tile b = record { kept = b.kept; shared = b.shared; pixel = λ x y. if is_in_rect (tile_rectangle l tile) x y then b.pixel x y else blank_pixel }

  pub same_behind : board_on c' ≡ board_on c → board_behind c' [] ≡ board_behind c []
  same_behind board =
      ap (λ (b : Board). masked c'.layout c'.tile b) board ∙ ap (λ (l : Layout). masked l c'.tile (board_on c)) same.layout ∙ ap (λ (n : ℕ). masked c.layout n (board_on c)) same.tile

-- ---- one more waits

pub last_waits : (c : Canvas) (ws : List WaitingBlock) (w : WaitingBlock) → is_plain w.parcel ≡ true
    → IsCarriedOut c.decl c.layout w.client c.tile w.parcel (board_behind c ws) (board_behind c (ws ++ w ∷ []))
last_waits c ws w plain = record {
  kept = no_sets_made w.parcel.sets (kept_in c w.client) (plain_sets w.parcel plain);
  others = λ other ne. refl;
  shared = λ name. sym (unwritten w.parcel.act (plain_act w.parcel plain) c.decl.shared (texels_in c.shared) name);
  pixel = λ x y has.
      let inside = in_rectangle c x y has in
      let step = waiting_pixel c (pos x) (pos y) in
      shown c (ws ++ w ∷ []) (pos x) (pos y) inside ∙ fold-append step (pixel_of c.device (pos x) (pos y)) ws (w ∷ [])
      ∙ ap (λ (old : Pixel). step old w) (sym (shown c ws (pos x) (pos y) inside));
}

-- ---- the first is drawn

module _ (c c' : Canvas) (keeps : KeepsAll c c') where
  pub same_tile : IsSameTile c c'
  same_tile = record { decl = keeps.decl; clients = ap length keeps.kept; layout = keeps.layout; tile = keeps.tile }

  drawn_same : (client : ℕ) (act : Act) (x y : ℤ) (old : Pixel) → drawn_pixel c' client act x y old ≡ drawn_pixel c client act x y old
  drawn_same client act x y old =
      ap (λ (f : ℕ → Kept). effect_step (f client).state (f client).image (shared_picture c'.decl.shared (texels_in c'.shared)) (effect_by act) x y old) (kept_same c c' keeps)
      ∙ ap (λ (d : Decl). effect_step (kept_in c client).state (kept_in c client).image (shared_picture d.shared (texels_in c'.shared)) (effect_by act) x y old) keeps.decl
      ∙ ap (λ (t : SharedTexels). effect_step (kept_in c client).state (kept_in c client).image (shared_picture c.decl.shared t) (effect_by act) x y old) (texels_same c c' keeps)

  all_same : (ws : List WaitingBlock) (x y : ℤ) (old : Pixel) → fold (waiting_pixel c' x y) old ws ≡ fold (waiting_pixel c x y) old ws
  all_same [] x y old = refl
  all_same (w ∷ ws) x y old =
      ap (λ (p : Pixel). fold (waiting_pixel c' x y) p ws) (drawn_same w.client w.parcel.act x y old) ∙ all_same ws x y (drawn_pixel c w.client w.parcel.act x y old)

  module _ (w : WaitingBlock) (ws : List WaitingBlock) (drawn : EachTakes (drawn_pixel c w.client w.parcel.act) c.device c'.device) where
    pixel_same : (x y : ℤ) → pixel_behind c' ws x y ≡ pixel_behind c (w ∷ ws) x y
    pixel_same x y =
        ap (λ (l : Layout). if is_in_rect (tile_rectangle l c'.tile) x y then fold (waiting_pixel c' x y) (pixel_of c'.device x y) ws else blank_pixel) keeps.layout
        ∙ ap (λ (n : ℕ). if is_in_rect (tile_rectangle c.layout n) x y then fold (waiting_pixel c' x y) (pixel_of c'.device x y) ws else blank_pixel) keeps.tile
        ∙ elim (cases_Bool (is_in_rect (tile_rectangle c.layout c.tile) x y)) [
          | inl inside ↦ rw inside
              (all_same ws x y (pixel_of c'.device x y)
              ∙ ap (λ (p : Pixel). fold (waiting_pixel c x y) p ws) (drawn x y (ap (λ (r : Rect). is_in_rect r x y) c.place.rectangle ∙ inside)))
          | inr beside ↦ rw beside refl
        ]

    pub first_drawn : board_behind c' ws ≡ board_behind c (w ∷ ws)
    first_drawn =
        ap (λ (f : ℕ → Kept). let b : Board = record { kept = f; shared = texels_in c'.shared; pixel = pixel_behind c' ws } in b) (kept_same c c' keeps)
        ∙ ap (λ (t : SharedTexels). let b : Board = record { kept = kept_in c; shared = t; pixel = pixel_behind c' ws } in b) (texels_same c c' keeps)
        ∙ ap (λ (f : ℤ → ℤ → Pixel). let b : Board = record { kept = kept_in c; shared = texels_in c.shared; pixel = f } in b) (fun_ext (λ x. fun_ext (λ y. pixel_same x y)))

-- ---- how many wait, and how many bytes

pub bytes_last : (ws : List WaitingBlock) (w : WaitingBlock) → waiting_bytes (ws ++ w ∷ []) ≡ waiting_bytes ws + length (parcel_bytes w.parcel)
bytes_last [] w = omega arith
bytes_last (v ∷ ws) w = omega (arith, bytes_last ws w)

pub bounded_last : (capacity later bytes size : ℕ) (ws wss : List WaitingBlock) (w : WaitingBlock) → IsBounded capacity bytes ws
    → has_room ws (length (parcel_bytes w.parcel)) ≡ true → later ≡ capacity → size ≡ length (parcel_bytes w.parcel) → wss ≡ ws ++ w ∷ [] → IsBounded later (bytes + size) wss
bounded_last capacity later bytes size ws wss w b room same size_is is =
    let n = length (parcel_bytes w.parcel) in
    let both = and_parts (nat_lt (length ws) 1024) (nat_le n (1048576 - waiting_bytes ws)) room in
    let few = ltb-true (length ws) 1024 both.0 in
    let small = leb-true n (1048576 - waiting_bytes ws) both.1 in
    subst (IsBounded later (bytes + size)) (sym is) (record {
      room = omega (arith, b.room, same);
      few = omega (arith, few, length-append ws (w ∷ []));
      bytes_are = omega (arith, b.bytes_are, bytes_last ws w, size_is);
      small = omega (arith, b.bytes_are, b.small, small, size_is);
    })
