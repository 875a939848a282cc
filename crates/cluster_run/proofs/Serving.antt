-- Serving, again and again, and to the end.
use Rattle.std.proofs.Common.{◌≡◌, ℕ, ◌<◌, ◌≤◌, false, List, [], ◌∷◌, ◌++◌, length, inl, inr, refl, sym, ap, ◌∙◌, subst, arith}
use Rattle.std.specs.Prelude.{Option, slice_index_or}
use Rattle.rc_base.specs.Cluster.Lanes.{EachLane}
use Rattle.rc_base.specs.Cluster.Tiles.{tile_count}
use Rattle.rc_base.specs.Outside.Ends.{use_of, Used}
use Rattle.rc_base.specs.declared.cluster.TilePart.{TilePart}
use Rattle.rc_base.specs.declared.window.Layout.{Layout}
use Rattle.rc_base.proofs.Known.{Appends-none}
use Rattle.rc_base.proofs.Paired.{some_item}
use Rattle.assembler.specs.Assembled.{layout_of, short_of}
use Rattle.frame_out.specs.Laws.{NewWritersAreOnTheWay}
use Rattle.frame_out.specs.OnTheWay.{GivesOne, GoesOn, IsMissing, IsNewWriter, IsOnTheWay}
use Rattle.frame_out.specs.declared.on_the_way.FrameWriter.{FrameWriter}
use Rattle.tile_queues.specs.Grids.{AreJoined}
use Rattle.tile_queues.specs.Names.{AreOutOf}
use Rattle.tile_queues.specs.Ends.{sent_in, sent_of, taken_in, taken_of, rest_of}
use Rattle.tile_queues.specs.declared.ends.LaneIn.{LaneIn}
use Rattle.tile_queues.specs.declared.ends.LaneOut.{LaneOut}
use Rattle.tile_queues.specs.declared.ends.Rest.{Rest}
use Rattle.rc_base.specs.Lists.{ArePaired, IsFront}
use Rattle.shown_frames.specs.Images.{GaveShown}
use Rattle.cluster_run.specs.NewWorkers.{AreUntaken}
use Rattle.cluster_run.specs.Serving.{HasFinished, HasServed, IsServed, IsSince, shown_in_lanes}
use Rattle.cluster_run.specs.declared.on_the_way.OnTheWay.{OnTheWay}
use Rattle.cluster_run.proofs.ClosedCrews.{shown_at}
use Rattle.cluster_run.proofs.Named.{out_goes_on}

module _ {I K A : Type 0} (fixed : I → A) (taken : I → List TilePart) (held : K → Option (List ℕ)) (faults : K → ℕ) where
  pub unserved : (w : FrameWriter) (lanes : List I) (image : K) → HasServed fixed taken held faults w lanes image w lanes image
  unserved w lanes image = record {
    layout = refl;
    same = record { count = refl; at = λ i d low. refl };
    goes_on = λ l start d h. h;
    later = omega arith;
  }

  pub served_again : (a : FrameWriter) (xs : List I) (x : K) (b : FrameWriter) (ys : List I) (y : K) (c : FrameWriter) (zs : List I) (z : K)
      → HasServed fixed taken held faults a xs x b ys y → HasServed fixed taken held faults b ys y c zs z → HasServed fixed taken held faults a xs x c zs z
  served_again a xs x b ys y c zs z f g = record {
    layout = g.layout ∙ f.layout;
    same = record {
      count = g.same.count ∙ f.same.count;
      at = λ i d low. g.same.at i d (let n = f.same.count in omega (arith, low, n)) ∙ f.same.at i d low;
    };
    goes_on = λ l start d h. g.goes_on l start d (f.goes_on l start d h);
    later = let m = f.later in let n = g.later in omega (arith, m, n);
  }

-- ---- one turn

module _ {R K : Type 0} (held : K → Option (List ℕ)) (faults : K → ℕ) (w w' : FrameWriter) (image image' : K)
    (layout : layout_of w'.parts ≡ layout_of w.parts) (later : faults image ≤ faults image') where
  abbrev Gave : Rest TilePart R → TilePart → Rest TilePart R → Type 0
  Gave a x b = (taken_in b ≡ taken_in a ++ x ∷ []) × (sent_in b ≡ sent_in a)

  abbrev Same : Rest TilePart R → Rest TilePart R → Type 0
  Same a b = (taken_in b ≡ taken_in a) × (sent_in b ≡ sent_in a)

  sent_stays : (a b : Rest TilePart R) → GivesOne Gave Same a b → sent_in b ≡ sent_in a
  sent_stays a b (inl h) = h.1
  sent_stays a b (inr h) = h.1.1

  -- with what is left of lanes
  pub rests_served : (xs ys : List (Rest TilePart R)) → EachLane (λ i a b. GivesOne Gave Same a b) xs ys
      → GoesOn Gave Same (use_of held faults) w xs image w' ys image' → HasServed sent_in taken_in held faults w xs image w' ys image'
  rests_served xs ys each on = record {
    layout = layout;
    same = record { count = each.count; at = λ i d low. sent_stays (slice_index_or xs i d) (slice_index_or ys i d) (each.at i d low) };
    goes_on = λ l start d h. on taken_in l start d (record { grows = λ a b x e. e.0; stays = λ a b e. e.0 }) h;
    later = later;
  }

-- ---- what was given

-- what was taken of tiles that aren't there doesn't count
pub same_took : (l : Layout) (image : Used) (took took' : ℕ → List TilePart) (w : FrameWriter) → ((tile : ℕ) → tile < tile_count l → took' tile ≡ took tile)
    → IsOnTheWay l image took w → IsOnTheWay l image took' w
same_took l image took took' w same h = record {
  layout_is = h.layout_is;
  given = record {
    frames = h.given.frames;
    sizes = h.given.sizes;
    fronts = λ tile low. let front = h.given.fronts tile low in (front.0, same tile low ∙ front.1);
    given = h.given.given;
  };
  whole = λ ample. let x = h.whole ample in record {
    frames = x.frames;
    sizes = x.sizes;
    took_is = λ tile low. same tile low ∙ x.took_is tile low;
    given = x.given;
    written = x.written;
  };
}

-- ---- the end

module _ {R K : Type 0} (held : K → Option (List ℕ)) (faults : K → ℕ) (l : Layout) (start : K) (w : FrameWriter)
    (lanes : List (LaneOut TilePart R)) (parts : List (LaneIn TilePart R)) (some : 0 < length parts) (paired : length lanes ≡ length parts)
    (room : length lanes ≡ tile_count (layout_of w.parts)) where
  a_lane : LaneOut TilePart R
  a_lane = some_item lanes 0 (omega (arith, some, paired))

  module _ (image : K) (on : (d : LaneOut TilePart R) → IsOnTheWay l (use_of held faults start image) (λ tile. taken_of (slice_index_or lanes tile d)) w) where
    -- the lanes are closed, and no more is taken of them
    pub gave_shown_now : ArePaired (λ i a b. IsFront (taken_of b) (sent_of a)) parts lanes → GaveShown l (shown_in_lanes parts) (use_of held faults start image)
    gave_shown_now fronts = record {
      took = λ tile. taken_of (slice_index_or lanes tile a_lane);
      written = w.written;
      given = (on a_lane).given;
      fronts = λ tile lt.
          let here : tile < length parts = (let n = ap tile_count (on a_lane).layout_is in omega (arith, lt, n, room, paired)) in
          let a = some_item parts 0 some in
          subst (λ (ps : List TilePart). IsFront (taken_of (slice_index_or lanes tile a_lane)) ps) (sym (shown_at parts tile a here)) (fronts.at tile a a_lane here);
    }

    module _ (rests rests' : List (Rest TilePart R)) (joined : AreJoined parts lanes rests) (w' : FrameWriter) (image' : K)
        (served : HasServed sent_in taken_in held faults w rests image w' rests' image') where
      tiles : tile_count l ≡ length parts
      tiles = sym (ap tile_count (on a_lane).layout_is) ∙ sym room ∙ paired

      a_rest : Rest TilePart R
      a_rest = some_item rests' 0 (let n = served.same.count in let m = joined.count in omega (arith, some, n, m))

      took_first : (tile : ℕ) → tile < tile_count l → taken_in (slice_index_or rests tile a_rest) ≡ taken_of (slice_index_or lanes tile a_lane)
      took_first tile low = (joined.at tile (some_item parts 0 some) a_lane a_rest (omega (arith, low, tiles))).taken

      on_now : IsOnTheWay l (use_of held faults start image') (λ tile. taken_in (slice_index_or rests' tile a_rest)) w'
      on_now = served.goes_on l start a_rest
          (same_took l _ (λ tile. taken_of (slice_index_or lanes tile a_lane)) (λ tile. taken_in (slice_index_or rests tile a_rest)) w took_first (on a_lane))

      -- what was sent by a tile's lane
      sent_is : (tile : ℕ) → tile < tile_count l → sent_in (slice_index_or rests' tile a_rest) ≡ shown_in_lanes parts tile
      sent_is tile low =
          let here : tile < length parts = omega (arith, low, tiles) in
          let a = some_item parts 0 some in
          served.same.at tile a_rest (let n = joined.count in omega (arith, here, n))
          ∙ (joined.at tile a a_lane a_rest here).sent
          ∙ sym (shown_at parts tile a here)

      pub gave_shown : GaveShown l (shown_in_lanes parts) (use_of held faults start image')
      gave_shown = record {
        took = λ tile. taken_in (slice_index_or rests' tile a_rest);
        written = w'.written;
        given = on_now.given;
        fronts = λ tile lt. (rest_of (slice_index_or rests' tile a_rest), sym (sent_is tile lt) ∙ (slice_index_or rests' tile a_rest).ordered);
      }

      pub finished : short_of w'.parts ≡ false → IsMissing (λ r. taken_in r ≡ sent_in r) w' rests'
          → HasFinished l (shown_in_lanes parts) (use_of held faults start image') w'.written
      finished ample missing =
          let low : missing.tile < tile_count l = subst (λ (x : Layout). missing.tile < tile_count x) on_now.layout_is missing.low in
          record {
            writer = w';
            took = λ tile. taken_in (slice_index_or rests' tile a_rest);
            has = on_now.whole ample;
            fronts = λ tile lt. (rest_of (slice_index_or rests' tile a_rest), sym (sent_is tile lt) ∙ (slice_index_or rests' tile a_rest).ordered);
            tile = missing.tile;
            low = low;
            missing = missing.place;
            all = missing.empty a_rest ∙ sent_is missing.tile low;
            is = refl;
          }

-- ---- the beginning

module _ {K : Type 0} (held : K → Option (List ℕ)) (faults : K → ℕ) (l : Layout) where
  module _ {R : Type 0} (first : NewWritersAreOnTheWay) (image : K) (frames : OnTheWay R) (new : IsNewWriter l frames.writer) (names : ℕ → List ℕ)
      (parts : List (LaneOut TilePart R)) (lanes : frames.lanes.items ≡ parts) (untaken : AreUntaken (tile_count l) names parts) where
    -- a new writer, since now
    since_now : IsSince held faults l image frames image
    since_now d =
        first l _ (λ tile. taken_of (slice_index_or frames.lanes.items tile d)) frames.writer new (Appends-none (held image)) refl
        (λ tile low. ap (λ (xs : List (LaneOut TilePart R)). taken_of (slice_index_or xs tile d)) lanes ∙ untaken.nothing tile d low)

    module _ (frames' : OnTheWay R) (image' : K) (served : IsServed held faults frames image frames' image') where
      pub since_then : IsSince held faults l image frames' image'
      since_then d = served.goes_on l image d (since_now d)

      pub out_still : AreOutOf (tile_count l) names frames'.lanes.items
      out_still = out_goes_on (tile_count l) names frames.lanes.items frames'.lanes.items
          (subst (λ (xs : List (LaneOut TilePart R)). AreOutOf (tile_count l) names xs) (sym lanes) untaken.named) served.same
