-- A turn of an actor that saw its lanes as they stand, whenever it looked at each, is a turn of one that sees them all in one moment.
use Rattle.std.proofs.Common.{◌≡◌, ◌⊎◌, ◌<◌, ℕ, true, false, List, length, Option, Some, None, inl, inr, sym, ap, ◌∙◌}
use Rattle.std.specs.Prelude.{Ok, Err}
use Rattle.rc_base.specs.Cluster.Tiles.{tile_count}
use Rattle.rc_base.specs.declared.cluster.ClientMoved.{ClientMoved}
use Rattle.rc_base.specs.declared.cluster.ClientMoved.TheVariants as client_moved
use Rattle.rc_base.specs.declared.cluster.TilePart.{TilePart}
use Rattle.rc_base.specs.declared.scene.Scene.{Scene}
use Rattle.rc_base.specs.declared.window.Layout.{Layout}
use Rattle.world_model.specs.Moves.{IsClientStepSeeing, IsClientStep, IsTileMoveSeeing, IsTileMove}
use Rattle.world_model.specs.Threaded.{ThreadedWorld, ThreadedTurn, Steps, HandsOver, Collects, SeenLanes, lane_of, IsPut, IsThreadedTurnSeeing, IsThreadedTurn}
use Rattle.world_model.specs.Turns.{Turn, IsShortTileMoveSeeing, IsShortTileMove, IsTurnSeeing, IsTurn}
use Rattle.world_model.specs.Turns.Turn.{ClientTurn, ManagerTurn, TileTurn}
use Rattle.world_model.specs.World.{World, Lanes, client_total}
use Rattle.world_model.specs.declared.moves.TileAnswer.{TileAnswer}
use Rattle.world_model.proofs.RestingRounds.{exists}

module _ (scene : Scene) (l : Layout) where
  -- they were seen as they stand in this world
  pub record AreLanesOf (w : World) (seen : Lanes) : Type 0 where
    pub parcels : (client tile : ℕ) → client < client_total scene → tile < tile_count l → seen.parcels client tile ≡ w.parcels client tile
    pub requests : (client : ℕ) → client < client_total scene → seen.requests client ≡ w.requests client
    pub grants : (tile : ℕ) → tile < tile_count l → seen.grants tile ≡ w.grants tile

  pub record AreAllLanesOf (w : ThreadedWorld) (seen : SeenLanes) : Type 0 where
    pub cluster : AreLanesOf w.cluster seen.cluster
    pub parts : (tile : ℕ) → tile < tile_count l → seen.parts tile ≡ lane_of w tile

module _ (scene : Scene) (l : Layout) (depth : ℕ) where
  -- ---- of the stepped cluster

  module _ (w v : World) (seen : Lanes) (same : AreLanesOf scene l w seen) where
    client_step : (client : ℕ) (answer : ClientMoved) → client < client_total scene → IsClientStepSeeing scene l depth w seen client answer v → IsClientStep scene l depth w client answer v
    client_step client (client_moved.Appended tile) lc m = m
    client_step client client_moved.Requested lc m = m
    client_step client (client_moved.BlockedTile tile) lc m = record {
      low = m.low;
      parcel = m.parcel;
      rest = m.rest;
      next = m.next;
      full = ap length (sym (same.parcels client tile lc m.low)) ∙ m.full;
      idle = m.idle;
    }
    client_step client client_moved.BlockedRequest lc m = record {
      request = m.request;
      rest = m.rest;
      next = m.next;
      full = ap length (sym (same.requests client lc)) ∙ m.full;
      idle = m.idle;
    }
    client_step client client_moved.Ended lc m = m

    tile_move : (tile : ℕ) (answer : TileAnswer) → IsTileMoveSeeing scene l depth w seen tile answer v → IsTileMove scene l depth w tile answer v
    tile_move tile answer m = record {
      low = m.low;
      item = m.item;
      answered = m.answered;
      step = m.step;
      parcel = m.parcel;
      no_parcel = λ client lc finds. sym (same.parcels client tile lc m.low) ∙ m.no_parcel client lc finds;
      grant = m.grant;
      no_grant = λ finds. sym (same.grants tile m.low) ∙ m.no_grant finds;
      only = m.only;
    }

    short_move : (tile : ℕ) (answer : TileAnswer) → IsShortTileMoveSeeing scene l depth w seen tile answer v → IsShortTileMove scene l depth w tile answer v
    short_move tile answer m = record {
      low = m.low;
      short = m.short;
      still_short = m.still_short;
      item = m.item;
      answered = m.answered;
      awaited = m.awaited;
      progress = m.progress;
      next = m.next;
      board = m.board;
      parts = m.parts;
      parcel = m.parcel;
      no_parcel = λ client lc finds. sym (same.parcels client tile lc m.low) ∙ m.no_parcel client lc finds;
      grant = m.grant;
      no_grant = λ finds. sym (same.grants tile m.low) ∙ m.no_grant finds;
      only = m.only;
    }

    pub turn_as_seen : (turn : Turn) → IsTurnSeeing scene l depth w seen turn v → IsTurn scene l depth w turn v
    turn_as_seen (ClientTurn client (Ok answer)) m = record {
      step = record { low = m.step.low; step = client_step client answer m.step.low m.step.step; short = m.step.short; only = m.step.only };
      fit = m.fit;
    }
    turn_as_seen (ClientTurn client (Err error)) m = record { step = m.step; fit = m.fit }
    turn_as_seen (ManagerTurn answer) m = record {
      step = record {
        deed = m.step.deed;
        answered = m.step.answered;
        next = m.step.next;
        manager = m.step.manager;
        taken = m.step.taken;
        empty = λ client lc finds. sym (same.requests client lc) ∙ m.step.empty client lc finds;
        sent = m.step.sent;
        full = λ tile lt finds. ap length (sym (same.grants tile lt)) ∙ m.step.full tile lt finds;
        only = m.step.only;
      };
      fit = m.fit;
    }
    turn_as_seen (TileTurn tile (Ok answer)) m = record { step = by m.step; fit = m.fit }
      where
        by : IsTileMoveSeeing scene l depth w seen tile answer v ⊎ IsShortTileMoveSeeing scene l depth w seen tile answer v
            → IsTileMove scene l depth w tile answer v ⊎ IsShortTileMove scene l depth w tile answer v
        by (inl k) = inl (tile_move tile answer k)
        by (inr k) = inr (short_move tile answer k)
    turn_as_seen (TileTurn tile (Err error)) m = record { step = m.step; fit = m.fit }

  -- ---- with lanes of parts

  put_as_seen : (offered : Option TilePart) (lane seen later : List TilePart) (handing : Option TilePart) → seen ≡ lane → IsPut depth offered lane seen later handing
      → IsPut depth offered lane lane later handing
  put_as_seen None lane seen later handing same h = h
  put_as_seen (Some part) lane seen later handing same (inl s) = inl s
  put_as_seen (Some part) lane seen later handing same (inr k) = inr record { full = ap length (sym same) ∙ k.full; same = k.same; waits = k.waits }

  module _ (w v : ThreadedWorld) (seen : SeenLanes) (same : AreAllLanesOf scene l w seen) where
    pub as_seen : (turn : ThreadedTurn) → IsThreadedTurnSeeing scene l depth w seen turn v → IsThreadedTurn scene l depth w turn v
    as_seen (Steps (ClientTurn client answer)) m = record {
      step = turn_as_seen w.cluster v.cluster seen.cluster same.cluster (ClientTurn client answer) m.step;
      parts = m.parts;
    }
    as_seen (Steps (ManagerTurn answer)) m = record { step = turn_as_seen w.cluster v.cluster seen.cluster same.cluster (ManagerTurn answer) m.step; parts = m.parts }
    as_seen (Steps (TileTurn tile answer)) m =
        let lt = exists scene l depth w.cluster v.cluster seen.cluster (TileTurn tile answer) m.step in
        record {
          free = m.free;
          step = turn_as_seen w.cluster v.cluster seen.cluster same.cluster (TileTurn tile answer) m.step;
          offered = m.offered;
          offers = m.offers;
          put = put_as_seen m.offered (lane_of w tile) (seen.parts tile) (lane_of v tile) (v.handing tile) (same.parts tile lt) m.put;
          only = m.only;
        }
    as_seen (HandsOver tile true) m = record { low = m.low; cluster = m.cluster; part = m.part; waits = m.waits; put = m.put; only = m.only }
    as_seen (HandsOver tile false) m = record {
      low = m.low;
      cluster = m.cluster;
      part = m.part;
      waits = m.waits;
      put = record { full = ap length (sym (same.parts tile m.low)) ∙ m.put.full; same = m.put.same; waits = m.put.waits };
      only = m.only;
    }
    as_seen (Collects moved frame) m = record {
      cluster = m.cluster;
      handing = m.handing;
      count = m.count;
      step = m.step;
      empty = λ tile lt asked kept. sym (same.parts tile lt) ∙ m.empty tile lt asked kept;
      idle = m.idle;
      moves = m.moves;
    }
