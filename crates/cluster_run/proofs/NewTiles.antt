-- Tiles' workers, one more at a time.
use Rattle.std.proofs.Common.{ℕ, List, [], ◌∷◌, ◌++◌, length, subst}
use Rattle.std.specs.Prelude.{Vec}
use Rattle.std.specs.Global.{Global}
use Rattle.rc_base.proofs.Paired.{none_paired, paired_more}
use Rattle.rc_base.specs.declared.cluster.TilePart.{TilePart}
use Rattle.rc_base.specs.declared.scene.Scene.{Scene}
use Rattle.rc_base.specs.declared.state.Parcel.{Parcel}
use Rattle.rc_base.specs.declared.sync.Grant.{Grant}
use Rattle.rc_base.specs.declared.window.Layout.{Layout}
use Rattle.tile_queues.specs.declared.ends.LaneIn.{LaneIn}
use Rattle.tile_queues.specs.declared.ends.LaneOut.{LaneOut}
use Rattle.tile_queues.specs.Grids.{IsFresh}
use Rattle.cluster_run.specs.NewWorkers.{IsNewTile, AreNewTiles}
use Rattle.cluster_run.specs.declared.workers.TileWorker.{TileWorker}

module _ {R : Type 0} (scene : Scene) (l : Layout) (depth : ℕ) where
  pub no_tiles : AreNewTiles {R = R} scene l depth [] [] [] []
  no_tiles = record { workers_are = none_paired _; grants_are = none_paired _; parts_are = none_paired _ }

  pub one_more_tile : (columns : List (Vec (LaneOut Parcel R) Global)) (workers : List (TileWorker R)) (grants : List (LaneIn Grant R))
      (parts : List (LaneOut TilePart R)) (ends : Vec (LaneOut Parcel R) Global) (w : TileWorker R) (a : LaneIn Grant R) (b : LaneOut TilePart R)
      → AreNewTiles scene l depth columns workers grants parts → IsNewTile scene l (length workers) ends w → IsFresh depth a w.grants → IsFresh depth w.parts b
      → AreNewTiles scene l depth (columns ++ ends ∷ []) (workers ++ w ∷ []) (grants ++ a ∷ []) (parts ++ b ∷ [])
  one_more_tile columns workers grants parts ends w a b h new heard shown = record {
    workers_are = paired_more (λ tile ends w. IsNewTile scene l tile ends w) columns workers ends w h.workers_are
        (subst (λ n. IsNewTile scene l n ends w) h.workers_are.count new);
    grants_are = paired_more (λ tile w a. IsFresh depth a w.grants) workers grants w a h.grants_are heard;
    parts_are = paired_more (λ tile w b. IsFresh depth w.parts b) workers parts w b h.parts_are shown;
  }
