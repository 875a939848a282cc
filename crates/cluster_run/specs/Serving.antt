-- What becomes of a writer of frames, of lanes of parts and of an image, while the writer takes parts.
use Rattle.std.specs.Prelude.{◌≡◌, ℕ, ◌<◌, ◌≤◌, ⊤, Bool, List, [], ◌∷◌, ◌++◌, Option, None, slice_get, slice_index_or}
use Rattle.std.specs.Option.{option_map_or}
use Rattle.rc_base.specs.Cluster.Lanes.{EachLane}
use Rattle.rc_base.specs.Cluster.Tiles.{tile_count}
use Rattle.rc_base.specs.Lists.{IsFront}
use Rattle.rc_base.specs.Outside.Ends.{use_of, Used}
use Rattle.rc_base.specs.declared.cluster.TilePart.{TilePart}
use Rattle.rc_base.specs.declared.window.Layout.{Layout}
use Rattle.assembler.specs.Assembled.{layout_of, places_of, Completes}
use Rattle.assembler.specs.Places.{in_place}
use Rattle.frame_out.specs.OnTheWay.{HasWritten, IsOnTheWay}
use Rattle.frame_out.specs.declared.on_the_way.FrameWriter.{FrameWriter}
use Rattle.frame_out.specs.declared.writing.Written.{Written}
use Rattle.tile_queues.specs.Ends.{empties_of, sent_in, sent_of, taken_in, taken_of, lane_out, Took, TookNone}
use Rattle.tile_queues.specs.declared.ends.LaneIn.{LaneIn}
use Rattle.tile_queues.specs.declared.ends.LaneOut.{LaneOut}
use Rattle.tile_queues.specs.declared.ends.Rest.{Rest}
use Rattle.worker_crew.specs.declared.crew.Crew.{Crew}
use Rattle.worker_crew.specs.declared.task.Task.{Task}
use Rattle.cluster_run.specs.declared.on_the_way.OnTheWay.{OnTheWay}
use Rattle.cluster_run.specs.declared.workers.ClientWorker.{ClientWorker}
use Rattle.cluster_run.specs.declared.workers.ManagerWorker.{ManagerWorker}
use Rattle.cluster_run.specs.declared.workers.TileWorker.{TileWorker}

module _ {I K A : Type 0} (fixed : I → A) (taken : I → List TilePart) (held : K → Option (List ℕ)) (faults : K → ℕ) where
  pub record HasServed (before : FrameWriter) (lanes : List I) (image : K) (after : FrameWriter) (lanes' : List I) (image' : K) : Type 0 where
    pub layout : layout_of after.parts ≡ layout_of before.parts
    -- this of each lane is as it was
    pub same : EachLane (λ i a b. fixed b ≡ fixed a) lanes lanes'
    -- whatever the image was given since some moment, it was given what was taken since
    pub goes_on : (l : Layout) (start : K) (d : I) → IsOnTheWay l (use_of held faults start image) (λ tile. taken (slice_index_or lanes tile d)) before
        → IsOnTheWay l (use_of held faults start image') (λ tile. taken (slice_index_or lanes' tile d)) after
    pub later : faults image ≤ faults image'

  -- whatever writer, lanes and image these are served ones of, they are still
  abbrev pub KeepsServed : FrameWriter → List I → K → FrameWriter → List I → K → Type 0
  KeepsServed before lanes image after lanes' image' =
      (w : FrameWriter) (first : List I) (start : K) → HasServed w first start before lanes image → HasServed w first start after lanes' image'

-- A turn has taken at most one part of each tile whose part of the next frame was missing, and tells whether that completed the frame: of what lanes held,
abbrev pub HasAdvanced : {R : Type 0} → FrameWriter → List (LaneOut TilePart R) → Bool → FrameWriter → List (LaneOut TilePart R) → Type 0
HasAdvanced {R} before lanes completed after lanes' =
    Completes (λ (a : LaneOut TilePart R) part b. Took a part b) (λ a b. TookNone a b) (λ a. empties_of a) (λ _. ⊤) before.parts lanes lanes' completed after.parts

-- and of what is left of them
abbrev pub HasAdvancedByRests : {R : Type 0} → FrameWriter → List (Rest TilePart R) → Bool → FrameWriter → List (Rest TilePart R) → Type 0
HasAdvancedByRests {R} before rests completed after rests' =
    Completes (λ (a : Rest TilePart R) part b. (taken_in b ≡ taken_in a ++ part ∷ []) × (sent_in b ≡ sent_in a))
    (λ a b. (taken_in b ≡ taken_in a) × (sent_in b ≡ sent_in a)) (λ a. a.empty_seen) (λ a. taken_in a ≡ sent_in a)
    before.parts rests rests' completed after.parts

-- what was sent by the tiles' lanes of parts
abbrev pub shown_in_lanes : {R : Type 0} → List (LaneIn TilePart R) → ℕ → List TilePart
shown_in_lanes {R} parts tile = option_map_or (λ (a : LaneIn TilePart R). sent_of a) (slice_get parts tile) []

-- and by those of the tiles' workers
abbrev pub shown_by_tasks : {R : Type 0} → Crew (Task (ClientWorker R)) (Task (ManagerWorker R)) (Task (TileWorker R)) → ℕ → List TilePart
shown_by_tasks {R} tasks tile = option_map_or (λ (task : Task (TileWorker R)). sent_of task.worker.parts) (slice_get tasks.tiles.items tile) []

-- ---- at the end

-- A writer was given fronts of the parts that tiles have shown, and of a tile whose part was missing then all of them.
pub record HasFinished (l : Layout) (shown : ℕ → List TilePart) (image : Used) (written : Written) : Type 0 where
  pub writer : FrameWriter
  pub took : ℕ → List TilePart
  pub has : HasWritten l image took writer
  pub fronts : (tile : ℕ) → tile < tile_count l → IsFront (took tile) (shown tile)
  pub tile : ℕ
  pub low : tile < tile_count l
  pub missing : in_place (places_of writer.parts) tile ≡ None
  pub all : took tile ≡ shown tile
  pub is : written ≡ writer.written

module _ {R K : Type 0} (held : K → Option (List ℕ)) (faults : K → ℕ) where
  -- the lanes are those of the tiles' parts
  abbrev pub IsServed : OnTheWay R → K → OnTheWay R → K → Type 0
  IsServed a image b image' = HasServed lane_out taken_of held faults a.writer a.lanes.items image b.writer b.lanes.items image'

  -- whatever frames and image they are served ones of, they are still
  abbrev pub StaysServed : OnTheWay R → K → OnTheWay R → K → Type 0
  StaysServed a image b image' = (frames : OnTheWay R) (start : K) → IsServed frames start a image → IsServed frames start b image'

  -- since a moment the image was given what was taken of the lanes since
  abbrev pub IsSince : Layout → K → OnTheWay R → K → Type 0
  IsSince l start frames image = (d : LaneOut TilePart R)
      → IsOnTheWay l (use_of held faults start image) (λ tile. taken_of (slice_index_or frames.lanes.items tile d)) frames.writer
