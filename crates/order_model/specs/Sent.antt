-- What each client of a scene gives to each tile, and the lawful records of a scene.
use Rattle.std.specs.Prelude.{ℕ, List, [], ◌∷◌}
use Rattle.std.specs.List.{flat_map}
use Rattle.rc_base.specs.Orders.Sync.{sync_lists_of}
use Rattle.rc_base.specs.Cluster.Tiles.{tile_count}
use Rattle.rc_base.specs.Cluster.Parcels.{parcels_of}
use Rattle.rc_base.specs.declared.scene.Scene.{Scene}
use Rattle.rc_base.specs.declared.window.Layout.{Layout}
use Rattle.rc_base.specs.declared.state.Act.{Act}
use Rattle.rc_base.specs.declared.state.Act.TheVariants as act
use Rattle.rc_base.specs.declared.state.Parcel.{Parcel}
use Rattle.order_model.specs.Log.{Job, IsLawfulRecord}
use Rattle.order_model.specs.Log.Job.{Work, Wait}
use Rattle.order_model.specs.declared.record.Record.{Record}

-- a parcel is work of its place or an operation there; End is neither
abbrev pub job_by : Act → ℕ → List Job
job_by (act.Draw block) place = Work place ∷ []
job_by (act.Clear mask) place = Work place ∷ []
job_by (act.Shared part) place = Work place ∷ []
job_by (act.Sync op) place = Wait place ∷ []
job_by act.End place = []

abbrev pub job_of : Parcel → List Job
job_of p = job_by p.act p.place

-- what a client gives to a tile: its parcels there
unfoldable pub jobs_of : Scene → Layout → ℕ → ℕ → List Job
jobs_of scene l client tile = flat_map job_of (parcels_of scene l client tile)

-- the record of a run of the scene on the tiles of the layout
abbrev pub IsRecordOf : Scene → Layout → Record → Type 0
IsRecordOf scene l kept = IsLawfulRecord (sync_lists_of scene) (tile_count l) (jobs_of scene l) kept
