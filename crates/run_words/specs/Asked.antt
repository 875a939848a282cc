-- The quantities of what words ask for, in the window of a scene, and what is known of a scene by where it comes from.
use Rattle.std.specs.Prelude.{◌≡◌, ℕ, List, Option, Some, None}
use Rattle.std.specs.List.{AllByRecursion}
use Rattle.std.specs.Option.{option_or}
use Rattle.rc_base.specs.declared.scene.Limit.{Limit}
use Rattle.rc_base.specs.declared.scene.Scene.{Scene}
use Rattle.rc_base.specs.declared.window.Layout.{Layout}
use Rattle.rc_base.specs.Formats.Commands.{IsCommand}
use Rattle.rc_base.specs.Formats.Limits.{Quantity, layout_quantities, first_outside, held_limit, size_limit}
use Rattle.rc_base.specs.Formats.Spelling.{IsDecl, IsVersion}
use Rattle.scene_file.specs.Generator.{generated_scene}
use Rattle.scene_file.specs.Written.{AreWhole}
use Rattle.run_words.specs.declared.job.Cluster.{Cluster}
use Rattle.run_words.specs.declared.job.Job.{Job}
use Rattle.run_words.specs.declared.job.Job.TheVariants.{Simulate, Serial, Last}
use Rattle.run_words.specs.declared.job.Form.{Form}
use Rattle.run_words.specs.declared.job.Form.TheVariants.{Bytes, PlainBytes, Text}
use Rattle.run_words.specs.declared.job.Origin.{Origin}
use Rattle.run_words.specs.declared.job.Origin.TheVariants.{Read, Generated}
use Rattle.run_words.specs.Jobs.{cluster_of, origin_of}

-- ---- scenes

-- what is known of a scene that was read: of bytes its fields are in their ranges, of a text its version is 1 or 2 and its pictures are whole
abbrev pub IsWellRead : Form → Scene → Type 0
IsWellRead Bytes scene = IsDecl scene.decl × AllByRecursion (AllByRecursion IsCommand) scene.streams
IsWellRead PlainBytes scene = IsDecl scene.decl × AllByRecursion (AllByRecursion IsCommand) scene.streams
IsWellRead Text scene = IsVersion scene.decl.version × AllByRecursion AreWhole scene.streams

-- what is known of a scene that was made: its rounds are within their range, and all that is known of a scene that was read
pub record IsMade (seed size : ℕ) (scene : Scene) : Type 0 where
  pub is : scene ≡ generated_scene seed size
  pub rounds : size_limit size ≡ None
  pub of_bytes : IsWellRead Bytes scene
  pub of_text : IsWellRead Text scene

-- what is known of a job's scene by where it comes from
abbrev pub IsWell : Origin → Scene → Type 0
IsWell (Read form) scene = IsWellRead form scene
IsWell (Generated seed size) scene = IsMade seed size scene

-- ---- limits

-- the tiles of the scene's window
abbrev pub layout_for : Cluster → Scene → Layout
layout_for cluster scene = record { width = scene.decl.width; height = scene.decl.height; columns = cluster.columns; rows = cluster.rows }

-- the cluster's quantities, for the scene's window
abbrev pub cluster_quantities : Cluster → Scene → List Quantity
cluster_quantities cluster scene = layout_quantities scene.decl.width scene.decl.height cluster.columns cluster.rows cluster.depth

-- the first of them that is outside its range
abbrev pub cluster_limit : Cluster → Scene → Option Limit
cluster_limit cluster scene = first_outside (cluster_quantities cluster scene)

-- of the tiles and the lanes, where the job runs a cluster
abbrev pub tile_limit : Option Cluster → Scene → Option Limit
tile_limit None scene = None
tile_limit (Some cluster) scene = cluster_limit cluster scene

-- the tiles of the words are within their ranges, where the job runs a cluster
abbrev pub HasTiles : Job → Scene → Type 0
HasTiles job scene = (cluster : Cluster) → cluster_of job ≡ Some cluster → cluster_limit cluster scene ≡ None

-- of these and then of the rounds, where the scene is made
abbrev pub with_rounds : Origin → Option Limit → Option Limit
with_rounds (Read form) first = first
with_rounds (Generated seed size) first = option_or first (size_limit size)

-- Of what the job asks for: the tiles and the lanes of its words, and then the rounds; or the pixels of all frames, where it holds them all at once.
abbrev pub word_limit : Job → Scene → Option Limit
word_limit (Simulate seed cluster) scene = option_or (cluster_limit cluster scene) (held_limit scene)
word_limit Serial scene = held_limit scene
word_limit Last scene = held_limit scene
word_limit job scene = with_rounds (origin_of job) (tile_limit (cluster_of job) scene)
