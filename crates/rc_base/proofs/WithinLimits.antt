-- What is known of a scene within the limits, and of a layout within them.
use Rattle.std.proofs.Common.{◌≡◌, ℕ, zero, suc, ◌+◌, ◌*◌, ◌≤◌, ◌<◌, ◌^◌, inl, inr, Bool, true, false, List, [], ◌∷◌, ◌++◌, length, map, get_or, None, Some, refl, sym, ap, ◌∙◌, arith, append_assoc}
use Rattle.std.specs.Prelude.{sum_by, slice_index, min, if◌then◌else◌}
use Rattle.std.specs.List.{flat_map, AllByRecursion}
use Rattle.std.specs.declared.option.Option.{Option}
use Rattle.std.proofs.lemmas.Bool.{cases_lt}
use Rattle.std.proofs.lemmas.Bool.Decides.{nat_tests}
use Rattle.std.proofs.lemmas.List.{get_or_past, get_or_default, map-append}
use Rattle.std.proofs.lemmas.List.Sums.{get_or-le-sum_by}
use Rattle.std.proofs.lemmas.Option.{slice_get_cases}
use Rattle.rc_base.specs.Lists.{at_name}
use Rattle.rc_base.specs.Cluster.Tiles.{tile_count}
use Rattle.rc_base.specs.Contexts.Issue.{stream_of}
use Rattle.rc_base.specs.Formats.Limits.{Quantity, quantity, is_outside, first_outside, size_area, side, barrier_count, least_swaps, frame_pixels, commands_in, limit_of, layout_limit}
use Rattle.rc_base.specs.Formats.Spelling.{IsSize}
use Rattle.rc_base.specs.Formats.Within.{IsLayoutFor}
use Rattle.rc_base.specs.declared.command.Command.{Command}
use Rattle.rc_base.specs.declared.scene.Limit.{Limit}
use Rattle.rc_base.specs.declared.scene.Scene.{Scene}
use Rattle.rc_base.specs.declared.window.Layout.{Layout}

-- ---- what stands in a list of which none is outside its range

passed : (outside : Bool) (limit : Limit) (later : Option Limit) → (if outside then Some limit else later) ≡ None → (outside ≡ false) × (later ≡ None)
passed true limit later h = cc
passed false limit later h = (refl, h)

pub first_within : (q : Quantity) (qs : List Quantity) → first_outside (q ∷ qs) ≡ None → (is_outside q ≡ false) × (first_outside qs ≡ None)
first_within q qs h = passed (is_outside q) (record { what = q.what; value = q.value }) (first_outside qs) h

later_within : (qs rs : List Quantity) → first_outside (qs ++ rs) ≡ None → first_outside rs ≡ None
later_within [] rs h = h
later_within (q ∷ qs) rs h = later_within qs rs (first_within q (qs ++ rs) h).1

pub in_range : (what value least most : ℕ) → is_outside (record { what = what; value = value; least = least; most = most }) ≡ false → (least ≤ value) × (value ≤ most)
in_range what value least most inside = grind (arith, nat_tests, inside)

-- ---- the table from its commands on, and from before them

abbrev commands : Scene → Quantity
commands s = record { what = 11; value = commands_in s.streams; least = 0; most = 1048576 }

abbrev frames : Scene → Quantity
frames s = record { what = 12; value = least_swaps s.streams; least = 0; most = 1048576 }

abbrev pixels : Scene → Quantity
pixels s = record { what = 13; value = frame_pixels s; least = 0; most = 2147483648 }

abbrev frames_on : Scene → List Quantity
frames_on s = frames s ∷ (pixels s ∷ [])

abbrev semaphores : Scene → Quantity
semaphores s = record { what = 10; value = length s.decl.semaphores; least = 0; most = 64 }

abbrev semaphores_on : Scene → List Quantity
semaphores_on s = semaphores s ∷ (commands s ∷ frames_on s)

abbrev barriers_on : Scene → List Quantity
barriers_on s = map barrier_count s.decl.barriers ++ semaphores_on s

abbrev texels : Scene → Quantity
texels s = record { what = 7; value = sum_by size_area s.decl.shared; least = 0; most = 1048576 }

abbrev barrier_number : Scene → Quantity
barrier_number s = record { what = 8; value = length s.decl.barriers; least = 0; most = 64 }

abbrev texels_on : Scene → List Quantity
texels_on s = texels s ∷ (barrier_number s ∷ barriers_on s)

abbrev sides : Scene → List Quantity
sides s = map side (flat_map (λ (size : List ℕ). size) s.decl.shared)

abbrev width : Scene → Quantity
width s = record { what = 2; value = s.decl.width; least = 1; most = 2048 }

abbrev height : Scene → Quantity
height s = record { what = 3; value = s.decl.height; least = 1; most = 2048 }

abbrev clients : Scene → Quantity
clients s = record { what = 4; value = length s.streams; least = 1; most = 8 }

abbrev textures : Scene → Quantity
textures s = record { what = 5; value = length s.decl.shared; least = 0; most = 16 }

-- ---- lists within their ranges

counts_within : (counts : List ℕ) (rest : List Quantity) → first_outside (map barrier_count counts ++ rest) ≡ None → (n : ℕ) → n < length counts → 0 < get_or counts n 0
counts_within [] rest h n lt = absurd (omega arith)
counts_within (count ∷ counts) rest h zero lt =
    let r = in_range 9 count 1 8 (first_within (barrier_count count) (map barrier_count counts ++ rest) h).0 in omega (arith, r)
counts_within (count ∷ counts) rest h (suc n) lt = counts_within counts rest (first_within (barrier_count count) (map barrier_count counts ++ rest) h).1 n (omega (arith, lt))

-- the two sides of a size
two_within : (size : List ℕ) (rest : List Quantity) → length size ≡ 2 → first_outside (map side size ++ rest) ≡ None → (0 < slice_index size 0) × (0 < slice_index size 1)
two_within [] rest two h = absurd (omega (arith, two))
two_within (w ∷ []) rest two h = absurd (omega (arith, two))
two_within (w ∷ (h ∷ [])) rest two none =
    let first = first_within (side w) (side h ∷ rest) none in
    let r = in_range 6 w 1 65535 first.0 in
    let t = in_range 6 h 1 65535 (first_within (side h) rest first.1).0 in
    (omega (arith, r), omega (arith, t))
two_within (w ∷ (h ∷ (x ∷ xs))) rest two none = absurd (omega (arith, two))

split_sides : (size : List ℕ) (shared : List (List ℕ)) (rest : List Quantity)
    → map side (flat_map (λ (s : List ℕ). s) (size ∷ shared)) ++ rest ≡ map side size ++ (map side (flat_map (λ (s : List ℕ). s) shared) ++ rest)
split_sides size shared rest = simp (map-append, append_assoc)

sizes_within : (shared : List (List ℕ)) (rest : List Quantity) → first_outside (map side (flat_map (λ (s : List ℕ). s) shared) ++ rest) ≡ None → AllByRecursion IsSize shared
    → (n : ℕ) → n < length shared → (0 < slice_index (get_or shared n []) 0) × (0 < slice_index (get_or shared n []) 1)
sizes_within [] rest h all n lt = absurd (omega arith)
sizes_within (size ∷ shared) rest h all zero lt =
    two_within size (map side (flat_map (λ (s : List ℕ). s) shared) ++ rest) all.0.0 (sym (ap first_outside (split_sides size shared rest)) ∙ h)
sizes_within (size ∷ shared) rest h all (suc n) lt =
    sizes_within shared rest (later_within (map side size) (map side (flat_map (λ (s : List ℕ). s) shared) ++ rest) (sym (ap first_outside (split_sides size shared rest)) ∙ h)) all.1 n (omega (arith, lt))

each_stream : (streams : List (List Command)) (client : ℕ) → length (get_or streams client []) ≤ commands_in streams
each_stream streams client = elim (cases_lt client (length streams)) [
  | inl below ↦ get_or-le-sum_by (λ (commands : List Command). length commands) streams client [] below
  | inr past ↦ let none = ap length (get_or_past streams client [] past) in omega (arith, none)
]

module _ (scene : Scene) (within : limit_of scene ≡ None) where
  from_height : first_outside (height scene ∷ (clients scene ∷ (textures scene ∷ (sides scene ++ texels_on scene)))) ≡ None
  unfolding limit_of
  from_height = (first_within (width scene) (height scene ∷ (clients scene ∷ (textures scene ∷ (sides scene ++ texels_on scene)))) within).1

  from_clients : first_outside (clients scene ∷ (textures scene ∷ (sides scene ++ texels_on scene))) ≡ None
  from_clients = (first_within (height scene) (clients scene ∷ (textures scene ∷ (sides scene ++ texels_on scene))) from_height).1

  from_sides : first_outside (sides scene ++ texels_on scene) ≡ None
  from_sides = (first_within (textures scene) (sides scene ++ texels_on scene) (first_within (clients scene) (textures scene ∷ (sides scene ++ texels_on scene)) from_clients).1).1

  from_number : first_outside (barrier_number scene ∷ barriers_on scene) ≡ None
  from_number = (first_within (texels scene) (barrier_number scene ∷ barriers_on scene) (later_within (sides scene) (texels_on scene) from_sides)).1

  from_barriers : first_outside (barriers_on scene) ≡ None
  from_barriers = (first_within (barrier_number scene) (barriers_on scene) from_number).1

  pub width_within : (1 ≤ scene.decl.width) × (scene.decl.width ≤ 2048)
  unfolding limit_of
  width_within = in_range 2 scene.decl.width 1 2048 (first_within (width scene) (height scene ∷ (clients scene ∷ (textures scene ∷ (sides scene ++ texels_on scene)))) within).0

  pub height_within : (1 ≤ scene.decl.height) × (scene.decl.height ≤ 2048)
  height_within = in_range 3 scene.decl.height 1 2048 (first_within (height scene) (clients scene ∷ (textures scene ∷ (sides scene ++ texels_on scene))) from_height).0

  pub clients_within : (1 ≤ length scene.streams) × (length scene.streams ≤ 8)
  clients_within = in_range 4 (length scene.streams) 1 8 (first_within (clients scene) (textures scene ∷ (sides scene ++ texels_on scene)) from_clients).0

  pub few_barriers : length scene.decl.barriers ≤ 64
  few_barriers = (in_range 8 (length scene.decl.barriers) 0 64 (first_within (barrier_number scene) (barriers_on scene) from_number).0).1

  from_commands : first_outside (commands scene ∷ frames_on scene) ≡ None
  from_commands =
      (first_within (semaphores scene) (commands scene ∷ frames_on scene) (later_within (map barrier_count scene.decl.barriers) (semaphores_on scene) from_barriers)).1

  commands_within : commands_in scene.streams ≤ 1048576
  commands_within = (in_range 11 (commands_in scene.streams) 0 1048576 (first_within (commands scene) (frames_on scene) from_commands).0).1

  -- each frame has its Swap of each client
  pub few_frames : least_swaps scene.streams ≤ 1048576
  few_frames =
      (in_range 12 (least_swaps scene.streams) 0 1048576 (first_within (frames scene) (pixels scene ∷ []) (first_within (commands scene) (frames_on scene) from_commands).1).0).1

  -- each client has few commands
  pub few_commands : (client : ℕ) → length (stream_of scene client) < 2 ^ 32
  few_commands client = omega (arith, commands_within, each_stream scene.streams client)

  pub short_streams : (client : ℕ) → length (stream_of scene client) < 2 ^ 20 + 1
  short_streams client = omega (arith, commands_within, each_stream scene.streams client)

  -- each barrier counts one client or more
  pub counts_some : (barrier count : ℕ) → at_name scene.decl.barriers barrier ≡ Some count → 0 < count
  counts_some zero count e = cc
  counts_some (suc n) count e = elim (slice_get_cases scene.decl.barriers n).1 [
    | inl there ↦
        let some = counts_within scene.decl.barriers (semaphores_on scene) from_barriers n there.1 in
        let same : there.0 ≡ count = cc (there.2, e) in
        let is = get_or_default scene.decl.barriers n there.0 0 there.1 in
        omega (arith, some, same, is, there.3)
    | inr past ↦ cc (past.1, e)
  ]

  -- the sides of shared textures are 1 or more
  pub shared_within : AllByRecursion IsSize scene.decl.shared → (n : ℕ) → n < length scene.decl.shared
      → (0 < slice_index (get_or scene.decl.shared n []) 0) × (0 < slice_index (get_or scene.decl.shared n []) 1)
  shared_within all = sizes_within scene.decl.shared (texels_on scene) from_sides all

-- ---- a layout

layout_within : (width height columns rows depth : ℕ) → layout_limit width height columns rows depth ≡ None
    → ((1 ≤ columns) × (columns ≤ min 8 width)) × ((1 ≤ rows) × (rows ≤ min 8 height)) × ((1 ≤ columns * rows) × (columns * rows ≤ 32)) × ((1 ≤ depth) × (depth ≤ 16))
unfolding layout_limit
layout_within width height columns rows depth within =
    let first = first_within (quantity 14 columns 1 (min 8 width)) (quantity 15 rows 1 (min 8 height) ∷ quantity 16 (columns * rows) 1 32 ∷ quantity 17 depth 1 16 ∷ []) within in
    let second = first_within (quantity 15 rows 1 (min 8 height)) (quantity 16 (columns * rows) 1 32 ∷ quantity 17 depth 1 16 ∷ []) first.1 in
    let third = first_within (quantity 16 (columns * rows) 1 32) (quantity 17 depth 1 16 ∷ []) second.1 in
    (in_range 14 columns 1 (min 8 width) first.0, in_range 15 rows 1 (min 8 height) second.0, in_range 16 (columns * rows) 1 32 third.0, in_range 17 depth 1 16 (first_within (quantity 17 depth 1 16) [] third.1).0)

module _ (scene : Scene) (l : Layout) (depth : ℕ) (fits : IsLayoutFor scene l depth) where
  pub tiles_within : (1 ≤ tile_count l) × (tile_count l ≤ 32)
  tiles_within = (layout_within l.width l.height l.columns l.rows depth fits.limits).2

  pub depth_within : (1 ≤ depth) × (depth ≤ 16)
  depth_within = (layout_within l.width l.height l.columns l.rows depth fits.limits).3
