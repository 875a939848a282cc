-- The parts of the table of limits, judged one after the other.
use Rattle.std.proofs.Common.{◌≡◌, ℕ, ◌<◌, ◌≤◌, ◌*◌, true, false, Bool, cond, List, [], ◌∷◌, ◌++◌, length, map, Option, Some, None, Result, Ok, Err, refl, sym, ap, ◌∙◌, arith}
use Rattle.std.specs.Prelude.{sum_by, MatchResult}
use Rattle.std.specs.List.{flat_map}
use Rattle.std.proofs.lemmas.Bool.Decides.{nat_tests}
use Rattle.std.proofs.lemmas.Bool.{cond-true}
use Rattle.rc_base.specs.declared.command.Command.{Command}
use Rattle.rc_base.specs.declared.list_command.ListCommand.{ListCommand}
use Rattle.rc_base.specs.declared.scene.Decl.{Decl}
use Rattle.rc_base.specs.declared.scene.Limit.{Limit}
use Rattle.rc_base.specs.declared.scene.Scene.{Scene}
use Rattle.rc_base.specs.Formats.Limits.{held_limit, Quantity, quantity, is_outside, first_outside, size_area, side, barrier_count, is_swap_command, least_swaps, commands_in, quantities_with, frame_quantities, limit_of, read_limit, stream_limit, judged}
use Rattle.scene_file.specs.Judging.{or_else, one, window_part, judge_decl, stream_part, judge_parts}
use Rattle.scene_file.specs.declared.reading.Counted.{Counted}
use Rattle.scene_file.specs.Counting.{Counts}
use Rattle.scene_file.specs.declared.list_scene.ListScene.{ListScene}
use Rattle.scene_file.specs.Faults.{list_limit_of}
use Rattle.scene_file.proofs.CommandsCounted.{shown_swaps}

first_step : (b : Bool) (l : Limit) (x y : Option Limit) → cond b (Some l) (or_else x y) ≡ or_else (cond b (Some l) x) y
first_step true l x y = refl
first_step false l x y = refl

pub outside_append : (xs ys : List Quantity) → first_outside (xs ++ ys) ≡ or_else (first_outside xs) (first_outside ys)
outside_append [] ys = refl
outside_append (q ∷ qs) ys =
    ap (λ (o : Option Limit). cond (is_outside q) (Some (record { what = q.what; value = q.value })) o) (outside_append qs ys)
    ∙ first_step (is_outside q) (record { what = q.what; value = q.value }) (first_outside qs) (first_outside ys)

regroup : (a b c e f g h : Option Limit) → or_else a (or_else b (or_else c (or_else e (or_else f (or_else g h))))) ≡ or_else (or_else a (or_else b (or_else c (or_else e (or_else f g))))) h
regroup None None None None None g h = refl
regroup None None None None (Some l) g h = refl
regroup None None None (Some l) f g h = refl
regroup None None (Some l) e f g h = refl
regroup None (Some l) c e f g h = refl
regroup (Some l) b c e f g h = refl

-- the parts of a declaration, so many clients and so many commands, and the rest
pub parts_with : (d : Decl) (clients commands : ℕ) (rest : List Quantity)
    → first_outside (quantities_with d clients commands rest) ≡ or_else (judge_decl d clients) (first_outside (quantity 11 commands 0 1048576 ∷ rest))
parts_with d clients commands rest =
    let a = window_part d clients in
    let b = map side (flat_map (λ size. size) d.shared) in
    let c : List Quantity = one 7 (sum_by size_area d.shared) 1048576 in
    let e : List Quantity = one 8 (length d.barriers) 64 in
    let f = map barrier_count d.barriers in
    let g : List Quantity = one 10 (length d.semaphores) 64 in
    let h : List Quantity = quantity 11 commands 0 1048576 ∷ rest in
    outside_append a (b ++ (c ++ (e ++ (f ++ (g ++ h)))))
    ∙ ap (or_else (first_outside a)) (outside_append b (c ++ (e ++ (f ++ (g ++ h))))
    ∙ ap (or_else (first_outside b)) (outside_append c (e ++ (f ++ (g ++ h)))
    ∙ ap (or_else (first_outside c)) (outside_append e (f ++ (g ++ h))
    ∙ ap (or_else (first_outside e)) (outside_append f (g ++ h) ∙ ap (or_else (first_outside f)) (outside_append g h)))))
    ∙ regroup (first_outside a) (first_outside b) (first_outside c) (first_outside e) (first_outside f) (first_outside g) (first_outside h)

-- the parts of a scene that is there
abbrev pub judge_scene : Scene → Option Limit
judge_scene s = judge_parts s.decl (length s.streams) (commands_in s.streams) (least_swaps s.streams)

pub limit_parts : (s : Scene) → limit_of s ≡ judge_scene s
unfolding limit_of
limit_parts s = parts_with s.decl (length s.streams) (commands_in s.streams) (frame_quantities s)

-- what is judged of a scene with call lists that is read
abbrev pub judge_read : Decl → ℕ → ℕ → Option Limit
judge_read d clients commands = or_else (judge_decl d clients) (first_outside (one 11 commands 1048576))

pub read_parts : (d : Decl) (streams : List (List ListCommand)) → read_limit d streams ≡ judge_read d (length streams) (sum_by length streams)
unfolding read_limit
read_parts d streams = parts_with d (length streams) (sum_by length streams) []

pub judged_limit : (s : Scene) (r : Result (Unit {0}) Limit) → judged r ≡ judge_scene s → MatchResult r (λ _. limit_of s ≡ None) (λ l. limit_of s ≡ Some l)
judged_limit s (Ok u) h = limit_parts s ∙ sym h
judged_limit s (Err l) h = limit_parts s ∙ sym h

-- the same of what a scene's frames hold
pub held_is : (s : Scene) (r : Result (Unit {0}) Limit) → judged r ≡ held_limit s → MatchResult r (λ _. held_limit s ≡ None) (λ l. held_limit s ≡ Some l)
held_is s (Ok u) h = sym h
held_is s (Err l) h = sym h

-- ---- of a scene of which not all commands are stored

-- what is told of a scene by its declaration, and the numbers of its clients, its commands and its frames
pub counted_limit : (x : Counted (List Command)) (s : Scene) → Counts is_swap_command x s.decl s.streams → judge_parts x.decl (length x.streams) x.commands x.frames ≡ limit_of s
counted_limit x s c =
    (λ i. judge_parts (c.decl i) (c.clients i) (c.counted i) (c.frames i))
    ∙ ap (λ (n : ℕ). judge_parts s.decl (length s.streams) (commands_in s.streams) n) (shown_swaps s.streams)
    ∙ sym (limit_parts s)

-- the same of one with call lists
pub counted_read : (shows : ListCommand → Bool) (x : Counted (List ListCommand)) (s : ListScene) → Counts shows x s.decl s.streams → judge_read x.decl (length x.streams) x.commands ≡ list_limit_of s
counted_read shows x s c = (λ i. judge_read (c.decl i) (c.clients i) (c.counted i)) ∙ sym (read_parts s.decl s.streams)

pub decl_limit : (d : Decl) (clients : ℕ) (l : Limit) → judge_decl d clients ≡ Some l → (s : Scene) → s.decl ≡ d → length s.streams ≡ clients → limit_of s ≡ Some l
decl_limit d clients l h s e n =
    limit_parts s ∙ (λ i. or_else (judge_decl (e i) (n i)) (first_outside (stream_part s.decl (commands_in s.streams) (least_swaps s.streams))))
    ∙ ap (λ o. or_else o (first_outside (stream_part s.decl (commands_in s.streams) (least_swaps s.streams)))) h

-- too many commands are told, whatever follows
pub many_commands : (commands : ℕ) (rest : List Quantity) → 1048576 < commands → first_outside (quantity 11 commands 0 1048576 ∷ rest) ≡ Some (record { what = 11; value = commands })
many_commands commands rest many =
    let q : Quantity = quantity 11 commands 0 1048576 in
    let test : is_outside q ≡ true = grind (arith, nat_tests) in
    cond-true (is_outside q) (Some (record { what = 11; value = commands })) (first_outside rest) test

pub commands_limit : (d : Decl) (clients commands : ℕ) → judge_decl d clients ≡ None → 1048576 < commands → (s : Scene) → s.decl ≡ d → length s.streams ≡ clients → commands_in s.streams ≡ commands
    → limit_of s ≡ Some (record { what = 11; value = commands })
commands_limit d clients commands h many s e n c =
    limit_parts s ∙ (λ i. or_else (judge_decl (e i) (n i)) (first_outside (stream_part s.decl (c i) (least_swaps s.streams))))
    ∙ ap (λ o. or_else o (first_outside (stream_part s.decl commands (least_swaps s.streams)))) h
    ∙ many_commands commands (quantity 12 (least_swaps s.streams) 0 1048576 ∷ quantity 13 (least_swaps s.streams * (s.decl.width * s.decl.height)) 0 2147483648 ∷ []) many

pub none_first : (x y : Option Limit) → or_else x y ≡ None → (x ≡ None) × (y ≡ None)
none_first None y h = (refl, h)
none_first (Some l) y h = absurd cc

pub single : (what n most : ℕ) → first_outside (one what n most) ≡ None → n ≤ most
single what n most h = grind (arith, nat_tests)

-- the commands of a scene that is within its limits
few_streams : (d : Decl) (commands frames : ℕ) → first_outside (stream_part d commands frames) ≡ None → commands ≤ 1048576
few_streams d commands frames h =
    let others : List Quantity = quantity 12 frames 0 1048576 ∷ quantity 13 (frames * (d.width * d.height)) 0 2147483648 ∷ [] in
    single 11 commands 1048576 (none_first (first_outside (one 11 commands 1048576)) (first_outside others) (sym (outside_append (one 11 commands 1048576) others) ∙ h)).0

-- all commands are stored of a scene that is within its limits
pub all_stored : (x : Counted (List Command)) (s : Scene) → Counts is_swap_command x s.decl s.streams → judge_parts x.decl (length x.streams) x.commands x.frames ≡ None
    → record { decl = x.decl; streams = x.streams } ≡ s
all_stored x s c h =
    let few = few_streams x.decl x.commands x.frames (none_first (judge_decl x.decl (length x.streams)) (first_outside (stream_part x.decl x.commands x.frames)) h).1 in
    let streams = c.stored few in
    λ i. record { decl = c.decl i; streams = streams i }

-- the same of one with call lists
pub all_read : (shows : ListCommand → Bool) (x : Counted (List ListCommand)) (s : ListScene) → Counts shows x s.decl s.streams → judge_read x.decl (length x.streams) x.commands ≡ None
    → record { decl = x.decl; streams = x.streams } ≡ s
all_read shows x s c h =
    let few = single 11 x.commands 1048576 (none_first (judge_decl x.decl (length x.streams)) (first_outside (one 11 x.commands 1048576)) h).1 in
    let streams = c.stored few in
    λ i. record { decl = c.decl i; streams = streams i }

-- the window's sides, the streams and the shared textures that were let through
pub window_within : (d : Decl) (n : ℕ) → first_outside (window_part d n) ≡ None → (d.width ≤ 2048) × (d.height ≤ 2048) × (n ≤ 8) × (length d.shared ≤ 16)
window_within d n h = (grind (arith, nat_tests), grind (arith, nat_tests), grind (arith, nat_tests), grind (arith, nat_tests))

-- ---- of the streams alone

-- what was found of a scene all of whose commands are stored
pub stored_streams : (s : Scene) (commands : ℕ) (r : Result (Unit {0}) Limit) → judged r ≡ first_outside (stream_part s.decl commands (least_swaps s.streams))
    → commands_in s.streams ≡ commands → MatchResult r (λ _. stream_limit s ≡ None) (λ l. stream_limit s ≡ Some l)
unfolding stream_limit
stored_streams s commands (Ok u) h c = ap (λ (n : ℕ). first_outside (stream_part s.decl n (least_swaps s.streams))) c ∙ sym h
stored_streams s commands (Err l) h c = ap (λ (n : ℕ). first_outside (stream_part s.decl n (least_swaps s.streams))) c ∙ sym h

-- too many commands are found first
pub many_streams : (s : Scene) (commands : ℕ) (r : Result (Unit {0}) Limit) → judged r ≡ first_outside (stream_part s.decl commands (least_swaps s.streams))
    → 1048576 < commands → r ≡ Err (record { what = 11; value = commands })
many_streams s commands r h many = by r (h ∙ many_commands commands (frame_quantities s) many) where
  by : (r : Result (Unit {0}) Limit) → judged r ≡ Some (record { what = 11; value = commands }) → r ≡ Err (record { what = 11; value = commands })
  by (Ok u) e = absurd cc
  by (Err l) e = let same : l ≡ record { what = 11; value = commands } = cc in ap Err same

-- A scene with call lists is read, and within its limits; and the streams of the scene that it stands for are within theirs. Then this scene is.
pub limits_of_expanded : (d : Decl) (lists : List (List ListCommand)) (s : Scene) → s.decl ≡ d → length s.streams ≡ length lists → read_limit d lists ≡ None → stream_limit s ≡ None
    → limit_of s ≡ None
unfolding stream_limit
limits_of_expanded d lists s e n read streams =
    let later = first_outside (stream_part s.decl (commands_in s.streams) (least_swaps s.streams)) in
    let declared = (none_first (judge_decl d (length lists)) (first_outside (one 11 (sum_by length lists) 1048576)) (sym (read_parts d lists) ∙ read)).0 in
    limit_parts s ∙ (λ i. or_else (judge_decl (e i) (n i)) later) ∙ ap (λ o. or_else o later) declared ∙ streams
