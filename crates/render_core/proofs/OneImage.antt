-- Records of ordered scenes show one image.
use Rattle.std.proofs.Common.{◌≡◌, ℕ, zero, suc, ◌+◌, ◌-◌, ◌*◌, ◌<◌, ◌≤◌, inl, inr, List, [], ◌∷◌, ◌++◌, length, map, None, Some, refl, sym, ap, subst, ◌∙◌, length-append, arith}
use Rattle.std.specs.Prelude.{codes, pos}
use Rattle.std.specs.Fmt.{decimal}
use Rattle.std.specs.List.{flat_map, range_with_len}
use Rattle.std.specs.declared.option.Option.{Option}
use Rattle.std.proofs.lemmas.Bool.{cases_lt}
use Rattle.std.proofs.lemmas.List.{append_cancel_left}
use Rattle.rc_base.specs.Drawing.Images.{Pixels, frame_images, image_from, rgb_bytes, rgb_of, row_bytes}
use Rattle.rc_base.specs.Drawing.Serial.{frame_pixel}
use Rattle.rc_base.specs.Formats.Limits.{limit_of, size_limit}
use Rattle.rc_base.specs.Formats.Netpbm.{p6_text, p6_texts}
use Rattle.rc_base.specs.Orders.Footprints.{IsOrderedScene}
use Rattle.scene_file.specs.Generator.{generated_scene}
use Rattle.rc_base.specs.Orders.Order.{IsPermitted}
use Rattle.rc_base.specs.Orders.Sync.{IsWellFormed, sync_lists_of}
use Rattle.rc_base.specs.declared.image.Image.{Image}
use Rattle.rc_base.specs.declared.scene.Decl.{Decl}
use Rattle.rc_base.specs.declared.scene.Limit.{Limit}
use Rattle.rc_base.specs.declared.scene.Scene.{Scene}
use Rattle.rc_base.specs.declared.sync.Name.{Name}
use Rattle.order_model.specs.Laws.{SceneListsAreWellFormed, OrderedRunsShowOneImage, UncontendedRunsShowTheDefaultImage}
use Rattle.order_model.specs.Report.{frame_count, image_text_of, recorded_pixel}
use Rattle.order_model.specs.Sent.{IsRecordOf}
use Rattle.order_model.specs.declared.record.Record.{Record}
use Rattle.scene_file.specs.Generated.{GeneratedScenesAreWithin}
use Rattle.plain_lemmas.proofs.Lists.{same_parts}
use Rattle.render_core.specs.Due.{default_frames}
use Rattle.spu_chain.specs.Laws.{FilteredStaysWithin}
use Rattle.run_words.specs.declared.work.Work.{Work}
use Rattle.run_words.specs.Jobs.{Task, cluster_of, origin_of}
use Rattle.render_core.specs.Scenes.{Found, Gives, IsInput, meant, scene_for, scene_limit}
use Rattle.run_words.specs.Asked.{cluster_limit, layout_for, tile_limit, with_rounds, word_limit}
use Rattle.render_core.specs.Laws.{OrderedRecordsShowOneImage}
use Rattle.render_core.specs.Outcomes.{ShowsEveryPermittedOrder}
use Rattle.run_words.specs.declared.job.Cluster.{Cluster}
use Rattle.run_words.specs.declared.job.Job.{Job}
use Rattle.run_words.specs.declared.job.Job.TheVariants.{Gen, Demo}
use Rattle.run_words.specs.declared.job.Origin.TheVariants.{Generated}
use Rattle.render_core.proofs.Recorded.{layout_within}
use Rattle.render_core.proofs.Filtered.{filtered_tiles, filtered_within, meant_within}
use Rattle.render_core.proofs.Judging.{rounds_within, tiles_within, within_both}
use Rattle.rc_base.proofs.WithinLimits.{clients_within, counts_some, first_within, in_range, tiles_within as layout_tiles}

-- ---- texts of images of one size, one after the other, tell each image

longer : (xs ys zs : List ℕ) → length ys ≡ length zs → length (xs ++ ys) ≡ length (xs ++ zs)
longer xs ys zs e = length-append xs ys ∙ ap (λ (n : ℕ). length xs + n) e ∙ sym (length-append xs zs)

as_long : (f g : ℕ → List ℕ) → ((x : ℕ) → length (f x) ≡ length (g x)) → (xs : List ℕ) → length (flat_map f xs) ≡ length (flat_map g xs)
as_long f g each [] = refl
as_long f g each (x ∷ xs) = omega (arith, length-append (f x) (flat_map f xs), length-append (g x) (flat_map g xs), each x, as_long f g each xs)

module _ (f g : ℕ → List ℕ) (sizes : (k : ℕ) → length (f k) ≡ length (g k)) where
  each_apart : (F G : ℕ → Image) → ((k : ℕ) → p6_text (F k) ≡ f k) → ((k : ℕ) → p6_text (G k) ≡ g k) → (a n : ℕ)
      → p6_texts (map F (range_with_len a n)) ≡ p6_texts (map G (range_with_len a n)) → (k : ℕ) → a ≤ k → k < a + n → f k ≡ g k
  each_apart F G is_f is_g a zero e k low high = absurd (omega (arith, low, high))
  each_apart F G is_f is_g a (suc n) e k low high =
      let here = same_parts (p6_text (F a)) (p6_text (G a)) (p6_texts (map F (range_with_len (a + 1) n))) (p6_texts (map G (range_with_len (a + 1) n)))
      (ap length (is_f a) ∙ sizes a ∙ sym (ap length (is_g a))) e in
      elim (cases_lt a k) [
        | inl later ↦ each_apart F G is_f is_g (a + 1) n here.1 k (omega (arith, later)) (omega (arith, high))
        | inr now ↦
            let same : a ≡ k = omega (arith, low, now) in
            subst (λ (i : ℕ). f i ≡ g i) same (sym (is_f a) ∙ here.0 ∙ is_g a)
      ]

-- what stands before the bytes of the pixels
abbrev before : ℕ → ℕ → List ℕ
before w h = codes "P6\n" ++ decimal w ++ codes " " ++ decimal h ++ codes "\n255\n"

module _ (d : Decl) (p q : ℕ → Pixels) where
  abbrev bytes : (ℕ → Pixels) → ℕ → List ℕ
  bytes pixels k = rgb_bytes (pixels k) d.width d.height

  one_size : (k : ℕ) → length (bytes p k) ≡ length (bytes q k)
  unfolding rgb_bytes row_bytes
  one_size k =
      as_long (λ row. row_bytes (p k) d.width (d.height - 1 - row)) (λ row. row_bytes (q k) d.width (d.height - 1 - row))
      (λ row. as_long (λ x. rgb_of (p k (pos x) (pos (d.height - 1 - row)))) (λ x. rgb_of (q k (pos x) (pos (d.height - 1 - row)))) (λ x. refl) (range_with_len 0 d.width))
      (range_with_len 0 d.height)

  text_sizes : (k : ℕ) → length (p6_text (image_from d (p k))) ≡ length (p6_text (image_from d (q k)))
  text_sizes k = longer (before d.width d.height) (bytes p k) (bytes q k) (one_size k)

  of_texts : (k : ℕ) → p6_text (image_from d (p k)) ≡ p6_text (image_from d (q k)) → image_from d (p k) ≡ image_from d (q k)
  of_texts k e = ap (λ (rgb : List ℕ). record { width = d.width; height = d.height; rgb = rgb }) (append_cancel_left (before d.width d.height) (bytes p k) (bytes q k) e)

  -- so the images are the same, one by one
  images_apart : (n : ℕ) → p6_texts (map (λ k. image_from d (p k)) (range_with_len 1 n)) ≡ p6_texts (map (λ k. image_from d (q k)) (range_with_len 1 n))
      → (k : ℕ) → 0 < k → k ≤ n → image_from d (p k) ≡ image_from d (q k)
  images_apart n e k some most =
      of_texts k
      (each_apart (λ j. p6_text (image_from d (p j))) (λ j. p6_text (image_from d (q j))) text_sizes (λ j. image_from d (p j)) (λ j. image_from d (q j))
      (λ j. refl) (λ j. refl) 1 n e k (omega (arith, some)) (omega (arith, most)))

-- ---- a job's scene is within the limits, and so are the tiles of its words

-- of at most 4,096 rounds
few_rounds : (size : ℕ) → size_limit size ≡ None → size ≤ 4096
unfolding size_limit
few_rounds size e = (in_range 18 size 1 4096 (first_within (record { what = 18; value = size; least = 1; most = 4096 }) [] e).0).1

made_within : GeneratedScenesAreWithin → (seed size : ℕ) (first : Option Limit) (scene : Scene) → scene ≡ generated_scene seed size
    → with_rounds (Generated seed size) first ≡ None → limit_of scene ≡ None
made_within made seed size first scene is words =
    subst (λ (s : Scene). limit_of s ≡ None) (sym is) (made seed size (few_rounds size (rounds_within seed size first words))).limits

limits_of : GeneratedScenesAreWithin → (job : Job) (input : List ℕ) (found : Found) → Gives (origin_of job) input found
    → scene_limit (origin_of job) found ≡ None → word_limit job (meant found) ≡ None → limit_of (meant found) ≡ None
limits_of made (Gen seed size) input found gives own words = made_within made seed size None (meant found) (ap meant gives) words
limits_of made (Demo seed size cluster) input found gives own words = made_within made seed size (cluster_limit cluster (meant found)) (meant found) (ap meant gives) words
limits_of made job input found gives own words = meant_within found own

module _ (made : GeneratedScenesAreWithin) (stays : FilteredStaysWithin) (task : Task) (input : List ℕ) (work : Work) (is : IsInput task input work) where
  limits : (scene_limit (origin_of task.job) is.found ≡ None) × (word_limit task.job (meant is.found) ≡ None)
  limits = within_both task.job is.found is.within

  pub scene_is : work.scene ≡ scene_for task (meant is.found)
  scene_is = ap (λ (w : Work). w.scene) is.is

  within : limit_of work.scene ≡ None
  within =
      subst (λ (s : Scene). limit_of s ≡ None) (sym scene_is)
      (filtered_within task (meant is.found) stays (limits_of made task.job input is.found is.gives limits.0 limits.1))

  pub well : SceneListsAreWellFormed → IsWellFormed (sync_lists_of work.scene)
  well formed = formed work.scene (clients_within work.scene within).0 (counts_some work.scene within)

  module _ (cluster : Cluster) (of : cluster_of task.job ≡ Some cluster) where
    -- the tiles of the words, in the window that the scene was found with
    asked : cluster_limit cluster work.scene ≡ None
    asked =
        subst (λ (s : Scene). cluster_limit cluster s ≡ None) (sym scene_is)
        (filtered_tiles task (meant is.found) cluster
        (subst (λ (c : Option Cluster). tile_limit c (meant is.found) ≡ None) of (tiles_within task.job (meant is.found) limits.1)))

    some_tiles : 1 ≤ (layout_for cluster work.scene).columns * (layout_for cluster work.scene).rows
    some_tiles = (layout_tiles work.scene (layout_for cluster work.scene) cluster.depth (layout_within cluster work.scene asked)).0

module _ (formed : SceneListsAreWellFormed) (made : GeneratedScenesAreWithin) (stays : FilteredStaysWithin) (permitted : OrderedRunsShowOneImage) (default : UncontendedRunsShowTheDefaultImage) where
  module _ (task : Task) (cluster : Cluster) (input : List ℕ) (work : Work) (kept : Record) (of : cluster_of task.job ≡ Some cluster) (is : IsInput task input work)
      (lawful : IsRecordOf work.scene (layout_for cluster work.scene) kept) (ordered : IsOrderedScene work.scene kept.journal) where
    abbrev scene : Scene
    scene = work.scene

    texts : (order : List Name) → IsPermitted (sync_lists_of scene) kept.journal order
        → image_text_of scene (layout_for cluster scene) kept ≡ p6_texts (frame_images scene order (frame_count kept.journal))
    texts order p =
        permitted scene (layout_for cluster scene) kept (well made stays task input work is formed)
        (let least = some_tiles made stays task input work is cluster of in omega (arith, least)) lawful ordered order p

    shows : ShowsEveryPermittedOrder cluster scene kept
    unfolding image_text_of
    shows = record {
      frames = λ order p. images_apart scene.decl (recorded_pixel scene (layout_for cluster scene) kept) (frame_pixel scene order) (frame_count kept.journal) (texts order p);
      text = texts;
    }

  pub one_image : OrderedRecordsShowOneImage
  unfolding default_frames
  one_image task cluster input work kept of is lawful ordered = (
    shows task cluster input work kept of is lawful ordered,
    λ uncontended. default work.scene (layout_for cluster work.scene) kept (well made stays task input work is formed)
        (let least = some_tiles made stays task input work is cluster of in omega (arith, least)) uncontended lawful ordered,
  )
