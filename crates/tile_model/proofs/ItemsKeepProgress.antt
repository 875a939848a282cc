-- A tile that is under way stays so with every item that is awaited, and that is the scene's and the journal's.
use Rattle.std.proofs.Common.{◌≡◌, ℕ, ◌==◌, ◌&&◌, ◌||◌, not, Bool, true, false, cond, List, [], ◌∷◌, ◌⊎◌, drop, length, inl, inr, sym, ap, ◌∙◌, refl, true≢false, eqb-true}
use Rattle.std.proofs.lemmas.Bool.{cases_Bool, and_parts}
use Rattle.rc_base.specs.Orders.Journal.{IsLegal}
use Rattle.rc_base.specs.Orders.Sync.{sync_lists_of}
use Rattle.rc_base.specs.declared.scene.Scene.{Scene}
use Rattle.rc_base.specs.declared.state.Act.{Act}
use Rattle.rc_base.specs.declared.state.Act.TheVariants as act
use Rattle.rc_base.specs.declared.sync.Entry.{Entry}
use Rattle.rc_base.specs.declared.window.Layout.{Layout}
use Rattle.order_model.specs.Log.{Job, IsNext}
use Rattle.order_model.specs.Log.Job.{Work, Wait}
use Rattle.order_model.specs.Sent.{job_by, jobs_of}
use Rattle.order_model.specs.Standing.{Progress, IsUnderWay, performed_in, is_over, is_listening, is_asked}
use Rattle.order_model.proofs.SceneJobsAreSent.{scene_jobs_are_sent}
use Rattle.tile_model.specs.Items.{Item, after_act, after_item, after_parcel, after_work, after_wait, after_end, IsAwaited, IsItemOf}
use Rattle.tile_model.specs.Items.Item.{Nothing, Due, Granted, NoMore, Sent}
use Rattle.tile_model.proofs.ClientsGoOn.{below_end}
use Rattle.tile_model.proofs.EntriesComeDue.{performs}
use Rattle.tile_model.proofs.ParcelsAreJobs.{parcel_at}
use Rattle.tile_model.proofs.ProgressGoesOn.{works, waits, ends, drops, ends_late, learns, learns_end}

-- a tile of a layout is under way for a scene and a journal
abbrev pub IsOnItsWay : Scene → Layout → ℕ → List Entry → Progress → Type 0
IsOnItsWay scene l tile js p = IsUnderWay (sync_lists_of scene) js (λ client. jobs_of scene l client tile) p

-- ---- a parcel comes

asked_open : (closed held over : Bool) → (not closed && (not held || over)) ≡ true → (closed ≡ false) × ((held ≡ true) → over ≡ true)
asked_open true held over h = absurd (true≢false (sym h))
asked_open false true over h = (refl, λ _. h)
asked_open false false over h = (refl, λ e. absurd (true≢false (sym e)))

pub not_closed : (p : Progress) (c : ℕ) → is_asked p c ≡ true → p.closed c ≡ false
not_closed p c asked = (asked_open (p.closed c) (p.held c) (is_over p) asked).0

work_comes : (scene : Scene) (l : Layout) (tile : ℕ) (js : List Entry) (p : Progress) (c place : ℕ) → IsOnItsWay scene l tile js p → is_asked p c ≡ true
    → IsNext (drop (p.taken c) (jobs_of scene l c tile)) (Work place) → IsOnItsWay scene l tile js (cond (p.held c) (after_parcel p c) (after_work p c place))
work_comes scene l tile js p c place h asked next =
    let jobs : ℕ → List Job = λ client. jobs_of scene l client tile in
    let a = asked_open (p.closed c) (p.held c) (is_over p) asked in
    elim (cases_Bool (p.held c)) [
      | inl t ↦ rw t (drops (sync_lists_of scene) js jobs p c h (a.1 t) t a.0 (below_end (jobs c) (p.taken c) (Work place) next.0 next.1))
      | inr f ↦ rw f (works (sync_lists_of scene) js jobs p c place h f a.0 next)
    ]

wait_comes : (scene : Scene) (l : Layout) (tile : ℕ) (js : List Entry) (p : Progress) (c place : ℕ) → IsOnItsWay scene l tile js p → is_asked p c ≡ true
    → IsNext (drop (p.taken c) (jobs_of scene l c tile)) (Wait place) → IsOnItsWay scene l tile js (cond (p.held c) (after_parcel p c) (after_wait p c))
wait_comes scene l tile js p c place h asked next =
    let jobs : ℕ → List Job = λ client. jobs_of scene l client tile in
    let a = asked_open (p.closed c) (p.held c) (is_over p) asked in
    elim (cases_Bool (p.held c)) [
      | inl t ↦ rw t (drops (sync_lists_of scene) js jobs p c h (a.1 t) t a.0 (below_end (jobs c) (p.taken c) (Wait place) next.0 next.1))
      | inr f ↦ rw f (waits (sync_lists_of scene) js jobs p c place h f a.0 next)
    ]

end_comes : (scene : Scene) (l : Layout) (tile : ℕ) (js : List Entry) (p : Progress) (c : ℕ) → IsOnItsWay scene l tile js p → is_asked p c ≡ true
    → p.taken c ≡ length (jobs_of scene l c tile) → IsOnItsWay scene l tile js (after_end p c)
end_comes scene l tile js p c h asked all =
    let jobs : ℕ → List Job = λ client. jobs_of scene l client tile in
    let a = asked_open (p.closed c) (p.held c) (is_over p) asked in
    elim (cases_Bool (p.held c)) [
      | inl t ↦ ends_late (sync_lists_of scene) js jobs p c h (a.1 t) t a.0 all
      | inr f ↦ ends (sync_lists_of scene) js jobs p c h f a.0 all
    ]

-- by the job of its act
abbrev pub IsActAt : List Job → ℕ → Act → ℕ → Type 0
IsActAt jobs k a place = ((j : Job) × (job_by a place ≡ j ∷ []) × IsNext (drop k jobs) j) ⊎ ((job_by a place ≡ []) × (k ≡ length jobs))

pub the_job : (jobs : List Job) (k : ℕ) (j : Job) (a : Act) (place : ℕ) → job_by a place ≡ j ∷ [] → IsActAt jobs k a place → IsNext (drop k jobs) j
the_job jobs k j a place e (inl w) = let l : j ∷ [] ≡ w.0 ∷ [] = sym e ∙ w.1 in let same : w.0 ≡ j = cc in (w.2.0, w.2.1 ∙ ap (λ i. i ∷ w.2.0) same)
the_job jobs k j a place e (inr w) = let no : j ∷ [] ≡ [] = sym e ∙ w.0 in absurd cc

act_comes : (scene : Scene) (l : Layout) (tile : ℕ) (js : List Entry) (p : Progress) (c : ℕ) (a : Act) (place : ℕ) → IsOnItsWay scene l tile js p → is_asked p c ≡ true
    → IsActAt (jobs_of scene l c tile) (p.taken c) a place → IsOnItsWay scene l tile js (after_act p c a place)
act_comes scene l tile js p c (act.Draw b) place h asked at = work_comes scene l tile js p c place h asked (the_job (jobs_of scene l c tile) (p.taken c) (Work place) (act.Draw b) place refl at)
act_comes scene l tile js p c (act.Clear m) place h asked at = work_comes scene l tile js p c place h asked (the_job (jobs_of scene l c tile) (p.taken c) (Work place) (act.Clear m) place refl at)
act_comes scene l tile js p c (act.Shared t) place h asked at = work_comes scene l tile js p c place h asked (the_job (jobs_of scene l c tile) (p.taken c) (Work place) (act.Shared t) place refl at)
act_comes scene l tile js p c (act.Sync op) place h asked at = wait_comes scene l tile js p c place h asked (the_job (jobs_of scene l c tile) (p.taken c) (Wait place) (act.Sync op) place refl at)
act_comes scene l tile js p c act.End place h asked (inl w) = absurd (let no : w.0 ∷ [] ≡ [] = sym w.1 in cc)
act_comes scene l tile js p c act.End place h asked (inr w) = end_comes scene l tile js p c h asked w.1

-- ---- any item comes

listens : (p : Progress) → is_listening p ≡ true → (p.no_more ≡ false) × (performed_in p.log ≡ length p.learnt)
listens p h = let b = and_parts (not p.no_more) (performed_in p.log == length p.learnt) h in (negated p.no_more b.0, eqb-true (performed_in p.log) (length p.learnt) b.1)
  where
    negated : (b : Bool) → not b ≡ true → b ≡ false
    negated true e = absurd (true≢false (sym e))
    negated false e = refl

pub item_comes : (scene : Scene) (l : Layout) (tile : ℕ) (js : List Entry) (item : Item) (p : Progress) → IsLegal (sync_lists_of scene) js → IsOnItsWay scene l tile js p → IsAwaited p item → IsItemOf scene l tile js p item
    → IsOnItsWay scene l tile js (after_item p item)
item_comes scene l tile js Nothing p legal h a i = h
item_comes scene l tile js (Due e) p legal h a i = performs (sync_lists_of scene) js (λ client. jobs_of scene l client tile) p e (scene_jobs_are_sent scene l tile) legal h a
item_comes scene l tile js (Granted e) p legal h a i = learns (sync_lists_of scene) js (λ client. jobs_of scene l client tile) p e h (listens p a).0 (listens p a).1 i
item_comes scene l tile js NoMore p legal h a i = learns_end (sync_lists_of scene) js (λ client. jobs_of scene l client tile) p h
item_comes scene l tile js (Sent c parcel) p legal h a i = act_comes scene l tile js p c parcel.act parcel.place h a.1 (parcel_at scene l c tile (p.taken c) parcel i)
