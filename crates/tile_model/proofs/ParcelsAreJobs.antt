-- A parcel of a client and its job have one number; only End is no job.
use Rattle.std.proofs.Common.{arith, length-append, ◌+◌, ◌≤◌, ◌≡◌, ℕ, zero, suc, List, [], ◌∷◌, ◌++◌, ◌⊎◌, drop, length, Some, slice_get, inl, inr, refl, sym, ap, ◌∙◌, subst, Bool, true, false}
use Rattle.std.specs.Prelude.{if◌then◌else◌}
use Rattle.std.specs.List.{AllByRecursion, flat_map}
use Rattle.rc_base.specs.Contexts.Context.{ClientContext}
use Rattle.rc_base.specs.Contexts.Issue.{stream_of, context_after, effect_at}
use Rattle.rc_base.specs.Cluster.Parcels.{told, parcel_of, parcels_at, parcels_before, parcels_of, end_parcel, draws_on}
use Rattle.rc_base.specs.declared.scene.Scene.{Scene}
use Rattle.rc_base.specs.declared.state.Effect.{Effect}
use Rattle.rc_base.specs.declared.state.Effect.TheVariants as eff
use Rattle.rc_base.specs.declared.state.ElementValue.{ElementValue}
use Rattle.rc_base.specs.declared.state.Parcel.{Parcel}
use Rattle.rc_base.specs.declared.window.Layout.{Layout}
use Rattle.order_model.specs.Log.{Job, IsNext}
use Rattle.order_model.specs.Log.Job.{Work, Wait}
use Rattle.order_model.specs.Sent.{job_of, jobs_of}
use Rattle.order_model.proofs.SceneJobsAreSent.{jobs_are}
use Rattle.tile_model.proofs.NextInLists.{next_is}

-- each parcel of a command is one job, and that of an operation sets nothing
abbrev pub IsOneJob : Parcel → Type 0
IsOneJob p = (j : Job) × (job_of p ≡ j ∷ []) × ((place : ℕ) → j ≡ Wait place → p.sets ≡ [])

-- what a command gives to a tile: at most one parcel
abbrev pub IsGiven : List Parcel → Type 0
IsGiven ps = (ps ≡ []) ⊎ ((p : Parcel) × (ps ≡ p ∷ []) × IsOneJob p)

by_test : (b : Bool) (n : ℕ) (p : Parcel) → job_of p ≡ Work n ∷ [] → IsGiven (if b then p ∷ [] else [])
by_test true n p e = inr (p, refl, (Work n, e, λ k f. absurd cc))
by_test false n p e = inl refl

given : (l : Layout) (tile : ℕ) (values : ℕ → ElementValue) (x : ClientContext) (n : ℕ) (effect : Effect) → IsGiven (parcel_of l tile values x n effect)
given l tile values x n (eff.Block b) = by_test (draws_on l tile x (eff.Block b)) n _ refl
given l tile values x n (eff.Clear m) = by_test (draws_on l tile x (eff.Clear m)) n _ refl
given l tile values x n (eff.Shared part) = inr (_, refl, (Work n, refl, λ k f. absurd cc))
given l tile values x n (eff.Sync op) = inr (_, refl, (Wait n, refl, λ k f. refl))
given l tile values x n eff.Quiet = inl refl
given l tile values x n (eff.Refused f) = inl refl

pub parcels_given : (scene : Scene) (l : Layout) (client tile n : ℕ) (earlier : List Parcel) → IsGiven (parcels_at scene l client tile n earlier)
parcels_given scene l client tile n earlier = given l tile (told scene.decl earlier) (context_after scene client n) n (effect_at scene client n)

one_more : (ps qs : List Parcel) → AllByRecursion IsOneJob ps → IsGiven qs → AllByRecursion IsOneJob (ps ++ qs)
one_more [] qs h (inl e) = subst (AllByRecursion IsOneJob) (sym e) tt
one_more [] qs h (inr w) = subst (AllByRecursion IsOneJob) (sym w.1) (w.2, tt)
one_more (p ∷ ps) qs h g = (h.0, one_more ps qs h.1 g)

all_one : (scene : Scene) (l : Layout) (client tile n : ℕ) → AllByRecursion IsOneJob (parcels_before scene l client tile n)
unfolding parcels_before
all_one scene l client tile zero = tt
all_one scene l client tile (suc n) =
    let earlier = parcels_before scene l client tile n in
    one_more earlier (parcels_at scene l client tile n earlier) (all_one scene l client tile n) (parcels_given scene l client tile n earlier)

-- ---- the job of a parcel

-- a job of that number, or the end
abbrev pub IsJobAt : List Job → ℕ → Parcel → Type 0
IsJobAt jobs k p = ((j : Job) × (job_of p ≡ j ∷ []) × IsNext (drop k jobs) j) ⊎ ((job_of p ≡ []) × (k ≡ length jobs))

drop_job : (p : Parcel) (j : Job) (k : ℕ) (jobs : List Job) → job_of p ≡ j ∷ [] → drop (suc k) (job_of p ++ jobs) ≡ drop k jobs
drop_job p j k jobs e = ap (λ js. drop (suc k) (js ++ jobs)) e

job_at : (ps : List Parcel) → AllByRecursion IsOneJob ps → (e : Parcel) → job_of e ≡ [] → (k : ℕ) (p : Parcel) (rest : List Parcel) → drop k (ps ++ e ∷ []) ≡ p ∷ rest
    → IsJobAt (flat_map job_of ps) k p
job_at [] h e none zero p rest is = let same : e ≡ p = cc in inr (ap job_of (sym same) ∙ none, refl)
job_at [] h e none (suc zero) p rest is = absurd cc
job_at [] h e none (suc (suc k)) p rest is = absurd cc
job_at (q ∷ ps) h e none zero p rest is =
    let same : q ≡ p = cc in
    let one : job_of p ≡ h.0.0 ∷ [] = ap job_of (sym same) ∙ h.0.1 in
    inl (h.0.0, one, (flat_map job_of ps, ap (λ js. js ++ flat_map job_of ps) h.0.1))
job_at (q ∷ ps) h e none (suc k) p rest is = elim (job_at ps h.1 e none k p rest is) [
  | inl w ↦ inl (w.0, w.1, (w.2.0, drop_job q h.0.0 k (flat_map job_of ps) h.0.1 ∙ w.2.1))
  | inr w ↦ inr (w.0, ap suc w.1 ∙ ap (λ js. length (js ++ flat_map job_of ps)) (sym h.0.1))
]

pub parcel_at : (scene : Scene) (l : Layout) (client tile k : ℕ) (p : Parcel) → slice_get (parcels_of scene l client tile) k ≡ Some p → IsJobAt (jobs_of scene l client tile) k p
unfolding parcels_of
parcel_at scene l client tile k p is =
    let n = length (stream_of scene client) in
    let next = next_is (parcels_of scene l client tile) k p is in
    subst (λ js. IsJobAt js k p) (sym (jobs_are scene l client tile)) (job_at (parcels_before scene l client tile n) (all_one scene l client tile n) (end_parcel n) refl k p next.0 next.1)

-- ---- the parcel of a job

abbrev pub IsParcelAt : List Parcel → ℕ → Job → Type 0
IsParcelAt ps k j = (p : Parcel) × (rest : List Parcel) × (drop k ps ≡ p ∷ rest) × ((place : ℕ) → j ≡ Wait place → p.sets ≡ [])

of_job : (ps : List Parcel) → AllByRecursion IsOneJob ps → (e : Parcel) (k : ℕ) (j : Job) → IsNext (drop k (flat_map job_of ps)) j → IsParcelAt (ps ++ e ∷ []) k j
of_job [] h e zero j n = absurd (let f : [] ≡ j ∷ n.0 = n.1 in cc)
of_job [] h e (suc k) j n = absurd (let f : [] ≡ j ∷ n.0 = n.1 in cc)
of_job (q ∷ ps) h e zero j n =
    let f : h.0.0 ∷ flat_map job_of ps ≡ j ∷ n.0 = sym (ap (λ js. js ++ flat_map job_of ps) h.0.1) ∙ n.1 in
    let same : h.0.0 ≡ j = cc in
    (q, ps ++ e ∷ [], refl, λ place is. h.0.2 place (same ∙ is))
of_job (q ∷ ps) h e (suc k) j n = of_job ps h.1 e k j (n.0, sym (drop_job q h.0.0 k (flat_map job_of ps) h.0.1) ∙ n.1)

pub job_parcel : (scene : Scene) (l : Layout) (client tile k : ℕ) (j : Job) → IsNext (drop k (jobs_of scene l client tile)) j → IsParcelAt (parcels_of scene l client tile) k j
unfolding parcels_of
job_parcel scene l client tile k j n =
    let m = length (stream_of scene client) in
    of_job (parcels_before scene l client tile m) (all_one scene l client tile m) (end_parcel m) k j (subst (λ js. IsNext (drop k js) j) (jobs_are scene l client tile) n)

-- ---- how many they are

one_at_most : (qs : List Parcel) → IsGiven qs → length qs ≤ 1
one_at_most qs (inl e) = omega (arith, ap length e)
one_at_most qs (inr w) = omega (arith, ap length w.1)

pub few_given : (scene : Scene) (l : Layout) (client tile n : ℕ) (earlier : List Parcel) → length (parcels_at scene l client tile n earlier) ≤ 1
few_given scene l client tile n earlier = one_at_most (parcels_at scene l client tile n earlier) (parcels_given scene l client tile n earlier)

few_before : (scene : Scene) (l : Layout) (client tile n : ℕ) → length (parcels_before scene l client tile n) ≤ n
unfolding parcels_before
few_before scene l client tile zero = omega arith
few_before scene l client tile (suc n) =
    let earlier = parcels_before scene l client tile n in
    let new = parcels_at scene l client tile n earlier in
    omega (arith, few_before scene l client tile n, few_given scene l client tile n earlier, length-append earlier new)

pub parcels_few : (scene : Scene) (l : Layout) (client tile : ℕ) → length (parcels_of scene l client tile) ≤ length (stream_of scene client) + 1
unfolding parcels_of
parcels_few scene l client tile =
    let n = length (stream_of scene client) in
    omega (arith, few_before scene l client tile n, length-append (parcels_before scene l client tile n) (end_parcel n ∷ []))
