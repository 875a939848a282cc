-- The tally of a client's parcels to a tile, and of one parcel more.
use Rattle.std.proofs.Common.{◌≡◌, ℕ, ◌+◌, List, [], ◌∷◌, ◌++◌, length, sym, ap, ◌∙◌, arith, length-append}
use Rattle.std.specs.List.{flat_map}
use Rattle.std.specs.Prelude.{min}
use Rattle.std.proofs.lemmas.List.Sums.{sum-map, sum_by-append}
use Rattle.rc_base.specs.Cluster.Looks.{look_count, looks_at}
use Rattle.rc_base.specs.Cluster.Parcels.{set_count}
use Rattle.rc_base.specs.Outside.Causes.{last_count}
use Rattle.rc_base.specs.declared.scene.Scene.{Scene}
use Rattle.rc_base.specs.declared.state.Parcel.{Parcel}
use Rattle.rc_base.specs.declared.window.Layout.{Layout}
use Rattle.plain_lemmas.proofs.Numbers.{min_of_min}
use Rattle.client_issue.specs.Clauses.{counted}
use Rattle.client_issue.specs.Cores.{looks_of, tally_after, IsClientOf}
use Rattle.client_issue.specs.Sequence.{scene_of}
use Rattle.client_issue.specs.declared.client.ClientCore.{ClientCore}
use Rattle.client_issue.proofs.Firsts.{looks_alike}

sets_more : (parcels : List Parcel) (p : Parcel) → set_count (parcels ++ p ∷ []) ≡ set_count parcels + length p.sets
sets_more [] p = let a = length-append p.sets [] in omega (arith, a)
sets_more (q ∷ parcels) p =
    let h = sets_more parcels p in
    let a = length-append q.sets (flat_map (λ (r : Parcel). r.sets) (parcels ++ p ∷ [])) in
    let b = length-append q.sets (flat_map (λ (r : Parcel). r.sets) parcels) in
    omega (arith, h, a, b)

looks_more : (scene : Scene) (l : Layout) (client tile : ℕ) (parcels : List Parcel) (p : Parcel)
    → look_count scene l client tile (parcels ++ p ∷ []) ≡ look_count scene l client tile parcels + looks_at scene l client tile p.place
looks_more scene l client tile parcels p =
    let looks : Parcel → ℕ = λ q. looks_at scene l client tile q.place in
    let one : 0 + looks p ≡ looks p = omega arith in
    sum-map looks (parcels ++ p ∷ []) ∙ sum_by-append looks parcels (p ∷ []) ∙ (λ i. sym (sum-map looks parcels) i + one i)

pub counted_more : (scene : Scene) (l : Layout) (client tile : ℕ) (parcels : List Parcel) (p : Parcel)
    → counted scene l client tile (parcels ++ p ∷ []) ≡ tally_after (counted scene l client tile parcels) p (looks_at scene l client tile p.place)
counted_more scene l client tile parcels p =
    let a : min (length (parcels ++ p ∷ [])) last_count ≡ min (min (length parcels) last_count + 1) last_count =
    ap (λ n. min n last_count) (length-append parcels (p ∷ [])) ∙ sym (min_of_min (length parcels) 1 last_count) in
    let b : min (set_count (parcels ++ p ∷ [])) last_count ≡ min (min (set_count parcels) last_count + length p.sets) last_count =
    ap (λ n. min n last_count) (sets_more parcels p) ∙ sym (min_of_min (set_count parcels) (length p.sets) last_count) in
    let c : min (look_count scene l client tile (parcels ++ p ∷ [])) last_count ≡ min (min (look_count scene l client tile parcels) last_count + looks_at scene l client tile p.place) last_count =
    ap (λ n. min n last_count) (looks_more scene l client tile parcels p) ∙ sym (min_of_min (look_count scene l client tile parcels) (looks_at scene l client tile p.place) last_count) in
    λ i. record { parcels = a i; sets = b i; looks = c i }

-- a core's looks are its client's
pub looks_are : (core : ClientCore) (scene : Scene) (client : ℕ) (l : Layout) → IsClientOf core scene client l → (tile : ℕ) (p : Parcel)
    → looks_of core tile p ≡ looks_at scene l client tile p.place
looks_are core scene client l whose tile p =
    looks_alike (scene_of core.sender) scene 0 client whose.decl whose.stream core.sender.layout tile p.place
    ∙ ap (λ (m : Layout). looks_at scene m client tile p.place) whose.layout
