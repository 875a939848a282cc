-- A client's sequence is ordered: the parcels of an operation go to all tiles before its request does. So behind any point of it a tile gets at most as
-- many operations as the manager, and as many where the next item is the tile's.
use Rattle.std.proofs.Common.{◌≡◌, ◌≢◌, ℕ, zero, suc, ◌+◌, ◌==◌, ◌<◌, ◌≤◌, true, false, List, [], ◌∷◌, ◌++◌, ◌⊎◌, length, map, inl, inr, refl, sym, ap, ◌∙◌, subst, arith, append_assoc, eqb-true, eq-eqb, true≢false}
use Rattle.std.proofs.lemmas.Bool.{cases_Bool, cases_lt}
use Rattle.std.specs.List.{flat_map, range_with_len}
use Rattle.rc_base.specs.Contexts.Context.{ClientContext}
use Rattle.rc_base.specs.Contexts.Issue.{stream_of, context_after, effect_at}
use Rattle.rc_base.specs.Cluster.Parcels.{parcel_of, parcels_at, parcels_before, end_parcel, told, draws_on, sets_for}
use Rattle.rc_base.specs.Cluster.Sending.{Sending, ToTile, ToManager, parcels_to, requests_in, request_of, sent_at, sent_before, sent_last, sent_by}
use Rattle.rc_base.specs.Cluster.Tiles.{tile_count}
use Rattle.rc_base.specs.Orders.Sync.{wait_of}
use Rattle.rc_base.specs.declared.scene.Scene.{Scene}
use Rattle.rc_base.specs.declared.state.Act.TheVariants as act
use Rattle.rc_base.specs.declared.state.Effect.{Effect}
use Rattle.rc_base.specs.declared.state.Effect.TheVariants as eff
use Rattle.rc_base.specs.declared.state.ElementValue.{ElementValue}
use Rattle.rc_base.specs.declared.state.Parcel.{Parcel}
use Rattle.rc_base.specs.declared.sync.Request.TheVariants as request
use Rattle.rc_base.specs.declared.sync.WaitAt.{WaitAt}
use Rattle.rc_base.specs.declared.window.Layout.{Layout}
use Rattle.scene_lemmas.proofs.Sendings.{parcels_append, requests_append}
use Rattle.world_model.specs.Flowing.{wait_by, waits, asks}
use Rattle.world_model.proofs.OrderlySequences.{waits_append, asks_append}

-- ---- operations among the items of a sequence

module _ (tile : ℕ) where
  abbrev pub told_waits : List Sending → ℕ
  told_waits items = waits (parcels_to tile items)

  abbrev pub told_asks : List Sending → ℕ
  told_asks items = asks (requests_in items)

  -- the item goes to the tile
  abbrev pub IsTo : Sending → Type 0
  IsTo (ToTile k p) = (tile == k) ≡ true
  IsTo (ToManager r) = ⊥

  abbrev pub AreOrdered : List Sending → Type 0
  AreOrdered [] = Unit {0}
  AreOrdered (x ∷ items) = (told_waits (x ∷ items) ≤ told_asks (x ∷ items)) × (IsTo x → told_asks (x ∷ items) ≤ told_waits (x ∷ items)) × AreOrdered items

  waits_of : (xs ys : List Sending) → told_waits (xs ++ ys) ≡ told_waits xs + told_waits ys
  waits_of xs ys = ap waits (parcels_append tile xs ys) ∙ waits_append (parcels_to tile xs) (parcels_to tile ys)

  asks_of : (xs ys : List Sending) → told_asks (xs ++ ys) ≡ told_asks xs + told_asks ys
  asks_of xs ys = ap asks (requests_append xs ys) ∙ asks_append (requests_in xs) (requests_in ys)

  -- in front of an ordered list with as many of both
  ordered_append : (xs ys : List Sending) → AreOrdered xs → AreOrdered ys → told_waits ys ≡ told_asks ys → AreOrdered (xs ++ ys)
  ordered_append [] ys h k e = k
  ordered_append (x ∷ xs) ys h k e =
      let w = waits_of (x ∷ xs) ys in
      let a = asks_of (x ∷ xs) ys in
      (let b = h.0 in omega (arith, w, a, b, e), λ to. (let b = h.1 to in omega (arith, w, a, b, e)), ordered_append xs ys h.2 k e)

  -- the end of an ordered list is ordered
  pub ordered_end : (xs ys : List Sending) → AreOrdered (xs ++ ys) → AreOrdered ys
  ordered_end [] ys h = h
  ordered_end (x ∷ xs) ys h = ordered_end xs ys h.2

  -- ---- parcels for tiles, and then requests

  module _ (f : ℕ → List Parcel) (few : (k : ℕ) → (f k ≡ []) ⊎ ((p : Parcel) × (f k ≡ p ∷ []))) (behind : List Sending)
      (none : told_waits behind ≡ 0) (ordered : AreOrdered behind) (same : waits (f tile) ≡ told_asks behind) where
    abbrev these : ℕ → ℕ → List Sending
    these from n = flat_map (λ k. map (λ p. ToTile k p) (f k)) (range_with_len from n) ++ behind

    pub record IsChunk (from n : ℕ) : Type 0 where
      pub asks_are : told_asks (these from n) ≡ told_asks behind
      pub later : tile < from → told_waits (these from n) ≡ 0
      pub within : from ≤ tile → tile < from + n → told_waits (these from n) ≡ told_asks behind
      pub past : from + n ≤ tile → told_waits (these from n) ≡ 0
      pub ordered_all : AreOrdered (these from n)

    -- one more tile in front
    one_more : (from n : ℕ) → IsChunk (from + 1) n → f from ≡ [] → IsChunk from (suc n)
    one_more from n h e =
        let skip : these from (suc n) ≡ these (from + 1) n = ap (λ ps. (map (λ p. ToTile from p) ps ++ flat_map (λ k. map (λ p. ToTile k p) (f k)) (range_with_len (from + 1) n)) ++ behind) e in
        record {
          asks_are = ap told_asks skip ∙ h.asks_are;
          later = λ lt. ap told_waits skip ∙ h.later (omega arith);
          within = λ le lt. ap told_waits skip ∙ elim (cases_Bool (tile == from)) [
            | inl t ↦ let at = eqb-true tile from t in h.later (omega (arith, at)) ∙ (ap waits (sym (ap f at ∙ e))) ∙ same
            | inr nf ↦ h.within (let ne : tile ≢ from = λ s. true≢false (sym (eq-eqb tile from s) ∙ nf) in omega (arith, ne, le)) (omega arith)
          ];
          past = λ le. ap told_waits skip ∙ h.past (omega arith);
          ordered_all = subst AreOrdered (sym skip) h.ordered_all;
        }

    one_there : (from n : ℕ) (p : Parcel) → IsChunk (from + 1) n → f from ≡ p ∷ [] → IsChunk from (suc n)
    one_there from n p h e =
        let rest = these (from + 1) n in
        let add : these from (suc n) ≡ ToTile from p ∷ rest = ap (λ ps. (map (λ p. ToTile from p) ps ++ flat_map (λ k. map (λ p. ToTile k p) (f k)) (range_with_len (from + 1) n)) ++ behind) e in
        elim (cases_Bool (tile == from)) [
          | inl t ↦
              let at : tile ≡ from = eqb-true tile from t in
              let here : told_waits (ToTile from p ∷ rest) ≡ told_asks behind =
              rw t (let z = h.later (omega (arith, at)) in let s : wait_by p.act + 0 ≡ told_asks behind = ap waits (sym (ap f at ∙ e)) ∙ same in omega (arith, z, s)) in
              record {
                asks_are = ap told_asks add ∙ h.asks_are;
                later = λ lt. absurd (omega (arith, lt, at));
                within = λ le lt. ap told_waits add ∙ here;
                past = λ le. absurd (omega (arith, le, at));
                ordered_all = subst AreOrdered (sym add) (let a = h.asks_are in omega (arith, here, a), λ to. (let a = h.asks_are in omega (arith, here, a)), h.ordered_all);
              }
          | inr nf ↦
              let here : told_waits (ToTile from p ∷ rest) ≡ told_waits rest = rw nf refl in
              let ne : tile ≢ from = λ s. true≢false (sym (eq-eqb tile from s) ∙ nf) in
              record {
                asks_are = ap told_asks add ∙ h.asks_are;
                later = λ lt. ap told_waits add ∙ here ∙ h.later (omega arith);
                within = λ le lt. ap told_waits add ∙ here ∙ h.within (omega (arith, ne, le)) (omega arith);
                past = λ le. ap told_waits add ∙ here ∙ h.past (omega arith);
                ordered_all = subst AreOrdered (sym add) (most from n h here, λ to. absurd (true≢false (sym to ∙ nf)), h.ordered_all);
              }
        ]
      where
        most : (from n : ℕ) → IsChunk (from + 1) n → told_waits (ToTile from p ∷ these (from + 1) n) ≡ told_waits (these (from + 1) n)
            → told_waits (ToTile from p ∷ these (from + 1) n) ≤ told_asks (these (from + 1) n)
        most from n h here = elim (cases_lt tile (from + 1)) [
          | inl lt ↦ let z = h.later lt in omega (arith, z, here)
          | inr ge ↦ elim (cases_lt tile (from + 1 + n)) [
            | inl lt ↦ let z = h.within ge lt in let a = h.asks_are in omega (arith, z, a, here)
            | inr past ↦ let z = h.past past in omega (arith, z, here)
          ]
        ]

    pub chunk : (from n : ℕ) → IsChunk from n
    chunk from zero = record { asks_are = refl; later = λ lt. none; within = λ le lt. absurd (omega arith); past = λ le. none; ordered_all = ordered }
    chunk from (suc n) = elim (few from) [
      | inl e ↦ one_more from n (chunk (from + 1) n) e
      | inr e ↦ one_there from n e.0 (chunk (from + 1) n) e.1
    ]

-- ---- the sequence

pub few_parcels : (l : Layout) (tile : ℕ) (values : ℕ → ElementValue) (x : ClientContext) (place : ℕ) (effect : Effect)
    → (parcel_of l tile values x place effect ≡ []) ⊎ ((p : Parcel) × (parcel_of l tile values x place effect ≡ p ∷ []))
few_parcels l tile values x place eff.Quiet = inl refl
few_parcels l tile values x place (eff.Refused fault) = inl refl
few_parcels l tile values x place (eff.Block block) = elim (cases_Bool (draws_on l tile x (eff.Block block))) [
  | inl t ↦ inr (record { place = place; sets = sets_for values x true; act = act.Draw block }, rw t refl)
  | inr f ↦ inl (rw f refl)
]
few_parcels l tile values x place (eff.Clear mask) = elim (cases_Bool (draws_on l tile x (eff.Clear mask))) [
  | inl t ↦ inr (record { place = place; sets = sets_for values x false; act = act.Clear mask }, rw t refl)
  | inr f ↦ inl (rw f refl)
]
few_parcels l tile values x place (eff.Shared part) = inr (record { place = place; sets = []; act = act.Shared part }, refl)
few_parcels l tile values x place (eff.Sync op) = inr (record { place = place; sets = []; act = act.Sync op }, refl)

same_waits : (l : Layout) (tile : ℕ) (values : ℕ → ElementValue) (x : ClientContext) (place : ℕ) (effect : Effect)
    → waits (parcel_of l tile values x place effect) ≡ told_asks tile (map (λ (w : WaitAt). ToManager (request_of w)) (wait_of place effect))
same_waits l tile values x place eff.Quiet = refl
same_waits l tile values x place (eff.Refused fault) = refl
same_waits l tile values x place (eff.Block block) = elim (cases_Bool (draws_on l tile x (eff.Block block))) [ inl t ↦ rw t refl | inr f ↦ rw f refl ]
same_waits l tile values x place (eff.Clear mask) = elim (cases_Bool (draws_on l tile x (eff.Clear mask))) [ inl t ↦ rw t refl | inr f ↦ rw f refl ]
same_waits l tile values x place (eff.Shared part) = refl
same_waits l tile values x place (eff.Sync op) = refl

requests_alone : (tile : ℕ) (ws : List WaitAt) → (told_waits tile (map (λ (w : WaitAt). ToManager (request_of w)) ws) ≡ 0) × AreOrdered tile (map (λ (w : WaitAt). ToManager (request_of w)) ws)
requests_alone tile [] = (refl, tt)
requests_alone tile (w ∷ ws) = let h = requests_alone tile ws in (h.0, (let z = h.0 in omega (arith, z), λ to. absurd to, h.1))

module _ (scene : Scene) (l : Layout) (client tile : ℕ) (low : tile < tile_count l) where
  at_ordered : (place : ℕ) → AreOrdered tile (sent_at scene l client place) × (told_waits tile (sent_at scene l client place) ≡ told_asks tile (sent_at scene l client place))
  at_ordered place =
      let f : ℕ → List Parcel = λ k. parcels_at scene l client k place (parcels_before scene l client k place) in
      let ws = wait_of place (effect_at scene client place) in
      let r = requests_alone tile ws in
      let c = chunk tile f (λ k. few_parcels l k (told scene.decl (parcels_before scene l client k place)) (context_after scene client place) place (effect_at scene client place))
      (map (λ (w : WaitAt). ToManager (request_of w)) ws) r.0 r.1
      (same_waits l tile (told scene.decl (parcels_before scene l client tile place)) (context_after scene client place) place (effect_at scene client place)) 0 (tile_count l) in
      (c.ordered_all, c.within (omega arith) (omega (arith, low)) ∙ sym c.asks_are)

  last_ordered : AreOrdered tile (sent_last scene l client) × (told_waits tile (sent_last scene l client) ≡ told_asks tile (sent_last scene l client))
  last_ordered =
      let c = chunk tile (λ k. end_parcel (length (stream_of scene client)) ∷ []) (λ k. inr (end_parcel (length (stream_of scene client)), refl))
      (ToManager request.End ∷ []) refl (omega arith, λ to. absurd to, tt) refl 0 (tile_count l) in
      (c.ordered_all, c.within (omega arith) (omega (arith, low)) ∙ sym c.asks_are)

  before_ordered : (n : ℕ) (items : List Sending) → AreOrdered tile items → told_waits tile items ≡ told_asks tile items → AreOrdered tile (sent_before scene l client n ++ items)
  unfolding sent_before
  before_ordered zero items h e = h
  before_ordered (suc n) items h e =
      let a = at_ordered n in
      subst (AreOrdered tile) (sym (append_assoc (sent_before scene l client n) (sent_at scene l client n) items))
      (before_ordered n (sent_at scene l client n ++ items) (ordered_append tile (sent_at scene l client n) items a.0 h e)
      (let w = waits_of tile (sent_at scene l client n) items in let q = asks_of tile (sent_at scene l client n) items in let b = a.1 in omega (arith, w, q, b, e)))

  pub sequence_ordered : AreOrdered tile (sent_by scene l client)
  unfolding sent_by
  sequence_ordered = let z = last_ordered in before_ordered (length (stream_of scene client)) (sent_last scene l client) z.0 z.1

  before_same : (n : ℕ) → told_waits tile (sent_before scene l client n) ≡ told_asks tile (sent_before scene l client n)
  unfolding sent_before
  before_same zero = refl
  before_same (suc n) =
      let h = before_same n in
      let a = (at_ordered n).1 in
      let w = waits_of tile (sent_before scene l client n) (sent_at scene l client n) in
      let q = asks_of tile (sent_before scene l client n) (sent_at scene l client n) in
      omega (arith, h, a, w, q)

  -- in all the tile gets as many operations as the manager
  pub sequence_same : told_waits tile (sent_by scene l client) ≡ told_asks tile (sent_by scene l client)
  unfolding sent_by
  sequence_same =
      let n = length (stream_of scene client) in
      let h = before_same n in
      let a = last_ordered.1 in
      let w = waits_of tile (sent_before scene l client n) (sent_last scene l client) in
      let q = asks_of tile (sent_before scene l client n) (sent_last scene l client) in
      omega (arith, h, a, w, q)
