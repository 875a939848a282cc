-- What follows of items that go to the tiles and to the manager in turn.
use Rattle.std.proofs.Common.{◌≡◌, ℕ, ◌+◌, ◌==◌, ◌||◌, ◌<◌, ◌≤◌, Bool, true, false, cond, List, [], ◌∷◌, ◌++◌, inl, inr, refl, sym, ap, ◌∙◌, arith, true≢false}
use Rattle.std.proofs.lemmas.Bool.{cases_Bool}
use Rattle.std.specs.List.{list_any}
use Rattle.rc_base.specs.Cluster.Parcels.{is_end}
use Rattle.rc_base.specs.Cluster.Sending.{Sending, ToTile, ToManager, parcels_to, requests_in}
use Rattle.rc_base.specs.declared.state.Parcel.{Parcel}
use Rattle.rc_base.specs.declared.sync.Request.{Request}
use Rattle.rc_base.specs.declared.sync.Request.TheVariants as request
use Rattle.sync_manager.specs.Progress.{is_end as is_end_request}
use Rattle.plain_lemmas.proofs.Lists.{both_empty}
use Rattle.scene_lemmas.proofs.Sendings.{parcels_append}
use Rattle.world_model.specs.Flowing.{wait_by, ask_by, waits, asks, is_end_parcel, IsInTurn, EndsWithRequest}

-- ---- lists

pub waits_append : (ps qs : List Parcel) → waits (ps ++ qs) ≡ waits ps + waits qs
waits_append [] qs = omega arith
waits_append (p ∷ ps) qs = let h = waits_append ps qs in omega (arith, h)

pub asks_append : (rs qs : List Request) → asks (rs ++ qs) ≡ asks rs + asks qs
asks_append [] qs = omega arith
asks_append (r ∷ rs) qs = let h = asks_append rs qs in omega (arith, h)

pub any_append : {A : Type 0} (f : A → Bool) (xs ys : List A) → list_any f (xs ++ ys) ≡ (list_any f xs || list_any f ys)
any_append f [] ys = refl
any_append f (x ∷ xs) ys = elim (cases_Bool (f x)) [ inl t ↦ rw t refl | inr n ↦ rw n (any_append f xs ys) ]

-- ---- the parcels of one tile

module _ (tile : ℕ) where
  -- at any point the manager was asked for no more operations than the tile was told of
  pub asked_within : (told asked : ℕ) (sent left : List Sending) → IsInTurn tile told asked (sent ++ left) → asked ≤ told
      → asked + asks (requests_in sent) ≤ told + waits (parcels_to tile sent)
  asked_within told asked [] left h le = omega (arith, le)
  asked_within told asked (ToTile k p ∷ sent) left h le = elim (cases_Bool (tile == k)) [
    | inl t ↦
        let next : IsInTurn tile (told + wait_by p.act) asked (sent ++ left) = rw t at h.1 in
        let g = asked_within (told + wait_by p.act) asked sent left next (omega (arith, le)) in
        rw t (omega (arith, g))
    | inr f ↦
        let next : IsInTurn tile (told + 0) asked (sent ++ left) = rw f at h.1 in
        let g = asked_within (told + 0) asked sent left next (omega (arith, le)) in
        rw f (omega (arith, g))
  ]
  asked_within told asked (ToManager (request.Op place op) ∷ sent) left h le =
      let a = h.0 in
      let g = asked_within told (asked + 1) sent left h.1 (omega (arith, a)) in
      omega (arith, g)
  asked_within told asked (ToManager request.End ∷ sent) left h le =
      let g = asked_within told (asked + 0) sent left h.1 (omega (arith, le)) in
      omega (arith, g)

  -- behind its End the tile gets nothing
  pub end_is_last : (told asked : ℕ) (sent left : List Sending) (took held : List Parcel) → IsInTurn tile told asked (sent ++ left)
      → parcels_to tile sent ≡ took ++ held → list_any is_end_parcel took ≡ true → (held ≡ []) × (parcels_to tile left ≡ [])
  end_is_last told asked sent left [] held h e any = absurd (true≢false (sym any))
  end_is_last told asked [] left (q ∷ took) held h e any = absurd cc
  end_is_last told asked (ToTile k p ∷ sent) left (q ∷ took) held h e any = elim (cases_Bool (tile == k)) [
    | inl t ↦
        let next : IsInTurn tile (told + wait_by p.act) asked (sent ++ left) = rw t at h.1 in
        let all : p ∷ parcels_to tile sent ≡ q ∷ (took ++ held) = rw t at e in
        let here : q ≡ p = (let s : p ≡ q = cc in sym s) in
        let rest : parcels_to tile sent ≡ took ++ held = cc in
        elim (cases_Bool (is_end p.act)) [
          | inl y ↦
              let none = both_empty (parcels_to tile sent) (parcels_to tile left) (sym (parcels_append tile sent left) ∙ (h.0 t).last y) in
              ((both_empty took held (sym rest ∙ none.0)).1, none.1)
          | inr n ↦
              let not_here : is_end_parcel q ≡ false = ap is_end_parcel here ∙ n in
              end_is_last (told + wait_by p.act) asked sent left took held next rest (sym (ap (λ b. b || list_any is_end_parcel took) not_here) ∙ any)
        ]
    | inr f ↦
        let next : IsInTurn tile (told + 0) asked (sent ++ left) = rw f at h.1 in
        let all : parcels_to tile sent ≡ q ∷ (took ++ held) = rw f at e in
        end_is_last (told + 0) asked sent left (q ∷ took) held next all any
  ]
  end_is_last told asked (ToManager r ∷ sent) left (q ∷ took) held h e any = end_is_last told (asked + ask_by r) sent left (q ∷ took) held h.1 e any

  -- Where the tile took more operations than the manager was asked for, what is behind them can only be its End: so nothing more goes to the tile.
  pub no_more_behind : (told asked : ℕ) (sent : List Sending) (took held : List Parcel) (x p : Parcel) (rest : List Sending)
      → IsInTurn tile told asked (sent ++ ToTile tile p ∷ rest) → (tile == tile) ≡ true → parcels_to tile sent ≡ took ++ x ∷ held
      → asked + asks (requests_in sent) < told + waits took → ⊥
  no_more_behind told asked [] [] held x p rest h same e less = cc
  no_more_behind told asked [] (q ∷ took) held x p rest h same e less = cc
  no_more_behind told asked (ToTile k q ∷ sent) [] held x p rest h same e less = elim (cases_Bool (tile == k)) [
    | inl t ↦
        let turn = h.0 t in
        elim (cases_Bool (is_end q.act)) [
          | inl y ↦
              let none : parcels_to tile (sent ++ ToTile tile p ∷ rest) ≡ [] = turn.last y in
              let behind = (both_empty (parcels_to tile sent) (parcels_to tile (ToTile tile p ∷ rest)) (sym (parcels_append tile sent (ToTile tile p ∷ rest)) ∙ none)).1 in
              let there : p ∷ parcels_to tile rest ≡ [] = rw same at behind in
              cc
          | inr n ↦ let a = turn.asked_all n in omega (arith, a, less)
        ]
    | inr f ↦
        let next : IsInTurn tile (told + 0) asked (sent ++ ToTile tile p ∷ rest) = rw f at h.1 in
        let all : parcels_to tile sent ≡ x ∷ held = rw f at e in
        no_more_behind (told + 0) asked sent [] held x p rest next same all (omega (arith, less))
  ]
  no_more_behind told asked (ToTile k q ∷ sent) (u ∷ took) held x p rest h same e less = elim (cases_Bool (tile == k)) [
    | inl t ↦
        let next : IsInTurn tile (told + wait_by q.act) asked (sent ++ ToTile tile p ∷ rest) = rw t at h.1 in
        let all : q ∷ parcels_to tile sent ≡ u ∷ (took ++ x ∷ held) = rw t at e in
        let here : q ≡ u = cc in
        let tail : parcels_to tile sent ≡ took ++ x ∷ held = cc in
        let w : wait_by q.act ≡ wait_by u.act = ap (λ (y : Parcel). wait_by y.act) here in
        no_more_behind (told + wait_by q.act) asked sent took held x p rest next same tail (omega (arith, less, w))
    | inr f ↦
        let next : IsInTurn tile (told + 0) asked (sent ++ ToTile tile p ∷ rest) = rw f at h.1 in
        let all : parcels_to tile sent ≡ u ∷ (took ++ x ∷ held) = rw f at e in
        no_more_behind (told + 0) asked sent (u ∷ took) held x p rest next same all (omega (arith, less))
  ]
  no_more_behind told asked (ToManager r ∷ sent) took held x p rest h same e less =
      no_more_behind told (asked + ask_by r) sent took held x p rest h.1 same e (omega (arith, less))

  -- what comes between may be left out, where what is behind it comes in turn at any point
  pub cut_turns : (told asked : ℕ) (sent dropped last : List Sending) → IsInTurn tile told asked (sent ++ (dropped ++ last))
      → ((t a : ℕ) → IsInTurn tile t a last) → IsInTurn tile told asked (sent ++ last)
  cut_turns told asked [] dropped last h any = any told asked
  cut_turns told asked (ToTile k p ∷ sent) dropped last h any = (
    λ t. record {
      asked_all = (h.0 t).asked_all;
      last = λ y.
          let none = both_empty (parcels_to tile sent) (parcels_to tile (dropped ++ last)) (sym (parcels_append tile sent (dropped ++ last)) ∙ (h.0 t).last y) in
          let behind = both_empty (parcels_to tile dropped) (parcels_to tile last) (sym (parcels_append tile dropped last) ∙ none.1) in
          parcels_append tile sent last ∙ ap (λ ps. ps ++ parcels_to tile last) none.0 ∙ behind.1;
    },
    cut_turns (told + cond (tile == k) (wait_by p.act) 0) asked sent dropped last h.1 any,
  )
  cut_turns told asked (ToManager r ∷ sent) dropped last h any = (h.0, cut_turns told (asked + ask_by r) sent dropped last h.1 any)

-- ---- requests

pub end_request_is_last : (sent left : List Sending) (took held : List Request) → EndsWithRequest (sent ++ left) → requests_in sent ≡ took ++ held
    → list_any is_end_request took ≡ true → (held ≡ []) × (left ≡ [])
end_request_is_last sent left [] held h e any = absurd (true≢false (sym any))
end_request_is_last [] left (q ∷ took) held h e any = absurd cc
end_request_is_last (ToTile k p ∷ sent) left (q ∷ took) held h e any = end_request_is_last sent left (q ∷ took) held h e any
end_request_is_last (ToManager r ∷ sent) left (q ∷ took) held h e any =
    let here : q ≡ r = (let s : r ≡ q = cc in sym s) in
    let rest : requests_in sent ≡ took ++ held = cc in
    elim (cases_Bool (is_end_request r)) [
      | inl y ↦
          let none = both_empty sent left (h.0 y) in
          let tail : took ++ held ≡ [] = sym rest ∙ ap requests_in none.0 in
          ((both_empty took held tail).1, none.1)
      | inr n ↦ end_request_is_last sent left took held h.1 rest (sym (ap (λ b. b || list_any is_end_request took) (ap is_end_request here ∙ n)) ∙ any)
    ]

pub cut_requests : (sent dropped last : List Sending) → EndsWithRequest (sent ++ (dropped ++ last)) → EndsWithRequest last → EndsWithRequest (sent ++ last)
cut_requests [] dropped last h e = e
cut_requests (ToTile k p ∷ sent) dropped last h e = cut_requests sent dropped last h e
cut_requests (ToManager r ∷ sent) dropped last h e = (
  λ y.
      let none = both_empty sent (dropped ++ last) (h.0 y) in
      ap (λ xs. xs ++ last) none.0 ∙ (both_empty dropped last none.1).1,
  cut_requests sent dropped last h.1 e,
)
