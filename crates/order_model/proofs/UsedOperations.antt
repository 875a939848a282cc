-- What is left of each client's operations, by how many of them entries have used.
use Rattle.std.proofs.Common.{◌≡◌, ℕ, zero, suc, ◌+◌, ◌<◌, ◌≤◌, cond, List, [], ◌∷◌, drop, take, length, get_or, None, slice_get, inl, inr, refl, sym, ap, ◌∙◌, subst, arith}
use Rattle.std.specs.Prelude.{option_map}
use Rattle.std.specs.Option.{option_map_or}
use Rattle.std.proofs.lemmas.Bool.{cases_Bool}
use Rattle.std.proofs.lemmas.List.{drop-drop}
use Rattle.rc_base.specs.Orders.Journal.{SyncState, start, after, end_of, head_wait, is_member, reach_of, stop, sync_state_after}
use Rattle.rc_base.specs.Orders.Order.{entry_at}
use Rattle.rc_base.specs.Lists.{AreRising}
use Rattle.rc_base.specs.Orders.Sync.{IsWellFormed, client_count, ops_of, length_of, places_of}
use Rattle.rc_base.specs.declared.sync.Entry.{Entry}
use Rattle.rc_base.specs.declared.sync.SyncLists.{SyncLists}
use Rattle.rc_base.specs.declared.sync.WaitAt.{WaitAt}
use Rattle.order_model.specs.Counted.{used_by, place_or, place_or_end}

pub rest_is_drop : (syncs : SyncLists) (js : List Entry) (s : SyncState) (c : ℕ) → (end_of syncs s js).rest c ≡ drop (used_by (client_count syncs) c js) (s.rest c)
rest_is_drop syncs [] s c = refl
rest_is_drop syncs (e ∷ js) s c = elim (cases_Bool (is_member (client_count syncs) e c)) [
  | inl t ↦ rest_is_drop syncs js (after syncs s e) c ∙ rw t (drop-drop (used_by (client_count syncs) c js) 1 (s.rest c))
  | inr f ↦
      let same : 0 + used_by (client_count syncs) c js ≡ used_by (client_count syncs) c js = omega arith in
      rest_is_drop syncs js (after syncs s e) c ∙ rw (f, same) refl
]

head_drop : (n : ℕ) (ws : List WaitAt) → head_wait (drop n ws) ≡ slice_get ws n
head_drop zero [] = refl
head_drop zero (w ∷ ws) = refl
head_drop (suc n) [] = refl
head_drop (suc n) (w ∷ ws) = head_drop n ws

pub head_is : (syncs : SyncLists) (js : List Entry) (c : ℕ) → head_wait ((sync_state_after syncs js).rest c) ≡ slice_get (ops_of syncs c) (used_by (client_count syncs) c js)
head_is syncs js c = ap head_wait (rest_is_drop syncs js (start syncs) c) ∙ head_drop (used_by (client_count syncs) c js) (ops_of syncs c)

pub stop_is_place : (syncs : SyncLists) (js : List Entry) (c : ℕ) → stop syncs (sync_state_after syncs js) c ≡ place_or_end syncs c (used_by (client_count syncs) c js)
stop_is_place syncs js c = ap (λ o. option_map_or (λ (w : WaitAt). w.place) o (length_of syncs c)) (head_is syncs js c)

place_within : (low : ℕ) (ws : List WaitAt) (n k : ℕ) → AreRising low (places_of ws) n → place_or ws k n ≤ n
place_within low [] n k h = omega arith
place_within low (w ∷ ws) n zero h = omega (arith, h.1)
place_within low (w ∷ ws) n (suc k) h = place_within (w.place + 1) ws n k h.2

-- the reach of a client lies within its stream
pub reach_within : (syncs : SyncLists) (js : List Entry) (c : ℕ) → IsWellFormed syncs → reach_of syncs js c ≤ length_of syncs c
reach_within syncs js c well =
    subst (λ k. k ≤ length_of syncs c) (sym (stop_is_place syncs js c)) (place_within 0 (ops_of syncs c) (length_of syncs c) (used_by (client_count syncs) c js) (well.rising c))

pub entry_place : (syncs : SyncLists) (js : List Entry) (e : Entry) (c : ℕ)
    → (entry_at syncs (sync_state_after syncs js) e).at c ≡ cond (is_member (client_count syncs) e c) (option_map (λ (w : WaitAt). w.place) (slice_get (ops_of syncs c) (used_by (client_count syncs) c js))) None
entry_place syncs js e c = ap (λ o. cond (is_member (client_count syncs) e c) (option_map (λ (w : WaitAt). w.place) o) None) (head_is syncs js c)

-- ---- one entry more

pub end_more : (syncs : SyncLists) (s : SyncState) (js : List Entry) (k : ℕ) (e : Entry) → k < length js → e ≡ get_or js k e → end_of syncs s (take (k + 1) js) ≡ after syncs (end_of syncs s (take k js)) e
end_more syncs s [] k e lt is = absurd (omega arith)
end_more syncs s (f ∷ js) zero e lt is = ap (after syncs s) (sym is)
end_more syncs s (f ∷ js) (suc k) e lt is =
    let step : suc k + 1 ≡ suc (k + 1) = omega arith in
    ap (λ n. end_of syncs s (take n (f ∷ js))) step ∙ end_more syncs (after syncs s f) js k e (omega arith) is

pub used_more : (n c : ℕ) (js : List Entry) (k : ℕ) (e : Entry) → k < length js → e ≡ get_or js k e
    → used_by n c (take (k + 1) js) ≡ cond (is_member n e c) (used_by n c (take k js) + 1) (used_by n c (take k js))
used_more n c [] k e lt is = absurd (omega arith)
used_more n c (f ∷ js) zero e lt is = subst (λ x. used_by n c (f ∷ []) ≡ cond (is_member n x c) 1 0) (sym is) (elim (cases_Bool (is_member n f c)) [ inl t ↦ rw t refl | inr g ↦ rw g refl ])
used_more n c (f ∷ js) (suc k) e lt is =
    let step : suc k + 1 ≡ suc (k + 1) = omega arith in
    let here : ℕ = cond (is_member n f c) 1 0 in
    ap (λ m. used_by n c (take m (f ∷ js))) step
    ∙ ap (λ m. here + m) (used_more n c js k e (omega arith) is)
    ∙ elim (cases_Bool (is_member n e c)) [ inl t ↦ rw t (omega arith) | inr g ↦ rw g refl ]
