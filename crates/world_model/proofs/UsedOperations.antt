-- Operations that entries use: no more than arrived, and those arrived were asked for.
use Rattle.std.proofs.Common.{◌≡◌, ℕ, zero, suc, ◌+◌, ◌≤◌, Bool, true, cond, List, [], ◌∷◌, ◌++◌, drop, take, length, map, Some, slice_get, inl, inr, refl, sym, ap, ◌∙◌, arith, append_assoc}
use Rattle.std.proofs.lemmas.Bool.{cases_Bool}
use Rattle.std.proofs.lemmas.List.{take-append-drop}
use Rattle.rc_base.specs.Cluster.Sending.{request_of}
use Rattle.rc_base.specs.Orders.Journal.{SyncState, is_member, op_of, after, end_of, IsLegalFrom}
use Rattle.rc_base.specs.Orders.Sync.{client_count}
use Rattle.rc_base.specs.declared.sync.Entry.{Entry}
use Rattle.rc_base.specs.declared.sync.Grant.{Grant}
use Rattle.rc_base.specs.declared.sync.Grant.TheVariants as grant_item
use Rattle.rc_base.specs.declared.sync.SyncLists.{SyncLists}
use Rattle.rc_base.specs.declared.sync.WaitAt.{WaitAt}
use Rattle.tile_model.proofs.ItemsComeFromLanes.{no_entry}
use Rattle.order_model.proofs.JournalsInTurn.{head_used}
use Rattle.world_model.specs.Flowing.{asks, uses}

-- ---- of a client, in entries

module _ (n client : ℕ) where
  pub uses_append : (xs ys : List Entry) → uses n (xs ++ ys) client ≡ uses n xs client + uses n ys client
  uses_append [] ys = omega arith
  uses_append (e ∷ xs) ys = let h = uses_append xs ys in omega (arith, h)

  -- behind the first k entries there is one that uses one more
  pub uses_more : (es : List Entry) (k : ℕ) (e : Entry) → slice_get es k ≡ Some e → is_member n e client ≡ true → uses n (take k es) client + 1 ≤ uses n es client
  uses_more [] zero e is m = absurd cc
  uses_more [] (suc k) e is m = absurd cc
  uses_more (d ∷ es) zero e is m =
      let same : d ≡ e = cc in
      let one : cond {A = ℕ} (is_member n d client) 1 0 ≡ 1 = ap (λ b. cond {A = ℕ} b 1 0) (ap (λ x. is_member n x client) same ∙ m) in
      omega (arith, one)
  uses_more (d ∷ es) (suc k) e is m = let h = uses_more es k e is m in omega (arith, h)

  -- and with it the first k + 1 use as many as it
  pub uses_next : (es : List Entry) (k : ℕ) (e : Entry) → slice_get es k ≡ Some e
      → uses n (take (k + 1) es) client ≡ uses n (take k es) client + cond (is_member n e client) 1 0
  uses_next [] zero e is = absurd cc
  uses_next [] (suc k) e is = absurd cc
  uses_next (d ∷ es) zero e is =
      let same : d ≡ e = cc in
      let one : cond {A = ℕ} (is_member n d client) 1 0 ≡ cond (is_member n e client) 1 0 = ap (λ x. cond {A = ℕ} (is_member n x client) 1 0) same in
      omega (arith, one)
  uses_next (d ∷ es) (suc k) e is =
      let h = uses_next es k e is in
      let s : suc k + 1 ≡ suc (k + 1) = omega arith in
      rw s (omega (arith, h))

-- ---- legal entries use what is there

pub used_up : (syncs : SyncLists) (s : SyncState) (js : List Entry) (client : ℕ) → IsLegalFrom syncs s js
    → uses (client_count syncs) js client + length ((end_of syncs s js).rest client) ≡ length (s.rest client)
used_up syncs s [] client h = omega arith
used_up syncs s (e ∷ js) client h =
    let g = used_up syncs (after syncs s e) js client h.1 in
    elim (cases_Bool (is_member (client_count syncs) e client)) [
      | inl t ↦
          let one = head_used (s.rest client) (op_of e) (h.0.next client t) in
          let rest : length ((after syncs s e).rest client) ≡ length (drop 1 (s.rest client)) = rw t refl in
          let here : cond {A = ℕ} (is_member (client_count syncs) e client) 1 0 ≡ 1 = rw t refl in
          omega (arith, g, one, rest, here)
      | inr f ↦
          let rest : length ((after syncs s e).rest client) ≡ length (s.rest client) = rw f refl in
          let here : cond {A = ℕ} (is_member (client_count syncs) e client) 1 0 ≡ 0 = rw f refl in
          omega (arith, g, rest, here)
    ]

-- ---- and are of clients

-- ---- requests

pub asks_of_waits : (ws : List WaitAt) → asks (map request_of ws) ≡ length ws
asks_of_waits [] = omega arith
asks_of_waits (w ∷ ws) = let h = asks_of_waits ws in omega (arith, h)

-- ---- what a tile learnt is a front of the journal

abbrev pub entries : List Entry → List Grant
entries es = map (λ e. grant_item.Entry e) es

abbrev pub closing : Bool → List Grant
closing b = cond b (grant_item.NoMore ∷ []) []

learnt_front : (sent learnt : List Entry) (told seen : Bool) (held : List Grant) → entries sent ++ closing told ≡ (entries learnt ++ closing seen) ++ held
    → (more : List Entry) × (sent ≡ learnt ++ more)
learnt_front sent [] told seen held h = (sent, refl)
learnt_front [] (y ∷ learnt) told seen held h = absurd (no_entry told y ((entries learnt ++ closing seen) ++ held) h)
learnt_front (x ∷ sent) (y ∷ learnt) told seen held h =
    let r = learnt_front sent learnt told seen held cc in
    let same : x ≡ y = cc in
    (r.0, ap (λ e. e ∷ sent) same ∙ ap (λ es. y ∷ es) r.1)

pub journal_front : (journal learnt : List Entry) (delivered : ℕ) (told seen : Bool) (held : List Grant)
    → entries (take delivered journal) ++ closing told ≡ (entries learnt ++ closing seen) ++ held → (more : List Entry) × (journal ≡ learnt ++ more)
journal_front journal learnt delivered told seen held h =
    let r = learnt_front (take delivered journal) learnt told seen held h in (
      r.0 ++ drop delivered journal,
      sym (take-append-drop delivered journal) ∙ ap (λ js. js ++ drop delivered journal) r.1 ∙ append_assoc learnt r.0 (drop delivered journal),
    )
