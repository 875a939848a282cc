-- The default journal is maximal.
use Rattle.std.proofs.Common.{◌≡◌, ℕ, zero, suc, ◌<◌, ◌≤◌, true, List, [], ◌∷◌, Option, Some, None, length, drop, inl, inr, refl, subst, arith}
use Rattle.std.specs.Prelude.{option_map}
use Rattle.std.proofs.lemmas.Bool.{cases_lt}
use Rattle.std.specs.Option.{option_map_or}
use Rattle.rc_base.specs.Orders.Grant.{grant, granted_from, operations_left}
use Rattle.rc_base.specs.Orders.Journal.{SyncState, start, is_member, op_of, IsLawful, after, IsMaximal, IsMaximalFrom, head_wait}
use Rattle.rc_base.specs.Orders.Order.{default_journal}
use Rattle.rc_base.specs.Orders.Sync.{IsWellFormed, client_count, ops_of}
use Rattle.rc_base.specs.declared.sync.Entry.{Entry}
use Rattle.rc_base.specs.declared.sync.SyncLists.{SyncLists}
use Rattle.rc_base.specs.declared.sync.SyncOp.{SyncOp}
use Rattle.rc_base.specs.declared.sync.WaitAt.{WaitAt}
use Rattle.order_model.proofs.JournalsInTurn.{rest_shrinks}
use Rattle.order_model.specs.Laws.{AreOfClients}
use Rattle.order_model.proofs.ClientsBeyond.{ops_past, past_after, member_within}
use Rattle.order_model.proofs.GrantsAreExact.{grant_lawful, grant_none}
use Rattle.order_model.proofs.MemberCounts.{some_member}

one_less : (ws : List WaitAt) (op : SyncOp) → option_map (λ (w : WaitAt). w.op) (head_wait ws) ≡ Some op → length (drop 1 ws) < length ws
one_less [] op h = absurd cc
one_less (w ∷ ws) op h = omega arith

rest_less : (syncs : SyncLists) (s : SyncState) (e : Entry) (c : ℕ) → IsLawful syncs s e → is_member (client_count syncs) e c ≡ true → length ((after syncs s e).rest c) < length (s.rest c)
rest_less syncs s e c p t = rw t (one_less (s.rest c) (op_of e) (p.next c t))

left_least : (f g : ℕ → List WaitAt) (n : ℕ) → ((c : ℕ) → length (f c) ≤ length (g c)) → operations_left f n ≤ operations_left g n
left_least f g zero h = omega arith
left_least f g (suc n) h = omega (arith, h n, left_least f g n h)

left_less : (f g : ℕ → List WaitAt) (n c : ℕ) → ((d : ℕ) → length (f d) ≤ length (g d)) → c < n → length (f c) < length (g c) → operations_left f n < operations_left g n
left_less f g zero c h lt less = absurd (omega arith)
left_less f g (suc n) c h lt less = elim (cases_lt c n) [
  | inl lt' ↦ omega (arith, h n, left_less f g n c h lt' less)
  | inr ge ↦ let e : c ≡ n = omega arith in omega (arith, left_least f g n h, subst (λ k. length (f k) < length (g k)) e less)
]

pub uses_one : (syncs : SyncLists) (s : SyncState) → IsWellFormed syncs → AreOfClients syncs s → (e : Entry) → IsLawful syncs s e → operations_left (after syncs s e).rest (client_count syncs) < operations_left s.rest (client_count syncs)
uses_one syncs s well none e p =
    let m = some_member syncs s well.some well.counts e p in
    left_less (after syncs s e).rest s.rest (client_count syncs) m.0 (rest_shrinks syncs s e) (member_within syncs s e none p m.0 m.1) (rest_less syncs s e m.0 p m.1)

granted_maximal : (syncs : SyncLists) → IsWellFormed syncs → (n : ℕ) (s : SyncState) → AreOfClients syncs s → operations_left s.rest (client_count syncs) ≤ n
    → IsMaximalFrom syncs s (granted_from syncs n s)
granted_maximal syncs well zero s none le = (tt, λ e p. omega (arith, uses_one syncs s well none e p))
granted_maximal syncs well (suc n) s none le = go (grant syncs s) refl
    (λ e p. granted_maximal syncs well n (after syncs s e) (past_after syncs s e none) (omega (arith, uses_one syncs s well none e p)))
  where
    go : (o : Option Entry) → grant syncs s ≡ o → ((e : Entry) → IsLawful syncs s e → IsMaximalFrom syncs (after syncs s e) (granted_from syncs n (after syncs s e)))
        → IsMaximalFrom syncs s (option_map_or (λ e. e ∷ granted_from syncs n (after syncs s e)) o [])
    go None h f = (tt, (grant_none syncs s none).0 h)
    go (Some e) h f = let p = grant_lawful syncs s e h in let r = f e p in ((p, r.0), r.1)

pub default_maximal : (syncs : SyncLists) → IsWellFormed syncs → IsMaximal syncs (default_journal syncs)
default_maximal syncs well = granted_maximal syncs well (operations_left (ops_of syncs) (client_count syncs)) (start syncs) (ops_past syncs) (omega arith)
