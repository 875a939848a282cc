-- Clients beyond the last one: they have no operations and no commands, are no members, and stay so.
use Rattle.std.proofs.Common.{◌≡◌, ℕ, ◌<◌, ◌≤◌, true, List, [], ◌∷◌, Some, None, inl, inr, refl, ap, ◌∙◌}
use Rattle.std.specs.Prelude.{option_map}
use Rattle.std.proofs.lemmas.Bool.{cases_lt, cases_Bool}
use Rattle.std.proofs.lemmas.Option.{slice_get_past}
use Rattle.std.specs.Option.{option_map_or}
use Rattle.rc_base.specs.Orders.Journal.{SyncState, start, head_wait, next, stop, is_member, op_of, IsLawful, after, end_of, reach_of}
use Rattle.rc_base.specs.Orders.Sync.{client_count, client_row, ops_of, length_of}
use Rattle.rc_base.specs.declared.sync.Entry.{Entry}
use Rattle.rc_base.specs.declared.sync.SyncLists.{SyncLists}
use Rattle.rc_base.specs.declared.sync.SyncOp.{SyncOp}
use Rattle.rc_base.specs.declared.sync.SyncRow.{SyncRow}
use Rattle.rc_base.specs.declared.sync.WaitAt.{WaitAt}
use Rattle.order_model.specs.Laws.{AreOfClients}

-- ---- of the lists

row_past : (syncs : SyncLists) (c : ℕ) → client_count syncs ≤ c → client_row syncs c ≡ record { ops = []; length = 0 }
row_past syncs c le = rw (slice_get_past syncs.clients c le) refl

pub ops_past : (syncs : SyncLists) (c : ℕ) → client_count syncs ≤ c → ops_of syncs c ≡ []
ops_past syncs c le = ap (λ (r : SyncRow). r.ops) (row_past syncs c le)

pub length_past : (syncs : SyncLists) (c : ℕ) → client_count syncs ≤ c → length_of syncs c ≡ 0
length_past syncs c le = ap (λ (r : SyncRow). r.length) (row_past syncs c le)

-- ---- of a state

-- who waits is a client
pub waits_within : (syncs : SyncLists) (s : SyncState) → AreOfClients syncs s → (c : ℕ) (op : SyncOp) → next s c ≡ Some op → c < client_count syncs
waits_within syncs s none c op h = elim (cases_lt c (client_count syncs)) [
  | inl lt ↦ lt
  | inr le ↦ let gone : next s c ≡ None = ap (λ ws. option_map (λ (w : WaitAt). w.op) (head_wait ws)) (none c le) in absurd (cc (gone, h))
]

-- and so is a member
pub member_within : (syncs : SyncLists) (s : SyncState) (e : Entry) → AreOfClients syncs s → IsLawful syncs s e → (c : ℕ) → is_member (client_count syncs) e c ≡ true → c < client_count syncs
member_within syncs s e none p c t = waits_within syncs s none c (op_of e) (p.next c t)

pub stop_past : (syncs : SyncLists) (s : SyncState) → AreOfClients syncs s → (c : ℕ) → client_count syncs ≤ c → stop syncs s c ≡ 0
stop_past syncs s none c ge = ap (λ ws. option_map_or (λ (w : WaitAt). w.place) (head_wait ws) (length_of syncs c)) (none c ge) ∙ length_past syncs c ge

-- ---- along a journal

pub past_after : (syncs : SyncLists) (s : SyncState) (e : Entry) → AreOfClients syncs s → AreOfClients syncs (after syncs s e)
past_after syncs s e h c le = elim (cases_Bool (is_member (client_count syncs) e c)) [ inl t ↦ rw t (rw (h c le)) | inr f ↦ rw f (h c le) ]

pub past_end : (syncs : SyncLists) (s : SyncState) (js : List Entry) → AreOfClients syncs s → AreOfClients syncs (end_of syncs s js)
past_end syncs s [] h = h
past_end syncs s (e ∷ js) h = past_end syncs (after syncs s e) js (past_after syncs s e h)

pub reach_past : (syncs : SyncLists) (js : List Entry) (c : ℕ) → client_count syncs ≤ c → reach_of syncs js c ≡ 0
reach_past syncs js c le = stop_past syncs (end_of syncs (start syncs) js) (past_end syncs (start syncs) js (ops_past syncs)) c le
