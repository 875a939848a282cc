-- The members of a lawful entry are clients.
use Rattle.std.proofs.Common.{◌≡◌, ℕ, zero, suc, ◌^◌, ◌<◌, true, List, [], ◌∷◌, Some, slice_get, inl, inr, refl, subst, arith, eqb-true, eq-eqb, ltb-true, lt-ltb}
use Rattle.std.proofs.lemmas.Bool.{cases_lt}
use Rattle.std.proofs.lemmas.Nat.Bits.{bit_at_above}
use Rattle.rc_base.specs.Orders.Journal.{SyncState, start, is_member, IsLawful, after, IsLegal, IsLegalFrom}
use Rattle.rc_base.specs.Orders.Sync.{client_count}
use Rattle.rc_base.specs.declared.sync.Entry.{Entry}
use Rattle.rc_base.specs.declared.sync.Entry.TheVariants.{Meet, Swap, Give, Take}
use Rattle.rc_base.specs.declared.sync.SyncLists.{SyncLists}
use Rattle.order_model.specs.Laws.{AreOfClients}
use Rattle.order_model.proofs.ClientsBeyond.{ops_past, past_after, member_within}
use Rattle.tile_model.specs.Items.{has_clients}

pub members_are_clients : (n : ℕ) (e : Entry) → has_clients n e ≡ true → (c : ℕ) → is_member n e c ≡ true → c < n
members_are_clients n (Meet b m) h c t = elim (cases_lt c n) [
  | inl lt ↦ lt
  | inr ge ↦ absurd (omega (arith, bit_at_above m n c (ltb-true m (2 ^ n) h) ge, eqb-true _ 1 t))
]
members_are_clients n Swap h c t = ltb-true c n t
members_are_clients n (Give s d) h c t = let lt = ltb-true d n h in let same = eqb-true c d t in omega arith
members_are_clients n (Take s d) h c t = let lt = ltb-true d n h in let same = eqb-true c d t in omega arith

pub lawful_has_clients : (syncs : SyncLists) (s : SyncState) (e : Entry) → AreOfClients syncs s → IsLawful syncs s e → has_clients (client_count syncs) e ≡ true
lawful_has_clients syncs s (Meet b m) none p = lt-ltb m (2 ^ client_count syncs) p.counted.0
lawful_has_clients syncs s Swap none p = refl
lawful_has_clients syncs s (Give k c) none p = lt-ltb c (client_count syncs) (member_within syncs s (Give k c) none p c (eq-eqb c c refl))
lawful_has_clients syncs s (Take k c) none p = lt-ltb c (client_count syncs) (member_within syncs s (Take k c) none p c (eq-eqb c c refl))

pub entries_of_clients : (syncs : SyncLists) (s : SyncState) (js : List Entry) (k : ℕ) (e : Entry) → AreOfClients syncs s → IsLegalFrom syncs s js → slice_get js k ≡ Some e → has_clients (client_count syncs) e ≡ true
entries_of_clients syncs s [] zero e none legal is = absurd cc
entries_of_clients syncs s [] (suc k) e none legal is = absurd cc
entries_of_clients syncs s (d ∷ js) zero e none legal is = let same : d ≡ e = cc in subst (λ x. has_clients (client_count syncs) x ≡ true) same (lawful_has_clients syncs s d none legal.0)
entries_of_clients syncs s (d ∷ js) (suc k) e none legal is = entries_of_clients syncs (after syncs s d) js k e (past_after syncs s d none) legal.1 is

pub legal_entries_have_clients : (syncs : SyncLists) (js : List Entry) (k : ℕ) (e : Entry) → IsLegal syncs js → slice_get js k ≡ Some e → has_clients (client_count syncs) e ≡ true
legal_entries_have_clients syncs js k e legal is = entries_of_clients syncs (start syncs) js k e (ops_past syncs) legal is
