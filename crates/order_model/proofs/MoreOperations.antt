-- A journal that is legal by some operations is legal where more of them come behind, and one that is maximal is so where every client waits already
-- or has no more.
use Rattle.std.proofs.Common.{◌≡◌, ℕ, ◌<◌, true, List, [], ◌∷◌, ◌++◌, ◌⊎◌, drop, Some, inl, inr, refl, sym, ap, ◌∙◌, subst, append-nil, true≢false}
use Rattle.std.specs.Prelude.{is_some, option_map}
use Rattle.std.proofs.lemmas.Bool.{cases_Bool}
use Rattle.rc_base.specs.Orders.Journal.{SyncState, head_wait, next, is_member, op_of, IsCounted, IsLawful, units_after, after, end_of, IsLegalFrom, NothingIsLawful, IsMaximalFrom}
use Rattle.rc_base.specs.Orders.Sync.{client_count}
use Rattle.rc_base.specs.declared.sync.Entry.{Entry}
use Rattle.rc_base.specs.declared.sync.Entry.TheVariants.{Meet, Swap, Give, Take}
use Rattle.rc_base.specs.declared.sync.SyncLists.{SyncLists}
use Rattle.rc_base.specs.declared.sync.SyncOp.{SyncOp}
use Rattle.rc_base.specs.declared.sync.WaitAt.{WaitAt}

-- what s has left is the front of what t has left, and the units are the same
pub record IsFront (s t : SyncState) (extra : ℕ → List WaitAt) : Type 0 where
  pub rest : (c : ℕ) → t.rest c ≡ s.rest c ++ extra c
  pub units : t.units ≡ s.units

-- ---- one client's operations

-- who waits at an operation waits
waits : (ws : List WaitAt) (op : SyncOp) → option_map (λ (w : WaitAt). w.op) (head_wait ws) ≡ Some op → is_some (head_wait ws) ≡ true
waits [] op h = absurd cc
waits (w ∷ ws) op h = refl

pub head_append : (ws vs : List WaitAt) → is_some (head_wait ws) ≡ true → head_wait (ws ++ vs) ≡ head_wait ws
head_append [] vs h = absurd (true≢false (sym h))
head_append (w ∷ ws) vs h = refl

drop_append : (ws vs : List WaitAt) → is_some (head_wait ws) ≡ true → drop 1 (ws ++ vs) ≡ drop 1 ws ++ vs
drop_append [] vs h = absurd (true≢false (sym h))
drop_append (w ∷ ws) vs h = refl

-- ---- legal journals

counted_alike : (syncs : SyncLists) (s t : SyncState) (e : Entry) → t.units ≡ s.units → IsCounted syncs s e → IsCounted syncs t e
counted_alike syncs s t (Meet b m) u h = h
counted_alike syncs s t Swap u h = h
counted_alike syncs s t (Give n d) u h = h
counted_alike syncs s t (Take n d) u h = subst (λ f. 0 < f n) (sym u) h

lawful_more : (syncs : SyncLists) (s t : SyncState) (extra : ℕ → List WaitAt) (e : Entry) → IsFront s t extra → IsLawful syncs s e → IsLawful syncs t e
lawful_more syncs s t extra e h p = record {
  next = λ c i. ap (option_map (λ (w : WaitAt). w.op)) (ap head_wait (h.rest c) ∙ head_append (s.rest c) (extra c) (waits (s.rest c) (op_of e) (p.next c i))) ∙ p.next c i;
  counted = counted_alike syncs s t e h.units p.counted;
}

front_after : (syncs : SyncLists) (s t : SyncState) (extra : ℕ → List WaitAt) (e : Entry) → IsFront s t extra → IsLawful syncs s e → IsFront (after syncs s e) (after syncs t e) extra
front_after syncs s t extra e h p = record {
  rest = λ c. elim (cases_Bool (is_member (client_count syncs) e c)) [
    | inl i ↦ rw i (ap (drop 1) (h.rest c) ∙ drop_append (s.rest c) (extra c) (waits (s.rest c) (op_of e) (p.next c i)))
    | inr f ↦ rw f (h.rest c)
  ];
  units = ap (units_after e) h.units;
}

pub legal_more : (syncs : SyncLists) (s t : SyncState) (extra : ℕ → List WaitAt) (js : List Entry) → IsFront s t extra → IsLegalFrom syncs s js
    → IsLegalFrom syncs t js × IsFront (end_of syncs s js) (end_of syncs t js) extra
legal_more syncs s t extra [] h legal = (tt, h)
legal_more syncs s t extra (e ∷ js) h legal =
    let r = legal_more syncs (after syncs s e) (after syncs t e) extra js (front_after syncs s t extra e h legal.0) legal.1 in
    ((lawful_more syncs s t extra e h legal.0, r.0), r.1)

-- ---- maximal ones

-- each client waits, or nothing more of it comes
abbrev pub IsSettled : SyncState → (ℕ → List WaitAt) → Type 0
IsSettled s extra = (c : ℕ) → (is_some (head_wait (s.rest c)) ≡ true) ⊎ (extra c ≡ [])

pub next_alike : (s t : SyncState) (extra : ℕ → List WaitAt) → IsFront s t extra → IsSettled s extra → (c : ℕ) → next t c ≡ next s c
next_alike s t extra h settled c = ap (option_map (λ (w : WaitAt). w.op)) (elim (settled c) [
  | inl some ↦ ap head_wait (h.rest c) ∙ head_append (s.rest c) (extra c) some
  | inr none ↦ ap head_wait (h.rest c ∙ ap (λ x. s.rest c ++ x) none ∙ append-nil (s.rest c))
])

nothing_more : (syncs : SyncLists) (s t : SyncState) (extra : ℕ → List WaitAt) → IsFront s t extra → IsSettled s extra → NothingIsLawful syncs s → NothingIsLawful syncs t
nothing_more syncs s t extra h settled over e p = over e record {
  next = λ c i. sym (next_alike s t extra h settled c) ∙ p.next c i;
  counted = counted_alike syncs t s e (sym h.units) p.counted;
}

pub maximal_more : (syncs : SyncLists) (s t : SyncState) (extra : ℕ → List WaitAt) (js : List Entry) → IsFront s t extra → IsSettled (end_of syncs s js) extra
    → IsLegalFrom syncs s js → NothingIsLawful syncs (end_of syncs s js) → IsMaximalFrom syncs t js
maximal_more syncs s t extra js h settled legal over =
    let r = legal_more syncs s t extra js h legal in
    (r.0, nothing_more syncs (end_of syncs s js) (end_of syncs t js) extra r.1 settled over)
