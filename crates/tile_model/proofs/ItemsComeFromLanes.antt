-- What a tile takes of its lanes is what the progress counts, and the next of the journal and of its client.
use Rattle.std.proofs.Common.{◌≡◌, ℕ, ◌+◌, ◌==◌, not, Bool, true, false, cond, List, [], ◌∷◌, ◌++◌, length, map, drop, take, Some, slice_get, inl, inr, refl, sym, ap, ◌∙◌, subst, arith, append_assoc, append-nil, eqb-true, true≢false}
use Rattle.std.proofs.lemmas.Bool.{cases_Bool, and_parts}
use Rattle.std.proofs.lemmas.List.{map-append, take-append-drop}
use Rattle.std.specs.Prelude.{option_to_list}
use Rattle.rc_base.specs.declared.state.Act.{Act}
use Rattle.rc_base.specs.declared.state.Act.TheVariants as act
use Rattle.rc_base.specs.declared.sync.Entry.{Entry}
use Rattle.rc_base.specs.declared.sync.Grant.{Grant}
use Rattle.rc_base.specs.declared.sync.Grant.TheVariants as grant_item
use Rattle.order_model.specs.Standing.{Progress, performed_in, is_listening}
use Rattle.plain_lemmas.proofs.Lists.{get_in_front}
use Rattle.tile_model.specs.Items.{Item, after_act, after_item, with_at, IsAwaited, parcel_taken, grant_taken, grants_heard}
use Rattle.tile_model.specs.Items.Item.{Nothing, Due, Granted, NoMore, Sent}

-- ---- the grant lane

pub listens : (p : Progress) → is_listening p ≡ true → (p.no_more ≡ false) × (performed_in p.log ≡ length p.learnt)
listens p h = let b = and_parts (not p.no_more) (performed_in p.log == length p.learnt) h in (negated p.no_more b.0, eqb-true (performed_in p.log) (length p.learnt) b.1)
  where
    negated : (b : Bool) → not b ≡ true → b ≡ false
    negated true e = absurd (true≢false (sym e))
    negated false e = refl

-- a parcel teaches nothing
pub learnt_same : (p : Progress) (client : ℕ) (a : Act) (place : ℕ) → ((after_act p client a place).learnt ≡ p.learnt) × ((after_act p client a place).no_more ≡ p.no_more)
learnt_same p client (act.Draw block) place = elim (cases_Bool (p.held client)) [ inl t ↦ rw t (refl, refl) | inr f ↦ rw f (refl, refl) ]
learnt_same p client (act.Clear mask) place = elim (cases_Bool (p.held client)) [ inl t ↦ rw t (refl, refl) | inr f ↦ rw f (refl, refl) ]
learnt_same p client (act.Shared part) place = elim (cases_Bool (p.held client)) [ inl t ↦ rw t (refl, refl) | inr f ↦ rw f (refl, refl) ]
learnt_same p client (act.Sync op) place = elim (cases_Bool (p.held client)) [ inl t ↦ rw t (refl, refl) | inr f ↦ rw f (refl, refl) ]
learnt_same p client act.End place = (refl, refl)

abbrev pub entries : List Entry → List Grant
entries es = map (λ e. grant_item.Entry e) es

abbrev pub closing : Bool → List Grant
closing b = cond b (grant_item.NoMore ∷ []) []

-- while it listens it has heard entries alone
pub heard_open : (p : Progress) → is_listening p ≡ true → grants_heard p ≡ entries p.learnt
heard_open p h = ap (λ b. entries p.learnt ++ closing b) (listens p h).0 ∙ append-nil (entries p.learnt)

pub heard_after : (p : Progress) (item : Item) → IsAwaited p item → grants_heard (after_item p item) ≡ grants_heard p ++ option_to_list (grant_taken item)
heard_after p Nothing awaited = sym (append-nil (grants_heard p))
heard_after p (Due e) awaited = sym (append-nil (grants_heard p))
heard_after p (Granted e) awaited =
    ap (λ b. entries (p.learnt ++ e ∷ []) ++ closing b) (listens p awaited).0 ∙ append-nil (entries (p.learnt ++ e ∷ []))
    ∙ map-append (λ e. grant_item.Entry e) p.learnt (e ∷ []) ∙ ap (λ (gs : List Grant). gs ++ grant_item.Entry e ∷ []) (sym (heard_open p awaited))
heard_after p NoMore awaited = ap (λ (gs : List Grant). gs ++ grant_item.NoMore ∷ []) (sym (heard_open p awaited))
heard_after p (Sent client parcel) awaited =
    let s = learnt_same p client parcel.act parcel.place in
    ap (λ es. entries es ++ closing (after_act p client parcel.act parcel.place).no_more) s.0 ∙ ap (λ b. entries p.learnt ++ closing b) s.1 ∙ sym (append-nil (grants_heard p))

-- ---- the next entry

pub no_entry : (b : Bool) (e : Entry) (rest : List Grant) → closing b ≡ grant_item.Entry e ∷ rest → ⊥
no_entry true e rest h = cc
no_entry false e rest h = cc

pub next_sent : (sent learnt : List Entry) (told : Bool) (e : Entry) (rest : List Grant) → entries sent ++ closing told ≡ entries learnt ++ grant_item.Entry e ∷ rest → slice_get sent (length learnt) ≡ Some e
next_sent [] [] told e rest h = absurd (no_entry told e rest h)
next_sent (x ∷ sent) [] told e rest h = let same : x ≡ e = cc in ap Some same
next_sent [] (y ∷ learnt) told e rest h = absurd (no_entry told y (entries learnt ++ grant_item.Entry e ∷ rest) h)
next_sent (x ∷ sent) (y ∷ learnt) told e rest h = next_sent sent learnt told e rest cc

-- the first grant that the lane holds is the journal's next entry
pub entry_is_next : (journal more later : List Entry) (delivered : ℕ) (told : Bool) (p : Progress) (e : Entry) (held rest : List Grant) → is_listening p ≡ true
    → entries (take delivered journal) ++ closing told ≡ grants_heard p ++ held → held ≡ grant_item.Entry e ∷ rest → later ≡ journal ++ more → slice_get later (length p.learnt) ≡ Some e
entry_is_next journal more later delivered told p e held rest listening sent is on =
    let next = next_sent (take delivered journal) p.learnt told e rest (sent ∙ ap (λ (gs : List Grant). gs ++ held) (heard_open p listening) ∙ ap (λ (gs : List Grant). entries p.learnt ++ gs) is) in
    let whole : later ≡ take delivered journal ++ (drop delivered journal ++ more) =
    on ∙ ap (λ js. js ++ more) (sym (take-append-drop delivered journal)) ∙ append_assoc (take delivered journal) (drop delivered journal) more in
    subst (λ js. slice_get js (length p.learnt) ≡ Some e) (sym whole) (get_in_front (take delivered journal) (drop delivered journal ++ more) (length p.learnt) e next)

-- ---- all entries

pub no_end : (b : Bool) (held : List Grant) → closing b ≡ grant_item.NoMore ∷ held → b ≡ true
no_end true held h = refl
no_end false held h = absurd cc

pub all_heard : (sent learnt : List Entry) (told : Bool) (held : List Grant) → entries sent ++ closing told ≡ entries learnt ++ grant_item.NoMore ∷ held → (learnt ≡ sent) × (told ≡ true)
all_heard [] [] told held h = (refl, no_end told held h)
all_heard (x ∷ sent) [] told held h = absurd cc
all_heard [] (y ∷ learnt) told held h = absurd (no_entry told y (entries learnt ++ grant_item.NoMore ∷ held) h)
all_heard (x ∷ sent) (y ∷ learnt) told held h =
    let r = all_heard sent learnt told held cc in
    let same : y ≡ x = cc in
    (ap (λ e. e ∷ learnt) same ∙ ap (λ es. x ∷ es) r.0, r.1)

-- ---- the clients' lanes

taken_here : (p : Progress) (client : ℕ) (a : Act) (place : ℕ) → (after_act p client a place).taken ≡ with_at p.taken client (p.taken client + 1)
taken_here p client (act.Draw block) place = elim (cases_Bool (p.held client)) [ inl t ↦ rw t refl | inr f ↦ rw f refl ]
taken_here p client (act.Clear mask) place = elim (cases_Bool (p.held client)) [ inl t ↦ rw t refl | inr f ↦ rw f refl ]
taken_here p client (act.Shared part) place = elim (cases_Bool (p.held client)) [ inl t ↦ rw t refl | inr f ↦ rw f refl ]
taken_here p client (act.Sync op) place = elim (cases_Bool (p.held client)) [ inl t ↦ rw t refl | inr f ↦ rw f refl ]
taken_here p client act.End place = refl

pub taken_after : (p : Progress) (item : Item) (c : ℕ) → (after_item p item).taken c ≡ p.taken c + length (option_to_list (parcel_taken item c))
taken_after p Nothing c = omega arith
taken_after p (Due e) c = omega arith
taken_after p (Granted e) c = omega arith
taken_after p NoMore c = omega arith
taken_after p (Sent client parcel) c = ap (λ (f : ℕ → ℕ). f c) (taken_here p client parcel.act parcel.place) ∙ elim (cases_Bool (c == client)) [
  | inl t ↦ rw t (ap (λ k. p.taken k + 1) (sym (eqb-true c client t)))
  | inr f ↦ rw f (omega arith)
]
