-- How many Swaps a legal journal has.
use Rattle.std.proofs.Common.{◌≡◌, ℕ, ◌+◌, ◌<◌, true, false, cond, List, [], ◌∷◌, drop, Some, inl, inr, refl, sym, ap, ◌∙◌, arith, lt-ltb}
use Rattle.std.specs.Prelude.{count_by, option_map}
use Rattle.std.proofs.lemmas.Bool.{cases_Bool}
use Rattle.std.proofs.lemmas.List.Recursion.{is_count_by}
use Rattle.rc_base.specs.Orders.Journal.{SyncState, start, is_member, op_of, IsLawful, after, end_of, IsLegalFrom, IsMaximal, head_wait}
use Rattle.rc_base.specs.Orders.Sync.{IsWellFormed, client_count, ops_of}
use Rattle.rc_base.specs.declared.sync.Entry.{Entry}
use Rattle.rc_base.specs.declared.sync.Entry.TheVariants.{Meet, Swap, Give, Take}
use Rattle.rc_base.specs.declared.sync.SyncLists.{SyncLists}
use Rattle.rc_base.specs.declared.sync.SyncOp.{SyncOp}
use Rattle.rc_base.specs.declared.sync.SyncOp.TheVariants as op
use Rattle.rc_base.specs.declared.sync.WaitAt.{WaitAt}
use Rattle.order_model.specs.Report.{is_swap_entry}
use Rattle.order_model.specs.Uncontended.{TakesAlone}
use Rattle.order_model.proofs.MaximalJournalsAgree.{end_agrees}

-- one for a Swap, and their sum over operations
abbrev pub swap_op : SyncOp → ℕ
swap_op op.Swap = 1
swap_op (op.Barrier b) = 0
swap_op (op.SemP k) = 0
swap_op (op.SemV k) = 0

abbrev swaps_in : List WaitAt → ℕ
swaps_in [] = 0
swaps_in (w ∷ ws) = swap_op w.op + swaps_in ws

-- the same of entries
abbrev pub swap_entry : Entry → ℕ
swap_entry e = swap_op (op_of e)

abbrev pub swap_entries : List Entry → ℕ
swap_entries [] = 0
swap_entries (e ∷ es) = swap_entry e + swap_entries es

uses_swap : (ws : List WaitAt) (o : SyncOp) → option_map (λ (w : WaitAt). w.op) (head_wait ws) ≡ Some o → swaps_in ws ≡ swap_op o + swaps_in (drop 1 ws)
uses_swap [] o h = absurd cc
uses_swap (w ∷ ws) o h = let same : w.op ≡ o = cc in ap (λ p. swap_op p + swaps_in ws) same

-- who isn't a member leaves a Swap alone: there is none, since every client is a member of a Swap
no_swap_beside : (n : ℕ) (e : Entry) (c : ℕ) → c < n → is_member n e c ≡ false → swap_entry e ≡ 0
no_swap_beside n (Meet b m) c lt h = refl
no_swap_beside n Swap c lt h = absurd (let t : is_member n Swap c ≡ true = lt-ltb c n lt in cc (t, h))
no_swap_beside n (Give k d) c lt h = refl
no_swap_beside n (Take k d) c lt h = refl

one_entry : (syncs : SyncLists) (s : SyncState) (e : Entry) → IsLawful syncs s e → (c : ℕ) → c < client_count syncs
    → swaps_in (s.rest c) ≡ swap_entry e + swaps_in ((after syncs s e).rest c)
one_entry syncs s e h c lt = elim (cases_Bool (is_member (client_count syncs) e c)) [
  | inl t ↦ rw t (uses_swap (s.rest c) (op_of e) (h.next c t))
  | inr f ↦ rw f (let z : swap_entry e ≡ 0 = no_swap_beside (client_count syncs) e c lt f in omega (arith, z))
]

all_entries : (syncs : SyncLists) (s : SyncState) (js : List Entry) → IsLegalFrom syncs s js → (c : ℕ) → c < client_count syncs
    → swaps_in (s.rest c) ≡ swap_entries js + swaps_in ((end_of syncs s js).rest c)
all_entries syncs s [] h c lt = sym (let e : 0 + swaps_in (s.rest c) ≡ swaps_in (s.rest c) = omega arith in e)
all_entries syncs s (e ∷ js) h c lt =
    let a = one_entry syncs s e h.0 c lt in
    let b = all_entries syncs (after syncs s e) js h.1 c lt in
    omega (arith, a, b)

counts_entry : (e : Entry) (n : ℕ) → swap_entry e + n ≡ cond (is_swap_entry e) (1 + n) n
counts_entry (Meet b m) n = omega arith
counts_entry Swap n = refl
counts_entry (Give k d) n = omega arith
counts_entry (Take k d) n = omega arith

pub swap_entries_counted : (js : List Entry) → swap_entries js ≡ count_by is_swap_entry js
swap_entries_counted = is_count_by swap_entries is_swap_entry refl (λ e es. counts_entry e (swap_entries es))

-- every client of a legal journal has used one Swap for each of its Swaps
swaps_used : (syncs : SyncLists) (js : List Entry) → IsLegalFrom syncs (start syncs) js → (c : ℕ) → c < client_count syncs
    → swaps_in (ops_of syncs c) ≡ count_by is_swap_entry js + swaps_in ((end_of syncs (start syncs) js).rest c)
swaps_used syncs js h c lt = all_entries syncs (start syncs) js h c lt ∙ ap (λ n. n + swaps_in ((end_of syncs (start syncs) js).rest c)) (swap_entries_counted js)

-- where takers are alone all maximal journals have as many
pub swaps_agree : (syncs : SyncLists) → IsWellFormed syncs → TakesAlone syncs → (j k : List Entry) → IsMaximal syncs j → IsMaximal syncs k → count_by is_swap_entry j ≡ count_by is_swap_entry k
swaps_agree syncs well alone j k m n =
    let a = swaps_used syncs j m.0 0 well.some in
    let b = swaps_used syncs k n.0 0 well.some in
    let e : swaps_in ((end_of syncs (start syncs) j).rest 0) ≡ swaps_in ((end_of syncs (start syncs) k).rest 0) = ap (λ (s : SyncState). swaps_in (s.rest 0)) (end_agrees syncs alone j k m n) in
    omega (arith, a, b, e)
