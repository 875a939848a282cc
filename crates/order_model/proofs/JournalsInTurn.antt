-- Journals by their entries and logs by their lines: one more, two one behind the other, and what entries leave to clients.
use Rattle.std.proofs.Common.{arith, ◌≡◌, List, [], ◌∷◌, ◌++◌, refl, ap, ℕ, ◌≤◌, length, inl, inr, Option, Some, None, ◌≢◌, false, ◌+◌, drop}
use Rattle.std.proofs.lemmas.Bool.{cases_Bool}
use Rattle.std.proofs.lemmas.List.{length-drop}
use Rattle.std.specs.Option.{option_map_or, option_map}
use Rattle.std.specs.Prelude.{option_to_list}
use Rattle.rc_base.specs.Lists.{AreRising}
use Rattle.rc_base.specs.Orders.Journal.{SyncState, after, end_of, is_member, head_wait}
use Rattle.rc_base.specs.Orders.Order.{entry_at, entries_from}
use Rattle.rc_base.specs.Orders.Sync.{client_count, places_of}
use Rattle.rc_base.specs.declared.sync.Entry.{Entry}
use Rattle.rc_base.specs.declared.sync.Entry.TheVariants.{Meet, Swap, Give, Take}
use Rattle.rc_base.specs.declared.sync.SyncLists.{SyncLists}
use Rattle.rc_base.specs.declared.sync.WaitAt.{WaitAt}
use Rattle.rc_base.specs.declared.sync.SyncOp.{SyncOp}
use Rattle.order_model.specs.declared.record.LogEntry.TheVariants.{Took, Performed}
use Rattle.order_model.specs.declared.record.LogEntry.{LogEntry}
use Rattle.order_model.specs.Standing.{performed_in}
use Rattle.order_model.specs.Report.{is_swap_entry}

pub end_push : (syncs : SyncLists) (s : SyncState) (js : List Entry) (e : Entry) → end_of syncs s (js ++ e ∷ []) ≡ after syncs (end_of syncs s js) e
end_push syncs s [] e = refl
end_push syncs s (j ∷ js) e = end_push syncs (after syncs s j) js e

pub entries_append : (syncs : SyncLists) (s : SyncState) (xs ys : List Entry) → entries_from syncs s (xs ++ ys) ≡ entries_from syncs s xs ++ entries_from syncs (end_of syncs s xs) ys
entries_append syncs s [] ys = refl
entries_append syncs s (x ∷ xs) ys = ap (λ ms. entry_at syncs s x ∷ ms) (entries_append syncs (after syncs s x) xs ys)

-- an entry leaves no client more
pub rest_shrinks : (syncs : SyncLists) (s : SyncState) (e : Entry) (c : ℕ) → length ((after syncs s e).rest c) ≤ length (s.rest c)
rest_shrinks syncs s e c = elim (cases_Bool (is_member (client_count syncs) e c)) [ inl t ↦ rw t (omega (arith, length-drop 1 (s.rest c))) | inr f ↦ rw f (omega arith) ]

pub rising_first : (p : ℕ) (ws : List WaitAt) (n : ℕ) → AreRising p (places_of ws) n → p ≤ option_map_or (λ (w : WaitAt). w.place) (head_wait ws) n
rising_first p [] n h = h
rising_first p (w ∷ ws) n h = h.0

pub head_of_option : (o : Option WaitAt) → head_wait (option_to_list o) ≡ o
head_of_option None = refl
head_of_option (Some w) = refl

pub not_swap : (e : Entry) → e ≢ Swap → is_swap_entry e ≡ false
not_swap (Meet _ _) other = refl
not_swap Swap other = absurd (other refl)
not_swap (Give _ _) other = refl
not_swap (Take _ _) other = refl

-- a line more of a log
pub performed_more : (log : List LogEntry) (line : LogEntry) → performed_in (log ++ line ∷ []) ≡ performed_in log + performed_in (line ∷ [])
performed_more [] line = omega arith
performed_more (Took client place ∷ log) line = performed_more log line
performed_more (Performed ∷ log) line = let h = performed_more log line in omega arith

pub took_more : (log : List LogEntry) (client place : ℕ) → performed_in (log ++ Took client place ∷ []) ≡ performed_in log
took_more [] client place = refl
took_more (Took _ _ ∷ log) client place = took_more log client place
took_more (Performed ∷ log) client place = let e = took_more log client place in omega (arith, e)

-- an operation is taken of those that a client has left
pub head_used : (ws : List WaitAt) (x : SyncOp) → option_map (λ (w : WaitAt). w.op) (head_wait ws) ≡ Some x → length (drop 1 ws) + 1 ≡ length ws
head_used [] x e = absurd cc
head_used (w ∷ ws) x e = omega arith
