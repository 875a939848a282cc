-- The first lawful entry, read off what a book stores, is the one that is granted; and what is known of it.
use Rattle.std.proofs.Common.{◌≡◌, ℕ, true, cond, List, [], length, replicate, Option, Some, None, refl, sym, ap, ◌∙◌, subst}
use Rattle.std.proofs.lemmas.List.{length-replicate}
use Rattle.std.specs.Prelude.{option_map, nat_le, ◌==◌}
use Rattle.std.specs.Option.{option_or, option_map_or}
use mathlib.Core.Path.{fun_ext}
use Rattle.rc_base.specs.Orders.Grant.{first, give_by, take_by, is_at_barrier, is_at_swap, lowest, grant}
use Rattle.rc_base.specs.Orders.Journal.{next, how_many, is_member, op_of, IsCounted}
use Rattle.rc_base.specs.Orders.Sync.{client_count, count_of}
use Rattle.rc_base.specs.declared.sync.Entry.{Entry}
use Rattle.rc_base.specs.declared.sync.Entry.TheVariants.{Meet, Swap}
use Rattle.rc_base.specs.declared.sync.SyncLists.{SyncLists}
use Rattle.rc_base.specs.declared.sync.SyncOp.{SyncOp}
use Rattle.rc_base.specs.declared.sync.WaitAt.{WaitAt}
use Rattle.order_model.proofs.GrantsAreExact.{grant_lawful}
use Rattle.order_model.proofs.JournalsInTurn.{head_of_option}
use Rattle.sync_manager.specs.Stored.{wait_at, op_at, state_of, grant_at}

-- the grant, by the next operation of each client
grant_by : SyncLists → (ℕ → Option SyncOp) → (ℕ → ℕ) → Option Entry
grant_by syncs ops units =
    option_or (first (λ c. give_by c (ops c)) 0 (client_count syncs))
    (option_or (first (λ c. take_by units c (ops c)) 0 (client_count syncs))
    (option_or (first (λ barrier. option_map_or (λ count.
    cond (nat_le count (how_many (λ c. is_at_barrier barrier (ops c)) (client_count syncs)))
    (Some (Meet barrier (lowest (λ c. is_at_barrier barrier (ops c)) count (client_count syncs)))) None) (count_of syncs barrier) None) 1 (length syncs.counts))
    (cond (how_many (λ c. is_at_swap (ops c)) (client_count syncs) == client_count syncs) (Some Swap) None)))

pub next_is : (waiting : List (Option WaitAt)) (units : List ℕ) (c : ℕ) → next (state_of waiting units) c ≡ op_at waiting c
next_is waiting units c = ap (option_map (λ (w : WaitAt). w.op)) (head_of_option (wait_at waiting c))

granted_at : (syncs : SyncLists) (waiting : List (Option WaitAt)) (units : List ℕ)
    → grant_at syncs.counts units waiting (client_count syncs) ≡ grant syncs (state_of waiting units)
unfolding grant_by
granted_at syncs waiting units = ap (λ ops. grant_by syncs ops (state_of waiting units).units) (sym (fun_ext (next_is waiting units)))

-- the book's search gives what is granted
pub grant_is : (syncs : SyncLists) (counts units : List ℕ) (waiting : List (Option WaitAt)) (n : ℕ) → counts ≡ syncs.counts → n ≡ client_count syncs
    → grant_at counts units waiting n ≡ grant syncs (state_of waiting units)
grant_is syncs counts units waiting n of_counts of_clients =
    subst (λ k. grant_at counts units waiting k ≡ grant syncs (state_of waiting units)) (sym of_clients)
    (subst (λ xs. grant_at xs units waiting (client_count syncs) ≡ grant syncs (state_of waiting units)) (sym of_counts) (granted_at syncs waiting units))

-- ---- what is known of it

-- lists with so many clients, and these counts
lists_of : ℕ → List ℕ → SyncLists
lists_of n counts = record { clients = replicate n (record { ops = []; length = 0 }); counts = counts; units = [] }

pub record IsFirst (n : ℕ) (counts units : List ℕ) (waiting : List (Option WaitAt)) (e : Entry) : Type 0 where
  pub next : (c : ℕ) → is_member n e c ≡ true → op_at waiting c ≡ Some (op_of e)
  pub lists : SyncLists
  pub clients : client_count lists ≡ n
  pub of_counts : lists.counts ≡ counts
  pub counted : IsCounted lists (state_of waiting units) e

pub first_is : (n : ℕ) (counts units : List ℕ) (waiting : List (Option WaitAt)) (e : Entry) → grant_at counts units waiting n ≡ Some e → IsFirst n counts units waiting e
unfolding lists_of
first_is n counts units waiting e h =
    let syncs = lists_of n counts in
    let clients : client_count syncs ≡ n = length-replicate n (record { ops = []; length = 0 }) in
    let lawful = grant_lawful syncs (state_of waiting units) e (sym (grant_is syncs counts units waiting n refl (sym clients)) ∙ h) in
    record {
      next = λ c i. sym (next_is waiting units c) ∙ lawful.next c (subst (λ k. is_member k e c ≡ true) (sym clients) i);
      lists = syncs;
      clients = clients;
      of_counts = refl;
      counted = lawful.counted;
    }
