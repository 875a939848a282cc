-- What a manager took of its clients, and what arrived: from fronts of requests to fronts of operations.
use Rattle.std.proofs.Common.{◌≡◌, ℕ, ◌+◌, ◌<◌, ◌≤◌, not, true, List, [], ◌∷◌, ◌++◌, length, map, Some, slice_get, inl, inr, refl, sym, ap, ◌∙◌, subst, append_assoc, append-nil, true≢false}
use Rattle.std.proofs.lemmas.Bool.{cases_lt}
use Rattle.rc_base.specs.Cluster.Sending.{request_of}
use Rattle.rc_base.specs.Orders.Book.{is_declared}
use Rattle.rc_base.specs.Orders.Sync.{client_count, ops_of}
use Rattle.rc_base.specs.declared.sync.Grant.{Grant}
use Rattle.rc_base.specs.declared.sync.Request.{Request}
use Rattle.rc_base.specs.declared.sync.Request.TheVariants as request
use Rattle.rc_base.specs.declared.sync.SyncLists.{SyncLists}
use Rattle.rc_base.specs.declared.sync.SyncOp.{SyncOp}
use Rattle.rc_base.specs.declared.sync.WaitAt.{WaitAt}
use Rattle.order_model.specs.Gathering.{AreDeclared}
use Rattle.order_model.proofs.ClientsBeyond.{ops_past}
use Rattle.plain_lemmas.proofs.Lists.{get_behind}
use Rattle.scene_lemmas.proofs.Sendings.{no_requests}
use Rattle.sync_manager.specs.Clauses.{requests_by, FrontsArrive}
use Rattle.sync_manager.specs.Progress.{ManagerProgress}
use Rattle.sync_manager.specs.Promises.{ends_client, IsManagerRight}

-- ---- requests and operations

-- Operations whose requests are these, behind which come the requests of others.
pub record IsFrontOf (ops arrived : List WaitAt) (rest : List Request) : Type 0 where
  pub more : List WaitAt
  pub front : ops ≡ arrived ++ more
  pub behind : map request_of more ++ request.End ∷ [] ≡ rest

same_wait : (v w : WaitAt) → request_of v ≡ request_of w → v ≡ w
same_wait v w e =
    let place : v.place ≡ w.place = cc in
    let op : v.op ≡ w.op = cc in
    ap (λ (n : ℕ). record { place = n; op = v.op }) place ∙ ap (λ (o : SyncOp). record { place = w.place; op = o }) op

pub front_of : (ops arrived : List WaitAt) (rest : List Request) → map request_of ops ++ request.End ∷ [] ≡ map request_of arrived ++ rest → IsFrontOf ops arrived rest
front_of ops [] rest h = record { more = ops; front = refl; behind = h }
front_of [] (w ∷ arrived) rest h = absurd cc
front_of (v ∷ ops) (w ∷ arrived) rest h =
    let same : v ≡ w = same_wait v w cc in
    let f = front_of ops arrived rest cc in
    record { more = f.more; front = ap (λ x. x ∷ ops) same ∙ ap (λ ws. w ∷ ws) f.front; behind = f.behind }

-- a client ends behind all of its operations, since each of them names what is declared
pub ends_last : (syncs : SyncLists) (more : List WaitAt) (r : Request) (rest : List Request) → ((k : ℕ) (w : WaitAt) → slice_get more k ≡ Some w → is_declared syncs w.op ≡ true)
    → map request_of more ++ request.End ∷ [] ≡ r ∷ rest → ends_client syncs r ≡ true → more ≡ []
ends_last syncs [] r rest declared e ends = refl
ends_last syncs (w ∷ more) r rest declared e ends =
    let same : request_of w ≡ r = cc in
    let undeclared : not (is_declared syncs w.op) ≡ true = subst (λ q. ends_client syncs q ≡ true) (sym same) ends in
    absurd (true≢false (sym undeclared ∙ ap not (declared 0 w refl)))

-- ---- what has still to arrive

module _ (syncs : SyncLists) (tiles : ℕ) (took : ℕ → List Request) (sent : ℕ → List Grant) (d : ManagerProgress) (right : IsManagerRight syncs tiles took sent d) where
  -- what has still to arrive of a client, of whose requests `later` weren't taken
  pub record StillComes (client : ℕ) (later : List Request) : Type 0 where
    pub more : List WaitAt
    pub front : ops_of syncs client ≡ d.book.arrived client ++ more
    pub all : AreDeclared syncs → d.book.ended client ≡ true → more ≡ []
    -- the requests that have not arrived
    pub behind : map request_of more ++ request.End ∷ [] ≡ (right.clients client).rest ++ later

  pub still_comes : (client : ℕ) (later : List Request) → requests_by syncs client ≡ took client ++ later → StillComes client later
  still_comes client later lane =
      let k = right.clients client in
      let arrived = d.book.arrived client in
      let f = front_of (ops_of syncs client) arrived (k.rest ++ later)
      (lane ∙ ap (λ (xs : List Request). xs ++ later) k.arrived ∙ append_assoc (map request_of arrived) k.rest later) in
      record {
        more = f.more;
        front = f.front;
        all = λ declared ended.
            let e = k.ended ended in
            ends_last syncs f.more e.0 (e.1 ++ later)
            (λ n x is. declared client (length arrived + n) x
            (ap (λ ws. slice_get ws (length arrived + n)) f.front ∙ get_behind arrived f.more n ∙ is))
            (f.behind ∙ ap (λ (xs : List Request). xs ++ later) e.2) e.3;
        behind = f.behind;
      }

  -- of nobody nothing arrives
  pub nobody_arrives : (client : ℕ) → took client ≡ [] → d.book.arrived client ≡ []
  nobody_arrives client none = let k = right.clients client in no_requests (d.book.arrived client) k.rest (sym k.arrived ∙ none)

pub fronts_arrive : FrontsArrive
fronts_arrive syncs tiles took sent d declared right fronts none = record {
  front = λ client. elim (cases_lt client (client_count syncs)) [
    | inl lt ↦ let c = comes client lt in (c.more, c.front)
    | inr ge ↦ ([], beyond client ge)
  ];
  all = λ client ended. elim (cases_lt client (client_count syncs)) [
    | inl lt ↦
        let c = comes client lt in
        sym (c.front ∙ ap (λ ws. d.book.arrived client ++ ws) (c.all declared ended) ∙ append-nil (d.book.arrived client))
    | inr ge ↦ sym (beyond client ge ∙ append-nil (d.book.arrived client))
  ];
}
  where
    comes : (client : ℕ) (lt : client < client_count syncs) → StillComes syncs tiles took sent d right client (fronts client lt).0
    comes client lt = let f = fronts client lt in still_comes syncs tiles took sent d right client f.0 f.1

    beyond : (client : ℕ) → client_count syncs ≤ client → ops_of syncs client ≡ d.book.arrived client ++ []
    beyond client ge = ops_past syncs client ge ∙ sym (append-nil (d.book.arrived client) ∙ nobody_arrives syncs tiles took sent d right client (none client ge))
