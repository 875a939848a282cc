-- The clients after one name more of an order.
use Rattle.std.proofs.Common.{◌≡◌, ℕ, ◌+◌, ◌<◌, ◌==◌, List, [], ◌∷◌, ◌++◌, length, get_or, set, Some, refl, sym, ap, subst, ◌∙◌, arith, inl, inr, eq-eqb, eqb-true, length-set}
use Rattle.std.specs.Prelude.{slice_get, map}
use Rattle.std.specs.List.{range_with_len}
use Rattle.std.proofs.lemmas.Bool.{cases_Bool, eqb-false}
use Rattle.std.proofs.lemmas.List.{get_or-set_same, get_or-set_other}
use Rattle.std.proofs.lemmas.List.FromFn.{length-map-range_with_len, get_or-map-range_with_len}
use Rattle.std.proofs.lemmas.Option.{slice_get-get_or, get_or_from_slice_get}
use Rattle.rc_base.specs.Contexts.Issue.{command_at, stream_of}
use Rattle.rc_base.specs.Orders.Order.{names_in}
use Rattle.rc_base.specs.declared.command.Command.TheVariants as cmd
use Rattle.rc_base.specs.declared.scene.Scene.{Scene}
use Rattle.rc_base.specs.declared.sync.Name.{Name}
use Rattle.order_model.proofs.NamesInTurn.{names_push}
use Rattle.plain_lemmas.proofs.Booleans.{one_if_true, zero_if_false}
use Rattle.stream_replay.specs.Clients.{client_after, AreIssued}
use Rattle.stream_replay.specs.declared.client.Client.{Client}

pub first_clients : (s : Scene) (xs : List Client) → xs ≡ map (λ client. client_after s client 0) (range_with_len 0 (length s.streams)) → AreIssued s [] xs
first_clients s xs is =
    let f = λ (client : ℕ). client_after s client 0 in
    let count : length xs ≡ length s.streams = ap length is ∙ length-map-range_with_len f 0 (length s.streams) in
    record {
      count = count;
      each = λ c lt.
          slice_get-get_or xs c (f c) (omega (arith, count, lt))
          ∙ ap (λ (x : Client). Some x) (ap (λ (l : List Client). get_or l c (f c)) is ∙ get_or-map-range_with_len f 0 (length s.streams) c c (f c) lt (omega arith));
    }

pub clients_next : (s : Scene) (done : List Name) (n : Name) (xs ys : List Client) → AreIssued s done xs → n.place ≡ names_in n.client done → n.client < length s.streams
    → ys ≡ set xs n.client (client_after s n.client (n.place + 1)) → AreIssued s (done ++ n ∷ []) ys
clients_next s done n xs ys h place lt is =
    let v = client_after s n.client (n.place + 1) in
    let count : length ys ≡ length xs = ap length is ∙ length-set xs n.client v in
    record {
      count = count ∙ h.count;
      each = λ c inside.
          let now = client_after s c (names_in c (done ++ n ∷ [])) in
          slice_get-get_or ys c now (omega (arith, count, h.count, inside))
          ∙ ap (λ (x : Client). Some x) (ap (λ (l : List Client). get_or l c now) is ∙ elim (cases_Bool (c == n.client)) [
            | inl t ↦
                let same : c ≡ n.client = eqb-true c n.client t in
                let more : n.place + 1 ≡ names_in n.client (done ++ n ∷ []) =
                omega (arith, place, names_push n.client done n, one_if_true _ (eq-eqb n.client n.client refl)) in
                subst (λ (k : ℕ). get_or (set xs n.client v) k (client_after s k (names_in k (done ++ n ∷ []))) ≡ client_after s k (names_in k (done ++ n ∷ []))) (sym same)
                (get_or-set_same xs n.client v _ (omega (arith, h.count, lt)) ∙ ap (λ (k : ℕ). client_after s n.client k) more)
            | inr f ↦
                let other = eqb-false c n.client f in
                let none : names_in c done ≡ names_in c (done ++ n ∷ []) = omega (arith, names_push c done n, zero_if_false _ f) in
                get_or-set_other xs n.client c v now other
                ∙ get_or_from_slice_get xs c (client_after s c (names_in c done)) now (h.each c inside)
                ∙ ap (λ (k : ℕ). client_after s c k) none
          ]);
    }

-- the client whose name comes next
pub client_before : (s : Scene) (done : List Name) (n : Name) (xs : List Client) → AreIssued s done xs → n.place ≡ names_in n.client done → n.client < length s.streams
    → slice_get xs n.client ≡ Some (client_after s n.client n.place)
client_before s done n xs h place lt = h.each n.client lt ∙ ap (λ (k : ℕ). Some (client_after s n.client k)) (sym place)

pub client_now : (s : Scene) (n : Name) (xs ys : List Client) (x : Client) → n.client < length xs → ys ≡ set xs n.client (client_after s n.client (n.place + 1))
    → x ≡ get_or ys n.client x → x ≡ client_after s n.client (n.place + 1)
client_now s n xs ys x lt is found = found ∙ ap (λ (l : List Client). get_or l n.client x) is ∙ get_or-set_same xs n.client _ x lt

-- a command stands at each place of a stream
pub some_command : (s : Scene) (client place : ℕ) → place < length (stream_of s client) → command_at s client place ≡ Some (get_or (stream_of s client) place cmd.Swap)
some_command s client place lt = slice_get-get_or (stream_of s client) place cmd.Swap lt
