-- A world in which nobody has done anything flows: each client's sequence is in order.
use Rattle.std.proofs.Common.{◌≡◌, ℕ, ◌+◌, ◌==◌, ◌||◌, ◌<◌, ◌≤◌, Bool, true, false, cond, List, [], ◌∷◌, ◌++◌, take, length, map, inl, inr, refl, sym, ap, ◌∙◌, subst, arith, append_assoc, true≢false}
use Rattle.std.proofs.lemmas.Bool.{cases_Bool}
use Rattle.std.specs.List.{list_any}
use Rattle.rc_base.specs.Cluster.Parcels.{end_parcel, is_end}
use Rattle.rc_base.specs.Cluster.Sending.{Sending, ToTile, ToManager, parcels_to, requests_in, request_of, to_tiles, sent_before, sent_by}
use Rattle.rc_base.specs.Cluster.Tiles.{tile_count}
use Rattle.rc_base.specs.Contexts.Issue.{stream_of}
use Rattle.rc_base.specs.Orders.Book.{IsLegalBook}
use Rattle.rc_base.specs.Orders.Sync.{ops_of, sync_lists_of}
use Rattle.rc_base.specs.declared.scene.Scene.{Scene}
use Rattle.rc_base.specs.declared.state.Act.{Act}
use Rattle.rc_base.specs.declared.state.Act.TheVariants as act
use Rattle.rc_base.specs.declared.state.Parcel.{Parcel}
use Rattle.rc_base.specs.declared.sync.Request.{Request}
use Rattle.rc_base.specs.declared.sync.Request.TheVariants as request
use Rattle.rc_base.specs.declared.sync.WaitAt.{WaitAt}
use Rattle.rc_base.specs.declared.window.Layout.{Layout}
use Rattle.client_issue.specs.Laws.{SequencesAreSplit, AreCommands, ParcelsRiseAndEnd}
use Rattle.order_model.specs.Standing.{Progress, performed_in}
use Rattle.sync_manager.specs.Progress.{ManagerProgress, is_end as is_end_request}
use Rattle.sync_manager.specs.Promises.{grants_of, IsManagerRight, NewManagersAreRight}
use Rattle.tile_model.specs.Items.{grants_heard}
use Rattle.world_model.specs.Flowing.{wait_by, uses, is_end_parcel, IsInTurn, EndsWithRequest, IsOrderly, IsFlowing}
use Rattle.world_model.specs.World.{World, client_total, IsNewWorld}
use Rattle.world_model.proofs.OrderlySequences.{any_append}
use Rattle.world_model.proofs.SequencesAreOrdered.{told_waits, told_asks, AreOrdered, sequence_ordered, sequence_same}

-- ---- the End is the last parcel

abbrev EndIsLast : List Parcel → Type 0
EndIsLast [] = Unit {0}
EndIsLast (p ∷ ps) = (is_end p.act ≡ true → ps ≡ []) × EndIsLast ps

only_end : (a : Act) → is_end a ≡ true → a ≡ act.End
only_end (act.Draw block) y = absurd (true≢false (sym y))
only_end (act.Clear mask) y = absurd (true≢false (sym y))
only_end (act.Shared part) y = absurd (true≢false (sym y))
only_end (act.Sync op) y = absurd (true≢false (sym y))
only_end act.End y = refl

commands_then_end : (place : ℕ) (ps : List Parcel) → AreCommands ps → EndIsLast (ps ++ end_parcel place ∷ [])
commands_then_end place [] all = (λ y. refl, tt)
commands_then_end place (p ∷ ps) all = (λ y. absurd (all.0 (only_end p.act y)), commands_then_end place ps all.1)

has_end : (place : ℕ) (ps : List Parcel) → list_any is_end_parcel (ps ++ end_parcel place ∷ []) ≡ true
has_end place ps = any_append is_end_parcel ps (end_parcel place ∷ []) ∙ or_true (list_any is_end_parcel ps)
  where
    or_true : (b : Bool) → (b || true) ≡ true
    or_true true = refl
    or_true false = refl

-- ---- from what is still to be sent at any point to what was sent before it

in_turn : (tile : ℕ) (items : List Sending) (told asked : ℕ) → AreOrdered tile items → told + told_waits tile items ≡ asked + told_asks tile items
    → EndIsLast (parcels_to tile items) → IsInTurn tile told asked items
in_turn tile [] told asked o e last = tt
in_turn tile (ToTile k p ∷ items) told asked o e last = elim (cases_Bool (tile == k)) [
  | inl t ↦
      let here : (is_end p.act ≡ true → parcels_to tile items ≡ []) × EndIsLast (parcels_to tile items) = rw t at last in
      let sum : told + (wait_by p.act + told_waits tile items) ≡ asked + told_asks tile items = rw t at e in
      let more : told_asks tile items ≤ wait_by p.act + told_waits tile items = rw t at (o.1 t) in (
        λ y. record { asked_all = λ n. omega (arith, sum, more); last = here.0 },
        rw t (in_turn tile items (told + wait_by p.act) asked o.2 (omega (arith, sum)) here.1),
      )
  | inr f ↦
      let here : EndIsLast (parcels_to tile items) = rw f at last in
      let sum : told + told_waits tile items ≡ asked + told_asks tile items = rw f at e in
      (λ y. absurd (true≢false (sym y ∙ f)), rw f (in_turn tile items (told + 0) asked o.2 (omega (arith, sum)) here))
]
in_turn tile (ToManager (request.Op place op) ∷ items) told asked o e last =
    let less = least items o.2 in
    (omega (arith, e, less), in_turn tile items told (asked + 1) o.2 (omega (arith, e)) last)
  where
    least : (xs : List Sending) → AreOrdered tile xs → told_waits tile xs ≤ told_asks tile xs
    least [] h = omega arith
    least (x ∷ xs) h = h.0
in_turn tile (ToManager request.End ∷ items) told asked o e last = (tt, in_turn tile items told (asked + 0) o.2 (omega (arith, e)) last)

-- ---- the End request is the last item

abbrev RequestsEnd : List Request → Type 0
RequestsEnd [] = Unit {0}
RequestsEnd (r ∷ rs) = (is_end_request r ≡ true → rs ≡ []) × RequestsEnd rs

operations_then_end : (ws : List WaitAt) → RequestsEnd (map request_of ws ++ request.End ∷ [])
operations_then_end [] = (λ y. refl, tt)
operations_then_end (w ∷ ws) = (λ y. absurd (true≢false (sym y)), operations_then_end ws)

has_request : (ws : List WaitAt) → list_any is_end_request (map request_of ws ++ request.End ∷ []) ≡ true
has_request [] = refl
has_request (w ∷ ws) = has_request ws

ends_with : (xs : List Sending) → RequestsEnd (requests_in (xs ++ ToManager request.End ∷ [])) → EndsWithRequest (xs ++ ToManager request.End ∷ [])
ends_with [] h = (λ y. refl, tt)
ends_with (ToTile k p ∷ xs) h = ends_with xs h
ends_with (ToManager r ∷ xs) h = (λ y. absurd (asked xs (h.0 y)), ends_with xs h.1)
  where
    asked : (xs : List Sending) → requests_in (xs ++ ToManager request.End ∷ []) ≡ [] → ⊥
    asked [] e = cc
    asked (ToTile k p ∷ xs) e = asked xs e
    asked (ToManager q ∷ xs) e = cc

-- ---- a client's sequence

by_end : (scene : Scene) (l : Layout) (client : ℕ) → (xs : List Sending) × (sent_by scene l client ≡ xs ++ ToManager request.End ∷ [])
unfolding sent_by
by_end scene l client =
    let place = length (stream_of scene client) in
    let front = to_tiles l (λ tile. end_parcel place ∷ []) in
    (sent_before scene l client place ++ front, sym (append_assoc (sent_before scene l client place) front (ToManager request.End ∷ [])))

pub sequence_orderly : SequencesAreSplit → ParcelsRiseAndEnd → (scene : Scene) (l : Layout) (client : ℕ) → client < client_total scene → IsOrderly l (sent_by scene l client)
sequence_orderly split ends scene l client lc = record {
  turns = λ tile lt.
      let e = ends scene l client tile in
      in_turn tile (sent_by scene l client) 0 0 (sequence_ordered scene l client tile lt) (let same = sequence_same scene l client tile lt in omega (arith, same))
      (subst EndIsLast (sym ((split scene l client).parcels tile lt ∙ e.whole)) (commands_then_end (length (stream_of scene client)) e.before e.commands));
  tile_ends = λ tile lt.
      let e = ends scene l client tile in
      ap (list_any is_end_parcel) ((split scene l client).parcels tile lt ∙ e.whole) ∙ has_end (length (stream_of scene client)) e.before;
  last = subst EndsWithRequest (sym (by_end scene l client).1) (ends_with (by_end scene l client).0
      (subst (λ xs. RequestsEnd (requests_in xs)) (by_end scene l client).1 (subst RequestsEnd (sym ((split scene l client).requests lc)) (operations_then_end (ops_of (sync_lists_of scene) client)))));
  ends = ap (list_any is_end_request) ((split scene l client).requests lc) ∙ has_request (ops_of (sync_lists_of scene) client);
}

-- ---- the world

pub new_flows : SequencesAreSplit → ParcelsRiseAndEnd → NewManagersAreRight → (scene : Scene) (l : Layout) (w : World) → IsNewWorld scene l w → IsFlowing scene l w
new_flows split ends right scene l w h = record {
  sent = λ client. [];
  took = λ client tile. [];
  asked = λ client. [];
  heard = λ tile. [];
  orderly = λ client lc. subst (IsOrderly l) (sym (h.left client lc)) (sequence_orderly split ends scene l client lc);
  parcels = λ client tile lc lt. sym (h.parcels client tile lc lt);
  requests = λ client lc. sym (h.requests client lc);
  nobody_else = λ client le. refl;
  grants = λ tile lt. ap (λ (d : ManagerProgress). grants_of d tile) h.manager ∙ sym (h.grants tile lt);
  manager = subst (λ (d : ManagerProgress). IsManagerRight (sync_lists_of scene) (tile_count l) (λ client. []) (grants_of d) d) (sym h.manager) (right (sync_lists_of scene) (tile_count l));
  legal = subst (λ (d : ManagerProgress). IsLegalBook (sync_lists_of scene) d.book) (sym h.manager) tt;
  tiles = λ tile lt.
      let p = (h.tiles tile lt).progress in
      record {
        count = ap (λ (q : Progress). q.count) p;
        closed = λ c lc. ap (λ (q : Progress). q.closed c) p;
        no_more = ap (λ (q : Progress). q.no_more) p;
        ample = λ ample. record {
          heard_is = ap (λ (q : Progress). grants_heard q) (sym p);
          performed = subst (λ (q : Progress). performed_in q.log ≤ length q.learnt) (sym p) (omega arith);
          held = λ c lc goes_on. sym (ap (λ (q : Progress). uses (client_total scene) (take (performed_in q.log) q.learnt) c + cond {A = ℕ} (q.held c) 1 0) p);
        };
      };
}
