use Rattle.std.proofs.Common.{◌≡◌, ℕ, ◌+◌, ◌<◌, length, set, inl, inr, ◌∙◌, ap, sym, refl, arith}
use mir.Val.{bool_byte}
use Rattle.std.specs.Prelude.{slice_get, slice_index, is_some}
use Rattle.std.specs.Option.{option_map_or}
use Rattle.std.proofs.lemmas.Bool.{cases_Bool}
use Rattle.rc_base.specs.Orders.Sync.{ops_of, length_of}
use Rattle.rc_base.specs.declared.sync.SyncRow.{SyncRow}
use Rattle.rc_base.specs.declared.sync.WaitAt.{WaitAt}
use Rattle.serial_render.specs.declared.progress.Progress.{Progress}
use Rattle.serial_render.proofs.TurnsOfClients.{way_advanced, journal_advanced, order_advanced, settled_advanced, others_advanced}
use Rattle.serial_render.proofs.progress.Progress.advance_client.Goals as goal

pub overflow_add-self : goal.overflow_add-self
overflow_add-self c = elim (cases_Bool (is_some c.operation-next.result)) [
  | inl t ↦ omega (arith, c.operation-next.ensures.room t, c.from.ensures ∙ ap bool_byte (c.is_some.ensures ∙ t))
  | inr f ↦ omega (arith, c.operation-next.ensures.small, c.from.ensures ∙ ap bool_byte (c.is_some.ensures ∙ f))
]

pub tell-requires-clause-declared : goal.tell-requires-clause-declared
tell-requires-clause-declared c w e =
    let s = c.args.syncs.now in
    let p = c.args.self.now in
    let client = c.args.client in
    let next_is : c.operation-next.result ≡ slice_get (ops_of s client) (slice_index p.arrived client) =
    c.operation-next.ensures.operation ∙ ap (λ (r : SyncRow). slice_get r.ops (slice_index p.arrived client)) c.row_of-row.ensures in
    c.requires.way.way.is_book.declared w.op ∙ c.requires.way.declared client (slice_index p.arrived client) w (sym next_is ∙ e)

pub returns : goal.returns
returns c =
    let s = c.args.syncs.now in
    let p = c.args.self.now in
    let client = c.args.client in
    let next = c.operation-next.result in
    let place = c.place_of-place.result in
    let q : Progress = record {
      book = c.tell.new.book;
      order = c.add.new.self;
      arrived = set p.arrived client (slice_index p.arrived client + c.from.result);
      issued = set p.issued client place;
    } in
    let next_is : next ≡ slice_get (ops_of s client) (slice_index p.arrived client) =
    c.operation-next.ensures.operation ∙ ap (λ (r : SyncRow). slice_get r.ops (slice_index p.arrived client)) c.row_of-row.ensures in
    let place_is : place ≡ option_map_or (λ (w : WaitAt). w.place) next (length_of s client) =
    c.place_of-place.ensures ∙ ap (λ (r : SyncRow). option_map_or (λ (w : WaitAt). w.place) next r.length) c.row_of-row.ensures in
    let arrived_is : q.arrived ≡ set p.arrived client (slice_index p.arrived client + bool_byte (is_some next)) =
    ap (λ (k : ℕ). set p.arrived client (slice_index p.arrived client + k)) (c.from.ensures ∙ ap bool_byte c.is_some.ensures) in
    let places : client < length p.issued = omega (arith, c.requires.way.way.places, c.requires.client, c.requires.way.clients) in
    let arrivals : client < length p.arrived = omega (arith, c.requires.way.way.arrivals, c.requires.client, c.requires.way.clients) in
    let way = c.requires.way.way in
    let lt = c.requires.client in
    let wanted = c.requires.wanted in
    let book_is = c.in_ok-tell.ensures s in
    record {
      way = record {
        way = way_advanced s p q client next place way lt wanted next_is place_is c.in_ok-add.ensures refl places arrived_is arrivals book_is;
        journal = journal_advanced s p q client next place way lt wanted next_is place_is c.in_ok-add.ensures refl places arrived_is arrivals book_is;
      };
      order = order_advanced s p q client next place way lt wanted next_is place_is c.in_ok-add.ensures refl places arrived_is arrivals book_is;
      settled = settled_advanced s p q client next place way lt wanted next_is place_is c.in_ok-add.ensures refl places arrived_is arrivals book_is;
      others = others_advanced s p q client next place way lt wanted next_is place_is c.in_ok-add.ensures refl places arrived_is arrivals book_is;
    }
