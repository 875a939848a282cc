use Rattle.std.proofs.Common.{List, sym, ap, refl, arith}
use Rattle.rc_base.specs.declared.sync.Entry.{Entry}
use Rattle.serial_render.specs.Turns.{left_after}
use Rattle.serial_render.specs.declared.progress.Progress.{Progress}
use Rattle.serial_render.proofs.TurnsOfClients.{room_next, way_granted, between_next, less_next, between_still, over_still}
use Rattle.serial_render.proofs.progress.Progress.turn.Goals as goal

pub perform-requires-clause-room : goal.perform-requires-clause-room
perform-requires-clause-room c =
    let s = c.args.syncs.now in
    let t = c.requires.turns in
    room_next s c.args.self.now t c.grant.new.self c.in-Some.field-0 (c.in-Some.ensures.granted s t.way.book t.way.is_book) (sym (c.in-Some.ensures.entry s t.way.book t.way.is_book)) c.requires.well

pub advance-requires : goal.advance-requires
advance-requires c =
    let s = c.args.syncs.now in
    let t = c.requires.turns in
    let done = c.in_ok-perform-in-Some.ensures in
    record {
      way = way_granted s c.args.self.now t c.grant.new.self c.in-Some.field-0 (c.in-Some.ensures.granted s t.way.book t.way.is_book) (sym (c.in-Some.ensures.entry s t.way.book t.way.is_book)) c.requires.well
          c.perform.new.self done.book done.arrived done.slots done.issued done.names done.order;
      clients = c.requires.clients;
      declared = c.requires.declared;
    }

pub returns-in_ok-advance-in-Some-clause-turns : goal.returns-in_ok-advance-in-Some-clause-turns
returns-in_ok-advance-in-Some-clause-turns c =
    let s = c.args.syncs.now in
    let t = c.requires.turns in
    let done = c.in_ok-perform-in-Some.ensures in
    let on = c.in_ok-advance-in-Some.ensures in
    between_next s c.args.self.now t c.grant.new.self c.in-Some.field-0 (c.in-Some.ensures.granted s t.way.book t.way.is_book) (sym (c.in-Some.ensures.entry s t.way.book t.way.is_book)) c.requires.well
    c.perform.new.self done.book done.arrived done.slots done.issued done.names done.order c.advance.new.self on.way.way on.way.journal on.order on.settled

pub returns-in_ok-advance-in-Some-clause-less : goal.returns-in_ok-advance-in-Some-clause-less
returns-in_ok-advance-in-Some-clause-less c more =
    let s = c.args.syncs.now in
    let t = c.requires.turns in
    let done = c.in_ok-perform-in-Some.ensures in
    let on = c.in_ok-advance-in-Some.ensures in
    let less = less_next s c.args.self.now t c.grant.new.self c.in-Some.field-0 (c.in-Some.ensures.granted s t.way.book t.way.is_book) (sym (c.in-Some.ensures.entry s t.way.book t.way.is_book)) c.requires.well
    c.perform.new.self done.book done.arrived done.slots done.issued done.names done.order in
    omega (arith, less, ap (λ (js : List Entry). left_after s js) on.way.journal)

pub returns-in-None-clause-turns : goal.returns-in-None-clause-turns
returns-in-None-clause-turns c =
    let s = c.args.syncs.now in
    let p = c.args.self.now in
    let t = c.requires.turns in
    let q : Progress = record { book = c.grant.new.self; order = p.order; arrived = p.arrived; issued = p.issued } in
    between_still s p t q (c.in-None.ensures.granted s t.way.book t.way.is_book) (sym (c.in-None.ensures.entry s t.way.book t.way.is_book)) refl refl refl

pub returns-in-None-clause-over : goal.returns-in-None-clause-over
returns-in-None-clause-over c over =
    let s = c.args.syncs.now in
    let p = c.args.self.now in
    let t = c.requires.turns in
    let q : Progress = record { book = c.grant.new.self; order = p.order; arrived = p.arrived; issued = p.issued } in
    over_still s p t q (c.in-None.ensures.granted s t.way.book t.way.is_book) (sym (c.in-None.ensures.entry s t.way.book t.way.is_book)) refl refl refl
