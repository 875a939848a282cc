use Rattle.std.proofs.Common.{subst}
use Rattle.rc_base.specs.declared.state.State.{State}
use Rattle.tile_server.specs.Works.{AreNew}
use Rattle.tile_server.proofs.NewCanvases.{fit_new, new_board, whole_new}
use Rattle.tile_server.proofs.Switches.{not_named}
use Rattle.tile_server.proofs.canvas.Canvas.new.Goals as goal

pub invariant_of-result : goal.invariant_of-result
invariant_of-result c =
    let d = c.args.decl.now in
    let copy = c.in_ok-copy_of_decl.field-0 in
    let kept = c.in_ok-new_clients.field-0.items in
    let new = subst (λ (s : State). AreNew s c.args.clients kept) c.default_state-first.ensures c.in_ok-new_clients.ensures in
    record {
      place = c.in_ok-device.ensures.rect;
      whole = whole_new c.sets_have_stored_texels.ensures.blank d copy c.in_ok-new.field-0 c.in_ok-copy_of_decl.ensures c.in_ok-new.ensures;
      fit = fit_new d copy c.args.clients kept c.in_ok-copy_of_decl.ensures new;
      aimed = c.new-hw.ensures.rect;
      switched = record { same = λ client k named at. absurd (not_named client c.new-hw.ensures.of named) };
    }

pub returns-clause-blank : goal.returns-clause-blank
returns-clause-blank c =
    let kept = c.in_ok-new_clients.field-0.items in
    let new = subst (λ (s : State). AreNew s c.args.clients kept) c.default_state-first.ensures c.in_ok-new_clients.ensures in
    new_board c.sets_have_stored_texels.ensures.blank c.args.decl.now c.in_ok-copy_of_decl.field-0 c.args.layout.now c.args.tile c.args.clients kept
    c.in_ok-new.field-0 c.in_ok-device.device c.in_ok-copy_of_decl.ensures new c.in_ok-new.ensures c.in_ok-device.ensures.blank
