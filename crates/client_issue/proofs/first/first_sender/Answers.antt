use Rattle.std.proofs.Common.{◌∙◌, List, [], refl, ap, sym, subst, arith}
use Rattle.rc_base.specs.Contexts.Context.{default_context}
use Rattle.rc_base.specs.Cluster.Parcels.{told}
use Rattle.rc_base.specs.declared.scene.Decl.{Decl}
use Rattle.rc_base.specs.declared.state.Parcel.{Parcel}
use Rattle.state_update.specs.Knowledge.{Knows}
use Rattle.client_issue.specs.Sequence.{alone}
use Rattle.client_issue.proofs.Firsts.{first_left, none_pending, no_waits, no_parcels}
use Rattle.client_issue.proofs.first.first_sender.Goals as goal

pub returns-clause-sending : goal.returns-clause-sending
returns-clause-sending c =
    let d = c.in_ok-copy.copy in
    let scene = alone d c.args.stream in
    record {
      few = c.requires.few;
      commands = ∣ c.requires.commands ∣₁;
      count = c.requires.count;
      tiles = c.requires.tiles;
      issued = omega arith;
      context = c.in_ok-context.ensures ∙ ap default_context (sym c.in_ok-copy.ensures) ∙ sym (c.streams_go_on_by_issue.ensures.first scene 0);
      ops = c.new-4.ensures.items ∙ sym (no_waits scene);
      tracked = c.in_ok-tracker.ensures.count;
      known = λ tile lt.
          ∣ subst (λ (ps : List Parcel). Knows c.in_ok-tracker.tracker tile (told d ps)) (sym (no_parcels scene c.args.layout.now tile))
          (subst (λ (x : Decl). Knows c.in_ok-tracker.tracker tile (told x [])) (sym c.in_ok-copy.ensures)
          (c.trackers_follow_parcels.ensures.first c.in_ok-tracker.tracker tile c.args.decl.now (c.in_ok-tracker.ensures.told tile lt))) ∣₁;
      marked = λ tile e lt few. c.in_ok-tracker.ensures.clean tile e ∙ sym (none_pending scene c.args.layout.now tile e);
      pending = tt;
      asking = λ w e. absurd cc;
    }

pub returns-clause-left : goal.returns-clause-left
returns-clause-left c = first_left _ c.args.decl.now c.in_ok-copy.ensures refl refl refl
