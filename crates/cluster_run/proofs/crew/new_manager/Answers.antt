use Rattle.std.proofs.Common.{refl, sym, ap, ◌∙◌}
use Rattle.rc_base.specs.Orders.Sync.{sync_lists_of}
use Rattle.rc_base.specs.declared.scene.Decl.{Decl}
use Rattle.scene_lemmas.proofs.Scenes.{scene_client_count}
use Rattle.cluster_run.proofs.crew.new_manager.Goals as goal

pub returns : goal.returns
unfolding sync_lists_of
returns g c scene is =
    let made = c.in_ok-core.ensures in
    let core = c.in_ok-core.core in
    record {
      requests_are = refl;
      grants_are = refl;
      clause = λ took sent. c.managers_meet_their_clause.ensures.first (sync_lists_of scene) c.args.tiles core took sent made.tiles
          (made.progress (sync_lists_of scene) (scene_client_count scene ∙ sym is.clients_are ∙ sym c.args.requests.ok.0 ∙ sym c.len-client_count.ensures)
          (ap (λ (d : Decl). d.barriers) (sym is.decl_is)) (ap (λ (d : Decl). d.semaphores) (sym is.decl_is)));
    }
