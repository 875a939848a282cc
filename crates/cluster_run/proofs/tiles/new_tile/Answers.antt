use Rattle.std.proofs.Common.{[], length, ◌∙◌, ap, refl, subst}
use Rattle.rc_base.specs.declared.scene.Decl.{Decl}
use Rattle.order_model.specs.Standing.{new_progress}
use Rattle.tile_model.specs.Boards.{IsNewBoard}
use Rattle.tile_server.specs.Cores.{board_of, IsProgressOf}
use Rattle.cluster_run.proofs.tiles.new_tile.Goals as goal

pub returns-clause-new : goal.returns-clause-new
returns-clause-new g c =
    let made = c.in_ok-core.ensures in
    let core = c.in_ok-core.core in
    let count = ap length c.streams.ensures in
    record {
      number_is = refl;
      clients_are = refl;
      none_waits = refl;
      ample = made.ample;
      clause = λ took none.
          c.tiles_meet_their_clause.ensures.first c.args.scene.now c.args.layout.now c.args.number core took [] []
          (made.decl ∙ c.decl.ensures) made.layout made.tile (made.clients ∙ count) (subst (λ n. IsProgressOf core (new_progress n)) count made.progress)
          (subst (λ (decl : Decl). IsNewBoard decl c.args.layout.now c.args.number (board_of core)) c.decl.ensures made.board) none refl refl;
    }
