use Rattle.std.proofs.Common.{[], refl, sym, ap, ◌∙◌}
use Rattle.rc_base.specs.Cluster.Tiles.{tile_count}
use Rattle.cluster_run.proofs.clients.new_client.Goals as goal

pub invariant_of-result : goal.invariant_of-result
invariant_of-result g c =
    let given = c.requires.within in
    record { lanes = c.requires.lanes ∙ ap tile_count (sym (c.in_ok-core.ensures.whose given.scene given.client given.is_stream).layout) }

pub returns-clause-new : goal.returns-clause-new
returns-clause-new g c scene is =
    let made = c.in_ok-core.ensures in
    record {
      number_is = refl;
      tiles_are = refl;
      clause = λ sent none.
          c.clients_meet_their_clause.ensures.first scene c.args.layout.now c.args.number c.in_ok-core.core sent [] (made.whose scene c.args.number is) made.short
          (made.left scene c.args.number is) made.tallies none refl;
    }
