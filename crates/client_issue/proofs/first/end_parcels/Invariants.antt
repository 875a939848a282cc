use Rattle.std.proofs.Common.{◌≡◌, replicate}
use Rattle.rc_base.specs.Cluster.Parcels.{end_parcel}
use Rattle.client_issue.proofs.first.end_parcels.Given as goal

abbrev pub invariant-loop : goal.invariant-loop
invariant-loop l = l.ends.items ≡ replicate l.counter (end_parcel l.place)
