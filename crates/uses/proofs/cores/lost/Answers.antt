use Rattle.std.proofs.Common.{◌≡◌, Bool, true, false, cond, Result, Ok, Err, refl, sym, ap, ◌∙◌}
use Rattle.std.specs.Prelude.{OnErr}
use Rattle.rc_base.specs.Cluster.Parcels.{is_end}
use Rattle.rc_base.specs.declared.cluster.TileMoved.{TileMoved}
use Rattle.rc_base.specs.declared.out_of_memory.OutOfMemory.{OutOfMemory}
use Rattle.order_model.specs.Standing.{Progress}
use Rattle.tile_model.specs.Items.{Item, after_end, after_parcel}
use Rattle.tile_model.specs.Items.Item.{Nothing, Due, Granted, NoMore, Sent}
use Rattle.tile_model.specs.Short.{after_lost}
use Rattle.tile_server.specs.Cores.{log_of, BecameShort, IsProgressOf, IsTileStep}
use Rattle.tile_server.specs.Deeds.{item_of, progress_after}
use Rattle.tile_server.specs.declared.deed.TileDeed.{TileDeed}
use Rattle.tile_server.specs.declared.tile_core.TileCore.{TileCore}
use Rattle.uses.proofs.cores.lost.Goals as goal

lost_log : (p : Progress) (item : Item) → (after_lost p item).log ≡ p.log
lost_log p Nothing = refl
lost_log p (Due e) = refl
lost_log p (Granted e) = refl
lost_log p NoMore = refl
lost_log p (Sent client parcel) = by (is_end parcel.act)
  where
    by : (end : Bool) → (cond end (after_end p client) (after_parcel p client)).log ≡ p.log
    by true = refl
    by false = refl

same_log : (r : Result TileMoved OutOfMemory) (core later : TileCore) (p : Progress) (did : TileDeed)
    → OnErr r (BecameShort core later) → IsTileStep core did later → IsProgressOf core p → OnErr r (log_of later ≡ log_of core)
same_log (Ok moved) core later p did short step stands = tt
same_log (Err lack) core later p did short step stands =
    sym (step.after p stands).ledger.log ∙ ap (λ (b : Bool). (progress_after b p did).log) short.1 ∙ lost_log p (item_of did) ∙ stands.ledger.log

pub returns : goal.returns
returns g c p stands =
    let did = c.step.ensures.step in
    same_log c.step.result _ _ p did.0 c.step.ensures.out_of_memory did.2.0 stands
