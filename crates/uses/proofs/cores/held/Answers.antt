use Rattle.std.proofs.Common.{◌≡◌, ℕ, Bool, true, false, cond, Ok, refl, sym, ap, ◌∙◌}
use Rattle.rc_base.specs.declared.cluster.TileMoved.TheVariants as moved
use Rattle.rc_base.specs.declared.state.Act.{Act}
use Rattle.rc_base.specs.declared.state.Act.TheVariants as act
use Rattle.order_model.specs.Standing.{Progress}
use Rattle.tile_model.specs.Items.{after_act, after_parcel, after_wait}
use Rattle.tile_server.specs.Cores.{is_short, log_of, IsProgressOf, IsTileStep}
use Rattle.tile_server.specs.Deeds.{answer_of, is_wait, progress_after}
use Rattle.tile_server.specs.declared.deed.Taking.TheVariants.{Works, Holds, Closes, Drops, Loses}
use Rattle.tile_server.specs.declared.deed.TileDeed.{TileDeed}
use Rattle.tile_server.specs.declared.deed.TileDeed.TheVariants.{Performs, Shows, Fails, Learns, Takes, Rests, Finishes}
use Rattle.tile_server.specs.declared.tile_core.TileCore.{TileCore}
use Rattle.uses.proofs.cores.held.Goals as goal

held_log : (p : Progress) (client : ℕ) (a : Act) (place : ℕ) → is_wait a ≡ true → (after_act p client a place).log ≡ p.log
held_log p client (act.Sync op) place waits = by (p.held client)
  where
    by : (held : Bool) → (cond held (after_parcel p client) (after_wait p client)).log ≡ p.log
    by true = refl
    by false = refl
held_log p client (act.Draw block) place waits = absurd cc
held_log p client (act.Clear mask) place waits = absurd cc
held_log p client (act.Shared part) place waits = absurd cc
held_log p client act.End place waits = absurd cc

same_log : (core later : TileCore) (p : Progress) (did : TileDeed) (client : ℕ) → answer_of did ≡ Ok (moved.Held client)
    → IsTileStep core did later → IsProgressOf core p → log_of later ≡ log_of core
same_log core later p (Takes k parcel Holds) client held step stands =
    let taken = (step.first p stands).1 in
    let ample : is_short later ≡ false = step.short ∙ taken.0 in
    sym (step.after p stands).ledger.log ∙ ap (λ (b : Bool). (progress_after b p (Takes k parcel Holds)).log) ample
    ∙ held_log p k parcel.act parcel.place taken.2 ∙ stands.ledger.log
same_log core later p (Takes k parcel Works) client held step stands = absurd cc
same_log core later p (Takes k parcel Closes) client held step stands = absurd cc
same_log core later p (Takes k parcel Drops) client held step stands = absurd cc
same_log core later p (Takes k parcel Loses) client held step stands = absurd cc
same_log core later p (Performs e) client held step stands = absurd cc
same_log core later p (Shows part) client held step stands = absurd cc
same_log core later p Fails client held step stands = absurd cc
same_log core later p (Learns g) client held step stands = absurd cc
same_log core later p Rests client held step stands = absurd cc
same_log core later p Finishes client held step stands = absurd cc

pub returns : goal.returns
returns g c p client stands held =
    let did = c.step.ensures.step in
    same_log _ _ p did.0 client (sym did.1 ∙ held) did.2.0 stands
