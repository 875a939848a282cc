use Rattle.std.proofs.Common.{◌≡◌, ℕ, ◌&&◌, not, Bool, false, cond, List, length, Some, None, Ok, refl, sym, ap₂, subst, ◌∙◌, arith, eq-eqb}
use Rattle.std.specs.Prelude.{MatchOption}
use Rattle.rc_base.specs.declared.cluster.TileMoved.TheVariants as moved
use Rattle.rc_base.specs.declared.state.Parcel.{Parcel}
use Rattle.order_model.specs.Standing.{Progress}
use Rattle.tile_server.specs.Cores.{clients_of, is_short, AreTaken, IsProgressOf, IsTileStep}
use Rattle.tile_server.specs.Deeds.{answer_of, taken_of}
use Rattle.tile_server.specs.declared.deed.Taking.TheVariants.{Works, Holds, Closes, Drops, Loses}
use Rattle.tile_server.specs.declared.deed.TileDeed.{TileDeed}
use Rattle.tile_server.specs.declared.deed.TileDeed.TheVariants.{Performs, Shows, Fails, Learns, Takes, Rests, Finishes}
use Rattle.tile_server.specs.declared.tile_core.TileCore.{TileCore}
use Rattle.uses.specs.Cores.{IsTakenWork}
use Rattle.uses.proofs.cores.drawn.Goals as goal

module _ {I : Type 0} (gave : I → Parcel → I → Type 0) (same : I → I → Type 0) where
  gave_it : (client : ℕ) (parcel : Parcel) (a b : I)
      → MatchOption (taken_of (Takes client parcel Works) client) (same a b) (λ p. gave a p b) → gave a parcel b
  gave_it client parcel a b taken =
      let Gives : Bool → Type 0 = λ here. MatchOption (cond here (Some parcel) None) (same a b) (λ p. gave a p b) in
      subst Gives (eq-eqb client client refl) taken

  module _ (d : I) (before after : List I) (core later : TileCore) (p : Progress) (counted : length before ≡ clients_of core) (stands : IsProgressOf core p) where
    work : (did : TileDeed) (client : ℕ) → answer_of did ≡ Ok (moved.Took client) → IsTileStep core did later → AreTaken gave same did before after
        → IsTakenWork gave d client before core after later
    work (Takes k parcel Works) client took step taken =
        let next = step.first p stands in
        let ample : is_short later ≡ false = step.short ∙ next.1.0 in
        let one : k ≡ client = cc in
        let of_k : IsTakenWork gave d k before core after later = record {
          parcel = parcel;
          taken = gave_it k parcel _ _ (taken.at k d (omega (arith, counted, next.0.low, stands.ledger.count)));
          carried_out = λ givable. (step.drawn p stands ample).0 (ap₂ (λ (a b : Bool). a && b) (ap₂ (λ (a b : Bool). a && not b) next.1.2 next.1.1) givable);
        } in
        subst (λ (n : ℕ). IsTakenWork gave d n before core after later) one of_k
    work (Takes k parcel Holds) client took step taken = absurd cc
    work (Takes k parcel Closes) client took step taken = absurd cc
    work (Takes k parcel Drops) client took step taken = absurd cc
    work (Takes k parcel Loses) client took step taken = absurd cc
    work (Performs e) client took step taken = absurd cc
    work (Shows part) client took step taken = absurd cc
    work Fails client took step taken = absurd cc
    work (Learns g) client took step taken = absurd cc
    work Rests client took step taken = absurd cc
    work Finishes client took step taken = absurd cc

pub returns : goal.returns
returns g c p client d stands took =
    let did = c.step.ensures.step in
    work g.I.Inlet.gave g.I.Inlet.same d _ _ _ _ p c.requires stands did.0 client (sym did.1 ∙ took) did.2.0 did.2.1
