use Rattle.std.proofs.Common.{◌≡◌, ◌≢◌, ℕ, ◌<◌, ◌==◌, ◌&&◌, not, Bool, true, false, List, Result, Ok, Err, refl, ap, ◌∙◌, ne_eqb, nat_eq}
use Rattle.std.specs.Prelude.{OnOk, OnErr}
use Rattle.std.specs.List.{list_any}
use Rattle.rc_base.specs.Cluster.Parcels.{examined}
use Rattle.rc_base.specs.Contexts.Context.{ClientContext}
use Rattle.rc_base.specs.declared.out_of_memory.OutOfMemory.{OutOfMemory}
use Rattle.rc_base.specs.declared.state.ElementSet.{ElementSet}
use Rattle.state_update.specs.Knowledge.{AreExaminedTold, Tracked, pending}
use Rattle.uses.proofs.contexts.told_apart.Goals as goal

as_before : (b here some : Bool) → here ≡ false → (b && not (here && some)) ≡ b
as_before true here some apart = ap (λ (v : Bool). not (v && some)) apart
as_before false here some apart = refl

stays : (r : Result (List ElementSet) OutOfMemory) (tile : ℕ) (x : ClientContext) (draws : Bool) (old new : Tracked)
    → OnOk r (AreExaminedTold tile x draws old new) → OnErr r (new ≡ old) → (other e : ℕ) → other < 32 → other ≢ tile → pending new other e ≡ pending old other e
stays (Ok sets) tile x draws old new told same other e low apart =
    told other e low ∙ as_before (pending old other e) (other == tile) (list_any (nat_eq e) (examined x draws)) (ne_eqb other tile apart)
stays (Err lack) tile x draws old new told same other e low apart = ap (λ (t : Tracked). pending t other e) same

pub returns : goal.returns
returns c other e low apart =
    stays c.update.result c.args.tile c.args.context.now c.args.draws c.args.tracker.now c.update.new.self
    c.update.ensures.pending c.update.ensures.err other e low apart
