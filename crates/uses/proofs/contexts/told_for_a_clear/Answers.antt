use Rattle.std.proofs.Common.{◌≡◌, ℕ, zero, suc, ◌+◌, ◌<◌, ◌≤◌, ◌&&◌, ◌||◌, not, Bool, true, false, List, Result, Ok, Err, refl, ap, ap₂, ◌∙◌, ne_eqb, nat_eq, arith}
use Rattle.std.specs.Prelude.{OnOk, OnErr, ◌==◌}
use Rattle.std.specs.List.{list_any, range_with_len}
use Rattle.rc_base.specs.Contexts.Context.{ClientContext}
use Rattle.rc_base.specs.Contexts.Elements.{scalar_count}
use Rattle.rc_base.specs.declared.out_of_memory.OutOfMemory.{OutOfMemory}
use Rattle.rc_base.specs.declared.state.ElementSet.{ElementSet}
use Rattle.state_update.specs.Knowledge.{AreExaminedTold, Tracked, pending}
use Rattle.uses.proofs.contexts.told_for_a_clear.Goals as goal

none_above : (e a n : ℕ) → a + n ≤ e → list_any (nat_eq e) (range_with_len a n) ≡ false
none_above e a zero above = refl
none_above e a (suc n) above = ap₂ (λ (b c : Bool). b || c) (ne_eqb e a (λ same. omega (arith, same, above))) (none_above e (a + 1) n (omega (arith, above)))

as_before : (b here some : Bool) → some ≡ false → (b && not (here && some)) ≡ b
as_before true true some none = ap (λ (v : Bool). not v) none
as_before true false some none = refl
as_before false here some none = refl

stays : (r : Result (List ElementSet) OutOfMemory) (tile : ℕ) (x : ClientContext) (old new : Tracked)
    → OnOk r (AreExaminedTold tile x false old new) → OnErr r (new ≡ old) → tile < 32 → (e : ℕ) → scalar_count ≤ e → pending new tile e ≡ pending old tile e
stays (Ok sets) tile x old new told same low e image =
    told tile e low ∙ as_before (pending old tile e) (tile == tile) (list_any (nat_eq e) (range_with_len 0 scalar_count)) (none_above e 0 scalar_count (omega (arith, image)))
stays (Err lack) tile x old new told same low e image = ap (λ (t : Tracked). pending t tile e) same

pub returns : goal.returns
returns c e image =
    stays c.update.result c.args.tile c.args.context.now c.args.tracker.now c.update.new.self c.update.ensures.pending c.update.ensures.err c.requires.server e image
