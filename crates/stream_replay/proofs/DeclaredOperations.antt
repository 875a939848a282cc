-- Each accepted operation of a scene names what is declared.
use Rattle.std.proofs.Common.{◌≡◌, ℕ, zero, suc, Bool, true, List, [], ◌∷◌, ◌++◌, length, Some, None, refl, sym, ap, subst, ◌∙◌, arith, inl, inr, ltb-true, leb-true}
use Rattle.std.specs.Prelude.{nat_lt, nat_le, slice_get, is_some}
use Rattle.std.specs.declared.option.Option.{Option}
use Rattle.std.specs.List.{AllByRecursion}
use Rattle.std.specs.Option.{option_map_or}
use Rattle.std.proofs.lemmas.Bool.{cases_lt, and_parts}
use Rattle.rc_base.specs.Lists.{at_name}
use Rattle.rc_base.specs.Formats.Commands.{IsCommand}
use Rattle.rc_base.specs.Contexts.Context.{ClientContext}
use Rattle.rc_base.specs.Contexts.Faults.{fault_of, is_name}
use Rattle.rc_base.specs.Contexts.Issue.{effect_of, done_by, command_at, context_after, effect_at, stream_of}
use Rattle.rc_base.specs.Orders.Book.{is_declared}
use Rattle.rc_base.specs.Orders.Sync.{ops_of, wait_of, waits_below, sync_lists_of}
use Rattle.rc_base.specs.declared.command.Command.{Command}
use Rattle.rc_base.specs.declared.command.Command.TheVariants as cmd
use Rattle.rc_base.specs.declared.scene.Decl.{Decl}
use Rattle.rc_base.specs.declared.scene.Scene.{Scene}
use Rattle.rc_base.specs.declared.state.Block.{Block}
use Rattle.rc_base.specs.declared.state.Effect.{Effect}
use Rattle.rc_base.specs.declared.state.Effect.TheVariants as eff
use Rattle.rc_base.specs.declared.state.Fault.{Fault}
use Rattle.rc_base.specs.declared.sync.SyncOp.{SyncOp}
use Rattle.rc_base.specs.declared.sync.SyncOp.TheVariants as op
use Rattle.rc_base.specs.declared.sync.SyncRow.{SyncRow}
use Rattle.rc_base.specs.declared.sync.WaitAt.{WaitAt}
use Rattle.gl_context.specs.Valid.{IsValidContext}
use Rattle.gl_context.proofs.Accepted.{accepted}
use Rattle.gl_context.proofs.ValidContexts.{valid}
use Rattle.order_model.specs.Gathering.{AreDeclared}
use Rattle.order_model.proofs.ClientsBeyond.{ops_past}
use Rattle.order_model.proofs.SceneListsAreWellFormed.{scene_row}
use Rattle.scene_lemmas.proofs.Scenes.{scene_client_count}
use Rattle.plain_lemmas.proofs.Lists.{is_some_within}

-- an operation names one of so many barriers or semaphores
abbrev names_of : Decl → SyncOp → Bool
names_of d (op.Barrier name) = is_some (at_name d.barriers name)
names_of d (op.SemP name) = is_some (at_name d.semaphores name)
names_of d (op.SemV name) = is_some (at_name d.semaphores name)
names_of d op.Swap = true

named : {A : Type 0} (xs : List A) (name : ℕ) → is_name name (length xs) ≡ true → is_some (at_name xs name) ≡ true
named xs zero h = absurd (let both = and_parts (nat_lt 0 0) (nat_le 0 (length xs)) h in omega (arith, ltb-true 0 0 both.0))
named xs (suc k) h = is_some_within xs k (omega (arith, leb-true (suc k) (length xs) (and_parts (nat_lt 0 (suc k)) (nat_le (suc k) (length xs)) h).1))

no_operation : (b : Option Block) (o : SyncOp) → option_map_or (λ b. eff.Block b) b eff.Quiet ≡ eff.Sync o → ⊥
no_operation None o e = absurd cc
no_operation (Some b) o e = absurd cc

done_named : (d : Decl) (x : ClientContext) (c : Command) (o : SyncOp) → IsValidContext d x → fault_of x c ≡ None → done_by x c ≡ eff.Sync o → names_of d o ≡ true
done_named d x (cmd.Barrier name) o v passes e =
    let same : op.Barrier name ≡ o = cc in
    let kept = (accepted x (cmd.Barrier name) passes).values in
    subst (λ (k : SyncOp). names_of d k ≡ true) same (named d.barriers name (subst (λ (n : ℕ). is_name name n ≡ true) v.barriers kept))
done_named d x (cmd.SemP name) o v passes e =
    let same : op.SemP name ≡ o = cc in
    let kept = (accepted x (cmd.SemP name) passes).values in
    subst (λ (k : SyncOp). names_of d k ≡ true) same (named d.semaphores name (subst (λ (n : ℕ). is_name name n ≡ true) v.semaphores kept))
done_named d x (cmd.SemV name) o v passes e =
    let same : op.SemV name ≡ o = cc in
    let kept = (accepted x (cmd.SemV name) passes).values in
    subst (λ (k : SyncOp). names_of d k ≡ true) same (named d.semaphores name (subst (λ (n : ℕ). is_name name n ≡ true) v.semaphores kept))
done_named d x cmd.Swap o v passes e = let same : op.Swap ≡ o = cc in subst (λ (k : SyncOp). names_of d k ≡ true) same refl
done_named d x cmd.End o v passes e = absurd (no_operation x.block o e)
done_named d x c o v passes e = absurd cc

effect_named : (d : Decl) (x : ClientContext) (c : Command) (o : SyncOp) → IsValidContext d x → effect_of x c ≡ eff.Sync o → names_of d o ≡ true
unfolding effect_of
effect_named d x c o v = by (fault_of x c) refl
  where
    by : (f : Option Fault) → fault_of x c ≡ f → option_map_or (λ f. eff.Refused f) f (done_by x c) ≡ eff.Sync o → names_of d o ≡ true
    by (Some f) is e = absurd cc
    by None is e = done_named d x c o v is e

at_named : (s : Scene) (client n : ℕ) (o : SyncOp) → AllByRecursion (AllByRecursion IsCommand) s.streams → effect_at s client n ≡ eff.Sync o → names_of s.decl o ≡ true
unfolding effect_at
at_named s client n o all = by (command_at s client n)
  where
    by : (c : Option Command) → option_map_or (effect_of (context_after s client n)) c eff.Quiet ≡ eff.Sync o → names_of s.decl o ≡ true
    by None e = absurd cc
    by (Some c) e = effect_named s.decl (context_after s client n) c o (valid s all client n) e

-- ---- lists of operations

abbrev AllNamed : Decl → List WaitAt → Type 0
AllNamed d [] = Unit {0}
AllNamed d (w ∷ ws) = (names_of d w.op ≡ true) × AllNamed d ws

named_append : (d : Decl) (us vs : List WaitAt) → AllNamed d us → AllNamed d vs → AllNamed d (us ++ vs)
named_append d [] vs h k = k
named_append d (u ∷ us) vs h k = (h.0, named_append d us vs h.1 k)

wait_named : (d : Decl) (n : ℕ) (e : Effect) → ((o : SyncOp) → e ≡ eff.Sync o → names_of d o ≡ true) → AllNamed d (wait_of n e)
wait_named d n (eff.Sync o) h = (h o refl, tt)
wait_named d n eff.Quiet h = tt
wait_named d n (eff.Refused f) h = tt
wait_named d n (eff.Block b) h = tt
wait_named d n (eff.Clear m) h = tt
wait_named d n (eff.Shared p) h = tt

waits_named : (s : Scene) (client n : ℕ) → AllByRecursion (AllByRecursion IsCommand) s.streams → AllNamed s.decl (waits_below s client n)
unfolding waits_below
waits_named s client zero all = tt
waits_named s client (suc n) all =
    named_append s.decl (waits_below s client n) (wait_of n (effect_at s client n)) (waits_named s client n all)
    (wait_named s.decl n (effect_at s client n) (λ o e. at_named s client n o all e))

named_at : (d : Decl) (ws : List WaitAt) (k : ℕ) (w : WaitAt) → AllNamed d ws → slice_get ws k ≡ Some w → names_of d w.op ≡ true
named_at d [] k w h e = absurd cc
named_at d (v ∷ ws) zero w h e = let same : v ≡ w = cc in subst (λ (u : WaitAt). names_of d u.op ≡ true) same h.0
named_at d (v ∷ ws) (suc k) w h e = named_at d ws k w h.1 e

declared_by : (s : Scene) (o : SyncOp) → names_of s.decl o ≡ true → is_declared (sync_lists_of s) o ≡ true
unfolding sync_lists_of
declared_by s (op.Barrier name) h = h
declared_by s (op.SemP name) h = h
declared_by s (op.SemV name) h = h
declared_by s op.Swap h = h

pub scene_declared : (s : Scene) → AllByRecursion (AllByRecursion IsCommand) s.streams → AreDeclared (sync_lists_of s)
scene_declared s all client k w e = elim (cases_lt client (length s.streams)) [
  | inl lt ↦
      let ops : ops_of (sync_lists_of s) client ≡ waits_below s client (length (stream_of s client)) = ap (λ (r : SyncRow). r.ops) (scene_row s client lt) in
      declared_by s w.op (named_at s.decl (waits_below s client (length (stream_of s client))) k w (waits_named s client (length (stream_of s client)) all)
      (ap (λ (l : List WaitAt). slice_get l k) (sym ops) ∙ e))
  | inr ge ↦ absurd (
      let none : slice_get {X = WaitAt} [] k ≡ Some w = ap (λ (l : List WaitAt). slice_get l k) (sym (ops_past (sync_lists_of s) client (omega (arith, scene_client_count s, ge)))) ∙ e in
      nothing_at k w none)
]
  where
    nothing_at : (k : ℕ) (w : WaitAt) → slice_get {X = WaitAt} [] k ≡ Some w → ⊥
    nothing_at zero w e = absurd cc
    nothing_at (suc k) w e = absurd cc
