-- Which elements are pending to a tile after one more command, and the looks of its parcel.
use Rattle.std.proofs.Common.{◌≡◌, ◌∙◌, ℕ, zero, suc, ◌+◌, ◌<◌, ◌≤◌, Bool, true, false, List, [], ◌∷◌, Some, None, refl, sym, ap, subst, arith, true≢false}
use Rattle.std.proofs.lemmas.Bool.Decides.{nat_tests}
use Rattle.std.proofs.lemmas.List.Sums.{sum_by-cons}
use Rattle.std.specs.Prelude.{not, nat_eq, is_some, option_and_then, ◌&&◌, ◌||◌, length, sum, if◌then◌else◌}
use Rattle.std.specs.declared.option.Option.{Option}
use Rattle.std.specs.List.{list_any, range_with_len}
use Rattle.std.specs.Option.{option_map_or}
use Rattle.std.proofs.lemmas.Option.{slice_get_past}
use Rattle.std.proofs.lemmas.Bool.{and_parts}
use Rattle.std.proofs.Math.Bool.{and-true}
use Rattle.rc_base.specs.Contexts.Context.{ClientContext, private_count}
use Rattle.rc_base.specs.Contexts.Elements.{element_count, group_sizes, marks}
use Rattle.rc_base.specs.Contexts.Faults.{fault_of, has_values, image_side_most, is_name}
use Rattle.rc_base.specs.Contexts.Issue.{context_after, effect_at, effect_of, command_at, done_by, fault_at, stream_of}
use Rattle.rc_base.specs.Cluster.Looks.{is_block, is_pending, looks_at, looks_for, marks_at, sizes_with}
use Rattle.rc_base.specs.Cluster.Parcels.{draws_on, examined}
use Rattle.rc_base.specs.declared.command.Command.{Command}
use Rattle.rc_base.specs.declared.command.Command.TheVariants as cmd
use Rattle.rc_base.specs.declared.scene.Scene.{Scene}
use Rattle.rc_base.specs.declared.state.Act.{Act}
use Rattle.rc_base.specs.declared.state.Block.{Block}
use Rattle.rc_base.specs.declared.state.Act.TheVariants as act
use Rattle.rc_base.specs.declared.state.Effect.{Effect}
use Rattle.rc_base.specs.declared.state.Effect.TheVariants as eff
use Rattle.rc_base.specs.declared.state.Fault.{Fault}
use Rattle.rc_base.specs.declared.window.Layout.{Layout}
use Rattle.gl_context.specs.Arguments.{HasName}
use Rattle.gl_context.specs.Streams.{StreamsGoOnByIssue}
use Rattle.gl_context.proofs.Accepted.{accepted}
use Rattle.client_issue.specs.Acts.{act_by, act_looks, asks_of, examines, goes_to}
use Rattle.client_issue.specs.Issued.{is_refused, sets_element}
use Rattle.client_issue.proofs.Giving.{one_more}

-- ---- what a command sets

quiet_block : (o : Option Block) → is_refused (option_map_or (λ b. eff.Block b) o eff.Quiet) ≡ false
quiet_block None = refl
quiet_block (Some b) = refl

quiet_done : (x : ClientContext) (c : Command) → is_refused (done_by x c) ≡ false
quiet_done x cmd.End = quiet_block x.block
quiet_done x (cmd.Clear mask) = refl
quiet_done x (cmd.SharedImage part) = refl
quiet_done x (cmd.Barrier name) = refl
quiet_done x (cmd.SemP name) = refl
quiet_done x (cmd.SemV name) = refl
quiet_done x cmd.Swap = refl
quiet_done x c = refl

refused_by : (x : ClientContext) (c : Command) (o : Option Fault) → is_refused (option_map_or (λ f. eff.Refused f) o (done_by x c)) ≡ is_some o
refused_by x c None = quiet_done x c
refused_by x c (Some f) = refl

refused_is : (x : ClientContext) (c : Command) → is_refused (effect_of x c) ≡ is_some (fault_of x c)
unfolding effect_of
refused_is x c = refused_by x c (fault_of x c)

-- a command that isn't refused and writes a private texture has its name
pub named : (x : ClientContext) (c : Command) → is_refused (effect_of x c) ≡ false → HasName c
named x c h = name_of c (accepted x c (none_of (fault_of x c) (sym (refused_is x c) ∙ h))).values
  where
    none_of : (o : Option Fault) → is_some o ≡ false → o ≡ None
    none_of None e = refl
    none_of (Some f) e = absurd (true≢false e)

    low : (name : ℕ) → is_name name private_count ≡ true → name ≤ private_count
    low name e = grind (arith, nat_tests, e)

    name_of : (c : Command) → has_values x c ≡ true → HasName c
    name_of (cmd.TexImage name w high bytes) e = low name (and_parts (is_name name private_count) (is_name w image_side_most && is_name high image_side_most) e).0
    name_of (cmd.TexPart part) e = low part.name e
    name_of c e = tt

-- what the command of a place sets, in the code's words and in the definition's
pub sets_are_marks : (scene : Scene) (place : ℕ) (c : Command) → command_at scene 0 place ≡ Some c → StreamsGoOnByIssue → (e : ℕ)
    → sets_element c (context_after scene 0 place).matrix_mode (effect_at scene 0 place) e ≡ marks_at scene 0 place e
unfolding fault_at
sets_are_marks scene place c is law e =
    let x = context_after scene 0 place in
    let sets : Bool = option_map_or (nat_eq e) (marks c x.matrix_mode) false in
    ap (λ (b : Bool). not b && sets) (ap is_refused (law scene 0 place c is).1 ∙ refused_is x c)
    ∙ ap (λ (o : Option Command). not (is_some (option_and_then (fault_of x) o)) && option_map_or (λ d. option_map_or (nat_eq e) (marks d x.matrix_mode) false) o false) (sym is)

-- a command that gives parcels sets no element
unmarked_by : (x : ClientContext) (c : Command) (mode : ℕ) (a : Act) → act_by (done_by x c) ≡ Some a → marks c mode ≡ None
unmarked_by x cmd.End mode a h = refl
unmarked_by x (cmd.Clear mask) mode a h = refl
unmarked_by x (cmd.SharedImage part) mode a h = refl
unmarked_by x (cmd.Barrier name) mode a h = refl
unmarked_by x (cmd.SemP name) mode a h = refl
unmarked_by x (cmd.SemV name) mode a h = refl
unmarked_by x cmd.Swap mode a h = refl
unmarked_by x c mode a h = absurd cc

unmarked_if : (x : ClientContext) (c : Command) (e : ℕ) (a : Act) (o : Option Fault) → act_by (option_map_or (λ f. eff.Refused f) o (done_by x c)) ≡ Some a
    → (not (is_some o) && option_map_or (nat_eq e) (marks c x.matrix_mode) false) ≡ false
unmarked_if x c e a (Some f) h = refl
unmarked_if x c e a None h = ap (λ (m : Option ℕ). option_map_or (nat_eq e) m false) (unmarked_by x c x.matrix_mode a h)

unmarked_at : (scene : Scene) (place e : ℕ) (a : Act) (o : Option Command) → command_at scene 0 place ≡ o → act_by (effect_at scene 0 place) ≡ Some a → marks_at scene 0 place e ≡ false
unfolding effect_at effect_of fault_at
unmarked_at scene place e a None is h =
    let q : None ≡ Some a = sym (ap (λ (o : Option Command). act_by (option_map_or (effect_of (context_after scene 0 place)) o eff.Quiet)) is) ∙ h in
    absurd cc
unmarked_at scene place e a (Some c) is h =
    let x = context_after scene 0 place in
    ap (λ (o : Option Command). not (is_some (option_and_then (fault_of x) o)) && option_map_or (λ d. option_map_or (nat_eq e) (marks d x.matrix_mode) false) o false) is
    ∙ unmarked_if x c e a (fault_of x c) (sym (ap (λ (o : Option Command). act_by (option_map_or (effect_of x) o eff.Quiet)) is) ∙ h)

pub unmarked : (scene : Scene) (place e : ℕ) (a : Act) → act_by (effect_at scene 0 place) ≡ Some a → marks_at scene 0 place e ≡ false
unmarked scene place e a h = unmarked_at scene place e a (command_at scene 0 place) refl h

-- ---- what is pending after it

pending_step : (scene : Scene) (l : Layout) (tile place e : ℕ)
    → is_pending scene l 0 tile (place + 1) e
    ≡ (marks_at scene 0 place e || (is_pending scene l 0 tile place e
    && not (draws_on l tile (context_after scene 0 place) (effect_at scene 0 place) && list_any (nat_eq e) (examined (context_after scene 0 place) (is_block (effect_at scene 0 place))))))
unfolding is_pending
pending_step scene l tile place e = ap (λ (n : ℕ). is_pending scene l 0 tile n e) (one_more place)

not_drawn : (l : Layout) (tile : ℕ) (x : ClientContext) (effect : Effect) → asks_of l x.state effect tile ≡ false → draws_on l tile x effect ≡ false
not_drawn l tile x eff.Quiet h = refl
not_drawn l tile x (eff.Refused fault) h = refl
not_drawn l tile x (eff.Block block) h = h
not_drawn l tile x (eff.Clear mask) h = h
not_drawn l tile x (eff.Shared part) h = refl
not_drawn l tile x (eff.Sync op) h = refl

-- to a tile that it doesn't go to
pub quiet_pending : (scene : Scene) (l : Layout) (tile place e : ℕ) → asks_of l (context_after scene 0 place).state (effect_at scene 0 place) tile ≡ false
    → is_pending scene l 0 tile (place + 1) e ≡ (marks_at scene 0 place e || is_pending scene l 0 tile place e)
quiet_pending scene l tile place e h =
    let x = context_after scene 0 place in
    let effect = effect_at scene 0 place in
    pending_step scene l tile place e
    ∙ ap (λ (b : Bool). marks_at scene 0 place e || (is_pending scene l 0 tile place e && not (b && list_any (nat_eq e) (examined x (is_block effect))))) (not_drawn l tile x effect h)
    ∙ ap (λ (b : Bool). marks_at scene 0 place e || b) (and-true (is_pending scene l 0 tile place e))

-- what the parcel of an act examines
drawn_by : (l : Layout) (tile : ℕ) (x : ClientContext) (effect : Effect) (a : Act) (e : ℕ) → act_by effect ≡ Some a → goes_to l x.state a tile ≡ true
    → (draws_on l tile x effect && list_any (nat_eq e) (examined x (is_block effect))) ≡ examines x a e
drawn_by l tile x eff.Quiet a e h goes = absurd cc
drawn_by l tile x (eff.Refused fault) a e h goes = absurd cc
drawn_by l tile x (eff.Block block) a e h goes =
    let same : act.Draw block ≡ a = cc in
    subst (λ (b : Act). goes_to l x.state b tile ≡ true → (draws_on l tile x (eff.Block block) && list_any (nat_eq e) (examined x true)) ≡ examines x b e) same
    (λ met. ap (λ (b : Bool). b && list_any (nat_eq e) (examined x true)) met) goes
drawn_by l tile x (eff.Clear mask) a e h goes =
    let same : act.Clear mask ≡ a = cc in
    subst (λ (b : Act). goes_to l x.state b tile ≡ true → (draws_on l tile x (eff.Clear mask) && list_any (nat_eq e) (examined x false)) ≡ examines x b e) same
    (λ met. ap (λ (b : Bool). b && list_any (nat_eq e) (examined x false)) met) goes
drawn_by l tile x (eff.Shared part) a e h goes = let same : act.Shared part ≡ a = cc in subst (λ (b : Act). false ≡ examines x b e) same refl
drawn_by l tile x (eff.Sync op) a e h goes = let same : act.Sync op ≡ a = cc in subst (λ (b : Act). false ≡ examines x b e) same refl

-- to a tile that its act goes to
pub given_pending : (scene : Scene) (l : Layout) (tile place e : ℕ) (a : Act) → act_by (effect_at scene 0 place) ≡ Some a
    → goes_to l (context_after scene 0 place).state a tile ≡ true
    → is_pending scene l 0 tile (place + 1) e ≡ (is_pending scene l 0 tile place e && not (examines (context_after scene 0 place) a e))
given_pending scene l tile place e a asks goes =
    let x = context_after scene 0 place in
    let effect = effect_at scene 0 place in
    pending_step scene l tile place e
    ∙ (λ i. unmarked scene place e a asks i || (is_pending scene l 0 tile place e && not (drawn_by l tile x effect a e asks goes i)))

-- ---- looks

any_alike : (p q : ℕ → Bool) (a n : ℕ) → ((e : ℕ) → e < a + n → p e ≡ q e) → list_any p (range_with_len a n) ≡ list_any q (range_with_len a n)
any_alike p q a zero h = refl
any_alike p q a (suc n) h = λ i. h a (omega arith) i || any_alike p q (a + 1) n (λ e lt. h e (omega (arith, lt))) i

sizes_alike : (p q : ℕ → Bool) (e : ℕ) (sizes : List ℕ) → ((k : ℕ) → k < e + sum sizes → p k ≡ q k) → sizes_with p e sizes ≡ sizes_with q e sizes
sizes_alike p q e [] h = refl
sizes_alike p q e (size ∷ sizes) h =
    let all : sum (size ∷ sizes) ≡ size + sum sizes = sum_by-cons (λ x. x) size sizes in
    λ i.
    (if any_alike p q e size (λ k lt. h k (omega (arith, lt, all))) i then size else 0) + sizes_alike p q (e + size) sizes (λ k lt. h k (omega (arith, lt, all))) i

pub looks_same : (p q : ℕ → Bool) → ((e : ℕ) → e < element_count → p e ≡ q e) → looks_for p ≡ looks_for q
looks_same p q h = λ i. if any_alike p q 0 element_count h i then 1 + length group_sizes + sizes_alike p q 0 group_sizes h i else 1

act_looks_same : (p q : ℕ → Bool) (a : Act) → ((e : ℕ) → e < element_count → p e ≡ q e) → act_looks p a ≡ act_looks q a
act_looks_same p q (act.Draw block) h = looks_same p q h
act_looks_same p q (act.Clear mask) h = looks_same p q h
act_looks_same p q (act.Shared part) h = refl
act_looks_same p q (act.Sync op) h = refl
act_looks_same p q act.End h = refl

looks_by : (l : Layout) (tile : ℕ) (x : ClientContext) (effect : Effect) (a : Act) (p : ℕ → Bool) → act_by effect ≡ Some a → goes_to l x.state a tile ≡ true
    → (if draws_on l tile x effect then looks_for p else 0) ≡ act_looks p a
looks_by l tile x eff.Quiet a p h goes = absurd cc
looks_by l tile x (eff.Refused fault) a p h goes = absurd cc
looks_by l tile x (eff.Block block) a p h goes =
    let same : act.Draw block ≡ a = cc in
    subst (λ (b : Act). goes_to l x.state b tile ≡ true → (if draws_on l tile x (eff.Block block) then looks_for p else 0) ≡ act_looks p b) same
    (λ met. ap (λ (b : Bool). if b then looks_for p else 0) met) goes
looks_by l tile x (eff.Clear mask) a p h goes =
    let same : act.Clear mask ≡ a = cc in
    subst (λ (b : Act). goes_to l x.state b tile ≡ true → (if draws_on l tile x (eff.Clear mask) then looks_for p else 0) ≡ act_looks p b) same
    (λ met. ap (λ (b : Bool). if b then looks_for p else 0) met) goes
looks_by l tile x (eff.Shared part) a p h goes = let same : act.Shared part ≡ a = cc in subst (λ (b : Act). 0 ≡ act_looks p b) same refl
looks_by l tile x (eff.Sync op) a p h goes = let same : act.Sync op ≡ a = cc in subst (λ (b : Act). 0 ≡ act_looks p b) same refl

-- the looks of the parcel of an act, where these elements are pending to its tile
pub looks_given : (scene : Scene) (l : Layout) (tile place : ℕ) (a : Act) (p : ℕ → Bool) → act_by (effect_at scene 0 place) ≡ Some a
    → goes_to l (context_after scene 0 place).state a tile ≡ true → ((e : ℕ) → e < element_count → p e ≡ is_pending scene l 0 tile place e)
    → act_looks p a ≡ looks_at scene l 0 tile place
unfolding looks_at
looks_given scene l tile place a p asks goes alike =
    act_looks_same p (is_pending scene l 0 tile place) a alike
    ∙ sym (looks_by l tile (context_after scene 0 place) (effect_at scene 0 place) a (is_pending scene l 0 tile place) asks goes)

-- behind the last command there are none
no_looks : (scene : Scene) (l : Layout) (tile place : ℕ) (o : Option Command) → command_at scene 0 place ≡ o → o ≡ None → 0 ≡ looks_at scene l 0 tile place
unfolding looks_at effect_at
no_looks scene l tile place o is none =
    let x = context_after scene 0 place in
    ap (λ (q : Option Command). if draws_on l tile x (option_map_or (effect_of x) q eff.Quiet) then looks_for (is_pending scene l 0 tile place) else 0) (sym (is ∙ none))

pub end_looks : (scene : Scene) (l : Layout) (tile place : ℕ) → length (stream_of scene 0) ≤ place → 0 ≡ looks_at scene l 0 tile place
end_looks scene l tile place past = no_looks scene l tile place (command_at scene 0 place) refl (slice_get_past (stream_of scene 0) place past)
