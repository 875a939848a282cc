-- A client after it has issued its next command.
use Rattle.std.proofs.Common.{◌≡◌, ◌∙◌, ℕ, zero, suc, ◌+◌, ◌<◌, ◌≤◌, false, List, [], ◌∷◌, ◌++◌, length, get_or, Some, None, refl, sym, ap, subst, arith, inl, inr, append-nil, append_assoc, lt-ltb}
use Rattle.std.specs.Prelude.{slice_get, MatchOption, IfSome, Vec, ◌||◌}
use Rattle.std.specs.declared.option.Option.{Option}
use Rattle.std.specs.Global.{Global}
use Rattle.std.proofs.Math.Logic.{∥∥₁_map}
use Rattle.std.proofs.Props.{props}
use Rattle.std.specs.List.{AllByRecursion}
use Rattle.std.specs.Option.{option_map_or, option_to_list}
use Rattle.std.proofs.lemmas.Bool.{cases_lt, le-ltb}
use Rattle.std.proofs.lemmas.Option.{slice_get-get_or}
use Rattle.rc_base.specs.Contexts.Context.{ClientContext}
use Rattle.rc_base.specs.Contexts.Elements.{element_count}
use Rattle.rc_base.specs.Contexts.Issue.{stream_of, context_after, effect_at, command_at, issued, effect_of}
use Rattle.rc_base.specs.Orders.Sync.{wait_of}
use Rattle.rc_base.specs.Cluster.Tiles.{tile_count}
use Rattle.rc_base.specs.Cluster.Looks.{is_pending, marks_at}
use Rattle.rc_base.specs.Cluster.Parcels.{told, parcels_before}
use Rattle.rc_base.specs.Cluster.Sending.{Sending}
use Rattle.rc_base.specs.declared.command.Command.{Command}
use Rattle.rc_base.specs.declared.scene.Scene.{Scene}
use Rattle.rc_base.specs.declared.state.Act.{Act}
use Rattle.rc_base.specs.declared.state.Effect.{Effect}
use Rattle.rc_base.specs.declared.state.ElementValue.{ElementValue}
use Rattle.rc_base.specs.declared.state.Effect.TheVariants as eff
use Rattle.rc_base.specs.declared.state.Parcel.{Parcel}
use Rattle.rc_base.specs.declared.state.State.{State}
use Rattle.rc_base.specs.declared.sync.WaitAt.{WaitAt}
use Rattle.rc_base.specs.declared.window.Layout.{Layout}
use Rattle.rc_base.specs.Formats.Commands.{IsCommand}
use Rattle.rc_base.specs.declared.command.Command.TheVariants as cmd
use Rattle.gl_context.specs.Arguments.{HasTexels}
use Rattle.gl_context.specs.Streams.{StreamsGoOnByIssue}
use Rattle.state_update.specs.Knowledge.{Knows, Tracked, pending}
use Rattle.state_update.specs.declared.told.Told.{Told}
use Rattle.client_issue.specs.Acts.{act_by, goes_to, asks_of}
use Rattle.client_issue.specs.First.{IsFirst}
use Rattle.client_issue.specs.Issued.{sets_element, wait_in}
use Rattle.client_issue.specs.Sequence.{scene_of, sent_from_tile, sent_from, request_items, pending_items, left_with, left_of, heard, IsMade, IsPending, IsSendingWith}
use Rattle.client_issue.specs.declared.pending.Pending.{Pending}
use Rattle.client_issue.specs.declared.sender.Sender.{Sender}
use Rattle.client_issue.proofs.Giving.{skipped_to, tail_end, commands_next, command_items, nothing_sent, no_parcel, before_next, waits_next, leaves_sets}
use Rattle.client_issue.proofs.Marking.{quiet_pending, sets_are_marks, unmarked}

-- what the code did
pub record IsIssued (s : Sender) (c : Command) (x : ClientContext) (effect : Effect) (o : Option Pending) (ops : Vec WaitAt Global) (tracker : Tracked) : Type 0 where
  pub law : StreamsGoOnByIssue
  pub sending : IsSendingWith s None
  pub more : s.issued < length s.stream
  pub command : command_at (scene_of s) 0 s.issued ≡ Some c
  pub context : x ≡ issued s.context s.issued c
  pub effect_is : effect ≡ effect_of s.context c
  pub told : tracker.told ≡ s.tracker.told
  pub marked : (tile e : ℕ) → tile < 32 → pending tracker tile e ≡ (sets_element c s.context.matrix_mode effect e || pending s.tracker tile e)
  pub pending : MatchOption o ((t : ℕ) → t < s.count → asks_of s.layout x.state effect t ≡ false) (IsFirst s.layout x.state s.issued effect)
  pub noted : ops.items ≡ s.ops.items ++ option_to_list (wait_in s.issued effect)

pub next_context : (s : Sender) (c : Command) (x : ClientContext) (effect : Effect) (o : Option Pending) (ops : Vec WaitAt Global) (tracker : Tracked) → IsIssued s c x effect o ops tracker
    → x ≡ context_after (scene_of s) 0 (s.issued + 1)
next_context s c x effect o ops tracker h =
    h.context ∙ ap (λ (y : ClientContext). issued y s.issued c) h.sending.context ∙ sym (h.law (scene_of s) 0 s.issued c h.command).0

pub next_effect : (s : Sender) (c : Command) (x : ClientContext) (effect : Effect) (o : Option Pending) (ops : Vec WaitAt Global) (tracker : Tracked) → IsIssued s c x effect o ops tracker
    → effect ≡ effect_at (scene_of s) 0 s.issued
next_effect s c x effect o ops tracker h =
    h.effect_is ∙ ap (λ (y : ClientContext). effect_of y c) h.sending.context ∙ sym (h.law (scene_of s) 0 s.issued c h.command).1

-- an effect goes to the same tiles by the state before its command and after it
asks_by : StreamsGoOnByIssue → (scene : Scene) (l : Layout) (place t : ℕ) (o : Option Act) → act_by (effect_at scene 0 place) ≡ o
    → option_map_or (λ a. goes_to l (context_after scene 0 (place + 1)).state a t) o false ≡ false
    → option_map_or (λ a. goes_to l (context_after scene 0 place).state a t) o false ≡ false
asks_by law scene l place t None e h = refl
asks_by law scene l place t (Some a) e h = ap (λ (s : State). goes_to l s a t) (sym (leaves_sets law scene place a e).state) ∙ h

asks_before : StreamsGoOnByIssue → (scene : Scene) (l : Layout) (place t : ℕ) → asks_of l (context_after scene 0 (place + 1)).state (effect_at scene 0 place) t ≡ false
    → asks_of l (context_after scene 0 place).state (effect_at scene 0 place) t ≡ false
asks_before law scene l place t h = asks_by law scene l place t (act_by (effect_at scene 0 place)) refl h

-- the tiles before the first one that gets a parcel
abbrev pub first_tile : ℕ → Option Pending → ℕ
first_tile count None = count
first_tile count (Some p) = p.tile

pub not_asked : (s : Sender) (c : Command) (x : ClientContext) (effect : Effect) (o : Option Pending) (ops : Vec WaitAt Global) (tracker : Tracked) → IsIssued s c x effect o ops tracker
    → (t : ℕ) → t < first_tile s.count o → asks_of s.layout (context_after (scene_of s) 0 s.issued).state (effect_at (scene_of s) 0 s.issued) t ≡ false
not_asked s c x effect None ops tracker h t lt =
    asks_before h.law (scene_of s) s.layout s.issued t
    (subst (λ (e : Effect). asks_of s.layout (context_after (scene_of s) 0 (s.issued + 1)).state e t ≡ false) (next_effect s c x effect None ops tracker h)
    (subst (λ (y : ClientContext). asks_of s.layout y.state effect t ≡ false) (next_context s c x effect None ops tracker h) (h.pending t lt)))
not_asked s c x effect (Some p) ops tracker h t lt =
    let first = h.pending in
    let count : t < tile_count s.layout = omega (arith, lt, first.tile) in
    let asks : asks_of s.layout x.state effect t ≡ false =
    ap (λ (o : Option Act). option_map_or (λ a. goes_to s.layout x.state a t) o false) first.act_is ∙ sym (first.goes t count) ∙ first.before t lt in
    asks_before h.law (scene_of s) s.layout s.issued t
    (subst (λ (e : Effect). asks_of s.layout (context_after (scene_of s) 0 (s.issued + 1)).state e t ≡ false) (next_effect s c x effect (Some p) ops tracker h)
    (subst (λ (y : ClientContext). asks_of s.layout y.state effect t ≡ false) (next_context s c x effect (Some p) ops tracker h) asks))

-- ---- what is left

none_left : (a b : List Sending) → a ≡ [] → ([] ++ b) ≡ (a ++ b)
none_left a b e = ap (λ (items : List Sending). items ++ b) (sym e)

items_pending : (s : Sender) (c : Command) (x : ClientContext) (effect : Effect) (o : Option Pending) (ops : Vec WaitAt Global) (tracker : Tracked) → IsIssued s c x effect o ops tracker
    → pending_items (scene_of s) s.layout o ≡ sent_from_tile (scene_of s) s.layout s.issued 0
items_pending s c x effect None ops tracker h =
    let count : tile_count s.layout ≡ s.count = sym h.sending.count in
    sym (skipped_to (scene_of s) s.layout s.issued 0 (tile_count s.layout) (omega arith) (omega arith)
    (λ t _ lt. nothing_sent (scene_of s) s.layout t s.issued (not_asked s c x effect None ops tracker h t (omega (arith, lt, count))))
    ∙ tail_end (scene_of s) s.layout s.issued (tile_count s.layout) (omega arith))
items_pending s c x effect (Some p) ops tracker h =
    let first = h.pending in
    let within = first.tile in
    sym (skipped_to (scene_of s) s.layout s.issued 0 p.tile (omega arith) (omega (arith, within))
    (λ t _ lt. nothing_sent (scene_of s) s.layout t s.issued (not_asked s c x effect (Some p) ops tracker h t lt))
    ∙ ap (λ (k : ℕ). sent_from_tile (scene_of s) s.layout k p.tile) (sym first.place_is))

pub issued_left : (s : Sender) (c : Command) (x : ClientContext) (effect : Effect) (o : Option Pending) (ops : Vec WaitAt Global) (tracker : Tracked) → s.pending ≡ None → s.request ≡ None → IsIssued s c x effect o ops tracker
    → left_of (record s { context = x; tracker = tracker; issued = s.issued + 1; pending = o; request = wait_in s.issued effect; ops = ops }) ≡ left_of s
unfolding left_with
issued_left s c x effect o ops tracker rests asked h =
    let scene = scene_of s in
    let l = s.layout in
    let k = s.issued in
    let request : request_items (wait_in k effect) ≡ request_items (wait_in k (effect_at scene 0 k)) = ap (λ (e : Effect). request_items (wait_in k e)) (next_effect s c x effect o ops tracker h) in
    (λ i. items_pending s c x effect o ops tracker h i ++ (request i ++ sent_from scene l (k + 1)))
    ∙ sym (append_assoc (sent_from_tile scene l k 0) (request_items (wait_in k (effect_at scene 0 k))) (sent_from scene l (k + 1)))
    ∙ ap (λ (items : List Sending). items ++ sent_from scene l (k + 1)) (sym (command_items scene l k))
    ∙ sym (commands_next scene l k h.more)
    ∙ (λ i. pending_items scene l (sym rests i) ++ (request_items (sym asked i) ++ sent_from scene l k))

-- ---- what is known

quiet_next : (s : Sender) (tile : ℕ) → asks_of s.layout (context_after (scene_of s) 0 s.issued).state (effect_at (scene_of s) 0 s.issued) tile ≡ false
    → parcels_before (scene_of s) s.layout 0 tile (s.issued + 1) ≡ parcels_before (scene_of s) s.layout 0 tile s.issued
quiet_next s tile h =
    before_next (scene_of s) s.layout tile s.issued
    ∙ ap (λ (ps : List Parcel). parcels_before (scene_of s) s.layout 0 tile s.issued ++ ps) (no_parcel (scene_of s) s.layout tile s.issued h)
    ∙ append-nil (parcels_before (scene_of s) s.layout 0 tile s.issued)

known_at : (s : Sender) (tile n : ℕ) → parcels_before (scene_of s) s.layout 0 tile n ≡ parcels_before (scene_of s) s.layout 0 tile s.issued → tile < s.count → IsSendingWith s None
    → ∥ Knows s.tracker tile (told s.decl (parcels_before (scene_of s) s.layout 0 tile n)) ∥₁
known_at s tile n e lt h = subst (λ (ps : List Parcel). ∥ Knows s.tracker tile (told s.decl ps) ∥₁) (sym e) (h.known tile lt)

pub heard_less : (p : Pending) (issued tile : ℕ) → tile < p.tile → heard (Some p) issued tile ≡ issued
heard_less p issued tile lt = rw (lt-ltb tile p.tile lt) refl

pub heard_more : (p : Pending) (issued tile : ℕ) → p.tile ≤ tile → heard (Some p) issued tile ≡ p.place
heard_more p issued tile le = rw (le-ltb tile p.tile le) refl

knows_noted : (s : Sender) (tracker : Tracked) (tile : ℕ) (values : ℕ → ElementValue) → tracker.told ≡ s.tracker.told → Knows s.tracker tile values → Knows tracker tile values
knows_noted s tracker tile values same k = record { kept = k.kept; is = ap (λ (l : List Told). slice_get l tile) same ∙ k.is; agrees = k.agrees }

known_before : (s : Sender) (c : Command) (x : ClientContext) (effect : Effect) (o : Option Pending) (ops : Vec WaitAt Global) (tracker : Tracked) → IsIssued s c x effect o ops tracker
    → (tile : ℕ) → tile < s.count → ∥ Knows s.tracker tile (told s.decl (parcels_before (scene_of s) s.layout 0 tile (heard o (s.issued + 1) tile))) ∥₁
known_before s c x effect None ops tracker h tile lt = known_at s tile (s.issued + 1) (quiet_next s tile (not_asked s c x effect None ops tracker h tile lt)) lt h.sending
known_before s c x effect (Some p) ops tracker h tile lt =
    elim (cases_lt tile p.tile) [
      | inl less ↦
          subst (λ (n : ℕ). ∥ Knows s.tracker tile (told s.decl (parcels_before (scene_of s) s.layout 0 tile n)) ∥₁) (sym (heard_less p (s.issued + 1) tile less))
          (known_at s tile (s.issued + 1) (quiet_next s tile (not_asked s c x effect (Some p) ops tracker h tile less)) lt h.sending)
      | inr more ↦
          subst (λ (n : ℕ). ∥ Knows s.tracker tile (told s.decl (parcels_before (scene_of s) s.layout 0 tile n)) ∥₁) (sym (heard_more p (s.issued + 1) tile more ∙ h.pending.place_is))
          (h.sending.known tile lt)
    ]

known_next : (s : Sender) (c : Command) (x : ClientContext) (effect : Effect) (o : Option Pending) (ops : Vec WaitAt Global) (tracker : Tracked) → IsIssued s c x effect o ops tracker
    → (tile : ℕ) → tile < s.count → ∥ Knows tracker tile (told s.decl (parcels_before (scene_of s) s.layout 0 tile (heard o (s.issued + 1) tile))) ∥₁
known_next s c x effect o ops tracker h tile lt =
    ∥∥₁_map (known_before s c x effect o ops tracker h tile lt)
    (knows_noted s tracker tile (told s.decl (parcels_before (scene_of s) s.layout 0 tile (heard o (s.issued + 1) tile))) h.told)

-- ---- what is pending

-- the command sets the element, in the code's words and in the definition's
sets_here : (s : Sender) (c : Command) (x : ClientContext) (effect : Effect) (o : Option Pending) (ops : Vec WaitAt Global) (tracker : Tracked) → IsIssued s c x effect o ops tracker
    → (e : ℕ) → sets_element c s.context.matrix_mode effect e ≡ marks_at (scene_of s) 0 s.issued e
sets_here s c x effect o ops tracker h e =
    (λ i. sets_element c (h.sending.context i).matrix_mode (next_effect s c x effect o ops tracker h i) e)
    ∙ sets_are_marks (scene_of s) s.issued c h.command h.law e

-- a tile that the command doesn't go to
marked_quiet : (s : Sender) (c : Command) (x : ClientContext) (effect : Effect) (o : Option Pending) (ops : Vec WaitAt Global) (tracker : Tracked) → IsIssued s c x effect o ops tracker
    → (tile e : ℕ) → tile < s.count → e < element_count → tile < first_tile s.count o
    → pending tracker tile e ≡ is_pending (scene_of s) s.layout 0 tile (s.issued + 1) e
marked_quiet s c x effect o ops tracker h tile e lt few first =
    let all = h.sending.tiles in
    h.marked tile e (omega (arith, lt, all))
    ∙ (λ i. sets_here s c x effect o ops tracker h e i || h.sending.marked tile e lt few i)
    ∙ sym (quiet_pending (scene_of s) s.layout tile s.issued e (not_asked s c x effect o ops tracker h tile first))

-- one that it goes to isn't given its parcel yet
marked_asked : (s : Sender) (c : Command) (x : ClientContext) (effect : Effect) (p : Pending) (ops : Vec WaitAt Global) (tracker : Tracked) → IsIssued s c x effect (Some p) ops tracker
    → (tile e : ℕ) → tile < s.count → e < element_count → pending tracker tile e ≡ is_pending (scene_of s) s.layout 0 tile s.issued e
marked_asked s c x effect p ops tracker h tile e lt few =
    let all = h.sending.tiles in
    let asks : act_by (effect_at (scene_of s) 0 s.issued) ≡ Some p.act = ap act_by (sym (next_effect s c x effect (Some p) ops tracker h)) ∙ h.pending.act_is in
    h.marked tile e (omega (arith, lt, all))
    ∙ (λ i. (sets_here s c x effect (Some p) ops tracker h e ∙ unmarked (scene_of s) s.issued e p.act asks) i || h.sending.marked tile e lt few i)

marked_next : (s : Sender) (c : Command) (x : ClientContext) (effect : Effect) (o : Option Pending) (ops : Vec WaitAt Global) (tracker : Tracked) → IsIssued s c x effect o ops tracker
    → (tile e : ℕ) → tile < s.count → e < element_count → pending tracker tile e ≡ is_pending (scene_of s) s.layout 0 tile (heard o (s.issued + 1) tile) e
marked_next s c x effect None ops tracker h tile e lt few = marked_quiet s c x effect None ops tracker h tile e lt few lt
marked_next s c x effect (Some p) ops tracker h tile e lt few =
    elim (cases_lt tile p.tile) [
      | inl less ↦
          marked_quiet s c x effect (Some p) ops tracker h tile e lt few less
          ∙ ap (λ (n : ℕ). is_pending (scene_of s) s.layout 0 tile n e) (sym (heard_less p (s.issued + 1) tile less))
      | inr more ↦
          marked_asked s c x effect p ops tracker h tile e lt few
          ∙ ap (λ (n : ℕ). is_pending (scene_of s) s.layout 0 tile n e) (sym (heard_more p (s.issued + 1) tile more ∙ h.pending.place_is))
    ]

pending_next : (s : Sender) (c : Command) (x : ClientContext) (effect : Effect) (o : Option Pending) (ops : Vec WaitAt Global) (tracker : Tracked) → IsIssued s c x effect o ops tracker
    → IfSome o (IsPending (scene_of s) s.layout (s.issued + 1))
pending_next s c x effect None ops tracker h = tt
pending_next s c x effect (Some p) ops tracker h =
    let scene = scene_of s in
    let first = h.pending in
    let same = sym first.place_is in
    let asks : act_by (effect_at scene 0 s.issued) ≡ Some p.act = ap act_by (sym (next_effect s c x effect (Some p) ops tracker h)) ∙ first.act_is in
    let state : x.state ≡ (context_after scene 0 s.issued).state = ap (λ (y : ClientContext). y.state) (next_context s c x effect (Some p) ops tracker h) ∙ (leaves_sets h.law scene s.issued p.act asks).state in
    record {
      last = ap (λ (k : ℕ). k + 1) same;
      asks = subst (λ (k : ℕ). act_by (effect_at scene 0 k) ≡ Some p.act) same asks;
      goes = λ t lt. first.goes t lt ∙ ap (λ (y : State). goes_to s.layout y p.act t) state ∙ ap (λ (k : ℕ). goes_to s.layout (context_after scene 0 k).state p.act t) same;
      tile = first.tile;
      met = first.met;
      made = subst (λ (made : Option Parcel). IfSome made (IsMade p.place p.act)) (sym first.unmade) tt;
    }

waits_are : (place : ℕ) (effect : Effect) → option_to_list (wait_in place effect) ≡ wait_of place effect
waits_are place eff.Quiet = refl
waits_are place (eff.Refused fault) = refl
waits_are place (eff.Block block) = refl
waits_are place (eff.Clear mask) = refl
waits_are place (eff.Shared part) = refl
waits_are place (eff.Sync op) = refl

wait_place : (place : ℕ) (effect : Effect) (w : WaitAt) → wait_in place effect ≡ Some w → place ≡ w.place
wait_place place eff.Quiet w e = absurd cc
wait_place place (eff.Refused fault) w e = absurd cc
wait_place place (eff.Block block) w e = absurd cc
wait_place place (eff.Clear mask) w e = absurd cc
wait_place place (eff.Shared part) w e = absurd cc
wait_place place (eff.Sync op) w e = ap (λ (o : Option WaitAt). option_map_or (λ v. v.place) o place) e

pub issued_sending : (s : Sender) (c : Command) (x : ClientContext) (effect : Effect) (o : Option Pending) (ops : Vec WaitAt Global) (tracker : Tracked) → IsIssued s c x effect o ops tracker
    → IsSendingWith (record s { context = x; tracker = tracker; issued = s.issued + 1; pending = o; request = wait_in s.issued effect; ops = ops }) o
issued_sending s c x effect o ops tracker h =
    let more = h.more in
    record {
      few = h.sending.few;
      commands = h.sending.commands;
      count = h.sending.count;
      tiles = h.sending.tiles;
      issued = omega (arith, more);
      context = next_context s c x effect o ops tracker h;
      ops = h.noted ∙ (λ i. h.sending.ops i ++ waits_are s.issued (next_effect s c x effect o ops tracker h i) i) ∙ sym (waits_next (scene_of s) s.issued);
      tracked = ap length h.told ∙ h.sending.tracked;
      known = known_next s c x effect o ops tracker h;
      marked = marked_next s c x effect o ops tracker h;
      pending = pending_next s c x effect o ops tracker h;
      asking = λ w e. ap (λ k. k + 1) (wait_place s.issued effect w e);
    }

pub HasTexels-prop : (c : Command) → IsProp (HasTexels c)
HasTexels-prop (cmd.TexImage name w h bytes) = hlevel props
HasTexels-prop (cmd.TexPart part) = hlevel props
HasTexels-prop _ = hlevel props

pub command_in : (cs : List Command) (i : ℕ) (d : Command) → AllByRecursion IsCommand cs → i < length cs → IsCommand (get_or cs i d)
command_in [] i d h lt = absurd (omega (arith, lt))
command_in (c ∷ cs) zero d h lt = h.0
command_in (c ∷ cs) (suc i) d h lt = command_in cs i d h.1 (omega (arith, lt))

pub command_is : (scene : Scene) (xs : List Command) (i : ℕ) (c : Command) → xs ≡ stream_of scene 0 → i < length xs → c ≡ get_or xs i c → command_at scene 0 i ≡ Some c
command_is scene xs i c same lt found =
    ap (λ (l : List Command). slice_get l i) (sym same) ∙ slice_get-get_or xs i c lt ∙ ap (λ (d : Command). Some d) (sym found)
