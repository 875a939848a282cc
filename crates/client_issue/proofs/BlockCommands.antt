-- A client after it has issued a command of a block as it is kept.
use Rattle.std.proofs.Common.{◌≡◌, ◌∙◌, ℕ, ◌+◌, ◌<◌, Bool, true, false, ◌++◌, length, get_or, Some, None, refl, sym, ap, subst, append-nil, to_z, of_z}
use Rattle.std.specs.Prelude.{MatchOption, FitsSigned, not, ◌&&◌, ◌||◌, ℤ, List, nat_eq}
use Rattle.std.specs.declared.option.Option.{Option}
use Rattle.std.specs.Int.{w32}
use Rattle.std.proofs.lemmas.Int.{to_z-of_z}
use Rattle.std.specs.Option.{option_map_or, option_to_list}
use Rattle.std.proofs.lemmas.List.{get_or_default}
use Rattle.rc_base.specs.Contexts.Context.{ClientContext}
use Rattle.rc_base.specs.Contexts.Elements.{marks}
use Rattle.rc_base.specs.Contexts.Faults.{fault_of}
use Rattle.rc_base.specs.Contexts.Issue.{command_at, done_by, effect_of, issued}
use Rattle.rc_base.specs.declared.command.Command.{Command}
use Rattle.rc_base.specs.declared.command.Command.TheVariants as cmd
use Rattle.rc_base.specs.declared.command.Rgba.{Rgba}
use Rattle.rc_base.specs.declared.state.Act.{Act}
use Rattle.rc_base.specs.declared.state.Block.{Block}
use Rattle.rc_base.specs.declared.state.Effect.{Effect}
use Rattle.rc_base.specs.declared.state.Effect.TheVariants as eff
use Rattle.rc_base.specs.declared.state.Fault.{Fault}
use Rattle.rc_base.specs.declared.sync.WaitAt.{WaitAt}
use Rattle.gl_context.specs.Streams.{StreamsGoOnByIssue}
use Rattle.state_update.specs.Knowledge.{pending}
use Rattle.client_issue.specs.Acts.{act_by, asks_of, goes_to}
use Rattle.client_issue.specs.First.{IsFirst}
use Rattle.client_issue.specs.Issued.{is_refused, sets_element, wait_in}
use Rattle.client_issue.specs.Sequence.{scene_of, left_of, IsIssuing, IsSending, IsSendingWith}
use Rattle.client_issue.specs.declared.pending.Pending.{Pending}
use Rattle.client_issue.specs.declared.sender.Sender.{Sender}
use Rattle.client_issue.proofs.Issuing.{IsIssued, command_is, issued_left, issued_sending}
use Rattle.client_issue.proofs.Requesting.{issuing_of}

-- the next command, where it is known by the stream
pub next_is : (s : Sender) (c : Command) → s.issued < length s.stream → get_or s.stream s.issued cmd.End ≡ c → command_at (scene_of s) 0 s.issued ≡ Some c
next_is s c more at = command_is (scene_of s) s.stream s.issued c refl more (sym at ∙ get_or_default s.stream s.issued cmd.End c more)

and_false : (b : Bool) → (b && false) ≡ false
and_false true = refl
and_false false = refl

-- a command that marks no element sets none
sets_none : (c : Command) (mode e : ℕ) (effect : Effect) → marks c mode ≡ None → sets_element c mode effect e ≡ false
sets_none c mode e effect none =
    ap (λ (o : Option ℕ). not (is_refused effect) && option_map_or (nat_eq e) o false) none ∙ and_false (not (is_refused effect))

-- the client after a command that changes nothing but the context
abbrev pub moved_on : Sender → Command → Sender
moved_on s c = record s { context = issued s.context s.issued c; issued = s.issued + 1 }

-- a coordinate is the same as it is handed on, since it has 32 bits
pub whole_coordinate : (x : ClientContext) (place : ℕ) (s t : ℤ) → FitsSigned w32 s → FitsSigned w32 t
    → issued x place (cmd.TexCoord (to_z w32 (of_z w32 s)) (to_z w32 (of_z w32 t))) ≡ issued x place (cmd.TexCoord s t)
whole_coordinate x place s t fs ft = λ i. issued x place (cmd.TexCoord (to_z-of_z w32 s fs i) (to_z-of_z w32 t ft i))

-- ---- a command that asks nothing of tiles

-- what is known of such a command of itself
pub record IsQuiet (c : Command) : Type 0 where
  pub done : (x : ClientContext) → done_by x c ≡ eff.Quiet
  pub marks_none : (mode : ℕ) → marks c mode ≡ None

pub begin_quiet : (mode : ℕ) → IsQuiet (cmd.Begin mode)
begin_quiet mode = record { done = λ x. refl; marks_none = λ m. refl }

pub vertex_quiet : (pos : List ℤ) → IsQuiet (cmd.Vertex pos)
vertex_quiet pos = record { done = λ x. refl; marks_none = λ m. refl }

pub color_quiet : (color : Rgba) → IsQuiet (cmd.Color color)
color_quiet color = record { done = λ x. refl; marks_none = λ m. refl }

pub tex_coord_quiet : (s t : ℤ) → IsQuiet (cmd.TexCoord s t)
tex_coord_quiet s t = record { done = λ x. refl; marks_none = λ m. refl }

abbrev quiet_or_refused : Option Fault → Effect
quiet_or_refused o = option_map_or (λ f. eff.Refused f) o eff.Quiet

effect_is : (x : ClientContext) (c : Command) → IsQuiet c → effect_of x c ≡ quiet_or_refused (fault_of x c)
unfolding effect_of
effect_is x c q = ap (λ (e : Effect). option_map_or (λ f. eff.Refused f) (fault_of x c) e) (q.done x)

no_act : (o : Option Fault) → act_by (quiet_or_refused o) ≡ None
no_act None = refl
no_act (Some f) = refl

no_wait : (place : ℕ) (o : Option Fault) → wait_in place (quiet_or_refused o) ≡ None
no_wait place None = refl
no_wait place (Some f) = refl

module _ (s : Sender) (c : Command) (law : StreamsGoOnByIssue) (sending : IsSending s) (rests : s.pending ≡ None) (asked : s.request ≡ None) (more : s.issued < length s.stream)
    (at : get_or s.stream s.issued cmd.End ≡ c) (q : IsQuiet c) where
  quiet_act : act_by (effect_of s.context c) ≡ None
  quiet_act = ap act_by (effect_is s.context c q) ∙ no_act (fault_of s.context c)

  quiet_wait : wait_in s.issued (effect_of s.context c) ≡ None
  quiet_wait = ap (wait_in s.issued) (effect_is s.context c q) ∙ no_wait s.issued (fault_of s.context c)

  quietly : IsIssued s c (issued s.context s.issued c) (effect_of s.context c) None s.ops s.tracker
  quietly = record {
    law = law;
    sending = subst (λ (o : Option Pending). IsSendingWith s o) rests sending;
    more = more;
    command = next_is s c more at;
    context = refl;
    effect_is = refl;
    told = refl;
    marked = λ tile e lt. ap (λ (b : Bool). b || pending s.tracker tile e) (sym (sets_none c s.context.matrix_mode e (effect_of s.context c) (q.marks_none s.context.matrix_mode)));
    pending = λ t lt. ap (λ (o : Option Act). option_map_or (λ a. goes_to s.layout (issued s.context s.issued c).state a t) o false) quiet_act;
    noted = sym (append-nil s.ops.items) ∙ ap (λ (w : Option WaitAt). s.ops.items ++ option_to_list w) (sym quiet_wait);
  }

  later_is : record s { context = issued s.context s.issued c; tracker = s.tracker; issued = s.issued + 1; pending = None; request = wait_in s.issued (effect_of s.context c); ops = s.ops } ≡ moved_on s c
  later_is = λ i. record s { context = issued s.context s.issued c; issued = s.issued + 1; pending = sym rests i; request = (quiet_wait ∙ sym asked) i }

  quiet_sending : IsSending (moved_on s c)
  quiet_sending =
      subst (λ (t : Sender). IsSendingWith t t.pending) later_is
      (issued_sending s c (issued s.context s.issued c) (effect_of s.context c) None s.ops s.tracker quietly)

  quiet_left : left_of (moved_on s c) ≡ left_of s
  quiet_left = ap left_of (sym later_is) ∙ issued_left s c (issued s.context s.issued c) (effect_of s.context c) None s.ops s.tracker rests asked quietly

  module _ (x : ClientContext) (e : x ≡ issued s.context s.issued c) where
    pub moved_sending : IsSending (record s { context = x; issued = s.issued + 1 })
    moved_sending = subst (λ (y : ClientContext). IsSendingWith (record s { context = y; issued = s.issued + 1 }) s.pending) (sym e) quiet_sending

    pub moved_left : left_of (record s { context = x; issued = s.issued + 1 }) ≡ left_of s
    moved_left = ap (λ (y : ClientContext). left_of (record s { context = y; issued = s.issued + 1 })) e ∙ quiet_left

    pub moved_issuing : IsIssuing (record s { context = x; issued = s.issued + 1 })
    moved_issuing = issuing_of (record s { context = x; issued = s.issued + 1 }) s.pending moved_sending

-- ---- an End that draws a block

-- what the code did
pub record IsEnded (s : Sender) (b : Block) (x : ClientContext) (o : Option Pending) : Type 0 where
  pub law : StreamsGoOnByIssue
  pub sending : IsSending s
  pub rests : s.pending ≡ None
  pub asked : s.request ≡ None
  pub more : s.issued < length s.stream
  pub at : get_or s.stream s.issued cmd.End ≡ cmd.End
  pub context : x ≡ issued s.context s.issued cmd.End
  pub effect : effect_of s.context cmd.End ≡ eff.Block b
  pub pending : MatchOption o ((t : ℕ) → t < s.count → asks_of s.layout x.state (eff.Block b) t ≡ false) (IsFirst s.layout x.state s.issued (eff.Block b))

-- the client after it
abbrev pub ended : Sender → ClientContext → Option Pending → Sender
ended s x o = record s { context = x; issued = s.issued + 1; pending = o }

drawn : (s : Sender) (b : Block) (x : ClientContext) (o : Option Pending) → IsEnded s b x o → IsIssued s cmd.End x (eff.Block b) o s.ops s.tracker
drawn s b x o h = record {
  law = h.law;
  sending = subst (λ (p : Option Pending). IsSendingWith s p) h.rests h.sending;
  more = h.more;
  command = next_is s cmd.End h.more h.at;
  context = h.context;
  effect_is = sym h.effect;
  told = refl;
  marked = λ tile e lt. refl;
  pending = h.pending;
  noted = sym (append-nil s.ops.items);
}

ended_is : (s : Sender) (b : Block) (x : ClientContext) (o : Option Pending) → IsEnded s b x o
    → record s { context = x; tracker = s.tracker; issued = s.issued + 1; pending = o; request = wait_in s.issued (eff.Block b); ops = s.ops } ≡ ended s x o
ended_is s b x o h = λ i. record s { context = x; issued = s.issued + 1; pending = o; request = sym h.asked i }

pub ended_sending : (s : Sender) (b : Block) (x : ClientContext) (o : Option Pending) → IsEnded s b x o → IsSending (ended s x o)
ended_sending s b x o h = subst (λ (t : Sender). IsSendingWith t t.pending) (ended_is s b x o h) (issued_sending s cmd.End x (eff.Block b) o s.ops s.tracker (drawn s b x o h))

pub ended_left : (s : Sender) (b : Block) (x : ClientContext) (o : Option Pending) → IsEnded s b x o → left_of (ended s x o) ≡ left_of s
ended_left s b x o h = ap left_of (sym (ended_is s b x o h)) ∙ issued_left s cmd.End x (eff.Block b) o s.ops s.tracker h.rests h.asked (drawn s b x o h)

-- where it goes to no tile, nothing is pending as before
module _ (s : Sender) (b : Block) (x : ClientContext) (h : IsEnded s b x None) where
  unmoved : ended s x None ≡ record s { context = x; issued = s.issued + 1 }
  unmoved = λ i. record s { context = x; issued = s.issued + 1; pending = sym h.rests i }

  pub unseen_sending : IsSending (record s { context = x; issued = s.issued + 1 })
  unseen_sending = subst (λ (t : Sender). IsSendingWith t t.pending) unmoved (ended_sending s b x None h)

  pub unseen_left : left_of (record s { context = x; issued = s.issued + 1 }) ≡ left_of s
  unseen_left = ap left_of (sym unmoved) ∙ ended_left s b x None h
