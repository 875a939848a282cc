-- A client's context whose open block is only counted.
use Rattle.std.specs.Prelude.{◌≡◌, ℕ, length, None}
use Rattle.std.specs.Option.{option_map}
use Rattle.rc_base.specs.Contexts.Context.{ClientContext}
use Rattle.rc_base.specs.Contexts.Issue.{issued, effect_of}
use Rattle.rc_base.specs.declared.command.Command.{Command}
use Rattle.rc_base.specs.declared.state.Block.{Block}
use Rattle.rc_base.specs.declared.state.Effect.{Effect}
use Rattle.rc_base.specs.declared.state.Effect.TheVariants as effect
use Rattle.gl_context.specs.declared.counting.CountingContext.{CountingContext}
use Rattle.gl_context.specs.declared.counting.EffectKind.{EffectKind}
use Rattle.gl_context.specs.declared.counting.EffectKind.TheVariants as kind

-- the context as if no block were open, and how many vertices the open block has, if there is one
abbrev pub counted : ClientContext → CountingContext
counted x = record { outside = record x { block = None }; vertices = option_map (λ (b : Block). length b.vertices) x.block }

-- the kind of an effect
abbrev pub kind_of : Effect → EffectKind
kind_of effect.Quiet = kind.Quiet
kind_of (effect.Refused fault) = kind.Refused
kind_of (effect.Block block) = kind.Block
kind_of (effect.Clear mask) = kind.Clear
kind_of (effect.Shared part) = kind.Shared
kind_of (effect.Sync op) = kind.Sync op

-- the kind of the command's effect in each context that is counted so
abbrev pub HasKind : CountingContext → Command → EffectKind → Type 0
HasKind before command k = (x : ClientContext) → before ≡ counted x → k ≡ kind_of (effect_of x command)

-- of each context that the first one counts, the second one counts what the command at its place leaves
abbrev pub CountsIssued : CountingContext → ℕ → Command → CountingContext → Type 0
CountsIssued before place command after = (x : ClientContext) → before ≡ counted x → after ≡ counted (issued x place command)
