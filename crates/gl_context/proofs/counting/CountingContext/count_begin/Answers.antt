use Rattle.std.proofs.Common.{sym, ap, ◌∙◌}
use Rattle.rc_base.specs.Contexts.Issue.{issued, effect_of}
use Rattle.rc_base.specs.Formats.Commands.{has_codes}
use Rattle.rc_base.specs.declared.command.Command.{Command}
use Rattle.gl_context.specs.Counted.{counted, kind_of}
use Rattle.gl_context.proofs.CountedBlocks.{none_open, begin_accepted, opened, begin_kind}
use Rattle.gl_context.proofs.counting.CountingContext.count_begin.Goals as goal

pub returns-then-has_codes-clause-kind : goal.returns-then-has_codes-clause-kind
returns-then-has_codes-clause-kind c h x is =
    let mode = c.in-None-Begin.mode-1 in
    let codes = sym (ap has_codes c.in-None-Begin.is-1) ∙ sym c.has_codes.ensures ∙ c.if-has_codes.true in
    let passes = begin_accepted x mode (none_open c.args.self.now x c.in-None-Begin.is-0 is) codes in
    begin_kind x mode passes ∙ ap (λ (d : Command). kind_of (effect_of x d)) (sym c.in-None-Begin.is-1)

pub returns-then-has_codes-clause-issued : goal.returns-then-has_codes-clause-issued
returns-then-has_codes-clause-issued c h place x is =
    let mode = c.in-None-Begin.mode-1 in
    let codes = sym (ap has_codes c.in-None-Begin.is-1) ∙ sym c.has_codes.ensures ∙ c.if-has_codes.true in
    let passes = begin_accepted x mode (none_open c.args.self.now x c.in-None-Begin.is-0 is) codes in
    opened c.args.self.now x place mode passes is ∙ ap (λ (d : Command). counted (issued x place d)) (sym c.in-None-Begin.is-1)

pub returns-then-has_codes-clause-exact : goal.returns-then-has_codes-clause-exact
returns-then-has_codes-clause-exact c =
    let codes = sym (ap has_codes c.in-None-Begin.is-1) ∙ sym c.has_codes.ensures ∙ c.if-has_codes.true in
    rw (c.in-None-Begin.is-0, c.in-None-Begin.is-1) (sym codes)

pub returns-else-has_codes-clause-exact : goal.returns-else-has_codes-clause-exact
returns-else-has_codes-clause-exact c =
    let codes = sym (ap has_codes c.in-None-Begin.is-1) ∙ sym c.has_codes.ensures ∙ c.if-has_codes.false in
    rw (c.in-None-Begin.is-0, c.in-None-Begin.is-1) (sym codes)
