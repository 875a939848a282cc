use Rattle.std.proofs.Common.{◌≡◌, ◌∙◌, ap, ap₂, subst, sym, ℕ, List}
use Rattle.rc_base.specs.Formats.Limits.{first_outside, least_swaps}
use Rattle.rc_base.specs.declared.command.Command.{Command}
use Rattle.rc_base.specs.declared.scene.Decl.{Decl}
use Rattle.rc_base.specs.declared.scene.Scene.{Scene}
use Rattle.scene_file.specs.Judging.{IsWindowWithin, stream_part}
use Rattle.scene_file.proofs.LimitsByParts.{stored_streams, many_streams}
use Rattle.scene_file.proofs.limits.check_streams.Goals as goal

told : (s : Scene) (decl : Decl) (commands frames : ℕ) (streams : List (List Command)) → decl ≡ s.decl → frames ≡ least_swaps streams → streams ≡ s.streams
    → first_outside (stream_part decl commands frames) ≡ first_outside (stream_part s.decl commands (least_swaps s.streams))
told s decl commands frames streams declared counted same =
    ap₂ (λ (d : Decl) (n : ℕ). first_outside (stream_part d commands n)) declared (counted ∙ ap least_swaps same)

pub judge_streams-requires : goal.judge_streams-requires
judge_streams-requires c = subst IsWindowWithin (sym c.decl.ensures) (record { width = c.requires.width; height = c.requires.height })

pub returns-clause-few : goal.returns-clause-few
returns-clause-few c few =
    stored_streams c.args.scene.now c.args.commands c.judge_streams.result
    (c.judge_streams.ensures ∙ told c.args.scene.now _ c.args.commands _ _ c.decl.ensures c.count_stored_frames-frames.ensures c.streams.ensures) (c.requires.stored few)

pub returns-clause-many : goal.returns-clause-many
returns-clause-many c many =
    many_streams c.args.scene.now c.args.commands c.judge_streams.result
    (c.judge_streams.ensures ∙ told c.args.scene.now _ c.args.commands _ _ c.decl.ensures c.count_stored_frames-frames.ensures c.streams.ensures) many
