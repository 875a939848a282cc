use Rattle.std.proofs.Common.{◌≤◌, arith, ap, subst, length, map, drop, get_or, List, [], ◌≡◌, ◌++◌}
use Rattle.std.specs.List.{flat_map}
use Rattle.rc_base.specs.declared.command.Command.{Command}
use Rattle.rc_base.specs.Formats.Spelling.{stream_text, encoded}
use Rattle.scene_file.specs.Written.{written, AreWhole, IsShort}
use Rattle.scene_file.proofs.WrittenSpells.{IsEncoded, all_at, all_from, within, loop_done}
use Rattle.scene_file.proofs.writing.write_scene.Goals as goal

pub overflow_cast-streams : goal.overflow_cast-streams
overflow_cast-streams c = let w = within c.args.scene.now c.requires in omega (arith, w.clients, ap length c.as_slice-streams.ensures)

pub put_header-requires-clause-shared : goal.put_header-requires-clause-shared
put_header-requires-clause-shared c = (within c.args.scene.now c.requires).shared

pub put_header-requires-clause-barriers : goal.put_header-requires-clause-barriers
put_header-requires-clause-barriers c = (within c.args.scene.now c.requires).barriers

pub put_header-requires-clause-semaphores : goal.put_header-requires-clause-semaphores
put_header-requires-clause-semaphores c = (within c.args.scene.now c.requires).semaphores

pub returns-clause-spelled : goal.returns-clause-spelled
returns-clause-spelled c version whole =
    let i = c.loop-stream.invariant in
    let over : length c.args.scene.now.streams ≤ c.loop-stream.stream-index = omega (arith, c.loop-stream-test.false, ap length c.as_slice-streams.ensures) in
    let short = all_from IsShort c.args.scene.now.streams [] (λ k lt. subst (λ (css : List (List Command)). IsShort (get_or css k [])) c.as_slice-streams.ensures (i.short k (omega arith))) in
    loop_done c.args.scene.now c.loop-stream.bytes c.loop-stream.stream-index (record { version = version; within = c.requires; texels = whole; short = short }) c.in_ok-put_header.ensures.fits
    over
    (subst (λ (css : List (List Command)). c.loop-stream.bytes ++ flat_map stream_text (map encoded (drop c.loop-stream.stream-index css)) ≡ written c.args.scene.now) c.as_slice-streams.ensures (i.bytes_are version))
    (λ k lt. subst (λ (css : List (List Command)). AreWhole (get_or css k []) → IsEncoded (get_or css k [])) c.as_slice-streams.ensures (i.spelled k lt) (all_at AreWhole c.args.scene.now.streams tt whole k))
