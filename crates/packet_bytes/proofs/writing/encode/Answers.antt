use Rattle.std.proofs.Common.{◌≡◌, ◌≤◌, ◌++◌, ◌∙◌, ap, subst, min, take, drop, length, ℕ, List}
use Rattle.std.specs.Int.{div_ceil}
use Rattle.std.specs.List.{AllByRecursion}
use Rattle.rc_base.specs.declared.command.Command.{Command}
use Rattle.rc_base.specs.Formats.Spelling.{packet, packet_count, encoded}
use Rattle.packet_bytes.specs.Texels.{HasType}
use Rattle.packet_bytes.proofs.CommandsByType.{are_commands}
use Rattle.packet_bytes.proofs.EncodedSpells.{next_packet, next_rest, next_typed, all_typed, is_encoded, encoded_spells}
use Rattle.packet_bytes.proofs.writing.encode.Goals as goal

pub loop-preserved : goal.loop-preserved
loop-preserved c =
    let rest = c.loop.rest.now in
    let front : c.split_at.result.0.now ≡ take (min (length rest) 1024) rest = c.split_at.ensures.front ∙ ap (λ (k : ℕ). take k rest) c.min.ensures in
    let back : c.split_at.result.1.now ≡ drop (min (length rest) 1024) rest = c.split_at.ensures.back ∙ ap (λ (k : ℕ). drop k rest) c.min.ensures in
    let added : c.write_packet.new.out ≡ c.loop.bytes ++ packet c.split_at.result.0.now = c.in_ok-write_packet.ensures.added in (
      next_packet c.args.commands.now c.loop.counter c.loop.bytes c.write_packet.new.out rest c.loop.invariant.1 c.loop.invariant.0 (added ∙ ap (λ (l : List Command). c.loop.bytes ++ packet l) front),
      back ∙ next_rest c.args.commands.now c.loop.counter rest c.loop.invariant.1,
      next_typed HasType c.args.commands.now c.loop.counter rest c.loop.invariant.1 c.loop.invariant.2 (subst (AllByRecursion HasType) front c.in_ok-write_packet.ensures.typed),
    )

pub returns-clause-exact : goal.returns-clause-exact
returns-clause-exact c =
    let cs = c.args.commands.now in
    let count : c.div_ceil-end.result ≡ packet_count cs = c.div_ceil-end.ensures ∙ ap (λ (l : List Command). div_ceil (length l) 1024) c.as_slice-rest.ensures in
    is_encoded cs c.loop.counter c.loop.bytes (subst (λ (k : ℕ). k ≤ c.loop.counter) count c.loop-test.false) (subst (λ (k : ℕ). c.loop.counter ≤ k) count c.loop.auto.counter-end) c.loop.invariant.0

pub returns-clause-spelled : goal.returns-clause-spelled
returns-clause-spelled c whole =
    let cs = c.args.commands.now in
    let count : c.div_ceil-end.result ≡ packet_count cs = c.div_ceil-end.ensures ∙ ap (λ (l : List Command). div_ceil (length l) 1024) c.as_slice-rest.ensures in
    let over = subst (λ (k : ℕ). k ≤ c.loop.counter) count c.loop-test.false in
    let exact : c.loop.bytes ≡ encoded cs = is_encoded cs c.loop.counter c.loop.bytes over (subst (λ (k : ℕ). c.loop.counter ≤ k) count c.loop.auto.counter-end) c.loop.invariant.0 in
    let typed : AllByRecursion HasType cs = all_typed HasType cs c.loop.counter over c.loop.invariant.2 in
    rw exact (encoded_spells cs (are_commands cs typed whole))
