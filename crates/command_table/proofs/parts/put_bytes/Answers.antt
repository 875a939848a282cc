use Rattle.std.proofs.Common.{◌≡◌, ◌<◌, get_or, length, map, pos, sym, arith, ◌∙◌, to_z, of_z}
use Rattle.std.specs.Prelude.{FitsSigned}
use Rattle.std.specs.Int.{w32}
use Rattle.std.proofs.lemmas.List.{length-set, length-map, get_or-map}
use Rattle.command_table.proofs.NumbersInRange.{put_more, bytes_in}
use Rattle.command_table.proofs.parts.put_bytes.Goals as goal

pub loop-i-preserved : goal.loop-i-preserved
loop-i-preserved c =
    let numbers = map pos c.args.bytes.now in
    let fits : FitsSigned w32 c.byte.result = search in
    let inside : c.loop-i.i < length c.loop-i.room = omega (arith, c.loop-i.invariant.0, c.told-room, c.requires, c.loop-i-test.true) in
    let less : c.loop-i.i < length numbers = omega (arith, length-map c.args.bytes.now pos, c.loop-i-test.true) in
    let is : c.byte.result ≡ get_or numbers c.loop-i.i (pos 0) = c.byte.ensures.value ∙ sym (get_or-map pos c.args.bytes.now c.loop-i.i 0 (pos 0) c.loop-i-test.true) in (
      length-set c.loop-i.room c.loop-i.i (to_z w32 (of_z w32 c.byte.result)) ∙ c.loop-i.invariant.0,
      put_more c.loop-i.room numbers c.loop-i.i c.byte.result inside less fits is c.loop-i.invariant.1,
    )

pub returns-clause-in_range : goal.returns-clause-in_range
returns-clause-in_range c = bytes_in c.args.bytes.now (λ i. omega (arith, c.type_inv.bytes i))
