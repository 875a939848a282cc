use Rattle.std.proofs.Common.{ℤ, ◌<◌, get_or, length, pos, refl, arith, ◌∙◌, to_z, of_z}
use Rattle.std.specs.Prelude.{FitsSigned}
use Rattle.std.specs.Int.{w32}
use Rattle.std.proofs.lemmas.List.{length-set}
use Rattle.command_table.proofs.NumbersInRange.{put_more, words_more}
use Rattle.command_table.proofs.parts.put_words.Goals as goal

pub loop-i-preserved : goal.loop-i-preserved
loop-i-preserved c =
    let z : ℤ = get_or c.args.words.now c.loop-i.i (pos 0) in
    let fits : FitsSigned w32 z = search in
    let inside : c.loop-i.i < length c.loop-i.room = omega (arith, c.loop-i.invariant.0, c.told-room, c.requires, c.loop-i-test.true) in (
      length-set c.loop-i.room c.loop-i.i (to_z w32 (of_z w32 z)) ∙ c.loop-i.invariant.0,
      put_more c.loop-i.room c.args.words.now c.loop-i.i z inside c.loop-i-test.true fits refl c.loop-i.invariant.1,
      words_more c.args.words.now c.loop-i.i c.loop-i-test.true fits c.loop-i.invariant.2,
    )
