use Rattle.std.proofs.Common.{◌≡◌, ◌++◌, ◌∙◌, ap, ℤ, pos, get_or}
use Rattle.std.specs.Int.{w32}
use Rattle.std.specs.Prelude.{FitsSigned}
use Rattle.std.proofs.lemmas.Int.{to_z-of_z}
use Rattle.rc_base.specs.Formats.Spelling.{word}
use Rattle.byte_codec.proofs.WrittenInTurn.{all_grown, all_whole, grown, grown_whole}
use Rattle.parcel_bytes.proofs.writing.write_words.Goals as goal

pub loop-number-preserved : goal.loop-number-preserved
loop-number-preserved c =
    let i = c.loop-number.number-index in
    let fits : FitsSigned w32 (get_or c.args.words.now i (pos 0)) = search in
    let added : c.write_word.new.out ≡ c.loop-number.out ++ word (get_or c.args.words.now i (pos 0)) =
    c.in_ok-write_word.ensures.added ∙ ap (λ (n : ℤ). c.loop-number.out ++ word n) (to_z-of_z w32 _ fits) in (
      grown word c.args.out.now c.loop-number.out c.write_word.new.out c.args.words.now i (pos 0) c.loop-number-test.true c.loop-number.invariant.0 added,
      all_grown (FitsSigned w32) c.args.words.now i (pos 0) c.loop-number-test.true c.loop-number.invariant.1 fits,
    )

pub returns-clause-added : goal.returns-clause-added
returns-clause-added c = grown_whole word c.args.out.now c.loop-number.out c.args.words.now c.loop-number.number-index c.loop-number-test.false c.loop-number.invariant.0

pub returns-clause-typed : goal.returns-clause-typed
returns-clause-typed c = all_whole (FitsSigned w32) c.args.words.now c.loop-number.number-index c.loop-number-test.false c.loop-number.invariant.1
