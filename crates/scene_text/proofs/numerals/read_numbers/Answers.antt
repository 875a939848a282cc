use Rattle.std.proofs.Common.{◌≡◌, ◌+◌, ◌-◌, ◌<◌, ◌∙◌, [], ◌∷◌, ◌++◌, length, take, drop, sym, ap, arith, add-one, ℤ, w32, to_z, of_z}
use Rattle.std.proofs.Math.ListN.{set}
use Rattle.std.proofs.Math.Seq.{take-suc-set}
use Rattle.std.proofs.Math.Facts.{to_z-of_z}
use Rattle.std.proofs.lemmas.List.{drop-drop}
use Rattle.scene_text.specs.Text.Read.{words_of, numbers_of}
use Rattle.scene_text.specs.Reading.{behind_front}
use Rattle.scene_text.proofs.NumbersInTurn.{number_step, number_stop}
use Rattle.scene_text.proofs.numerals.read_numbers.Goals as goal

pub returns-in-None : goal.returns-in-None
returns-in-None c =
    let inside : c.loop-i.i < length c.args.ranges.now = omega arith in
    sym c.loop-i.invariant.read
    ∙ number_stop c.args.ranges.now c.loop-i.i _ (words_of c.loop-i.rest.now) (take c.loop-i.i c.loop-i.numbers) inside c.in-None.ensures.number

pub loop-i-preserved : goal.loop-i-preserved
loop-i-preserved c =
    let i = c.loop-i.i in
    let z : ℤ = c.in-Some.number in
    let rs = c.args.ranges.now in
    let e = c.in-Some.ensures.number in
    let inside : i < length rs = omega arith in
    let room : i < length c.loop-i.numbers = omega (arith, c.requires, c.loop-i.auto.numbers) in
    let same : to_z w32 (of_z w32 z) ≡ z = to_z-of_z c.in-Some.ensures.fits in
    let front : take (i + 1) (set c.loop-i.numbers i (to_z w32 (of_z w32 z))) ≡ take i c.loop-i.numbers ++ z ∷ [] =
    rw (add-one, same) (take-suc-set c.loop-i.numbers i z room) in
    record {
      words = e.1 ∙ ap (drop 1) c.loop-i.invariant.words ∙ drop-drop 1 i (words_of c.args.words.now);
      read = (λ j. behind_front (front j) (numbers_of (drop (i + 1) rs) (take (length rs - (i + 1)) (e.1 j))))
          ∙ number_step rs i _ (words_of c.loop-i.rest.now) (take i c.loop-i.numbers) z inside e.0
          ∙ c.loop-i.invariant.read;
    }
