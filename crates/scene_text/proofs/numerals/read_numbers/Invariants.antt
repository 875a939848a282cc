use Rattle.std.proofs.Common.{◌≡◌, ◌-◌, length, take, drop}
use Rattle.scene_text.specs.Text.Read.{words_of, numbers_of}
use Rattle.scene_text.specs.Reading.{behind_front}
use Rattle.scene_text.proofs.numerals.read_numbers.Given as goal

-- the numbers so far, and then those of the words that are left, are the whole
abbrev pub invariant-loop-i : goal.invariant-loop-i
invariant-loop-i l = record {
  words : words_of l.rest ≡ drop l.i (words_of l.words);
  read : behind_front (take l.i l.numbers) (numbers_of (drop l.i l.ranges) (take (length l.ranges - l.i) (words_of l.rest)))
      ≡ numbers_of l.ranges (take (length l.ranges) (words_of l.words));
}
