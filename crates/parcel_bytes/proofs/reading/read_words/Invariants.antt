use Rattle.std.proofs.Common.{◌≡◌, ◌-◌, length, take}
use Rattle.byte_codec.specs.Reading.{read_word, with_front}
use Rattle.parcel_bytes.specs.Reading.{read_times}
use Rattle.parcel_bytes.proofs.reading.read_words.Given as goal

abbrev pub invariant-loop-i : goal.invariant-loop-i
invariant-loop-i l = (length l.room ≡ length l.fn.room) × (with_front (take l.i l.room) (read_times read_word (length l.fn.room - l.i) l.rest) ≡ read_times read_word (length l.fn.room) l.bytes)
