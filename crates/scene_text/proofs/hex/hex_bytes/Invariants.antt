use Rattle.std.proofs.Common.{◌≡◌, length}
use Rattle.scene_text.specs.Text.Read.{hex_bytes}
use Rattle.scene_text.specs.Reading.{behind_front}
use Rattle.scene_text.proofs.hex.hex_bytes.Given as goal

-- the bytes so far, and then those of the digits that are left, are the whole
abbrev pub invariant-loop-digits : goal.invariant-loop-digits
invariant-loop-digits l = behind_front l.bytes (hex_bytes l.digits) ≡ hex_bytes l.word

abbrev pub decreases-loop-digits : goal.decreases-loop-digits
decreases-loop-digits l = length l.digits
