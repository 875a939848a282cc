use Rattle.assembler.proofs.Underway.{frames_stay, goes_on}
use Rattle.assembler.proofs.laws.calls_show_frames_in_turn.Goals as goal

pub returns-clause-next : goal.returns-clause-next
returns-clause-next c = λ l k places found before later result after under grow comes whole. goes_on l k places found before later under grow result after comes whole

pub returns-clause-stay : goal.returns-clause-stay
returns-clause-stay c = λ l k i places found before later under grow low. frames_stay l k places found before later under grow i low
