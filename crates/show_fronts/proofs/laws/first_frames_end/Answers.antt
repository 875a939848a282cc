use Rattle.std.proofs.Common.{◌≡◌, ◌∙◌, min, arith}
use Rattle.order_model.specs.Report.{frame_count}
use Rattle.show_fronts.specs.Fronts.{front_journal}
use Rattle.show_fronts.proofs.laws.first_frames_end.Goals as goal

pub returns : goal.returns
returns c scene l kept n well h le =
    let stays = c.first_frames_stay.ensures in
    let record_is = stays.record scene l kept n well h in
    let all : min n (frame_count kept.journal) ≡ n = omega (arith, le) in
    let count : frame_count (front_journal n kept.journal) ≡ n = stays.count kept.journal n ∙ all in
    (count, c.fronts_end.ensures scene (front_journal n kept.journal) n record_is.maximal.0 count)
