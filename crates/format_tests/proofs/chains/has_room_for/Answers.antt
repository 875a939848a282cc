use Rattle.format_tests.proofs.chains.has_room_for.Goals as goal

pub returns : goal.returns
returns g c = λ yes. rw c.requires (c.has_room.ensures.0 yes)
