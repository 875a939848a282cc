use Rattle.program_tests.proofs.runs.seeds.permits.Goals as goal

pub is_permitted-requires-clause-lists : goal.is_permitted-requires-clause-lists
is_permitted-requires-clause-lists c = c.in_ok-lists.ensures.turns.well

pub is_permitted-requires-clause-clients : goal.is_permitted-requires-clause-clients
is_permitted-requires-clause-clients c = c.in_ok-lists.ensures.turns.clients
