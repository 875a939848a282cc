use Rattle.tile_model.proofs.laws.entries_have_clients.Goals as goal
use Rattle.tile_model.proofs.EntriesHaveClients.{members_are_clients, legal_entries_have_clients}

pub returns-clause-members : goal.returns-clause-members
returns-clause-members c = members_are_clients

pub returns-clause-legal : goal.returns-clause-legal
returns-clause-legal c = legal_entries_have_clients
