use Rattle.std.proofs.Common.{◌≡◌, ◌≤◌, length, take}
use Rattle.std.specs.Vec.{vec_len, vec_capacity}
use Rattle.command_store.specs.Stores.{commands_in, AreStored}
use Rattle.command_store.proofs.store.CommandStore.of.Given as goal

abbrev pub invariant-loop-command : goal.invariant-loop-command
invariant-loop-command l = record {
  commands : commands_in l.others.items l.kept.items ≡ take l.command-index l.commands;
  stored : AreStored l.others.items l.kept.items;
  len : vec_len l.kept ≡ l.command-index;
  room : length l.commands ≤ vec_capacity l.kept;
}
