-- The front of a legal journal.
use Rattle.std.proofs.Common.{List, [], ◌∷◌, ◌++◌}
use Rattle.rc_base.specs.Orders.Journal.{SyncState, start, after, IsLegal, IsLegalFrom}
use Rattle.rc_base.specs.declared.sync.Entry.{Entry}
use Rattle.rc_base.specs.declared.sync.SyncLists.{SyncLists}

front_legal : (syncs : SyncLists) (s : SyncState) (js more : List Entry) → IsLegalFrom syncs s (js ++ more) → IsLegalFrom syncs s js
front_legal syncs s [] more h = tt
front_legal syncs s (e ∷ js) more h = (h.0, front_legal syncs (after syncs s e) js more h.1)

pub prefix_legal : (syncs : SyncLists) (js more : List Entry) → IsLegal syncs (js ++ more) → IsLegal syncs js
prefix_legal syncs js more h = front_legal syncs (start syncs) js more h
