-- An order that a legal journal permits can be carried out.
use Rattle.std.proofs.Common.{List, arith}
use Rattle.rc_base.specs.Orders.Journal.{IsLegal, reach_of}
use Rattle.rc_base.specs.Orders.Order.{IsPermitted}
use Rattle.rc_base.specs.Orders.Sync.{sync_lists_of}
use Rattle.rc_base.specs.declared.scene.Scene.{Scene}
use Rattle.rc_base.specs.declared.sync.Entry.{Entry}
use Rattle.rc_base.specs.declared.sync.Name.{Name}
use Rattle.order_model.proofs.NamesInTurn.{at_in, run_next}
use Rattle.order_model.proofs.PermittedAsRuns.{run_of}
use Rattle.serial_render.specs.Shown.{IsPlayable}
use Rattle.serial_render.proofs.SwapsOfJournals.{place_of, swaps_parted}

pub permitted_playable : (s : Scene) (js : List Entry) (order : List Name) → IsLegal (sync_lists_of s) js → IsPermitted (sync_lists_of s) js order → IsPlayable s order
permitted_playable s js order legal permitted = record {
  next = λ i n e. (
    omega (arith, run_next (reach_of (sync_lists_of s) js) (λ c. 0) order i n (run_of (sync_lists_of s) js order permitted) e),
    place_of s js order legal permitted n (at_in order i n e),
  );
  parted = swaps_parted s js order legal permitted;
}
