use Rattle.std.proofs.Common.{◌<◌, ◌∙◌, ◌+◌, ap, length, arith, refl}
use Rattle.rc_base.specs.Orders.Sync.{sync_row_of}
use Rattle.rc_base.specs.declared.sync.SyncRow.{SyncRow}
use Rattle.sort_last.specs.Players.{start_of}
use Rattle.sort_last.proofs.DrawnFrames.{row_is, is_client}
use Rattle.sort_last.proofs.FrameBounds.{in_order, in_stream}
use Rattle.sort_last.proofs.player.frame_names.Goals as goal

pub row_of-row-requires : goal.row_of-row-requires
row_of-row-requires c = is_client c.args.batch.now.scene.now c.args.batch.now.syncs.now c.args.client c.requires.client c.args.batch.now.lists

pub frame_start-from-requires : goal.frame_start-from-requires
frame_start-from-requires c =
    let b = c.args.batch.now in
    let row = row_is b.scene.now b.syncs.now c.args.client c.row_of-row.result.now c.requires.client b.lists c.row_of-row.ensures in
    omega (arith, c.requires.frame, b.frames c.args.client c.requires.client, ap (λ (r : SyncRow). length r.ops) row)

pub frame_end-to-requires : goal.frame_end-to-requires
frame_end-to-requires c =
    let b = c.args.batch.now in
    let row = row_is b.scene.now b.syncs.now c.args.client c.row_of-row.result.now c.requires.client b.lists c.row_of-row.ensures in
    omega (arith, c.requires.frame, b.frames c.args.client c.requires.client, ap (λ (r : SyncRow). length r.ops) row)

pub returns : goal.returns
returns c =
    let b = c.args.batch.now in
    let s = b.scene.now in
    let client = c.args.client in
    let frame = c.args.frame in
    let row = row_is s b.syncs.now client c.row_of-row.result.now c.requires.client b.lists c.row_of-row.ensures in
    let inside : frame < length (sync_row_of s client).ops = omega (arith, c.requires.frame, b.frames client c.requires.client) in
    let from = c.frame_start-from.ensures ∙ ap (λ (r : SyncRow). start_of r.ops frame) row in
    let to = c.frame_end-to.ensures ∙ ap (λ (r : SyncRow). start_of r.ops (frame + 1)) row in
    record {
      client_is = refl;
      from_is = from;
      to_is = to;
      stand = record {
        order = omega (arith, from, to, in_order s b.ready.composable client c.requires.client frame inside);
        inside = omega (arith, to, in_stream s b.ready.composable client c.requires.client frame inside);
      };
    }
