use Rattle.std.proofs.Common.{◌∙◌, length, arith, ap}
use Rattle.stream_replay.proofs.IssuedCommands.{is_client, stream_is, command_is}
use Rattle.stream_replay.proofs.listed.listed_at.Goals as goal

pub bounds-as_slice-client : goal.bounds-as_slice-client
bounds-as_slice-client c = omega (arith, is_client c.args.scene.now c.args.client c.args.place c.requires, ap length c.as_slice.ensures)

pub returns : goal.returns
returns c =
    let s = c.args.scene.now in
    let client = c.args.client in
    let row = stream_is s client c.as_slice.result.now c.index-as_slice-client.result c.as_slice.ensures (is_client s client c.args.place c.requires) c.index-as_slice-client.is in
    let is = c.as_slice-commands.ensures ∙ row in
    command_is s client c.args.place c.as_slice-commands.result.now c.index-commands-place.result is (omega (arith, c.requires, ap length is)) c.index-commands-place.is
