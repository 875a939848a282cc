use Rattle.call_lists.proofs.PlainStreams.{plain_stream_met, plain_stream_given, plain_stream_faults}
use Rattle.call_lists.proofs.laws.plain_streams_mean_themselves.Goals as goal

pub returns : goal.returns
returns c = λ commands. (plain_stream_met commands, plain_stream_given commands, plain_stream_faults commands)
