-- Sources and sinks in memory: what each call answers and what it leaves, exactly.
use Rattle.std.specs.Prelude.{ℕ, Bool, ◌==◌, min, List, ◌++◌, length, take, drop, Ok, Err, if◌then◌else◌}
use Rattle.std.specs.List.{list_any}
use Rattle.std.specs.declared.result.Result.{Result}
use Rattle.rc_base.specs.declared.outside.Failed.{Failed}
use Rattle.rc_base.specs.Outside.Causes.{risen}

-- a source in memory: the bytes still to come, the most bytes of one call, the numbers of the calls that fail (the first call is 1),
-- how many calls were made, and how many of them failed
pub record MemSourceModel : Type 0 where
  pub left : List ℕ
  pub step : ℕ
  pub fails : List ℕ
  pub calls : ℕ
  pub faults : ℕ

-- a sink in memory: the bytes that it took, and the rest as in a source
pub record MemSinkModel : Type 0 where
  pub held : List ℕ
  pub step : ℕ
  pub fails : List ℕ
  pub calls : ℕ
  pub faults : ℕ

-- a source in memory that never fails
pub record QuietSourceModel : Type 0 where
  pub left : List ℕ
  pub step : ℕ

-- the one value of its type
abbrev pub failed : Failed
failed = record {}

-- after so many calls, the next one's number is among those that fail
abbrev pub is_failing : List ℕ → ℕ → Bool
is_failing fails calls = list_any (λ number. number == risen calls) fails

-- how many bytes a call gets that has this much room, where so many may go at a time and these are left
abbrev pub taken_count : ℕ → ℕ → List ℕ → ℕ
taken_count room step left = min (min room step) (length left)

-- what a call with this much room answers
abbrev pub take_answer : MemSourceModel → ℕ → Result ℕ Failed
take_answer source room =
    if is_failing source.fails source.calls then Err failed else Ok (taken_count room source.step source.left)

-- the source after a call with this much room
abbrev pub source_after : MemSourceModel → ℕ → MemSourceModel
source_after source room =
    if is_failing source.fails source.calls
    then record source { calls = risen source.calls; faults = risen source.faults }
    else record source { left = drop (taken_count room source.step source.left) source.left; calls = risen source.calls }

-- the source that never fails, after a call with this much room
abbrev pub quiet_after : QuietSourceModel → ℕ → QuietSourceModel
quiet_after source room = record source { left = drop (taken_count room source.step source.left) source.left }

-- the sink after it was offered a piece and gave this answer
abbrev pub sink_after : MemSinkModel → List ℕ → Result ℕ Failed → MemSinkModel
sink_after sink piece (Ok count) = record sink { held = sink.held ++ take count piece; calls = risen sink.calls }
sink_after sink piece (Err _) = record sink { calls = risen sink.calls; faults = risen sink.faults }
