-- Sources and sinks over the readers and writers of the standard library.
use Rattle.std.specs.Prelude.{ℕ, List}
use Rattle.std.specs.declared.option.Option.{Option}

-- a source: the bytes that its reader has still to give, where the reader tells them, and how often it failed
pub record StdSourceModel : Type 0 where
  pub left : Option (List ℕ)
  pub faults : ℕ

-- a sink: the bytes that its writer holds, where the writer tells them, and how often it failed
pub record StdSinkModel : Type 0 where
  pub held : Option (List ℕ)
  pub faults : ℕ
