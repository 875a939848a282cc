use Rattle.std.proofs.Common.{◌≡◌, ℕ, List, [], ◌++◌, ◌⊎◌, Result, Ok, Err, inl, inr, refl, ap, arith, zero-add, length}
use Rattle.std.specs.Prelude.{IfOk, IfErr}
use Rattle.rc_base.specs.Formats.Spelling.{half, SpellsStream}
use Rattle.rc_base.specs.declared.command.Command.{Command}
use Rattle.packet_bytes.specs.Faults.{FailsAsStream, FaultsAreOne, FaultsSpellNothing}
use Rattle.packet_bytes.specs.declared.fault.PackFault.{PackFault}
use Rattle.packet_bytes.specs.declared.fault.PackFault.TheVariants as faults
use Rattle.uses.proofs.formats.commands_of.Goals as goal

fails_in_front : (bytes rest : List ℕ) → bytes ≡ half 0 ++ rest → FailsAsStream bytes (faults.BadCount 0)
fails_in_front bytes rest parts = (
  bytes,
  record { packets = []; each = tt; parts = refl },
  record { count = 0; rest = rest; fits = omega arith; bad = inl refl; parts = parts },
  zero-add (length bytes),
)

abbrev IsRefused : Result (List Command) PackFault → Type 0
IsRefused r = (r ≡ Err (faults.BadCount 0)) ⊎ (r ≡ Err faults.OutOfMemory)

refused_for : (bytes : List ℕ) (fault : PackFault) → FailsAsStream bytes (faults.BadCount 0) → FailsAsStream bytes fault → FaultsAreOne → IsRefused (Err fault)
refused_for bytes (faults.BadCount at) front fails one = inl (ap Err (one bytes (faults.BadCount at) (faults.BadCount 0) fails front tt tt))
refused_for bytes (faults.UnknownOpcode at) front fails one = inl (ap Err (one bytes (faults.UnknownOpcode at) (faults.BadCount 0) fails front tt tt))
refused_for bytes (faults.Truncated at) front fails one = inl (ap Err (one bytes (faults.Truncated at) (faults.BadCount 0) fails front tt tt))
refused_for bytes faults.OutOfMemory front fails one = inr refl

refused : (bytes : List ℕ) (r : Result (List Command) PackFault) → FailsAsStream bytes (faults.BadCount 0) → IfOk r (SpellsStream bytes) → IfErr r (FailsAsStream bytes)
    → FaultsAreOne → FaultsSpellNothing → IsRefused r
refused bytes (Ok commands) front found fails one nothing = absurd (nothing bytes (faults.BadCount 0) commands front tt found)
refused bytes (Err fault) front found fails one nothing = refused_for bytes fault front fails one

pub returns : goal.returns
returns c rest parts =
    let bytes = c.args.bytes.now in
    refused bytes c.decode.result (fails_in_front bytes rest parts) c.decode.ensures.found c.decode.ensures.fails c.faults_are_one.ensures.law c.faults_spell_nothing.ensures.law
