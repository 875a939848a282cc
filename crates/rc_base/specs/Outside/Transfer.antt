-- What it is to read a whole source.
use Rattle.std.specs.Prelude.{◌≡◌, ℕ, ◌+◌, ◌≤◌, List, length, Result, Ok, Err}
use Rattle.rc_base.specs.Outside.Causes.{Rose, risen}
use Rattle.rc_base.specs.declared.transfer.ReadAllFault.{ReadAllFault}
use Rattle.rc_base.specs.declared.transfer.ReadAllFault.TheVariants.{ReadFault, TooLong, OutOfMemory}

-- the most bytes that a source may give
abbrev pub byte_limit : ℕ
byte_limit = 33554432

-- The bytes that were taken of a source fit the answer: they are the answer itself and within the limit, or they are within the limit when
-- the source fails, or they are one byte more than the limit, which is known only by taking that byte.
abbrev pub IsAnswerFor : List ℕ → Result (List ℕ) ReadAllFault → Type 0
IsAnswerFor bytes (Ok read) = (read ≡ bytes) × (length bytes ≤ byte_limit)
IsAnswerFor bytes (Err ReadFault) = length bytes ≤ byte_limit
IsAnswerFor bytes (Err (TooLong seen)) = (seen ≡ byte_limit + 1) × (length bytes ≡ byte_limit + 1)
IsAnswerFor bytes (Err OutOfMemory) = length bytes ≤ byte_limit + 1

-- The source's count of faults fits the answer: it rose by one refused call where the source failed, and else no call of the source was refused.
abbrev pub IsCountFor : (before now : ℕ) → Result (List ℕ) ReadAllFault → Type 0
IsCountFor before now (Ok read) = now ≡ before
IsCountFor before now (Err ReadFault) = Rose before now × (now ≡ risen before)
IsCountFor before now (Err (TooLong seen)) = now ≡ before
IsCountFor before now (Err OutOfMemory) = now ≡ before
