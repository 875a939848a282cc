-- What a run did to an end of the program: to its source, to its image, to its notes.
use Rattle.std.specs.Prelude.{◌≡◌, ℕ, ◌+◌, ◌<◌, ◌≤◌, ◌⊎◌, List, length, take, Option}
use Rattle.std.specs.Io.KnownBytes.{Consumes, Appends, IsAtEnd}
use Rattle.rc_base.specs.Outside.Causes.{Rose, risen}
use Rattle.rc_base.specs.Outside.Transfer.{byte_limit}

-- An end before and after a run: the bytes that it tells, which are those that a source has left and those that a sink holds, and how many of its
-- calls it has refused.
pub record Used : Type 0 where
  pub before : Option (List ℕ)
  pub after : Option (List ℕ)
  pub faults_before : ℕ
  pub faults_after : ℕ

-- what became of an end, by the words that tell its bytes and its refused calls
abbrev pub use_of : {End : Type 0} → (End → Option (List ℕ)) → (End → ℕ) → End → End → Used
use_of bytes faults old new = record { before = bytes old; after = bytes new; faults_before = faults old; faults_after = faults new }

-- one of its calls was refused, and none was made after that
pub record Failed (e : Used) : Type 0 where
  pub rose : Rose e.faults_before e.faults_after
  pub once : e.faults_after ≡ risen e.faults_before

-- none of its calls was refused
abbrev pub IsCalm : Used → Type 0
IsCalm e = e.faults_after ≡ e.faults_before

-- its count of refused calls doesn't fall
abbrev pub IsLater : Used → Type 0
IsLater e = e.faults_before ≤ e.faults_after

-- a sink was given these bytes
abbrev pub Took : Used → List ℕ → Type 0
Took e bytes = Appends e.before e.after bytes

-- a sink was given a front of these bytes, which may be the whole
pub record TookFront (e : Used) (bytes : List ℕ) : Type 0 where
  pub done : ℕ
  pub part : done ≤ length bytes
  pub given : Took e (take done bytes)

-- it was given the lines, or the front of them where it failed
abbrev pub Noted : Used → List ℕ → Type 0
Noted e lines = (Took e lines × IsCalm e) ⊎ (Failed e × ((n : ℕ) × (n < length lines) × Took e (take n lines)))

-- The input was taken from the front of the source, which refused no call: all that it had, or of more than the limit one byte more than that.
pub record TookInput (source : Used) (input : List ℕ) : Type 0 where
  pub calm : IsCalm source
  pub taken : Consumes source.before source.after input
  pub most : length input ≤ byte_limit + 1
  pub all : length input ≤ byte_limit → IsAtEnd source.after
