-- What a run is to leave.
use Rattle.std.specs.Prelude.{◌≡◌, ℕ, List, Bool, IfSome}
use Rattle.run_rows.specs.declared.row.Due.{Due}

-- it ended with the status that is due; and whether a record is kept, what filters have counted, the image and the notes are what is due, where something is
pub record IsAsDue (due : Due) (status : ℕ) (has_record : Bool) (counts image notes : List ℕ) : Type 0 where
  pub ended : status ≡ due.status
  pub kept : IfSome due.has_record (λ it. has_record ≡ it)
  pub counted : IfSome due.counts (λ them. counts ≡ them)
  pub shown : IfSome due.image (λ them. image ≡ them)
  pub noted : IfSome due.notes (λ them. notes ≡ them)
