-- Frames that can be written, and what a sink took of a text.
use Rattle.std.specs.Prelude.{◌≡◌, ℕ, ◌+◌, ◌^◌, ◌<◌, ◌≤◌, ◌⊎◌, true, false, List, length, take, min, Option, Result, Ok, Err}
use Rattle.std.specs.Io.KnownBytes.{Appends}
use Rattle.rc_base.specs.Outside.Causes.{last_count}
use Rattle.rc_base.specs.declared.transfer.WriteFault.{WriteFault}
use Rattle.std.specs.List.{AllByRecursion}
use Rattle.rc_base.specs.Outside.Ends.{Used, Failed, IsCalm, Took}
use Rattle.rc_base.specs.declared.image.Image.{Image}
use Rattle.ppm_out.specs.Pictures.{IsWholeImage}
use Rattle.frame_out.specs.declared.writing.Written.{Written}

-- each of them is an image, and they are so few that their bytes can be counted
pub record AreWritable (frames : List Image) : Type 0 where
  pub whole : AllByRecursion IsWholeImage frames
  pub few : length frames ≤ 2 ^ 32

-- it was given the whole, or so many bytes before it failed
abbrev pub IsTextWritten : Used → List ℕ → Written → Type 0
IsTextWritten image text written =
    ((written.fault ≡ false) × Took image text × IsCalm image)
    ⊎ ((written.fault ≡ true) × Failed image × (written.bytes < length text) × Took image (take written.bytes text))

-- and the bytes that went out are counted
pub record IsCounted (image : Used) (text : List ℕ) (written : Written) : Type 0 where
  pub is : IsTextWritten image text written
  pub count : written.fault ≡ false → written.bytes ≡ length text

-- what is counted after one `write_all` more, of so many bytes
abbrev pub written_more : Written → ℕ → Result (Unit {0}) WriteFault → Written
written_more w size (Ok done) = record { bytes = min (w.bytes + size) last_count; fault = false }
written_more w size (Err e) = record { bytes = min (w.bytes + e.done) last_count; fault = true }

-- An image that hadn't failed was given the text, or a front of it where it failed now; one that had was given nothing.
pub record HasGiven (before after : Option (List ℕ)) (text : List ℕ) (old new : Written) : Type 0 where
  pub all : new.fault ≡ false → (old.fault ≡ false) × Appends before after text
  pub front : old.fault ≡ false → (done : ℕ) × (done ≤ length text) × Appends before after (take done text)
  pub none : old.fault ≡ true → (after ≡ before) × (new ≡ old)
