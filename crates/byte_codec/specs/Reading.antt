-- Reading from the left, with the first fault that is met: readers as functions of the bytes, and how they are put together.
use Rattle.std.specs.Prelude.{◌≡◌, ℕ, ℤ, zero, suc, List, [], ◌∷◌, ◌++◌, length, take, drop, Option, Some, None, Result, Ok, Err, nat_lt, if◌then◌else◌}
use Rattle.std.specs.Int.{Width, w32, byte_len, from_le_bytes, cast_signed}
use Rattle.byte_codec.specs.declared.fault.Form.{Form}
use Rattle.byte_codec.specs.declared.fault.Form.TheVariants.{Truncated, Unknown}
use Rattle.byte_codec.specs.declared.fault.ReadError.{ReadError}
use Rattle.byte_codec.specs.declared.fault.ReadError.TheVariants as errors

infixl 10 ◌>>=◌
abbrev pub ◌>>=◌ : {A B : Type 0} → Result A Form → (A → Result B Form) → Result B Form
(Ok x) >>= f = f x
(Err e) >>= f = Err e

-- A function failed as reading does, or for want of memory.
abbrev pub Fails : {Y : Type 0} → ReadError → Result Y Form → Type 0
Fails errors.Memory read = Unit {0}
Fails (errors.Form f) read = read ≡ Err f

-- What a function returned, seen by view, is what reading gives, unless memory ran out.
abbrev pub Gives : {X Y : Type 0} → (X → Y) → Result X ReadError → Result Y Form → Type 0
Gives view (Ok x) read = read ≡ Ok (view x)
Gives view (Err e) read = Fails e read

-- What a function that takes no memory returned, seen by view, is what reading gives.
abbrev pub Reads : {X Y : Type 0} → (X → Y) → Result X Form → Result Y Form → Type 0
Reads view (Ok x) read = read ≡ Ok (view x)
Reads view (Err f) read = read ≡ Err f

-- ---- readers put together: a value and the bytes after it

-- one thing, and then another that may depend on it
abbrev pub sized : {A B : Type 0} → (List ℕ → Result (A × List ℕ) Form) → (A → List ℕ → Result (B × List ℕ) Form) → List ℕ → Result ((A × B) × List ℕ) Form
sized p q bytes = p bytes >>= λ x. q x.0 x.1 >>= λ y. Ok ((x.0, y.0), y.1)

abbrev pub both : {A B : Type 0} → (List ℕ → Result (A × List ℕ) Form) → (List ℕ → Result (B × List ℕ) Form) → List ℕ → Result ((A × B) × List ℕ) Form
both p q = sized p (λ _. q)

-- the value that is made of what was read
abbrev pub convert : {A B : Type 0} → (A → B) → (List ℕ → Result (A × List ℕ) Form) → List ℕ → Result (B × List ℕ) Form
convert f p bytes = p bytes >>= λ x. Ok (f x.0, x.1)

-- what a byte stands for, if it stands for anything
abbrev pub known : {L : Type 0} → Option L → ℕ → Result L Form
known None left = Err (Unknown left)
known (Some l) left = Ok l

-- what was read before, and what is still read
abbrev pub with_front : {A : Type 0} → List A → Result (List A × List ℕ) Form → Result (List A × List ℕ) Form
with_front front read = read >>= λ x. Ok (front ++ x.0, x.1)

-- ---- fields

abbrev pub read_byte : List ℕ → Result (ℕ × List ℕ) Form
read_byte [] = Err Truncated
read_byte (b ∷ rest) = Ok (b, rest)

-- the low byte first
abbrev pub read_unsigned : Width → List ℕ → Result (ℕ × List ℕ) Form
read_unsigned w bytes = if nat_lt (length bytes) (byte_len w) then Err Truncated else Ok (from_le_bytes w (take (byte_len w) bytes), drop (byte_len w) bytes)

-- two's complement
abbrev pub read_word : List ℕ → Result (ℤ × List ℕ) Form
read_word bytes = do
  n ← read_unsigned w32 bytes
  Ok (cast_signed w32 n.0, n.1)

abbrev pub cons : {A : Type 0} → A × List A → List A
cons x = x.0 ∷ x.1

unfoldable pub read_words : ℕ → List ℕ → Result (List ℤ × List ℕ) Form
read_words zero bytes = Ok ([], bytes)
read_words (suc n) bytes = convert cons (both read_word (read_words n)) bytes

-- so many bytes as they stand
abbrev pub take_bytes : ℕ → List ℕ → Result (List ℕ × List ℕ) Form
take_bytes count bytes = if nat_lt (length bytes) count then Err Truncated else Ok (take count bytes, drop count bytes)
