use Rattle.std.proofs.Common.{◌≡◌, ℕ, List, ◌∷◌, map, length, take, drop, ◌-◌, string_bytes, sym, ap, subst, ◌∙◌, true}
use Rattle.command_line.specs.Words.{job_word, IsCommandLine}
use Rattle.command_line.proofs.FirstWords.{front}
use Rattle.command_line.proofs.Lines.{no_line, lacks_due, line_read, told}
use Rattle.command_line.proofs.line.job_of.Goals as goal

pub returns-in_err-seen-in-len1-up : goal.returns-in_err-seen-in-len1-up
returns-in_err-seen-in-len1-up c =
    let rest : List (List ℕ) = map string_bytes (take (length c.args.words.now - 1) (drop 1 c.args.words.now)) in
    let words : map string_bytes c.args.words.now ≡ job_word c.in_ok-job-in-len1-up.job ∷ rest
    = front string_bytes c.args.words.now c.name-item.result c.in-len1-up.len_at_least c.name-item.is
    ∙ ap (λ (w : List ℕ). w ∷ rest) (sym c.as_str.ensures.value ∙ c.in_ok-job-in-len1-up.ensures) in
    rw (c.from_residual-in_err-seen-in-len1-up.ensures) (no_line words (λ ss last r d. c.in_err-seen-in-len1-up.ensures ss last r))

pub returns-then-not-has_due : goal.returns-then-not-has_due
returns-then-not-has_due c =
    let rest : List (List ℕ) = map string_bytes (take (length c.args.words.now - 1) (drop 1 c.args.words.now)) in
    let words : map string_bytes c.args.words.now ≡ job_word c.in_ok-job-in-len1-up.job ∷ rest
    = front string_bytes c.args.words.now c.name-item.result c.in-len1-up.len_at_least c.name-item.is
    ∙ ap (λ (w : List ℕ). w ∷ rest) (sym c.as_str.ensures.value ∙ c.in_ok-job-in-len1-up.ensures) in
    no_line words (lacks_due c.in_ok-seen-in-len1-up.ensures.1 (λ d. let holds : c.has_due.result ≡ true = c.has_due.ensures.1 d in absurd cc))

pub returns-else-not-has_due : goal.returns-else-not-has_due
returns-else-not-has_due c =
    let rest : List (List ℕ) = map string_bytes (take (length c.args.words.now - 1) (drop 1 c.args.words.now)) in
    let words : map string_bytes c.args.words.now ≡ job_word c.in_ok-job-in-len1-up.job ∷ rest
    = front string_bytes c.args.words.now c.name-item.result c.in-len1-up.len_at_least c.name-item.is
    ∙ ap (λ (w : List ℕ). w ∷ rest) (sym c.as_str.ensures.value ∙ c.in_ok-job-in-len1-up.ensures) in
    let reads = c.in_ok-seen-in-len1-up.ensures in
    let line = line_read reads.1 (c.has_due.ensures.0 c.if-not-has_due.false) in (
      reads.0,
      subst (λ ws. IsCommandLine ws c.in_ok-job-in-len1-up.job reads.0) (sym words) line,
      record { parts = (told reads.1).parts; each = line.each; once = line.once },
    )
