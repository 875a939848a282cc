use Rattle.std.proofs.Common.{◌∷◌, List, ℕ, ap, sym, ◌∙◌, map, take, drop, length, ◌-◌}
use Rattle.std.specs.Prelude.{string_bytes}
use Rattle.command_line.proofs.FirstWords.{front}
use Rattle.command_table.proofs.ByOpcode.{name_found}
use Rattle.command_line.proofs.FilterWords.{no_command}
use Rattle.command_line.proofs.leading.first_command.Goals as goal

pub returns-in_err-opcode-in-len1-up : goal.returns-in_err-opcode-in-len1-up
returns-in_err-opcode-in-len1-up c =
    rw (c.from_residual.ensures)
    (no_command c.as_bytes.result.now _ _
    (front string_bytes c.args.words.now c.word-item.result c.in-len1-up.len_at_least c.word-item.is
    ∙ ap (λ (w : List ℕ). w ∷ map string_bytes (take (length c.args.words.now - 1) (drop 1 c.args.words.now))) (sym c.as_bytes.ensures.value))
    c.in_err-opcode-in-len1-up.ensures)

pub returns-in_ok-opcode-in-len1-up : goal.returns-in_ok-opcode-in-len1-up
returns-in_ok-opcode-in-len1-up c =
    front string_bytes c.args.words.now c.word-item.result c.in-len1-up.len_at_least c.word-item.is
    ∙ ap (λ (w : List ℕ). w ∷ map string_bytes (take (length c.args.words.now - 1) (drop 1 c.args.words.now)))
    (sym c.as_bytes.ensures.value ∙ name_found c.as_bytes.result.now c.in_ok-opcode-in-len1-up.opcode (sym c.in_ok-opcode-in-len1-up.ensures))
