use Rattle.std.proofs.Common.{◌≡◌, codes, ap, ◌∷◌, ◌∙◌, sym, List, ℕ, map, take, drop, length, ◌-◌, refl}
use Rattle.std.specs.Cmp.Lexicographic.{bytes_decides}
use Rattle.std.specs.Prelude.{string_bytes}
use Rattle.command_line.specs.Words.Setting.{WithOrder}
use Rattle.command_line.proofs.FirstWords.{front}
use Rattle.command_line.proofs.option.first_option.Goals as goal

pub returns-then-eq : goal.returns-then-eq
returns-then-eq c =
    let name : c.as_str.result.now ≡ codes "--order" = (bytes_decides c.as_str.result.now (codes "--order")).0 (sym c.eq.ensures ∙ c.if-eq.true) in
    let parts = front string_bytes c.args.words.now c.name-item.result c.in-len1-up.len_at_least c.name-item.is
    ∙ ap (λ (w : List ℕ). w ∷ map string_bytes (take (length c.args.words.now - 1) (drop 1 c.args.words.now))) (sym c.as_str.ensures.value ∙ name) in
    record { setting = WithOrder; named = refl; begins = record { parts = parts; fits = tt } }
