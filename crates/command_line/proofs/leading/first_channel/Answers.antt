use Rattle.std.proofs.Common.{◌∷◌, List, ℕ, ap, sym, ◌∙◌, map, take, drop, length, ◌-◌, rules, ◌<◌}
use Rattle.std.specs.Prelude.{string_bytes}
use Rattle.command_line.proofs.FirstWords.{front}
use Rattle.command_line.proofs.FilterWords.{no_channel}
use Rattle.command_line.proofs.leading.first_channel.Goals as goal

pub returns-then-value-gt-LAST_CHANNEL : goal.returns-then-value-gt-LAST_CHANNEL
returns-then-value-gt-LAST_CHANNEL c =
    let small : c.in_ok-value-in-len1-up.value < 18446744073709551616 = search rules in
    no_channel c.in_ok-value-in-len1-up.value _ _
    (front string_bytes c.args.words.now c.word-item.result c.in-len1-up.len_at_least c.word-item.is
    ∙ ap (λ (w : List ℕ). w ∷ map string_bytes (take (length c.args.words.now - 1) (drop 1 c.args.words.now))) (sym c.as_str.ensures.value ∙ c.in_ok-value-in-len1-up.ensures))
    small c.if-value-gt-LAST_CHANNEL.true
