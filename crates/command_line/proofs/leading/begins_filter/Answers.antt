use Rattle.std.proofs.Common.{◌≡◌, ◌∷◌, List, ℕ, ap, sym, ◌∙◌, map, take, drop, length, ◌-◌}
use Rattle.std.specs.Prelude.{string_bytes}
use Rattle.command_line.proofs.FirstWords.{front}
use Rattle.command_line.proofs.leading.begins_filter.Goals as goal

pub returns-in-len1-up : goal.returns-in-len1-up
returns-in-len1-up c =
    let rest : List (List ℕ) = map string_bytes (take (length c.args.words.now - 1) (drop 1 c.args.words.now)) in
    let words : map string_bytes c.args.words.now ≡ c.as_str.result.now ∷ rest =
    front string_bytes c.args.words.now c.word-item.result c.in-len1-up.len_at_least c.word-item.is
    ∙ ap (λ (w : List ℕ). w ∷ rest) (sym c.as_str.ensures.value) in (
      λ holds. let k = c.is_filter_word.ensures.0 holds in (k.0, rest, words ∙ ap (λ (w : List ℕ). w ∷ rest) k.1),
      λ b. c.is_filter_word.ensures.1 (b.0, (let e = sym words ∙ b.2 in cc)),
    )
