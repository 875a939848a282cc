-- The lines of filters that count, one filter more.
use Rattle.std.proofs.Common.{◌≡◌, ◌∙◌, sym, ap, refl, arith, ℕ, suc, ◌+◌, ◌<◌, length, take, get_or, List, [], ◌∷◌, ◌++◌}
use Rattle.std.proofs.lemmas.List.{take_more, length-take-le}
use Rattle.std.proofs.lemmas.Grind.{flat_map-append}
use Rattle.spu_chain.specs.declared.rule.SpuRule.{SpuRule}
use Rattle.spu_chain.specs.declared.rule.SpuRule.TheVariants.{Count}
use Rattle.spu_chain.specs.Scenes.{counts_from}
use Rattle.run_words.specs.Lines.{filter_line, filter_lines}

counts_push : (k : ℕ) (rs : List SpuRule) (r : SpuRule) → counts_from k (rs ++ r ∷ []) ≡ counts_from k rs ++ counts_from (k + length rs) (r ∷ [])
counts_push k [] r = let e : k ≡ k + 0 = omega arith in ap (λ n. counts_from n (r ∷ [])) e
counts_push k (Count m ∷ rs) r =
    let e : k + 1 + length rs ≡ k + suc (length rs) = omega arith in
    ap (λ xs. (k, m) ∷ xs) (counts_push (k + 1) rs r ∙ ap (λ n. counts_from (k + 1) rs ++ counts_from n (r ∷ [])) e)
counts_push k (other ∷ rs) r =
    let e : k + 1 + length rs ≡ k + suc (length rs) = omega arith in
    counts_push (k + 1) rs r ∙ ap (λ n. counts_from (k + 1) rs ++ counts_from n (r ∷ [])) e

-- the lines of one filter more
pub lines_more : (rules : List SpuRule) (i : ℕ) (r d : SpuRule) → i < length rules → r ≡ get_or rules i d
    → filter_lines (counts_from 0 (take (i + 1) rules)) ≡ filter_lines (counts_from 0 (take i rules)) ++ filter_lines (counts_from i (r ∷ []))
lines_more rules i r d inside is =
    let size : 0 + length (take i rules) ≡ i = (let k = length-take-le i rules (omega arith) in omega (arith, k)) in
    ap (λ rs. filter_lines (counts_from 0 rs)) (take_more rules i d inside ∙ ap (λ x. take i rules ++ x ∷ []) (sym is))
    ∙ ap filter_lines (counts_push 0 (take i rules) r ∙ ap (λ n. counts_from 0 (take i rules) ++ counts_from n (r ∷ [])) size)
    ∙ flat_map-append filter_line (counts_from 0 (take i rules)) (counts_from i (r ∷ []))

pub lines_next : (rules : List SpuRule) (i : ℕ) (d : SpuRule) (lines : List ℕ) → i < length rules → lines ≡ filter_lines (counts_from i (get_or rules i d ∷ []))
    → filter_lines (counts_from 0 (take (i + 1) rules)) ≡ filter_lines (counts_from 0 (take i rules)) ++ lines
lines_next rules i d lines inside is =
    lines_more rules i (get_or rules i d) d inside refl ∙ ap (λ xs. filter_lines (counts_from 0 (take i rules)) ++ xs) (sym is)
