-- A block of bytes that is moved back, where those behind it are moved already.
use Rattle.std.proofs.Common.{◌≡◌, ℕ, ◌+◌, ◌-◌, ◌≤◌, List, ◌++◌, length, take, drop, sym, ap, ◌∙◌, arith, append_assoc}
use Rattle.std.proofs.Math.Seq.{drop_at, drop-drop, take-add, take-take, length-take-le}
use Rattle.std.proofs.lemmas.Slice.{between_is, take-put_mid_below}
use borrow.Rule.Slice.PartMut.{put_mid, Post-is, mid_len, same_len_mid}

module _ (old text block : List ℕ) (from left size by : ℕ) (order : from ≤ left) (few : left ≤ size) (room : size + by ≤ length old)
    (count : length text ≡ length old) (stay : take left text ≡ take left old)
    (moved : drop (left + by) text ≡ drop left (take size old) ++ drop (size + by) old)
    (is : block ≡ take (left - from) (drop from text)) where
  abbrev at : ℕ
  at = from + by

  abbrev more : ℕ
  more = left + by - at

  abbrev new : List ℕ
  new = put_mid at more text block

  block_is : block ≡ take (left - from) (drop from old)
  block_is = is ∙ between_is text from left ∙ ap (drop from) stay ∙ sym (between_is old from left)

  long : length block ≡ more
  long = ap length is ∙ mid_len from left text (omega (arith, few, room, count)) ∙ (let e : left - from ≡ more = omega (arith, order) in e)

  pub new_count : length new ≡ length old
  new_count = same_len_mid at more text block (long ∙ sym (mid_len at (left + by) text (omega (arith, few, room, count)))) ∙ count

  pub new_stay : take from new ≡ take from old
  new_stay =
      take-put_mid_below at more text block from (omega arith) (omega (arith, order, few, room, count))
      ∙ sym (take-take from left text order) ∙ ap (take from) stay ∙ take-take from left old order

  pub new_moved : drop at new ≡ drop from (take size old) ++ drop (size + by) old
  new_moved =
      let total : size - from ≡ (left - from) + (size - left) = omega (arith, order, few) in
      let seam : from + (left - from) ≡ left = omega (arith, order) in
      let part = take (left - from) (drop from old) in
      let whole : drop from (take size old) ≡ part ++ drop left (take size old) =
      sym (between_is old from size) ∙ ap (λ (k : ℕ). take k (drop from old)) total ∙ take-add (left - from) (size - left) (drop from old)
      ∙ ap (λ (l : List ℕ). part ++ l) (ap (take (size - left)) (drop-drop (left - from) from old ∙ ap (λ (k : ℕ). drop k old) seam) ∙ between_is old left size) in
      drop_at (take at text) _ at (length-take-le at text (omega (arith, order, few, room, count)))
      ∙ ap (λ (l : List ℕ). block ++ l) (Post-is at (left + by) text (omega (arith, order)) ∙ moved)
      ∙ ap (λ (l : List ℕ). l ++ (drop left (take size old) ++ drop (size + by) old)) block_is
      ∙ sym (append_assoc part (drop left (take size old)) (drop (size + by) old))
      ∙ ap (λ (l : List ℕ). l ++ drop (size + by) old) (sym whole)
