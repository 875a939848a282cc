use Rattle.std.proofs.Common.{◌≡◌, ◌<◌, map, length, string_bytes, sym, subst, ◌∙◌, ap, arith, true}
use Rattle.std.proofs.lemmas.List.{length-map}
use Rattle.command_line.specs.Begins.{BeginsWith}
use Rattle.command_line.specs.Reads.{IsFree, with_option}
use Rattle.command_line.proofs.FirstWords.{no_items}
use Rattle.command_line.proofs.Reading.{not_free, read_on, rest_is_shorter, nothing_read, IsRead}
use Rattle.command_line.proofs.seen.+read.Goals as goal

pub returns-then-is_empty : goal.returns-then-is_empty
returns-then-is_empty t c = nothing_read (no_items string_bytes c.args.words.now (sym c.if-is_empty.ensures))

pub returns-then-not-is_free : goal.returns-then-not-is_free
returns-then-not-is_free t c =
    let b : BeginsWith c.in_ok-option.option (map string_bytes c.args.words.now) (map string_bytes c.in_ok-option.rest.now) = c.in_ok-option.ensures in
    not_free b.begins (λ f. let holds : c.is_free.result ≡ true = c.is_free.ensures.1 (subst (IsFree c.args.job c.args.seen) b.named f) in absurd cc)

pub read-requires : goal.read-requires
read-requires t c =
    let b : BeginsWith c.in_ok-option.option (map string_bytes c.args.words.now) (map string_bytes c.in_ok-option.rest.now) = c.in_ok-option.ensures in
    let less : length (map string_bytes c.in_ok-option.rest.now) < length (map string_bytes c.args.words.now) = rest_is_shorter b.begins in
    let shorter : length c.in_ok-option.rest.now < length c.args.words.now = simp length-map at less in
    (omega (arith, c.decreases), tt)

pub returns : goal.returns
returns t c =
    let b : BeginsWith c.in_ok-option.option (map string_bytes c.args.words.now) (map string_bytes c.in_ok-option.rest.now) = c.in_ok-option.ensures in
    let free = subst (IsFree c.args.job c.args.seen) (sym b.named) (c.is_free.ensures.0 c.if-not-is_free.false) in
    read_on b.begins free c.read.result
    (subst (λ g. IsRead c.args.job g (map string_bytes c.in_ok-option.rest.now) c.read.result)
    (c.with_option.ensures ∙ ap (with_option c.args.seen) (sym b.named)) c.read.ensures)
