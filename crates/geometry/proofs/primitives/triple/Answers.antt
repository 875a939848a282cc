use Rattle.std.proofs.Common.{◌≡◌, arith, sym, ◌∙◌}
use Rattle.geometry.proofs.Triples.{separate_count, strip_count, fan_count, at_most_two, separate_at, strip_at, fan_at}
use Rattle.geometry.proofs.primitives.triple.Goals as goal

pub separate_at-requires : goal.separate_at-requires
separate_at-requires c = let e = separate_count c.args.mode c.args.n (omega arith) in omega arith

pub returns-then-mode-eq0 : goal.returns-then-mode-eq0
returns-then-mode-eq0 c = c.separate_at.ensures ∙ sym (separate_at c.args.mode c.args.n c.args.i (omega arith) (let e = separate_count c.args.mode c.args.n (omega arith) in omega arith))

pub strip_at-requires : goal.strip_at-requires
strip_at-requires c = let e = strip_count c.args.mode c.args.n (omega arith) in omega arith

pub returns-then-mode-eq1 : goal.returns-then-mode-eq1
returns-then-mode-eq1 c = c.strip_at.ensures ∙ sym (strip_at c.args.mode c.args.n c.args.i (omega arith) (let e = strip_count c.args.mode c.args.n (omega arith) in omega arith))

pub fan_at-requires : goal.fan_at-requires
fan_at-requires c =
    let m = at_most_two c.args.mode c.args.n c.args.i c.requires in
    let two : c.args.mode ≡ 2 = let p = c.if-mode-eq0.false in let q = c.if-mode-eq1.false in omega arith in
    let e = fan_count c.args.mode c.args.n two in omega arith

pub returns-else-mode-eq1 : goal.returns-else-mode-eq1
returns-else-mode-eq1 c =
    let m = at_most_two c.args.mode c.args.n c.args.i c.requires in
    let two : c.args.mode ≡ 2 = let p = c.if-mode-eq0.false in let q = c.if-mode-eq1.false in omega arith in
    let e = fan_count c.args.mode c.args.n two in
    c.fan_at.ensures ∙ sym (fan_at c.args.mode c.args.n c.args.i two (omega arith))
