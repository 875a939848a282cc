use Rattle.std.proofs.Common.{◌≡◌, ◌≢◌, ◌∙◌, ℕ, Bool, cond, max, List, [], sym, ap, arith, lt-ltb, ltb-true}
use Rattle.std.specs.Prelude.{slice_index, slice_index_or}
use Rattle.std.proofs.lemmas.Bool.{ne_eqb}
use Rattle.rc_base.specs.declared.sync.Name.{Name}
use Rattle.happens_before.specs.Timelines.{before_at, clock_of}
use Rattle.happens_before.specs.declared.timelines.Change.{Change}
use Rattle.uses.proofs.orders.is_before.Goals as goal

of_another : (lists : List (List Change)) (n : Name) (d : ℕ) → d ≢ n.client
    → clock_of lists n d ≡ slice_index (before_at (slice_index_or lists n.client []) n.place) d
of_another lists n d other =
    let counted : ℕ = slice_index (before_at (slice_index_or lists n.client []) n.place) d in
    ap (λ (own : Bool). max counted (cond own n.place 0)) (ne_eqb d n.client other) ∙ omega arith

pub returns : goal.returns
returns c =
    let a = c.args.first in
    let exact = c.in_ok-timelines.ensures.exact.exact a c.args.second c.requires.reached in
    let told = of_another c.in_ok-timelines.timelines.clients.items c.args.second a.client c.requires.names.2 ∙ ap (λ (l : List ℕ). slice_index l a.client) (sym c.before-before.ensures) in
    (λ t. exact.1 (omega (arith, told, ltb-true _ _ t)), λ before. lt-ltb _ _ (omega (arith, told, exact.0 before)))
