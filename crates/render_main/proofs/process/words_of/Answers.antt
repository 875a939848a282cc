use Rattle.std.proofs.Common.{◌≡◌, IfOk, List, Vec, length, ap, sym, subst, ◌∙◌}
use Rattle.std.specs.Prelude.{Ok, vec_len}
use Rattle.std.specs.declared.result.Result.{Result}
use Rattle.std.specs.declared.string.String.{String}
use Rattle.std.specs.declared.alloc.AllocError.{AllocError}
use Rattle.std.specs.Global.{Global}
use Rattle.std.specs.Vec.Iter.{into_iter_items, into_iter_len}
use Rattle.std.proofs.lemmas.Iterator.Adapters.{YieldsList-from_skip, YieldsList-from_vec, fact_from_collect}
use Rattle.render_main.proofs.process.words_of.Goals as goal

given : {A E : Type 0} (P : A → Type 0) (r : Result A E) (x : A) → r ≡ Ok x → P x → IfOk r P
given P r x is h = subst (λ s. IfOk s P) (sym is) h

pub returns-in-Ok-collect-clause-given : goal.returns-in-Ok-collect-clause-given
returns-in-Ok-collect-clause-given c =
    let args = c.in-Ok.args in
    let road = YieldsList-from_skip 1
    (YieldsList-from_vec (into_iter_items args) (ap (λ it. into_iter_items it) c.skip.ensures.source) (ap (λ it. into_iter_len it) c.skip.ensures.source ∙ args.rest.ok.0))
    c.skip.ensures.count in
    given _ c.args.args args c.in-Ok.is
    (fact_from_collect {E = AllocError} (λ (xs : List (String Global)) (v : Vec (String Global) Global). (v.items ≡ xs) × (vec_len v ≡ length xs)) (Ok c.in-Ok-collect.words) c.in-Ok-collect.ensures.ran road).0
