-- The names of an order that is kept as runs.
use Rattle.std.proofs.Common.{◌≡◌, ℕ, zero, suc, ◌+◌, ◌-◌, ◌<◌, ◌≤◌, List, [], ◌∷◌, ◌++◌, length, get_or, take, drop, refl, sym, ap, ◌∙◌, arith, append_assoc}
use Rattle.std.proofs.lemmas.List.{append-nil, flat_map_more}
use Rattle.rc_base.specs.Orders.Order.{names_from}
use Rattle.rc_base.specs.declared.sync.Name.{Name}
use Rattle.serial_render.specs.Runs.{names_of_run, names_of_runs}
use Rattle.serial_render.specs.declared.runs.Run.{Run}
use Rattle.serial_render.proofs.AddedInTurn.{names_from_more}

-- those of a run, with those before it and those behind it
pub runs_at : (runs : List Run) (i : ℕ) (d : Run) → i < length runs → names_of_runs runs ≡ names_of_runs (take i runs) ++ (names_of_run (get_or runs i d) ++ names_of_runs (drop (i + 1) runs))
runs_at [] i d lt = absurd (omega (arith, lt))
runs_at (r ∷ rs) zero d lt = refl
runs_at (r ∷ rs) (suc i) d lt =
    let before = names_of_runs (take i rs) in
    let here = names_of_run (get_or rs i d) in
    let more : suc i + 1 ≡ suc (i + 1) = omega arith in
    ap (λ (l : List Name). names_of_run r ++ l) (runs_at rs i d (omega (arith, lt)))
    ∙ sym (append_assoc (names_of_run r) before (here ++ names_of_runs (drop (i + 1) rs)))
    ∙ ap (λ (k : ℕ). (names_of_run r ++ before) ++ (here ++ names_of_runs (drop k (r ∷ rs)))) (sym more)

-- those of one run more
pub runs_more : (runs : List Run) (i : ℕ) (d : Run) → i < length runs → names_of_runs (take (i + 1) runs) ≡ names_of_runs (take i runs) ++ names_of_run (get_or runs i d)
runs_more [] i d lt = absurd (omega (arith, lt))
runs_more (r ∷ rs) zero d lt = append-nil (names_of_run r)
runs_more (r ∷ rs) (suc i) d lt =
    let more : suc i + 1 ≡ suc (i + 1) = omega arith in
    ap (λ (k : ℕ). names_of_runs (take k (r ∷ rs))) more
    ∙ ap (λ (l : List Name). names_of_run r ++ l) (runs_more rs i d (omega (arith, lt)))
    ∙ sym (append_assoc (names_of_run r) (names_of_runs (take i rs)) (names_of_run (get_or rs i d)))

-- a name of a run, with those before it and those behind it
run_split : (c from n k : ℕ) → k < n → names_from c from n ≡ names_from c from k ++ record { client = c; place = from + k } ∷ names_from c (from + k + 1) (n - k - 1)
run_split c from zero k lt = absurd (omega (arith, lt))
run_split c from (suc n) zero lt =
    let same : from + 0 ≡ from = omega arith in
    let rest : suc n - 0 - 1 ≡ n = omega arith in
    ap (λ (p : ℕ). record { client = c; place = p } ∷ names_from c (p + 1) n) (sym same)
    ∙ ap (λ (m : ℕ). record { client = c; place = from + 0 } ∷ names_from c (from + 0 + 1) m) (sym rest)
run_split c from (suc n) (suc k) lt =
    let same : from + 1 + k ≡ from + suc k = omega arith in
    let rest : n - k - 1 ≡ suc n - suc k - 1 = omega arith in
    ap (λ (l : List Name). record { client = c; place = from } ∷ l)
    (run_split c (from + 1) n k (omega (arith, lt))
    ∙ ap (λ (p : ℕ). names_from c (from + 1) k ++ record { client = c; place = p } ∷ names_from c (p + 1) (n - k - 1)) same
    ∙ ap (λ (m : ℕ). names_from c (from + 1) k ++ record { client = c; place = from + suc k } ∷ names_from c (from + suc k + 1) m) rest)

pub name_of_run : (order before behind : List Name) (c from n k : ℕ) → order ≡ before ++ (names_from c from n ++ behind) → k < n
    → order ≡ (before ++ names_from c from k) ++ record { client = c; place = from + k } ∷ (names_from c (from + k + 1) (n - k - 1) ++ behind)
name_of_run order before behind c from n k is lt =
    let name : Name = record { client = c; place = from + k } in
    let front = names_from c from k in
    let rest = names_from c (from + k + 1) (n - k - 1) in
    is ∙ ap (λ (l : List Name). before ++ (l ++ behind)) (run_split c from n k lt)
    ∙ ap (λ (l : List Name). before ++ l) (append_assoc front (name ∷ rest) behind)
    ∙ sym (append_assoc before front (name ∷ (rest ++ behind)))

-- a run with the name behind it
pub run_goes_on : (r : Run) (n : Name) → r.client ≡ n.client → r.first ≤ r.last → r.last + 1 ≡ n.place → names_of_run (record r { last = n.place }) ≡ names_of_run r ++ n ∷ []
run_goes_on r n same low next =
    let more : n.place + 1 - r.first ≡ r.last + 1 - r.first + 1 = omega (arith, low, next) in
    ap (names_from r.client r.first) more
    ∙ names_from_more r.client r.first (r.last + 1 - r.first) n.place (omega (arith, low, next))
    ∙ ap (λ (k : ℕ). names_from r.client r.first (r.last + 1 - r.first) ++ record { client = k; place = n.place } ∷ []) same

-- the run of a name alone
pub run_of_one : (n : Name) → names_of_run (record { client = n.client; first = n.place; last = n.place }) ≡ n ∷ []
run_of_one n = let one : n.place + 1 - n.place ≡ 1 = omega arith in ap (names_from n.client n.place) one

-- runs with one more
pub with_run : (runs : List Run) (r : Run) → names_of_runs (runs ++ r ∷ []) ≡ names_of_runs runs ++ names_of_run r
with_run runs r = sym (flat_map_more names_of_run [] runs r)

-- the run of the names from one place on, below another
pub run_below : (client from to : ℕ) → from < to → names_of_run (record { client = client; first = from; last = to - 1 }) ≡ names_from client from (to - from)
run_below client from to lt = let same : to - 1 + 1 - from ≡ to - from = omega (arith, lt) in ap (names_from client from) same

pub none_below : (client from to : ℕ) → to ≤ from → names_from client from (to - from) ≡ []
none_below client from to le = let none : to - from ≡ 0 = omega (arith, le) in ap (names_from client from) none
