-- A list of commands that a chain filters in its own place.
use Rattle.std.proofs.Common.{◌≡◌, ◌∙◌, sym, ap, subst, refl, arith, ℕ, ◌+◌, ◌≤◌, ◌<◌, length, take, drop, set, get_or, map, List, [], ◌∷◌, ◌++◌, append-nil, None, Some}
use Rattle.std.proofs.lemmas.List.{at_drop_more, length-append, length-set, take-set-le, take_more_set}
use Rattle.std.proofs.lemmas.List.{drop-set-lt}
use Rattle.rc_base.specs.declared.command.Command.{Command}
use Rattle.spu_chain.specs.declared.rule.SpuRule.{SpuRule}
use Rattle.spu_chain.specs.Filter.{HaveRoom, comes_out, rules_behind}
use Rattle.spu_chain.proofs.Whole.{Filters, filters_next, room_here}

-- The first i of all commands were given. What came of them stands in front in the list, and the others stand where they stood.
pub record Fills {B : Type 0} (f : B → SpuRule) (old now : List B) (all list : List Command) (i count : ℕ) : Type 0 where
  pub done : List Command
  pub given : length done ≡ i
  pub size : length list ≡ length all
  pub behind : count ≤ i
  pub filters : Filters f old now all done (drop i list) (take count list)

-- what was taken out of its place is what stood there
pub taken : {X : Type 0} (xs : List X) (i : ℕ) (x y : X) → y ≡ x → x ≡ get_or xs i x → y ≡ get_or xs i y
taken xs i x y same is = subst (λ z. z ≡ get_or xs i z) (sym same) is

-- before the first command
pub begins : {B : Type 0} (f : B → SpuRule) (old : List B) (all list : List Command) → list ≡ all → HaveRoom (length all) (map f old) → Fills f old old all list 0 0
begins f old all list same room = record {
  done = [];
  given = refl;
  size = ap length same;
  behind = omega arith;
  filters = record {
    parts = sym same;
    given = refl;
    after = refl;
    room = subst (λ xs. HaveRoom (length xs) (map f old)) (sym same) room;
  };
}

module _ {B : Type 0} (f : B → SpuRule) (old now : List B) (all list : List Command) (i count : ℕ) (c : Command)
    (inside : i < length list) (is : c ≡ get_or list i c) (before : Fills f old now all list i count) where
  here : drop i list ≡ c ∷ drop (i + 1) list
  here = at_drop_more (λ xs. xs) list i c inside ∙ ap (λ x. x ∷ drop (i + 1) list) (sym is)

  pub room_for_it : HaveRoom 1 (map f now)
  room_for_it = room_here f old now all before.done (drop i list) (drop (i + 1) list) (take count list) c here before.filters

  abbrev done_next : List Command
  done_next = before.done ++ c ∷ []

  given_next : length done_next ≡ i + 1
  given_next = length-append before.done (c ∷ []) ∙ ap (λ n. n + 1) before.given

  -- the command is taken out of its place, and another one is left there
  module _ (next : List B) (after : map f next ≡ rules_behind (map f now) c) (e : Command) where
    abbrev left : List Command
    left = set list i e

    rest_same : drop (i + 1) left ≡ drop (i + 1) list
    rest_same = drop-set-lt (i + 1) list i e (omega arith)

    front_same : take count left ≡ take count list
    front_same = take-set-le count list i e before.behind

    pub nothing_more : None ≡ comes_out (map f now) c → Fills f old next all (set list i e) (i + 1) count
    nothing_more none = record {
      done = done_next;
      given = given_next;
      size = length-set list i e ∙ before.size;
      behind = let b = before.behind in omega (arith, b);
      filters =
          subst (λ xs. Filters f old next all done_next xs (take count left)) (sym rest_same)
          (subst (λ ys. Filters f old next all done_next (drop (i + 1) list) ys) (append-nil (take count list) ∙ sym front_same)
          (filters_next f old now all before.done (drop i list) (drop (i + 1) list) (take count list) c here before.filters next after None none));
    }

    pub one_more : (g : Command) → Some g ≡ comes_out (map f now) c → Fills f old next all (set (set list i e) count g) (i + 1) (count + 1)
    one_more g some =
        let b = before.behind in
        let wide : count < length left = rw (length-set list i e) (omega (arith, b, inside)) in
        record {
          done = done_next;
          given = given_next;
          size = length-set left count g ∙ length-set list i e ∙ before.size;
          behind = omega (arith, b);
          filters =
              subst (λ xs. Filters f old next all done_next xs (take (count + 1) (set left count g))) (sym (drop-set-lt (i + 1) left count g (omega (arith, b)) ∙ rest_same))
              (subst (λ ys. Filters f old next all done_next (drop (i + 1) list) ys) (ap (λ xs. xs ++ g ∷ []) (sym front_same) ∙ sym (take_more_set left count g wide))
              (filters_next f old now all before.done (drop i list) (drop (i + 1) list) (take count list) c here before.filters next after (Some g) some));
        }
