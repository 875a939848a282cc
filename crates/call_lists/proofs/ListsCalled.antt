-- What is met in a list, command by command.
use Rattle.std.proofs.Common.{◌≡◌, ℕ, zero, suc, ◌≤◌, ◌<◌, ◌+◌, ◌-◌, List, [], ◌∷◌, ◌++◌, length, take, drop, refl, ap, sym, subst, ◌∙◌, arith}
use Rattle.std.specs.Prelude.{slice_get, Some}
use Rattle.std.specs.List.{flat_map}
use Rattle.std.proofs.lemmas.List.{append-nil, take_more, take_all, take-append-drop}
use Rattle.std.proofs.lemmas.List.Concat.{flat_map-cons}
use Rattle.std.proofs.lemmas.Grind.{flat_map-append}
use Rattle.std.proofs.lemmas.Option.{slice_get_within, get_or_from_slice_get}
use Rattle.rc_base.specs.declared.list_command.ListCommand.{ListCommand}
use Rattle.rc_base.specs.declared.list_command.ListCommand.TheVariants.{Plain, NewList, EndList, CallList}
use Rattle.call_lists.specs.declared.given.Given.{Given}
use Rattle.call_lists.specs.declared.answer.ExpandFault.{ExpandFault}
use Rattle.call_lists.specs.Expansion.{Lists, list_at, met_with, called, TellsTooLong}
use Rattle.call_lists.specs.Giving.{Adds}
use Rattle.call_lists.proofs.CommandsMet.{adds_then, tells_more, tells_later}

-- ---- lists of lists

next_of : {X : Type 0} (xs : List X) (i : ℕ) (x : X) → slice_get xs i ≡ Some x → take (i + 1) xs ≡ take i xs ++ x ∷ []
next_of xs i x e = take_more xs i x (slice_get_within xs i x e) ∙ ap (λ y. take i xs ++ y ∷ []) (get_or_from_slice_get xs i x x e)

pub one_more : {X Y : Type 0} (f : X → List Y) (xs : List X) (i : ℕ) (x : X) → slice_get xs i ≡ Some x → flat_map f (take (i + 1) xs) ≡ flat_map f (take i xs) ++ f x
one_more f xs i x e =
    ap (flat_map f) (next_of xs i x e) ∙ flat_map-append f (take i xs) (x ∷ []) ∙ ap (λ zs. flat_map f (take i xs) ++ zs) (flat_map-cons f x [] ∙ append-nil (f x))

pub all_of : {X Y : Type 0} (f : X → List Y) (xs : List X) (i : ℕ) (x : X) → slice_get xs i ≡ Some x
    → (flat_map f (take i xs) ++ f x) ++ flat_map f (drop (i + 1) xs) ≡ flat_map f xs
all_of f xs i x e =
    ap (λ zs. zs ++ flat_map f (drop (i + 1) xs)) (sym (one_more f xs i x e)) ∙ sym (flat_map-append f (take (i + 1) xs) (drop (i + 1) xs))
    ∙ ap (flat_map f) (take-append-drop (i + 1) xs)

-- ---- levels

-- beyond the deepest level nothing is met
pub called_none : (lists : Lists) (levels name : ℕ) → levels ≡ 0 → [] ≡ called lists levels name
unfolding called
called_none lists zero name none = refl
called_none lists (suc levels) name none = absurd (omega arith)

-- A list's commands are met one after the other, and what they call one level deeper.
pub called_list : (lists : Lists) (levels name : ℕ) → 0 < levels → flat_map (met_with (called lists (levels - 1))) (list_at lists name) ≡ called lists levels name
unfolding called
called_list lists zero name some = absurd (omega arith)
called_list lists (suc levels) name some =
    let same : suc levels - 1 ≡ levels = omega arith in
    ap (λ n. flat_map (met_with (called lists n)) (list_at lists name)) same

-- a list without commands
pub called_empty : (lists : Lists) (levels name : ℕ) → 0 < levels → list_at lists name ≡ [] → [] ≡ called lists levels name
called_empty lists levels name some empty = sym (ap (flat_map (met_with (called lists (levels - 1)))) empty) ∙ called_list lists levels name some

-- ---- the loop over a list

-- a failure at a command, before what it calls is met
pub tells_met : (call : ℕ → List ListCommand) (spent : ℕ) (c : ListCommand) (e : ExpandFault) → TellsTooLong spent (c ∷ []) e → TellsTooLong spent (met_with call c) e
tells_met call spent (Plain p) e t = t
tells_met call spent (NewList name) e t = t
tells_met call spent EndList e t = t
tells_met call spent (CallList name) e t = tells_more spent (CallList name ∷ []) (call name) e t

-- one command more was met
pub adds_next : (f : ListCommand → List ListCommand) (body : List ListCommand) (i : ℕ) (x : ListCommand) (a b c : Given)
    → slice_get body i ≡ Some x → Adds a b (flat_map f (take i body)) → Adds b c (f x) → Adds a c (flat_map f (take (i + 1) body))
adds_next f body i x a b c e before now = subst (λ (zs : List ListCommand). Adds a c zs) (sym (one_more f body i x e)) (adds_then a b c (flat_map f (take i body)) (f x) before now)

-- a failure at one of the commands
pub tells_at : (f : ListCommand → List ListCommand) (body : List ListCommand) (i : ℕ) (x : ListCommand) (a b : Given) (e : ExpandFault)
    → slice_get body i ≡ Some x → Adds a b (flat_map f (take i body)) → TellsTooLong b.spent (f x) e → TellsTooLong a.spent (flat_map f body) e
tells_at f body i x a b e at before t =
    subst (λ (zs : List ListCommand). TellsTooLong a.spent zs e) (all_of f body i x at)
    (tells_more a.spent (flat_map f (take i body) ++ f x) (flat_map f (drop (i + 1) body)) e (tells_later a b (flat_map f (take i body)) (f x) e before t))

-- all commands were met
pub adds_all : (f : ListCommand → List ListCommand) (body : List ListCommand) (i : ℕ) (a b : Given) → length body ≤ i → Adds a b (flat_map f (take i body)) → Adds a b (flat_map f body)
adds_all f body i a b end all = subst (λ (zs : List ListCommand). Adds a b (flat_map f zs)) (take_all i body end) all

pub met_call : (call : ℕ → List ListCommand) (c : ListCommand) (name : ℕ) → c ≡ CallList name → c ∷ call name ≡ met_with call c
met_call call c name e = subst (λ (x : ListCommand). x ∷ call name ≡ met_with call x) (sym e) refl

-- a list's commands, where it is seen as its body
pub called_body : (lists : Lists) (levels name : ℕ) (body : List ListCommand) → 0 < levels → body ≡ list_at lists name
    → flat_map (met_with (called lists (levels - 1))) body ≡ called lists levels name
called_body lists levels name body some e = ap (flat_map (met_with (called lists (levels - 1)))) e ∙ called_list lists levels name some
