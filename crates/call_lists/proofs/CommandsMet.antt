-- What was given, as more commands are met.
use Rattle.std.proofs.Common.{◌≡◌, ℕ, ◌≤◌, ◌<◌, ◌+◌, List, [], ◌∷◌, ◌++◌, length, refl, ap, sym, ◌∙◌, arith, append_assoc, length-append}
use Rattle.std.proofs.lemmas.List.{append-nil}
use Rattle.std.proofs.lemmas.List.Sums.{sum_by-append, sum_by-cons}
use Rattle.std.proofs.lemmas.List.Concat.{flat_map-cons}
use Rattle.std.proofs.lemmas.Grind.{flat_map-append}
use Rattle.std.specs.Prelude.{Result, Ok, Err}
use Rattle.rc_base.specs.Formats.Spelling.{payload}
use Rattle.rc_base.specs.declared.command.Command.{Command}
use Rattle.rc_base.specs.declared.list_command.ListCommand.{ListCommand}
use Rattle.rc_base.specs.declared.list_command.ListCommand.TheVariants as list
use Rattle.call_lists.specs.declared.given.Given.{Given}
use Rattle.call_lists.specs.declared.answer.ExpandFault.{ExpandFault}
use Rattle.call_lists.specs.declared.answer.ExpandFault.TheVariants.{TooLong, OutOfMemory}
use Rattle.call_lists.specs.Expansion.{stored, plain_of, plain_commands, cost_of, costs, Passes, TellsTooLong}
use Rattle.call_lists.specs.Giving.{Adds, Meets}
use Rattle.call_lists.proofs.Stored.{stored_short, stored_more}

pub plain_then : (xs ys : List ListCommand) → plain_commands (xs ++ ys) ≡ plain_commands xs ++ plain_commands ys
plain_then xs ys = flat_map-append plain_of xs ys

pub plain_one : (c : ListCommand) → plain_commands (c ∷ []) ≡ plain_of c
plain_one c = flat_map-cons plain_of c [] ∙ append-nil (plain_of c)

pub costs_then : (xs ys : List ListCommand) → costs (xs ++ ys) ≡ costs xs + costs ys
costs_then xs ys = sum_by-append cost_of xs ys

pub costs_one : (c : ListCommand) → costs (c ∷ []) ≡ cost_of c
costs_one c = sum_by-cons cost_of c [] ∙ omega arith

-- a plain command was met
pub plain_met : (a b : Given) (c : Command) (size : ℕ) → size ≡ length (payload c) → b.commands ≡ a.commands ++ c ∷ [] → length a.commands < 1048577 → b.count ≡ a.count + 1
    → b.spent ≡ a.spent + (1 + size) → Adds a b (list.Plain c ∷ [])
plain_met a b c size size_is given few counted spent = record {
  given =
      given ∙ sym (stored_short (a.commands ++ c ∷ []) (omega (arith, length-append a.commands (c ∷ []), few)))
      ∙ ap (λ zs. stored (a.commands ++ zs)) (sym (plain_one (list.Plain c)));
  counted = counted ∙ ap (λ zs. a.count + length zs) (sym (plain_one (list.Plain c)));
  spent = spent ∙ ap (λ n. a.spent + (1 + n)) size_is ∙ ap (λ n. a.spent + n) (sym (costs_one (list.Plain c)));
}

-- nothing was met
pub adds_none : (g : Given) → Adds g g []
adds_none g = record {
  given = sym (ap stored (append-nil g.commands) ∙ stored_short g.commands g.few);
  counted = omega arith;
  spent = omega arith;
}

-- some commands, and then others
pub adds_then : (a b c : Given) (xs ys : List ListCommand) → Adds a b xs → Adds b c ys → Adds a c (xs ++ ys)
adds_then a b c xs ys first then = record {
  given =
      then.given ∙ ap (λ zs. stored (zs ++ plain_commands ys)) first.given ∙ stored_more (a.commands ++ plain_commands xs) (plain_commands ys)
      ∙ ap stored (append_assoc a.commands (plain_commands xs) (plain_commands ys) ∙ ap (λ zs. a.commands ++ zs) (sym (plain_then xs ys)));
  counted = omega (arith, first.counted, then.counted, ap length (plain_then xs ys), length-append (plain_commands xs) (plain_commands ys));
  spent = omega (arith, first.spent, then.spent, costs_then xs ys);
}

-- The sum passes the limit at the first of some commands.
pub passes_first : (spent sum : ℕ) (c : ListCommand) (cs : List ListCommand) → spent ≤ 67108864 → sum ≡ spent + cost_of c → 67108864 < sum → Passes spent (c ∷ cs) sum
passes_first spent sum c cs within sum_is passed = record {
  front = [];
  command = c;
  rest = cs;
  parts = refl;
  within = omega (arith, within);
  sum_is = sum_is ∙ omega arith;
  passed = passed;
}

-- It passes the limit among the first ones, whatever follows.
pub passes_more : (spent sum : ℕ) (xs ys : List ListCommand) → Passes spent xs sum → Passes spent (xs ++ ys) sum
passes_more spent sum xs ys p = record {
  front = p.front;
  command = p.command;
  rest = p.rest ++ ys;
  parts = ap (λ zs. zs ++ ys) p.parts ∙ append_assoc p.front (p.command ∷ p.rest) ys;
  within = p.within;
  sum_is = p.sum_is;
  passed = p.passed;
}

-- It passes the limit among the later ones.
pub passes_then : (before spent sum : ℕ) (xs ys : List ListCommand) → spent ≡ before + costs xs → Passes spent ys sum → Passes before (xs ++ ys) sum
passes_then before spent sum xs ys paid p = record {
  front = xs ++ p.front;
  command = p.command;
  rest = p.rest;
  parts = ap (λ zs. xs ++ zs) p.parts ∙ sym (append_assoc xs p.front (p.command ∷ p.rest));
  within = omega (arith, paid, p.within, costs_then xs p.front);
  sum_is = p.sum_is ∙ omega (arith, paid, costs_then xs p.front);
  passed = p.passed;
}

-- the same of a failure that may be want of memory
pub tells_more : (spent : ℕ) (xs ys : List ListCommand) (e : ExpandFault) → TellsTooLong spent xs e → TellsTooLong spent (xs ++ ys) e
tells_more spent xs ys (TooLong sum) t = passes_more spent sum xs ys t
tells_more spent xs ys OutOfMemory t = tt

pub tells_later : (a b : Given) (xs ys : List ListCommand) (e : ExpandFault) → Adds a b xs → TellsTooLong b.spent ys e → TellsTooLong a.spent (xs ++ ys) e
tells_later a b xs ys (TooLong sum) first t = passes_then a.spent b.spent sum xs ys first.spent t
tells_later a b xs ys OutOfMemory first t = tt

-- some commands were met, and then others
pub meets_then : (a b c : Given) (xs ys : List ListCommand) (r : Result (Unit {0}) ExpandFault) → Adds a b xs → Meets b c ys r → Meets a c (xs ++ ys) r
meets_then a b c xs ys (Ok u) first then = adds_then a b c xs ys first then
meets_then a b c xs ys (Err e) first then = tells_later a b xs ys e first then
