-- What `clap` makes of each word of a line.
use Rattle.std.specs.Prelude.{◌≡◌, ℕ, ◌==◌, Bool, true, false, List, [], ◌∷◌, ◌++◌, Option, Some, None, codes, option_map, is_some, ◌||◌, if◌then◌else◌}
use Rattle.std.proofs.Common.{refl, ap, subst, ◌∙◌}
use Rattle.std.specs.Str.{bytes_eq}
use Rattle.std.proofs.Math.Bool.{or-true, or-false}
use Rattle.command_line.specs.declared.job.OptionName.{OptionName}
use Rattle.command_line.specs.declared.job.OptionName.TheVariants.{Tiles, Depth, Order, Seed, Size}
use Rattle.clap.specs.Walk.{Held, Row, Rule, Text, Walk, option, has_row, reading_by, with_values, without, walk_from, walked, settled, reacted, nothing_held}
use Rattle.clap.specs.Simple.{Shape, built, is_simple, filled}
use Rattle.clap.specs.Faults.{turn_fault, settle_fault, is_simple_and_free}
use Rattle.clap.proofs.OnLiterals.{clap_on_literals}
use Rattle.clap.specs.declared.parser.matches.ValueSource.TheVariants.{CommandLine}
use Rattle.command_line.specs.App.{rule_for, line_app}
use Rattle.command_line.specs.Texts.{id_of}
use Rattle.command_line.proofs.ClapRows.{new_row, has_more, row_in, row_other, row_own, with_more}

-- ---- the command

abbrev pub shape : Shape
shape = (built line_app).top

abbrev pub rules : List Rule
rules = shape.rules

pub simple_and_free : is_simple_and_free line_app ≡ true
simple_and_free = refl

pub simple : is_simple line_app ≡ true
simple = refl

-- ---- what was read so far

abbrev pub Got : Type 0
Got = OptionName → Option Text

abbrev pub with_got : Got → OptionName → Text → Got
with_got got o v = λ p. if bytes_eq (id_of o) (id_of p) then Some v else got p

-- one word passes and leads on
pub record Turn (w : Walk) (word : Text) (v : Walk) : Type 0 where
  pub passes : turn_fault shape [] w word ≡ []
  pub leads : walked rules [] w word ≡ v

pub record Standing (h : Held) (got : Got) : Type 0 where
  pub clean : settle_fault rules false h ≡ []
  pub has : (o : OptionName) → has_row (id_of o) (settled rules h).rows ≡ is_some (got o)
  pub row : (o : OptionName) → row_in (id_of o) (settled rules h).rows ≡ option_map (new_row CommandLine (filled (rule_for o))) (got o)

pub nothing_stands : Standing nothing_held (λ o. None)
nothing_stands = record { clean = refl; has = λ o. refl; row = λ o. refl }

-- ---- options with a value

abbrev pub wanting : Text → Held → Walk
wanting name h = record (walk_from (record (settled rules h) { pending = Some (name, []) })) { waiting = option name }

abbrev pub valued : Text → Held → Text → Held
valued name h v = record (settled rules h) { pending = Some (name, v ∷ []) }

-- what an option with a value does at its word and at its value
pub record HasValue (o : OptionName) : Type 0 where
  pub word : (h : Held) → settle_fault rules false h ≡ [] → Turn (walk_from h) (45 ∷ 45 ∷ id_of o) (wanting (id_of o) h)
  pub value : (h : Held) (x : ℕ) (xs : Text) → (x == 45) ≡ false → Turn (wanting (id_of o) h) (x ∷ xs) (walk_from (valued (id_of o) h (x ∷ xs)))
  pub settles : (h : Held) (v : Text) → has_row (id_of o) (settled rules h).rows ≡ false → settle_fault rules false (valued (id_of o) h v) ≡ []
  pub uses : (h : Held) (v : Text) → (settled rules (valued (id_of o) h v)).rows
      ≡ with_values (id_of o) (reading_by (filled (rule_for o))) CommandLine (v ∷ []) (without (id_of o) (settled rules h).rows)

pub tiles_has_value : HasValue Tiles
unfolding clap_on_literals
tiles_has_value = record {
  word = λ h clean. record { passes = rw clean refl; leads = refl };
  value = λ h x xs e. record { passes = simp e; leads = simp e };
  settles = λ h v n. rw n refl;
  uses = λ h v. refl;
}

pub depth_has_value : HasValue Depth
unfolding clap_on_literals
depth_has_value = record {
  word = λ h clean. record { passes = rw clean refl; leads = refl };
  value = λ h x xs e. record { passes = simp e; leads = simp e };
  settles = λ h v n. rw n refl;
  uses = λ h v. refl;
}

pub seed_has_value : HasValue Seed
unfolding clap_on_literals
seed_has_value = record {
  word = λ h clean. record { passes = rw clean refl; leads = refl };
  value = λ h x xs e. record { passes = simp e; leads = simp e };
  settles = λ h v n. rw n refl;
  uses = λ h v. refl;
}

pub size_has_value : HasValue Size
unfolding clap_on_literals
size_has_value = record {
  word = λ h clean. record { passes = rw clean refl; leads = refl };
  value = λ h x xs e. record { passes = simp e; leads = simp e };
  settles = λ h v n. rw n refl;
  uses = λ h v. refl;
}

-- ---- the flag

pub flag_turn : (h : Held) → settle_fault rules false h ≡ [] → has_row (codes "order") (settled rules h).rows ≡ false
    → Turn (walk_from h) (codes "--order") (walk_from (reacted rules (filled (rule_for Order)) [] h))
unfolding clap_on_literals
flag_turn h clean new = record { passes = rw (clean, new) refl; leads = refl }

-- ---- one more row

rule_id : (o : OptionName) → (filled (rule_for o)).id ≡ id_of o
rule_id Tiles = refl
rule_id Depth = refl
rule_id Order = refl
rule_id Seed = refl
rule_id Size = refl

pub same_option : (o p : OptionName) → bytes_eq (id_of o) (id_of p) ≡ true → o ≡ p
same_option Tiles Tiles e = refl
same_option Tiles Depth e = absurd cc
same_option Tiles Order e = absurd cc
same_option Tiles Seed e = absurd cc
same_option Tiles Size e = absurd cc
same_option Depth Tiles e = absurd cc
same_option Depth Depth e = refl
same_option Depth Order e = absurd cc
same_option Depth Seed e = absurd cc
same_option Depth Size e = absurd cc
same_option Order Tiles e = absurd cc
same_option Order Depth e = absurd cc
same_option Order Order e = refl
same_option Order Seed e = absurd cc
same_option Order Size e = absurd cc
same_option Seed Tiles e = absurd cc
same_option Seed Depth e = absurd cc
same_option Seed Order e = absurd cc
same_option Seed Seed e = refl
same_option Seed Size e = absurd cc
same_option Size Tiles e = absurd cc
same_option Size Depth e = absurd cc
same_option Size Order e = absurd cc
same_option Size Seed e = absurd cc
same_option Size Size e = refl

pub one_more : (o : OptionName) (h next : Held) (got : Got) (v : Text) → Standing h got → got o ≡ None → settle_fault rules false next ≡ []
    → (settled rules next).rows ≡ with_values (id_of o) (reading_by (filled (rule_for o))) CommandLine (v ∷ []) (without (id_of o) (settled rules h).rows)
    → Standing next (with_got got o v)
one_more o h next got v s n clean uses =
    let rows : List Row = (settled rules h).rows in
    let a : Rule = filled (rule_for o) in
    let named : a.id ≡ id_of o = rule_id o in
    let new : has_row (id_of o) rows ≡ false = s.has o ∙ ap is_some n in
    let more : (settled rules next).rows ≡ rows ++ new_row CommandLine a v ∷ []
    = uses ∙ subst (λ (name : Text). with_values name (reading_by a) CommandLine (v ∷ []) (without name rows) ≡ rows ++ new_row CommandLine a v ∷ []) named (
    with_more a v rows (ap (λ (name : Text). has_row name rows) named ∙ new)
    ) in
    record {
      clean = clean;
      has = λ p. ap (has_row (id_of p)) more ∙ (has_more (id_of p) rows (new_row CommandLine a v)
          ∙ (ap (λ (name : Text). has_row (id_of p) rows || bytes_eq name (id_of p)) named ∙ has_now p rows (bytes_eq (id_of o) (id_of p)) (s.has p)));
      row = λ p. ap (row_in (id_of p)) more ∙ row_now p rows (bytes_eq (id_of o) (id_of p)) refl new (s.row p);
    }
  where
    has_now : (p : OptionName) (rows : List Row) (b : Bool) → has_row (id_of p) rows ≡ is_some (got p)
        → (has_row (id_of p) rows || b) ≡ is_some (if b then Some v else got p)
    has_now p rows true h = or-true (has_row (id_of p) rows)
    has_now p rows false h = or-false (has_row (id_of p) rows) ∙ h

    row_now : (p : OptionName) (rows : List Row) (b : Bool) → bytes_eq (id_of o) (id_of p) ≡ b → has_row (id_of o) rows ≡ false
        → row_in (id_of p) rows ≡ option_map (new_row CommandLine (filled (rule_for p))) (got p)
        → row_in (id_of p) (rows ++ new_row CommandLine (filled (rule_for o)) v ∷ [])
        ≡ option_map (new_row CommandLine (filled (rule_for p))) (if b then Some v else got p)
    row_now p rows true e new h =
        let same : o ≡ p = same_option o p e in
        row_own (id_of p) rows (new_row CommandLine (filled (rule_for o)) v) (ap (λ (name : Text). bytes_eq name (id_of p)) (rule_id o) ∙ e)
        (subst (λ q. has_row (id_of q) rows ≡ false) same new)
        ∙ ap (λ q. Some (new_row CommandLine (filled (rule_for q)) v)) same
    row_now p rows false e new h =
        row_other (id_of p) rows (new_row CommandLine (filled (rule_for o)) v) (ap (λ (name : Text). bytes_eq name (id_of p)) (rule_id o) ∙ e) ∙ h
