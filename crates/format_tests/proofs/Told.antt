-- What was told stays so, at first, after a command that is noted, and after an update.
use Rattle.std.proofs.Common.{◌≡◌, ℕ, ◌<◌, ◌==◌, ◌&&◌, ◌||◌, not, Bool, true, false, length, Some, None, inl, inr, refl, sym, ap, subst, ◌∙◌, arith, ne_eqb, []}
use Rattle.std.specs.Prelude.{◌≢◌, nat_eq, slice_get}
use Rattle.std.specs.List.{list_any}
use Rattle.std.specs.Option.{option_map_or}
use Rattle.std.specs.declared.option.Option.{Option}
use Rattle.std.proofs.lemmas.Bool.{cases_eq, eqb-false, or_parts}
use Rattle.rc_base.specs.Contexts.Context.{ClientContext, default_context}
use Rattle.rc_base.specs.Contexts.Elements.{default_value, element_count, marks, same_value, value_in}
use Rattle.rc_base.specs.Contexts.Faults.{fault_of}
use Rattle.rc_base.specs.Contexts.Issue.{carried_out, issued, refused}
use Rattle.rc_base.specs.Cluster.Parcels.{examined, sets_for}
use Rattle.rc_base.specs.declared.command.Command.{Command}
use Rattle.rc_base.specs.declared.scene.Decl.{Decl}
use Rattle.rc_base.specs.declared.scene.Scene.{Scene}
use Rattle.rc_base.specs.declared.state.ElementValue.{ElementValue}
use Rattle.rc_base.specs.declared.state.Fault.{Fault}
use Rattle.gl_context.specs.Elements.{CommandsSetOneElement, ElementsBeginWithDefaults}
use Rattle.gl_context.specs.Streams.{StreamsBeginWithDefaults}
use Rattle.state_update.specs.Knowledge.{IsSettled, Knows, Tracked, after_sets, pending}
use Rattle.state_update.specs.Streams.{KnownValuesAreAlike}
use Rattle.state_update.proofs.NotPending.{told_of_examined, told_of_others}
use Rattle.element_table.proofs.SameValues.{same_itself}
use Rattle.format_tests.specs.Told.{AreTold, IsTold}

pub is_settled : KnownValuesAreAlike → (t : Tracked) (tile : ℕ) (x : ClientContext) → IsTold t tile x → IsSettled t tile x
is_settled alike t tile x h values known e lt none = alike t tile values h.values known h.known e lt (value_in x e) ∙ h.settled e lt none

-- ---- at first

pub told_at_first : ElementsBeginWithDefaults → StreamsBeginWithDefaults → (t : Tracked) (d : Decl) (x : ClientContext) → x ≡ default_context d → length t.told ≡ 2
    → ((tile : ℕ) → tile < 2 → Knows t tile (default_value d)) → AreTold t x
told_at_first defaults first t d x is count known = record {
  count = count;
  each = λ tile lt. record {
    values = default_value d;
    known = known tile lt;
    settled = λ e room none.
        ap (λ (y : ClientContext). same_value (default_value d e) (value_in y e)) (is ∙ sym (first scene 0))
        ∙ ap (same_value (default_value d e)) (defaults scene 0 e) ∙ same_itself (default_value d e);
  };
}
  where
    scene : Scene
    scene = record { decl = d; streams = [] }

-- ---- after a command that is noted

value_stays : CommandsSetOneElement → (x : ClientContext) (place : ℕ) (c : Command) (e : ℕ) → marks c x.matrix_mode ≢ Some e → value_in (issued x place c) e ≡ value_in x e
unfolding issued
value_stays one x place c e other = by (fault_of x c)
  where
    by : (f : Option Fault) → value_in (option_map_or (refused x place) f (carried_out x c)) e ≡ value_in x e
    by None = one x c e other
    by (Some fault) = refl

pub told_after_note : CommandsSetOneElement → (old new : Tracked) (x : ClientContext) (place : ℕ) (c : Command) (element : ℕ) → AreTold old x → new.told ≡ old.told
    → marks c x.matrix_mode ≡ Some element
    → ((tile e : ℕ) → tile < 32 → pending new tile e ≡ (e == element || pending old tile e))
    → AreTold new (issued x place c)
told_after_note one old new x place c element h same marked noted = record {
  count = ap length same ∙ h.count;
  each = λ tile lt.
      let was = h.each tile lt in
      record {
        values = was.values;
        known = record { kept = was.known.kept; is = ap (λ l. slice_get l tile) same ∙ was.known.is; agrees = was.known.agrees };
        settled = λ e room none.
            let both = or_parts (e == element) (pending old tile e) (sym (noted tile e (omega (arith, lt))) ∙ none) in
            let other : marks c x.matrix_mode ≢ Some e = λ is. (let k : Some element ≡ Some e = sym marked ∙ is in let j : e ≡ element = cc in eqb-false e element both.0 j) in
            ap (same_value (was.values e)) (value_stays one x place c e other) ∙ was.settled e room both.1;
      };
}

-- ---- after an update

pub record IsUpdated (old new : Tracked) (tile : ℕ) (x : ClientContext) (draws : Bool) : Type 0 where
  pub count : length new.told ≡ length old.told
  pub told : (values : ℕ → ElementValue) → Knows old tile values → Knows new tile (after_sets values (sets_for values x draws))
  pub others : (other : ℕ) (values : ℕ → ElementValue) → other ≢ tile → Knows old other values → Knows new other values
  pub pending : (t e : ℕ) → t < 32 → pending new t e ≡ (pending old t e && not (t == tile && list_any (nat_eq e) (examined x draws)))

pub told_after_update : (old new : Tracked) (tile : ℕ) (x : ClientContext) (draws : Bool) → AreTold old x → IsUpdated old new tile x draws → AreTold new x
told_after_update old new tile x draws h u = record {
  count = u.count ∙ h.count;
  each = λ k lt. elim (cases_eq k tile) [ inl same ↦ own k lt same | inr other ↦ another k lt other ];
}
  where
    own : (k : ℕ) → k < 2 → k ≡ tile → IsTold new k x
    own k lt same =
        let was = h.each k lt in
        let here = subst (λ (j : ℕ). Knows old j was.values) same was.known in
        record {
          values = after_sets was.values (sets_for was.values x draws);
          known = subst (λ (j : ℕ). Knows new j (after_sets was.values (sets_for was.values x draws))) (sym same) (u.told was.values here);
          settled = λ e room none. by e room (list_any (nat_eq e) (examined x draws)) refl (sym (u.pending k e (omega (arith, lt))) ∙ none);
        }
      where
        off : (b c : Bool) → (b && not (c && false)) ≡ false → b ≡ false
        off true true none = none
        off true false none = none
        off false c none = refl

        by : (e : ℕ) → e < element_count → (b : Bool) → list_any (nat_eq e) (examined x draws) ≡ b
            → (pending old k e && not (k == tile && list_any (nat_eq e) (examined x draws))) ≡ false
            → same_value (after_sets (h.each k lt).values (sets_for (h.each k lt).values x draws) e) (value_in x e) ≡ true
        by e room true is none = told_of_examined (h.each k lt).values x e draws is
        by e room false is none =
            ap (λ (v : ElementValue). same_value v (value_in x e)) (told_of_others (h.each k lt).values x e draws is)
            ∙ (h.each k lt).settled e room (off (pending old k e) (k == tile) (sym (ap (λ b. pending old k e && not (k == tile && b)) is) ∙ none))

    another : (k : ℕ) → k < 2 → k ≢ tile → IsTold new k x
    another k lt other =
        let was = h.each k lt in
        record {
          values = was.values;
          known = u.others k was.values other was.known;
          settled = λ e room none. was.settled e room (off e none);
        }
      where
        same : (b : Bool) → (b && not false) ≡ b
        same true = refl
        same false = refl

        off : (e : ℕ) → pending new k e ≡ false → pending old k e ≡ false
        off e none =
            sym (same (pending old k e)) ∙ sym (ap (λ a. pending old k e && not (a && list_any (nat_eq e) (examined x draws))) (ne_eqb k tile other))
            ∙ sym (u.pending k e (omega (arith, lt))) ∙ none
