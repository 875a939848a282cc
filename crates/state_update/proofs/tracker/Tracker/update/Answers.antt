use Rattle.std.proofs.Common.{◌≡◌, ◌+◌, ◌<◌, ◌≤◌, ◌==◌, ◌&&◌, not, ℕ, Bool, List, Some, None, arith, sym, ap, ap₂, subst, ◌∙◌, true≢false}
use Rattle.std.specs.Prelude.{IfSome}
use Rattle.std.specs.declared.option.Option.{Option}
use Rattle.dirty_bits.specs.Bits.{is_any_dirty, is_dirty}
use Rattle.rc_base.specs.Cluster.Parcels.{sets_for}
use Rattle.rc_base.specs.Contexts.Context.{private_count}
use Rattle.rc_base.specs.declared.state.ElementSet.{ElementSet}
use Rattle.state_update.specs.Knowledge.{CleanElementsAreNotSet, IsPrivateName, Knows, Tracked, after_sets, is_examined, looks_from}
use Rattle.state_update.proofs.ByElements.{examined_are}
use Rattle.state_update.proofs.Updates.{clean, knows_next, knows_still, looks_of_some, none_pending, read_of, sets_known, still_none, view_of}
use Rattle.state_update.proofs.tracker.Tracker.update.Goals as goal

pub returns-then-not-any_dirty-clause-sets : goal.returns-then-not-any_dirty-clause-sets
returns-then-not-any_dirty-clause-sets c = λ values k.
    let none = ap (λ (t : Tracked). is_any_dirty t.bits c.args.tile) (sym c.self.view_is) ∙ sym c.any_dirty.ensures.answer ∙ c.if-not-any_dirty.true in
    c.new.ensures ∙ sym (none_pending c.args.self.now c.args.tile c.args.context.now c.args.draws c.requires.bound c.requires.settled none values k)

pub returns-then-not-any_dirty-clause-told : goal.returns-then-not-any_dirty-clause-told
returns-then-not-any_dirty-clause-told c = λ values k.
    let none = ap (λ (t : Tracked). is_any_dirty t.bits c.args.tile) (sym c.self.view_is) ∙ sym c.any_dirty.ensures.answer ∙ c.if-not-any_dirty.true in
    subst (λ (sets : List ElementSet). Knows c.args.self.now c.args.tile (after_sets values sets))
    (sym (none_pending c.args.self.now c.args.tile c.args.context.now c.args.draws c.requires.bound c.requires.settled none values k)) k

pub returns-then-not-any_dirty-clause-pending : goal.returns-then-not-any_dirty-clause-pending
returns-then-not-any_dirty-clause-pending c = λ t e low.
    let none = ap (λ (t : Tracked). is_any_dirty t.bits c.args.tile) (sym c.self.view_is) ∙ sym c.any_dirty.ensures.answer ∙ c.if-not-any_dirty.true in
    still_none c.args.self.now c.args.tile c.args.context.now c.args.draws c.requires.bound none t e

-- a name within bounds, if there is one, is a private texture's
private_name : (name : Option ℕ) → IfSome name (λ n. 0 < n) → IfSome name (λ n. n ≤ private_count) → IsPrivateName name
private_name None low high = tt
private_name (Some n) low high = (low, high)

pub sets-requires-clause-sound : goal.sets-requires-clause-sound
sets-requires-clause-sound c =
    let read = read_of c.args.self.now _ c.args.tile c.from.result c.args.context.now c.args.draws c.image_examined-image.result c.index-told.result.now
    c.requires.tile c.requires.bound c.image_examined-image.ensures.name c.self.view_is c.from.ensures c.index-told.ensures in
    record {
      named = private_name c.image_examined-image.result c.image_examined-image.ensures.low c.image_examined-image.ensures.high;
      server = c.requires.server;
      clean = subst (λ (t : Tracked). CleanElementsAreNotSet t.bits c.args.tile c.index-told.result.now c.args.context.now c.image_examined-image.result) (sym c.self.view_is)
          (clean c.args.self.now c.args.tile c.args.context.now c.args.draws c.image_examined-image.result c.index-told.result.now read
          c.requires.settled c.has_each_name.ensures);
    }

pub returns-in_err-sets-clause-quiet : goal.returns-in_err-sets-clause-quiet
returns-in_err-sets-clause-quiet c = λ values k none.
    let read = read_of c.args.self.now _ c.args.tile c.from.result c.args.context.now c.args.draws c.image_examined-image.result c.index-told.result.now
    c.requires.tile c.requires.bound c.image_examined-image.ensures.name c.self.view_is c.from.ensures c.index-told.ensures in
    let same = sets_known c.args.self.now c.args.tile c.args.context.now c.args.draws c.image_examined-image.result c.index-told.result.now read values k in
    absurd (true≢false (sym (c.in_err-sets.ensures.quiet (same ∙ none))))

pub returns-clause-sets : goal.returns-clause-sets
returns-clause-sets c = λ values k.
    let read = read_of c.args.self.now _ c.args.tile c.from.result c.args.context.now c.args.draws c.image_examined-image.result c.index-told.result.now
    c.requires.tile c.requires.bound c.image_examined-image.ensures.name c.self.view_is c.from.ensures c.index-told.ensures in
    c.in_ok-sets.ensures.sets
    ∙ sets_known c.args.self.now c.args.tile c.args.context.now c.args.draws c.image_examined-image.result c.index-told.result.now read values k

pub returns-clause-told : goal.returns-clause-told
returns-clause-told c = λ values k.
    let read = read_of c.args.self.now _ c.args.tile c.from-2.result c.args.context.now c.args.draws c.image_examined-image.result c.index_mut.result.now
    c.requires.tile c.requires.bound c.image_examined-image.ensures.name c.self.view_is c.from-2.ensures c.index_mut.ensures.value in
    subst (λ (t : Tracked). Knows t c.args.tile (after_sets values (sets_for values c.args.context.now c.args.draws)))
    (view_of c.args.self.now _ c.args.tile c.from-2.result c.tell.new.self c.clear_examined.new.dirty c.self.view_is c.from-2.ensures)
    (knows_next c.args.self.now c.args.tile c.args.context.now c.args.draws c.image_examined-image.result c.index_mut.result.now read values k
    c.tell.new.self c.clear_examined.new.dirty c.tell.ensures)

pub returns-clause-others : goal.returns-clause-others
returns-clause-others c = λ other values ne k.
    subst (λ (t : Tracked). Knows t other values)
    (view_of c.args.self.now _ c.args.tile c.from-2.result c.tell.new.self c.clear_examined.new.dirty c.self.view_is c.from-2.ensures)
    (knows_still c.args.self.now c.args.tile other values c.tell.new.self c.clear_examined.new.dirty ne k)

pub returns-clause-pending : goal.returns-clause-pending
returns-clause-pending c = λ t e low.
    c.clear_examined.ensures e t low
    ∙ ap₂ (λ (tracked : Tracked) (b : Bool). is_dirty tracked.bits e t && not (t == c.args.tile && b)) c.self.view_is
    (ap (λ (image : Option ℕ). is_examined image e) c.image_examined-image.ensures.name ∙ examined_are c.args.context.now c.args.draws e)

pub returns-clause-looked : goal.returns-clause-looked
returns-clause-looked c =
    let some = ap (λ (t : Tracked). is_any_dirty t.bits c.args.tile) (sym c.self.view_is) ∙ sym c.any_dirty.ensures.answer ∙ c.if-not-any_dirty.false in
    let any = c.any_dirty.ensures.looked in
    let all = c.in_ok-sets.ensures.looked in
    let same : looks_from c.self.inside.dirty c.args.tile 0 ≡ looks_from c.args.self.now.bits c.args.tile 0 = ap (λ (t : Tracked). looks_from t.bits c.args.tile 0) c.self.view_is in
    let sum : c.sets.new.looks ≡ c.args.looks.now + (1 + 9 + looks_from c.args.self.now.bits c.args.tile 0) = omega (arith, any, all, same) in
    sum ∙ ap (λ (n : ℕ). c.args.looks.now + n) (sym (looks_of_some c.args.self.now c.args.tile some))
