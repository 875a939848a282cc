use Rattle.worked_examples.proofs.orders.a_barrier_parts_commands.Goals as goal
use Rattle.std.proofs.Common.{◌≡◌, ◌<◌, ◌==◌, ◌&&◌, Bool, false, [], ◌∷◌, inl, inr, refl, sym, ap, ◌∙◌, arith, true≢false}
use Rattle.std.proofs.Math.Seq.{drop-nil}
use Rattle.rc_base.specs.Lists.{IsIn}
use Rattle.rc_base.specs.Orders.Journal.{start}
use Rattle.rc_base.specs.Orders.Order.{entry_at}
use Rattle.rc_base.specs.Orders.Order.Precedes.{SameClient, Parted}
use Rattle.rc_base.specs.Orders.Sync.{units_of}
use Rattle.rc_base.specs.declared.sync.Entry.TheVariants.{Meet}
use Rattle.rc_base.specs.declared.sync.Name.{Name}
use Rattle.worked_examples.specs.Orders.{meeting, eager, through_the_barrier, falling, too_short, name}
use Rattle.order_model.proofs.StandsInLists.{not_both}
use Rattle.worked_examples.proofs.PermittedByTests.{two_permitted}

pub returns-clause-permitted : goal.returns-clause-permitted
returns-clause-permitted c = two_permitted meeting (Meet 1 3 ∷ []) eager 3 3 refl refl refl refl (λ k. rw (drop-nil (units_of meeting k)) tt) refl

-- 1:0 should stand before 0:2
pub returns-clause-crossed : goal.returns-clause-crossed
returns-clause-crossed c p =
    let o = through_the_barrier in
    not_both (name 1 0) (name 0 2) o p.once
    (p.sequence (name 1 0) (name 0 2) (inr (inr (inr (inl refl)))) (inr (inr (inl refl)))
    (Parted (entry_at meeting (start meeting) (Meet 1 3)) 1 1 (inl refl) refl refl (omega arith) (omega arith)))
    (inr (inr (inl (refl, inl refl))))

-- 0:2 stands before 0:1
pub returns-clause-fell : goal.returns-clause-fell
returns-clause-fell c p =
    not_both (name 0 1) (name 0 2) falling p.once
    (p.sequence (name 0 1) (name 0 2) (inr (inr (inr (inl refl)))) (inr (inr (inl refl))) (SameClient refl (omega arith)))
    (inr (inr (inl (refl, inl refl))))

-- 0:2 is missing: each of the five names has another client or another place
abbrev is_missing : Name → Bool
is_missing n = n.client == 0 && n.place == 2

not_missing : (a : Name) → is_missing a ≡ false → (a ≡ name 0 2) → ⊥
not_missing a f e = true≢false (sym (ap is_missing e) ∙ f)

pub returns-clause-short : goal.returns-clause-short
returns-clause-short c p = missing ((p.names (name 0 2)).1 (let h : 2 < 3 = omega arith in h))
  where
    missing : IsIn (name 0 2) too_short → ⊥
    missing (inl e) = not_missing (name 0 0) refl e
    missing (inr (inl e)) = not_missing (name 1 0) refl e
    missing (inr (inr (inl e))) = not_missing (name 0 1) refl e
    missing (inr (inr (inr (inl e)))) = not_missing (name 1 1) refl e
    missing (inr (inr (inr (inr (inl e))))) = not_missing (name 1 2) refl e
    missing (inr (inr (inr (inr (inr i))))) = i
