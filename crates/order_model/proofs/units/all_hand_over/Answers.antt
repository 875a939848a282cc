use Rattle.std.proofs.Common.{◌≡◌, true, arith, inl, inr, refl, sym, ◌∙◌, subst}
use Rattle.std.proofs.lemmas.Bool.{cases_lt}
use Rattle.order_model.specs.Checked.{hands_over}
use Rattle.order_model.proofs.UnitsInTurn.{takes_few}
use Rattle.order_model.proofs.units.all_hand_over.Goals as goal
use Rattle.order_model.proofs.units.all_hand_over.Goals.{then-takes-number+else-not-hands_over, else-takes-number}

pub loop-number-preserved : goal.loop-number-preserved
loop-number-preserved c s lt =
    let syncs = c.args.syncs.now in
    let js = c.args.journal.now in
    let o = c.args.order.now in
    let k = c.loop-number.number in
    elim (cases_lt s k) [
      | inl below ↦ c.loop-number.invariant s below
      | inr ge ↦
          let e : k ≡ s = omega arith in
          subst (λ n. hands_over syncs js o n ≡ true) e (elim c.if-takes-number.branch [
            | then-takes-number+else-not-hands_over w ↦ sym w.hands_over.ensures ∙ w.if-not-hands_over.false
            | else-takes-number w ↦ takes_few syncs js o k (omega (arith, c.takes_of-takes.ensures.takes k, c.units_of.ensures, w.if-takes-number.false))
          ])
    ]

pub returns : goal.returns
returns c = (
  λ h s. elim (cases_lt s 256) [
    | inl lt ↦ c.loop-number.invariant s (omega arith)
    | inr ge ↦ takes_few c.args.syncs.now c.args.journal.now c.args.order.now s (omega (arith, c.takes_of-takes.ensures.names s ge))
  ],
  λ h. refl,
)
