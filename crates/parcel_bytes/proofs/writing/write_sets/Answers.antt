use Rattle.std.proofs.Common.{◌≡◌, ◌++◌, subst, sym}
use Rattle.rc_base.specs.declared.state.ElementSet.{ElementSet}
use Rattle.parcel_bytes.specs.Spelling.{IsSet, IsWholeSet, set_bytes}
use Rattle.byte_codec.proofs.WrittenInTurn.{all_at, all_grown, all_whole, grown, grown_whole}
use Rattle.parcel_bytes.proofs.writing.write_sets.Goals as goal

pub write_set-requires : goal.write_set-requires
write_set-requires c = subst IsWholeSet (sym c.set-item.is) (all_at IsWholeSet c.args.sets.now c.loop-set.set-index c.set-item.result c.loop-set-test.true c.requires)

pub loop-set-preserved : goal.loop-set-preserved
loop-set-preserved c =
    let item = c.set-item.result in (
      grown set_bytes c.args.out.now c.loop-set.out c.write_set.new.out c.args.sets.now c.loop-set.set-index item c.loop-set-test.true c.loop-set.invariant.0
          (subst (λ (v : ElementSet). c.write_set.new.out ≡ c.loop-set.out ++ set_bytes v) c.set-item.is c.in_ok-write_set.ensures.added),
      all_grown IsSet c.args.sets.now c.loop-set.set-index item c.loop-set-test.true c.loop-set.invariant.1 (subst IsSet c.set-item.is c.in_ok-write_set.ensures.typed),
    )

pub returns-clause-added : goal.returns-clause-added
returns-clause-added c = grown_whole set_bytes c.args.out.now c.loop-set.out c.args.sets.now c.loop-set.set-index c.loop-set-test.false c.loop-set.invariant.0

pub returns-clause-typed : goal.returns-clause-typed
returns-clause-typed c = all_whole IsSet c.args.sets.now c.loop-set.set-index c.loop-set-test.false c.loop-set.invariant.1
