use Rattle.std.proofs.Common.{◌≡◌, ◌∙◌, ℕ, ◌+◌, ◌<◌, ◌∷◌, Some, ap, subst, sym, arith, refl}
use Rattle.std.specs.declared.option.Option.{Option}
use Rattle.rc_base.specs.Cluster.Looks.{looks_at}
use Rattle.rc_base.specs.Cluster.Sending.{ToTile}
use Rattle.rc_base.specs.declared.state.Parcel.{Parcel}
use Rattle.state_update.specs.Knowledge.{pending}
use Rattle.client_issue.specs.Acts.{act_looks}
use Rattle.client_issue.specs.Sequence.{IsSendingWith, left_of, scene_of}
use Rattle.client_issue.specs.declared.pending.Pending.{Pending}
use Rattle.client_issue.specs.declared.sender.Sender.{Sender}
use Rattle.client_issue.proofs.Packable.{packable}
use Rattle.client_issue.proofs.ParcelGiven.{bound_texture, IsGiven, given_all, given_one, left_last, left_more, looks_of_parcel, settled}
use Rattle.client_issue.proofs.sender.Sender.give_parcel.Goals.{After-next_tile-next}
use Rattle.client_issue.proofs.sender.Sender.give_parcel.Goals as goal

pub sets_with-requires-clause-bound : goal.sets_with-requires-clause-bound
sets_with-requires-clause-bound c =
    bound_texture c.args.self.now (Some c.args.pending) c.contexts_of_streams_are_valid.ensures c.valid_contexts_have_their_texture.ensures c.requires.sending

pub sets_with-requires-clause-settled : goal.sets_with-requires-clause-settled
sets_with-requires-clause-settled c =
    settled c.args.self.now c.args.pending c.streams_go_on_by_issue.ensures.next c.elements_that_are_not_pending_were_told.ensures c.known_values_are_alike.ensures c.requires.sending

given : (c : After-next_tile-next) → IsGiven c.args.self.now c.args.pending c.sets_with.new.tracker c.in_ok-sets.sets c.next_tile-next.result
given c = record {
  law = c.streams_go_on_by_issue.ensures.next;
  follow = c.trackers_follow_parcels.ensures.next;
  sending = c.requires.sending;
  low = c.next_tile-next.ensures.low;
  high = c.next_tile-next.ensures.high;
  none = c.next_tile-next.ensures.none;
  count = c.in_ok-sets.ensures.count;
  sets_are = c.in_ok-sets.ensures.sets;
  told_now = c.in_ok-sets.ensures.told;
  others = c.in_ok-sets.ensures.others;
  examined = c.in_ok-sets.ensures.pending;
}

pub returns-then-next-self-clause-sending : goal.returns-then-next-self-clause-sending
returns-then-next-self-clause-sending c =
    let s = c.args.self.now in
    subst (λ (t : Sender). IsSendingWith t t.pending) (sym c.take_back.ensures)
    (subst (λ (o : Option Pending). IsSendingWith (record s { tracker = c.sets_with.new.tracker; pending = o }) o) (sym c.requires.none)
    (given_all s c.args.pending c.sets_with.new.tracker c.in_ok-sets.sets c.next_tile-next.result (given (goal.at.returns-then-next-self-clause-sending c).After-next_tile-next) c.if-next-self.true))

pub returns-then-next-self-clause-left : goal.returns-then-next-self-clause-left
returns-then-next-self-clause-left c =
    let s = c.args.self.now in
    let p = c.args.pending in
    left_last s p c.sets_with.new.tracker c.in_ok-sets.sets c.next_tile-next.result (given (goal.at.returns-then-next-self-clause-left c).After-next_tile-next) c.if-next-self.true
    ∙ (λ i. ToTile p.tile (sym c.in_ok-packed.ensures i) ∷ left_of (record s { tracker = c.sets_with.new.tracker; pending = sym c.requires.none i }))
    ∙ ap (λ (t : Sender). ToTile p.tile c.in_ok-packed.packed ∷ left_of t) (sym c.take_back.ensures)

pub returns-clause-sending : goal.returns-clause-sending
returns-clause-sending c =
    let s = c.args.self.now in
    let n = c.next_tile-next.result in
    let e = c.if-next-self.false in
    let h = c.next_tile-next.ensures.high in
    let less : n < s.count = omega (arith, e, h) in
    given_one s c.args.pending c.sets_with.new.tracker c.in_ok-sets.sets n (given (goal.at.returns-clause-sending c).After-next_tile-next) less (c.next_tile-next.ensures.found less)
    (Some c.in_ok-kept.kept)
    (let same = c.in_ok-kept.ensures.cases ∙ c.in_ok-packed.ensures in record { place_is = ap (λ (q : Parcel). q.place) same; act_is = ap (λ (q : Parcel). q.act) same })
    (record c.args.pending { tile = n; made = Some c.in_ok-kept.kept }) refl

pub returns-clause-left : goal.returns-clause-left
returns-clause-left c =
    let s = c.args.self.now in
    let p = c.args.pending in
    left_more s p c.sets_with.new.tracker c.in_ok-sets.sets c.next_tile-next.result (Some c.in_ok-kept.kept) (given (goal.at.returns-clause-left c).After-next_tile-next)
    ∙ ap (λ (q : Parcel). ToTile p.tile q ∷ left_of (record s { tracker = c.sets_with.new.tracker; pending = Some (record p { tile = c.next_tile-next.result; made = Some c.in_ok-kept.kept }) }))
    (sym c.in_ok-packed.ensures)

pub packed-requires-clause-packable : goal.packed-requires-clause-packable
packed-requires-clause-packable c = packable c.args.self.now c.args.pending c.in_ok-sets.sets c.requires.sending c.in_ok-sets.ensures.sets

pub returns-then-next-self-clause-tile : goal.returns-then-next-self-clause-tile
returns-then-next-self-clause-tile c = omega (arith, c.requires.sending.count, c.requires.sending.pending.tile)

pub returns-clause-tile : goal.returns-clause-tile
returns-clause-tile c = omega (arith, c.requires.sending.count, c.requires.sending.pending.tile)

pub returns-then-next-self-clause-looked : goal.returns-then-next-self-clause-looked
returns-then-next-self-clause-looked c =
    let s = c.args.self.now in
    let p = c.args.pending in
    c.count-looks.ensures ∙ c.in_ok-sets.ensures.looked ∙ ap (λ (n : ℕ). n + act_looks (pending s.tracker p.tile) p.act) c.new-looks.ensures
    ∙ (let e : 0 + act_looks (pending s.tracker p.tile) p.act ≡ act_looks (pending s.tracker p.tile) p.act = omega arith in e) ∙ looks_of_parcel s p c.requires.sending
    ∙ ap (λ (q : Parcel). looks_at (scene_of s) s.layout 0 p.tile q.place) (sym c.in_ok-packed.ensures)

pub returns-clause-looked : goal.returns-clause-looked
returns-clause-looked c =
    let s = c.args.self.now in
    let p = c.args.pending in
    c.count-looks.ensures ∙ c.in_ok-sets.ensures.looked ∙ ap (λ (n : ℕ). n + act_looks (pending s.tracker p.tile) p.act) c.new-looks.ensures
    ∙ (let e : 0 + act_looks (pending s.tracker p.tile) p.act ≡ act_looks (pending s.tracker p.tile) p.act = omega arith in e) ∙ looks_of_parcel s p c.requires.sending
    ∙ ap (λ (q : Parcel). looks_at (scene_of s) s.layout 0 p.tile q.place) (sym c.in_ok-packed.ensures)

pub packed-requires-clause-made : goal.packed-requires-clause-made
packed-requires-clause-made c = c.requires.sending.pending.made
