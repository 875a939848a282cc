use Rattle.std.proofs.Common.{◌≡◌, ◌∙◌, ◌+◌, ◌-◌, ◌∷◌, length, min, sym, subst, ap, arith}
use Rattle.rc_base.specs.Cluster.Looks.{looks_at}
use Rattle.rc_base.specs.Cluster.Sending.{ToTile}
use Rattle.rc_base.specs.declared.state.Parcel.{Parcel}
use Rattle.client_issue.specs.Cores.{ends_from}
use Rattle.client_issue.specs.Sequence.{scene_of}
use Rattle.client_issue.proofs.Marking.{end_looks}
use Rattle.client_issue.proofs.Ends.{ends_none, ends_last, ends_more, popped}
use Rattle.client_issue.proofs.client.ClientCore.next_end.Goals as goal

pub returns-then-tile-self-clause-none : goal.returns-then-tile-self-clause-none
returns-then-tile-self-clause-none c =
    let s = c.args.self.now in
    let more = c.if-tile-self.true in
    let e = s.count in
    (omega (arith, more), ends_none s.sender.layout (length s.sender.stream) s.ends (omega (arith, more, e)))

pub returns-then-tile-self-2-clause-left : goal.returns-then-tile-self-2-clause-left
returns-then-tile-self-2-clause-left c =
    let s = c.args.self.now in
    ends_last s.sender.layout (length s.sender.stream) s.ends (c.if-tile-self-2.true ∙ s.count)

pub returns-clause-left : goal.returns-clause-left
returns-clause-left c =
    let s = c.args.self.now in
    let more = c.if-tile-self.false in
    let other = c.if-tile-self-2.false in
    let e = s.count in
    let place = length s.sender.stream in
    let same = popped s.last.items c.pop.new.self.items _ c.in_ok-parcel.parcel (s.sender.count - s.ends) place c.pop.ensures.items c.in_ok-parcel.was s.prepared in
    ends_more s.sender.layout place s.ends (omega (arith, more, other, e))
    ∙ ap (λ (p : Parcel). ToTile s.ends p ∷ ends_from s.sender.layout place (s.ends + 1)) (sym same)

pub returns-clause-looked : goal.returns-clause-looked
returns-clause-looked c =
    let s = c.args.self.now in
    let place = length s.sender.stream in
    let same = popped s.last.items c.pop.new.self.items _ c.in_ok-parcel.parcel (s.sender.count - s.ends) place c.pop.ensures.items c.in_ok-parcel.was s.prepared in
    subst (λ (p : Parcel). 0 ≡ looks_at (scene_of s.sender) s.sender.layout 0 s.ends p.place) (sym same)
    (end_looks (scene_of s.sender) s.sender.layout s.ends place (omega arith))

pub returns-clause-next : goal.returns-clause-next
returns-clause-next c =
    let s = c.args.self.now in
    let place = length s.sender.stream in
    let same = popped s.last.items c.pop.new.self.items _ c.in_ok-parcel.parcel (s.sender.count - s.ends) place c.pop.ensures.items c.in_ok-parcel.was s.prepared in
    let all : place ≡ min (place + 1) place = omega arith in
    subst (λ (p : Parcel). place ≡ min (p.place + 1) place) (sym same) all
