use Rattle.std.proofs.Common.{◌≡◌, ◌∙◌, ◌∷◌, length, Some, None, refl, ap, sym}
use Rattle.rc_base.specs.Cluster.Sending.{ToTile}
use Rattle.rc_base.specs.declared.state.Parcel.{Parcel}
use Rattle.rc_base.specs.declared.sync.Request.{Request}
use Rattle.client_issue.specs.Cores.{left_by}
use Rattle.client_issue.specs.Deeds.{issued_up_to}
use Rattle.client_issue.specs.Deeds.ClientDeed.{Appends, Requests, FindsTileFull, FindsManagerFull, Finishes}
use Rattle.client_issue.specs.declared.item.Item.{Item}
use Rattle.client_issue.specs.declared.item.Item.TheVariants as item
use Rattle.client_issue.proofs.Prepared.{for_tile, pinned, put_back, sound, taken}
use Rattle.client_issue.proofs.Steps.{found_full, got, same_by}
use Rattle.client_issue.proofs.client.ClientCore.send.Goals as goal

pub returns-in-Ok-clause-step : goal.returns-in-Ok-clause-step
returns-in-Ok-clause-step g c =
    let s = c.args.self.now in
    let u = c.count_parcel.new.self in
    let t = c.in-Some-Parcel.tile in
    let p = c.in-Some-Parcel.parcel in
    let k = c.in-Some-Parcel.looks in
    let e = c.count_parcel.ensures in
    let was : s.ready ≡ Some (item.Parcel t p k) = sym c.take.ensures.value ∙ c.in-Some-Parcel.is ∙ ap (λ (i : Item). Some i) c.in-Some-Parcel.field-0-is in
    let tallied = e.tallied p (sym c.set_count-sets.ensures) (sym ((sound s).looked (item.Parcel t p k) was)) in (
      Appends t p,
      refl,
      refl,
      record {
        same = same_by s.sender u.sender e.sender;
        short = e.short;
        ample = λ loss. absurd cc;
        next = (
          for_tile s t p k was,
          taken s.sender s.ready c.take.new.self s.ends s.short (item.Parcel t p k) was c.take.ensures.after
              ∙ (λ i. ToTile t p ∷ left_by (sym e.sender i) (sym e.waits i) (sym e.ends i) (sym e.short i)),
        );
        issued = λ _.
            (λ i. (e.sender i).issued)
            ∙ pinned s.short s.sender.issued (issued_up_to (length s.sender.stream) (Appends t p)) (λ ample. (sound s).last ample (item.Parcel t p k) was);
        tallied = record { counted = tallied.counted; others = tallied.others };
      },
      got g.P.Outlet.sent g.P.Outlet.full_seen g.P.Outlet.full c.args.tiles.now c.append.new.lanes c.from.result t c.from.ensures c.append.ensures.others p
          c.in-Ok.ensures.appended c.in-Ok.ensures.counted,
      refl,
    )

pub returns-in-Err-clause-step : goal.returns-in-Err-clause-step
returns-in-Err-clause-step g c =
    let s = c.args.self.now in
    let t = c.in-Some-Parcel.tile in
    let p = c.in-Some-Parcel.parcel in
    let k = c.in-Some-Parcel.looks in
    let was : s.ready ≡ Some (item.Parcel t p k) = sym c.take.ensures.value ∙ c.in-Some-Parcel.is ∙ ap (λ (i : Item). Some i) c.in-Some-Parcel.field-0-is in (
      FindsTileFull t p,
      refl,
      refl,
      record {
        same = same_by s.sender s.sender refl;
        short = refl;
        ample = λ loss. absurd cc;
        next = (
          for_tile s t p k was,
          record { rest = _; next = taken s.sender s.ready c.take.new.self s.ends s.short (item.Parcel t p k) was c.take.ensures.after },
          put_back s.sender s.ready s.ends s.short (item.Parcel t p k) (item.Parcel t c.in-Err.parcel k) was (ap (λ (q : Parcel). item.Parcel t q k) c.in-Err.ensures.handed_back),
        );
        issued = λ _. pinned s.short s.sender.issued (issued_up_to (length s.sender.stream) (FindsTileFull t p)) (λ ample. (sound s).last ample (item.Parcel t p k) was);
        tallied = λ tile. refl;
      },
      found_full g.P.Outlet.sent g.P.Outlet.full_seen g.P.Outlet.full c.args.tiles.now c.append.new.lanes c.from.result t c.from.ensures c.append.ensures.others
          c.in-Err.ensures.same c.in-Err.ensures.cause,
      refl,
    )

pub returns-in-Ok-push-clause-step : goal.returns-in-Ok-push-clause-step
returns-in-Ok-push-clause-step g c =
    let s = c.args.self.now in
    let r = c.in-Some-Request.request in
    let was : s.ready ≡ Some (item.Request r) = sym c.take.ensures.value ∙ c.in-Some-Request.is ∙ ap (λ (i : Item). Some i) c.in-Some-Request.field-0-is in (
      Requests r,
      refl,
      refl,
      record {
        same = same_by s.sender s.sender refl;
        short = refl;
        ample = λ loss. absurd cc;
        next = taken s.sender s.ready c.take.new.self s.ends s.short (item.Request r) was c.take.ensures.after;
        issued = λ _. pinned s.short s.sender.issued (issued_up_to (length s.sender.stream) (Requests r)) (λ ample. (sound s).last ample (item.Request r) was);
        tallied = λ tile. refl;
      },
      refl,
      record { appended = c.in-Ok-push.ensures.appended; counted = c.in-Ok-push.ensures.counted },
    )

pub returns-in-Err-push-clause-step : goal.returns-in-Err-push-clause-step
returns-in-Err-push-clause-step g c =
    let s = c.args.self.now in
    let r = c.in-Some-Request.request in
    let e = c.in-Err-push.ensures in
    let was : s.ready ≡ Some (item.Request r) = sym c.take.ensures.value ∙ c.in-Some-Request.is ∙ ap (λ (i : Item). Some i) c.in-Some-Request.field-0-is in (
      FindsManagerFull r,
      refl,
      refl,
      record {
        same = same_by s.sender s.sender refl;
        short = refl;
        ample = λ loss. absurd cc;
        next = (
          record { rest = _; next = taken s.sender s.ready c.take.new.self s.ends s.short (item.Request r) was c.take.ensures.after },
          put_back s.sender s.ready s.ends s.short (item.Request r) (item.Request c.in-Err-push.request) was (ap (λ (q : Request). item.Request q) e.handed_back.0),
        );
        issued = λ _. pinned s.short s.sender.issued (issued_up_to (length s.sender.stream) (FindsManagerFull r)) (λ ample. (sound s).last ample (item.Request r) was);
        tallied = λ tile. refl;
      },
      refl,
      record { same = e.handed_back.1; cause = e.cause.0; full_is = e.cause.1 },
    )

pub returns-in-None-clause-step : goal.returns-in-None-clause-step
returns-in-None-clause-step g c =
    let s = c.args.self.now in
    let was : s.ready ≡ None = sym c.take.ensures.value ∙ c.in-None.is in
    let over = c.requires.none was in (
      Finishes,
      refl,
      refl,
      record {
        same = same_by s.sender s.sender refl;
        short = refl;
        ample = λ loss. absurd cc;
        next = (over.1, (λ i. left_by s.sender ((c.take.ensures.after ∙ sym was) i) s.ends s.short) ∙ over.1);
        issued = λ _. pinned s.short s.sender.issued (length s.sender.stream) (λ ample. ((sound s).over ample over.0).issued);
        tallied = λ tile. refl;
      },
      refl,
      refl,
    )
