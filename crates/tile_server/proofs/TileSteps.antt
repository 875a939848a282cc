-- What a tile's core stores tells what its step may do, and each deed makes of the core what the definition of a step says.
use Rattle.std.proofs.Common.{◌≡◌, ◌≢◌, ℕ, ◌+◌, ◌<◌, ◌≤◌, ◌^◌, ◌==◌, ◌&&◌, ◌||◌, not, Bool, true, false, cond, length, ◌⊎◌, inl, inr, Option, Some, None, refl, sym, ap, ◌∙◌, subst, arith, true≢false, add-one, eq-eqb, eqb-true, ne_eqb}
use Rattle.std.proofs.Props.{props}
use Rattle.std.specs.Prelude.{is_none, slice_get, OnOk, OnErr}
use Rattle.std.proofs.lemmas.Option.{slice_get_within}
use Rattle.rc_base.specs.Orders.Journal.{is_member}
use Rattle.rc_base.specs.declared.cluster.TilePart.{TilePart}
use Rattle.rc_base.specs.declared.scene.Decl.{Decl}
use Rattle.rc_base.specs.declared.state.Act.{Act}
use Rattle.rc_base.specs.declared.state.Act.TheVariants as act
use Rattle.rc_base.specs.declared.state.Parcel.{Parcel}
use Rattle.rc_base.specs.declared.sync.Entry.{Entry}
use Rattle.rc_base.specs.declared.sync.Entry.TheVariants.{Swap}
use Rattle.rc_base.specs.declared.sync.Grant.TheVariants as grant
use Rattle.rc_base.specs.declared.window.Layout.{Layout}
use Rattle.rc_base.specs.Cluster.Parcels.{is_end}
use Rattle.order_model.specs.Board.{Board}
use Rattle.order_model.specs.Standing.{Progress, performed_in, is_over}
use Rattle.tile_model.specs.Acts.{is_work}
use Rattle.tile_model.specs.Boards.{is_carried_out, IsDrawn}
use Rattle.tile_model.specs.Givable.{is_givable}
use Rattle.tile_model.specs.Items.{after_act, after_end, after_entry, after_no_more, after_parcel, after_performed, after_wait, after_work, shown_frames, IsAwaited}
use Rattle.tile_model.specs.Items.Item.{Due}
use Rattle.tile_model.specs.Short.{asks, listens, IsFinished, NothingIsDue}
use Rattle.tile_model.proofs.ShownFrames.{after_swap, after_other, after_learnt, after_worked}
use Rattle.tile_server.specs.Boards.{canvas_clients, IsPartOf, IsSameTile}
use Rattle.tile_server.specs.LazyBoards.{board_in}
use Rattle.tile_server.specs.Cores.{board_of, clients_of, decl_of, is_short, layout_of, tile_of, IsProgressOf, IsSameCore, IsSameView, IsShown, IsTileStep}
use Rattle.tile_server.specs.Deeds.{answer_of, is_loss, is_wait, item_of, next_after, progress_after, taking_answer, is_lost, IsNextDeed, MayTake}
use Rattle.tile_server.specs.Ledgers.{closed_in, held_in, is_over_in, IsKnownOf, IsLedgerOf, HoldsAll, IsLedgerStep, IsSameLedger, IsWholeLedger}
use Rattle.tile_server.specs.Tasks.{asks_in, listens_in, next_frame, IsDueIn, IsFreeIn, IsFinishedIn, IsWorked, MayTakeIn, NothingIsDueIn}
use Rattle.tile_server.specs.declared.deed.Taking.{Taking}
use Rattle.tile_server.specs.declared.deed.Taking.TheVariants.{Works, Holds, Closes, Drops, Loses}
use Rattle.tile_server.specs.declared.deed.TileDeed.{TileDeed}
use Rattle.tile_server.specs.declared.deed.TileDeed.TheVariants.{Performs, Shows, Fails, Learns, Takes, Rests, Finishes}
use Rattle.tile_server.specs.declared.ledger.Ledger.{Ledger}
use Rattle.tile_server.specs.declared.tile_core.TileCore.{TileCore}
use Rattle.tile_server.proofs.LedgersGoOn.{same_ledger}

-- ---- what the ledger says

none_known : (o : Option Entry) (p : Progress) → IsKnownOf o p → is_none o ≡ (performed_in p.log == length p.learnt)
none_known None p k = sym (eq-eqb (performed_in p.log) (length p.learnt) k)
none_known (Some e) p k = sym (ne_eqb (performed_in p.log) (length p.learnt) (λ e. absurd (omega (arith, k.0, e))))

known_is : (o : Option Entry) (p : Progress) (e : Entry) → IsKnownOf o p → slice_get p.learnt (performed_in p.log) ≡ Some e → o ≡ Some e
known_is None p e k next = absurd (let w = slice_get_within p.learnt (performed_in p.log) e next in omega (arith, k, w))
known_is (Some d) p e k next = sym k.1 ∙ next

all_performed : (o : Option Entry) (p : Progress) → is_none o ≡ true → IsKnownOf o p → performed_in p.log ≡ length p.learnt
all_performed None p none k = k
all_performed (Some e) p none k = absurd (true≢false (sym none))

unless : (b x : Bool) → cond b false x ≡ not b && x
unless true x = refl
unless false x = refl

both : (b x : Bool) → cond b x false ≡ b && x
both true x = refl
both false x = refl

listens_by : (short : Bool) (ledger : Ledger) (p : Progress) → IsLedgerOf short ledger p
    → cond short (not ledger.no_more) (cond ledger.no_more false (is_none ledger.known)) ≡ listens short p
listens_by true ledger p h = ap not (sym h.no_more)
listens_by false ledger p h = rw (h.no_more, sym (none_known ledger.known p (h.whole refl).known)) (unless ledger.no_more (is_none ledger.known))

over_by : (ledger : Ledger) (p : Progress) → IsLedgerOf false ledger p → is_over_in ledger ≡ is_over p
over_by ledger p h = rw (h.no_more, sym (none_known ledger.known p (h.whole refl).known)) (both ledger.no_more (is_none ledger.known))

asks_by : (short : Bool) (ledger : Ledger) (p : Progress) (client : ℕ) → IsLedgerOf short ledger p
    → cond short (not (closed_in ledger client)) (not (closed_in ledger client) && (not (held_in ledger client) || is_over_in ledger))
    ≡ asks short p client
asks_by true ledger p client h = ap not (sym (h.closed client))
asks_by false ledger p client h = rw (h.closed client, (h.whole refl).held client, sym (over_by ledger p h)) refl

-- ---- what the core may do

module _ (core : TileCore) (p : Progress) (h : IsProgressOf core p) where
  whole : core.short ≡ false → IsWholeLedger core.ledger p
  whole ample = h.ledger.whole ample

  pub listens_is : listens_in core ≡ listens core.short p
  listens_is = listens_by core.short core.ledger p h.ledger

  pub asks_is : (client : ℕ) → asks_in core client ≡ asks core.short p client
  asks_is client = asks_by core.short core.ledger p client h.ledger

  over_is : core.short ≡ false → is_over_in core.ledger ≡ is_over p
  over_is ample = over_by core.ledger p (subst (λ b. IsLedgerOf b core.ledger p) ample h.ledger)

  next_entry : (e : Entry) → IsDueIn core e → slice_get p.learnt (performed_in p.log) ≡ Some e
  next_entry e due = let known = subst (λ o. IsKnownOf o p) due.known (whole due.ample).known in known.1

  pub awaited : (e : Entry) → IsDueIn core e → IsAwaited p (Due e)
  awaited e due = (
    next_entry e due,
    λ client member. (whole due.ample).held client ∙ due.held client (subst (λ n. is_member n e client ≡ true) h.ledger.count member),
  )

  pub nothing_due : NothingIsDueIn core → NothingIsDue core.short p
  nothing_due undue ample e due = undue e (record {
    ample = ample;
    known = known_is core.ledger.known p e (whole ample).known due.0;
    held = λ client member. sym ((whole ample).held client) ∙ due.1 client (subst (λ n. is_member n e client ≡ true) (sym h.ledger.count) member);
  })

  pub may_take : (client : ℕ) → MayTakeIn core client → MayTake core.short p client
  may_take client t = record {
    undue = nothing_due t.undue;
    low = subst (λ n. client < n) (sym h.ledger.count) t.low;
    asked = sym (asks_is client) ∙ t.asked;
  }

-- ---- acts

work_after : (p : Progress) (client : ℕ) (a : Act) (place : ℕ) → is_work a ≡ true → p.held client ≡ false
    → after_act p client a place ≡ after_work p client place
work_after p client (act.Draw block) place w free = rw free refl
work_after p client (act.Clear mask) place w free = rw free refl
work_after p client (act.Shared part) place w free = rw free refl
work_after p client (act.Sync op) place w free = absurd (true≢false (sym w))
work_after p client act.End place w free = absurd (true≢false (sym w))

wait_after : (p : Progress) (client : ℕ) (a : Act) (place : ℕ) → is_wait a ≡ true → p.held client ≡ false
    → after_act p client a place ≡ after_wait p client
wait_after p client (act.Draw block) place w free = absurd (true≢false (sym w))
wait_after p client (act.Clear mask) place w free = absurd (true≢false (sym w))
wait_after p client (act.Shared part) place w free = absurd (true≢false (sym w))
wait_after p client (act.Sync op) place w free = rw free refl
wait_after p client act.End place w free = absurd (true≢false (sym w))

end_after : (p : Progress) (client : ℕ) (a : Act) (place : ℕ) → is_end a ≡ true → after_act p client a place ≡ after_end p client
end_after p client (act.Draw block) place w = absurd (true≢false (sym w))
end_after p client (act.Clear mask) place w = absurd (true≢false (sym w))
end_after p client (act.Shared part) place w = absurd (true≢false (sym w))
end_after p client (act.Sync op) place w = absurd (true≢false (sym w))
end_after p client act.End place w = refl

drop_after : (p : Progress) (client : ℕ) (a : Act) (place : ℕ) → is_end a ≡ false → p.held client ≡ true
    → after_act p client a place ≡ after_parcel p client
drop_after p client (act.Draw block) place more held = rw held refl
drop_after p client (act.Clear mask) place more held = rw held refl
drop_after p client (act.Shared part) place more held = rw held refl
drop_after p client (act.Sync op) place more held = rw held refl
drop_after p client act.End place more held = absurd (true≢false more)

wait_no_work : (a : Act) → is_wait a ≡ true → is_work a ≡ false
wait_no_work (act.Draw block) w = absurd (true≢false (sym w))
wait_no_work (act.Clear mask) w = absurd (true≢false (sym w))
wait_no_work (act.Shared part) w = absurd (true≢false (sym w))
wait_no_work (act.Sync op) w = refl
wait_no_work act.End w = refl

end_no_work : (a : Act) → is_end a ≡ true → is_work a ≡ false
end_no_work (act.Draw block) w = absurd (true≢false (sym w))
end_no_work (act.Clear mask) w = absurd (true≢false (sym w))
end_no_work (act.Shared part) w = absurd (true≢false (sym w))
end_no_work (act.Sync op) w = refl
end_no_work act.End w = refl

pub work_no_end : (a : Act) → is_work a ≡ true → is_end a ≡ false
work_no_end (act.Draw block) w = refl
work_no_end (act.Clear mask) w = refl
work_no_end (act.Shared part) w = refl
work_no_end (act.Sync op) w = refl
work_no_end act.End w = absurd (true≢false (sym w))

pub other_is_work : (a : Act) → is_end a ≡ false → is_wait a ≡ false → is_work a ≡ true
other_is_work (act.Draw block) more free = refl
other_is_work (act.Clear mask) more free = refl
other_is_work (act.Shared part) more free = refl
other_is_work (act.Sync op) more free = absurd (true≢false free)
other_is_work act.End more free = absurd (true≢false more)

drawn_if : (decl : Decl) (p : Progress) (client : ℕ) (parcel : Parcel) → is_work parcel.act ≡ true → p.held client ≡ false
    → is_carried_out decl p client parcel ≡ is_givable decl parcel
drawn_if decl p client parcel work free = rw (work, free) refl

not_work : (decl : Decl) (p : Progress) (client : ℕ) (parcel : Parcel) → is_work parcel.act ≡ false → is_carried_out decl p client parcel ≡ false
not_work decl p client parcel work = rw work refl

not_free : (decl : Decl) (p : Progress) (client : ℕ) (parcel : Parcel) → p.held client ≡ true → is_carried_out decl p client parcel ≡ false
not_free decl p client parcel held = rw held (ap (λ b. b && is_givable decl parcel) (nothing (is_work parcel.act)))
  where
    nothing : (b : Bool) → b && false ≡ false
    nothing true = refl
    nothing false = refl

-- ---- ledgers of a tile that is short, or becomes so

parcel_known : (o : Option Entry) (p : Progress) (client : ℕ) → IsKnownOf o p → IsKnownOf o (after_parcel p client)
parcel_known None p client k = k
parcel_known (Some e) p client k = k

parcel_ledger : (short : Bool) (ledger : Ledger) (p : Progress) (client : ℕ) → IsLedgerOf short ledger p
    → IsLedgerOf short ledger (after_parcel p client)
parcel_ledger short ledger p client h = record {
  count = h.count;
  closed = h.closed;
  no_more = h.no_more;
  log = h.log;
  whole = λ ample. let w = h.whole ample in record { held = w.held; known = parcel_known ledger.known p client w.known };
}

short_ledger : (short : Bool) (ledger : Ledger) (p : Progress) → IsLedgerOf short ledger p → IsLedgerOf true ledger p
short_ledger short ledger p h = record { count = h.count; closed = h.closed; no_more = h.no_more; log = h.log; whole = λ e. absurd (true≢false e) }

-- ---- afterwards

either : (b : Bool) (q : Progress) → cond b q q ≡ q
either true q = refl
either false q = refl

module _ (core later : TileCore) where
  -- a tile that isn't short has its whole ledger
  ample_after : (made : Progress → Progress) (p : Progress) → core.short ≡ false → later.short ≡ false
      → IsLedgerStep false core.ledger made false later.ledger → IsProgressOf core p
      → (shown_frames (made p) < 2 ^ 32 → later.frames ≡ shown_frames (made p)) → IsProgressOf later (made p)
  ample_after made p ample so step h frames = record {
    ledger = subst (λ b. IsLedgerOf b later.ledger (made p)) (sym so) (step.after p (subst (λ b. IsLedgerOf b core.ledger p) ample h.ledger));
    frames = λ e. frames;
  }

  module _ (canvas : later.canvas ≡ core.canvas) (clients : clients_of later ≡ clients_of core) where
    same_core : IsSameCore core later
    same_core = record {
      decl = ap (λ c. c.drawn.decl) canvas;
      clients = clients;
      layout = ap (λ c. c.drawn.layout) canvas;
      tile = ap (λ c. c.drawn.tile) canvas;
    }

    same_board : board_of later ≡ board_of core
    same_board = ap board_in canvas

  -- ---- entries

  module _ (e : Entry) (due : IsDueIn core e) (canvas : later.canvas ≡ core.canvas) (next : later.next ≡ core.next) where
    pub failed_step : IsSameLedger core.ledger later.ledger → later.short ≡ true → IsTileStep core Fails later
    failed_step same short = record {
      same = same_core canvas same.clients;
      short = short;
      ample = λ l. due.ample;
      rotation = next;
      first = λ p h. (due.ample, (e, awaited core p h e due));
      after = λ p h. subst (λ b. IsProgressOf later (progress_after b p Fails)) (sym short) record {
        ledger = subst (λ b. IsLedgerOf b later.ledger p) (sym short)
            (same_ledger true core.ledger later.ledger p same (short_ledger core.short core.ledger p h.ledger));
        frames = λ ample. absurd (true≢false (sym short ∙ ample));
      };
      drawn = λ p h ample. same_board canvas same.clients;
      shown = λ p h part is. absurd cc;
    }

    pub performed_step : e ≢ Swap → IsLedgerStep false core.ledger (λ p. after_performed p e) false later.ledger → later.frames ≡ core.frames
        → later.short ≡ core.short → IsTileStep core (Performs e) later
    performed_step other step frames short = record {
      same = same_core canvas step.clients;
      short = short;
      ample = λ l. absurd (true≢false (sym l));
      rotation = next;
      first = λ p h. (due.ample, other, awaited core p h e due);
      after = λ p h. subst (λ b. IsProgressOf later (progress_after b p (Performs e))) (sym (short ∙ due.ample))
          (ample_after (λ p. after_performed p e) p due.ample (short ∙ due.ample) step h
          (let same = after_other p e other (next_entry core p h e due) in
          λ low. frames ∙ h.frames due.ample (omega (arith, same, low)) ∙ sym same));
      drawn = λ p h ample. same_board canvas step.clients;
      shown = λ p h part is. absurd cc;
    }

  pub shown_step : (part : TilePart) (due : IsDueIn core Swap) → later.canvas ≡ core.canvas → later.next ≡ core.next
      → IsPartOf (layout_of core) (tile_of core) (next_frame core) (board_of core) part
      → IsLedgerStep false core.ledger (λ p. after_performed p Swap) false later.ledger → later.frames ≡ next_frame core
      → later.short ≡ core.short → IsTileStep core (Shows part) later
  shown_step part due canvas next of step frames short = record {
    same = same_core canvas step.clients;
    short = short;
    ample = λ l. absurd (true≢false (sym l));
    rotation = next;
    first = λ p h. (due.ample, awaited core p h Swap due);
    after = λ p h. subst (λ b. IsProgressOf later (progress_after b p (Shows part))) (sym (short ∙ due.ample))
        (ample_after (λ p. after_performed p Swap) p due.ample (short ∙ due.ample) step h
        (let more = after_swap p (next_entry core p h Swap due) in
        λ low. let now : core.frames ≡ shown_frames p = h.frames due.ample (omega (arith, more, low)) in omega (arith, frames, more, now, low)));
    drawn = λ p h ample. same_board canvas step.clients;
    shown = λ p h other is low.
        let now : core.frames ≡ shown_frames p = h.frames due.ample (omega (arith, low)) in
        let number : next_frame core ≡ shown_frames p + 1 = omega (arith, now, low) in
        let one : part ≡ other = cc in
        subst (λ n. IsPartOf (layout_of core) (tile_of core) n (board_of core) other) number
        (subst (IsPartOf (layout_of core) (tile_of core) (next_frame core) (board_of core)) one of);
  }

  -- ---- grants

  module _ (undue : NothingIsDueIn core) (hears : listens_in core ≡ true) (canvas : later.canvas ≡ core.canvas)
      (next : later.next ≡ core.next) (frames : later.frames ≡ core.frames) (short : later.short ≡ core.short) where
    pub learnt_step : (e : Entry) → core.short ≡ false → IsLedgerStep false core.ledger (λ p. after_entry p e) false later.ledger
        → IsTileStep core (Learns (grant.Entry e)) later
    learnt_step e ample step = record {
      same = same_core canvas step.clients;
      short = short;
      ample = λ l. absurd (true≢false (sym l));
      rotation = next;
      first = λ p h. (nothing_due core p h undue, sym (listens_is core p h) ∙ hears);
      after = λ p h. subst (λ b. IsProgressOf later (progress_after b p (Learns (grant.Entry e)))) (sym (short ∙ ample))
          (ample_after (λ p. after_entry p e) p ample (short ∙ ample) step h
          (let heard : listens false p ≡ true = subst (λ b. listens b p ≡ true) ample (sym (listens_is core p h) ∙ hears) in
          let same = after_learnt p e (within (performed_in p.log) (length p.learnt) (not p.no_more) heard) in
          λ low. frames ∙ h.frames ample (omega (arith, same, low)) ∙ sym same));
      drawn = λ p h ample. same_board canvas step.clients;
      shown = λ p h part is. absurd cc;
    }
      where
        within : (m n : ℕ) (b : Bool) → (b && (m == n)) ≡ true → m ≤ n
        within m n true t = let same = eqb-true m n t in omega (arith, same)
        within m n false t = absurd (true≢false (sym t))

    pub no_more_step : clients_of later ≡ clients_of core → ((b : Bool) → IsLedgerStep b core.ledger after_no_more b later.ledger)
        → IsTileStep core (Learns grant.NoMore) later
    no_more_step clients step = record {
      same = same_core canvas clients;
      short = short;
      ample = λ l. absurd (true≢false (sym l));
      rotation = next;
      first = λ p h. (nothing_due core p h undue, sym (listens_is core p h) ∙ hears);
      after = λ p h. subst (IsProgressOf later) (sym (either later.short (after_no_more p))) record {
        ledger = subst (λ b. IsLedgerOf b later.ledger (after_no_more p)) (sym short) ((step core.short).after p h.ledger);
        frames = λ ample low. frames ∙ h.frames (sym short ∙ ample) low;
      };
      drawn = λ p h ample. same_board canvas clients;
      shown = λ p h part is. absurd cc;
    }

  -- ---- parcels

  module _ (client : ℕ) (parcel : Parcel) (next : later.next ≡ client + 1) where
    pub closed_step : MayTakeIn core client → is_end parcel.act ≡ true → later.canvas ≡ core.canvas → later.frames ≡ core.frames
        → later.short ≡ core.short
        → clients_of later ≡ clients_of core → ((b : Bool) → IsLedgerStep b core.ledger (λ p. after_end p client) b later.ledger)
        → IsTileStep core (Takes client parcel Closes) later
    closed_step take end canvas frames short clients step = record {
      same = same_core canvas clients;
      short = short;
      ample = λ l. absurd (true≢false (sym l));
      rotation = next ∙ add-one client;
      first = λ p h. (may_take core p h client take, end);
      after = λ p h. subst (IsProgressOf later) (sym (closes later.short p)) record {
        ledger = subst (λ b. IsLedgerOf b later.ledger (after_end p client)) (sym short) ((step core.short).after p h.ledger);
        frames = λ ample low. frames ∙ h.frames (sym short ∙ ample) low;
      };
      drawn = λ p h ample. let not = not_work (decl_of core) p client parcel (end_no_work parcel.act end) in
          (λ t. absurd (true≢false (sym t ∙ not)), λ f. same_board canvas clients);
      shown = λ p h part is. absurd cc;
    }
      where
        closes : (b : Bool) (p : Progress) → progress_after b p (Takes client parcel Closes) ≡ after_end p client
        closes true p = rw end refl
        closes false p = end_after p client parcel.act parcel.place end

    pub held_step : IsFreeIn core client → is_wait parcel.act ≡ true → later.canvas ≡ core.canvas → later.frames ≡ core.frames
        → later.short ≡ core.short
        → IsLedgerStep false core.ledger (λ p. after_wait p client) false later.ledger → IsTileStep core (Takes client parcel Holds) later
    held_step free wait canvas frames short step = record {
      same = same_core canvas step.clients;
      short = short;
      ample = λ l. absurd (true≢false (sym l));
      rotation = next ∙ add-one client;
      first = λ p h. (may_take core p h client free.take, (free.ample, unheld p h, wait));
      after = λ p h. subst (λ b. IsProgressOf later (progress_after b p (Takes client parcel Holds))) (sym (short ∙ free.ample))
          (subst (IsProgressOf later) (sym (wait_after p client parcel.act parcel.place wait (unheld p h)))
          (ample_after (λ p. after_wait p client) p free.ample (short ∙ free.ample) step h (λ low. frames ∙ h.frames free.ample low)));
      drawn = λ p h ample. let not = not_work (decl_of core) p client parcel (wait_no_work parcel.act wait) in
          (λ t. absurd (true≢false (sym t ∙ not)), λ f. same_board canvas step.clients);
      shown = λ p h part is. absurd cc;
    }
      where
        unheld : (p : Progress) → IsProgressOf core p → p.held client ≡ false
        unheld p h = (whole core p h free.ample).held client ∙ free.free

    pub dropped_step : MayTakeIn core client → (is_short core ≡ true) ⊎ (held_in core.ledger client ≡ true) → is_end parcel.act ≡ false
        → later.canvas ≡ core.canvas → later.frames ≡ core.frames
        → later.short ≡ core.short → later.ledger ≡ core.ledger → IsTileStep core (Takes client parcel Drops) later
    dropped_step take why more canvas frames short ledger = record {
      same = same_core canvas (ap (λ (l : Ledger). l.clients) ledger);
      short = short;
      ample = λ l. absurd (true≢false (sym l));
      rotation = next ∙ add-one client;
      first = λ p h. (may_take core p h client take, (held_so p h core.short refl why, more));
      after = λ p h. subst (IsProgressOf later) (sym (drops p h later.short short)) record {
        ledger = subst (λ b. IsLedgerOf b later.ledger (after_parcel p client)) (sym short)
            (subst (λ l. IsLedgerOf core.short l (after_parcel p client)) (sym ledger) (parcel_ledger core.short core.ledger p client h.ledger));
        frames = λ ample low. frames ∙ h.frames (sym short ∙ ample) low;
      };
      drawn = λ p h ample.
          let not = not_free (decl_of core) p client parcel (holds p h (sym short ∙ ample) why) in
          (λ t. absurd (true≢false (sym t ∙ not)), λ f. same_board canvas (ap (λ (l : Ledger). l.clients) ledger));
      shown = λ p h part is. absurd cc;
    }
      where
        holds : (p : Progress) → IsProgressOf core p → core.short ≡ false → (core.short ≡ true) ⊎ (held_in core.ledger client ≡ true)
            → p.held client ≡ true
        holds p h ample (inl is) = absurd (true≢false (sym is ∙ ample))
        holds p h ample (inr held) = (whole core p h ample).held client ∙ held

        held_so : (p : Progress) → IsProgressOf core p → (b : Bool) → core.short ≡ b → (core.short ≡ true) ⊎ (held_in core.ledger client ≡ true)
            → (core.short ≡ true) ⊎ (p.held client ≡ true)
        held_so p h true is y = inl is
        held_so p h false is y = inr (holds p h is y)

        drops : (p : Progress) → IsProgressOf core p → (b : Bool) → b ≡ core.short → progress_after b p (Takes client parcel Drops) ≡ after_parcel p client
        drops p h true is = rw more refl
        drops p h false is = drop_after p client parcel.act parcel.place more (holds p h (sym is) why)

    -- work

    module _ (free : IsFreeIn core client) (work : is_work parcel.act ≡ true) (tile : IsSameTile core.canvas.drawn later.canvas.drawn) where
      unheld : (p : Progress) → IsProgressOf core p → p.held client ≡ false
      unheld p h = (whole core p h free.ample).held client ∙ free.free

      pub worked_step : IsWorked core client parcel later → later.frames ≡ core.frames → later.short ≡ core.short
          → IsTileStep core (Takes client parcel Works) later
      worked_step done frames short = record {
        same = record { decl = tile.decl; clients = done.ledger.clients; layout = tile.layout; tile = tile.tile };
        short = short;
        ample = λ l. absurd (true≢false (sym l));
        rotation = next ∙ add-one client;
        first = λ p h. (may_take core p h client free.take, (free.ample, unheld p h, work));
        after = λ p h. subst (λ b. IsProgressOf later (progress_after b p (Takes client parcel Works))) (sym (short ∙ free.ample))
            (subst (IsProgressOf later) (sym (work_after p client parcel.act parcel.place work (unheld p h)))
            (ample_after (λ p. after_work p client parcel.place) p free.ample (short ∙ free.ample) done.ledger h
            (let same = after_worked p client parcel.place in λ low. frames ∙ h.frames free.ample (omega (arith, same, low)) ∙ sym same)));
        drawn = λ p h ample.
            let is = drawn_if (decl_of core) p client parcel work (unheld p h) in
            (λ t. done.done (sym is ∙ t), λ f. done.ignored (sym is ∙ f));
        shown = λ p h part is. absurd cc;
      }

    -- a parcel that is lost

    pub lost_step : IsFreeIn core client → is_end parcel.act ≡ false → IsSameTile core.canvas.drawn later.canvas.drawn → IsSameLedger core.ledger later.ledger
        → later.short ≡ true → IsTileStep core (Takes client parcel Loses) later
    lost_step free more tile same short = record {
      same = record { decl = tile.decl; clients = same.clients; layout = tile.layout; tile = tile.tile };
      short = short;
      ample = λ l. free.ample;
      rotation = next ∙ add-one client;
      first = λ p h. (may_take core p h client free.take, (free.ample, (whole core p h free.ample).held client ∙ free.free, more));
      after = λ p h. subst (λ b. IsProgressOf later (progress_after b p (Takes client parcel Loses))) (sym short)
          (subst (IsProgressOf later) (sym (loses p)) record {
            ledger = subst (λ b. IsLedgerOf b later.ledger (after_parcel p client)) (sym short)
                (parcel_ledger true later.ledger p client
                (same_ledger true core.ledger later.ledger p same (short_ledger core.short core.ledger p h.ledger)));
            frames = λ ample. absurd (true≢false (sym short ∙ ample));
          });
      drawn = λ p h ample. absurd (true≢false (sym short ∙ ample));
      shown = λ p h part is. absurd cc;
    }
      where
        loses : (p : Progress) → progress_after true p (Takes client parcel Loses) ≡ after_parcel p client
        loses p = rw more refl

-- ---- the same core, whatever its ghost fields are proved by

module _ (core : TileCore) where
  abbrev pub regiven : core.ledger.clients ≤ 8 → canvas_clients core.canvas.drawn ≡ core.ledger.clients → core.next ≤ core.ledger.clients → TileCore
  regiven few clients turn = record core { few = few; clients = clients; turn = turn }

  pub regiven_is : (few : core.ledger.clients ≤ 8) (clients : canvas_clients core.canvas.drawn ≡ core.ledger.clients) (turn : core.next ≤ core.ledger.clients)
      → regiven few clients turn ≡ core
  regiven_is few clients turn =
      let few_prop : IsProp (core.ledger.clients ≤ 8) = hlevel props in
      let clients_prop : IsProp (canvas_clients core.canvas.drawn ≡ core.ledger.clients) = hlevel props in
      let turn_prop : IsProp (core.next ≤ core.ledger.clients) = hlevel props in
      ap (λ f. regiven f clients turn) (few_prop few core.few) ∙ ap (λ f. regiven core.few f turn) (clients_prop clients core.clients)
      ∙ ap (λ f. regiven core.few core.clients f) (turn_prop turn core.turn)

-- ---- nothing is taken

module _ (core : TileCore) (undue : NothingIsDueIn core) where
  finished_so : IsFinishedIn core → (p : Progress) → IsProgressOf core p → IsFinished core.short p
  finished_so done p h = record {
    no_more = h.ledger.no_more ∙ done.no_more;
    performed = λ ample. sym (over_is core p h ample) ∙ done.performed ample;
    closed = λ client low. h.ledger.closed client ∙ done.closed client (subst (λ n. client < n) h.ledger.count low);
  }

  finished_in : (p : Progress) → IsProgressOf core p → IsFinished core.short p → IsFinishedIn core
  finished_in p h done = record {
    no_more = sym h.ledger.no_more ∙ done.no_more;
    performed = λ ample. over_is core p h ample ∙ done.performed ample;
    closed = λ client low. sym (h.ledger.closed client) ∙ done.closed client (subst (λ n. client < n) (sym h.ledger.count) low);
  }

  unchanged : IsSameCore core core
  unchanged = record { decl = refl; clients = refl; layout = refl; tile = refl }

  pub rested_step : (IsFinishedIn core → ⊥) → IsTileStep core Rests core
  rested_step open_ = record {
    same = unchanged;
    short = refl;
    ample = λ l. absurd (true≢false (sym l));
    rotation = refl;
    first = λ p h. (nothing_due core p h undue, λ done. open_ (finished_in p h done));
    after = λ p h. subst (IsProgressOf core) (sym (either core.short p)) h;
    drawn = λ p h ample. refl;
    shown = λ p h part is. absurd cc;
  }

  pub finished_step : IsFinishedIn core → IsTileStep core Finishes core
  finished_step done = record {
    same = unchanged;
    short = refl;
    ample = λ l. absurd (true≢false (sym l));
    rotation = refl;
    first = λ p h. (nothing_due core p h undue, finished_so done p h);
    after = λ p h. subst (IsProgressOf core) (sym (either core.short p)) h;
    drawn = λ p h ample. refl;
    shown = λ p h part is. absurd cc;
  }

-- ---- what the answer says of memory

lost_short : (client : ℕ) (how : Taking) (before now : Bool) → (is_lost how ≡ true → before ≡ false) → now ≡ cond (is_lost how) true before
    → OnErr (taking_answer client how) ((before ≡ false) × (now ≡ true))
lost_short client Works before now ample short = tt
lost_short client Holds before now ample short = tt
lost_short client Closes before now ample short = tt
lost_short client Drops before now ample short = tt
lost_short client Loses before now ample short = (ample refl, short)

taken_short : (client : ℕ) (how : Taking) (before now : Bool) → now ≡ cond (is_lost how) true before → OnOk (taking_answer client how) (now ≡ before)
taken_short client Works before now short = short
taken_short client Holds before now short = short
taken_short client Closes before now short = short
taken_short client Drops before now short = short
taken_short client Loses before now short = tt

pub err_short : (core later : TileCore) (deed : TileDeed) → IsTileStep core deed later
    → OnErr (answer_of deed) ((is_short core ≡ false) × (is_short later ≡ true))
err_short core later (Performs e) h = tt
err_short core later (Shows part) h = tt
err_short core later Fails h = (h.ample refl, h.short)
err_short core later (Learns g) h = tt
err_short core later (Takes client parcel how) h = lost_short client how (is_short core) (is_short later) h.ample h.short
err_short core later Rests h = tt
err_short core later Finishes h = tt

pub ok_short : (core later : TileCore) (deed : TileDeed) → IsTileStep core deed later → OnOk (answer_of deed) (is_short later ≡ is_short core)
ok_short core later (Performs e) h = h.short
ok_short core later (Shows part) h = h.short
ok_short core later Fails h = tt
ok_short core later (Learns g) h = h.short
ok_short core later (Takes client parcel how) h = taken_short client how (is_short core) (is_short later) h.short
ok_short core later Rests h = h.short
ok_short core later Finishes h = h.short

-- ---- the same view

module _ (core mid : TileCore) (view : IsSameView core mid) where
  -- who stands for so much progress does so still
  pub same_progress : (p : Progress) → IsProgressOf core p → IsProgressOf mid p
  same_progress p h = record {
    ledger = subst (λ b. IsLedgerOf b mid.ledger p) (sym view.short) (subst (λ (l : Ledger). IsLedgerOf core.short l p) (sym view.ledger) h.ledger);
    frames = λ ample low. view.frames ∙ h.frames (sym view.short ∙ ample) low;
  }

  pub due_still : (e : Entry) → IsDueIn core e → IsDueIn mid e
  due_still e d = record {
    ample = view.short ∙ d.ample;
    known = ap (λ (l : Ledger). l.known) view.ledger ∙ d.known;
    held = subst (λ (l : Ledger). HoldsAll l.held l.clients e) (sym view.ledger) d.held;
  }

  -- what a step makes of the one it makes of the other
  pub step_from : (deed : TileDeed) (later : TileCore) → IsTileStep mid deed later → IsTileStep core deed later
  step_from deed later s = record {
    same = record {
      decl = s.same.decl ∙ view.same.decl;
      clients = s.same.clients ∙ view.same.clients;
      layout = s.same.layout ∙ view.same.layout;
      tile = s.same.tile ∙ view.same.tile;
    };
    short = s.short ∙ ap (cond (is_loss deed) true) view.short;
    ample = λ loss. sym view.short ∙ s.ample loss;
    rotation = s.rotation ∙ ap (λ n. next_after n deed) view.rotation;
    first = λ p h. subst (λ b. IsNextDeed b p deed) view.short (s.first p (same_progress p h));
    after = λ p h. s.after p (same_progress p h);
    drawn = λ p h ample.
        subst (λ (d : Decl). IsDrawn d (layout_of core) (tile_of core) p (item_of deed) (board_of core) (board_of later)) view.same.decl
        (subst (λ (l : Layout). IsDrawn (decl_of mid) l (tile_of core) p (item_of deed) (board_of core) (board_of later)) view.same.layout
        (subst (λ (n : ℕ). IsDrawn (decl_of mid) (layout_of mid) n p (item_of deed) (board_of core) (board_of later)) view.same.tile
        (subst (λ (b : Board). IsDrawn (decl_of mid) (layout_of mid) (tile_of mid) p (item_of deed) b (board_of later)) view.board
        (s.drawn p (same_progress p h) ample))));
    shown = λ p h.
        subst (λ (l : Layout). IsShown l (tile_of core) p (board_of core) deed) view.same.layout
        (subst (λ (n : ℕ). IsShown (layout_of mid) n p (board_of core) deed) view.same.tile
        (subst (λ (b : Board). IsShown (layout_of mid) (tile_of mid) p b deed) view.board (s.shown p (same_progress p h))));
  }
