-- A tile that isn't short closes a client by its End alone, and holds none that is closed while an entry may be performed.
use Rattle.std.proofs.Common.{◌≡◌, ℕ, ◌+◌, ◌<◌, ◌==◌, ◌&&◌, ◌||◌, not, Bool, true, false, cond, List, [], ◌∷◌, ◌++◌, length, Some, None, inl, inr, refl, sym, ap, ◌∙◌, subst, arith, eqb-true, ne_eqb, true≢false, append-nil}
use Rattle.std.proofs.Math.Bool.{and-false}
use Rattle.std.proofs.lemmas.Bool.{cases_Bool, and_parts}
use Rattle.std.proofs.lemmas.Option.{slice_get_within}
use Rattle.std.specs.Prelude.{option_to_list, slice_get}
use Rattle.rc_base.specs.Cluster.Parcels.{is_end}
use Rattle.rc_base.specs.Orders.Journal.{is_member}
use Rattle.rc_base.specs.declared.state.Act.{Act}
use Rattle.rc_base.specs.declared.state.Act.TheVariants as act
use Rattle.rc_base.specs.declared.state.Parcel.{Parcel}
use Rattle.rc_base.specs.declared.sync.Entry.{Entry}
use Rattle.rc_base.specs.declared.sync.Grant.TheVariants as grant
use Rattle.order_model.specs.Standing.{Progress, performed_in, is_over, is_asked, is_listening}
use Rattle.order_model.specs.declared.record.LogEntry.TheVariants.{Took}
use Rattle.order_model.proofs.JournalsInTurn.{took_more}
use Rattle.plain_lemmas.proofs.Lists.{all_append}
use Rattle.tile_model.specs.Items.{after_item, after_act, with_at}
use Rattle.tile_model.specs.Items.Item.{Due}
use Rattle.tile_model.proofs.ItemsComeFromLanes.{listens}
use Rattle.tile_server.specs.Deeds.{item_of, taken_of, IsNextDeed}
use Rattle.tile_server.specs.declared.deed.TileDeed.{TileDeed}
use Rattle.tile_server.specs.declared.deed.TileDeed.TheVariants.{Performs, Shows, Fails, Learns, Takes, Rests, Finishes}
use Rattle.shown_frames.specs.Shown.{AreOpen, ClosesByEnds}

-- ---- whether anything will be performed any more

-- where an entry is due, one will
pub due_not_over : (p : Progress) (e : Entry) → slice_get p.learnt (performed_in p.log) ≡ Some e → is_over p ≡ false
due_not_over p e is =
    let within = slice_get_within p.learnt (performed_in p.log) e is in
    let less : (performed_in p.log == length p.learnt) ≡ false = ne_eqb (performed_in p.log) (length p.learnt) (λ same. (omega (arith, same, within))) in
    ap (λ b. p.no_more && b) less ∙ and-false p.no_more

listening_not_over : (p : Progress) → is_listening p ≡ true → is_over p ≡ false
listening_not_over p h = ap (λ b. b && (performed_in p.log == length p.learnt)) (listens p h).0

-- ---- the client of which a parcel is taken

-- it isn't closed, and it is held only where nothing will be performed
record IsTakenFrom (p : Progress) (client : ℕ) : Type 0 where
  pub unended : p.closed client ≡ false
  pub unheld : is_over p ≡ false → p.held client ≡ false

negated : (b : Bool) → not b ≡ true → b ≡ false
negated true e = absurd (true≢false (sym e))
negated false e = refl

unless_over : (held over : Bool) → (not held || over) ≡ true → over ≡ false → held ≡ false
unless_over true over e f = absurd (true≢false (sym e ∙ f))
unless_over false over e f = refl

taken_from : (p : Progress) (client : ℕ) → is_asked p client ≡ true → IsTakenFrom p client
taken_from p client h =
    let b = and_parts (not (p.closed client)) (not (p.held client) || is_over p) h in
    record { unended = negated (p.closed client) b.0; unheld = unless_over (p.held client) (is_over p) b.1 }

-- ---- what is taken

module _ (n : ℕ) (p : Progress) (took : ℕ → List Parcel) (h : ClosesByEnds n p took) where
  -- progress that takes nothing
  took_nothing : (q : Progress) (took' : ℕ → List Parcel) → ((c : ℕ) → c < n → took' c ≡ took c ++ []) → q.closed ≡ p.closed
      → ((c : ℕ) → c < n → p.closed c ≡ true → is_over q ≡ false → q.held c ≡ false) → ClosesByEnds n q took'
  took_nothing q took' same closed unheld = record {
    unended = λ c lt not_closed. subst AreOpen (sym (same c lt ∙ append-nil (took c))) (h.unended c lt (sym (ap (λ f. f c) closed) ∙ not_closed));
    unheld = λ c lt is. unheld c lt (sym (ap (λ f. f c) closed) ∙ is);
  }

  module _ (client : ℕ) (parcel : Parcel) (from : IsTakenFrom p client) (took' : ℕ → List Parcel)
      (same : (c : ℕ) → c < n → took' c ≡ took c ++ option_to_list (cond (c == client) (Some parcel) None)) where
    -- a parcel that isn't an End, whether it holds its client or not
    took_command : (q : Progress) → is_end parcel.act ≡ false → q.closed ≡ p.closed → is_over q ≡ is_over p
        → ((c : ℕ) → p.closed c ≡ true → p.held c ≡ false → q.held c ≡ false) → ClosesByEnds n q took'
    took_command q command closed over held = record {
      unended = λ c lt not_closed. (
          let before = h.unended c lt (sym (ap (λ f. f c) closed) ∙ not_closed) in
          subst AreOpen (sym (same c lt)) (all_append (λ (x : Parcel). is_end x.act ≡ false) (took c) _ before (one (c == client))));
      unheld = λ c lt is not_over. (
          let was = sym (ap (λ f. f c) closed) ∙ is in
          held c was (h.unheld c lt was (sym over ∙ not_over)));
    }
      where
        one : (b : Bool) → AreOpen (option_to_list (cond b (Some parcel) None))
        one true = (command, tt)
        one false = tt

    -- an End
    took_end : (q : Progress) → q.closed ≡ with_at p.closed client true → q.held ≡ p.held → is_over q ≡ is_over p → ClosesByEnds n q took'
    took_end q closed held over = record {
      unended = λ c lt not_closed. elim (cases_Bool (c == client)) [
        | inl t ↦ absurd (let z : q.closed c ≡ true = ap (λ f. f c) closed ∙ ap (λ b. cond b true (p.closed c)) t in true≢false (sym z ∙ not_closed))
        | inr f ↦
            let z : q.closed c ≡ p.closed c = ap (λ g. g c) closed ∙ ap (λ b. cond b true (p.closed c)) f in
            subst AreOpen (sym (same c lt ∙ ap (λ b. took c ++ option_to_list (cond b (Some parcel) None)) f ∙ append-nil (took c))) (h.unended c lt (sym z ∙ not_closed))
      ];
      unheld = λ c lt is not_over. elim (cases_Bool (c == client)) [
        | inl t ↦ ap (λ f. f c) held ∙ subst (λ k. p.held k ≡ false) (sym (eqb-true c client t)) (from.unheld (sym over ∙ not_over))
        | inr f ↦
            let z : q.closed c ≡ p.closed c = ap (λ g. g c) closed ∙ ap (λ b. cond b true (p.closed c)) f in
            ap (λ g. g c) held ∙ h.unheld c lt (sym z ∙ is) (sym over ∙ not_over)
      ];
    }

    -- work is carried out, or dropped
    took_work : (place : ℕ) (held : Bool) → p.held client ≡ held → (what : Act) → is_end parcel.act ≡ false
        → (after_act p client what place ≡ cond held (record p { taken = with_at p.taken client (p.taken client + 1) }) (record (record p { taken = with_at p.taken client (p.taken client + 1) }) { log = p.log ++ Took client place ∷ [] }))
        → ClosesByEnds n (after_act p client what place) took'
    took_work place true is what command e = subst (λ q. ClosesByEnds n q took') (sym e) (took_command _ command refl refl (λ c was none. none))
    took_work place false is what command e = subst (λ q. ClosesByEnds n q took') (sym e) (took_command _ command refl (ap (λ k. p.no_more && (k == length p.learnt)) (took_more p.log client place)) (λ c was none. none))

    -- an operation holds its client, or is dropped
    took_wait : (held : Bool) → p.held client ≡ held → is_end parcel.act ≡ false → (q : Progress)
        → (q ≡ cond held (record p { taken = with_at p.taken client (p.taken client + 1) }) (record (record p { taken = with_at p.taken client (p.taken client + 1) }) { held = with_at p.held client true }))
        → ClosesByEnds n q took'
    took_wait true is command q e = subst (λ x. ClosesByEnds n x took') (sym e) (took_command _ command refl refl (λ c was none. none))
    took_wait false is command q e = subst (λ x. ClosesByEnds n x took') (sym e) (took_command _ command refl refl (λ c was none. elim (cases_Bool (c == client)) [
      | inl t ↦ absurd (true≢false (sym was ∙ ap p.closed (eqb-true c client t) ∙ from.unended))
      | inr f ↦ ap (λ b. cond b true (p.held c)) f ∙ none
    ]))

    took_act : (place : ℕ) (what : Act) → parcel.act ≡ what → ClosesByEnds n (after_act p client what place) took'
    took_act place (act.Draw block) e = took_work place (p.held client) refl (act.Draw block) (ap is_end e) refl
    took_act place (act.Clear mask) e = took_work place (p.held client) refl (act.Clear mask) (ap is_end e) refl
    took_act place (act.Shared part) e = took_work place (p.held client) refl (act.Shared part) (ap is_end e) refl
    took_act place (act.Sync op) e = took_wait (p.held client) refl (ap is_end e) _ refl
    took_act place act.End e = took_end _ refl refl refl

  -- ---- a deed

  -- members are held no more
  freed : (b held : Bool) → held ≡ false → cond b false held ≡ false
  freed true held e = refl
  freed false held e = e

  took_due : (e : Entry) (took' : ℕ → List Parcel) → ((c : ℕ) → c < n → took' c ≡ took c ++ []) → slice_get p.learnt (performed_in p.log) ≡ Some e
      → ClosesByEnds n (after_item p (Due e)) took'
  took_due e took' same due =
      took_nothing (after_item p (Due e)) took' same refl (λ c lt was over. freed (is_member p.count e c) (p.held c) (h.unheld c lt was (due_not_over p e due)))

  pub deeds_close : (deed : TileDeed) (took' : ℕ → List Parcel) → IsNextDeed false p deed
      → ((c : ℕ) → c < n → took' c ≡ took c ++ option_to_list (taken_of deed c)) → ClosesByEnds n (after_item p (item_of deed)) took'
  deeds_close (Performs e) took' next same = took_due e took' same next.2.0
  deeds_close (Shows part) took' next same = took_due _ took' same next.1.0
  deeds_close Fails took' next same = took_nothing p took' same refl h.unheld
  deeds_close (Learns (grant.Entry e)) took' next same = took_nothing _ took' same refl (λ c lt was over. h.unheld c lt was (listening_not_over p next.1))
  deeds_close (Learns grant.NoMore) took' next same = took_nothing _ took' same refl (λ c lt was over. h.unheld c lt was (listening_not_over p next.1))
  deeds_close (Takes client parcel how) took' next same = took_act client parcel (taken_from p client next.0.asked) took' same parcel.place parcel.act refl
  deeds_close Rests took' next same = took_nothing p took' same refl h.unheld
  deeds_close Finishes took' next same = took_nothing p took' same refl h.unheld
