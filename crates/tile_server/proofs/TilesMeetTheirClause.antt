-- A tile's core meets its clause at first and after each step; and what follows where it has ended.
use Rattle.std.proofs.Common.{◌≡◌, ◌≢◌, ℕ, ◌+◌, ◌<◌, ◌≤◌, ◌==◌, true, false, cond, List, [], ◌∷◌, ◌++◌, length, map, take, pos, Option, Some, None, Ok, inl, inr, refl, sym, ap, ◌∙◌, subst, arith, append_assoc, append-nil, length-append, eq-eqb, true≢false}
use Rattle.std.proofs.lemmas.List.{take-append-le}
use Rattle.std.proofs.lemmas.Option.{slice_get_within}
use Rattle.std.specs.Prelude.{◌^◌, slice_get, slice_index_or, option_to_list, MatchOption}
use Rattle.rc_base.specs.Lists.{IsFront}
use Rattle.rc_base.specs.Cluster.Lanes.{Follows}
use Rattle.rc_base.specs.Cluster.Parcels.{parcels_of}
use Rattle.rc_base.specs.Drawing.Serial.{frame_pixel}
use Rattle.rc_base.specs.Orders.Journal.{IsLegal}
use Rattle.rc_base.specs.Orders.Sync.{sync_lists_of}
use Rattle.rc_base.specs.declared.cluster.TileMoved.TheVariants as moved
use Rattle.rc_base.specs.declared.cluster.TilePart.{TilePart}
use Rattle.rc_base.specs.declared.scene.Scene.{Scene}
use Rattle.rc_base.specs.declared.state.Parcel.{Parcel}
use Rattle.rc_base.specs.declared.sync.Entry.{Entry}
use Rattle.rc_base.specs.declared.sync.Entry.TheVariants.{Swap}
use Rattle.rc_base.specs.declared.sync.Grant.{Grant}
use Rattle.rc_base.specs.declared.sync.Grant.TheVariants as grant
use Rattle.rc_base.specs.declared.sync.Name.{Name}
use Rattle.rc_base.specs.declared.window.Layout.{Layout}
use Rattle.order_model.specs.Board.{Board, StandsFor}
use Rattle.order_model.specs.Gathering.{all_grants}
use Rattle.order_model.specs.Log.{Replays, recorded_order}
use Rattle.order_model.specs.Report.{frame_count}
use Rattle.order_model.specs.Sent.{jobs_of}
use Rattle.order_model.specs.Standing.{Progress, new_progress, performed_in, is_listening, IsUnderWay}
use Rattle.order_model.specs.declared.record.LogEntry.{LogEntry}
use Rattle.order_model.specs.declared.record.LogEntry.TheVariants.{Performed}
use Rattle.tile_model.specs.Items.{after_item, shown_frames, grants_heard, parcel_taken, grant_taken, IsAwaited, IsItemOf}
use Rattle.tile_model.specs.Items.Item.{Due, Sent}
use Rattle.tile_model.specs.Short.{IsFinished}
use Rattle.tile_model.specs.Laws.{added_names, SwappedFramesStay, SwapsShowAddedNames}
use Rattle.tile_model.proofs.ItemsComeFromLanes.{listens, heard_open, heard_after, next_sent, all_heard, taken_after}
use Rattle.tile_model.proofs.ShownFrames.{ShowsNothing, not_shown, one_shown, act_shows, learns_shows, get_push}
use Rattle.order_model.proofs.JournalsInTurn.{not_swap}
use Rattle.plain_lemmas.proofs.Booleans.{false_behind}
use Rattle.tile_server.specs.Boards.{IsPartOf}
use Rattle.tile_server.specs.Clauses.{shown_in, AreTileFrames, TileFramesStay, NewTilesMeetTheirClause, TileStepsKeepTheClause, TileStepsOverLanesKeepTheClause, EndedTilesAreDone, SameViewsKeepTheClause}
use Rattle.tile_server.specs.Cores.{board_of, is_short, layout_of, tile_of, IsProgressOf, IsSameView, IsShown}
use Rattle.tile_server.specs.Deeds.{answer_of, granted_of, taken_of, taking_answer, item_of, is_loss, progress_after, IsNextDeed}
use Rattle.tile_server.specs.Laws.{NewCoresStand, StepsKeepStanding, IsTileOf, IsFramePart}
use Rattle.tile_server.specs.declared.deed.Taking.{Taking}
use Rattle.tile_server.specs.declared.deed.Taking.TheVariants.{Works, Holds, Closes, Drops, Loses}
use Rattle.tile_server.specs.declared.deed.TileDeed.{TileDeed}
use Rattle.tile_server.specs.declared.deed.TileDeed.TheVariants.{Performs, Shows, Fails, Learns, Takes, Rests, Finishes}
use Rattle.tile_server.specs.declared.tile_core.TileCore.{TileCore}
use Rattle.tile_server.proofs.TileSteps.{same_progress}
use Rattle.tile_server.proofs.CoresStand.{awaited, over_performed}

-- ---- fronts

less_front : {A : Type 0} (xs ys zs : List A) → IsFront (xs ++ ys) zs → IsFront xs zs
less_front xs ys zs h = (ys ++ h.0, h.1 ∙ append_assoc xs ys h.0)

-- the element behind a front
behind : {A : Type 0} (xs : List A) (x : A) (zs : List A) → IsFront (xs ++ x ∷ []) zs → slice_get zs (length xs) ≡ Some x
behind xs x zs h = subst (λ vs. slice_get vs (length xs) ≡ Some x) (sym (h.1 ∙ append_assoc xs (x ∷ []) h.0)) (at xs h.0)
  where
    at : (us vs : List _) → slice_get (us ++ x ∷ vs) (length us) ≡ Some x
    at [] vs = refl
    at (u ∷ us) vs = at us vs

-- ---- what a deed takes is what its item takes

pub same_taken : (deed : TileDeed) (i : ℕ) → taken_of deed i ≡ parcel_taken (item_of deed) i
same_taken (Performs e) i = refl
same_taken (Shows part) i = refl
same_taken Fails i = refl
same_taken (Learns (grant.Entry e)) i = refl
same_taken (Learns grant.NoMore) i = refl
same_taken (Takes client parcel how) i = refl
same_taken Rests i = refl
same_taken Finishes i = refl

pub same_granted : (deed : TileDeed) → granted_of deed ≡ grant_taken (item_of deed)
same_granted (Performs e) = refl
same_granted (Shows part) = refl
same_granted Fails = refl
same_granted (Learns (grant.Entry e)) = refl
same_granted (Learns grant.NoMore) = refl
same_granted (Takes client parcel how) = refl
same_granted Rests = refl
same_granted Finishes = refl

-- a taking shows no part, and doesn't end the tile
no_part : (client : ℕ) (how : Taking) → shown_in (taking_answer client how) ≡ []
no_part client Works = refl
no_part client Holds = refl
no_part client Closes = refl
no_part client Drops = refl
no_part client Loses = refl

no_end : (client : ℕ) (how : Taking) → taking_answer client how ≢ Ok moved.Ended
no_end client Works is = absurd cc
no_end client Holds is = absurd cc
no_end client Closes is = absurd cc
no_end client Drops is = absurd cc
no_end client Loses is = absurd cc

-- only where nothing is left to do the step says so
finished : (deed : TileDeed) → answer_of deed ≡ Ok moved.Ended → deed ≡ Finishes
finished (Performs e) is = absurd cc
finished (Shows part) is = absurd cc
finished Fails is = absurd cc
finished (Learns g) is = absurd cc
finished (Takes client parcel how) is = absurd (no_end client how is)
finished Rests is = absurd cc
finished Finishes is = refl

-- ---- where the lists are fronts, the item is the scene's and the journal's

module _ (scene : Scene) (l : Layout) (tile : ℕ) (journal : List Entry) (p : Progress) (took took' : ℕ → List Parcel) (heard heard' : List Grant) where
  sent_fits : (client : ℕ) (parcel : Parcel) → p.taken client ≡ length (took client) → IsFront (took client ++ option_to_list (cond (client == client) (Some parcel) None)) (parcels_of scene l client tile)
      → slice_get (parcels_of scene l client tile) (p.taken client) ≡ Some parcel
  sent_fits client parcel count front =
      let self : (client == client) ≡ true = eq-eqb client client refl in
      let here : IsFront (took client ++ parcel ∷ []) (parcels_of scene l client tile) =
      subst (λ b. IsFront (took client ++ option_to_list (cond b (Some parcel) None)) (parcels_of scene l client tile)) self front in
      ap (λ n. slice_get (parcels_of scene l client tile) n) count ∙ behind (took client) parcel (parcels_of scene l client tile) here

  entry_fits : (e : Entry) → is_listening p ≡ true → heard ≡ grants_heard p → IsFront (heard ++ grant.Entry e ∷ []) (all_grants journal) → slice_get journal (length p.learnt) ≡ Some e
  entry_fits e listening is front =
      next_sent journal p.learnt true e front.0
      (front.1 ∙ append_assoc heard (grant.Entry e ∷ []) front.0 ∙ ap (λ gs. gs ++ grant.Entry e ∷ front.0) (is ∙ heard_open p listening))

  fits : (deed : TileDeed) → IsAwaited p (item_of deed) → ((client : ℕ) → client < p.count → p.taken client ≡ length (took client)) → heard ≡ grants_heard p
      → ((client : ℕ) → client < p.count → IsFront (took client ++ option_to_list (taken_of deed client)) (parcels_of scene l client tile))
      → IsFront (heard ++ option_to_list (granted_of deed)) (all_grants journal) → IsItemOf scene l tile journal p (item_of deed)
  fits (Performs e) a count is fronts front = tt
  fits (Shows part) a count is fronts front = tt
  fits Fails a count is fronts front = tt
  fits (Learns (grant.Entry e)) a count is fronts front = entry_fits e a is front
  fits (Learns grant.NoMore) a count is fronts front = tt
  fits (Takes client parcel how) a count is fronts front = sent_fits client parcel (count client a.0) (fronts client a.0)
  fits Rests a count is fronts front = tt
  fits Finishes a count is fronts front = tt

-- ---- the parts

nothing_shown : (p q : Progress) → q ≡ p → ShowsNothing p q
nothing_shown p q e = record {
  more = [];
  log = ap (λ (x : Progress). x.log) e ∙ sym (append-nil p.log);
  frames = ap shown_frames e;
}

-- the same part of another order, whose frame is the same
of_order : (scene : Scene) (l : Layout) (order order' : List Name) (tile frame : ℕ) (part : TilePart)
    → ((x y : ℕ) → frame_pixel scene order' frame (pos x) (pos y) ≡ frame_pixel scene order frame (pos x) (pos y))
    → IsFramePart scene l order tile frame part → IsFramePart scene l order' tile frame part
of_order scene l order order' tile frame part same h = record {
  tile = h.tile;
  frame = h.frame;
  count = h.count;
  pixel = λ x y has. h.pixel x y has ∙ ap (λ q. Some q) (sym (same x y));
}

module _ (stay : SwappedFramesStay) where
  pub frames_stay : TileFramesStay
  frames_stay scene l tile journal p parts more legal under h replays k part is low =
      let syncs = sync_lists_of scene in
      let swapped : frame_count (take (performed_in p.log) journal) ≡ shown_frames p =
      ap (λ es. frame_count (take (performed_in p.log) es)) under.learnt.1
      ∙ ap frame_count (take-append-le (performed_in p.log) p.learnt under.learnt.0 under.performed) in
      let within = slice_get_within parts k part is in
      let enough : k + 1 ≤ frame_count (take (performed_in p.log) journal) = (let n = h.count in omega (arith, n, within, swapped)) in
      let same = λ (x y : ℕ). stay scene l tile journal p.log more (k + 1) x y legal replays enough in
      let here = h.each k part is low in (
        of_order scene l (added_names syncs journal p.log) (added_names syncs journal (p.log ++ more)) tile (k + 1) part (λ x y. (same x y).0) here,
        of_order scene l (added_names syncs journal p.log) (recorded_order syncs journal (p.log ++ more)) tile (k + 1) part (λ x y. (same x y).1) here,
      )

module _ (stay : SwappedFramesStay) (scene : Scene) (l : Layout) (tile : ℕ) (journal : List Entry) (p : Progress) (parts : List TilePart)
    (legal : IsLegal (sync_lists_of scene) journal) (under : IsUnderWay (sync_lists_of scene) journal (λ client. jobs_of scene l client tile) p)
    (h : AreTileFrames scene l tile journal p parts) where
  abbrev IsReplayed : List LogEntry → Type 0
  IsReplayed log = Replays (sync_lists_of scene) journal (λ client. jobs_of scene l client tile) log

  abbrev IsPartNow : List LogEntry → ℕ → TilePart → Type 0
  IsPartNow log frame part = IsFramePart scene l (added_names (sync_lists_of scene) journal log) tile frame part

  parts_stay : (q : Progress) → ShowsNothing p q → IsReplayed q.log → AreTileFrames scene l tile journal q (parts ++ [])
  parts_stay q s replays = subst (λ (xs : List TilePart). AreTileFrames scene l tile journal q xs) (sym (append-nil parts)) record {
    count = h.count ∙ sym s.frames;
    each = λ k part is low.
        subst (λ log. IsPartNow log (k + 1) part) (sym s.log)
        (frames_stay stay scene l tile journal p parts s.more legal under h (subst IsReplayed s.log replays) k part is low).0;
  }

  -- a part that a Swap shows is the next frame
  part_shown : (part : TilePart) → slice_get p.learnt (performed_in p.log) ≡ Some Swap → IsReplayed (p.log ++ Performed ∷ [])
      → (shown_frames p + 1 < 2 ^ 32 → IsPartNow (p.log ++ Performed ∷ []) (shown_frames p + 1) part)
      → AreTileFrames scene l tile journal (after_item p (Due Swap)) (parts ++ part ∷ [])
  part_shown new known replays frame = record {
    count = let n = one_shown p known in let a = length-append parts (new ∷ []) in let c = h.count in omega (arith, n, a, c);
    each = λ k part is low. elim (get_push parts new k part is) [
      | inl old ↦ (frames_stay stay scene l tile journal p parts (Performed ∷ []) legal under h replays k part old low).0
      | inr last ↦
          let number : shown_frames p ≡ k = sym h.count ∙ sym last.0 in
          subst (λ n. IsPartNow (p.log ++ Performed ∷ []) (n + 1) part) number
          (subst (λ x. IsPartNow (p.log ++ Performed ∷ []) (shown_frames p + 1) x) (sym last.1)
          (frame (subst (λ n. n + 1 < 2 ^ 32) (sym number) low)))
    ];
  }

  module _ (shows : SwapsShowAddedNames) (core later : TileCore) (stands : IsTileOf scene l tile journal core p) where
    frame_of : (part : TilePart) → IsShown (layout_of core) (tile_of core) p (board_of core) (Shows part) → IsAwaited p (Due Swap)
        → IsReplayed (p.log ++ Performed ∷ []) → shown_frames p + 1 < 2 ^ 32 → IsPartNow (p.log ++ Performed ∷ []) (shown_frames p + 1) part
    frame_of part shown a replays low =
        let of : IsPartOf l tile (shown_frames p + 1) (board_of core) part =
        subst (λ n. IsPartOf l n (shown_frames p + 1) (board_of core) part) stands.tile
        (subst (λ x. IsPartOf x (tile_of core) (shown_frames p + 1) (board_of core) part) stands.layout (shown part refl low)) in
        record {
          tile = of.tile;
          frame = of.frame;
          count = of.count;
          pixel = λ x y has. of.pixel x y has ∙ ap (λ q. Some q) (shows scene l tile journal p (board_of core) [] legal stands.stands a replays x y has);
        }

    parts_go_on : (deed : TileDeed) → IsNextDeed false p deed → IsShown (layout_of core) (tile_of core) p (board_of core) deed
        → IsReplayed (after_item p (item_of deed)).log → AreTileFrames scene l tile journal (after_item p (item_of deed)) (parts ++ shown_in (answer_of deed))
    parts_go_on (Performs e) next shown = parts_stay (after_item p (Due e)) (not_shown p e next.2.0 (not_swap e next.1))
    parts_go_on (Shows part) next shown = λ replays. part_shown part next.1.0 replays (frame_of part shown next.1 replays)
    parts_go_on Fails next shown = parts_stay p (nothing_shown p p refl)
    parts_go_on (Learns (grant.Entry e)) next shown = parts_stay (after_item p (item_of (Learns (grant.Entry e)))) (learns_shows p e (let same = (listens p next.1).1 in omega (arith, same)))
    parts_go_on (Learns grant.NoMore) next shown = parts_stay (after_item p (item_of (Learns grant.NoMore))) record { more = []; log = sym (append-nil p.log); frames = refl }
    parts_go_on (Takes client parcel how) next shown = λ replays.
        subst (λ (xs : List TilePart). AreTileFrames scene l tile journal (after_item p (Sent client parcel)) (parts ++ xs)) (sym (no_part client how))
        (parts_stay (after_item p (Sent client parcel)) (act_shows p client parcel.act parcel.place) replays)
    parts_go_on Rests next shown = parts_stay p (nothing_shown p p refl)
    parts_go_on Finishes next shown = parts_stay p (nothing_shown p p refl)

-- ---- at first

no_parts : (scene : Scene) (l : Layout) (tile : ℕ) (journal : List Entry) (p : Progress) (parts : List TilePart)
    → shown_frames p ≡ 0 → parts ≡ [] → AreTileFrames scene l tile journal p parts
no_parts scene l tile journal p parts none e = record {
  count = ap length e ∙ sym none;
  each = λ k part is low. absurd (let z : slice_get [] k ≡ Some part = ap (λ (xs : List TilePart). slice_get xs k) (sym e) ∙ is in cc);
}

pub new_clause : NewCoresStand → NewTilesMeetTheirClause
new_clause stand scene l tile core took heard parts decl layout number clients progress board untaken unheard unshown =
    let n = length scene.streams in
    record {
      decl = decl;
      layout = layout;
      tile = number;
      clients = clients;
      whole = λ ample. (
        new_progress n,
        record {
          progress = progress;
          taken = λ c lt. sym (ap length (untaken c lt));
          heard_is = unheard;
          right = λ range sides journal legal fronts front. record {
            stands = stand scene l tile journal core decl layout number ample progress board;
            frames = no_parts scene l tile journal (new_progress n) parts refl unshown;
          };
          over = λ e. absurd (true≢false (sym e));
        },
      );
    }

-- ---- a step

pub step_clause : StepsKeepStanding → SwapsShowAddedNames → SwappedFramesStay → TileStepsKeepTheClause
step_clause keep shows stay scene l tile core deed later took took' heard heard' parts parts' ended ended' h step taken heard_now shown said = record {
  decl = step.same.decl ∙ h.decl;
  layout = step.same.layout ∙ h.layout;
  tile = step.same.tile ∙ h.tile;
  clients = step.same.clients ∙ h.clients;
  whole = λ ample.
      let before : is_short core ≡ false = false_behind (is_loss deed) (is_short core) (sym step.short ∙ ample) in
      let p = (h.whole before).0 in
      let k = (h.whole before).1 in
      let next : IsNextDeed false p deed = subst (λ b. IsNextDeed b p deed) before (step.first p k.progress) in
      let a = awaited p deed next in
      let item = item_of deed in
      let n = length scene.streams in
      let count : p.count ≡ n = k.progress.ledger.count ∙ h.clients in (
        after_item p item,
        record {
          progress = subst (λ b. IsProgressOf later (progress_after b p deed)) ample (step.after p k.progress);
          taken = λ c lt.
              taken_after p item c ∙ ap (λ o. p.taken c + length (option_to_list o)) (sym (same_taken deed c))
              ∙ ap (λ m. m + length (option_to_list (taken_of deed c))) (k.taken c lt)
              ∙ sym (length-append (took c) (option_to_list (taken_of deed c))) ∙ sym (ap length (taken c lt));
          heard_is =
              heard_now ∙ ap (λ gs. gs ++ option_to_list (granted_of deed)) k.heard_is
              ∙ ap (λ o. grants_heard p ++ option_to_list o) (same_granted deed) ∙ sym (heard_after p item a);
          right = λ range sides journal legal fronts front.
              let grown : (c : ℕ) → c < n → IsFront (took c ++ option_to_list (taken_of deed c)) (parcels_of scene l c tile) =
              λ c lt. subst (λ (xs : List Parcel). IsFront xs (parcels_of scene l c tile)) (taken c lt) (fronts c lt) in
              let grown_heard : IsFront (heard ++ option_to_list (granted_of deed)) (all_grants journal) = subst (λ (gs : List Grant). IsFront gs (all_grants journal)) heard_now front in
              let was = k.right range sides journal legal
              (λ c lt. less_front (took c) (option_to_list (taken_of deed c)) (parcels_of scene l c tile) (grown c lt))
              (less_front heard (option_to_list (granted_of deed)) (all_grants journal) grown_heard) in
              let of : IsItemOf scene l tile journal p item = fits scene l tile journal p took took' heard heard' deed a
              (λ c lt. k.taken c (subst (λ m. c < m) count lt)) k.heard_is (λ c lt. grown c (subst (λ m. c < m) count lt)) grown_heard in
              let now = keep scene l tile journal core p deed later range sides legal was.stands step ample of in
              record {
                stands = now;
                frames = subst (λ (xs : List TilePart). AreTileFrames scene l tile journal (after_item p item) xs) (sym shown)
                    (parts_go_on stay scene l tile journal p parts legal was.stands.stands.progress was.frames shows core later was.stands deed next
                    (step.shown p k.progress) now.stands.progress.replays);
              };
          over = λ e. ends p deed (finished deed (said e)) next;
        },
      );
}
  where
    ends : (p : Progress) (done : TileDeed) → done ≡ Finishes → IsNextDeed false p done → IsFinished false (after_item p (item_of done))
    ends p done is next = subst (λ x. IsFinished false (after_item p (item_of x))) (sym is) ((subst (λ x. IsNextDeed false p x) is next).1)

pub lanes_clause : TileStepsKeepTheClause → {I J : Type 0} (gave : I → Parcel → I → Type 0) (same : I → I → Type 0) (gave_grant : J → Grant → J → Type 0) (same_grant : J → J → Type 0)
    → TileStepsOverLanesKeepTheClause gave same gave_grant same_grant
lanes_clause steps {I} {J} gave same gave_grant same_grant taken heard follows follows_grants scene l tile d deed before after h s =
    steps scene l tile before.core deed after.core (λ client. taken (slice_index_or before.clients client d)) (λ client. taken (slice_index_or after.clients client d))
    (heard before.grants) (heard after.grants) before.parts after.parts before.ended after.ended h s.step
    (λ c lt. grown gave same taken follows (taken_of deed c) (slice_index_or before.clients c d) (slice_index_or after.clients c d)
    (s.took.at c d (let e = h.clients in let n = s.count in omega (arith, n, lt, e))))
    (grown gave_grant same_grant heard follows_grants (granted_of deed) before.grants after.grants s.learnt) s.showed s.ends
  where
    -- what a lane gave, where it gave anything
    grown : {L X : Type 0} (gave : L → X → L → Type 0) (same : L → L → Type 0) (given : L → List X) → Follows gave same given
        → (o : Option X) (a b : L) → MatchOption o (same a b) (λ x. gave a x b) → given b ≡ given a ++ option_to_list o
    grown gave same given f None a b m = f.stays a b m ∙ sym (append-nil (given a))
    grown gave same given f (Some x) a b m = f.grows a b x m

-- ---- the end

pub ended_done : EndedTilesAreDone
ended_done scene l tile core took heard parts journal range sides h ample legal fronts front =
    let p = (h.whole ample).0 in
    let k = (h.whole ample).1 in
    let end = k.over refl in
    let r = k.right range sides journal legal fronts front in
    let told : map (λ e. grant.Entry e) journal ++ grant.NoMore ∷ [] ≡ map (λ e. grant.Entry e) p.learnt ++ grant.NoMore ∷ front.0 =
    front.1 ∙ ap (λ gs. gs ++ front.0) k.heard_is
    ∙ ap (λ b. (map (λ e. grant.Entry e) p.learnt ++ cond b (grant.NoMore ∷ []) []) ++ front.0) end.no_more
    ∙ append_assoc (map (λ e. grant.Entry e) p.learnt) (grant.NoMore ∷ []) front.0 in
    record {
      progress = p;
      right = r;
      done = record {
        learnt = (all_heard journal p.learnt true front.0 told).0;
        performed = over_performed (performed_in p.log) (length p.learnt) p.no_more (end.performed refl);
        closed = λ c low. end.closed c (subst (λ n. c < n) (sym r.stands.stands.progress.count) low);
      };
    }

-- ---- the same view

pub view_progress : (core later : TileCore) → IsSameView core later → (p : Progress) → IsProgressOf core p → IsProgressOf later p
view_progress = same_progress

pub view_clause : SameViewsKeepTheClause
view_clause scene l tile core later took heard parts ended c view = record {
  decl = view.same.decl ∙ c.decl;
  layout = view.same.layout ∙ c.layout;
  tile = view.same.tile ∙ c.tile;
  clients = view.same.clients ∙ c.clients;
  whole = λ ample. let (p, at) = c.whole (sym view.short ∙ ample) in (
    p,
    record {
      progress = same_progress core later view p at.progress;
      taken = at.taken;
      heard_is = at.heard_is;
      right = λ range sides journal legal fronts front.
          let r = at.right range sides journal legal fronts front in
          record {
            stands = record {
              decl = view.same.decl ∙ r.stands.decl;
              layout = view.same.layout ∙ r.stands.layout;
              tile = view.same.tile ∙ r.stands.tile;
              ample = view.short ∙ r.stands.ample;
              progress = same_progress core later view p r.stands.progress;
              stands = subst (λ (b : Board). StandsFor scene l tile journal p b) (sym view.board) r.stands.stands;
            };
            frames = r.frames;
          };
      over = at.over;
    },
  );
}
