-- Each turn that isn't at rest leaves less to do.
use Rattle.std.proofs.Common.{◌≡◌, ◌≢◌, ◌⊎◌, ℕ, zero, suc, ◌+◌, ◌-◌, ◌==◌, eqb-true, eq-eqb, ◌<◌, ◌≤◌, not, Bool, true, false, cond, List, [], ◌∷◌, ◌++◌, length, map, Option, Some, None, inl, inr, refl, sym, ap, ◌∙◌, subst, arith, length-append, append-nil, ltb-true, true≢false}
use Rattle.std.proofs.lemmas.Bool.{cases_Bool, cases_lt, ne_eqb}
use Rattle.std.proofs.lemmas.Option.{slice_get_within}
use Rattle.std.specs.Prelude.{Ok, Err, Result, MatchOption}
use Rattle.rc_base.specs.Cluster.Parcels.{is_end}
use Rattle.rc_base.specs.Cluster.Sending.{Sending, ToTile, ToManager, requests_in, request_of, sent_last}
use Rattle.rc_base.specs.Cluster.Tiles.{tile_count}
use Rattle.rc_base.specs.Orders.Book.{book_after, Book, opened, is_declared}
use Rattle.rc_base.specs.Orders.Grant.{operations_left}
use Rattle.rc_base.specs.Orders.Journal.{SyncState, after, IsLegalFrom}
use Rattle.rc_base.specs.Orders.Sync.{IsWellFormed, client_count, sync_lists_of}
use Rattle.rc_base.specs.declared.cluster.ClientMoved.{ClientMoved}
use Rattle.rc_base.specs.declared.cluster.ClientMoved.TheVariants as client_moved
use Rattle.rc_base.specs.declared.cluster.ManagerMoved.{ManagerMoved}
use Rattle.rc_base.specs.declared.out_of_memory.OutOfMemory.{OutOfMemory}
use Rattle.rc_base.specs.declared.scene.Scene.{Scene}
use Rattle.rc_base.specs.declared.state.Parcel.{Parcel}
use Rattle.rc_base.specs.declared.sync.Entry.{Entry}
use Rattle.rc_base.specs.declared.sync.Grant.{Grant}
use Rattle.rc_base.specs.declared.sync.Grant.TheVariants as grant_item
use Rattle.rc_base.specs.declared.sync.Request.{Request}
use Rattle.rc_base.specs.declared.sync.Request.TheVariants as request
use Rattle.rc_base.specs.declared.sync.SyncLists.{SyncLists}
use Rattle.rc_base.specs.declared.sync.WaitAt.{WaitAt}
use Rattle.rc_base.specs.declared.window.Layout.{Layout}
use Rattle.order_model.specs.Laws.{AreOfClients, BooksStayLegal}
use Rattle.sync_manager.specs.Promises.{StepsKeepManagersRight}
use Rattle.order_model.specs.Standing.{Progress, performed_in}
use Rattle.order_model.specs.declared.record.LogEntry.TheVariants.{Performed}
use Rattle.order_model.proofs.ClientsBeyond.{past_after}
use Rattle.order_model.proofs.DefaultJournalIsMaximal.{uses_one}
use Rattle.sync_manager.specs.Progress.{ManagerProgress, IsGrantDue, IsNextDeed, progress_after, answer_of, taken_of, sent_to, event_of}
use Rattle.sync_manager.specs.declared.deed.ManagerDeed.{ManagerDeed}
use Rattle.sync_manager.specs.declared.deed.ManagerDeed.TheVariants.{Delivers, FindsFull, Grants, Receives, Loses, FindsNoRequest, Drops, FindsNoneLeft, Finishes}
use Rattle.tile_model.specs.Items.{Item, after_item, grant_taken, parcel_taken, IsAwaited}
use Rattle.tile_model.specs.Items.Item.{Nothing, Due, Granted, NoMore, Sent}
use Rattle.tile_model.specs.Short.{after_lost}
use Rattle.scene_lemmas.proofs.Scenes.{scene_client_count}
use Rattle.scene_lemmas.proofs.Sendings.{requests_append}
use Rattle.order_model.proofs.JournalsInTurn.{performed_more}
use Rattle.plain_lemmas.proofs.Numbers.{equal_to_itself}
use Rattle.world_model.specs.Flowing.{ask_by, asks, IsFlowing}
use Rattle.world_model.specs.Moves.{IsAtRest, IsClientMoveSeeing, IsManagerStepSeeing, IsTileMoveSeeing, OnlyClient, OnlyTile}
use Rattle.world_model.specs.declared.moves.Move.TheVariants.{Client as ClientMove, Tile as TileMove}
use Rattle.world_model.specs.Short.{IsAwaitedShort, IsShortAnswer, MayLose}
use Rattle.world_model.specs.Tiles.{Tile, IsTileAnswer}
use Rattle.world_model.specs.declared.moves.TileAnswer.{TileAnswer}
use Rattle.world_model.specs.Turns.{IsShortTileMoveSeeing, IsTileLoss, IsResting}
use Rattle.world_model.specs.Turns.Turn.{ClientTurn, ManagerTurn, TileTurn}
use Rattle.world_model.specs.Work.{total, one_unless, operations, most_in, client_work, due_to, tile_work, work_in, TurnsLeaveLess}
use Rattle.world_model.specs.World.{World, Client, Lanes, client_total}
use Rattle.tile_model.proofs.ItemsComeFromLanes.{listens, learnt_same}
use Rattle.world_model.proofs.OrderlySequences.{asks_append}
use Rattle.world_model.proofs.TilesKeepFlowing.{act_performed}
use Rattle.world_model.proofs.TurnsKeepFlowing.{turn_flows}

-- ---- sums

pub total_same : (f g : ℕ → ℕ) (n : ℕ) → ((i : ℕ) → i < n → g i ≡ f i) → total g n ≡ total f n
total_same f g zero h = refl
total_same f g (suc n) h = let a = total_same f g n (λ i lt. h i (omega (arith, lt))) in let b = h n (omega arith) in omega (arith, a, b)

pub total_least : (f g : ℕ → ℕ) (n : ℕ) → ((i : ℕ) → i < n → g i ≤ f i) → total g n ≤ total f n
total_least f g zero h = omega arith
total_least f g (suc n) h = let a = total_least f g n (λ i lt. h i (omega (arith, lt))) in let b = h n (omega arith) in omega (arith, a, b)

-- where one number is another, so much
pub total_change : (f g : ℕ → ℕ) (n k : ℕ) → k < n → ((i : ℕ) → i < n → i ≢ k → g i ≡ f i) → total g n + f k ≡ total f n + g k
total_change f g zero k lt h = absurd (omega (arith, lt))
total_change f g (suc n) k lt h = elim (cases_lt k n) [
  | inl below ↦
      let a = total_change f g n k below (λ i li ne. h i (omega (arith, li)) ne) in
      let b = h n (omega arith) (λ e. omega (arith, below, e)) in
      omega (arith, a, b)
  | inr ge ↦
      let same : k ≡ n = omega (arith, lt, ge) in
      let a = total_same f g n (λ i li. h i (omega (arith, li)) (λ e. omega (arith, li, e, same))) in
      let b : f k ≡ f n = ap f same in
      let c : g k ≡ g n = ap g same in
      omega (arith, a, b, c)
]

operations_are : (f : ℕ → List WaitAt) (n : ℕ) → operations_left f n ≡ total (λ c. length (f c)) n
operations_are f zero = refl
operations_are f (suc n) = let h = operations_are f n in omega (arith, h)

-- ---- a journal has at most one entry for each operation that arrived

used_up : (syncs : SyncLists) (s : SyncState) (js : List Entry) → IsWellFormed syncs → AreOfClients syncs s → IsLegalFrom syncs s js → length js ≤ operations_left s.rest (client_count syncs)
used_up syncs s [] well none h = omega arith
used_up syncs s (e ∷ js) well none h =
    let a = used_up syncs (after syncs s e) js well (past_after syncs s e none) h.1 in
    let b = uses_one syncs s well none e h.0 in
    omega (arith, a, b)

few_entries : (scene : Scene) (l : Layout) (w : World) → IsWellFormed (sync_lists_of scene) → IsFlowing scene l w → length w.manager.book.journal ≤ most_in scene w
few_entries scene l w well f =
    let syncs = sync_lists_of scene in
    let b = w.manager.book in
    let a = used_up syncs (opened syncs b) b.journal well none_beyond f.legal in
    let c = operations_are b.arrived (client_count syncs) ∙ ap (total (λ c. length (b.arrived c))) (scene_client_count scene) in
    let d = total_least (operations w) (λ c. length (b.arrived c)) (client_total scene) (λ i li. omega arith) in
    omega (arith, a, c, d)
  where
    none_mapped : (ws : List WaitAt) (rest : List Request) → map request_of ws ++ rest ≡ [] → ws ≡ []
    none_mapped [] rest e = refl
    none_mapped (x ∷ ws) rest e = absurd cc

    none_beyond : AreOfClients (sync_lists_of scene) (opened (sync_lists_of scene) w.manager.book)
    none_beyond client le =
        let k = f.manager.clients client in
        let low : client_total scene ≤ client = subst (λ m. m ≤ client) (scene_client_count scene) le in
        none_mapped (w.manager.book.arrived client) k.rest (sym k.arrived ∙ f.nobody_else client low)

least_minus : (a b c : ℕ) → a ≤ b → a - c ≤ b - c
least_minus a b c le = omega (arith, le)

-- ---- what changes

module _ (scene : Scene) (l : Layout) (depth : ℕ) (w v : World) where
  abbrev n : ℕ
  n = client_total scene

  abbrev tiles : ℕ
  tiles = tile_count l

  -- the tile has no more to do, where there are no more entries for it, and its lanes are as they were
  tile_least : (t : ℕ) → most_in scene v ≤ most_in scene w → v.manager.delivered t ≡ w.manager.delivered t → v.manager.told t ≡ w.manager.told t
      → v.tiles t ≡ w.tiles t → v.grants t ≡ w.grants t → ((i : ℕ) → i < n → v.parcels i t ≡ w.parcels i t) → tile_work scene v t ≤ tile_work scene w t
  tile_least t le delivered told tile grants parcels =
      let a = ap (λ (x : Tile). length x.progress.learnt - performed_in x.progress.log + one_unless x.short) tile in
      let b = ap length grants in
      let c = total_same (λ client. length (w.parcels client t)) (λ client. length (v.parcels client t)) n (λ i li. ap length (parcels i li)) in
      let d = ap one_unless told in
      omega (arith, le, delivered, a, b, c, d)

  -- one client has less to do
  less_client : (c : ℕ) → c < n → ((i : ℕ) → i < n → i ≢ c → client_work v i ≡ client_work w i) → client_work v c < client_work w c
      → most_in scene v ≤ most_in scene w → v.manager.book.journal ≡ w.manager.book.journal → one_unless v.manager.short ≤ one_unless w.manager.short
      → ((t : ℕ) → t < tiles → tile_work scene v t ≤ tile_work scene w t) → work_in scene l v < work_in scene l w
  less_client c lc others less most journal short each =
      let a = total_change (client_work w) (client_work v) n c lc others in
      let b = ap length journal in
      let d = total_least (tile_work scene w) (tile_work scene v) tiles each in
      omega (arith, a, less, most, b, short, d)

  -- one tile has less to do
  less_tile : (t : ℕ) → t < tiles → ((i : ℕ) → i < n → client_work v i ≡ client_work w i) → most_in scene v ≡ most_in scene w
      → v.manager.book.journal ≡ w.manager.book.journal → v.manager.short ≡ w.manager.short
      → ((i : ℕ) → i < tiles → i ≢ t → tile_work scene v i ≡ tile_work scene w i) → tile_work scene v t < tile_work scene w t → work_in scene l v < work_in scene l w
  less_tile t lt clients most journal short others less =
      let a = total_same (client_work w) (client_work v) n clients in
      let b = ap length journal in
      let c = ap one_unless short in
      let d = total_change (tile_work scene w) (tile_work scene v) tiles t lt others in
      omega (arith, a, most, b, c, d, less)

  -- ---- parts that stay

  ops_same : (i : ℕ) → (v.clients i).left ≡ (w.clients i).left → v.requests i ≡ w.requests i → v.manager.book.arrived i ≡ w.manager.book.arrived i → operations v i ≡ operations w i
  ops_same i a b c =
      let x = ap (λ items. asks (requests_in items)) a in
      let y = ap asks b in
      let z = ap length c in
      omega (arith, x, y, z)

  client_same : (i : ℕ) → v.clients i ≡ w.clients i → v.requests i ≡ w.requests i → client_work v i ≡ client_work w i
  client_same i a b =
      let x = ap (λ (k : Client). length k.left) a in
      let y = ap (λ (k : Client). one_unless k.short) a in
      let z = ap length b in
      omega (arith, x, y, z)

  tile_same : (t : ℕ) → most_in scene v ≡ most_in scene w → v.manager.delivered t ≡ w.manager.delivered t → v.manager.told t ≡ w.manager.told t
      → v.tiles t ≡ w.tiles t → v.grants t ≡ w.grants t → ((i : ℕ) → i < n → v.parcels i t ≡ w.parcels i t) → tile_work scene v t ≡ tile_work scene w t
  tile_same t le delivered told tile grants parcels =
      let a = ap (λ (x : Tile). length x.progress.learnt - performed_in x.progress.log + one_unless x.short) tile in
      let b = ap length grants in
      let c = total_same (λ client. length (w.parcels client t)) (λ client. length (v.parcels client t)) n (λ i li. ap length (parcels i li)) in
      let d = ap one_unless told in
      omega (arith, le, delivered, a, b, c, d)

  -- ---- a client

  module _ (client : ℕ) (low : client < n) (only : OnlyClient scene l w client v) where
    others_ops : (i : ℕ) → i < n → i ≢ client → operations v i ≡ operations w i
    others_ops i li ne = ops_same i (ap (λ (k : Client). k.left) (only.clients i li ne)) (only.requests i li ne) (ap (λ (d : ManagerProgress). d.book.arrived i) only.manager)

    others_work : (i : ℕ) → i < n → i ≢ client → client_work v i ≡ client_work w i
    others_work i li ne = client_same i (only.clients i li ne) (only.requests i li ne)

    most_here : operations v client ≤ operations w client → most_in scene v ≤ most_in scene w
    most_here le = let a = total_change (operations w) (operations v) n client low others_ops in omega (arith, a, le)

    delivered_same : (t : ℕ) → v.manager.delivered t ≡ w.manager.delivered t
    delivered_same t = ap (λ (d : ManagerProgress). d.delivered t) only.manager

    told_same : (t : ℕ) → v.manager.told t ≡ w.manager.told t
    told_same t = ap (λ (d : ManagerProgress). d.told t) only.manager

    -- the parcels of the client's lanes as they were
    parcels_same : (t : ℕ) → t < tiles → v.parcels client t ≡ w.parcels client t → (i : ℕ) → i < n → v.parcels i t ≡ w.parcels i t
    parcels_same t lt here i li = elim (cases_Bool (i == client)) [
      | inl y ↦ subst (λ k. v.parcels k t ≡ w.parcels k t) (sym (eqb-true i client y)) here
      | inr g ↦ only.parcels i t li lt (λ e. true≢false (sym (eq-eqb i client e) ∙ g))
    ]

    sends_parcel : (tile : ℕ) (p : Parcel) → tile < tiles → (w.clients client).left ≡ ToTile tile p ∷ (v.clients client).left
        → v.parcels client tile ≡ w.parcels client tile ++ p ∷ [] → ((t : ℕ) → t ≢ tile → v.parcels client t ≡ w.parcels client t)
        → v.requests client ≡ w.requests client → (v.clients client).short ≡ (w.clients client).short → work_in scene l v < work_in scene l w
    sends_parcel tile p lt next appended others requests short =
        let left = ap length next in
        let lane = ap length appended ∙ length-append (w.parcels client tile) (p ∷ []) in
        let asked = ap length requests in
        let flag = ap one_unless short in
        let same_asks = ap (λ items. asks (requests_in items)) next in
        let ops : operations v client ≡ operations w client =
        (let x = ap asks requests in let y = ap (λ (d : ManagerProgress). length (d.book.arrived client)) only.manager in omega (arith, same_asks, x, y)) in
        let most : most_in scene v ≡ most_in scene w = (let a = total_change (operations w) (operations v) n client low others_ops in omega (arith, a, ops)) in
        let clients = total_change (client_work w) (client_work v) n client low others_work in
        let here : tile_work scene v tile ≡ tile_work scene w tile + 1 =
        (let a = ap (λ (x : Tile). length x.progress.learnt - performed_in x.progress.log + one_unless x.short) (only.tiles tile lt) in
        let b = ap length (only.grants tile lt) in
        let c = total_change (λ i. length (w.parcels i tile)) (λ i. length (v.parcels i tile)) n client low (λ i li ne. ap length (only.parcels i tile li lt ne)) in
        let d = ap one_unless (told_same tile) in
        let e = delivered_same tile in
        omega (arith, most, a, b, c, d, e, lane)) in
        let all = total_change (tile_work scene w) (tile_work scene v) tiles tile lt
        (λ t li ne. tile_same t most (delivered_same t) (told_same t) (only.tiles t li) (only.grants t li) (parcels_same t li (others t ne))) in
        let journal = ap (λ (d : ManagerProgress). length d.book.journal) only.manager in
        let flag_d = ap (λ (d : ManagerProgress). one_unless d.short) only.manager in
        omega (arith, left, asked, flag, most, clients, here, all, journal, flag_d)

    sends_request : (r : Request) → (w.clients client).left ≡ ToManager r ∷ (v.clients client).left → ((t : ℕ) → v.parcels client t ≡ w.parcels client t)
        → v.requests client ≡ w.requests client ++ r ∷ [] → (v.clients client).short ≡ (w.clients client).short → work_in scene l v < work_in scene l w
    sends_request r next parcels appended short =
        let left = ap length next in
        let lane = ap length appended ∙ length-append (w.requests client) (r ∷ []) in
        let flag = ap one_unless short in
        let ops : operations v client ≡ operations w client =
        (let a = ap (λ items. asks (requests_in items)) next in
        let b = ap asks appended ∙ asks_append (w.requests client) (r ∷ []) in
        let c = ap (λ (d : ManagerProgress). length (d.book.arrived client)) only.manager in omega (arith, a, b, c)) in
        let most = most_here (omega (arith, ops)) in
        less_client client low others_work (omega (arith, left, lane, flag)) most (ap (λ (d : ManagerProgress). d.book.journal) only.manager)
        (let e = ap (λ (d : ManagerProgress). one_unless d.short) only.manager in omega (arith, e))
        (λ t lt. tile_least t most (delivered_same t) (told_same t) (only.tiles t lt) (only.grants t lt) (parcels_same t lt (parcels t)))

    loses : (dropped : List Sending) → (w.clients client).left ≡ dropped ++ sent_last scene l client → (v.clients client).left ≡ sent_last scene l client
        → ((t : ℕ) → t < tiles → v.parcels client t ≡ w.parcels client t) → v.requests client ≡ w.requests client
        → (w.clients client).short ≡ false → (v.clients client).short ≡ true → work_in scene l v < work_in scene l w
    loses dropped before now parcels requests ample short =
        let was = ap length before ∙ length-append dropped (sent_last scene l client) in
        let is = ap length now in
        let lane = ap length requests in
        let flag_was : one_unless (w.clients client).short ≡ 1 = ap one_unless ample in
        let flag_is : one_unless (v.clients client).short ≡ 0 = ap one_unless short in
        let ops : operations v client ≤ operations w client =
        (let a = ap (λ items. asks (requests_in items)) before ∙ ap asks (requests_append dropped (sent_last scene l client)) ∙ asks_append (requests_in dropped) (requests_in (sent_last scene l client)) in
        let b = ap (λ items. asks (requests_in items)) now in
        let c = ap asks requests in
        let d = ap (λ (d : ManagerProgress). length (d.book.arrived client)) only.manager in omega (arith, a, b, c, d)) in
        let most = most_here ops in
        less_client client low others_work (omega (arith, was, is, lane, flag_was, flag_is)) most (ap (λ (d : ManagerProgress). d.book.journal) only.manager)
        (let e = ap (λ (d : ManagerProgress). one_unless d.short) only.manager in omega (arith, e))
        (λ t lt. tile_least t most (delivered_same t) (told_same t) (only.tiles t lt) (only.grants t lt) (parcels_same t lt (parcels t lt)))

  client_less : (seen : Lanes) (client : ℕ) (answer : ClientMoved) → (IsAtRest (ClientMove client answer) → ⊥) → IsClientMoveSeeing scene l depth w seen client answer v
      → work_in scene l v < work_in scene l w
  client_less seen client (client_moved.Appended tile) moving m =
      sends_parcel client m.low m.only tile m.step.sent.parcel m.step.low m.step.sent.next m.step.sent.appended m.step.sent.others m.step.sent.requests m.short
  client_less seen client client_moved.Requested moving m = sends_request client m.low m.only m.step.sent.request m.step.sent.next m.step.sent.parcels m.step.sent.appended m.short
  client_less seen client (client_moved.BlockedTile tile) moving m = absurd (moving (inl (tile, refl)))
  client_less seen client client_moved.BlockedRequest moving m = absurd (moving (inr (inl refl)))
  client_less seen client client_moved.Ended moving m = absurd (moving (inr (inr refl)))

  -- ---- a tile

  module _ (t : ℕ) (lt : t < tiles) (only : OnlyTile scene l w t v) (item : Item)
      (parcel : (client : ℕ) → client < n → MatchOption (parcel_taken item client) (v.parcels client t ≡ w.parcels client t) (λ p. w.parcels client t ≡ p ∷ v.parcels client t))
      (grant : MatchOption (grant_taken item) (v.grants t ≡ w.grants t) (λ g. w.grants t ≡ g ∷ v.grants t)) where
    -- what is left of its own
    abbrev known : World → ℕ
    known x = length (x.tiles t).progress.learnt - performed_in (x.tiles t).progress.log

    -- two for a grant that it takes, one for a parcel
    abbrev taken_by : Item → ℕ
    taken_by Nothing = 0
    taken_by (Due e) = 0
    taken_by (Granted e) = 2
    taken_by NoMore = 2
    taken_by (Sent client x) = 1

    most_same : most_in scene v ≡ most_in scene w
    most_same = total_same (operations w) (operations v) n (λ i li. ops_same i (ap (λ (k : Client). k.left) (only.clients i li)) (only.requests i li) (ap (λ (d : ManagerProgress). d.book.arrived i) only.manager))

    lanes_less : (i : Item) → item ≡ i → ((client : ℕ) (x : Parcel) → i ≡ Sent client x → client < n)
        → length (v.grants t) + length (v.grants t) + total (λ c. length (v.parcels c t)) n + taken_by i ≡ length (w.grants t) + length (w.grants t) + total (λ c. length (w.parcels c t)) n
    lanes_less i is low = by i is low
      where
        not_of : (client : ℕ) (x : Parcel) (c : ℕ) → c ≢ client → parcel_taken (Sent client x) c ≡ None
        not_of client x c ne = rw (ne_eqb c client ne) refl

        no_parcel : (j : Item) → item ≡ j → ((c : ℕ) → parcel_taken j c ≡ None) → total (λ c. length (v.parcels c t)) n ≡ total (λ c. length (w.parcels c t)) n
        no_parcel j e none = total_same (λ c. length (w.parcels c t)) (λ c. length (v.parcels c t)) n (λ c lc. ap length
            (subst (λ o. MatchOption o (v.parcels c t ≡ w.parcels c t) (λ p. w.parcels c t ≡ p ∷ v.parcels c t)) (ap (λ k. parcel_taken k c) e ∙ none c) (parcel c lc)))

        grant_of : (j : Item) → item ≡ j → MatchOption (grant_taken j) (v.grants t ≡ w.grants t) (λ g. w.grants t ≡ g ∷ v.grants t)
        grant_of j e = subst (λ k. MatchOption (grant_taken k) (v.grants t ≡ w.grants t) (λ g. w.grants t ≡ g ∷ v.grants t)) e grant

        by : (j : Item) → item ≡ j → ((client : ℕ) (x : Parcel) → j ≡ Sent client x → client < n)
            → length (v.grants t) + length (v.grants t) + total (λ c. length (v.parcels c t)) n + taken_by j ≡ length (w.grants t) + length (w.grants t) + total (λ c. length (w.parcels c t)) n
        by Nothing e low = let a = no_parcel Nothing e (λ c. refl) in let b = ap length (grant_of Nothing e) in omega (arith, a, b)
        by (Due d) e low = let a = no_parcel (Due d) e (λ c. refl) in let b = ap length (grant_of (Due d) e) in omega (arith, a, b)
        by (Granted d) e low = let a = no_parcel (Granted d) e (λ c. refl) in let b = ap length (grant_of (Granted d) e) in omega (arith, a, b)
        by NoMore e low = let a = no_parcel NoMore e (λ c. refl) in let b = ap length (grant_of NoMore e) in omega (arith, a, b)
        by (Sent client x) e low =
            let lc = low client x refl in
            let b = ap length (grant_of (Sent client x) e) in
            let first : w.parcels client t ≡ x ∷ v.parcels client t =
            rw (equal_to_itself client) at (subst (λ k. MatchOption (parcel_taken k client) (v.parcels client t ≡ w.parcels client t) (λ p. w.parcels client t ≡ p ∷ v.parcels client t)) e (parcel client lc)) in
            let one = ap length first in
            let a = total_change (λ c. length (w.parcels c t)) (λ c. length (v.parcels c t)) n client lc (λ c li ne. ap length
            (subst (λ o. MatchOption o (v.parcels c t ≡ w.parcels c t) (λ p. w.parcels c t ≡ p ∷ v.parcels c t)) (ap (λ k. parcel_taken k c) e ∙ not_of client x c ne) (parcel c li))) in
            omega (arith, a, b, one)

    tile_less : (i : Item) → item ≡ i → ((client : ℕ) (x : Parcel) → i ≡ Sent client x → client < n)
        → known v + one_unless (v.tiles t).short < known w + one_unless (w.tiles t).short + taken_by i → work_in scene l v < work_in scene l w
    tile_less i is low less =
        let e = only.manager in
        let most = most_same in
        let lanes = lanes_less i is low in
        let a = ap (λ (d : ManagerProgress). d.delivered t) e in
        let b = ap (λ (d : ManagerProgress). one_unless (d.told t)) e in
        less_tile t lt (λ c li. client_same c (only.clients c li) (only.requests c li)) most (ap (λ (d : ManagerProgress). d.book.journal) e) (ap (λ (d : ManagerProgress). d.short) e)
        (λ k li ne. tile_same k most (ap (λ (d : ManagerProgress). d.delivered k) e) (ap (λ (d : ManagerProgress). d.told k) e) (only.tiles k li ne) (only.grants k li ne)
        (λ c lc. only.parcels c k lc li ne)) (omega (arith, less, most, lanes, a, b))

  -- of a tile that isn't short
  whole_less : (seen : Lanes) (t : ℕ) (answer : TileAnswer) → (count : (w.tiles t).progress.count ≡ n) → (performed_in (w.tiles t).progress.log ≤ length (w.tiles t).progress.learnt)
      → (IsAtRest (TileMove t answer) → ⊥) → IsTileMoveSeeing scene l depth w seen t answer v → work_in scene l v < work_in scene l w
  whole_less seen t answer count within moving m = by m.item refl m.step.awaited m.answered m.step.progress
    where
      p : Progress
      p = (w.tiles t).progress

      flag : one_unless (v.tiles t).short ≡ one_unless (w.tiles t).short
      flag = ap one_unless m.step.still_ample

      by : (i : Item) → m.item ≡ i → IsAwaited (w.tiles t).progress i → IsTileAnswer (w.tiles t).progress i answer → (v.tiles t).progress ≡ after_item (w.tiles t).progress i
          → work_in scene l v < work_in scene l w
      by Nothing is awaited (inl a) after = absurd (moving (inr a.0))
      by Nothing is awaited (inr a) after = absurd (moving (inl a.0))
      by (Due e) is awaited a after =
          let k = ap (λ (x : Progress). performed_in x.log) after ∙ performed_more (w.tiles t).progress.log Performed in
          let learnt = ap (λ (x : Progress). length x.learnt) after in
          let less = slice_get_within (w.tiles t).progress.learnt (performed_in (w.tiles t).progress.log) e awaited.0 in
          let g = flag in
          tile_less t m.low m.only m.item m.parcel m.grant (Due e) is (λ c x no. absurd cc) (omega (arith, k, learnt, less, g))
      by (Granted e) is awaited a after =
          let k = ap (λ (x : Progress). performed_in x.log) after in
          let learnt = ap (λ (x : Progress). length x.learnt) after ∙ length-append (w.tiles t).progress.learnt (e ∷ []) in
          let all = (listens (w.tiles t).progress awaited).1 in
          let g = flag in
          tile_less t m.low m.only m.item m.parcel m.grant (Granted e) is (λ c x no. absurd cc) (omega (arith, k, learnt, all, g))
      by NoMore is awaited a after =
          let k = ap (λ (x : Progress). performed_in x.log) after in
          let learnt = ap (λ (x : Progress). length x.learnt) after in
          let g = flag in
          tile_less t m.low m.only m.item m.parcel m.grant NoMore is (λ c x no. absurd cc) (omega (arith, k, learnt, g))
      by (Sent client x) is awaited a after =
          let k = ap (λ (y : Progress). performed_in y.log) after ∙ act_performed (w.tiles t).progress client x.act x.place in
          let learnt = ap (λ (y : Progress). length y.learnt) after ∙ ap length (learnt_same (w.tiles t).progress client x.act x.place).0 in
          let g = flag in
          let lc : client < n = subst (λ m. client < m) count awaited.0 in
          tile_less t m.low m.only m.item m.parcel m.grant (Sent client x) is (λ c y e. (let same : client ≡ c = cc in subst (λ k. k < n) same lc)) (omega (arith, k, learnt, g))

  -- an item that isn't carried out
  lost_known : (t : ℕ) (i : Item) → (v.tiles t).progress ≡ after_lost (w.tiles t).progress i
      → length (v.tiles t).progress.learnt - performed_in (v.tiles t).progress.log ≡ length (w.tiles t).progress.learnt - performed_in (w.tiles t).progress.log
  lost_known t i after = ap (λ (x : Progress). length x.learnt - performed_in x.log) after ∙ by i
    where
      by : (i : Item) → length (after_lost (w.tiles t).progress i).learnt - performed_in (after_lost (w.tiles t).progress i).log
          ≡ length (w.tiles t).progress.learnt - performed_in (w.tiles t).progress.log
      by Nothing = refl
      by (Due e) = refl
      by (Granted e) = refl
      by NoMore = refl
      by (Sent client x) = elim (cases_Bool (is_end x.act)) [ inl y ↦ rw y refl | inr g ↦ rw g refl ]

  short_less : (seen : Lanes) (t : ℕ) (answer : TileAnswer) → (count : (w.tiles t).progress.count ≡ n) → (IsAtRest (TileMove t answer) → ⊥) → IsShortTileMoveSeeing scene l depth w seen t answer v
      → work_in scene l v < work_in scene l w
  short_less seen t answer count moving m = by m.item refl m.awaited m.answered m.progress
    where
      flag : one_unless (v.tiles t).short ≡ one_unless (w.tiles t).short
      flag = ap one_unless (m.still_short ∙ sym m.short)

      by : (i : Item) → m.item ≡ i → IsAwaitedShort (w.tiles t).progress i → IsShortAnswer (w.tiles t).progress i answer → (v.tiles t).progress ≡ after_lost (w.tiles t).progress i
          → work_in scene l v < work_in scene l w
      by Nothing is awaited (inl a) after = absurd (moving (inr a.0))
      by Nothing is awaited (inr a) after = absurd (moving (inl a.0))
      by (Due e) is awaited a after = absurd awaited
      by (Granted e) is awaited a after =
          let k = lost_known t (Granted e) after in
          let g = flag in
          tile_less t m.low m.only m.item m.parcel m.grant (Granted e) is (λ c x no. absurd cc) (omega (arith, k, g))
      by NoMore is awaited a after =
          let k = lost_known t NoMore after in
          let g = flag in
          tile_less t m.low m.only m.item m.parcel m.grant NoMore is (λ c x no. absurd cc) (omega (arith, k, g))
      by (Sent client x) is awaited a after =
          let k = lost_known t (Sent client x) after in
          let g = flag in
          let lc : client < n = subst (λ m. client < m) count awaited.0 in
          tile_less t m.low m.only m.item m.parcel m.grant (Sent client x) is (λ c y e. (let same : client ≡ c = cc in subst (λ k. k < n) same lc)) (omega (arith, k, g))

  lost_less : (t : ℕ) → (count : (w.tiles t).progress.count ≡ n) → IsTileLoss scene l depth w t v → work_in scene l v < work_in scene l w
  lost_less t count m = by m.item refl m.may m.progress
    where
      was : one_unless (w.tiles t).short ≡ 1
      was = ap one_unless m.ample

      is_now : one_unless (v.tiles t).short ≡ 0
      is_now = ap one_unless m.short

      by : (i : Item) → m.item ≡ i → MayLose (w.tiles t).progress i → (v.tiles t).progress ≡ after_lost (w.tiles t).progress i → work_in scene l v < work_in scene l w
      by Nothing is may after =
          let k = lost_known t Nothing after in
          let a = was in
          let b = is_now in
          let grant : MatchOption (grant_taken m.item) (v.grants t ≡ w.grants t) (λ g. w.grants t ≡ g ∷ v.grants t) =
          subst (λ i. MatchOption (grant_taken i) (v.grants t ≡ w.grants t) (λ g. w.grants t ≡ g ∷ v.grants t)) (sym is) m.grant in
          tile_less t m.low m.only m.item m.parcel grant Nothing is (λ c x no. absurd cc) (omega (arith, k, a, b))
      by (Due e) is may after = absurd may
      by (Granted e) is may after = absurd may
      by NoMore is may after = absurd may
      by (Sent client x) is may after =
          let k = lost_known t (Sent client x) after in
          let a = was in
          let b = is_now in
          let lc : client < n = subst (λ m. client < m) count may.0 in
          let grant : MatchOption (grant_taken m.item) (v.grants t ≡ w.grants t) (λ g. w.grants t ≡ g ∷ v.grants t) =
          subst (λ i. MatchOption (grant_taken i) (v.grants t ≡ w.grants t) (λ g. w.grants t ≡ g ∷ v.grants t)) (sym is) m.grant in
          tile_less t m.low m.only m.item m.parcel grant (Sent client x) is (λ c y e. (let same : client ≡ c = cc in subst (λ k. k < n) same lc)) (omega (arith, k, a, b))

  -- ---- the manager

  module _ (well : IsWellFormed (sync_lists_of scene)) (f : IsFlowing scene l w) (g : IsFlowing scene l v) (seen : Lanes) (answer : Result ManagerMoved OutOfMemory) (m : IsManagerStepSeeing scene l depth w seen answer v) where
    abbrev syncs : SyncLists
    syncs = sync_lists_of scene

    low_client : (c : ℕ) → c < client_count syncs → c < n
    low_client c lt = subst (λ k. c < k) (scene_client_count scene) lt

    tile_stays : (t : ℕ) → t < tiles → most_in scene v ≤ most_in scene w → v.manager.delivered ≡ w.manager.delivered → v.manager.told ≡ w.manager.told → sent_to m.deed t ≡ []
        → tile_work scene v t ≤ tile_work scene w t
    tile_stays t lt most delivered told none = tile_least t most (ap (λ (h : ℕ → ℕ). h t) delivered) (ap (λ (h : ℕ → Bool). h t) told) (m.only.tiles t lt)
        (m.sent t lt ∙ ap (λ gs. w.grants t ++ gs) none ∙ append-nil (w.grants t)) (λ i li. m.only.parcels i t li lt)

    -- a request is taken, and at most arrives
    takes : (c : ℕ) (r : Request) → c < n → ((i : ℕ) → taken_of m.deed i ≡ cond (i == c) (Some r) None) → ((t : ℕ) → sent_to m.deed t ≡ [])
        → ((i : ℕ) → i ≢ c → v.manager.book.arrived i ≡ w.manager.book.arrived i) → length (v.manager.book.arrived c) ≤ length (w.manager.book.arrived c) + ask_by r
        → v.manager.book.journal ≡ w.manager.book.journal → v.manager.delivered ≡ w.manager.delivered → v.manager.told ≡ w.manager.told
        → one_unless v.manager.short ≤ one_unless w.manager.short → work_in scene l v < work_in scene l w
    takes c r lc taken none arrived few journal delivered told short =
        let here : taken_of m.deed c ≡ Some r = taken c ∙ rw (equal_to_itself c) refl in
        let first : w.requests c ≡ r ∷ v.requests c = subst (λ o. MatchOption o (v.requests c ≡ w.requests c) (λ x. w.requests c ≡ x ∷ v.requests c)) here (m.taken c lc) in
        let one = ap length first in
        let clients = ap (λ (k : Client). length k.left) (m.only.clients c lc) in
        let flag = ap (λ (k : Client). one_unless k.short) (m.only.clients c lc) in
        let ops : operations v c ≤ operations w c =
        (let a = ap (λ (k : Client). asks (requests_in k.left)) (m.only.clients c lc) in let b = ap asks first in omega (arith, a, b, few)) in
        let others : (i : ℕ) → i < n → i ≢ c → v.requests i ≡ w.requests i = λ i li ne.
        subst (λ o. MatchOption o (v.requests i ≡ w.requests i) (λ x. w.requests i ≡ x ∷ v.requests i)) (taken i ∙ off_none i ne) (m.taken i li) in
        let most : most_in scene v ≤ most_in scene w =
        (let a = total_change (operations w) (operations v) n c lc (λ i li ne. ops_same i (ap (λ (k : Client). k.left) (m.only.clients i li)) (others i li ne) (arrived i ne)) in omega (arith, a, ops)) in
        less_client c lc (λ i li ne. client_same i (m.only.clients i li) (others i li ne)) (omega (arith, one, clients, flag)) most journal short
        (λ t lt. tile_stays t lt most delivered told (none t))
      where
        off_none : (i : ℕ) → i ≢ c → cond {A = Option Request} (i == c) (Some r) None ≡ None
        off_none i ne = rw (ne_eqb i c ne) refl

    -- an item is appended for a tile: what is due to it is one less
    gives : (t : ℕ) (x : Grant) → t < tiles → ((i : ℕ) → taken_of m.deed i ≡ None) → ((i : ℕ) → sent_to m.deed i ≡ cond (i == t) (x ∷ []) [])
        → v.manager.book ≡ w.manager.book → v.manager.short ≡ w.manager.short
        → (most_in scene v ≡ most_in scene w → due_to scene v t + 1 ≡ due_to scene w t)
        → ((i : ℕ) → i ≢ t → v.manager.delivered i ≡ w.manager.delivered i) → ((i : ℕ) → i ≢ t → v.manager.told i ≡ w.manager.told i) → work_in scene l v < work_in scene l w
    gives t x lt taken sent book short due delivered told =
        let requests : (i : ℕ) → i < n → v.requests i ≡ w.requests i = λ i li.
        subst (λ o. MatchOption o (v.requests i ≡ w.requests i) (λ r. w.requests i ≡ r ∷ v.requests i)) (taken i) (m.taken i li) in
        let most : most_in scene v ≡ most_in scene w = total_same (operations w) (operations v) n
        (λ i li. ops_same i (ap (λ (k : Client). k.left) (m.only.clients i li)) (requests i li) (ap (λ (b : Book). b.arrived i) book)) in
        let here : v.grants t ≡ w.grants t ++ x ∷ [] = m.sent t lt ∙ ap (λ gs. w.grants t ++ gs) (sent t ∙ one_here) in
        let lane = ap length here ∙ length-append (w.grants t) (x ∷ []) in
        let less : tile_work scene v t < tile_work scene w t =
        (let a = due most in
        let b = ap (λ (y : Tile). length y.progress.learnt - performed_in y.progress.log + one_unless y.short) (m.only.tiles t lt) in
        let c = total_same (λ i. length (w.parcels i t)) (λ i. length (v.parcels i t)) n (λ i li. ap length (m.only.parcels i t li lt)) in
        omega (arith, a, b, c, lane)) in
        less_tile t lt (λ i li. client_same i (m.only.clients i li) (requests i li)) most (ap (λ (b : Book). b.journal) book) short
        (λ i li ne. tile_same i most (delivered i ne) (told i ne) (m.only.tiles i li) (m.sent i li ∙ ap (λ gs. w.grants i ++ gs) (sent i ∙ none_off i ne) ∙ append-nil (w.grants i))
        (λ c lc. m.only.parcels c i lc li)) less
      where
        one_here : cond {A = List Grant} (t == t) (x ∷ []) [] ≡ x ∷ []
        one_here = rw (equal_to_itself t) refl

        none_off : (i : ℕ) → i ≢ t → cond {A = List Grant} (i == t) (x ∷ []) [] ≡ []
        none_off i ne = rw (ne_eqb i t ne) refl

    gives_entry : (t : ℕ) (e : Entry) → m.deed ≡ Delivers t (grant_item.Entry e) → IsGrantDue syncs tiles w.manager t (grant_item.Entry e)
        → v.manager ≡ progress_after syncs w.manager (Delivers t (grant_item.Entry e)) → work_in scene l v < work_in scene l w
    gives_entry t e is due after =
        let low = ltb-true (w.manager.delivered t) (length w.manager.book.journal) due.0.here in
        let bound = few_entries scene l w well f in
        let now : v.manager.delivered t ≡ w.manager.delivered t + 1 = ap (λ (d : ManagerProgress). d.delivered t) after ∙ rw (equal_to_itself t) refl in
        let told = ap (λ (d : ManagerProgress). one_unless (d.told t)) after in
        gives t (grant_item.Entry e) due.0.low (λ i. ap (λ d. taken_of d i) is) (λ i. ap (λ d. sent_to d i) is) (ap (λ (d : ManagerProgress). d.book) after)
        (ap (λ (d : ManagerProgress). d.short) after) (λ most. omega (arith, low, bound, now, told, most))
        (λ i ne. ap (λ (d : ManagerProgress). d.delivered i) after ∙ rw (ne_eqb i t ne) refl) (λ i ne. ap (λ (d : ManagerProgress). d.told i) after)

    gives_end : (t : ℕ) → m.deed ≡ Delivers t grant_item.NoMore → IsGrantDue syncs tiles w.manager t grant_item.NoMore
        → v.manager ≡ progress_after syncs w.manager (Delivers t grant_item.NoMore) → work_in scene l v < work_in scene l w
    gives_end t is due after =
        let was : one_unless (w.manager.told t) ≡ 1 = ap one_unless (unnot (w.manager.told t) due.2.here) in
        let told : v.manager.told t ≡ true = ap (λ (d : ManagerProgress). d.told t) after ∙ rw (equal_to_itself t) refl in
        let now : one_unless (v.manager.told t) ≡ 0 = ap one_unless told in
        let delivered = ap (λ (d : ManagerProgress). d.delivered t) after in
        gives t grant_item.NoMore due.2.low (λ i. ap (λ d. taken_of d i) is) (λ i. ap (λ d. sent_to d i) is) (ap (λ (d : ManagerProgress). d.book) after)
        (ap (λ (d : ManagerProgress). d.short) after) (λ most. omega (arith, was, now, delivered, most))
        (λ i ne. ap (λ (d : ManagerProgress). d.delivered i) after) (λ i ne. ap (λ (d : ManagerProgress). d.told i) after ∙ rw (ne_eqb i t ne) refl)
      where
        unnot : (b : Bool) → not b ≡ true → b ≡ false
        unnot true e = absurd (true≢false (sym e))
        unnot false e = refl

    -- an entry is granted
    grants : (e : Entry) → m.deed ≡ Grants e → v.manager ≡ progress_after syncs w.manager (Grants e) → work_in scene l v < work_in scene l w
    grants e is after =
        let requests : (i : ℕ) → i < n → v.requests i ≡ w.requests i = λ i li.
        subst (λ o. MatchOption o (v.requests i ≡ w.requests i) (λ r. w.requests i ≡ r ∷ v.requests i)) (ap (λ d. taken_of d i) is) (m.taken i li) in
        let most : most_in scene v ≡ most_in scene w = total_same (operations w) (operations v) n
        (λ i li. ops_same i (ap (λ (k : Client). k.left) (m.only.clients i li)) (requests i li) (ap (λ (d : ManagerProgress). d.book.arrived i) after)) in
        let journal = ap (λ (d : ManagerProgress). length d.book.journal) after ∙ length-append w.manager.book.journal (e ∷ []) in
        let bound = few_entries scene l v well g in
        let short = ap (λ (d : ManagerProgress). one_unless d.short) after in
        let clients = total_same (client_work w) (client_work v) n (λ i li. client_same i (m.only.clients i li) (requests i li)) in
        let each = total_same (tile_work scene w) (tile_work scene v) tiles (λ t lt. tile_same t most (ap (λ (d : ManagerProgress). d.delivered t) after)
        (ap (λ (d : ManagerProgress). d.told t) after) (m.only.tiles t lt) (m.sent t lt ∙ ap (λ gs. w.grants t ++ gs) (ap (λ d. sent_to d t) is) ∙ append-nil (w.grants t))
        (λ i li. m.only.parcels i t li lt)) in
        omega (arith, most, journal, bound, short, clients, each)

    -- what a receipt makes of the book
    journal_stays : (c : ℕ) (r : Request) → (book_after syncs w.manager.book (event_of syncs c r)).journal ≡ w.manager.book.journal
    journal_stays c (request.Op place op) = elim (cases_Bool (is_declared syncs op)) [ inl t ↦ rw t refl | inr h ↦ rw h refl ]
    journal_stays c request.End = refl

    arrived_off : (c : ℕ) (r : Request) (i : ℕ) → i ≢ c → (book_after syncs w.manager.book (event_of syncs c r)).arrived i ≡ w.manager.book.arrived i
    arrived_off c (request.Op place op) i ne = elim (cases_Bool (is_declared syncs op)) [ inl t ↦ rw t (rw (ne_eqb i c ne) refl) | inr h ↦ rw h refl ]
    arrived_off c request.End i ne = refl

    arrived_here : (c : ℕ) (r : Request) → length ((book_after syncs w.manager.book (event_of syncs c r)).arrived c) ≤ length (w.manager.book.arrived c) + ask_by r
    arrived_here c (request.Op place op) = elim (cases_Bool (is_declared syncs op)) [
      | inl t ↦ rw t (rw (equal_to_itself c) (let a = length-append (w.manager.book.arrived c) (record { place = place; op = op } ∷ []) in omega (arith, a)))
      | inr h ↦ rw h (omega arith)
    ]
    arrived_here c request.End = omega arith

    by_deed : (deed : ManagerDeed) → m.deed ≡ deed → (IsResting (ManagerTurn answer) → ⊥) → IsNextDeed syncs tiles w.manager deed → answer_of deed ≡ answer
        → v.manager ≡ progress_after syncs w.manager deed → work_in scene l v < work_in scene l w
    by_deed (Delivers t (grant_item.Entry e)) is moving next answered after = gives_entry t e is next after
    by_deed (Delivers t grant_item.NoMore) is moving next answered after = gives_end t is next after
    by_deed (FindsFull t) is moving next answered after = absurd (moving (subst (λ a. IsResting (ManagerTurn a)) answered (inl (t, refl))))
    by_deed (Grants e) is moving next answered after = grants e is after
    by_deed (Receives c r) is moving next answered after =
        takes c r (low_client c next.1) (λ i. ap (λ d. taken_of d i) is) (λ t. ap (λ d. sent_to d t) is)
        (λ i ne. ap (λ (d : ManagerProgress). d.book.arrived i) after ∙ arrived_off c r i ne)
        (let a = ap (λ (d : ManagerProgress). length (d.book.arrived c)) after in let b = arrived_here c r in omega (arith, a, b))
        (ap (λ (d : ManagerProgress). d.book.journal) after ∙ journal_stays c r) (ap (λ (d : ManagerProgress). d.delivered) after) (ap (λ (d : ManagerProgress). d.told) after)
        (let a = ap (λ (d : ManagerProgress). one_unless d.short) after in omega (arith, a))
    by_deed (Loses c place op) is moving next answered after =
        takes c (request.Op place op) (low_client c next.1) (λ i. ap (λ d. taken_of d i) is) (λ t. ap (λ d. sent_to d t) is)
        (λ i ne. ap (λ (d : ManagerProgress). d.book.arrived i) after) (let a = ap (λ (d : ManagerProgress). length (d.book.arrived c)) after in omega (arith, a))
        (ap (λ (d : ManagerProgress). d.book.journal) after) (ap (λ (d : ManagerProgress). d.delivered) after) (ap (λ (d : ManagerProgress). d.told) after)
        (let a : one_unless v.manager.short ≡ 0 = ap (λ (d : ManagerProgress). one_unless d.short) after in omega (arith, a))
    by_deed FindsNoRequest is moving next answered after = absurd (moving (subst (λ a. IsResting (ManagerTurn a)) answered (inr (inl refl))))
    by_deed (Drops c r) is moving next answered after =
        takes c r (low_client c next.1) (λ i. ap (λ d. taken_of d i) is) (λ t. ap (λ d. sent_to d t) is)
        (λ i ne. ap (λ (d : ManagerProgress). d.book.arrived i) after) (let a = ap (λ (d : ManagerProgress). length (d.book.arrived c)) after in omega (arith, a))
        (ap (λ (d : ManagerProgress). d.book.journal) after) (ap (λ (d : ManagerProgress). d.delivered) after) (ap (λ (d : ManagerProgress). d.told) after)
        (let a = ap (λ (d : ManagerProgress). one_unless d.short) after in omega (arith, a))
    by_deed FindsNoneLeft is moving next answered after = absurd (moving (subst (λ a. IsResting (ManagerTurn a)) answered (inr (inl refl))))
    by_deed Finishes is moving next answered after = absurd (moving (subst (λ a. IsResting (ManagerTurn a)) answered (inr (inr refl))))

    manager_less : (IsResting (ManagerTurn answer) → ⊥) → work_in scene l v < work_in scene l w
    manager_less moving = by_deed m.deed refl moving m.next m.answered m.manager

pub turns_leave_less : BooksStayLegal → StepsKeepManagersRight → TurnsLeaveLess
turns_leave_less books steps scene l depth w v seen (ClientTurn client (Ok answer)) well f m moving = client_less scene l depth w v seen client answer moving m.step
turns_leave_less books steps scene l depth w v seen (ClientTurn client (Err error)) well f m moving =
    let k = m.step in loses scene l depth w v client k.low k.only k.dropped k.before k.left k.parcels k.requests k.ample k.short
turns_leave_less books steps scene l depth w v seen (ManagerTurn answer) well f m moving =
    manager_less scene l depth w v well f (turn_flows books steps scene l depth w v seen (ManagerTurn answer) f m) seen answer m.step moving
turns_leave_less books steps scene l depth w v seen (TileTurn tile (Ok answer)) well f m moving = by m.step
  where
    by : IsTileMoveSeeing scene l depth w seen tile answer v ⊎ IsShortTileMoveSeeing scene l depth w seen tile answer v → work_in scene l v < work_in scene l w
    by (inl t) = whole_less scene l depth w v seen tile answer (f.tiles tile t.low).count ((f.tiles tile t.low).ample t.step.ample).performed moving t
    by (inr t) = short_less scene l depth w v seen tile answer (f.tiles tile t.low).count moving t
turns_leave_less books steps scene l depth w v seen (TileTurn tile (Err error)) well f m moving = lost_less scene l depth w v tile (f.tiles tile m.step.low).count m.step
