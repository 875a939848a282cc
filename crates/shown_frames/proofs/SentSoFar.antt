-- What was sent so far, and what was granted of it, whoever lacks memory: fronts of the scene's, without Ends that came early.
use Rattle.std.proofs.Common.{◌≡◌, ℕ, ◌<◌, ◌≤◌, ◌==◌, nat_lt, Bool, true, false, cond, List, [], ◌∷◌, ◌++◌, length, map, take, drop, inl, inr, refl, sym, ap, ◌∙◌, subst, arith, append_assoc, append-nil, lt-ltb, ltb-true, true≢false}
use Rattle.std.proofs.Math.Seq.{take-length}
use Rattle.std.proofs.lemmas.Bool.{cases_Bool, cases_lt}
use Rattle.std.proofs.lemmas.List.{map-append, take-append-drop}
use Rattle.std.specs.List.{AllByRecursion, flat_map, range_with_len}
use Rattle.rc_base.specs.Lists.{IsFront}
use Rattle.rc_base.specs.Cluster.Parcels.{is_end, parcels_of, end_parcel}
use Rattle.rc_base.specs.Cluster.Sending.{Sending, ToTile, ToManager, parcels_to, requests_in, request_of, sent_by, sent_last, requests_of}
use Rattle.rc_base.specs.Cluster.Tiles.{tile_count}
use Rattle.rc_base.specs.Contexts.Issue.{stream_of}
use Rattle.rc_base.specs.Orders.Book.{Book}
use Rattle.rc_base.specs.Orders.Journal.{IsLegal}
use Rattle.rc_base.specs.Orders.Sync.{client_count, ops_of, sync_lists_of}
use Rattle.rc_base.specs.declared.cluster.TilePart.{TilePart}
use Rattle.rc_base.specs.declared.scene.Scene.{Scene}
use Rattle.rc_base.specs.declared.state.Parcel.{Parcel}
use Rattle.rc_base.specs.declared.sync.Entry.{Entry}
use Rattle.rc_base.specs.declared.sync.Grant.{Grant}
use Rattle.rc_base.specs.declared.sync.Grant.TheVariants as grant_item
use Rattle.rc_base.specs.declared.sync.Request.{Request}
use Rattle.rc_base.specs.declared.sync.Request.TheVariants as request
use Rattle.rc_base.specs.declared.sync.WaitAt.{WaitAt}
use Rattle.rc_base.specs.declared.window.Layout.{Layout}
use Rattle.client_issue.specs.Clauses.{IsSequenceOf}
use Rattle.client_issue.specs.Cores.{left_in, short_of}
use Rattle.client_issue.specs.Laws.{SequencesAreSplit}
use Rattle.order_model.specs.Gathering.{HasArrived, all_grants, LegalBooksHaveLegalJournals}
use Rattle.order_model.proofs.ClientsBeyond.{ops_past}
use Rattle.scene_lemmas.proofs.Scenes.{scene_client_count}
use Rattle.scene_lemmas.proofs.Sendings.{parcels_append, requests_append}
use Rattle.sync_manager.specs.Clauses.{first_lists}
use Rattle.sync_manager.specs.Progress.{ManagerProgress, is_end as is_last_request}
use Rattle.sync_manager.specs.Promises.{IsManagerRight}
use Rattle.sync_manager.proofs.FrontsArrive.{front_of, nobody_arrives}
use Rattle.shown_frames.specs.Clusters.{IsSending, AreShowing}
use Rattle.shown_frames.specs.Shown.{AreOpen}
use Rattle.shown_frames.proofs.Fronts.{longer_front, front_of_front, before_last}

-- ---- what a client sends at last

abbrev AreEnds : List Parcel → Type 0
AreEnds parcels = AllByRecursion (λ (p : Parcel). is_end p.act ≡ true) parcels

abbrev AreLast : List Request → Type 0
AreLast requests = AllByRecursion (λ r. is_last_request r ≡ true) requests

abbrev ends_to : ℕ → List ℕ → List Sending
ends_to n tiles = flat_map (λ tile. map (λ p. ToTile tile p) (end_parcel n ∷ [])) tiles ++ ToManager request.End ∷ []

all_ends : (n tile : ℕ) (tiles : List ℕ) → AreEnds (parcels_to tile (ends_to n tiles))
all_ends n tile [] = tt
all_ends n tile (k ∷ tiles) = elim (cases_Bool (tile == k)) [
  | inl t ↦ rw t (refl, all_ends n tile tiles)
  | inr f ↦ rw f (all_ends n tile tiles)
]

all_last : (n : ℕ) (tiles : List ℕ) → AreLast (requests_in (ends_to n tiles))
all_last n [] = (refl, tt)
all_last n (k ∷ tiles) = all_last n tiles

-- ---- up to where memory lacked

-- All that is sent begins with what comes before that, and what is sent otherwise ends behind it.
record IsCut (scene : Scene) (l : Layout) (client : ℕ) (items : List Sending) : Type 0 where
  pub kept : List Sending
  pub lasts : List Sending
  pub more : List Sending
  pub items_are : items ≡ kept ++ lasts
  pub whole : sent_by scene l client ≡ kept ++ more
  pub ends : (tile : ℕ) → AreEnds (parcels_to tile lasts)
  pub last : AreLast (requests_in lasts)

cut_at : (short : Bool) (scene : Scene) (l : Layout) (client : ℕ) (items : List Sending) → IsSequenceOf short scene l client items → IsCut scene l client items
cut_at false scene l client items is = record {
  kept = items;
  lasts = [];
  more = [];
  items_are = sym (append-nil items);
  whole = is ∙ sym (append-nil items);
  ends = λ tile. tt;
  last = tt;
}
cut_at true scene l client items is = record {
  kept = is.kept;
  lasts = sent_last scene l client;
  more = is.dropped ++ sent_last scene l client;
  items_are = is.cut;
  whole = is.whole;
  ends = λ tile. all_ends (length (stream_of scene client)) tile (range_with_len 0 (tile_count l));
  last = all_last (length (stream_of scene client)) (range_with_len 0 (tile_count l));
}

-- no request of an operation is an End
none_last : (ws : List WaitAt) → AllByRecursion (λ r. is_last_request r ≡ false) (map request_of ws)
none_last [] = tt
none_last (w ∷ ws) = (refl, none_last ws)

module _ (split : SequencesAreSplit) (scene : Scene) (l : Layout) (client : ℕ) (sent : ℕ → List Parcel) (asked : List Request) (h : IsSending scene l client sent asked) where
  cut : IsCut scene l client (h.clause.so_far ++ left_in h.core)
  cut = cut_at (short_of h.core) scene l client (h.clause.so_far ++ left_in h.core) h.clause.sequence

  -- a front without Ends of what was sent to a tile is one of the client's parcels
  pub open_parcels : (tile : ℕ) → tile < tile_count l → (took : List Parcel) → IsFront took (sent tile) → AreOpen took → IsFront took (parcels_of scene l client tile)
  open_parcels tile lt took front unended =
      let far = h.clause.so_far in
      let all : parcels_to tile (far ++ left_in h.core) ≡ sent tile ++ parcels_to tile (left_in h.core) =
      parcels_append tile far (left_in h.core) ∙ ap (λ (ps : List Parcel). ps ++ parcels_to tile (left_in h.core)) (sym (h.clause.parcels tile lt)) in
      let long : IsFront took (parcels_to tile (far ++ left_in h.core)) = longer_front took (sent tile) (parcels_to tile (far ++ left_in h.core)) (parcels_to tile (left_in h.core)) front all in
      let parted : parcels_to tile (far ++ left_in h.core) ≡ parcels_to tile cut.kept ++ parcels_to tile cut.lasts = ap (parcels_to tile) cut.items_are ∙ parcels_append tile cut.kept cut.lasts in
      let kept : IsFront took (parcels_to tile cut.kept) =
      before_last (λ (p : Parcel). is_end p.act) took (parcels_to tile cut.kept) (parcels_to tile cut.lasts)
      (subst (λ (ps : List Parcel). IsFront took ps) parted long) unended (cut.ends tile) in
      longer_front took (parcels_to tile cut.kept) (parcels_of scene l client tile) (parcels_to tile cut.more) kept
      (sym ((split scene l client).parcels tile lt) ∙ ap (parcels_to tile) cut.whole ∙ parcels_append tile cut.kept cut.more)

  -- operations whose requests are a front of what was asked are a front of the client's
  pub asked_operations : client < length scene.streams → (ops : List WaitAt) → IsFront (map request_of ops) asked → (more : List WaitAt) × (ops_of (sync_lists_of scene) client ≡ ops ++ more)
  asked_operations lt ops front =
      let far = h.clause.so_far in
      let rs = map request_of ops in
      let all : requests_in (far ++ left_in h.core) ≡ asked ++ requests_in (left_in h.core) =
      requests_append far (left_in h.core) ∙ ap (λ (xs : List Request). xs ++ requests_in (left_in h.core)) (sym h.clause.requests) in
      let long : IsFront rs (requests_in (far ++ left_in h.core)) = longer_front rs asked (requests_in (far ++ left_in h.core)) (requests_in (left_in h.core)) front all in
      let parted : requests_in (far ++ left_in h.core) ≡ requests_in cut.kept ++ requests_in cut.lasts = ap requests_in cut.items_are ∙ requests_append cut.kept cut.lasts in
      let kept : IsFront rs (requests_in cut.kept) =
      before_last is_last_request rs (requests_in cut.kept) (requests_in cut.lasts) (subst (λ (xs : List Request). IsFront rs xs) parted long) (none_last ops) cut.last in
      let whole : IsFront rs (requests_of scene client) =
      longer_front rs (requests_in cut.kept) (requests_of scene client) (requests_in cut.more) kept
      (sym ((split scene l client).requests lt) ∙ ap requests_in cut.whole ∙ requests_append cut.kept cut.more) in
      let f = front_of (ops_of (sync_lists_of scene) client) ops whole.0 whole.1 in
      (f.more, f.front)

-- ---- what was granted

-- a front of the entries, or all of them and NoMore
granted_front : (journal : List Entry) (k : ℕ) (told : Bool) → (told ≡ true → k ≡ length journal)
    → IsFront (map (λ e. grant_item.Entry e) (take k journal) ++ cond told (grant_item.NoMore ∷ []) []) (all_grants journal)
granted_front journal k true whole = (
  [],
  sym (append-nil (map (λ e. grant_item.Entry e) (take k journal) ++ grant_item.NoMore ∷ [])
      ∙ ap (λ js. map (λ e. grant_item.Entry e) js ++ grant_item.NoMore ∷ []) (ap (λ n. take n journal) (whole refl) ∙ take-length journal)),
)
granted_front journal k false whole = (
  map (λ e. grant_item.Entry e) (drop k journal) ++ grant_item.NoMore ∷ [],
  ap (λ js. map (λ e. grant_item.Entry e) js ++ grant_item.NoMore ∷ []) (sym (take-append-drop k journal))
      ∙ ap (λ (gs : List Grant). gs ++ grant_item.NoMore ∷ []) (map-append (λ e. grant_item.Entry e) (take k journal) (drop k journal))
      ∙ append_assoc (map (λ e. grant_item.Entry e) (take k journal)) (map (λ e. grant_item.Entry e) (drop k journal)) (grant_item.NoMore ∷ [])
      ∙ ap (λ (gs : List Grant). gs ++ (map (λ e. grant_item.Entry e) (drop k journal) ++ grant_item.NoMore ∷ [])) (sym (append-nil (map (λ e. grant_item.Entry e) (take k journal)))),
)

module _ (split : SequencesAreSplit) (books : LegalBooksHaveLegalJournals) (scene : Scene) (l : Layout) (shown : ℕ → List TilePart) (h : AreShowing scene l shown) where
  abbrev progress : ManagerProgress
  progress = h.managed.clause.progress

  abbrev pub journal_so_far : List Entry
  journal_so_far = progress.book.journal

  abbrev taken : ℕ → List Request
  taken = first_lists (client_count (sync_lists_of scene)) h.received

  right : IsManagerRight (sync_lists_of scene) (tile_count l) taken h.granted progress
  right = h.managed.clause.right

  -- what arrived, and nobody is told to have ended
  abbrev open_book : Book
  open_book = record { arrived = progress.book.arrived; ended = λ client. false; journal = progress.book.journal }

  arrives : (client : ℕ) → client < client_count (sync_lists_of scene) → (more : List WaitAt) × (ops_of (sync_lists_of scene) client ≡ progress.book.arrived client ++ more)
  arrives client low =
      let lt : client < length scene.streams = subst (λ n. client < n) (scene_client_count scene) low in
      let k = right.clients client in
      let here : taken client ≡ h.received client = ap (λ b. cond b (h.received client) []) (lt-ltb client (client_count (sync_lists_of scene)) low) in
      asked_operations split scene l client (h.sent client) (h.asked client) (h.client client lt) lt (progress.book.arrived client)
      (front_of_front (map request_of (progress.book.arrived client)) (h.received client) (h.asked client) (k.rest, sym here ∙ k.arrived) (h.request_lanes client lt))

  past_taken : (client : ℕ) → client_count (sync_lists_of scene) ≤ client → taken client ≡ []
  past_taken client ge = go (nat_lt client (client_count (sync_lists_of scene))) refl
    where
      go : (b : Bool) → nat_lt client (client_count (sync_lists_of scene)) ≡ b → cond b (h.received client) [] ≡ []
      go true e = absurd (let lt = ltb-true client (client_count (sync_lists_of scene)) e in omega (arith, lt, ge))
      go false e = refl

  arrived : HasArrived (sync_lists_of scene) open_book
  arrived = record {
    front = λ client. elim (cases_lt client (client_count (sync_lists_of scene))) [
      | inl low ↦ arrives client low
      | inr ge ↦
          let none = nobody_arrives (sync_lists_of scene) (tile_count l) taken h.granted progress right client (past_taken client ge) in
          ([], ops_past (sync_lists_of scene) client ge ∙ sym (append-nil (progress.book.arrived client) ∙ none))
    ];
    all = λ client is. absurd (true≢false (sym is));
  }

  pub legal_so_far : IsLegal (sync_lists_of scene) journal_so_far
  legal_so_far = books (sync_lists_of scene) open_book arrived h.managed.clause.stands.book.legal

  -- what a tile heard is a front of the journal
  pub heard_so_far : (tile : ℕ) → tile < tile_count l → IsFront (h.heard tile) (all_grants journal_so_far)
  heard_so_far tile lt =
      let k = right.tiles_are tile lt in
      front_of_front (h.heard tile) (h.granted tile) (all_grants journal_so_far) (h.grant_lanes tile lt)
      (subst (λ (gs : List Grant). IsFront gs (all_grants journal_so_far)) (sym k.grants) (granted_front journal_so_far (progress.delivered tile) (progress.told tile) k.whole))
