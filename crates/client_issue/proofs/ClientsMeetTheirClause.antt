-- A client's core meets its clause at first and after each step; and what follows where it has ended.
use Rattle.std.proofs.Common.{◌≡◌, ◌≢◌, ℕ, ◌<◌, ◌==◌, Bool, true, false, List, [], ◌∷◌, ◌++◌, length, inl, inr, refl, sym, ap, ◌∙◌, subst, arith, append_assoc, append-nil, eqb-true, eq-eqb, true≢false}
use Rattle.std.specs.Prelude.{slice_index_or, Ok}
use Rattle.std.proofs.lemmas.Bool.{cases_Bool}
use Rattle.rc_base.specs.Cluster.Parcels.{parcels_of}
use Rattle.rc_base.specs.Cluster.Sending.{Sending, ToTile, ToManager, parcels_to, requests_in, sent_by}
use Rattle.rc_base.specs.Cluster.Tiles.{tile_count}
use Rattle.rc_base.specs.declared.cluster.ClientMoved.TheVariants as moved
use Rattle.rc_base.specs.declared.scene.Scene.{Scene}
use Rattle.rc_base.specs.declared.state.Parcel.{Parcel}
use Rattle.rc_base.specs.declared.sync.Request.{Request}
use Rattle.rc_base.specs.declared.window.Layout.{Layout}
use Rattle.scene_lemmas.proofs.Sendings.{parcels_append, requests_append}
use Rattle.client_issue.specs.Clauses.{counted, IsSequenceOf, IsClientClause, NewClientsMeetTheirClause, ClientStepsOverLanesKeepTheClause, ClientsAreUnderWay, EndedClientsAreDone}
use Rattle.client_issue.specs.Cores.{left_in, looks_of, short_of, tally_after, tally_of_tile, AreSameTallies, IsClientOf, IsSameCore, IsTallied}
use Rattle.client_issue.specs.Deeds.{answer_of, ClientDeed}
use Rattle.client_issue.specs.Deeds.ClientDeed.{Appends, Requests, FindsTileFull, FindsManagerFull, Finishes, Loses}
use Rattle.client_issue.specs.Steps.{AreSent, IsClientStep, IsCutShort, IsFoundFull, IsLaneAlone, IsRequested}
use Rattle.client_issue.specs.declared.client.ClientCore.{ClientCore}
use Rattle.client_issue.proofs.Tallies.{counted_more, looks_are}
use Rattle.client_issue.proofs.Split.{all_to, all_asked}

-- ---- at first

pub new_clause : NewClientsMeetTheirClause
new_clause scene l client core sent asked whose ample left tallies unsent unasked = record {
  whose = whose;
  so_far = [];
  sequence = subst (λ (b : Bool). IsSequenceOf b scene l client (left_in core)) (sym ample) (sym left);
  parcels = unsent;
  requests = unasked;
  tallies = λ t lt. tallies t ∙ sym (ap (counted scene l client t) (unsent t lt));
  over = λ e. absurd (true≢false (sym e));
}

-- ---- a step

one_to : (tile k : ℕ) (p : Parcel) → (tile == k) ≡ true → parcels_to tile (ToTile k p ∷ []) ≡ p ∷ []
one_to tile k p t = rw t refl

none_to : (tile k : ℕ) (p : Parcel) → (tile == k) ≡ false → parcels_to tile (ToTile k p ∷ []) ≡ []
none_to tile k p f = rw f refl

module _ (scene : Scene) (l : Layout) (client : ℕ) (core later : ClientCore) (sent sent' : ℕ → List Parcel) (asked asked' : List Request) (ended ended' : Bool)
    (h : IsClientClause scene l client core sent asked ended) (same_core : IsSameCore core later) (over : ended' ≡ true → left_in later ≡ []) where
  still_whose : IsClientOf later scene client l
  still_whose = record {
    decl = same_core.decl ∙ h.whose.decl;
    stream = same_core.stream ∙ h.whose.stream;
    layout = same_core.layout ∙ h.whose.layout;
  }

  still : (so_far : List Sending) → short_of later ≡ short_of core → so_far ++ left_in later ≡ h.so_far ++ left_in core
      → IsSequenceOf (short_of later) scene l client (so_far ++ left_in later)
  still so_far short e =
      subst (λ (b : Bool). IsSequenceOf b scene l client (so_far ++ left_in later)) (sym short)
      (subst (λ (items : List Sending). IsSequenceOf (short_of core) scene l client items) (sym e) h.sequence)

  moved_on : (item : Sending) → left_in core ≡ item ∷ left_in later → (h.so_far ++ item ∷ []) ++ left_in later ≡ h.so_far ++ left_in core
  moved_on item next = append_assoc h.so_far (item ∷ []) (left_in later) ∙ ap (λ (rest : List Sending). h.so_far ++ rest) (sym next)

  -- the next item went to a tile
  parcel_goes : (t : ℕ) (p : Parcel) → short_of later ≡ short_of core → left_in core ≡ ToTile t p ∷ left_in later
      → ((tile : ℕ) → tile < tile_count l → tile ≡ t → sent' tile ≡ sent tile ++ p ∷ []) → ((tile : ℕ) → tile < tile_count l → tile ≢ t → sent' tile ≡ sent tile)
      → asked' ≡ asked → IsTallied core later t p → IsClientClause scene l client later sent' asked' ended'
  parcel_goes t p short next here others same tallied =
      let item : List Sending = ToTile t p ∷ [] in
      let off : (tile : ℕ) → (tile == t) ≡ false → tile ≢ t = λ tile f e. (let same = eq-eqb tile t e in absurd cc) in
      record {
        whose = still_whose;
        so_far = h.so_far ++ item;
        sequence = still (h.so_far ++ item) short (moved_on (ToTile t p) next);
        parcels = λ tile lt. elim (cases_Bool (tile == t)) [
          | inl y ↦
              here tile lt (eqb-true tile t y) ∙ ap (λ (ps : List Parcel). ps ++ p ∷ []) (h.parcels tile lt)
              ∙ ap (λ (ps : List Parcel). parcels_to tile h.so_far ++ ps) (sym (one_to tile t p y)) ∙ sym (parcels_append tile h.so_far item)
          | inr f ↦
              others tile lt (off tile f) ∙ h.parcels tile lt ∙ sym (append-nil (parcels_to tile h.so_far))
              ∙ ap (λ (ps : List Parcel). parcels_to tile h.so_far ++ ps) (sym (none_to tile t p f)) ∙ sym (parcels_append tile h.so_far item)
        ];
        requests = same ∙ h.requests ∙ sym (append-nil (requests_in h.so_far)) ∙ sym (requests_append h.so_far item);
        tallies = λ tile lt. elim (cases_Bool (tile == t)) [
          | inl y ↦
              let e : tile ≡ t = eqb-true tile t y in
              ap (tally_of_tile later) e ∙ tallied.counted ∙ ap (λ k. tally_after (tally_of_tile core k) p (looks_of core k p)) (sym e)
              ∙ (λ i. tally_after (h.tallies tile lt i) p (looks_are core scene client l h.whose tile p i)) ∙ sym (counted_more scene l client tile (sent tile) p)
              ∙ ap (counted scene l client tile) (sym (here tile lt e))
          | inr f ↦
              tallied.others tile (off tile f) ∙ h.tallies tile lt ∙ ap (counted scene l client tile) (sym (others tile lt (off tile f)))
        ];
        over = over;
      }

  -- the next item went to the manager
  request_goes : (r : Request) → short_of later ≡ short_of core → left_in core ≡ ToManager r ∷ left_in later
      → ((tile : ℕ) → tile < tile_count l → sent' tile ≡ sent tile) → asked' ≡ asked ++ r ∷ [] → AreSameTallies core later
      → IsClientClause scene l client later sent' asked' ended'
  request_goes r short next same grown tallies =
      let item : List Sending = ToManager r ∷ [] in
      record {
        whose = still_whose;
        so_far = h.so_far ++ item;
        sequence = still (h.so_far ++ item) short (moved_on (ToManager r) next);
        parcels = λ tile lt. same tile lt ∙ h.parcels tile lt ∙ sym (append-nil (parcels_to tile h.so_far)) ∙ sym (parcels_append tile h.so_far item);
        requests = grown ∙ ap (λ (rs : List Request). rs ++ r ∷ []) h.requests ∙ sym (requests_append h.so_far item);
        tallies = λ tile lt. tallies tile ∙ h.tallies tile lt ∙ ap (counted scene l client tile) (sym (same tile lt));
        over = over;
      }

  -- nothing went
  nothing_goes : IsSequenceOf (short_of later) scene l client (h.so_far ++ left_in later) → ((tile : ℕ) → tile < tile_count l → sent' tile ≡ sent tile) → asked' ≡ asked
      → AreSameTallies core later → IsClientClause scene l client later sent' asked' ended'
  nothing_goes sequence same unasked tallies = record {
    whose = still_whose;
    so_far = h.so_far;
    sequence = sequence;
    parcels = λ tile lt. same tile lt ∙ h.parcels tile lt;
    requests = unasked ∙ h.requests;
    tallies = λ tile lt. tallies tile ∙ h.tallies tile lt ∙ ap (counted scene l client tile) (sym (same tile lt));
    over = over;
  }

  rests : short_of later ≡ short_of core → left_in later ≡ left_in core → IsSequenceOf (short_of later) scene l client (h.so_far ++ left_in later)
  rests short left = still h.so_far short (ap (λ (rest : List Sending). h.so_far ++ rest) left)

  -- memory lacked
  cut : short_of core ≡ false → short_of later ≡ true → IsCutShort core later → IsSequenceOf (short_of later) scene l client (h.so_far ++ left_in later)
  cut ample lacks c =
      let ends = c.ends scene client l still_whose in
      let all : sent_by scene l client ≡ h.so_far ++ left_in core = subst (λ (b : Bool). IsSequenceOf b scene l client (h.so_far ++ left_in core)) ample h.sequence in
      subst (λ (b : Bool). IsSequenceOf b scene l client (h.so_far ++ left_in later)) (sym lacks) (record {
        kept = h.so_far;
        dropped = c.dropped;
        whole = all ∙ ap (λ (rest : List Sending). h.so_far ++ rest) (c.left ∙ ap (λ (rest : List Sending). c.dropped ++ rest) ends);
        cut = ap (λ (rest : List Sending). h.so_far ++ rest) ends;
      })

module _ {P Q : Type 0} (sent : P → List Parcel) (full_seen : P → ℕ) (full : P → Type 0) (asked : Q → List Request) (asked_full_seen : Q → ℕ) (asked_full : Q → Type 0) where
  module _ (scene : Scene) (l : Layout) (client : ℕ) (core later : ClientCore) (d : P) (tiles tiles' : List P) (requests requests' : Q) (ended ended' : Bool)
      (count : length tiles ≡ tile_count l) (h : IsClientClause scene l client core (λ tile. sent (slice_index_or tiles tile d)) (asked requests) ended) where
    abbrev listed : List P → ℕ → List Parcel
    listed lanes tile = sent (slice_index_or lanes tile d)

    abbrev Clause : Type 0
    Clause = IsClientClause scene l client later (listed tiles') (asked requests') ended'

    within : (tile : ℕ) → tile < tile_count l → tile < length tiles
    within tile lt = omega (arith, count, lt)

    same_lanes : tiles' ≡ tiles → (tile : ℕ) → tile < tile_count l → listed tiles' tile ≡ listed tiles tile
    same_lanes e tile lt = ap (λ (xs : List P). sent (slice_index_or xs tile d)) e

    blocked_same : (t : ℕ) → IsLaneAlone t (IsFoundFull sent full_seen full) tiles tiles' → (tile : ℕ) → tile < tile_count l → listed tiles' tile ≡ listed tiles tile
    blocked_same t b tile lt = elim (cases_Bool (tile == t)) [
      | inl y ↦ (b.here.at tile d (within tile lt) (eqb-true tile t y)).same
      | inr f ↦ ap sent (b.others.at tile d (within tile lt) (λ e. let same = eq-eqb tile t e in absurd cc))
    ]

    keeps : (deed : ClientDeed) → (ended' ≡ true → answer_of deed ≡ Ok moved.Ended) → IsClientStep core deed later
        → AreSent sent full_seen full deed tiles tiles' → IsRequested asked asked_full_seen asked_full deed requests requests' → Clause
    keeps (Appends t p) said s a b =
        parcel_goes scene l client core later (listed tiles) (listed tiles') (asked requests) (asked requests') ended ended' h s.same (λ e. let x = said e in absurd cc)
        t p s.short s.next.1 (λ tile lt e. (a.here.at tile d (within tile lt) e).appended) (λ tile lt ne. ap sent (a.others.at tile d (within tile lt) ne)) (ap asked b) s.tallied
    keeps (Requests r) said s a b =
        request_goes scene l client core later (listed tiles) (listed tiles') (asked requests) (asked requests') ended ended' h s.same (λ e. let x = said e in absurd cc)
        r s.short s.next (same_lanes a) b.appended s.tallied
    keeps (FindsTileFull t p) said s a b =
        let over : ended' ≡ true → left_in later ≡ [] = λ e. (let x = said e in absurd cc) in
        nothing_goes scene l client core later (listed tiles) (listed tiles') (asked requests) (asked requests') ended ended' h s.same over
        (rests scene l client core later (listed tiles) (listed tiles') (asked requests) (asked requests') ended ended' h s.same over s.short s.next.2)
        (blocked_same t a) (ap asked b) s.tallied
    keeps (FindsManagerFull r) said s a b =
        let over : ended' ≡ true → left_in later ≡ [] = λ e. (let x = said e in absurd cc) in
        nothing_goes scene l client core later (listed tiles) (listed tiles') (asked requests) (asked requests') ended ended' h s.same over
        (rests scene l client core later (listed tiles) (listed tiles') (asked requests) (asked requests') ended ended' h s.same over s.short s.next.1)
        (same_lanes a) b.same s.tallied
    keeps Finishes said s a b =
        let over : ended' ≡ true → left_in later ≡ [] = λ e. s.next.1 in
        nothing_goes scene l client core later (listed tiles) (listed tiles') (asked requests) (asked requests') ended ended' h s.same over
        (rests scene l client core later (listed tiles) (listed tiles') (asked requests) (asked requests') ended ended' h s.same over s.short (s.next.1 ∙ sym s.next.0))
        (same_lanes a) (ap asked b) s.tallied
    keeps Loses said s a b =
        let over : ended' ≡ true → left_in later ≡ [] = λ e. (let x = said e in absurd cc) in
        let may = s.ample refl in
        nothing_goes scene l client core later (listed tiles) (listed tiles') (asked requests) (asked requests') ended ended' h s.same over
        (cut scene l client core later (listed tiles) (listed tiles') (asked requests) (asked requests') ended ended' h s.same over may.ample s.short s.next)
        (same_lanes a) (ap asked b) s.tallied

  pub step_clause : ClientStepsOverLanesKeepTheClause sent full_seen full asked asked_full_seen asked_full
  step_clause scene l client d deed before after h s =
      keeps scene l client before.core after.core d before.tiles after.tiles before.requests after.requests before.ended after.ended
      (s.count ∙ ap tile_count h.whose.layout) h deed s.ends s.step s.appended s.requested

-- ---- the end

pub under_way : ClientsAreUnderWay
under_way scene l client core sent asked ended h ample =
    let all : sent_by scene l client ≡ h.so_far ++ left_in core = subst (λ (b : Bool). IsSequenceOf b scene l client (h.so_far ++ left_in core)) ample h.sequence in
    record {
      parcels = λ tile lt.
          sym (all_to scene l client tile lt) ∙ ap (parcels_to tile) all ∙ parcels_append tile h.so_far (left_in core)
          ∙ ap (λ (ps : List Parcel). ps ++ parcels_to tile (left_in core)) (sym (h.parcels tile lt));
      requests = λ lt.
          sym (all_asked scene l client lt) ∙ ap requests_in all ∙ requests_append h.so_far (left_in core)
          ∙ ap (λ (rs : List Request). rs ++ requests_in (left_in core)) (sym h.requests);
    }

pub done : EndedClientsAreDone
done scene l client core sent asked h ample =
    let u = under_way scene l client core sent asked true h ample in
    let none = h.over refl in
    let parcels : (tile : ℕ) → tile < tile_count l → sent tile ≡ parcels_of scene l client tile =
    λ tile lt. sym (append-nil (sent tile)) ∙ ap (λ (items : List Sending). sent tile ++ parcels_to tile items) (sym none) ∙ sym (u.parcels tile lt) in
    record {
      nothing = none;
      parcels = parcels;
      requests = λ lt. sym (append-nil asked) ∙ ap (λ (items : List Sending). asked ++ requests_in items) (sym none) ∙ sym (u.requests lt);
      tallies = λ tile lt. h.tallies tile lt ∙ ap (counted scene l client tile) (parcels tile lt);
    }
