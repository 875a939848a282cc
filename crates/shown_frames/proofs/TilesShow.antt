-- What a tile has shown stays right, step by step.
use Rattle.std.proofs.Common.{◌≡◌, ℕ, ◌<◌, true, false, cond, List, [], ◌++◌, length, inl, inr, refl, sym, ap, ◌∙◌, subst, arith, append-nil, append_assoc, true≢false, lt-ltb, ◌⊎◌}
use Rattle.std.proofs.lemmas.Bool.{cases_Bool}
use Rattle.std.specs.Prelude.{option_to_list, Ok, Err}
use Rattle.rc_base.specs.Cluster.Parcels.{parcels_of}
use Rattle.rc_base.specs.declared.cluster.TileMoved.{TileMoved}
use Rattle.rc_base.specs.declared.cluster.TilePart.{TilePart}
use Rattle.rc_base.specs.declared.scene.Scene.{Scene}
use Rattle.rc_base.specs.declared.state.Parcel.{Parcel}
use Rattle.rc_base.specs.declared.sync.Grant.{Grant}
use Rattle.rc_base.specs.declared.sync.Entry.{Entry}
use Rattle.rc_base.specs.declared.sync.Entry.TheVariants.{Swap}
use Rattle.rc_base.specs.declared.window.Layout.{Layout}
use Rattle.order_model.specs.Gathering.{all_grants}
use Rattle.plain_lemmas.proofs.Booleans.{false_behind}
use Rattle.plain_lemmas.proofs.Lists.{all_append}
use Rattle.tile_server.specs.Clauses.{shown_in, IsTileClause, TileStepsKeepTheClause}
use Rattle.tile_server.specs.Cores.{is_short, IsTileStep}
use Rattle.tile_server.specs.Deeds.{answer_of, granted_of, taken_of, is_loss, progress_after, IsNextDeed}
use Rattle.tile_server.specs.declared.deed.Taking.TheVariants.{Works, Holds, Closes, Drops, Loses}
use Rattle.tile_server.specs.declared.deed.TileDeed.{TileDeed}
use Rattle.tile_server.specs.declared.deed.TileDeed.TheVariants.{Performs, Shows, Fails, Learns, Takes, Rests, Finishes}
use Rattle.tile_server.specs.declared.tile_core.TileCore.{TileCore}
use Rattle.shown_frames.specs.Shown.{AreBlank, Offers, AreOpen, NoneEnded, ClosesByEnds, HasShown, IsShowing, NewTilesShow, TilesGoOnShowing}
use Rattle.shown_frames.proofs.Fronts.{longer_front, all_of_it, nothing_yet}
use Rattle.shown_frames.proofs.OpenTiles.{deeds_close, due_not_over}

-- ---- a step that shows nothing

module _ (scene : Scene) (l : Layout) (tile : ℕ) where
  -- more is taken and heard, and blank parts come behind
  shown_more : (took took' : ℕ → List Parcel) (heard heard' : List Grant) (parts blank : List TilePart) (taken : ℕ → List Parcel) (granted : List Grant)
      → HasShown scene l tile took heard parts → ((c : ℕ) → c < length scene.streams → took' c ≡ took c ++ taken c) → heard' ≡ heard ++ granted → AreBlank blank
      → HasShown scene l tile took' heard' (parts ++ blank)
  shown_more took took' heard heard' parts blank taken granted h takes hears none = record {
    whole = h.whole;
    blank = h.blank ++ blank;
    parts_are = ap (λ (ps : List TilePart). ps ++ blank) h.parts_are ∙ append_assoc h.whole h.blank blank;
    blank_are = all_append (λ (part : TilePart). part.pixels ≡ []) h.blank blank h.blank_are none;
    core = h.core;
    progress = h.progress;
    took_then = h.took_then;
    heard_then = h.heard_then;
    stood = h.stood;
    none_ended = h.none_ended;
    fronts = λ c lt. longer_front (h.took_then c) (took c) (took' c) (taken c) (h.fronts c lt) (takes c lt);
    front = longer_front h.heard_then heard heard' granted h.front hears;
  }

  -- a part is shown that isn't blank, and no client's End was taken
  shown_now : (core : TileCore) (took : ℕ → List Parcel) (heard : List Grant) (parts : List TilePart) → IsTileClause scene l tile core took heard parts false
      → is_short core ≡ false → NoneEnded (length scene.streams) took → HasShown scene l tile took heard parts
  shown_now core took heard parts h ample unended = record {
    whole = parts;
    blank = [];
    parts_are = sym (append-nil parts);
    blank_are = tt;
    core = core;
    progress = (h.whole ample).0;
    took_then = took;
    heard_then = heard;
    stood = (h.whole ample).1;
    none_ended = unended;
    fronts = λ c lt. all_of_it (took c);
    front = all_of_it heard;
  }

  -- a core that is short promises nothing of its parts
  short_clause : (core : TileCore) (took : ℕ → List Parcel) (heard : List Grant) (parts parts' : List TilePart) → is_short core ≡ true
      → IsTileClause scene l tile core took heard parts false → IsTileClause scene l tile core took heard parts' false
  short_clause core took heard parts parts' short h = record {
    decl = h.decl;
    layout = h.layout;
    tile = h.tile;
    clients = h.clients;
    whole = λ ample. absurd (true≢false (sym short ∙ ample));
  }

-- ---- deeds

-- memory lacks in a deed, or its step answers
lost_or_did : (deed : TileDeed) → ((is_loss deed ≡ true) × (answer_of deed ≡ Err (record {}))) ⊎ ((did : TileMoved) × (answer_of deed ≡ Ok did))
lost_or_did (Performs e) = inr (_, refl)
lost_or_did (Shows part) = inr (_, refl)
lost_or_did Fails = inl (refl, refl)
lost_or_did (Learns g) = inr (_, refl)
lost_or_did (Takes client parcel Works) = inr (_, refl)
lost_or_did (Takes client parcel Holds) = inr (_, refl)
lost_or_did (Takes client parcel Closes) = inr (_, refl)
lost_or_did (Takes client parcel Drops) = inr (_, refl)
lost_or_did (Takes client parcel Loses) = inl (refl, refl)
lost_or_did Rests = inr (_, refl)
lost_or_did Finishes = inr (_, refl)

-- what isn't shown is blank
blank_unless_shown : (deed : TileDeed) (offered : List TilePart) → Offers (answer_of deed) offered → ((part : TilePart) × (deed ≡ Shows part)) ⊎ AreBlank offered
blank_unless_shown (Performs e) offered is = inr (subst AreBlank (sym is) tt)
blank_unless_shown (Shows part) offered is = inl (part, refl)
blank_unless_shown Fails offered is = inr is
blank_unless_shown (Learns g) offered is = inr (subst AreBlank (sym is) tt)
blank_unless_shown (Takes client parcel Works) offered is = inr (subst AreBlank (sym is) tt)
blank_unless_shown (Takes client parcel Holds) offered is = inr (subst AreBlank (sym is) tt)
blank_unless_shown (Takes client parcel Closes) offered is = inr (subst AreBlank (sym is) tt)
blank_unless_shown (Takes client parcel Drops) offered is = inr (subst AreBlank (sym is) tt)
blank_unless_shown (Takes client parcel Loses) offered is = inr is
blank_unless_shown Rests offered is = inr (subst AreBlank (sym is) tt)
blank_unless_shown Finishes offered is = inr (subst AreBlank (sym is) tt)

module _ (keeps : TileStepsKeepTheClause) (scene : Scene) (l : Layout) (tile : ℕ) (core : TileCore) (deed : TileDeed) (later : TileCore)
    (took took' : ℕ → List Parcel) (heard heard' : List Grant) (parts offered : List TilePart)
    (h : IsShowing scene l tile core took heard parts) (step : IsTileStep core deed later)
    (takes : (c : ℕ) → c < length scene.streams → took' c ≡ took c ++ option_to_list (taken_of deed c))
    (hears : heard' ≡ heard ++ option_to_list (granted_of deed)) (offers : Offers (answer_of deed) offered) where
  abbrev count : ℕ
  count = length scene.streams

  next : IsNextDeed (is_short core) h.progress deed
  next = step.first h.progress h.stands

  clause_shown : IsTileClause scene l tile later took' heard' (parts ++ shown_in (answer_of deed)) false
  clause_shown =
      keeps scene l tile core deed later took took' heard heard' parts (parts ++ shown_in (answer_of deed)) false false h.clause step takes hears refl
      (λ e. absurd (true≢false (sym e)))

  clause_now : IsTileClause scene l tile later took' heard' (parts ++ offered) false
  clause_now = elim (lost_or_did deed) [
    | inl lost ↦
        let short : is_short later ≡ true = step.short ∙ ap (λ b. cond b true (is_short core)) lost.0 in
        short_clause scene l tile later took' heard' (parts ++ shown_in (answer_of deed)) (parts ++ offered) short clause_shown
    | inr did ↦
        let is : offered ≡ shown_in (answer_of deed) = subst (λ r. Offers r offered) did.1 offers ∙ ap shown_in (sym did.1) in
        subst (λ (ps : List TilePart). IsTileClause scene l tile later took' heard' (parts ++ ps) false) (sym is) clause_shown
  ]

  -- ---- where it isn't short

  module _ (ample : is_short later ≡ false) where
    before : is_short core ≡ false
    before = false_behind (is_loss deed) (is_short core) (sym step.short ∙ ample)

    next_ample : IsNextDeed false h.progress deed
    next_ample = subst (λ b. IsNextDeed b h.progress deed) before next

    closes_now : ClosesByEnds count (progress_after (is_short later) h.progress deed) took'
    closes_now = subst (λ b. ClosesByEnds count (progress_after b h.progress deed) took') (sym ample) (deeds_close count h.progress took (h.closes before) deed took' next_ample takes)

  -- ---- a Swap

  -- where a part is shown each client is held, so none is closed
  none_ended : (part : TilePart) → deed ≡ Shows part → (c : ℕ) → c < count → AreOpen (took' c)
  none_ended part is c lt =
      let shows : IsNextDeed (is_short core) h.progress (Shows part) = subst (λ x. IsNextDeed (is_short core) h.progress x) is next in
      let p = h.progress in
      let clients : p.count ≡ count = h.stands.ledger.count ∙ h.clause.clients in
      let closes = h.closes shows.0 in
      let held : p.held c ≡ true = shows.1.1 c (lt-ltb c p.count (omega (arith, clients, lt))) in
      let unended : AreOpen (took c) = elim (cases_Bool (p.closed c)) [
        | inl t ↦ absurd (true≢false (sym held ∙ closes.unheld c lt t (due_not_over p Swap shows.1.0)))
        | inr f ↦ closes.unended c lt f
      ] in
      let nothing : took' c ≡ took c ++ [] = subst (λ x. took' c ≡ took c ++ option_to_list (taken_of x c)) is (takes c lt) in
      subst AreOpen (sym (nothing ∙ append-nil (took c))) unended

  shown_after : HasShown scene l tile took' heard' (parts ++ offered)
  shown_after = elim (blank_unless_shown deed offered offers) [
    | inl shows ↦
        let ample_before : is_short core ≡ false = (subst (λ x. IsNextDeed (is_short core) h.progress x) shows.1 next).0 in
        let ample : is_short later ≡ false = step.short ∙ ap (λ x. cond (is_loss x) true (is_short core)) shows.1 ∙ ample_before in
        shown_now scene l tile later took' heard' (parts ++ offered) clause_now ample (none_ended shows.0 shows.1)
    | inr none ↦
        shown_more scene l tile took took' heard heard' parts offered (λ c. option_to_list (taken_of deed c)) (option_to_list (granted_of deed)) h.shown takes hears none
  ]

  shows_on : IsShowing scene l tile later took' heard' (parts ++ offered)
  shows_on = record {
    clause = clause_now;
    progress = progress_after (is_short later) h.progress deed;
    stands = step.after h.progress h.stands;
    closes = closes_now;
    shown = shown_after;
  }

pub tiles_go_on : TileStepsKeepTheClause → TilesGoOnShowing
tiles_go_on keeps scene l tile core deed later took took' heard heard' parts offered h step takes hears offers =
    shows_on keeps scene l tile core deed later took took' heard heard' parts offered h step takes hears offers

-- ---- at first

pub new_tiles : NewTilesShow
new_tiles scene l tile core took heard parts range sides clause ample untaken unheard unshown =
    let p = (clause.whole ample).0 in
    let at = (clause.whole ample).1 in
    let journal : List Entry = [] in
    let right = at.right range sides journal tt (λ c lt. nothing_yet (took c) (parcels_of scene l c tile) (untaken c lt)) (nothing_yet heard (all_grants journal) unheard) in
    let unended : (c : ℕ) → c < length scene.streams → AreOpen (took c) = λ c lt. subst AreOpen (sym (untaken c lt)) tt in
    record {
      clause = clause;
      progress = p;
      stands = at.progress;
      closes = λ short. record {
        unended = λ c lt not_closed. unended c lt;
        unheld = λ c lt is over. elim (cases_Bool (p.held c)) [
          | inl held ↦ absurd (let taken = at.taken c lt in let none = ap length (untaken c lt) in let some = (right.stands.stands.progress.clients c).taken_so held in omega (arith, taken, none, some))
          | inr free ↦ free
        ];
      };
      shown = shown_now scene l tile core took heard parts clause ample unended;
    }
