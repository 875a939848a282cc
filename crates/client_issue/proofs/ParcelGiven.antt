-- A client after it has given a parcel to a tile.
use Rattle.std.proofs.Common.{◌≡◌, ◌≢◌, ◌∙◌, ℕ, ◌+◌, ◌<◌, ◌≤◌, true, false, List, [], ◌∷◌, ◌++◌, length, Some, None, refl, sym, ap, subst, arith, inl, inr, append-nil, eq-eqb}
use Rattle.std.proofs.Math.Logic.{∥∥₁_elim, ∥∥₁_map}
use Rattle.std.proofs.Props.{props}
use Rattle.std.specs.Prelude.{IfSome, map, not, ◌==◌, ◌&&◌, ◌||◌, Bool}
use Rattle.std.specs.declared.option.Option.{Option}
use Rattle.std.specs.Option.{option_map_or}
use Rattle.std.proofs.lemmas.Bool.{cases_lt, ne_eqb}
use Rattle.std.proofs.Math.Bool.{and-true}
use Rattle.rc_base.specs.Contexts.Context.{ClientContext}
use Rattle.rc_base.specs.Contexts.Issue.{context_after, effect_at}
use Rattle.rc_base.specs.Orders.Journal.{has}
use Rattle.rc_base.specs.Cluster.Tiles.{tile_count}
use Rattle.rc_base.specs.Contexts.Elements.{element_count, same_value, value_in}
use Rattle.rc_base.specs.Cluster.Looks.{is_pending, looks_at}
use Rattle.rc_base.specs.Cluster.Parcels.{told, parcels_at, parcels_before}
use Rattle.rc_base.specs.Cluster.Sending.{Sending, ToTile}
use Rattle.rc_base.specs.declared.state.Act.{Act}
use Rattle.rc_base.specs.declared.state.ElementSet.{ElementSet}
use Rattle.rc_base.specs.declared.state.ElementValue.{ElementValue}
use Rattle.rc_base.specs.declared.state.Parcel.{Parcel}
use Rattle.gl_context.specs.Streams.{StreamsGoOnByIssue}
use Rattle.gl_context.specs.Valid.{ContextsOfStreamsAreValid}
use Rattle.state_update.specs.Knowledge.{HasBoundTexture, IsSettled, Knows, Tracked, after_sets, pending}
use Rattle.state_update.specs.Streams.{ElementsNotPendingWereTold, KnownValuesAreAlike, ParcelsTellTheirSets, ValidContextsHaveTheirTexture}
use Rattle.client_issue.specs.Acts.{goes_to, asks_of, act_looks, act_sets, examines}
use Rattle.client_issue.specs.Sequence.{scene_of, sent_to, sent_from_tile, sent_from, request_items, left_with, left_of, heard, IsMade, IsSendingWith}
use Rattle.client_issue.specs.declared.pending.Pending.{Pending}
use Rattle.client_issue.specs.declared.sender.Sender.{Sender}
use Rattle.client_issue.proofs.Giving.{tail_next, tail_end, skipped_to, nothing_sent, no_parcel, parcel_is, before_next, leaves_sets}
use Rattle.client_issue.proofs.Issuing.{heard_less, heard_more}
use Rattle.client_issue.proofs.Marking.{given_pending, looks_given, quiet_pending, unmarked}

HasBoundTexture-prop : (x : ClientContext) → IsProp (HasBoundTexture x)
HasBoundTexture-prop x = hlevel props

pub bound_texture : (s : Sender) (o : Option Pending) → ContextsOfStreamsAreValid → ValidContextsHaveTheirTexture → IsSendingWith s o → HasBoundTexture s.context
bound_texture s o valid textures h =
    let x = context_after (scene_of s) 0 s.issued in
    subst HasBoundTexture (sym h.context)
    (∥∥₁_elim {P = HasBoundTexture x} h.commands (HasBoundTexture-prop x) (λ commands. textures s.decl x (valid (scene_of s) (commands, tt) 0 s.issued)))

in_count : (s : Sender) (p : Pending) → IsSendingWith s (Some p) → p.tile < s.count
in_count s p h = let e = h.count in let t = h.pending.tile in omega (arith, e, t)

-- before its parcel, what is pending to the tile is what is pending before the command
pub marked_before : (s : Sender) (p : Pending) → IsSendingWith s (Some p) → (e : ℕ) → e < element_count
    → pending s.tracker p.tile e ≡ is_pending (scene_of s) s.layout 0 p.tile p.place e
marked_before s p h e few =
    h.marked p.tile e (in_count s p h) few
    ∙ ap (λ (n : ℕ). is_pending (scene_of s) s.layout 0 p.tile n e) (heard_more p s.issued p.tile (omega arith))

-- what the code did: a tile got these sets, and the next tile was found
pub record IsGiven (s : Sender) (p : Pending) (tracker : Tracked) (sets : List ElementSet) (next : ℕ) : Type 0 where
  pub law : StreamsGoOnByIssue
  pub follow : ParcelsTellTheirSets
  pub sending : IsSendingWith s (Some p)
  pub low : p.tile + 1 ≤ next
  pub high : next ≤ s.count
  pub none : (t : ℕ) → p.tile + 1 ≤ t → t < next → has p.tiles t ≡ false
  pub count : length tracker.told ≡ length s.tracker.told
  pub sets_are : (values : ℕ → ElementValue) → Knows s.tracker p.tile values → sets ≡ act_sets values s.context p.act
  pub told_now : (values : ℕ → ElementValue) → Knows s.tracker p.tile values → Knows tracker p.tile (after_sets values (act_sets values s.context p.act))
  pub others : (other : ℕ) (values : ℕ → ElementValue) → other ≢ p.tile → Knows s.tracker other values → Knows tracker other values
  pub examined : (t e : ℕ) → t < 32 → pending tracker t e ≡ (pending s.tracker t e && not (t == p.tile && examines s.context p.act e))

abbrev earlier : Sender → Pending → ℕ → List Parcel
earlier s p tile = parcels_before (scene_of s) s.layout 0 tile p.place

abbrev values_of : Sender → Pending → ℕ → ElementValue
values_of s p = told s.decl (earlier s p p.tile)

abbrev pub parcel_by : Pending → List ElementSet → Parcel
parcel_by p sets = record { place = p.place; sets = sets; act = p.act }

knows_tile : (s : Sender) (p : Pending) → IsSendingWith s (Some p) → ∥ Knows s.tracker p.tile (values_of s p) ∥₁
knows_tile s p h =
    subst (λ (n : ℕ). ∥ Knows s.tracker p.tile (told s.decl (parcels_before (scene_of s) s.layout 0 p.tile n)) ∥₁) (heard_more p s.issued p.tile (omega arith))
    (h.known p.tile (in_count s p h))

-- each element that isn't pending to the tile is, in the context, what the tile was told
pub settled : (s : Sender) (p : Pending) → StreamsGoOnByIssue → ElementsNotPendingWereTold → KnownValuesAreAlike → IsSendingWith s (Some p) → IsSettled s.tracker p.tile s.context
settled s p law told_by alike h values known e few quiet =
    let parcels = h.pending in
    let scene = scene_of s in
    let value : value_in s.context e ≡ value_in (context_after scene 0 p.place) e =
    ap (λ (y : ClientContext). value_in y e) (h.context ∙ ap (context_after scene 0) parcels.last) ∙ (leaves_sets law scene p.place p.act parcels.asks).values e in
    ∥∥₁_elim (knows_tile s p h) (hlevel props) (λ told_values. alike s.tracker p.tile values (values_of s p) known told_values e few (value_in s.context e))
    ∙ ap (same_value (values_of s p e)) value
    ∙ told_by scene s.layout 0 p.tile p.place e few (sym (marked_before s p h e few) ∙ quiet)

-- the looks of its parcel
pub looks_of_parcel : (s : Sender) (p : Pending) → IsSendingWith s (Some p) → act_looks (pending s.tracker p.tile) p.act ≡ looks_at (scene_of s) s.layout 0 p.tile p.place
looks_of_parcel s p h =
    let parcels = h.pending in
    looks_given (scene_of s) s.layout p.tile p.place p.act (pending s.tracker p.tile) parcels.asks (sym (parcels.goes p.tile parcels.tile) ∙ parcels.met) (marked_before s p h)

sets_given : (s : Sender) (p : Pending) (tracker : Tracked) (sets : List ElementSet) (next : ℕ) → IsGiven s p tracker sets next
    → sets ≡ act_sets (values_of s p) (context_after (scene_of s) 0 p.place) p.act
sets_given s p tracker sets next h =
    let pending = h.sending.pending in
    ∥∥₁_elim (knows_tile s p h.sending) (hlevel props) (λ known. h.sets_are (values_of s p) known)
    ∙ ap (λ (x : ClientContext). act_sets (values_of s p) x p.act) (h.sending.context ∙ ap (context_after (scene_of s) 0) pending.last)
    ∙ (leaves_sets h.law (scene_of s) p.place p.act pending.asks).sets (values_of s p)

parcel_given : (s : Sender) (p : Pending) (tracker : Tracked) (sets : List ElementSet) (next : ℕ) → IsGiven s p tracker sets next
    → parcels_at (scene_of s) s.layout 0 p.tile p.place (earlier s p p.tile) ≡ parcel_by p sets ∷ []
parcel_given s p tracker sets next h =
    let pending = h.sending.pending in
    parcel_is (scene_of s) s.layout p.tile p.place p.act pending.asks (sym (pending.goes p.tile pending.tile) ∙ pending.met)
    ∙ ap (λ (more : List ElementSet). parcel_by p more ∷ []) (sym (sets_given s p tracker sets next h))

not_asked : (s : Sender) (p : Pending) (tracker : Tracked) (sets : List ElementSet) (next : ℕ) → IsGiven s p tracker sets next
    → (t : ℕ) → p.tile + 1 ≤ t → t < next → asks_of s.layout (context_after (scene_of s) 0 p.place).state (effect_at (scene_of s) 0 p.place) t ≡ false
not_asked s p tracker sets next h t low high =
    let pending = h.sending.pending in
    let e = h.sending.count in
    let within : t < tile_count s.layout = let m = h.high in omega (arith, high, m, e) in
    ap (λ (o : Option Act). option_map_or (λ a. goes_to s.layout (context_after (scene_of s) 0 p.place).state a t) o false) pending.asks
    ∙ sym (pending.goes t within) ∙ h.none t low high

-- ---- what is left

pub given_left : (s : Sender) (p : Pending) (tracker : Tracked) (sets : List ElementSet) (next : ℕ) → IsGiven s p tracker sets next
    → left_with s (Some p) ≡ ToTile p.tile (parcel_by p sets) ∷ (sent_from_tile (scene_of s) s.layout p.place next ++ (request_items s.request ++ sent_from (scene_of s) s.layout s.issued))
unfolding left_with
given_left s p tracker sets next h =
    let scene = scene_of s in
    let l = s.layout in
    let e = h.sending.count in
    let m = h.high in
    let this : sent_to scene l p.place p.tile ≡ ToTile p.tile (parcel_by p sets) ∷ [] =
    ap (λ (ps : List Parcel). map (λ (q : Parcel). ToTile p.tile q) ps) (parcel_given s p tracker sets next h) in
    let rest : sent_from_tile scene l p.place (p.tile + 1) ≡ sent_from_tile scene l p.place next =
    skipped_to scene l p.place (p.tile + 1) next h.low (omega (arith, e, m)) (λ t low high. nothing_sent scene l t p.place (not_asked s p tracker sets next h t low high)) in
    ap (λ (items : List Sending). items ++ (request_items s.request ++ sent_from scene l s.issued))
    (tail_next scene l p.place p.tile h.sending.pending.tile ∙ (λ i. this i ++ rest i))

pub last_left : (s : Sender) (p : Pending) (next : ℕ) → IsSendingWith s (Some p) → next ≡ s.count → sent_from_tile (scene_of s) s.layout p.place next ≡ []
last_left s p next h last = let e = h.count in tail_end (scene_of s) s.layout p.place next (omega (arith, last, e))

-- ---- what is known

known_told : (s : Sender) (p : Pending) (tracker : Tracked) (sets : List ElementSet) (next : ℕ) → IsGiven s p tracker sets next
    → Knows s.tracker p.tile (values_of s p) → Knows tracker p.tile (told s.decl (parcels_before (scene_of s) s.layout 0 p.tile s.issued))
known_told s p tracker sets next h known =
    let pending = h.sending.pending in
    let now = h.told_now (values_of s p) known in
    let same = h.sets_are (values_of s p) known in
    let told_sets : Knows tracker p.tile (after_sets (values_of s p) sets) = subst (λ (more : List ElementSet). Knows tracker p.tile (after_sets (values_of s p) more)) (sym same) now in
    let after : Knows tracker p.tile (told s.decl (earlier s p p.tile ++ parcel_by p sets ∷ [])) = h.follow tracker p.tile s.decl (earlier s p p.tile) (parcel_by p sets) told_sets in
    let all : parcels_before (scene_of s) s.layout 0 p.tile s.issued ≡ earlier s p p.tile ++ parcel_by p sets ∷ [] =
    ap (parcels_before (scene_of s) s.layout 0 p.tile) pending.last ∙ before_next (scene_of s) s.layout p.tile p.place
    ∙ ap (λ (ps : List Parcel). earlier s p p.tile ++ ps) (parcel_given s p tracker sets next h) in
    subst (λ (ps : List Parcel). Knows tracker p.tile (told s.decl ps)) (sym all) after

known_old : (s : Sender) (p : Pending) (tracker : Tracked) (sets : List ElementSet) (next : ℕ) → IsGiven s p tracker sets next
    → (tile n : ℕ) → tile < s.count → tile ≢ p.tile → heard (Some p) s.issued tile ≡ n → ∥ Knows tracker tile (told s.decl (parcels_before (scene_of s) s.layout 0 tile n)) ∥₁
known_old s p tracker sets next h tile n lt ne e = ∥∥₁_map
    (subst (λ (k : ℕ). ∥ Knows s.tracker tile (told s.decl (parcels_before (scene_of s) s.layout 0 tile k)) ∥₁) e (h.sending.known tile lt))
    (h.others tile (told s.decl (parcels_before (scene_of s) s.layout 0 tile n)) ne)

known_between : (s : Sender) (p : Pending) (tracker : Tracked) (sets : List ElementSet) (next : ℕ) → IsGiven s p tracker sets next
    → (tile : ℕ) → tile < s.count → p.tile + 1 ≤ tile → tile < next → ∥ Knows tracker tile (told s.decl (parcels_before (scene_of s) s.layout 0 tile s.issued)) ∥₁
known_between s p tracker sets next h tile lt low high =
    let pending = h.sending.pending in
    let scene = scene_of s in
    let before = known_old s p tracker sets next h tile p.place lt (omega (arith, low)) (heard_more p s.issued tile (omega (arith, low))) in
    let all : parcels_before scene s.layout 0 tile s.issued ≡ parcels_before scene s.layout 0 tile p.place =
    ap (parcels_before scene s.layout 0 tile) pending.last ∙ before_next scene s.layout tile p.place
    ∙ ap (λ (ps : List Parcel). parcels_before scene s.layout 0 tile p.place ++ ps) (no_parcel scene s.layout tile p.place (not_asked s p tracker sets next h tile low high))
    ∙ append-nil (parcels_before scene s.layout 0 tile p.place) in
    subst (λ (ps : List Parcel). ∥ Knows tracker tile (told s.decl ps) ∥₁) (sym all) before

known_below : (s : Sender) (p : Pending) (tracker : Tracked) (sets : List ElementSet) (next : ℕ) → IsGiven s p tracker sets next
    → (tile : ℕ) → tile < s.count → tile < next → ∥ Knows tracker tile (told s.decl (parcels_before (scene_of s) s.layout 0 tile s.issued)) ∥₁
known_below s p tracker sets next h tile lt high =
    elim (cases_lt tile p.tile) [
      | inl less ↦ known_old s p tracker sets next h tile s.issued lt (omega (arith, less)) (heard_less p s.issued tile less)
      | inr more ↦ elim (cases_lt p.tile tile) [
        | inl past ↦ known_between s p tracker sets next h tile lt (omega (arith, past)) high
        | inr same ↦
            let e : p.tile ≡ tile = omega (arith, more, same) in
            subst (λ (t : ℕ). ∥ Knows tracker t (told s.decl (parcels_before (scene_of s) s.layout 0 t s.issued)) ∥₁) e
            (∥∥₁_map (knows_tile s p h.sending) (known_told s p tracker sets next h))
      ]
    ]

-- ---- what is pending

-- the tile that got its parcel
marked_told : (s : Sender) (p : Pending) (tracker : Tracked) (sets : List ElementSet) (next : ℕ) → IsGiven s p tracker sets next
    → (e : ℕ) → e < element_count → pending tracker p.tile e ≡ is_pending (scene_of s) s.layout 0 p.tile s.issued e
marked_told s p tracker sets next h e few =
    let parcels = h.sending.pending in
    let scene = scene_of s in
    let x = context_after scene 0 p.place in
    let all = h.sending.tiles in
    let lt = in_count s p h.sending in
    let context : (e : ℕ) → examines s.context p.act e ≡ examines x p.act e =
    λ e. ap (λ (y : ClientContext). examines y p.act e) (h.sending.context ∙ ap (context_after scene 0) parcels.last) ∙ (leaves_sets h.law scene p.place p.act parcels.asks).examined e in
    h.examined p.tile e (omega (arith, lt, all))
    ∙ (λ i. marked_before s p h.sending e few i && not (eq-eqb p.tile p.tile refl i && context e i))
    ∙ sym (given_pending scene s.layout p.tile p.place e p.act parcels.asks (sym (parcels.goes p.tile parcels.tile) ∙ parcels.met))
    ∙ ap (λ (n : ℕ). is_pending scene s.layout 0 p.tile n e) (sym parcels.last)

-- another one
marked_old : (s : Sender) (p : Pending) (tracker : Tracked) (sets : List ElementSet) (next : ℕ) → IsGiven s p tracker sets next
    → (tile n e : ℕ) → tile < s.count → e < element_count → tile ≢ p.tile → heard (Some p) s.issued tile ≡ n → pending tracker tile e ≡ is_pending (scene_of s) s.layout 0 tile n e
marked_old s p tracker sets next h tile n e lt few ne is =
    let all = h.sending.tiles in
    h.examined tile e (omega (arith, lt, all))
    ∙ ap (λ (b : Bool). pending s.tracker tile e && not (b && examines s.context p.act e)) (ne_eqb tile p.tile ne)
    ∙ and-true (pending s.tracker tile e)
    ∙ h.sending.marked tile e lt few
    ∙ ap (λ (k : ℕ). is_pending (scene_of s) s.layout 0 tile k e) is

-- one that gets none
marked_between : (s : Sender) (p : Pending) (tracker : Tracked) (sets : List ElementSet) (next : ℕ) → IsGiven s p tracker sets next
    → (tile e : ℕ) → tile < s.count → e < element_count → p.tile + 1 ≤ tile → tile < next → pending tracker tile e ≡ is_pending (scene_of s) s.layout 0 tile s.issued e
marked_between s p tracker sets next h tile e lt few low high =
    let parcels = h.sending.pending in
    let scene = scene_of s in
    marked_old s p tracker sets next h tile p.place e lt few (omega (arith, low)) (heard_more p s.issued tile (omega (arith, low)))
    ∙ sym (quiet_pending scene s.layout tile p.place e (not_asked s p tracker sets next h tile low high)
    ∙ ap (λ (b : Bool). b || is_pending scene s.layout 0 tile p.place e) (unmarked scene p.place e p.act parcels.asks))
    ∙ ap (λ (n : ℕ). is_pending scene s.layout 0 tile n e) (sym parcels.last)

marked_below : (s : Sender) (p : Pending) (tracker : Tracked) (sets : List ElementSet) (next : ℕ) → IsGiven s p tracker sets next
    → (tile e : ℕ) → tile < s.count → e < element_count → tile < next → pending tracker tile e ≡ is_pending (scene_of s) s.layout 0 tile s.issued e
marked_below s p tracker sets next h tile e lt few high =
    elim (cases_lt tile p.tile) [
      | inl less ↦ marked_old s p tracker sets next h tile s.issued e lt few (omega (arith, less)) (heard_less p s.issued tile less)
      | inr more ↦ elim (cases_lt p.tile tile) [
        | inl past ↦ marked_between s p tracker sets next h tile e lt few (omega (arith, past)) high
        | inr same ↦
            let at : p.tile ≡ tile = omega (arith, more, same) in
            subst (λ (t : ℕ). pending tracker t e ≡ is_pending (scene_of s) s.layout 0 t s.issued e) at (marked_told s p tracker sets next h e few)
      ]
    ]

-- the last tile was given its parcel
pub given_all : (s : Sender) (p : Pending) (tracker : Tracked) (sets : List ElementSet) (next : ℕ) → IsGiven s p tracker sets next → next ≡ s.count
    → IsSendingWith (record s { tracker = tracker; pending = None }) None
given_all s p tracker sets next h last = record {
  few = h.sending.few;
  commands = h.sending.commands;
  count = h.sending.count;
  tiles = h.sending.tiles;
  issued = h.sending.issued;
  context = h.sending.context;
  ops = h.sending.ops;
  tracked = h.count ∙ h.sending.tracked;
  known = λ tile lt. known_below s p tracker sets next h tile lt (omega (arith, lt, last));
  marked = λ tile e lt few. marked_below s p tracker sets next h tile e lt few (omega (arith, lt, last));
  pending = tt;
  asking = h.sending.asking;
}

-- another tile is next
pub given_one : (s : Sender) (p : Pending) (tracker : Tracked) (sets : List ElementSet) (next : ℕ) → IsGiven s p tracker sets next
    → next < s.count → has p.tiles next ≡ true
    → (made : Option Parcel) → IfSome made (IsMade p.place p.act) → (q : Pending) → q ≡ record p { tile = next; made = made } → IsSendingWith (record s { tracker = tracker; pending = Some q }) (Some q)
given_one s p tracker sets next h less met made fits q e = subst (λ (r : Pending). IsSendingWith (record s { tracker = tracker; pending = Some r }) (Some r)) (sym e) (record {
  few = h.sending.few;
  commands = h.sending.commands;
  count = h.sending.count;
  tiles = h.sending.tiles;
  issued = h.sending.issued;
  context = h.sending.context;
  ops = h.sending.ops;
  tracked = h.count ∙ h.sending.tracked;
  known = λ tile lt. elim (cases_lt tile next) [
    | inl below ↦
        subst (λ (n : ℕ). ∥ Knows tracker tile (told s.decl (parcels_before (scene_of s) s.layout 0 tile n)) ∥₁) (sym (heard_less (record p { tile = next; made = made }) s.issued tile below))
        (known_below s p tracker sets next h tile lt below)
    | inr more ↦
        let low = h.low in
        subst (λ (n : ℕ). ∥ Knows tracker tile (told s.decl (parcels_before (scene_of s) s.layout 0 tile n)) ∥₁) (sym (heard_more (record p { tile = next; made = made }) s.issued tile more))
        (known_old s p tracker sets next h tile p.place lt (omega (arith, low, more)) (heard_more p s.issued tile (omega (arith, low, more))))
  ];
  marked = λ tile e lt few. elim (cases_lt tile next) [
    | inl below ↦
        marked_below s p tracker sets next h tile e lt few below
        ∙ ap (λ (n : ℕ). is_pending (scene_of s) s.layout 0 tile n e) (sym (heard_less (record p { tile = next; made = made }) s.issued tile below))
    | inr more ↦
        let low = h.low in
        marked_old s p tracker sets next h tile p.place e lt few (omega (arith, low, more)) (heard_more p s.issued tile (omega (arith, low, more)))
        ∙ ap (λ (n : ℕ). is_pending (scene_of s) s.layout 0 tile n e) (sym (heard_more (record p { tile = next; made = made }) s.issued tile more))
  ];
  pending = record {
    last = h.sending.pending.last;
    asks = h.sending.pending.asks;
    goes = h.sending.pending.goes;
    tile = let c = h.sending.count in omega (arith, less, c);
    met = met;
    made = fits;
  };
  asking = h.sending.asking;
})

pub left_last : (s : Sender) (p : Pending) (tracker : Tracked) (sets : List ElementSet) (next : ℕ) → IsGiven s p tracker sets next → next ≡ s.count
    → left_with s (Some p) ≡ ToTile p.tile (parcel_by p sets) ∷ left_of (record s { tracker = tracker; pending = None })
unfolding left_with
left_last s p tracker sets next h last =
    given_left s p tracker sets next h
    ∙ ap (λ (items : List Sending). ToTile p.tile (parcel_by p sets) ∷ (items ++ (request_items s.request ++ sent_from (scene_of s) s.layout s.issued))) (last_left s p next h.sending last)

pub left_more : (s : Sender) (p : Pending) (tracker : Tracked) (sets : List ElementSet) (next : ℕ) (made : Option Parcel) → IsGiven s p tracker sets next
    → left_with s (Some p) ≡ ToTile p.tile (parcel_by p sets) ∷ left_of (record s { tracker = tracker; pending = Some (record p { tile = next; made = made }) })
unfolding left_with
left_more s p tracker sets next made h = given_left s p tracker sets next h
