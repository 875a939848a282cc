-- Where the outlines of names tell that all that may conflict is before it, nothing races.
use Rattle.std.proofs.Common.{◌≡◌, ℕ, ◌+◌, ◌<◌, ◌==◌, ◌&&◌, nat_lt, pos, true, List, [], ◌∷◌, ◌++◌, ◌⊎◌, length, replicate, inl, inr, refl, sym, ap, ◌∙◌, subst, arith, eqb-true, ltb-true}
use Rattle.std.specs.Prelude.{slice_index, slice_index_or, slice_set}
use Rattle.std.proofs.lemmas.Bool.{cases_Bool, cases_lt, eqb-false, and_parts}
use Rattle.std.proofs.lemmas.List.{get_or_past, get_or-set_same, get_or-set_other, length-replicate}
use Rattle.std.proofs.Math.ListN.{length-set}
use Rattle.rc_base.specs.Drawing.Touch.{may_sample, touches, writes_shared}
use Rattle.rc_base.specs.Lists.{IsIn}
use Rattle.rc_base.specs.Orders.Order.{Footprint}
use Rattle.rc_base.specs.declared.state.Effect.{Effect}
use Rattle.rc_base.specs.declared.state.State.{State}
use Rattle.rc_base.specs.declared.sync.Entry.{Entry}
use Rattle.rc_base.specs.declared.sync.Name.{Name}
use Rattle.rc_base.specs.declared.sync.SyncLists.{SyncLists}
use Rattle.race_check.specs.Finds.{AreUnused, cell_at}
use Rattle.race_check.specs.Outlines.{AreCountedIn, AreMarked, AreOutlined, FitWindow, IsAmong, CountsAll, IsReach, PassesOutlines, TellAll, no_reach, nowhere}
use Rattle.race_check.specs.Races.{OverlapsAt}
use Rattle.race_check.specs.Uses.{HasEffect, IsBehind, IsUnordered, named, touches_one}
use Rattle.race_check.specs.declared.found.Found.{Found}
use Rattle.race_check.specs.declared.outlines.Outlines.{Outlines}
use Rattle.race_check.specs.declared.range.Range.{Range}
use Rattle.race_check.specs.declared.reach.Reach.{Reach}
use Rattle.race_check.specs.declared.verdict.Spot.{Spot}
use Rattle.race_check.specs.declared.verdict.Spot.TheVariants.{Pixel, Shared}
use Rattle.race_check.proofs.CellsTellLast.{in_more, cell_unused}
use Rattle.race_check.proofs.OrdersAreChecked.{IsPassed}

-- ---- one table

pub told_first : (uses : Name → ℕ → Type 0) (count : ℕ) (cells : List (List ℕ)) → AreUnused count cells → TellAll uses count [] cells
told_first uses count cells e = record {
  size = ap length e ∙ length-replicate count (replicate {A = ℕ} 8 0);
  slots = λ i lt. ap length (ap (λ (cs : List (List ℕ)). slice_index_or cs i []) e ∙ cell_unused count i lt);
  told = λ i lt d p k u. absurd k;
}

pub told_more : (uses : Name → ℕ → Type 0) (count : ℕ) (passed : List Name) (old new : List (List ℕ)) (n : Name) (r : Range) → TellAll uses count passed old → n.client < 8
    → ((i : ℕ) → IsIn (named n.client i) passed → i < n.place) → ((i : ℕ) → i < count → uses n i → IsAmong r i) → AreMarked n r old new → TellAll uses count (passed ++ n ∷ []) new
told_more uses count passed old new n r h client rising among m = record { size = m.size ∙ h.size; slots = slots; told = told }
  where
    marked : ℕ → List ℕ
    marked i = slice_set (slice_index_or old i []) n.client (n.place + 1)

    slots : (i : ℕ) → i < count → length (slice_index_or new i []) ≡ 8
    slots i lt = elim (m.each i) [
      | inl e ↦ ap length e ∙ length-set (slice_index_or old i []) n.client (n.place + 1) ∙ h.slots i lt
      | inr e ↦ ap length e ∙ h.slots i lt
    ]

    own : (i : ℕ) → i < count → slice_index (slice_set (slice_index_or old i []) n.client (n.place + 1)) n.client ≡ n.place + 1
    own i lt = get_or-set_same (slice_index_or old i []) n.client (n.place + 1) 0 (omega (arith, h.slots i lt))

    kept : (i : ℕ) → i < count → (d p : ℕ) → IsIn (named d p) passed → uses (named d p) i → p < slice_index (slice_set (slice_index_or old i []) n.client (n.place + 1)) d
    kept i lt d p k u = elim (cases_Bool (d == n.client)) [
      | inl s ↦
          let e = eqb-true d n.client s in
          let v : slice_index (slice_set (slice_index_or old i []) n.client (n.place + 1)) d ≡ n.place + 1 =
          ap (slice_index (slice_set (slice_index_or old i []) n.client (n.place + 1))) e ∙ own i lt in
          omega (arith, v, rising p (subst (λ c. IsIn (named c p) passed) e k))
      | inr f ↦
          let v = get_or-set_other (slice_index_or old i []) n.client d (n.place + 1) 0 (eqb-false d n.client f) in
          omega (arith, v, h.told i lt d p k u)
    ]

    told : (i : ℕ) → i < count → (d p : ℕ) → IsIn (named d p) (passed ++ n ∷ []) → uses (named d p) i → p < slice_index (slice_index_or new i []) d
    told i lt d p k u = elim (in_more (named d p) n passed k) [
      | inl old ↦ elim (m.each i) [
        | inl e ↦ subst (λ c. p < slice_index c d) (sym e) (kept i lt d p old u)
        | inr e ↦ subst (λ c. p < slice_index c d) (sym e) (h.told i lt d p old u)
      ]
      | inr e ↦
          let here = m.inside i (among i lt (subst (λ x. uses x i) (sym e) u)) in
          let v : slice_index (slice_index_or new i []) n.client ≡ n.place + 1 = ap (λ c. slice_index c n.client) here ∙ own i lt in
          subst (λ (x : Name). x.place < slice_index (slice_index_or new i []) x.client) e (omega (arith, v))
    ]

-- ---- one name

module _ (f : Footprint (ℕ × ℕ)) (width height : ℕ) (clock : List ℕ) (n : Name) (s : State) (e : Effect) (reach : Reach) (old new : Outlines) (effect : HasEffect f n width height s e)
    (is : IsReach (λ x y. touches s e (pos x) (pos y)) (may_sample s e) (writes_shared e) width height reach) (counted : CountsAll clock reach old) where
  in_window : (p : ℕ × ℕ) → f.touches n p ≡ true → (p.0 < width) × (p.1 < height) × (touches s e (pos p.0) (pos p.1) ≡ true)
  in_window p t =
      let a = and_parts (nat_lt p.0 width && nat_lt p.1 height) (touches s e (pos p.0) (pos p.1)) (sym (effect.touches p) ∙ t) in
      let b = and_parts (nat_lt p.0 width) (nat_lt p.1 height) a.0 in
      (ltb-true p.0 width b.0, ltb-true p.1 height b.1, a.1)

  in_row : (p : ℕ × ℕ) → f.touches n p ≡ true → IsAmong reach.rows p.1
  in_row p t = let w = in_window p t in is.rows p.0 p.1 w.0 w.1 w.2

  in_column : (p : ℕ × ℕ) → f.touches n p ≡ true → IsAmong reach.columns p.0
  in_column p t = let w = in_window p t in is.columns p.0 p.1 w.0 w.1 w.2

  in_samples : (t : ℕ) → f.samples n t ≡ true → IsAmong reach.samples t
  in_samples t k = is.samples t (and_parts (may_sample s e t) (touches_one width height s e) (sym (effect.samples t) ∙ k)).0

  in_writes : (t : ℕ) → f.writes n t ≡ true → IsAmong reach.writes t
  in_writes t k = is.writes t (sym (effect.writes t) ∙ k)

  module _ (passed : List Name) (tables : AreOutlined f width height passed old) where
    -- what used a cell of counted ones is counted
    none_in : (uses : Name → ℕ → Type 0) (count : ℕ) (cells : List (List ℕ)) (r : Range) (i : ℕ) (x : Found) → TellAll uses count passed cells → i < count → IsAmong r i → uses (named x.client x.place) i
        → IsUnordered f (slice_index clock) n passed x → (x.client < 8 → AreCountedIn clock cells r x.client) → ⊥
    none_in uses count cells r i x tell lt k u o all =
        let below = tell.told i lt x.client x.place o.earlier u in
        let client : x.client < 8 = elim (cases_lt x.client 8) [
          | inl low ↦ low
          | inr ge ↦ let z : slice_index (cell_at cells i) x.client ≡ 0 = get_or_past (cell_at cells i) x.client 0 (omega (arith, tell.slots i lt)) in absurd (omega (arith, below, z))
        ] in
        omega (arith, below, all client i k, o.uncounted)

    none_writer : (t : ℕ) (x : Found) → (t < 256) → f.writes (named x.client x.place) t ≡ true → IsUnordered f (slice_index clock) n passed x → (f.writes n t ≡ true) ⊎ (f.samples n t ≡ true) → ⊥
    none_writer t x lt u o (inl v) =
        none_in (λ a t. f.writes a t ≡ true) 256 old.writers.cells.items reach.writes t x tables.writers lt (in_writes t v) u o (λ low. (counted.written x.client low).0)
    none_writer t x lt u o (inr v) = none_in (λ a t. f.writes a t ≡ true) 256 old.writers.cells.items reach.samples t x tables.writers lt (in_samples t v) u o (counted.sampled x.client)

    none_at : (x : Found) (spot : Spot) → IsUnordered f (slice_index clock) n passed x → OverlapsAt f (named x.client x.place) n spot → ⊥
    none_at x (Pixel u v) o at =
        let w = in_window (u, v) at.1 in
        let client : x.client < 8 = elim (cases_lt x.client 8) [
          | inl low ↦ low
          | inr ge ↦
              let z : slice_index (cell_at old.rows.cells.items v) x.client ≡ 0 = get_or_past (cell_at old.rows.cells.items v) x.client 0 (omega (arith, tables.rows.slots v w.1)) in
              absurd (omega (arith, tables.rows.told v w.1 x.client x.place o.earlier (u, at.0), z))
        ] in
        elim (counted.pixels x.client client) [
          | inl rows ↦ none_in (λ a y. (x : ℕ) × (f.touches a (x, y) ≡ true)) height old.rows.cells.items reach.rows v x tables.rows w.1 (in_row (u, v) at.1) (u, at.0) o (λ low. rows)
          | inr columns ↦ none_in (λ a x. (y : ℕ) × (f.touches a (x, y) ≡ true)) width old.columns.cells.items reach.columns u x tables.columns w.0 (in_column (u, v) at.1) (v, at.0) o (λ low. columns)
        ]
    none_at x (Shared t) o (inl at) = none_writer t x (below_of at.1) at.0 o at.1
      where
        below_of : (f.writes n t ≡ true) ⊎ (f.samples n t ≡ true) → t < 256
        below_of (inl k) = omega (arith, (in_writes t k).1, is.inside.3)
        below_of (inr k) = omega (arith, (in_samples t k).1, is.inside.2)
    none_at x (Shared t) o (inr at) =
        let lt : t < 256 = omega (arith, (in_writes t at.0).1, is.inside.3) in
        elim at.1 [
          | inl u ↦ none_writer t x lt u o (inl at.0)
          | inr u ↦ none_in (λ a t. f.samples a t ≡ true) 256 old.readers.cells.items reach.writes t x tables.readers lt (in_writes t at.0) u o (λ low. (counted.written x.client low).1)
        ]

    outlined_on : n.client < 8 → IsBehind passed n → AreMarked n reach.rows old.rows.cells.items new.rows.cells.items → AreMarked n reach.columns old.columns.cells.items new.columns.cells.items
        → AreMarked n reach.writes old.writers.cells.items new.writers.cells.items → AreMarked n reach.samples old.readers.cells.items new.readers.cells.items → AreOutlined f width height (passed ++ n ∷ []) new
    outlined_on client behind rows columns writers readers = record {
      rows = told_more (λ a y. (x : ℕ) × (f.touches a (x, y) ≡ true)) height passed old.rows.cells.items new.rows.cells.items n reach.rows tables.rows client behind (λ y lt u. in_row (u.0, y) u.1) rows;
      columns = told_more (λ a x. (y : ℕ) × (f.touches a (x, y) ≡ true)) width passed old.columns.cells.items new.columns.cells.items n reach.columns tables.columns client behind
          (λ x lt u. in_column (x, u.0) u.1) columns;
      writers = told_more (λ a t. f.writes a t ≡ true) 256 passed old.writers.cells.items new.writers.cells.items n reach.writes tables.writers client behind (λ t lt u. in_writes t u) writers;
      readers = told_more (λ a t. f.samples a t ≡ true) 256 passed old.readers.cells.items new.readers.cells.items n reach.samples tables.readers client behind (λ t lt u. in_samples t u) readers;
    }

  pub passes_outlines : n.client < 8 → AreMarked n reach.rows old.rows.cells.items new.rows.cells.items → AreMarked n reach.columns old.columns.cells.items new.columns.cells.items
      → AreMarked n reach.writes old.writers.cells.items new.writers.cells.items → AreMarked n reach.samples old.readers.cells.items new.readers.cells.items
      → PassesOutlines f width height (slice_index clock) n old new
  passes_outlines client rows columns writers readers = record {
    tables = λ passed behind tables. outlined_on passed tables client behind rows columns writers readers;
    first = λ passed tables. record { none = λ r x o. none_at passed tables x x.spot o o.at; some = λ r k. absurd cc };
  }

-- a command that uses nothing
pub quiet_outlined : (f : Footprint (ℕ × ℕ)) (width height : ℕ) (clock : List ℕ) (n : Name) (s : State) (e : Effect) (o : Outlines) → HasEffect f n width height s e
    → IsReach (λ x y. touches s e (pos x) (pos y)) (may_sample s e) (writes_shared e) width height no_reach → n.client < 8 → PassesOutlines f width height (slice_index clock) n o o
quiet_outlined f width height clock n s e o effect reach client =
    passes_outlines f width height clock n s e no_reach o o effect reach
    (record { pixels = λ d lt. inl (none o.rows.cells.items d); written = λ d lt. (none o.writers.cells.items d, none o.readers.cells.items d); sampled = λ d lt. none o.writers.cells.items d }) client
    (same o.rows.cells.items) (same o.columns.cells.items) (same o.writers.cells.items) (same o.readers.cells.items)
  where
    none : (cells : List (List ℕ)) (d : ℕ) → AreCountedIn clock cells nowhere d
    none cells d i k = absurd (omega (arith, k.1))

    same : (cells : List (List ℕ)) → AreMarked n nowhere cells cells
    same cells = record { size = refl; inside = λ i k. absurd (omega (arith, k.1)); each = λ i. inr refl }

-- ---- no name is passed

pub fits_first : (width height : ℕ) (o : Outlines) → AreUnused height o.rows.cells.items → AreUnused width o.columns.cells.items → AreUnused 256 o.writers.cells.items
    → AreUnused 256 o.readers.cells.items → FitWindow width height o
fits_first width height o rows columns writers readers = record { rows = size height rows; columns = size width columns; writers = size 256 writers; readers = size 256 readers }
  where
    size : (count : ℕ) {cells : List (List ℕ)} → AreUnused count cells → length cells ≡ count
    size count e = ap length e ∙ length-replicate count (replicate {A = ℕ} 8 0)

pub outlined_first : (syncs : SyncLists) (journal : List Entry) (f : Footprint (ℕ × ℕ)) (width height : ℕ) (o : Outlines) → AreUnused height o.rows.cells.items → AreUnused width o.columns.cells.items
    → AreUnused 256 o.writers.cells.items → AreUnused 256 o.readers.cells.items → IsPassed (AreOutlined f width height) syncs journal f [] o
outlined_first syncs journal f width height o rows columns writers readers = record {
  tables = record {
    rows = told_first _ height o.rows.cells.items rows;
    columns = told_first _ width o.columns.cells.items columns;
    writers = told_first _ 256 o.writers.cells.items writers;
    readers = told_first _ 256 o.readers.cells.items readers;
  };
  quiet = λ a b s. absurd s;
}
