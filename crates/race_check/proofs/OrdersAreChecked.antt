-- The walk along an order, one name after the other.
use Rattle.std.proofs.Common.{◌≡◌, ℕ, zero, suc, ◌+◌, ◌*◌, ◌<◌, ◌≤◌, ◌↔◌, List, [], ◌∷◌, ◌++◌, length, take, drop, replicate, Option, Some, None, inl, inr, refl, sym, ap, ◌∙◌, subst, arith, mul-le-mul}
use Rattle.std.specs.Prelude.{slice_get}
use Rattle.std.proofs.lemmas.List.{length-replicate}
use Rattle.rc_base.specs.Lists.{IsIn, Stands, NoRepeat}
use Rattle.rc_base.specs.Orders.Journal.{reach_of}
use Rattle.rc_base.specs.Orders.Order.{Footprint, IsPermitted}
use Rattle.rc_base.specs.declared.sync.Entry.{Entry}
use Rattle.rc_base.specs.declared.sync.Name.{Name}
use Rattle.rc_base.specs.declared.sync.SyncLists.{SyncLists}
use Rattle.order_model.proofs.NamesInTurn.{order_at}
use Rattle.order_model.proofs.PermittedAsRuns.{rising_of}
use Rattle.order_model.proofs.StandsInLists.{before_middle, in_left}
use Rattle.happens_before.specs.Clocks.{IsExact}
use Rattle.happens_before.specs.Timelines.{clock_of}
use Rattle.scene_lemmas.proofs.Numbered.{is_in_behind}
use Rattle.race_check.specs.Races.{IsVerdict, IsFirstRace}
use Rattle.race_check.specs.Finds.{AreUnused, IsFirst}
use Rattle.race_check.specs.Uses.{named, AreTables, AreSized, IsBehind, IsPixelOf, IsTexture, IsUnordered, PassesTables, pixel_index}
use Rattle.race_check.specs.declared.found.Found.{Found}
use Rattle.race_check.specs.declared.marks.Marks.{Marks}
use Rattle.happens_before.specs.declared.timelines.Change.{Change}
use Rattle.happens_before.specs.Before.{AreConflictsOrdered}
use Rattle.race_check.specs.declared.verdict.Verdict.{Verdict}
use Rattle.race_check.specs.declared.verdict.Verdict.TheVariants.{Ordered, Race}
use Rattle.race_check.proofs.CellsTellLast.{last_none}
use Rattle.race_check.proofs.RacesAreTold.{ByClock, IsQuiet, told_race, quiet_more, quiet_ordered, race_unordered}

-- where these names of an order are passed: the tables are theirs, and of no two of them the conflict is unordered
pub record IsPassed {T : Type 0} (AreOf : List Name → T → Type 0) (syncs : SyncLists) (journal : List Entry) (f : Footprint (ℕ × ℕ)) (passed : List Name) (t : T) : Type 0 where
  pub tables : AreOf passed t
  pub quiet : IsQuiet syncs journal f passed

-- ---- no name is passed

pixel_room : (w h : ℕ) (p : ℕ × ℕ) → IsPixelOf w h p → pixel_index w p < h * w
pixel_room w h p ok = let m : (p.1 + 1) * w ≤ h * w = mul-le-mul (omega (arith, ok.1)) (omega arith) in omega (arith, ok.0)

size_is : (n : ℕ) (cells : List (List ℕ)) → AreUnused n cells → length cells ≡ n
size_is n cells e = ap length e ∙ length-replicate n (replicate {A = ℕ} 8 0)

pub sized_first : (width height : ℕ) (m : Marks) → AreUnused (height * width) m.pixels.cells.items → AreUnused 256 m.writers.cells.items → AreUnused 256 m.readers.cells.items → AreSized width height m
sized_first width height m px wr rd = record {
  pixels = size_is (height * width) m.pixels.cells.items px;
  writers = size_is 256 m.writers.cells.items wr;
  readers = size_is 256 m.readers.cells.items rd;
}

pub passed_first : (syncs : SyncLists) (journal : List Entry) (f : Footprint (ℕ × ℕ)) (width height : ℕ) (m : Marks) → AreUnused (height * width) m.pixels.cells.items
    → AreUnused 256 m.writers.cells.items → AreUnused 256 m.readers.cells.items → IsPassed (AreTables f width height) syncs journal f [] m
passed_first syncs journal f width height m px wr rd = record {
  tables = record {
    touched = last_none f.touches (pixel_index width) (IsPixelOf width height) m.pixels.cells.items (height * width) px (pixel_room width height);
    written = last_none f.writes (λ t. t) IsTexture m.writers.cells.items 256 wr (λ t lt. lt);
    read = last_none f.samples (λ t. t) IsTexture m.readers.cells.items 256 rd (λ t lt. lt);
  };
  quiet = λ a b s. absurd s;
}

-- ---- one name more

in_order : (order : List Name) (k : ℕ) (n : Name) → slice_get order k ≡ Some n → (a : Name) → IsIn a (take k order) → IsIn a order
in_order order k n at a i = subst (IsIn a) (sym (order_at order k n at).0) (in_left a (take k order) (n ∷ drop (k + 1) order) i)

-- a name of an order, and those in front of it
pub record NamesAt (syncs : SyncLists) (journal : List Entry) (order : List Name) (k : ℕ) (n : Name) : Type 0 where
  pub once : NoRepeat (take k order ++ n ∷ drop (k + 1) order)
  pub front : NoRepeat (take k order ++ n ∷ [])
  pub here : IsIn n order
  pub below : (a : Name) → IsIn a (take k order) → a.place < reach_of syncs journal a.client
  pub behind : IsBehind (take k order) n

names_at : (syncs : SyncLists) (journal : List Entry) (order : List Name) (k : ℕ) (n : Name) → IsPermitted syncs journal order → slice_get order k ≡ Some n → NamesAt syncs journal order k n
names_at syncs journal order k n p at = record {
  once = once;
  front = front_once (take k order) (drop (k + 1) order) once;
  here = subst (IsIn n) (sym (order_at order k n at).0) (is_in_behind n (take k order) (n ∷ drop (k + 1) order) (inl refl));
  below = λ a i. (p.names a).0 (in_order order k n at a i);
  behind = λ i j. rising_of syncs journal order p (named n.client i) n refl
      (subst (Stands (named n.client i) n) (sym (order_at order k n at).0) (before_middle n (named n.client i) (take k order) (drop (k + 1) order) j));
}
  where
    once : NoRepeat (take k order ++ n ∷ drop (k + 1) order)
    once = subst NoRepeat (order_at order k n at).0 p.once

    not_more : (a : Name) (xs ys : List Name) → IsIn a (xs ++ n ∷ []) → IsIn a (xs ++ n ∷ ys)
    not_more a [] ys (inl e) = inl e
    not_more a [] ys (inr i) = absurd i
    not_more a (x ∷ xs) ys (inl e) = inl e
    not_more a (x ∷ xs) ys (inr i) = inr (not_more a xs ys i)

    front_once : (xs ys : List Name) → NoRepeat (xs ++ n ∷ ys) → NoRepeat (xs ++ n ∷ [])
    front_once [] ys o = (λ i. i, tt)
    front_once (x ∷ xs) ys o = (λ i. o.0 (not_more x xs ys i), front_once xs ys o.1)

module _ {T : Type 0} (AreOf : List Name → T → Type 0) (syncs : SyncLists) (journal : List Entry) (f : Footprint (ℕ × ℕ)) (lists : List (List Change)) (order : List Name) (k : ℕ) (n : Name) (old new : T)
    (told : Option Found) (p : IsPermitted syncs journal order) (exact : IsExact syncs journal (clock_of lists)) (at : slice_get order k ≡ Some n)
    (h : IsPassed AreOf syncs journal f (take k order) old) (c : PassesTables AreOf f (clock_of lists n) n old new told) where
  names : NamesAt syncs journal order k n
  names = names_at syncs journal order k n p at

  by_clock : ByClock syncs journal (clock_of lists) (take k order) n
  by_clock = record { exact = exact; reached = (p.names n).0 names.here; below = names.below }

  first_told : (o : Option Found) → told ≡ o → IsFirst (IsUnordered f (clock_of lists n) n (take k order)) o
  first_told o e = subst (IsFirst (IsUnordered f (clock_of lists n) n (take k order))) e (c.first (take k order) h.tables)

  -- what is told is the first race of the order
  pub race_here : (r : Found) → told ≡ Some r → IsFirstRace syncs journal order f (named r.client r.place) n r.spot
  race_here r e =
      subst (λ o. IsFirstRace syncs journal o f (named r.client r.place) n r.spot) (sym (order_at order k n at).0)
      (told_race syncs journal f (clock_of lists) (take k order) (drop (k + 1) order) n r names.once by_clock h.quiet (first_told (Some r) e))

  pub passed_more : told ≡ None → IsPassed AreOf syncs journal f (take (k + 1) order) new
  passed_more e = subst (λ ns. IsPassed AreOf syncs journal f ns new) (sym (order_at order k n at).1) (record {
    tables = c.tables (take k order) names.behind h.tables;
    quiet = quiet_more syncs journal f (clock_of lists) (take k order) n names.front by_clock h.quiet (first_told None e);
  })

-- ---- the end

take_whole : (ns : List Name) (k : ℕ) → length ns ≤ k → take k ns ≡ ns
take_whole [] zero le = refl
take_whole [] (suc k) le = refl
take_whole (n ∷ ns) zero le = absurd (omega arith)
take_whole (n ∷ ns) (suc k) le = ap (λ xs. n ∷ xs) (take_whole ns k (omega arith))

pub all_passed : {T : Type 0} (AreOf : List Name → T → Type 0) (syncs : SyncLists) (journal : List Entry) (f : Footprint (ℕ × ℕ)) (lists : List (List Change)) (order : List Name) (k : ℕ) (t : T)
    → length order ≤ k → IsPermitted syncs journal order → IsExact syncs journal (clock_of lists) → IsPassed AreOf syncs journal f (take k order) t → AreConflictsOrdered syncs journal f
all_passed AreOf syncs journal f lists order k t le p exact h =
    quiet_ordered syncs journal f order (clock_of lists) p exact (subst (IsQuiet syncs journal f) (take_whole order k le) h.quiet)

-- a verdict is Ordered exactly where conflicts are ordered
pub verdict_exact : (syncs : SyncLists) (journal : List Entry) (order : List Name) (f : Footprint (ℕ × ℕ)) (v : Verdict) → IsPermitted syncs journal order → IsVerdict syncs journal order f v
    → (v ≡ Ordered) ↔ AreConflictsOrdered syncs journal f
verdict_exact syncs journal order f Ordered p h = (λ e. h, λ s. refl)
verdict_exact syncs journal order f (Race first second spot) p h = (λ e. absurd cc, λ s. absurd (race_unordered syncs journal f order first second spot p h s))
