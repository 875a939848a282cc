-- What a command uses, by what it touched, and that it passes the tables.
use Rattle.std.proofs.Common.{◌≡◌, ◌≢◌, ℕ, ◌+◌, ◌*◌, ◌<◌, ◌==◌, nat_lt, ◌&&◌, ◌⊎◌, Bool, true, false, List, [], length, Option, Some, None, pos, inl, inr, refl, sym, ap, ◌∙◌, subst, arith, true≢false, eqb-true, ne_eqb, lt-ltb, ltb-true}
use Rattle.std.specs.Prelude.{cond, max, slice_index, slice_index_or}
use Rattle.std.specs.List.{list_any, range_with_len}
use Rattle.std.proofs.lemmas.Bool.{cases_Bool, eqb-false, and_parts, and_from}
use Rattle.std.proofs.lemmas.List.{get_or-set_same, get_or-set_other}
use Rattle.std.proofs.Math.ListN.{length-set}
use Rattle.rc_base.specs.Drawing.Touch.{touches, may_sample, writes_shared}
use Rattle.rc_base.specs.Orders.Order.{Footprint}
use Rattle.rc_base.specs.declared.command.Part.{Part}
use Rattle.rc_base.specs.declared.state.Block.{Block}
use Rattle.rc_base.specs.declared.state.Effect.{Effect}
use Rattle.rc_base.specs.declared.state.Effect.TheVariants as eff
use Rattle.rc_base.specs.declared.state.State.{State}
use Rattle.rc_base.specs.declared.sync.Name.{Name}
use Rattle.happens_before.specs.Timelines.{before_at, clock_of}
use Rattle.happens_before.specs.declared.timelines.Change.{Change}
use Rattle.plain_lemmas.proofs.Ranges.{any_in_range, found_in_range}
use Rattle.race_check.specs.Finds.{IsFirst, IsFoundIn, OrBefore, cell_at, leads, mark, marked}
use Rattle.race_check.specs.Outlines.{IsReach, no_reach}
use Rattle.race_check.specs.Races.{OverlapsAt}
use Rattle.race_check.specs.Touches.{AreTouched, IsFoundWhere, SomePasses, block_has, clear_has}
use Rattle.race_check.specs.Uses.{AreTables, HasEffect, IsPixelOf, IsTexture, IsUnordered, PassesMarks, PassesTables, named, pixel_index, window_samples, touches_one}
use Rattle.race_check.specs.declared.found.Found.{Found}
use Rattle.race_check.specs.declared.marks.Marks.{Marks}
use Rattle.race_check.specs.declared.verdict.Spot.TheVariants.{Pixel, Shared}
use Rattle.race_check.specs.declared.verdict.Spot.{Spot}
use Rattle.race_check.specs.declared.visit.Visit.{Visit}
use Rattle.race_check.proofs.CellsTellLast.{found_used, last_more, used_found}
use Rattle.race_check.proofs.FoundFirst.{first_alone, first_as, first_of, first_then, self_leads}

-- the clock of a name beside its own client
pub clock_is : (lists : List (List Change)) (n : Name) (d : ℕ) → d ≢ n.client → slice_index (before_at (slice_index_or lists n.client []) n.place) d ≡ clock_of lists n d
clock_is lists n d ne =
    let own : cond (d == n.client) n.place 0 ≡ 0 = rw (ne_eqb d n.client ne) refl in
    omega (arith, ap (λ k. max (slice_index (before_at (slice_index_or lists n.client []) n.place) d) k) own)

-- a name passes by one clock as by another that counts the same of other clients
pub passes_as : {T : Type 0} (AreOf : List Name → T → Type 0) (f : Footprint (ℕ × ℕ)) (a b : ℕ → ℕ) (n : Name) (old new : T) (told : Option Found) → ((d : ℕ) → d ≢ n.client → a d ≡ b d)
    → PassesTables AreOf f a n old new told → PassesTables AreOf f b n old new told
passes_as AreOf f a b n old new told e h = record {
  tables = h.tables;
  first = λ passed t. first_of (IsUnordered f a n passed) (IsUnordered f b n passed) told
      (λ x u. record { earlier = u.earlier; other = u.other; at = u.at; uncounted = omega (arith, e x.client u.other, u.uncounted) })
      (λ x u. (x, record { earlier = u.earlier; other = u.other; at = u.at; uncounted = omega (arith, e x.client u.other, u.uncounted) }, self_leads x))
      (h.first passed t);
}

-- ---- tests of ranges

one_some : (w h : ℕ) (s : State) (e : Effect) (has : ℕ → ℕ → Bool) → ((x y : ℕ) → touches s e (pos x) (pos y) ≡ has x y) → touches_one w h s e ≡ true → SomePasses w h has
one_some w h s e has touched t =
    let r = found_in_range (λ y. list_any (λ x. touches s e (pos x) (pos y)) (range_with_len 0 w)) 0 h t in
    let q = found_in_range (λ x. touches s e (pos x) (pos r.0)) 0 w r.3 in
    record { column = q.0; row = r.0; wide = omega (arith, q.2); high = omega (arith, r.2); passes = sym (touched q.0 r.0) ∙ q.3 }

some_one : (w h : ℕ) (s : State) (e : Effect) (has : ℕ → ℕ → Bool) → ((x y : ℕ) → touches s e (pos x) (pos y) ≡ has x y) → SomePasses w h has → touches_one w h s e ≡ true
some_one w h s e has touched k =
    any_in_range (λ y. list_any (λ x. touches s e (pos x) (pos y)) (range_with_len 0 w)) 0 h k.row (omega arith) (omega (arith, k.high))
    (any_in_range (λ x. touches s e (pos x) (pos k.row)) 0 w k.column (omega arith) (omega (arith, k.wide)) (touched k.column k.row ∙ k.passes))

-- ---- what an effect uses

-- the pixels that pass a test, the shared texture that it samples, and the one that it writes
pub record IsUse (w h : ℕ) (s : State) (e : Effect) (has : ℕ → ℕ → Bool) (samples writes : Option ℕ) : Type 0 where
  pub touched : (x y : ℕ) → touches s e (pos x) (pos y) ≡ has x y
  pub sampled : (t : ℕ) → window_samples w h s e t ≡ true → samples ≡ Some t
  pub is_sampled : (t : ℕ) → samples ≡ Some t → (window_samples w h s e t ≡ true) × (t < 256)
  pub written : (t : ℕ) → writes_shared e t ≡ true → writes ≡ Some t
  pub is_written : (t : ℕ) → writes ≡ Some t → (writes_shared e t ≡ true) × (t < 256)

-- where it writes no texture, and samples this one
pub use_of : (w h : ℕ) (s : State) (e : Effect) (has : ℕ → ℕ → Bool) (o : Option ℕ) → ((x y : ℕ) → touches s e (pos x) (pos y) ≡ has x y) → ((t : ℕ) → writes_shared e t ≡ true → ⊥)
    → ((t : ℕ) → may_sample s e t ≡ true → SomePasses w h has → o ≡ Some t) → ((t : ℕ) → o ≡ Some t → (may_sample s e t ≡ true) × SomePasses w h has × (t < 256)) → IsUse w h s e has o None
use_of w h s e has o touched none only is = record {
  touched = touched;
  sampled = λ t k. let b = and_parts (may_sample s e t) (touches_one w h s e) k in only t b.0 (one_some w h s e has touched b.1);
  is_sampled = λ t k. let b = is t k in (and_from (may_sample s e t) (touches_one w h s e) b.0 (some_one w h s e has touched b.1), b.2);
  written = λ t k. absurd (none t k);
  is_written = λ t k. absurd cc;
}

pub block_touched : (s : State) (block : Block) (x y : ℕ) → touches s (eff.Block block) (pos x) (pos y) ≡ block_has s block x y
unfolding touches
block_touched s block x y = refl

pub clear_touched : (s : State) (mask x y : ℕ) → touches s (eff.Clear mask) (pos x) (pos y) ≡ clear_has s x y
unfolding touches
clear_touched s mask x y = refl

-- a part of a texture is written where it has a texel
pub part_use : (w h : ℕ) (s : State) (p : Part) (o : Option ℕ) → ((t : ℕ) → writes_shared (eff.Shared p) t ≡ true → o ≡ Some t)
    → ((t : ℕ) → o ≡ Some t → (writes_shared (eff.Shared p) t ≡ true) × (t < 256)) → IsUse w h s (eff.Shared p) (λ x y. false) None o
unfolding touches
part_use w h s p o only is = record {
  touched = λ x y. refl;
  sampled = λ t k. absurd (true≢false (sym k));
  is_sampled = λ t k. absurd cc;
  written = only;
  is_written = is;
}

-- ---- what the cells tell of a name

data IsFind (f : Footprint (ℕ × ℕ)) (w h : ℕ) (clock : List ℕ) (n : Name) (m : Marks) (x : Found) : Type 0 where
  AtPixel : (p : ℕ × ℕ) → IsPixelOf w h p → f.touches n p ≡ true → IsFoundIn n.client clock (cell_at m.pixels.cells.items (pixel_index w p)) (Pixel p.0 p.1) x → IsFind f w h clock n m x
  AtWritten : (t : ℕ) → t < 256 → f.writes n t ≡ true → IsFoundIn n.client clock (cell_at m.writers.cells.items t) (Shared t) x → IsFind f w h clock n m x
  AtRead : (t : ℕ) → t < 256 → f.writes n t ≡ true → IsFoundIn n.client clock (cell_at m.readers.cells.items t) (Shared t) x → IsFind f w h clock n m x
  AtSampled : (t : ℕ) → t < 256 → f.samples n t ≡ true → IsFoundIn n.client clock (cell_at m.writers.cells.items t) (Shared t) x → IsFind f w h clock n m x

module _ (f : Footprint (ℕ × ℕ)) (w h : ℕ) (clock : List ℕ) (n : Name) (m : Marks) (passed : List Name) (tables : AreTables f w h passed m) where
  find_unordered : (x : Found) → IsFind f w h clock n m x → IsUnordered f (slice_index clock) n passed x
  find_unordered x (AtPixel p ok t k) =
      let u = found_used f.touches (pixel_index w) (IsPixelOf w h) passed m.pixels.cells.items tables.touched p ok n.client clock (Pixel p.0 p.1) x k in
      record { earlier = u.0; other = k.other; at = subst (OverlapsAt f (named x.client x.place) n) (sym k.at) (u.1, t); uncounted = k.uncounted }
  find_unordered x (AtWritten t lt wr k) =
      let u = found_used f.writes (λ q. q) IsTexture passed m.writers.cells.items tables.written t lt n.client clock (Shared t) x k in
      record { earlier = u.0; other = k.other; at = subst (OverlapsAt f (named x.client x.place) n) (sym k.at) (inr (wr, inl u.1)); uncounted = k.uncounted }
  find_unordered x (AtRead t lt wr k) =
      let u = found_used f.samples (λ q. q) IsTexture passed m.readers.cells.items tables.read t lt n.client clock (Shared t) x k in
      record { earlier = u.0; other = k.other; at = subst (OverlapsAt f (named x.client x.place) n) (sym k.at) (inr (wr, inr u.1)); uncounted = k.uncounted }
  find_unordered x (AtSampled t lt sm k) =
      let u = found_used f.writes (λ q. q) IsTexture passed m.writers.cells.items tables.written t lt n.client clock (Shared t) x k in
      record { earlier = u.0; other = k.other; at = subst (OverlapsAt f (named x.client x.place) n) (sym k.at) (inl (u.1, inr sm)); uncounted = k.uncounted }

  unordered_find : ((p : ℕ × ℕ) → f.touches n p ≡ true → IsPixelOf w h p) → ((t : ℕ) → f.writes n t ≡ true → t < 256) → ((t : ℕ) → f.samples n t ≡ true → t < 256) → (x : Found)
      → IsUnordered f (slice_index clock) n passed x → (y : Found) × IsFind f w h clock n m y × (leads y x ≡ true)
  unordered_find pixels writes samples x k = by x.spot refl k.at
    where
      by : (s : Spot) → x.spot ≡ s → OverlapsAt f (named x.client x.place) n s → (y : Found) × IsFind f w h clock n m y × (leads y x ≡ true)
      by (Pixel u v) e o =
          let ok = pixels (u, v) o.1 in
          let q = used_found f.touches (pixel_index w) (IsPixelOf w h) passed m.pixels.cells.items tables.touched (u, v) ok n.client clock x k.earlier o.0 k.other k.uncounted in
          (q.0, AtPixel (u, v) ok o.1 (subst (λ s. IsFoundIn n.client clock (cell_at m.pixels.cells.items (v * w + u)) s q.0) e q.1), q.2)
      by (Shared t) e (inl o) = elim o.1 [
        | inl wn ↦
            let q = used_found f.writes (λ q. q) IsTexture passed m.writers.cells.items tables.written t (writes t wn) n.client clock x k.earlier o.0 k.other k.uncounted in
            (q.0, AtWritten t (writes t wn) wn (subst (λ s. IsFoundIn n.client clock (cell_at m.writers.cells.items t) s q.0) e q.1), q.2)
        | inr sn ↦
            let q = used_found f.writes (λ q. q) IsTexture passed m.writers.cells.items tables.written t (samples t sn) n.client clock x k.earlier o.0 k.other k.uncounted in
            (q.0, AtSampled t (samples t sn) sn (subst (λ s. IsFoundIn n.client clock (cell_at m.writers.cells.items t) s q.0) e q.1), q.2)
      ]
      by (Shared t) e (inr o) = elim o.1 [
        | inl wa ↦
            let q = used_found f.writes (λ q. q) IsTexture passed m.writers.cells.items tables.written t (writes t o.0) n.client clock x k.earlier wa k.other k.uncounted in
            (q.0, AtWritten t (writes t o.0) o.0 (subst (λ s. IsFoundIn n.client clock (cell_at m.writers.cells.items t) s q.0) e q.1), q.2)
        | inr sa ↦
            let q = used_found f.samples (λ q. q) IsTexture passed m.readers.cells.items tables.read t (writes t o.0) n.client clock x k.earlier sa k.other k.uncounted in
            (q.0, AtRead t (writes t o.0) o.0 (subst (λ s. IsFoundIn n.client clock (cell_at m.readers.cells.items t) s q.0) e q.1), q.2)
      ]

-- ---- a texture's cell

abbrev pub mark_if : Name → List (List ℕ) → Option ℕ → List (List ℕ)
mark_if n cells None = cells
mark_if n cells (Some t) = mark n cells t

mark_size : (n : Name) (cells : List (List ℕ)) (o : Option ℕ) → length (mark_if n cells o) ≡ length cells
mark_size n cells None = refl
mark_size n cells (Some t) = length-set cells t (marked n (cell_at cells t))

texture_cell : (n : Name) (cells : List (List ℕ)) (o : Option ℕ) (q : ℕ) (b : Bool) → q < length cells → (b ≡ true → o ≡ Some q) → (o ≡ Some q → b ≡ true)
    → cell_at (mark_if n cells o) q ≡ cond b (marked n (cell_at cells q)) (cell_at cells q)
texture_cell n cells None q true lt f g = let e = f refl in absurd cc
texture_cell n cells None q false lt f g = refl
texture_cell n cells (Some t) q b lt f g = elim (cases_Bool (t == q)) [
  | inl s ↦
      let e = eqb-true t q s in
      let u : b ≡ true = g (ap (λ k. Some k) e) in
      ap (λ k. cell_at (mark n cells k) q) e ∙ get_or-set_same cells q (marked n (cell_at cells q)) [] lt ∙ ap (λ k. cond k (marked n (cell_at cells q)) (cell_at cells q)) (sym u)
  | inr d ↦
      let ne = eqb-false t q d in
      let u : b ≡ false = elim (cases_Bool b) [ inl y ↦ (let e = f y in let same : t ≡ q = cc in absurd (ne same)) | inr z ↦ z ] in
      get_or-set_other cells t q (marked n (cell_at cells t)) [] (λ e. ne (sym e)) ∙ ap (λ k. cond k (marked n (cell_at cells q)) (cell_at cells q)) (sym u)
]

-- ---- a name passes

abbrev pub AtOne : Option ℕ → (ℕ → Type 0) → Type 0
AtOne o P = (t : ℕ) × (o ≡ Some t) × P t

-- what the cells of these pixels and textures tell
abbrev pub Finds : Visit → (ℕ → ℕ → Bool) → Option ℕ → Option ℕ → Marks → Found → Type 0
Finds v has samples writes m x =
    IsFoundWhere has v m.pixels.cells.items x
    ⊎ AtOne writes (λ t. IsFoundIn v.name.client v.clock (cell_at m.writers.cells.items t) (Shared t) x ⊎ IsFoundIn v.name.client v.clock (cell_at m.readers.cells.items t) (Shared t) x)
    ⊎ AtOne samples (λ t. IsFoundIn v.name.client v.clock (cell_at m.writers.cells.items t) (Shared t) x)

pub record IsDone (v : Visit) (has : ℕ → ℕ → Bool) (samples writes : Option ℕ) (old new : Marks) (told : Option Found) : Type 0 where
  pub size : length new.pixels.cells.items ≡ length old.pixels.cells.items
  pub pixels : AreTouched has v old.pixels.cells.items new.pixels.cells.items
  pub writers : new.writers.cells.items ≡ mark_if v.name old.writers.cells.items writes
  pub readers : new.readers.cells.items ≡ mark_if v.name old.readers.cells.items samples
  pub best : IsFirst (Finds v has samples writes old) told

module _ (f : Footprint (ℕ × ℕ)) (v : Visit) (s : State) (e : Effect) (has : ℕ → ℕ → Bool) (samples writes : Option ℕ) (old new : Marks) (told : Option Found)
    (effect : HasEffect f v.name v.width v.height s e) (used : IsUse v.width v.height s e has samples writes) (done : IsDone v has samples writes old new told) where
  touch_is : (x y : ℕ) → x < v.width → y < v.height → f.touches v.name (x, y) ≡ has x y
  touch_is x y lx ly =
      effect.touches (x, y) ∙ ap (λ b. (b && nat_lt y v.height) && touches s e (pos x) (pos y)) (lt-ltb x v.width lx) ∙ ap (λ b. b && touches s e (pos x) (pos y)) (lt-ltb y v.height ly)
      ∙ used.touched x y

  touch_in : (p : ℕ × ℕ) → f.touches v.name p ≡ true → IsPixelOf v.width v.height p
  touch_in p t =
      let a = and_parts (nat_lt p.0 v.width && nat_lt p.1 v.height) (touches s e (pos p.0) (pos p.1)) (sym (effect.touches p) ∙ t) in
      let b = and_parts (nat_lt p.0 v.width) (nat_lt p.1 v.height) a.0 in
      (ltb-true p.0 v.width b.0, ltb-true p.1 v.height b.1)

  written_is : (t : ℕ) → f.writes v.name t ≡ true → writes ≡ Some t
  written_is t k = used.written t (sym (effect.writes t) ∙ k)

  is_written : (t : ℕ) → writes ≡ Some t → (f.writes v.name t ≡ true) × (t < 256)
  is_written t k = let b = used.is_written t k in (effect.writes t ∙ b.0, b.1)

  sampled_is : (t : ℕ) → f.samples v.name t ≡ true → samples ≡ Some t
  sampled_is t k = used.sampled t (sym (effect.samples t) ∙ k)

  is_sampled : (t : ℕ) → samples ≡ Some t → (f.samples v.name t ≡ true) × (t < 256)
  is_sampled t k = let b = used.is_sampled t k in (effect.samples t ∙ b.0, b.1)

  to_find : (x : Found) → Finds v has samples writes old x → IsFind f v.width v.height v.clock v.name old x
  to_find x (inl k) =
      let p = k.pixel in
      AtPixel (p.column, p.row) (p.wide, p.high) (touch_is p.column p.row p.wide p.high ∙ p.passes) k.found
  to_find x (inr (inl k)) = let b = is_written k.0 k.1 in elim k.2 [ inl q ↦ AtWritten k.0 b.1 b.0 q | inr q ↦ AtRead k.0 b.1 b.0 q ]
  to_find x (inr (inr k)) = let b = is_sampled k.0 k.1 in AtSampled k.0 b.1 b.0 k.2

  of_find : (x : Found) → IsFind f v.width v.height v.clock v.name old x → Finds v has samples writes old x
  of_find x (AtPixel p ok t k) =
      inl (record { pixel = record { column = p.0; row = p.1; wide = ok.0; high = ok.1; passes = sym (touch_is p.0 p.1 ok.0 ok.1) ∙ t }; found = k })
  of_find x (AtWritten t lt u k) = inr (inl (t, written_is t u, inl k))
  of_find x (AtRead t lt u k) = inr (inl (t, written_is t u, inr k))
  of_find x (AtSampled t lt u k) = inr (inr (t, sampled_is t u, k))

  pub passes : v.name.client < 8 → PassesMarks f v.width v.height (slice_index v.clock) v.name old new told
  passes client = record {
    tables = λ passed behind t. record {
      touched = last_more f.touches (pixel_index v.width) (IsPixelOf v.width v.height) passed old.pixels.cells.items new.pixels.cells.items v.name t.touched client behind done.size
          (λ p ok.
          done.pixels p.0 p.1 ok.0 ok.1
          ∙ ap (λ b. cond b (marked v.name (cell_at old.pixels.cells.items (p.1 * v.width + p.0))) (cell_at old.pixels.cells.items (p.1 * v.width + p.0))) (sym (touch_is p.0 p.1 ok.0 ok.1)));
      written = last_more f.writes (λ q. q) IsTexture passed old.writers.cells.items new.writers.cells.items v.name t.written client behind
          (ap length done.writers ∙ mark_size v.name old.writers.cells.items writes)
          (λ q lt. ap (λ cs. cell_at cs q) done.writers ∙ texture_cell v.name old.writers.cells.items writes q (f.writes v.name q) (t.written.within q lt) (written_is q) (λ k. (is_written q k).0));
      read = last_more f.samples (λ q. q) IsTexture passed old.readers.cells.items new.readers.cells.items v.name t.read client behind
          (ap length done.readers ∙ mark_size v.name old.readers.cells.items samples)
          (λ q lt. ap (λ cs. cell_at cs q) done.readers ∙ texture_cell v.name old.readers.cells.items samples q (f.samples v.name q) (t.read.within q lt) (sampled_is q) (λ k. (is_sampled q k).0));
    };
    first = λ passed t. first_of (Finds v has samples writes old) (IsUnordered f (slice_index v.clock) v.name passed) told
        (λ x k. find_unordered f v.width v.height v.clock v.name old passed t x (to_find x k))
        (λ x k.
        let q = unordered_find f v.width v.height v.clock v.name old passed t touch_in (λ j u. (is_written j (written_is j u)).1) (λ j u. (is_sampled j (sampled_is j u)).1) x k in
        (q.0, of_find q.0 q.1, q.2))
        done.best;
  }

-- ---- what was found, piece by piece

pub bare_finds : (v : Visit) (has : ℕ → ℕ → Bool) (m : Marks) (before after : Option Found) → before ≡ None → IsFirst (OrBefore before (IsFoundWhere has v m.pixels.cells.items)) after
    → IsFirst (Finds v has None None m) after
bare_finds v has m before after e h = first_as (OrBefore before (IsFoundWhere has v m.pixels.cells.items)) (Finds v has None None m) after to from h
  where
    to : (x : Found) → OrBefore before (IsFoundWhere has v m.pixels.cells.items) x → Finds v has None None m x
    to x (inl k) = absurd (let f = sym e ∙ k in cc)
    to x (inr k) = inl k

    from : (x : Found) → Finds v has None None m x → OrBefore before (IsFoundWhere has v m.pixels.cells.items) x
    from x (inl k) = inr k
    from x (inr (inl k)) = absurd (let f = k.1 in cc)
    from x (inr (inr k)) = absurd (let f = k.1 in cc)

pub sampled_finds : (v : Visit) (has : ℕ → ℕ → Bool) (t : ℕ) (m : Marks) (before mid after : Option Found) → before ≡ None → IsFirst (OrBefore before (IsFoundWhere has v m.pixels.cells.items)) mid
    → IsFirst (OrBefore mid (IsFoundIn v.name.client v.clock (cell_at m.writers.cells.items t) (Shared t))) after → IsFirst (Finds v has (Some t) None m) after
sampled_finds v has t m before mid after e h k =
    first_alone (Finds v has (Some t) None m) after
    (first_then None mid after (IsFoundWhere has v m.pixels.cells.items) (IsFoundIn v.name.client v.clock (cell_at m.writers.cells.items t) (Shared t)) (Finds v has (Some t) None m)
    (subst (λ o. IsFirst (OrBefore o (IsFoundWhere has v m.pixels.cells.items)) mid) e h) k to from)
  where
    Here : ℕ → Found → Type 0
    Here q = IsFoundIn v.name.client v.clock (cell_at m.writers.cells.items q) (Shared q)

    to : (x : Found) → Finds v has (Some t) None m x → IsFoundWhere has v m.pixels.cells.items x ⊎ IsFoundIn v.name.client v.clock (cell_at m.writers.cells.items t) (Shared t) x
    to x (inl k) = inl k
    to x (inr (inl k)) = absurd (let f = k.1 in cc)
    to x (inr (inr k)) = let f = k.1 in let same : k.0 ≡ t = cc in inr (subst (λ q. Here q x) same k.2)

    from : (x : Found) → IsFoundWhere has v m.pixels.cells.items x ⊎ IsFoundIn v.name.client v.clock (cell_at m.writers.cells.items t) (Shared t) x → Finds v has (Some t) None m x
    from x (inl k) = inl k
    from x (inr k) = inr (inr (t, refl, k))

pub written_finds : (v : Visit) (t : ℕ) (m : Marks) (told : Option Found)
    → IsFirst (λ x. IsFoundIn v.name.client v.clock (cell_at m.writers.cells.items t) (Shared t) x ⊎ IsFoundIn v.name.client v.clock (cell_at m.readers.cells.items t) (Shared t) x) told
    → IsFirst (Finds v (λ x y. false) None (Some t) m) told
written_finds v t m told h = first_as (Here t) (Finds v (λ x y. false) None (Some t) m) told (λ x k. inr (inl (t, refl, k))) from h
  where
    Here : ℕ → Found → Type 0
    Here q x = IsFoundIn v.name.client v.clock (cell_at m.writers.cells.items q) (Shared q) x ⊎ IsFoundIn v.name.client v.clock (cell_at m.readers.cells.items q) (Shared q) x

    from : (x : Found) → Finds v (λ x y. false) None (Some t) m x → Here t x
    from x (inl k) = absurd (true≢false (sym k.pixel.passes))
    from x (inr (inl k)) = let f = k.1 in let same : k.0 ≡ t = cc in subst (λ q. Here q x) same k.2
    from x (inr (inr k)) = absurd (let f = k.1 in cc)

pub no_finds : (v : Visit) (m : Marks) → IsFirst (Finds v (λ x y. false) None None m) None
no_finds v m = record { none = λ e x k. none x k; some = λ r e. absurd cc }
  where
    none : (x : Found) → Finds v (λ x y. false) None None m x → ⊥
    none x (inl k) = true≢false (sym k.pixel.passes)
    none x (inr (inl k)) = absurd (let f = k.1 in cc)
    none x (inr (inr k)) = absurd (let f = k.1 in cc)

pub untouched_cells : (v : Visit) (old new : List (List ℕ)) → new ≡ old → AreTouched (λ x y. false) v old new
untouched_cells v old new e x y lx ly = ap (λ cells. cell_at cells (y * v.width + x)) e

-- a command that uses nothing
pub quiet_passes : (f : Footprint (ℕ × ℕ)) (w h : ℕ) (clock : ℕ → ℕ) (n : Name) (s : State) (e : Effect) (m : Marks) → HasEffect f n w h s e
    → IsReach (λ x y. touches s e (pos x) (pos y)) (may_sample s e) (writes_shared e) w h no_reach → n.client < 8 → PassesMarks f w h clock n m m None
quiet_passes f w h clock n s e m effect reach client = record {
  tables = λ passed behind t. record {
    touched = last_more f.touches (pixel_index w) (IsPixelOf w h) passed m.pixels.cells.items m.pixels.cells.items n t.touched client behind refl
        (λ p ok. ap (λ b. cond b (marked n (cell_at m.pixels.cells.items (p.1 * w + p.0))) (cell_at m.pixels.cells.items (p.1 * w + p.0))) (sym (false_of (f.touches n p) (untouched p))));
    written = last_more f.writes (λ q. q) IsTexture passed m.writers.cells.items m.writers.cells.items n t.written client behind refl
        (λ q lt. ap (λ b. cond b (marked n (cell_at m.writers.cells.items q)) (cell_at m.writers.cells.items q)) (sym (false_of (f.writes n q) (unwritten q))));
    read = last_more f.samples (λ q. q) IsTexture passed m.readers.cells.items m.readers.cells.items n t.read client behind refl
        (λ q lt. ap (λ b. cond b (marked n (cell_at m.readers.cells.items q)) (cell_at m.readers.cells.items q)) (sym (false_of (f.samples n q) (unsampled q))));
  };
  first = λ passed t. record { none = λ r x u. none x.spot (named x.client x.place) u.at; some = λ r k. absurd cc };
}
  where
    false_of : (b : Bool) → (b ≡ true → ⊥) → b ≡ false
    false_of true k = absurd (k refl)
    false_of false k = refl

    untouched : (p : ℕ × ℕ) → f.touches n p ≡ true → ⊥
    untouched p t =
        let a = and_parts (nat_lt p.0 w && nat_lt p.1 h) (touches s e (pos p.0) (pos p.1)) (sym (effect.touches p) ∙ t) in
        let b = and_parts (nat_lt p.0 w) (nat_lt p.1 h) a.0 in
        let k = reach.rows p.0 p.1 (ltb-true p.0 w b.0) (ltb-true p.1 h b.1) a.1 in
        omega (arith, k.1)

    unwritten : (t : ℕ) → f.writes n t ≡ true → ⊥
    unwritten t k = omega (arith, (reach.writes t (sym (effect.writes t) ∙ k)).1)

    unsampled : (t : ℕ) → f.samples n t ≡ true → ⊥
    unsampled t k = omega (arith, (reach.samples t (and_parts (may_sample s e t) (touches_one w h s e) (sym (effect.samples t) ∙ k)).0).1)

    none : (spot : Spot) (a : Name) → OverlapsAt f a n spot → ⊥
    none (Pixel x y) a o = untouched (x, y) o.1
    none (Shared t) a (inl o) = elim o.1 [ inl k ↦ unwritten t k | inr k ↦ unsampled t k ]
    none (Shared t) a (inr o) = unwritten t o.0
