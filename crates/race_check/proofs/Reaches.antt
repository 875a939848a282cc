-- What a command may use lies in its reach.
use Rattle.std.proofs.Common.{◌≡◌, ℕ, ◌<◌, true, ℤ, pos, ◌≤ℤ◌, ◌<ℤ◌, refl, sym, ◌∙◌, arith, true≢false}
use Rattle.std.proofs.lemmas.Int.{by_lt_z}
use Rattle.rc_base.specs.Cluster.Tiles.{is_in_rect}
use Rattle.rc_base.specs.Drawing.Touch.{may_sample, touches, writes_shared}
use Rattle.rc_base.specs.declared.command.Part.{Part}
use Rattle.rc_base.specs.declared.state.Block.{Block}
use Rattle.rc_base.specs.declared.state.Effect.{Effect}
use Rattle.rc_base.specs.declared.state.Effect.TheVariants as eff
use Rattle.rc_base.specs.declared.state.State.{State}
use Rattle.rc_base.specs.declared.window.Rect.{Rect}
use Rattle.race_check.specs.Outlines.{IsAmong, IsReach, no_reach}
use Rattle.race_check.specs.declared.range.Range.{Range}
use Rattle.race_check.proofs.TouchesInTurn.{outside_left, outside_right, outside_below, outside_above}

-- a command that isn't a block or a Clear touches no pixel
pub none_touched : (s : State) (e : Effect) → ((b : Block) → e ≡ eff.Block b → ⊥) → ((m : ℕ) → e ≡ eff.Clear m → ⊥) → (x y : ℤ) → touches s e x y ≡ true → ⊥
unfolding touches
none_touched s (eff.Block b) n m x y t = n b refl
none_touched s (eff.Clear k) n m x y t = m k refl
none_touched s (eff.Shared p) n m x y t = true≢false (sym t)
none_touched s eff.Quiet n m x y t = true≢false (sym t)
none_touched s (eff.Refused f) n m x y t = true≢false (sym t)
none_touched s (eff.Sync o) n m x y t = true≢false (sym t)

-- only a block samples a texture
pub none_sampled : (s : State) (e : Effect) → ((b : Block) → e ≡ eff.Block b → ⊥) → (t : ℕ) → may_sample s e t ≡ true → ⊥
none_sampled s (eff.Block b) n t k = n b refl
none_sampled s (eff.Clear m) n t k = true≢false (sym k)
none_sampled s (eff.Shared p) n t k = true≢false (sym k)
none_sampled s eff.Quiet n t k = true≢false (sym k)
none_sampled s (eff.Refused f) n t k = true≢false (sym k)
none_sampled s (eff.Sync o) n t k = true≢false (sym k)

-- only a part of a texture is written to one
pub none_written : (e : Effect) → ((p : Part) → e ≡ eff.Shared p → ⊥) → (t : ℕ) → writes_shared e t ≡ true → ⊥
none_written (eff.Shared p) n t k = n p refl
none_written (eff.Block b) n t k = true≢false (sym k)
none_written (eff.Clear m) n t k = true≢false (sym k)
none_written eff.Quiet n t k = true≢false (sym k)
none_written (eff.Refused f) n t k = true≢false (sym k)
none_written (eff.Sync o) n t k = true≢false (sym k)

pub quiet_reach : (e : Effect) → ((b : Block) → e ≡ eff.Block b → ⊥) → ((m : ℕ) → e ≡ eff.Clear m → ⊥) → ((p : Part) → e ≡ eff.Shared p → ⊥) → (s : State) (w h : ℕ)
    → IsReach (λ x y. touches s e (pos x) (pos y)) (may_sample s e) (writes_shared e) w h no_reach
quiet_reach e n m p s w h = record {
  rows = λ x y lx ly t. absurd (none_touched s e n m (pos x) (pos y) t);
  columns = λ x y lx ly t. absurd (none_touched s e n m (pos x) (pos y) t);
  samples = λ t k. absurd (none_sampled s e n t k);
  writes = λ t k. absurd (none_written e p t k);
  inside = (omega arith, omega arith, omega arith, omega arith);
}

-- ---- pixels of a rectangle

rect_at : (r : Rect) (x y : ℤ) → is_in_rect r x y ≡ true → (r.x0 ≤ℤ x) × (x <ℤ r.x1) × (r.y0 ≤ℤ y) × (y <ℤ r.y1)
rect_at r x y h = (
  by_lt_z x r.x0 (λ l. absurd (true≢false (sym h ∙ outside_left r x y l))) (λ k. k),
  by_lt_z x r.x1 (λ k. k) (λ l. absurd (true≢false (sym h ∙ outside_right r x y l))),
  by_lt_z y r.y0 (λ l. absurd (true≢false (sym h ∙ outside_below r x y l))) (λ k. k),
  by_lt_z y r.y1 (λ k. k) (λ l. absurd (true≢false (sym h ∙ outside_above r x y l))),
)

pub area_has : (r : Rect) (rows columns : Range) (width height x y : ℕ) → ((k : ℕ) → k < height → r.y0 ≤ℤ pos k → pos k <ℤ r.y1 → IsAmong rows k)
    → ((k : ℕ) → k < width → r.x0 ≤ℤ pos k → pos k <ℤ r.x1 → IsAmong columns k) → x < width → y < height → is_in_rect r (pos x) (pos y) ≡ true → IsAmong rows y × IsAmong columns x
area_has r rows columns width height x y up across lx ly h =
    let b = rect_at r (pos x) (pos y) h in
    (up y ly b.2 b.3, across x lx b.0 b.1)
