-- A grid of lanes grows by a row.
use Rattle.std.proofs.Common.{◌≡◌, ◌≢◌, ◌<◌, ◌+◌, ℕ, List, [], ◌∷◌, ◌++◌, length, get_or, sym, ap, ◌∙◌, subst, arith, length-append}
use Rattle.std.specs.Prelude.{Vec}
use native.Mathlib.Decide.{ℕ_discrete}
use mathlib.Core.Logic.{dite}
use Rattle.tile_queues.specs.declared.ends.LaneIn.{LaneIn}
use Rattle.tile_queues.specs.declared.ends.LaneOut.{LaneOut}
use Rattle.rc_base.proofs.Paired.{some_item, at_end, before_end}
use Rattle.tile_queues.specs.Grids.{IsFresh, IsAdded, IsNewGrid}

module _ {T R A : Type 0} (depth n m : ℕ) (ins ins' : List (Vec (LaneIn T R) A)) (row : Vec (LaneIn T R) A) (outs outs' : List (Vec (LaneOut T R) A)) where
  pub more_row : ins' ≡ ins ++ row ∷ [] → length row.items ≡ m → length outs' ≡ length outs
      → ((t : ℕ) (a : LaneIn T R) (d : Vec (LaneOut T R) A) → t < m → IsAdded depth (get_or row.items t a) (get_or outs t d) (get_or outs' t d))
      → IsNewGrid depth n m ins outs → IsNewGrid depth (n + 1) m ins' outs'
  more_row grown wide same added h = record {
    rows = ap length grown ∙ length-append ins (row ∷ []) ∙ ap (λ k. k + 1) h.rows;
    columns = same ∙ h.columns;
    row = λ c d low. dite (ℕ_discrete c n)
        (λ (is : c ≡ n). subst (λ j. length (get_or ins' j d).items ≡ m) (sym is)
        (ap (λ (v : Vec (LaneIn T R) A). length v.items) (at_end ins ins' row n d h.rows grown) ∙ wide))
        (λ (ne : c ≢ n). let c_low : c < n = omega arith in
        ap (λ (v : Vec (LaneIn T R) A). length v.items) (before_end ins ins' row n c d h.rows grown c_low) ∙ h.row c d c_low);
    column = λ t e low. let x = added t (some_item row.items t (let w = wide in omega arith)) e low in
        ap length x.items ∙ length-append (get_or outs t e).items (x.last ∷ []) ∙ ap (λ k. k + 1) (h.column t e low);
    fresh = λ c t d e a b low t_low.
        let x = added t a e t_low in
        let n_is = h.column t e t_low in
        dite (ℕ_discrete c n)
        (λ (is : c ≡ n). subst (λ j. IsFresh depth (get_or (get_or ins' j d).items t a) (get_or (get_or outs' t e).items j b)) (sym is)
        (subst (λ (v : Vec (LaneIn T R) A). IsFresh depth (get_or v.items t a) (get_or (get_or outs' t e).items n b))
        (sym (at_end ins ins' row n d h.rows grown))
        (subst (λ (z : LaneOut T R). IsFresh depth (get_or row.items t a) z)
        (sym (at_end (get_or outs t e).items (get_or outs' t e).items x.last n b n_is x.items)) x.fresh)))
        (λ (ne : c ≢ n).
        let c_low : c < n = omega arith in
        subst (λ (v : Vec (LaneIn T R) A). IsFresh depth (get_or v.items t a) (get_or (get_or outs' t e).items c b))
        (sym (before_end ins ins' row n c d h.rows grown c_low))
        (subst (λ (z : LaneOut T R). IsFresh depth (get_or (get_or ins c d).items t a) z)
        (sym (before_end (get_or outs t e).items (get_or outs' t e).items x.last n c b n_is x.items c_low)) (h.fresh c t d e a b c_low t_low)));
  }
