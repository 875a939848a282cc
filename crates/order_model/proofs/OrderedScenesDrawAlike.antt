-- In an ordered scene all permitted orders draw the same.
use Rattle.std.proofs.Common.{◌≡◌, ◌≢◌, ℕ, Bool, true, false, cond, List, inl, inr, sym, ap, ◌∙◌, lt_irrefl, lt_trans, ◌<◌}
use Rattle.std.proofs.lemmas.Bool.{cases_Bool}
use mathlib.Core.Path.{fun_ext}
use Rattle.rc_base.specs.Lists.{IsIn, Stands}
use Rattle.rc_base.specs.Drawing.Serial.{Canvas, canvas_step}
use Rattle.rc_base.specs.Orders.Order.{Overlaps, IsPermitted, IsOrdered}
use Rattle.rc_base.specs.declared.sync.Entry.{Entry}
use Rattle.rc_base.specs.declared.sync.Name.{Name}
use Rattle.rc_base.specs.declared.sync.SyncLists.{SyncLists}
use Rattle.order_model.specs.Commuting.{Drawing, IsLocal, pixel_after}
use Rattle.order_model.proofs.CommutingNames.{fold_same}
use Rattle.order_model.proofs.PermittedAsRuns.{rising_of}
use Rattle.order_model.proofs.StandsInLists.{first_in, second_in, not_both, rising_once}

-- the serial renderer's step of one pixel, for a drawing
abbrev step : {P X T : Type 0} → Drawing P X T → (Name → Bool) → P → Canvas (ℕ → T) X → Name → Canvas (ℕ → T) X
step d shown p = canvas_step (λ tex n. d.stored n tex) (λ n tex x. d.drawn n p x tex) shown

stores : {P X T : Type 0} (d : Drawing P X T) → IsLocal d → (a b : Name) → (Overlaps d.uses a b → ⊥) → (tex : ℕ → T) (t : ℕ)
    → d.stored a (d.stored b tex) t ≡ d.stored b (d.stored a tex) t
stores d h a b free tex t =
    elim (cases_Bool (d.uses.writes a t)) [
      | inl wa ↦ elim (cases_Bool (d.uses.writes b t)) [
        | inl wb ↦ absurd (free (Overlaps.FirstWrites t wa (inl wb)))
        | inr nb ↦ h.own a (d.stored b tex) tex t (h.unwritten b tex t nb) ∙ sym (h.unwritten b (d.stored a tex) t nb)
      ]
      | inr na ↦ h.unwritten a (d.stored b tex) t na ∙ h.own b tex (d.stored a tex) t (sym (h.unwritten a tex t na))
    ]

-- what b stores is free matter to a
alike : {P X T : Type 0} (d : Drawing P X T) → IsLocal d → (a b : Name) → ((t : ℕ) → d.uses.writes b t ≡ true → d.uses.samples a t ≡ true → ⊥)
    → (p : P) (x : X) (tex : ℕ → T) → d.drawn a p x (d.stored b tex) ≡ d.drawn a p x tex
alike d h a b free p x tex =
    h.reads a p x (d.stored b tex) tex (λ t s. elim (cases_Bool (d.uses.writes b t)) [ inl w ↦ absurd (free t w s) | inr w ↦ h.unwritten b tex t w ])

-- a pixel that a doesn't touch
passes : {P X T : Type 0} (d : Drawing P X T) → IsLocal d → (shown : Name → Bool) (a : Name) (p : P) (x : X) (tex : ℕ → T) → d.uses.touches a p ≡ false
    → cond (shown a) (d.drawn a p x tex) x ≡ x
passes d h shown a p x tex free = elim (cases_Bool (shown a)) [ inl e ↦ rw e (h.untouched a p x tex free) | inr e ↦ rw e ]

pixels : {P X T : Type 0} (d : Drawing P X T) → IsLocal d → (a b : Name) → (Overlaps d.uses a b → ⊥) → (shown : Name → Bool) (p : P) (x : X) (tex : ℕ → T)
    → cond (shown a) (d.drawn a p (cond (shown b) (d.drawn b p x tex) x) (d.stored b tex)) (cond (shown b) (d.drawn b p x tex) x)
    ≡ cond (shown b) (d.drawn b p (cond (shown a) (d.drawn a p x tex) x) (d.stored a tex)) (cond (shown a) (d.drawn a p x tex) x)
pixels d h a b free shown p x tex =
    let ab = alike d h a b (λ t w s. free (Overlaps.SecondWrites t w (inr s))) p in
    let ba = alike d h b a (λ t w s. free (Overlaps.FirstWrites t w (inr s))) p in
    elim (cases_Bool (d.uses.touches a p)) [
      | inl ta ↦ elim (cases_Bool (d.uses.touches b p)) [
        | inl tb ↦ absurd (free (Overlaps.CommonPixel p ta tb))
        | inr nb ↦
            ap (λ y. cond (shown a) (d.drawn a p y (d.stored b tex)) y) (passes d h shown b p x tex nb)
            ∙ ap (λ y. cond (shown a) y x) (ab x tex)
            ∙ sym (passes d h shown b p (cond (shown a) (d.drawn a p x tex) x) (d.stored a tex) nb)
      ]
      | inr na ↦
          passes d h shown a p (cond (shown b) (d.drawn b p x tex) x) (d.stored b tex) na
          ∙ sym (ap (λ y. cond (shown b) y x) (ba x tex))
          ∙ sym (ap (λ y. cond (shown b) (d.drawn b p y (d.stored a tex)) y) (passes d h shown a p x tex na))
    ]

may_swap : {P X T : Type 0} (d : Drawing P X T) → IsLocal d → (a b : Name) → (Overlaps d.uses a b → ⊥) → (shown : Name → Bool) (p : P) (s : Canvas (ℕ → T) X)
    → step d shown p (step d shown p s b) a ≡ step d shown p (step d shown p s a) b
unfolding canvas_step
may_swap d h a b free shown p s =
    λ i. record { shared = fun_ext (stores d h a b free s.shared) i; pixel = pixels d h a b free shown p s.pixel s.shared i }

-- two orders of the same names, rising in each client, in which names that clash keep their sequence
same_pixel : {P X T : Type 0} (d : Drawing P X T) → IsLocal d → (o o' : List Name)
    → ((n : Name) → IsIn n o → IsIn n o') → ((n : Name) → IsIn n o' → IsIn n o)
    → ((a b : Name) → a.client ≡ b.client → Stands a b o → a.place < b.place) → ((a b : Name) → a.client ≡ b.client → Stands a b o' → a.place < b.place)
    → ((a b : Name) → IsIn a o → IsIn b o → a.client ≢ b.client → Overlaps d.uses a b → Stands a b o → Stands a b o')
    → (shown : Name → Bool) (p : P) (tex : ℕ → T) (x : X) → pixel_after d shown p o tex x ≡ pixel_after d shown p o' tex x
same_pixel d local o o' f g r r' keep shown p tex x =
    ap (λ canvas. canvas.pixel) (fold_same (step d shown p) o o' (rising_once o r) (rising_once o' r') f g
    (λ a b s s' q. may_swap d local a b
    (λ clash. not_both a b o' (rising_once o' r') (keep a b (first_in a b o s) (second_in a b o s) (λ e. lt_irrefl a.place (lt_trans (r a b e s) (r' b a (sym e) s'))) clash s) s')
    shown p q)
    (record { shared = tex; pixel = x }))

pub ordered_pixels_agree : {P X T : Type 0} (d : Drawing P X T) → IsLocal d → (syncs : SyncLists) (journal : List Entry) → IsOrdered syncs journal d.uses
    → (o o' : List Name) → IsPermitted syncs journal o → IsPermitted syncs journal o'
    → (shown : Name → Bool) (p : P) (tex : ℕ → T) (x : X) → pixel_after d shown p o tex x ≡ pixel_after d shown p o' tex x
ordered_pixels_agree d local syncs journal ordered o o' m m' shown p tex x =
    same_pixel d local o o' (λ n i. (m'.names n).1 ((m.names n).0 i)) (λ n i. (m.names n).1 ((m'.names n).0 i)) (rising_of syncs journal o m) (rising_of syncs journal o' m')
    (λ a b i j ne common s. ordered a b record { clients = ne; first = (m.names a).0 i; second = (m.names b).0 j; common = common } o o' m m' s)
    shown p tex x
