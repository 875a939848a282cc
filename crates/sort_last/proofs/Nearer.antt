-- Of two pixels the nearer one: a semigroup with a blank pixel as its unit, and steps of a pixel that only put something nearer.
use Rattle.std.proofs.Common.{◌≡◌, ◌<◌, ◌≤◌, List, [], ◌∷◌, inl, inr, refl, sym, ap, ◌∙◌, arith, lt-ltb, le-ltb}
use Rattle.std.specs.Prelude.{fold}
use Rattle.std.proofs.lemmas.Bool.{cases_lt}
use Rattle.rc_base.specs.Drawing.Serial.{blank_pixel}
use Rattle.rc_base.specs.Drawing.Window.{depth_most}
use Rattle.rc_base.specs.Lists.{IsIn}
use Rattle.rc_base.specs.declared.window.Pixel.{Pixel}
use Rattle.rc_base.specs.Drawing.Nearer.{nearer}
use Rattle.scene_lemmas.proofs.Triangles.{nearer_is_first}

pub behind_is : (a b : Pixel) → b.depth < a.depth → nearer a b ≡ b
behind_is a b lt = rw (lt-ltb _ _ lt) refl

pub nearer_associative : (a b c : Pixel) → nearer (nearer a b) c ≡ nearer a (nearer b c)
nearer_associative a b c = elim (cases_lt b.depth a.depth) [
  | inl ba ↦ elim (cases_lt c.depth b.depth) [
    | inl cb ↦
        ap (λ p. nearer p c) (behind_is a b ba) ∙ behind_is b c cb
        ∙ sym (ap (nearer a) (behind_is b c cb) ∙ behind_is a c (omega (arith, ba, cb)))
    | inr bc ↦
        ap (λ p. nearer p c) (behind_is a b ba) ∙ nearer_is_first b c bc
        ∙ sym (ap (nearer a) (nearer_is_first b c bc) ∙ behind_is a b ba)
  ]
  | inr ab ↦ elim (cases_lt c.depth b.depth) [
    | inl cb ↦ ap (λ p. nearer p c) (nearer_is_first a b ab) ∙ sym (ap (nearer a) (behind_is b c cb))
    | inr bc ↦
        ap (λ p. nearer p c) (nearer_is_first a b ab) ∙ nearer_is_first a c (omega (arith, ab, bc))
        ∙ sym (ap (nearer a) (nearer_is_first b c bc) ∙ nearer_is_first a b ab)
  ]
]

-- neither is nearer than what is kept
pub nearer_depth : (a b : Pixel) → (nearer a b).depth ≤ a.depth
nearer_depth a b = elim (cases_lt b.depth a.depth) [
  | inl lt ↦ rw (lt-ltb _ _ lt) (omega (arith, lt))
  | inr le ↦ rw (le-ltb _ _ le) (omega arith)
]

-- a blank pixel changes none of a buffer
pub blank_behind : (p : Pixel) → p.depth ≤ depth_most → nearer p blank_pixel ≡ p
blank_behind p le = nearer_is_first p blank_pixel le

-- and one that was drawn stands before it
pub blank_before : (p : Pixel) → p.depth ≤ depth_most → (p.depth ≡ depth_most → p ≡ blank_pixel) → nearer blank_pixel p ≡ p
blank_before p le blank = elim (cases_lt p.depth depth_most) [
  | inl lt ↦ behind_is blank_pixel p lt
  | inr ge ↦ nearer_is_first blank_pixel p ge ∙ sym (blank (omega (arith, le, ge)))
]

-- ---- steps of a pixel

-- the step puts what it makes of a blank pixel before the pixel, where that is nearer
abbrev pub Merges : (Pixel → Pixel) → Type 0
Merges g = (p : Pixel) → p.depth ≤ depth_most → g p ≡ nearer p (g blank_pixel)

pub merges_keep : (g : Pixel → Pixel) → Merges g → (p : Pixel) → p.depth ≤ depth_most → (g p).depth ≤ depth_most
merges_keep g m p le = omega (arith, le, nearer_depth p (g blank_pixel), ap (λ (q : Pixel). q.depth) (m p le))

pub merges_still : Merges (λ p. p)
merges_still p le = sym (blank_behind p le)

pub merges_one : (f : Pixel) → Merges (λ p. nearer p f)
merges_one f p le = ap (λ q. nearer q f) (sym (blank_behind p le)) ∙ nearer_associative p blank_pixel f

pub merges_then : (g h : Pixel → Pixel) → Merges g → Merges h → Merges (λ p. h (g p))
merges_then g h m n p le =
    let blank : blank_pixel.depth ≤ depth_most = omega arith in
    n (g p) (merges_keep g m p le)
    ∙ ap (λ q. nearer q (h blank_pixel)) (m p le)
    ∙ nearer_associative p (g blank_pixel) (h blank_pixel)
    ∙ ap (nearer p) (sym (n (g blank_pixel) (merges_keep g m blank_pixel blank)))

pub merges_fold : {A : Type 0} (step : Pixel → A → Pixel) (xs : List A) → ((x : A) → IsIn x xs → Merges (λ p. step p x)) → Merges (λ p. fold step p xs)
merges_fold step [] all = merges_still
merges_fold step (x ∷ xs) all =
    merges_then (λ p. step p x) (λ p. fold step p xs) (all x (inl refl)) (merges_fold step xs (λ y i. all y (inr i)))

-- pixels that are put before a pixel, one after the other
pub fold_behind : (a b : Pixel) (ps : List Pixel) → nearer a (fold nearer b ps) ≡ fold nearer (nearer a b) ps
fold_behind a b [] = refl
fold_behind a b (p ∷ ps) = fold_behind a (nearer b p) ps ∙ ap (λ q. fold nearer q ps) (sym (nearer_associative a b p))
