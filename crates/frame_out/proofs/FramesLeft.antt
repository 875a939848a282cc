-- Frames of which some are written, and the others are left.
use Rattle.std.proofs.Common.{◌≡◌, ℕ, ◌+◌, ◌<◌, ◌^◌, List, [], ◌∷◌, ◌++◌, length, sym, ap, ◌∙◌, subst, arith, append-nil, append_assoc, length-append}
use Rattle.std.proofs.lemmas.Grind.{flat_map-append}
use Rattle.std.proofs.lemmas.List.Concat.{flat_map-cons}
use Rattle.rc_base.specs.Formats.Netpbm.{p6_text, p6_texts}
use Rattle.rc_base.specs.Outside.Ends.{TookFront, Used}
use Rattle.rc_base.specs.declared.image.Image.{Image}
use Rattle.frame_out.specs.Writing.{AreWritable, IsCounted, IsTextWritten}
use Rattle.frame_out.specs.declared.writing.Written.{Written}
use Rattle.frame_out.proofs.Texts.{texts_short}
use Rattle.frame_out.proofs.WrittenMore.{front_of}

-- the texts of the first frames were written, and these are left
pub record AreLeft (image : Used) (frames left : List Image) (written : Written) : Type 0 where
  pub first : List Image
  pub parts : frames ≡ first ++ left
  pub counted : IsCounted image (p6_texts first) written

texts_parted : (xs ys : List Image) → p6_texts (xs ++ ys) ≡ p6_texts xs ++ p6_texts ys
texts_parted xs ys = flat_map-append p6_text xs ys

pub texts_more : (xs : List Image) (x : Image) → p6_texts (xs ++ x ∷ []) ≡ p6_texts xs ++ p6_text x
texts_more xs x = texts_parted xs (x ∷ []) ∙ ap (λ (t : List ℕ). p6_texts xs ++ t) (append-nil (p6_text x))

module _ (image : Used) (frames left rest : List Image) (x : Image) (w : Written) (is : left ≡ x ∷ rest) (h : AreLeft image frames left w) where
  -- their bytes can be counted, and those of one more
  pub fits : AreWritable frames → length (p6_texts h.first) + length (p6_text x) < 2 ^ 64
  fits writable =
      let parts : p6_texts frames ≡ p6_texts h.first ++ (p6_text x ++ p6_texts rest) =
      ap p6_texts (h.parts ∙ ap (λ (ys : List Image). h.first ++ ys) is) ∙ texts_parted h.first (x ∷ rest)
      ∙ ap (λ (t : List ℕ). p6_texts h.first ++ t) (flat_map-cons p6_text x rest) in
      let most = texts_short frames writable.whole in
      let few = writable.few in
      let all = ap length parts ∙ length-append (p6_texts h.first) (p6_text x ++ p6_texts rest) in
      let behind = length-append (p6_text x) (p6_texts rest) in
      omega (arith, most, few, all, behind)

  -- one is written more
  pub one_less : (now : Used) (more : Written) → IsCounted now (p6_texts h.first ++ p6_text x) more → AreLeft now frames rest more
  one_less now more counted = record {
    first = h.first ++ x ∷ [];
    parts = h.parts ∙ ap (λ (ys : List Image). h.first ++ ys) is ∙ sym (append_assoc h.first (x ∷ []) rest);
    counted = subst (λ (t : List ℕ). IsCounted now t more) (sym (texts_more h.first x)) counted;
  }

module _ (image : Used) (frames left : List Image) (w : Written) (h : AreLeft image frames left w) where
  -- what was written is a front
  pub front_so_far : TookFront image (p6_texts frames)
  front_so_far = subst (TookFront image) (sym (ap p6_texts h.parts ∙ texts_parted h.first left)) (front_of image (p6_texts h.first) (p6_texts left) w h.counted)

  -- and all where none is left
  pub all_written : left ≡ [] → IsTextWritten image (p6_texts frames) w
  all_written none =
      subst (λ (ys : List Image). IsTextWritten image (p6_texts ys) w) (sym (h.parts ∙ ap (λ (ys : List Image). h.first ++ ys) none ∙ append-nil h.first)) h.counted.is
