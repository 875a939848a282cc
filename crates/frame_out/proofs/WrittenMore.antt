-- One text more is written behind others.
use Rattle.std.proofs.Common.{◌≡◌, ℕ, ◌+◌, ◌<◌, ◌^◌, true, false, List, ◌++◌, length, take, inl, inr, refl, sym, ap, ◌∙◌, subst, arith, length-append, true≢false}
use Rattle.std.specs.Prelude.{min, IfErr, OnOk, Option, Result, Ok, Err}
use Rattle.std.specs.Io.KnownBytes.{Appends}
use Rattle.std.proofs.Math.Seq.{take-append-add, take-append_seam, take-length}
use Rattle.std.proofs.lemmas.List.{take-append-le}
use Rattle.rc_base.specs.Outside.Causes.{HasCause, Rose, last_count, risen}
use Rattle.rc_base.specs.Outside.Ends.{TookFront, Used}
use Rattle.rc_base.proofs.Known.{Appends-then}
use Rattle.rc_base.specs.declared.transfer.WriteFault.{WriteFault}
use Rattle.frame_out.specs.Writing.{written_more, HasGiven, IsCounted}
use Rattle.frame_out.specs.declared.writing.Written.{Written}

abbrev pub used : Option (List ℕ) → Option (List ℕ) → ℕ → ℕ → Used
used a b fa fb = record { before = a; after = b; faults_before = fa; faults_after = fb }

-- behind a fault nothing is offered
pub counted_behind : (e : Used) (text more : List ℕ) (w : Written) → w.fault ≡ true → IsCounted e text w → IsCounted e (text ++ more) w
counted_behind e text more w fault h = record {
  is = elim h.is [
    | inl x ↦ absurd (true≢false (sym fault ∙ x.0))
    | inr x ↦ inr (
      x.0,
      x.1,
      (let low = x.2 in let n = length-append text more in omega (arith, low, n)),
      subst (Appends e.before e.after) (sym (take-append-le w.bytes text more (let low = x.2 in omega (arith, low)))) x.3,
    )
  ];
  count = λ none. absurd (true≢false (sym fault ∙ none));
}

module _ (a b c : Option (List ℕ)) (fa fb fc : ℕ) (text more : List ℕ) (w : Written) (none : w.fault ≡ false) (few : length text + length more < 2 ^ 64)
    (h : IsCounted (used a b fa fb) text w) where
  took : Appends a b text
  took = elim h.is [ inl x ↦ x.1 | inr x ↦ absurd (true≢false (sym x.0 ∙ none)) ]

  calm : fb ≡ fa
  calm = elim h.is [ inl x ↦ x.2 | inr x ↦ absurd (true≢false (sym x.0 ∙ none)) ]

  -- the whole text went out
  pub counted_whole : Appends b c more → fc ≡ fb → IsCounted (used a c fa fc) (text ++ more) record { bytes = min (w.bytes + length more) last_count; fault = false }
  counted_whole gone same = record {
    is = inl (refl, Appends-then a b c text more took gone, same ∙ calm);
    count = λ _. (let n = h.count none in let m = length-append text more in omega (arith, n, m, few));
  }

  -- so many bytes of it did, and then the image failed
  pub counted_part : (done : ℕ) → done < length more → Appends b c (take done more) → Rose fb fc → fc ≡ risen fb
      → IsCounted (used a c fa fc) (text ++ more) record { bytes = min (w.bytes + done) last_count; fault = true }
  counted_part done low gone rose once =
      let bytes : min (w.bytes + done) last_count ≡ length text + done = (let n = h.count none in omega (arith, n, few, low)) in
      let part : take (min (w.bytes + done) last_count) (text ++ more) ≡ text ++ take done more =
      ap (λ (n : ℕ). take n (text ++ more)) bytes ∙ take-append-add text more done in
      record {
        is = inr (
          refl,
          record { rose = subst (λ (n : ℕ). Rose n fc) calm rose; once = subst (λ (n : ℕ). fc ≡ risen n) calm once },
          (let n = length-append text more in omega (arith, bytes, n, low)),
          subst (Appends a c) (sym part) (Appends-then a b c text (take done more) took gone),
        );
        count = λ e. absurd (true≢false e);
      }

-- what the image was given
pub given_behind : (b : Option (List ℕ)) (more : List ℕ) (w : Written) → w.fault ≡ true → HasGiven b b more w w
given_behind b more w fault = record {
  all = λ e. absurd (true≢false (sym fault ∙ e));
  front = λ e. absurd (true≢false (sym fault ∙ e));
  none = λ _. (refl, refl);
}

pub given_whole : (b c : Option (List ℕ)) (more : List ℕ) (w new : Written) → w.fault ≡ false → Appends b c more → HasGiven b c more w new
given_whole b c more w new none gone = record {
  all = λ _. (none, gone);
  front = λ _. (length more, omega arith, subst (Appends b c) (sym (take-length more)) gone);
  none = λ e. absurd (true≢false (sym e ∙ none));
}

pub given_part : (b c : Option (List ℕ)) (more : List ℕ) (w : Written) (n done : ℕ) → w.fault ≡ false → done < length more → Appends b c (take done more)
    → HasGiven b c more w record { bytes = n; fault = true }
given_part b c more w n done none low gone = record {
  all = λ e. absurd (true≢false e);
  front = λ _. (done, omega (arith, low), gone);
  none = λ e. absurd (true≢false (sym e ∙ none));
}

-- ---- by the answer of `write_all`

pub counted_more : (a b c : Option (List ℕ)) (fa fb fc : ℕ) (text more : List ℕ) (w : Written) (size : ℕ) (r : Result (Unit {0}) WriteFault) → w.fault ≡ false → size ≡ length more
    → length text + length more < 2 ^ 64 → OnOk r (Appends b c more) → IfErr r (λ e. (e.done < length more) × Appends b c (take e.done more)) → HasCause fb fc r
    → IsCounted (used a b fa fb) text w → IsCounted (used a c fa fc) (text ++ more) (written_more w size r)
counted_more a b c fa fb fc text more w size (Ok done) none is few whole part cause h =
    subst (λ (n : ℕ). IsCounted (used a c fa fc) (text ++ more) record { bytes = min (w.bytes + n) last_count; fault = false }) (sym is)
    (counted_whole a b c fa fb fc text more w none few h whole cause.passed)
counted_more a b c fa fb fc text more w size (Err e) none is few whole part cause h =
    counted_part a b c fa fb fc text more w none few h e.done part.0 part.1 cause.failed cause.once

pub given_more : (b c : Option (List ℕ)) (more : List ℕ) (w : Written) (size : ℕ) (r : Result (Unit {0}) WriteFault) → w.fault ≡ false
    → OnOk r (Appends b c more) → IfErr r (λ e. (e.done < length more) × Appends b c (take e.done more)) → HasGiven b c more w (written_more w size r)
given_more b c more w size (Ok done) none whole part = given_whole b c more w record { bytes = min (w.bytes + size) last_count; fault = false } none whole
given_more b c more w size (Err e) none whole part = given_part b c more w (min (w.bytes + e.done) last_count) e.done none part.0 part.1

-- ---- several frames

-- what was written of some texts is a front of them and of those behind them
pub front_of : (e : Used) (text more : List ℕ) (w : Written) → IsCounted e text w → TookFront e (text ++ more)
front_of e text more w h = elim h.is [
  | inl x ↦ record {
    done = length text;
    part = (let n = length-append text more in omega (arith, n));
    given = subst (Appends e.before e.after) (sym (take-append_seam text more)) x.1;
  }
  | inr x ↦ record {
    done = w.bytes;
    part = (let n = length-append text more in let low = x.2 in omega (arith, n, low));
    given = subst (Appends e.before e.after) (sym (take-append-le w.bytes text more (let low = x.2 in omega (arith, low)))) x.3;
  }
]
