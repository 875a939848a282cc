-- Turns, one behind the other, and what ends were sent and took in them.
use Rattle.std.proofs.Common.{◌≡◌, ◌<◌, ℕ, List, [], ◌∷◌, ◌++◌, length, refl, sym, ap, ◌∙◌, subst, arith, append-nil, append_assoc}
use Rattle.std.specs.Prelude.{slice_index_or}
use Rattle.std.specs.List.{flat_map}
use Rattle.rc_base.specs.Cluster.Lanes.{EachLane}
use Rattle.cluster_run.specs.Turns.{AreWorkerTurns, TurnsGoOn, TurnsLead}

module _ {W D : Type 0} (turn : W → D → W → Type 0) where
  -- one turn more
  one_more : (first between last : W) (turns : List D) (did : D) → AreWorkerTurns turn first turns between → turn between did last → AreWorkerTurns turn first (turns ++ did ∷ []) last
  one_more first between last [] did same is = (last, subst (λ w. turn w did last) same is, refl)
  one_more first between last (t ∷ turns) did more is = (more.0, more.1, one_more more.0 between last turns did more.2 is)

  pub goes_on : (before after : W) (did : D) → turn before did after → TurnsGoOn turn before after
  goes_on before after did is first led = record { turns = led.turns ++ did ∷ []; are = one_more first before after led.turns did led.are is }

  -- and none
  pub no_turn : (w : W) → TurnsLead turn w w
  no_turn w = record { turns = []; are = refl }

-- ---- ends whose lists grow in each turn by what it says

module _ {W D X : Type 0} (turn : W → D → W → Type 0) (list_of : W → List X) (by : D → List X)
    (grows : (before after : W) (did : D) → turn before did after → list_of after ≡ list_of before ++ by did) where
  pub end_grows : (first last : W) (turns : List D) → AreWorkerTurns turn first turns last → list_of last ≡ list_of first ++ flat_map by turns
  end_grows first last [] same = ap list_of same ∙ sym (append-nil (list_of first))
  end_grows first last (did ∷ turns) more =
      end_grows more.0 last turns more.2
      ∙ ap (λ xs. xs ++ flat_map by turns) (grows first more.0 did more.1)
      ∙ append_assoc (list_of first) (by did) (flat_map by turns)

  -- from nothing on
  pub end_has : (first last : W) (turns : List D) → list_of first ≡ [] → AreWorkerTurns turn first turns last → list_of last ≡ flat_map by turns
  end_has first last turns none are = end_grows first last turns are ∙ ap (λ xs. xs ++ flat_map by turns) none

module _ {W D E X : Type 0} (turn : W → D → W → Type 0) (ends : W → List E) (list_of : E → List X) (by : D → ℕ → List X)
    (grows : (before after : W) (did : D) → turn before did after → EachLane (λ i a b. list_of b ≡ list_of a ++ by did i) (ends before) (ends after)) where
  pub ends_grow : (first last : W) (turns : List D) → AreWorkerTurns turn first turns last
      → EachLane (λ i a b. list_of b ≡ list_of a ++ flat_map (λ did. by did i) turns) (ends first) (ends last)
  ends_grow first last [] same = record {
    count = ap (λ w. length (ends w)) same;
    at = λ i d low. ap (λ w. list_of (slice_index_or (ends w) i d)) same ∙ sym (append-nil (list_of (slice_index_or (ends first) i d)));
  }
  ends_grow first last (did ∷ turns) more =
      let one = grows first more.0 did more.1 in
      let rest = ends_grow more.0 last turns more.2 in
      record {
        count = rest.count ∙ one.count;
        at = λ i d low.
            rest.at i d (let n = one.count in omega (arith, n, low))
            ∙ ap (λ xs. xs ++ flat_map (λ e. by e i) turns) (one.at i d low)
            ∙ append_assoc (list_of (slice_index_or (ends first) i d)) (by did i) (flat_map (λ e. by e i) turns);
      }

  pub ends_have : (count : ℕ) (first last : W) (turns : List D) → length (ends first) ≡ count
      → ((i : ℕ) (d : E) → i < count → list_of (slice_index_or (ends first) i d) ≡ []) → AreWorkerTurns turn first turns last
      → (i : ℕ) (d : E) → i < count → list_of (slice_index_or (ends last) i d) ≡ flat_map (λ did. by did i) turns
  ends_have count first last turns total none are i d low =
      (ends_grow first last turns are).at i d (omega (arith, total, low)) ∙ ap (λ xs. xs ++ flat_map (λ did. by did i) turns) (none i d low)
