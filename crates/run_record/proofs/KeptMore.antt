-- What is kept of one client more.
use Rattle.std.proofs.Common.{◌≡◌, ℕ, ◌+◌, ◌<◌, List, [], ◌∷◌, ◌++◌, length, sym, ap, ◌∙◌, subst, arith, length-append}
use Rattle.std.proofs.Math.ListN.{get_or-append}
use Rattle.std.proofs.Math.Seq.{get_or-append_seam}
use Rattle.std.proofs.lemmas.List.Sums.{sum_by_push}
use Rattle.std.specs.List.{sum_by}
use Rattle.std.specs.Prelude.{min, slice_index_or}
use Rattle.rc_base.specs.Contexts.Issue.{stream_of, context_after}
use Rattle.rc_base.specs.Orders.Sync.{waits_below}
use Rattle.rc_base.specs.Outside.Causes.{last_count}
use Rattle.rc_base.specs.declared.cluster.Tally.{Tally}
use Rattle.rc_base.specs.declared.scene.Scene.{Scene}
use Rattle.rc_base.specs.declared.sync.WaitAt.{WaitAt}
use Rattle.rc_base.specs.declared.window.Layout.{Layout}
use Rattle.client_issue.specs.Cores.{IsClientOf, no_tally, tally_of_tile}
use Rattle.client_issue.specs.Kept.{IsKept}
use Rattle.client_issue.specs.declared.client.ClientCore.{ClientCore}
use Rattle.client_issue.specs.declared.client.ClientKept.{ClientKept}
use Rattle.rc_base.specs.Lists.{ArePaired}
use Rattle.plain_lemmas.proofs.Numbers.{min_of_min}
use Rattle.run_record.specs.Gathering.{HasSent, HaveSent, IsRowOf, AreFaultsOf, AreSums}
use Rattle.run_record.specs.Kept.{together, AreAdded, AreKept, HasAdded}
use Rattle.run_record.specs.declared.kept.KeptLists.{KeptLists}
use Rattle.rc_base.proofs.Paired.{paired_more}

-- what is kept of a core, whatever its scene
abbrev IsKeptOf : ClientCore → ClientKept → Type 0
IsKeptOf core kept = (scene : Scene) (client : ℕ) (l : Layout) → IsClientOf core scene client l → IsKept core scene client kept

is_row : (n : ℕ) (core : ClientCore) (kept : ClientKept) → IsKeptOf core kept → IsRowOf n core kept.syncs
is_row n core kept k scene l sent =
    let one = k scene n l sent.whose in
    ap (λ (o : List WaitAt). record { ops = o; length = kept.syncs.length }) (one.ops ∙ ap (λ m. waits_below scene n m) (one.whole sent.ample sent.all))
    ∙ ap (λ (m : ℕ). record { ops = waits_below scene n (length (stream_of scene n)); length = m }) one.length_is

are_faults : (n : ℕ) (core : ClientCore) (kept : ClientKept) → IsKeptOf core kept → AreFaultsOf n core kept.faults
are_faults n core kept k scene l sent =
    let one = k scene n l sent.whose in
    one.faults ∙ ap (λ m. (context_after scene n m).faults) (one.whole sent.ample sent.all)

front_sent : (scene : Scene) (l : Layout) (cores : List ClientCore) (core : ClientCore) → HaveSent scene l (cores ++ core ∷ []) → HaveSent scene l cores
front_sent scene l cores core h = record {
  at = λ i d lt.
      let low : i < length (cores ++ core ∷ []) = (let n = length-append cores (core ∷ []) in omega (arith, lt, n)) in
      subst (λ x. HasSent scene l i x) (get_or-append cores (core ∷ []) d i lt) (h.at i d low);
}

last_sent : (scene : Scene) (l : Layout) (cores : List ClientCore) (core : ClientCore) → HaveSent scene l (cores ++ core ∷ []) → HasSent scene l (length cores) core
last_sent scene l cores core h =
    let low : length cores < length (cores ++ core ∷ []) = (let n = length-append cores (core ∷ []) in omega (arith, n)) in
    subst (λ x. HasSent scene l (length cores) x) (get_or-append_seam cores core [] core) (h.at (length cores) core low)

sum_more : (f : ClientCore → ℕ) (cores : List ClientCore) (core : ClientCore) (s : ℕ) (m : ℕ) → s ≡ min (sum_by f cores) m → min (s + f core) m ≡ min (sum_by f (cores ++ core ∷ [])) m
sum_more f cores core s m e =
    ap (λ n. min (n + f core) m) e ∙ min_of_min (sum_by f cores) (f core) m ∙ ap (λ n. min n m) (sym (sum_by_push f cores core))

sums_more : (cores : List ClientCore) (core : ClientCore) (tiles : ℕ) (old new : List Tally) (kept : ClientKept) → IsKeptOf core kept
    → AreAdded old kept.tallies new → AreSums cores tiles old → AreSums (cores ++ core ∷ []) tiles new
sums_more cores core tiles old new kept k a h = record {
  count = a.count ∙ h.count;
  each = λ scene l sent tile lt.
      let low : tile < length old = (let n = h.count in omega (arith, n, lt)) in
      let was = h.each scene l (front_sent scene l cores core sent) tile lt in
      let last = last_sent scene l cores core sent in
      let one = (k scene (length cores) l last.whose).tallies tile in
      let now = a.at tile low ∙ ap (λ t. together (slice_index_or old tile no_tally) t) one in
      record {
        parcels = ap (λ (t : Tally). t.parcels) now
            ∙ sum_more (λ c. (tally_of_tile c tile).parcels) cores core (slice_index_or old tile no_tally).parcels last_count was.parcels;
        sets = ap (λ (t : Tally). t.sets) now
            ∙ sum_more (λ c. (tally_of_tile c tile).sets) cores core (slice_index_or old tile no_tally).sets last_count was.sets;
        looks = ap (λ (t : Tally). t.looks) now
            ∙ sum_more (λ c. (tally_of_tile c tile).looks) cores core (slice_index_or old tile no_tally).looks last_count was.looks;
      };
}

pub kept_more : (cores : List ClientCore) (core : ClientCore) (tiles : ℕ) (old new : KeptLists) (kept : ClientKept) → IsKeptOf core kept
    → HasAdded old kept new → AreKept cores tiles old → AreKept (cores ++ core ∷ []) tiles new
kept_more cores core tiles old new kept k a h = record {
  rows = subst (λ ys. ArePaired IsRowOf (cores ++ core ∷ []) ys) (sym a.rows) (paired_more IsRowOf cores old.rows.items core kept.syncs h.rows (is_row (length cores) core kept k));
  faults = subst (λ ys. ArePaired AreFaultsOf (cores ++ core ∷ []) ys) (sym a.faults) (paired_more AreFaultsOf cores old.faults.items core kept.faults h.faults (are_faults (length cores) core kept k));
  tallies = sums_more cores core tiles old.tallies.items new.tallies.items kept k a.tallies h.tallies;
}
