-- The clients' surveys, one after the other.
use Rattle.std.proofs.Common.{◌≡◌, ℕ, ◌+◌, ◌<◌, List, [], ◌∷◌, ◌++◌, length, sym, ap, ◌∙◌, subst, arith, length-append}
use Rattle.std.specs.Prelude.{Ok, IfOk}
use Rattle.std.specs.declared.option.Option.{Option}
use Rattle.std.specs.declared.result.Result.{Result}
use Rattle.rc_base.proofs.Paired.{is_next, next_within}
use Rattle.rc_base.specs.declared.out_of_memory.OutOfMemory.{OutOfMemory}
use Rattle.rc_base.specs.declared.scene.Scene.{Scene}
use Rattle.rc_base.specs.declared.state.Fault.{Fault}
use Rattle.rc_base.specs.declared.sync.Name.{Name}
use Rattle.rc_base.specs.declared.sync.SyncRow.{SyncRow}
use Rattle.serial_render.specs.Surveyed.{AreSurveyed}
use Rattle.serial_render.proofs.SurveyedStreams.{one_more_surveyed}
use Rattle.sort_last.specs.Runs.{name_or, IsFirstOf, IsSurveyedClient, AreSurveyedApart}
use Rattle.sort_last.specs.declared.offence.SurveyedClient.{SurveyedClient}
use Rattle.sort_last.proofs.OffendingCommands.{name_more}

module _ (scene : Scene) (found front rest more : List (Result SurveyedClient OutOfMemory)) (r : Result SurveyedClient OutOfMemory) (apart : AreSurveyedApart scene found)
    (parts : found ≡ front ++ rest) (next : rest ≡ r ∷ more) where
  -- the next one is of the next client
  pub next_is_within : length front < length scene.streams
  next_is_within = (let low = next_within found front rest more r parts next in let n = apart.count in omega (arith, low, n))

  pub next_client : (s : SurveyedClient) → r ≡ Ok s → IsSurveyedClient scene (length front) s
  next_client s is =
      subst (λ (q : Result SurveyedClient OutOfMemory). IfOk q (λ t. IsSurveyedClient scene (length front) t)) (is_next found front rest more r r parts next ∙ is)
      (apart.each (length front) r next_is_within)

counted : {A : Type 0} (xs : List A) (x : A) → length xs + 1 ≡ length (xs ++ x ∷ [])
counted xs x = sym (length-append xs (x ∷ []))

-- and so is what is made of them
pub one_more_row : {A : Type 0} (scene : Scene) (front : List A) (r : A) (s : SurveyedClient) (rows rows' : List SyncRow) (lists lists' : List (List (ℕ × Fault)))
    → IsSurveyedClient scene (length front) s → AreSurveyed scene (length front) rows lists → rows' ≡ rows ++ s.row ∷ [] → lists' ≡ lists ++ s.faults ∷ []
    → AreSurveyed scene (length (front ++ r ∷ [])) rows' lists'
one_more_row scene front r s rows rows' lists lists' is before a b =
    subst (λ n. AreSurveyed scene n rows' lists') (counted front r)
    (one_more_surveyed scene (length front) rows rows' lists lists' s.row s.faults before a b is.row_is is.faults_are)

pub one_more_name : {A : Type 0} (scene : Scene) (front : List A) (r : A) (s : SurveyedClient) (n : ℕ) (before after : Option Name) → n ≡ length front
    → IsSurveyedClient scene (length front) s → IsFirstOf scene (length front) before → after ≡ name_or before n s.first
    → IsFirstOf scene (length (front ++ r ∷ [])) after
one_more_name scene front r s n before after same is first grown =
    subst (λ k. IsFirstOf scene k after) (counted front r)
    (name_more scene (length front) before after s.first first is.first_is (grown ∙ ap (λ k. name_or before k s.first) same))
