-- A client's operations one command after the other, and clients one after the other.
use Rattle.std.proofs.Common.{◌≡◌, ℕ, ◌+◌, ◌≤◌, List, [], ◌∷◌, ◌++◌, length, refl, sym, ap, ◌∙◌, arith, inl, inr, add-one}
use Rattle.std.specs.Prelude.{map, slice_index_or}
use Rattle.std.specs.List.{range_with_len}
use Rattle.std.proofs.lemmas.Bool.{cases_lt}
use Rattle.std.proofs.lemmas.List.{get_or_past}
use Rattle.std.proofs.lemmas.List.FromFn.{length-map-range_with_len, get_or-map-range_with_len}
use Rattle.rc_base.specs.Contexts.Context.{default_context}
use Rattle.rc_base.specs.Contexts.Issue.{context_after, effect_at, stream_of, faults_of}
use Rattle.rc_base.specs.Orders.Sync.{wait_of, waits_below, sync_row_of, sync_lists_of}
use Rattle.rc_base.specs.declared.scene.Scene.{Scene}
use Rattle.rc_base.specs.declared.state.Effect.{Effect}
use Rattle.rc_base.specs.declared.state.Effect.TheVariants as eff
use Rattle.rc_base.specs.declared.state.Fault.{Fault}
use Rattle.rc_base.specs.declared.sync.SyncRow.{SyncRow}
use Rattle.rc_base.specs.declared.sync.WaitAt.{WaitAt}
use Rattle.gl_context.specs.Counted.{counted, kind_of}
use Rattle.gl_context.specs.declared.counting.CountingContext.{CountingContext}
use Rattle.gl_context.specs.declared.counting.EffectKind.{EffectKind}
use Rattle.stream_replay.proofs.ListsGoOn.{map_more}
use Rattle.serial_render.specs.Surveyed.{survey_after, waits_at, AreSurveyed}
use Rattle.serial_render.specs.declared.client_survey.ClientSurvey.{ClientSurvey}

pub no_waits : (s : Scene) (client : ℕ) → [] ≡ waits_below s client 0
unfolding waits_below
no_waits s client = refl

pub one_more_wait : (s : Scene) (client place : ℕ) (e : Effect) → e ≡ effect_at s client place
    → waits_below s client place ++ wait_of place e ≡ waits_below s client (place + 1)
unfolding waits_below
one_more_wait s client place e is =
    ap (λ (f : Effect). waits_below s client place ++ wait_of place f) is ∙ sym (ap (waits_below s client) (add-one place))

pub waits_are : (place : ℕ) (e : Effect) (k : EffectKind) → k ≡ kind_of e → waits_at place k ≡ wait_of place e
waits_are place e k is = ap (waits_at place) is ∙ each e
  where
    each : (f : Effect) → waits_at place (kind_of f) ≡ wait_of place f
    each eff.Quiet = refl
    each (eff.Refused fault) = refl
    each (eff.Block block) = refl
    each (eff.Clear mask) = refl
    each (eff.Shared part) = refl
    each (eff.Sync o) = refl

-- a survey behind one more command
pub surveyed_more : (s : Scene) (client place : ℕ) (e : Effect) (k : EffectKind) (t : ClientSurvey) (context : CountingContext) (ops : List WaitAt)
    → t ≡ survey_after s client place → context ≡ counted (context_after s client (place + 1)) → k ≡ kind_of e → e ≡ effect_at s client place
    → ops ≡ t.ops ++ waits_at place k → record { context = context; ops = ops } ≡ survey_after s client (place + 1)
surveyed_more s client place e k t context ops before is told same grown i = record {
  context = is i;
  ops = (grown ∙ ap (λ (u : ClientSurvey). u.ops ++ waits_at place k) before ∙ ap (λ (ws : List WaitAt). waits_below s client place ++ ws) (waits_are place e k told) ∙ one_more_wait s client place e same) i;
}

pub lists_are : (s : Scene) (rows : List SyncRow) (counts units : List ℕ) → rows ≡ map (sync_row_of s) (range_with_len 0 (length s.streams))
    → counts ≡ s.decl.barriers → units ≡ s.decl.semaphores → record { clients = rows; counts = counts; units = units } ≡ sync_lists_of s
unfolding sync_lists_of
lists_are s rows counts units a b c i = record { clients = a i; counts = b i; units = c i }

-- a client that doesn't exist has no faults
no_faults : (s : Scene) (client : ℕ) → length s.streams ≤ client → [] ≡ faults_of s client
unfolding context_after default_context
no_faults s client past =
    let none : 0 ≡ length (stream_of s client) = sym (ap length (get_or_past s.streams client [] past)) in
    ap (λ n. (context_after s client n).faults) none

pub faults_are : (s : Scene) (lists : List (List (ℕ × Fault))) → lists ≡ map (faults_of s) (range_with_len 0 (length s.streams))
    → (client : ℕ) → slice_index_or lists client [] ≡ faults_of s client
faults_are s lists is client = ap (λ (l : List (List (ℕ × Fault))). slice_index_or l client []) is ∙ elim (cases_lt client (length s.streams)) [
  | inl inside ↦ get_or-map-range_with_len (faults_of s) 0 (length s.streams) client client [] inside (omega arith)
  | inr past ↦
      get_or_past (map (faults_of s) (range_with_len 0 (length s.streams))) client [] (omega (arith, length-map-range_with_len (faults_of s) 0 (length s.streams), past))
      ∙ no_faults s client past
]

pub faults_count : (s : Scene) (lists : List (List (ℕ × Fault))) → lists ≡ map (faults_of s) (range_with_len 0 (length s.streams)) → length lists ≡ length s.streams
faults_count s lists is = ap length is ∙ length-map-range_with_len (faults_of s) 0 (length s.streams)

pub one_more_surveyed : (s : Scene) (n : ℕ) (rows rows' : List SyncRow) (lists lists' : List (List (ℕ × Fault))) (row : SyncRow) (faults : List (ℕ × Fault))
    → AreSurveyed s n rows lists → rows' ≡ rows ++ row ∷ [] → lists' ≡ lists ++ faults ∷ [] → row ≡ sync_row_of s n → faults ≡ faults_of s n
    → AreSurveyed s (n + 1) rows' lists'
one_more_surveyed s n rows rows' lists lists' row faults before a b is are = record {
  rows_are = a ∙ (λ i. before.rows_are i ++ is i ∷ []) ∙ sym (map_more (sync_row_of s) 0 n n (omega arith));
  faults_are = b ∙ (λ i. before.faults_are i ++ are i ∷ []) ∙ sym (map_more (faults_of s) 0 n n (omega arith));
}
