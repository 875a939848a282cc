-- The commands and frames of a scene, counted stream by stream, and the commands stored where they are not too many.
use Rattle.std.proofs.Common.{◌≡◌, ℕ, ◌+◌, ◌-◌, ◌*◌, ◌<◌, ◌≤◌, min, Bool, List, [], ◌∷◌, ◌++◌, length, Option, Result, Ok, Err, refl, sym, ap, subst, ◌∙◌, arith, length-append}
use Rattle.std.specs.Prelude.{IfOk, IfErr, None, sum_by, count_by}
use Rattle.std.specs.Result.{result_map_both}
use Rattle.std.proofs.lemmas.Bool.Decides.{nat_tests}
use Rattle.std.proofs.lemmas.List.Sums.{sum_by-append, sum_by-cons}
use Rattle.rc_base.specs.declared.command.Command.{Command}
use Rattle.rc_base.specs.declared.scene.Decl.{Decl}
use Rattle.rc_base.specs.declared.scene.Scene.{Scene}
use Rattle.rc_base.specs.declared.scene.Limit.{Limit}
use Rattle.rc_base.specs.declared.scene.SceneKind.{SceneKind}
use Rattle.rc_base.specs.Formats.Limits.{is_swap_command, least_swaps, limit_of, swaps_in}
use Rattle.rc_base.specs.Formats.Spelling.{CommandSet, SceneForm, SpellsScene, plain_form}
use Rattle.packet_bytes.specs.declared.packets.DecodedOf.{DecodedOf}
use Rattle.scene_file.specs.declared.fault.SceneFault.{SceneFault}
use Rattle.scene_file.specs.declared.fault.SceneFault.TheVariants as scene_faults
use Rattle.scene_file.specs.Letters.{Letters, form_of}
use Rattle.scene_file.specs.Counting.{Counts, DecodesFirst, SpellsCounted, counted_as, frames_with, least_shown}
use Rattle.scene_file.specs.declared.reading.Counted.{Counted}
use Rattle.std.proofs.lemmas.List.{map-id}
use Rattle.scene_file.specs.Faults.{TellsForm, TellsFormBy, IsBeyond, IsBeyondBy, IsJudged, IsJudgedBy, IsReadBy, FailsAsScene, FailsAsSceneOf, SceneFailsBy}
use Rattle.scene_file.specs.Reading.{scene_fault}
use Rattle.scene_file.specs.declared.fault.Broken.{Broken}
use Rattle.scene_file.specs.declared.fault.Broken.TheVariants as broken
use Rattle.scene_file.proofs.StreamsInTurn.{Stage, stage_more, stage_done}

pub frames_some : (before frames swaps : ℕ) → 0 < before → frames_with before frames swaps ≡ min frames swaps
frames_some before frames swaps some = grind (arith, nat_tests)

-- the frames of a scene of the commands of the table
pub shown_swaps : (css : List (List Command)) → least_shown is_swap_command css ≡ least_swaps css
shown_swaps [] = refl
shown_swaps (a ∷ []) = refl
shown_swaps (a ∷ (b ∷ css)) = ap (min (swaps_in a)) (shown_swaps (b ∷ css))

module _ {C : Type 0} where
  commands_more : (css : List (List C)) (cs : List C) → sum_by length (css ++ cs ∷ []) ≡ sum_by length css + length cs
  commands_more css cs = sum_by-append length css (cs ∷ []) ∙ omega (arith, sum_by-cons length cs [])

  -- the frames of streams, and of one more behind them
  frames_more : (shows : C → Bool) (css : List (List C)) (cs : List C) → least_shown shows (css ++ cs ∷ []) ≡ frames_with (length css) (least_shown shows css) (count_by shows cs)
  frames_more shows [] cs = refl
  frames_more shows (a ∷ []) cs = refl
  frames_more shows (a ∷ (b ∷ css)) cs =
      let others = frames_more shows (b ∷ css) cs ∙ frames_some (length (b ∷ css)) (least_shown shows (b ∷ css)) (count_by shows cs) (omega arith) in
      let all = frames_some (length (a ∷ (b ∷ css))) (least_shown shows (a ∷ (b ∷ css))) (count_by shows cs) (omega arith) in
      ap (min (count_by shows a)) others ∙ omega arith ∙ sym all

module _ {C O : Type 0} (set : CommandSet C O) (letters : Letters) (shows : C → Bool) where
  abbrev form : SceneForm C O
  form = form_of set letters

  -- a header, some streams with so many commands and frames, and the rest
  pub record Progress (bytes : List ℕ) (decl : Decl) (clients count : ℕ) (streams : List (List C)) (commands frames : ℕ) (rest : List ℕ) : Type 0 where
    pub all : List (List C)
    pub stage : Stage set letters bytes decl clients count all rest
    pub as_many : length streams ≡ length all
    pub counted : commands ≡ sum_by length all
    pub frames_are : frames ≡ least_shown shows all
    pub stored : commands ≤ 1048576 → streams ≡ all
    pub few : commands ≤ 4294967296 * count

  pub progress_none : (bytes : List ℕ) (d : Decl) (n : ℕ) (rest : List ℕ) → Stage set letters bytes d n 0 [] rest → Progress bytes d n 0 [] 0 0 rest
  progress_none bytes d n rest s = record { all = []; stage = s; as_many = refl; counted = refl; frames_are = refl; stored = λ _. refl; few = omega arith }

  -- one more stream
  pub progress_more : (bytes : List ℕ) (d : Decl) (n i : ℕ) (css : List (List C)) (commands frames : ℕ) (rest : List ℕ) (x : DecodedOf (List C)) (after : List ℕ)
      → Progress bytes d n i css commands frames rest → DecodesFirst set shows rest (1048576 - commands) x after
      → Progress bytes d n (i + 1) (css ++ x.commands ∷ []) (commands + x.count) (frames_with (length css) frames x.swaps) after
  progress_more bytes d n i css commands frames rest x after p h = record {
    all = p.all ++ h.all ∷ [];
    stage = stage_more set letters bytes d n i p.all rest h.all after p.stage h.first;
    as_many = omega (arith, p.as_many, length-append css (x.commands ∷ []), length-append p.all (h.all ∷ []));
    counted = omega (arith, p.counted, h.counted, commands_more p.all h.all);
    frames_are = (λ k. frames_with (p.as_many k) (p.frames_are k) (h.swaps k)) ∙ sym (frames_more shows p.all h.all);
    stored = λ le. let front = p.stored (omega (arith, le)) in let last = h.stored (omega (arith, le)) in λ k. front k ++ last k ∷ [];
    few = omega (arith, p.few, h.few);
  }

  pub progress_done : (bytes : List ℕ) (d : Decl) (n i : ℕ) (css : List (List C)) (commands frames : ℕ) (rest : List ℕ) → Progress bytes d n i css commands frames rest → i ≡ n → length rest ≡ 0
      → SpellsCounted form shows bytes (record { decl = d; streams = css; commands = commands; frames = frames })
  progress_done bytes d n i css commands frames rest p last none = record {
    decl = d;
    streams = p.all;
    spells = stage_done set letters bytes d n i p.all rest p.stage last none;
    counts = record { decl = refl; clients = p.as_many; counted = p.counted; frames = p.frames_are; stored = p.stored };
  }

-- commands that are kept as they are
pub kept_same : {C : Type 0} (x : Counted (List C)) → counted_as (λ (cs : List C). cs) x ≡ x
kept_same x = λ i. record { decl = x.decl; streams = map-id x.streams i; commands = x.commands; frames = x.frames }

-- a fault of the bytes is told at its place
pub fault_told : {C O : Type 0} (form : SceneForm C O) (all : List (List ℕ)) (bytes : List ℕ) (b : Broken) (fault : SceneFault)
    → fault ≡ scene_fault b (length bytes) → SceneFailsBy form all bytes b → TellsFormBy (FailsAsSceneOf form all) bytes fault
fault_told form all bytes broken.Memory fault e h = subst (TellsFormBy (FailsAsSceneOf form all) bytes) (sym e) tt
fault_told form all bytes (broken.Form kind left) fault e h =
    let at : h.0 ≡ length bytes - left = omega (arith, h.2) in
    subst (TellsFormBy (FailsAsSceneOf form all) bytes) (sym e) (subst (λ (n : ℕ). FailsAsSceneOf form all bytes kind n) at h.1)

-- it is no quantity outside its range
pub not_beyond : {S : Type 0} (Spells : List ℕ → S → Type 0) (limit : S → Option Limit) (bytes : List ℕ) (b : Broken) (fault : SceneFault)
    → fault ≡ scene_fault b (length bytes) → IsBeyondBy Spells limit bytes fault
not_beyond Spells limit bytes broken.Memory fault e = subst (IsBeyondBy Spells limit bytes) (sym e) tt
not_beyond Spells limit bytes (broken.Form kind left) fault e = subst (IsBeyondBy Spells limit bytes) (sym e) tt

-- ---- what is judged

-- Bytes spell a scene, and the answer is the judgement of it.
module _ {S : Type 0} (Spells : List ℕ → S → Type 0) (limit : S → Option Limit) (Fails : List ℕ → SceneKind → ℕ → Type 0) (bytes : List ℕ) (s : S) (spells : Spells bytes s) where
  pub judged_found : (r : Result S SceneFault) → IsJudgedBy limit s r → IfOk r (λ x. Spells bytes x × (limit x ≡ None))
  judged_found (Ok y) j = subst (λ x. Spells bytes x × (limit x ≡ None)) (sym j.0) (spells, j.1)
  judged_found (Err e) j = tt

  pub judged_form : (r : Result S SceneFault) → IsJudgedBy limit s r → IfErr r (TellsFormBy Fails bytes)
  judged_form (Ok y) j = tt
  judged_form (Err (scene_faults.Malformed kind at)) j = absurd j
  judged_form (Err (scene_faults.Limit what value)) j = tt
  judged_form (Err scene_faults.OutOfMemory) j = tt

  pub judged_beyond : (r : Result S SceneFault) → IsJudgedBy limit s r → IfErr r (IsBeyondBy Spells limit bytes)
  judged_beyond (Ok y) j = tt
  judged_beyond (Err (scene_faults.Malformed kind at)) j = tt
  judged_beyond (Err (scene_faults.Limit what value)) j = (s, spells, j)
  judged_beyond (Err scene_faults.OutOfMemory) j = tt

-- ---- the same of an answer whose scene is seen so

module _ {X : Type 0} (view : X → Scene) where
  abbrev pub seen : Result X SceneFault → Result Scene SceneFault
  seen r = result_map_both view (λ (fault : SceneFault). fault) r

  pub seen_ok : (P : Scene → Type 0) (r : Result X SceneFault) → IfOk (seen r) P → IfOk r (λ x. P (view x))
  seen_ok P (Ok x) h = h
  seen_ok P (Err e) h = tt

  seen_err : (P : SceneFault → Type 0) (r : Result X SceneFault) → IfErr (seen r) P → IfErr r P
  seen_err P (Ok x) h = tt
  seen_err P (Err e) h = h

  -- what was counted was judged
  pub judged_seen : (bytes : List ℕ) (x : Counted (List Command)) (r : Result X SceneFault) → SpellsCounted plain_form is_swap_command bytes x
      → ((s : Scene) → Counts is_swap_command x s.decl s.streams → IsJudged s (seen r)) → IsReadBy view SpellsScene limit_of FailsAsScene bytes r
  judged_seen bytes x r known judged =
      let s : Scene = record { decl = known.decl; streams = known.streams } in
      let j = judged s known.counts in
      record {
        found = seen_ok (λ y. SpellsScene bytes y × (limit_of y ≡ None)) r (judged_found SpellsScene limit_of FailsAsScene bytes s known.spells (seen r) j);
        malformed = seen_err (TellsForm bytes) r (judged_form SpellsScene limit_of FailsAsScene bytes s known.spells (seen r) j);
        limit = seen_err (IsBeyond bytes) r (judged_beyond SpellsScene limit_of FailsAsScene bytes s known.spells (seen r) j);
      }
