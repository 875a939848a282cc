-- What is kept of a core is what its commands gave so far.
use Rattle.std.proofs.Common.{◌≡◌, ◌∙◌, ℕ, zero, suc, ◌<◌, List, [], ◌∷◌, ◌++◌, length, sym, ap, arith}
use Rattle.std.specs.Prelude.{slice_index_or}
use Rattle.rc_base.specs.Contexts.Context.{ClientContext}
use Rattle.rc_base.specs.Contexts.Issue.{stream_of}
use Rattle.rc_base.specs.Cluster.Sending.{Sending, ToManager, to_tiles}
use Rattle.rc_base.specs.Cluster.Parcels.{end_parcel}
use Rattle.rc_base.specs.declared.sync.Request.TheVariants as request
use Rattle.rc_base.specs.declared.cluster.Tally.{Tally}
use Rattle.rc_base.specs.declared.command.Command.{Command}
use Rattle.rc_base.specs.declared.scene.Scene.{Scene}
use Rattle.rc_base.specs.declared.window.Layout.{Layout}
use Rattle.client_issue.specs.Sequence.{scene_of, items_of}
use Rattle.client_issue.specs.Cores.{IsClientOf, commands_left, ends_from, left_by, left_in, no_tally, tally_in, tally_of_tile}
use Rattle.client_issue.specs.Kept.{IsKept}
use Rattle.client_issue.specs.declared.client.ClientCore.{ClientCore}
use Rattle.client_issue.specs.declared.client.ClientKept.{ClientKept}
use Rattle.client_issue.proofs.Prepared.{sound}
use Rattle.client_issue.proofs.Firsts.{same_waits, same_contexts, ends_are}

right_nil : (xs ys : List Sending) → xs ++ ys ≡ [] → ys ≡ []
right_nil [] ys h = h
right_nil (x ∷ xs) ys h = absurd cc

some_end : (l : Layout) (n k : ℕ) → ends_from l n k ≡ [] → 0 < k
some_end l n zero h =
    let last : (ToManager request.End ∷ []) ≡ [] = right_nil (to_tiles l (λ tile. end_parcel n ∷ [])) (ToManager request.End ∷ []) (sym (ends_are l n) ∙ h) in
    absurd cc
some_end l n (suc k) h = omega arith

ends_gone : (core : ClientCore) → left_in core ≡ [] → 0 < core.ends
unfolding left_by
ends_gone core h =
    some_end core.sender.layout (length core.sender.stream) core.ends
    (right_nil (commands_left core.short core.sender) (ends_from core.sender.layout (length core.sender.stream) core.ends)
    (right_nil (items_of core.ready) (commands_left core.short core.sender ++ ends_from core.sender.layout (length core.sender.stream) core.ends) h))

tallies_kept : (core : ClientCore) (kept : ClientKept) (tile : ℕ) → kept.tallies ≡ core.tallies.items → slice_index_or kept.tallies tile no_tally ≡ tally_of_tile core tile
unfolding tally_in
tallies_kept core kept tile e = ap (λ (ts : List Tally). slice_index_or ts tile no_tally) e

pub kept_is : (core : ClientCore) (scene : Scene) (client : ℕ) (l : Layout) (kept : ClientKept) → IsClientOf core scene client l
    → kept.syncs.ops ≡ core.sender.ops.items → kept.syncs.length ≡ length core.sender.stream → kept.faults ≡ core.sender.context.faults → kept.tallies ≡ core.tallies.items
    → IsKept core scene client kept
kept_is core scene client l kept whose ops size faults tallies =
    let issuing = (sound core).issuing in
    let n = core.sender.issued in
    let within = issuing.issued in
    let same : length core.sender.stream ≡ length (stream_of scene client) = ap (λ (cs : List Command). length cs) whose.stream in
    record {
      within = omega (arith, within, same);
      ops = ops ∙ issuing.ops ∙ same_waits (scene_of core.sender) scene 0 client whose.decl whose.stream n;
      length_is = size ∙ same;
      faults = faults ∙ ap (λ (x : ClientContext). x.faults) (issuing.context ∙ same_contexts (scene_of core.sender) scene 0 client whose.decl whose.stream n);
      count = ap length tallies ∙ core.tallied ∙ core.count;
      tallies = λ tile. tallies_kept core kept tile tallies;
      whole = λ ample none. ((sound core).over ample (ends_gone core none)).issued ∙ same;
    }
