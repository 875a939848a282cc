-- Cores stand for scenes and journals, step by step.
use Rattle.std.proofs.Common.{◌≡◌, ℕ, ◌<◌, ◌==◌, ◌&&◌, length, eqb-true, ◌+◌, Bool, true, false, Some, refl, sym, ap, ◌∙◌, subst, true≢false}
use Rattle.order_model.specs.Standing.{Progress, performed_in}
use Rattle.rc_base.specs.declared.sync.Grant.TheVariants as grant
use Rattle.tile_model.specs.Boards.{IsDrawn}
use Rattle.tile_model.specs.Items.{shown_frames, IsAwaited}
use Rattle.tile_model.specs.Laws.{NewTilesStand, StepsStand, SwapsShowFrames}
use Rattle.tile_server.specs.Boards.{IsPartOf}
use Rattle.tile_server.specs.Cores.{board_of, layout_of, tile_of, IsProgressOf}
use Rattle.tile_server.specs.Deeds.{item_of, progress_after, IsNextDeed}
use Rattle.tile_server.specs.Laws.{FinishedCoresAreDone, NewCoresStand, ShownPartsAreFrames, StepsKeepStanding}
use Rattle.tile_server.specs.declared.deed.TileDeed.{TileDeed}
use Rattle.tile_server.specs.declared.deed.TileDeed.TheVariants.{Performs, Shows, Fails, Learns, Takes, Rests, Finishes}

-- the item of a deed is awaited
pub awaited : (p : Progress) (deed : TileDeed) → IsNextDeed false p deed → IsAwaited p (item_of deed)
awaited p (Performs e) h = h.2
awaited p (Shows part) h = h.1
awaited p Fails h = tt
awaited p (Learns (grant.Entry e)) h = h.1
awaited p (Learns grant.NoMore) h = h.1
awaited p (Takes client parcel how) h = (h.0.low, h.0.asked)
awaited p Rests h = tt
awaited p Finishes h = tt

pub new_stands : NewTilesStand → NewCoresStand
new_stands stand scene l tile journal core decl layout number ample progress board = record {
  decl = decl;
  layout = layout;
  tile = number;
  ample = ample;
  progress = progress;
  stands = stand scene l tile journal (board_of core) board;
}

pub keeps_standing : StepsStand → StepsKeepStanding
keeps_standing stand scene l tile journal core p deed later range sides legal h step ample theirs =
    let next : IsNextDeed false p deed = subst (λ b. IsNextDeed b p deed) h.ample (step.first p h.progress) in
    let drawn : IsDrawn scene.decl l tile p (item_of deed) (board_of core) (board_of later) =
    subst (λ n. IsDrawn scene.decl l n p (item_of deed) (board_of core) (board_of later)) h.tile
    (subst (λ a. IsDrawn scene.decl a (tile_of core) p (item_of deed) (board_of core) (board_of later)) h.layout
    (subst (λ d. IsDrawn d (layout_of core) (tile_of core) p (item_of deed) (board_of core) (board_of later)) h.decl
    (step.drawn p h.progress ample))) in
    record {
      decl = step.same.decl ∙ h.decl;
      layout = step.same.layout ∙ h.layout;
      tile = step.same.tile ∙ h.tile;
      ample = ample;
      progress = subst (λ b. IsProgressOf later (progress_after b p deed)) ample (step.after p h.progress);
      stands = stand scene l tile journal (item_of deed) p (board_of core) (board_of later) range sides legal h.stands
          (awaited p deed next) theirs drawn;
    }

pub shown_are_frames : SwapsShowFrames → ShownPartsAreFrames
shown_are_frames show scene l tile journal core p part later more legal h step replays low =
    let next : IsNextDeed false p (Shows part) = subst (λ b. IsNextDeed b p (Shows part)) h.ample (step.first p h.progress) in
    let of : IsPartOf l tile (shown_frames p + 1) (board_of core) part =
    subst (λ n. IsPartOf l n (shown_frames p + 1) (board_of core) part) h.tile
    (subst (λ a. IsPartOf a (tile_of core) (shown_frames p + 1) (board_of core) part) h.layout (step.shown p h.progress part refl low)) in
    record {
      tile = of.tile;
      frame = of.frame;
      count = of.count;
      pixel = λ x y in_tile. of.pixel x y in_tile
          ∙ ap (λ q. Some q) (show scene l tile journal p (board_of core) more legal h.stands next.1 replays x y in_tile);
    }

pub over_performed : (m n : ℕ) (b : Bool) → (b && (m == n)) ≡ true → m ≡ n
over_performed m n true t = eqb-true m n t
over_performed m n false t = absurd (true≢false (sym t))

pub done : FinishedCoresAreDone
done scene l tile journal core p later h step all =
    let next : IsNextDeed false p Finishes = subst (λ b. IsNextDeed b p Finishes) h.ample (step.first p h.progress) in
    record {
      learnt = all;
      performed = over_performed (performed_in p.log) (length p.learnt) p.no_more (next.1.performed refl);
      closed = λ client low. next.1.closed client (subst (λ n. client < n) (sym h.stands.progress.count) low);
    }
