use Rattle.std.proofs.Common.{◌≡◌, ℕ, Bool, true, false, List, ◌∷◌, Option, Some, None, inl, inr, refl, ap}
use Rattle.std.specs.Prelude.{slice_index_or}
use Rattle.rc_base.specs.Cluster.PlainLanes.{held}
use Rattle.rc_base.specs.declared.cluster.TilePart.{TilePart}
use Rattle.rc_base.specs.declared.image.Image.{Image}
use Rattle.rc_base.specs.declared.plain_lane.PlainLane.{PlainLane}
use Rattle.assembler.specs.Assembled.{short_of, IsAssembled}
use Rattle.assembler.specs.Places.{IsFound, IsTaken}
use Rattle.assembler.specs.declared.frame_parts.FrameParts.{FrameParts}
use Rattle.uses.specs.Cluster.{GiveOneAtMost, GivesOneAtMost}
use Rattle.uses.proofs.cluster.advanced.Goals as goal

abbrev Lane : Type 0
Lane = PlainLane TilePart

abbrev gave : Lane → TilePart → Lane → Type 0
gave a part b = held a ≡ part ∷ held b

abbrev same : Lane → Lane → Type 0
same a b = held b ≡ held a

module _ (empty_seen : Lane → ℕ) (bare : Lane → Type 0) where
  taken_one : (a b : Lane) (part : Option TilePart) → IsTaken gave same empty_seen bare a part b → GivesOneAtMost a b
  taken_one a b (Some part) taken = inr (part, taken)
  taken_one a b None taken = inl taken.0

  found_one : (a b : Lane) (place found : Option TilePart) → IsFound gave same empty_seen bare place a found b → GivesOneAtMost a b
  found_one a b (Some part) found is = inl (ap held is.1)
  found_one a b None found is = taken_one a b found is

  give_one : (before after : FrameParts) (lanes later : List Lane) (result : Option Image)
      → IsAssembled gave same empty_seen bare before lanes result after later → GiveOneAtMost lanes later
  give_one before after lanes later result step tile d low = by (short_of before) refl
    where
      by : (short : Bool) → short_of before ≡ short → GivesOneAtMost (slice_index_or lanes tile d) (slice_index_or later tile d)
      by true is = let dropped = (step.refused is).each.at tile d low in taken_one _ _ dropped.part dropped.taken
      by false is = found_one _ _ _ _ ((step.whole is).each.at tile d low)

pub returns : goal.returns
returns c = give_one _ _ _ _ _ _ _ c.advance.ensures.step.step
