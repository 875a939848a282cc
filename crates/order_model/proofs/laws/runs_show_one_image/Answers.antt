use Rattle.order_model.proofs.laws.runs_show_one_image.Goals as goal
use Rattle.order_model.proofs.JournalsSwapAlike.{swaps_agree}
use Rattle.order_model.proofs.RunsShowOneImage.{permitted_image, default_image}

pub returns-clause-swaps : goal.returns-clause-swaps
returns-clause-swaps c = swaps_agree

pub returns-clause-permitted : goal.returns-clause-permitted
returns-clause-permitted c = permitted_image

pub returns-clause-default : goal.returns-clause-default
returns-clause-default c = default_image
