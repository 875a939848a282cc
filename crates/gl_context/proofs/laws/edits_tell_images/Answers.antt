use Rattle.gl_context.proofs.ImagesGoOn.{never_falls, same_images}
use Rattle.gl_context.proofs.laws.edits_tell_images.Goals as goal

pub returns-clause-rising : goal.returns-clause-rising
returns-clause-rising c = never_falls

pub returns-clause-same : goal.returns-clause-same
returns-clause-same c = same_images
