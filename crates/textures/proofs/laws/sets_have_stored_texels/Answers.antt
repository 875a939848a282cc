use Rattle.textures.proofs.Stored.{blank, written}
use Rattle.textures.proofs.laws.sets_have_stored_texels.Goals as goal

pub returns-clause-blank : goal.returns-clause-blank
returns-clause-blank c = blank

pub returns-clause-written : goal.returns-clause-written
returns-clause-written c = written
