use Rattle.scene_text.specs.Text.Read.{words_of}
use Rattle.scene_text.proofs.WhatWordsSay.{texels_told}
use Rattle.scene_text.proofs.arguments.read_statement.Goals as goal

pub returns-in-Err : goal.returns-in-Err
returns-in-Err c =
    texels_told c.args.draft.now c.args.draft.now c.args.name (words_of c.args.rest.now) c.args.numbers.now c.in-Err.fault (c.in-Err.ensures.read c.args.name)
