use Rattle.std.proofs.Common.{◌≡◌, arith}
use Rattle.scene_text.proofs.DraftsGrow.{adds_first_client, adds_client}
use Rattle.scene_text.proofs.draft.open_client.Goals as goal

pub returns-then-draft-lt5 : goal.returns-then-draft-lt5
returns-then-draft-lt5 c = adds_first_client c.args.draft.now c.requires.draft c.requires.least c.if-draft-lt5.true

pub returns : goal.returns
returns c =
    let last : c.args.draft.now.rank ≡ 5 = omega (arith, c.requires.draft.rank, c.if-draft-lt5.false) in
    rw (c.in_ok-push.ensures.items, c.replace-stream.ensures.value, c.replace-stream.ensures.after, c.new.ensures) (adds_client c.args.draft.now last)
