use Rattle.std.proofs.Common.{◌≡◌, length, rules}
use Rattle.std.proofs.lemmas.List.{nil_from_length}
use Rattle.spu_chain.proofs.AllStreams.{scene_given, rules_kept}
use Rattle.spu_chain.proofs.scenes.filter_scene.Goals as goal

pub returns-then-is_empty-clause-given : goal.returns-then-is_empty-clause-given
returns-then-is_empty-clause-given g c =
    let none : length c.args.chain.now.items ≡ 0 = search rules in
    scene_given _ c.args.chain.now.items c.args.scene (nil_from_length c.args.chain.now.items none)

pub returns-then-is_empty-clause-rules : goal.returns-then-is_empty-clause-rules
returns-then-is_empty-clause-rules g c =
    let none : length c.args.chain.now.items ≡ 0 = search rules in
    rules_kept _ c.args.chain.now.items c.args.scene.streams (nil_from_length c.args.chain.now.items none)
