use Rattle.std.proofs.Common.{◌≡◌, map, take}
use Rattle.textures.specs.Images.{blank_texture}
use Rattle.textures.proofs.shared.SharedSet.new.Given as goal

abbrev pub invariant-loop-sides : goal.invariant-loop-sides
invariant-loop-sides l = l.textures.items ≡ map blank_texture (take l.sides-index l.sizes)
