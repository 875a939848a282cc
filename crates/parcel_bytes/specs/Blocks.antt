-- Acts that draw no block.
use Rattle.std.specs.Prelude.{◌≡◌}
use Rattle.rc_base.specs.declared.state.Act.{Act}
use Rattle.rc_base.specs.declared.state.Act.TheVariants as act
use Rattle.rc_base.specs.declared.state.Block.{Block}

-- the act draws no block
abbrev pub IsNoDraw : Act → Type 0
IsNoDraw a = (block : Block) → a ≡ act.Draw block → ⊥
