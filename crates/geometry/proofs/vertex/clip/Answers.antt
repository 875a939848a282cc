use Rattle.std.proofs.Common.{◌^◌, arith}
use Rattle.fixed_math.proofs.Signed.{all_within_more}
use Rattle.geometry.proofs.vertex.clip.Goals as goal

pub product-requires-clause-bounded : goal.product-requires-clause-bounded
product-requires-clause-bounded c = all_within_more c.product-eye.result (2 ^ 48) (2 ^ 64) (omega arith) (c.product-eye.ensures.small (2 ^ 31) c.widen.ensures.small)

pub returns-clause-small : goal.returns-clause-small
returns-clause-small c = c.product.ensures.small (2 ^ 48) (c.product-eye.ensures.small (2 ^ 31) c.widen.ensures.small)
