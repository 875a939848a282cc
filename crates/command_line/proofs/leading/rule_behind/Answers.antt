use Rattle.std.proofs.Common.{ap, ap₂, refl, ◌∷◌, List, ℕ, rules}
use Rattle.spu_chain.specs.Filter.{IsTint}
use Rattle.command_line.specs.Filters.Filter.{Recolour, Drop}
use Rattle.spu_chain.specs.declared.rule.SpuRule.TheVariants as rule
use Rattle.command_line.proofs.leading.rule_behind.Goals as goal

pub returns-in_ok-tint-in-recolour : goal.returns-in_ok-tint-in-recolour
returns-in_ok-tint-in-recolour c =
    let fits : IsTint c.in_ok-tint-in-recolour.tint = search rules in
    (Recolour c.in_ok-tint-in-recolour.tint, fits, ap₂ (λ (w : List ℕ) (ws : List (List ℕ)). w ∷ ws) c.in-recolour.is c.in_ok-tint-in-recolour.ensures, refl)

pub returns-in_ok-opcode-in-drop : goal.returns-in_ok-opcode-in-drop
returns-in_ok-opcode-in-drop c =
    (Drop c.in_ok-opcode-in-drop.opcode, tt, ap₂ (λ (w : List ℕ) (ws : List (List ℕ)). w ∷ ws) c.in-drop.is c.in_ok-opcode-in-drop.ensures, ap rule.Drop c.opcode_byte.ensures)
