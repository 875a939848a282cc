-- What is asked of a command's arguments, and the product that it asks for.
use Rattle.std.specs.Prelude.{◌≡◌, ◌≤◌, ◌*◌, length, Option, Some, None, if◌then◌else◌}
use Rattle.rc_base.specs.Numbers.{product_of, product_fits}
use Rattle.rc_base.specs.Formats.Commands.{IsCommand}
use Rattle.rc_base.specs.Contexts.Context.{ClientContext, top, private_count}
use Rattle.rc_base.specs.declared.command.Command.{Command}
use Rattle.rc_base.specs.declared.command.Command.TheVariants as cmd
use Rattle.rc_base.specs.declared.command.Mat4.{Mat4}

-- four bytes for each texel of a private texture
abbrev pub HasTexels : Command → Type 0
HasTexels (cmd.TexImage name w h bytes) = length bytes ≡ 4 * (w * h)
HasTexels (cmd.TexPart part) = length part.texels ≡ 4 * (part.w * part.h)
HasTexels _ = Unit {0}

-- as every command of a stream that bytes spell
abbrev pub CommandsHaveTexels : Type 0
CommandsHaveTexels = (c : Command) → IsCommand c → HasTexels c

-- a private texture that is written has one of the names
abbrev pub HasName : Command → Type 0
HasName (cmd.TexImage name w h bytes) = name ≤ private_count
HasName (cmd.TexPart part) = part.name ≤ private_count
HasName _ = Unit {0}

-- the product of a MultMatrix, where its entries have 32 bits
abbrev pub product_asked : ClientContext → Command → Option Mat4
product_asked x (cmd.MultMatrix m) = if product_fits (top x).m m.m then Some (record { m = product_of (top x).m m.m }) else None
product_asked x _ = None
