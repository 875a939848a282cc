-- The command of an opcode and its fields.
use Rattle.std.specs.Prelude.{[], ◌∷◌}
use Rattle.rc_base.specs.declared.command.Command.{Command}
use Rattle.rc_base.specs.declared.command.Command.TheVariants as cmd
use Rattle.rc_base.specs.declared.command.Opcode.{Opcode}
use Rattle.rc_base.specs.declared.command.Opcode.TheVariants as op
use Rattle.rc_base.specs.declared.command.Part.{Part}
use Rattle.rc_base.specs.declared.command.Rgba.{Rgba}
use Rattle.rc_base.specs.Formats.Commands.{Fields, kinds_of}
use Rattle.rc_base.specs.Formats.Commands.Kind.{Byte, Half, Image}

abbrev color_from : Fields (Byte ∷ Byte ∷ Byte ∷ Byte ∷ []) → Rgba
color_from x = record { r = x.0; g = x.1.0; b = x.1.1.0; a = x.1.1.1.0 }

abbrev part_from : Fields (Byte ∷ Half ∷ Half ∷ Image ∷ []) → Part
part_from x = record { name = x.0; x = x.1.0; y = x.1.1.0; w = x.1.1.1.0.w; h = x.1.1.1.0.h; texels = x.1.1.1.0.texels }

-- the command that is made of the fields in an opcode's row
abbrev pub command_from : (o : Opcode) → Fields (kinds_of o) → Command
command_from op.Begin x = cmd.Begin x.0
command_from op.End x = cmd.End
command_from op.Vertex x = cmd.Vertex x.0
command_from op.Color x = cmd.Color (color_from x)
command_from op.TexCoord x = cmd.TexCoord x.0 x.1.0
command_from op.Enable x = cmd.Enable x.0
command_from op.Disable x = cmd.Disable x.0
command_from op.MatrixMode x = cmd.MatrixMode x.0
command_from op.LoadIdentity x = cmd.LoadIdentity
command_from op.LoadMatrix x = cmd.LoadMatrix (record { m = x.0 })
command_from op.MultMatrix x = cmd.MultMatrix (record { m = x.0 })
command_from op.PushMatrix x = cmd.PushMatrix
command_from op.PopMatrix x = cmd.PopMatrix
command_from op.Viewport x = cmd.Viewport x.0
command_from op.DepthRange x = cmd.DepthRange x.0 x.1.0
command_from op.Scissor x = cmd.Scissor x.0
command_from op.AlphaFunc x = cmd.AlphaFunc x.0 x.1.0
command_from op.DepthFunc x = cmd.DepthFunc x.0
command_from op.DepthMask x = cmd.DepthMask x.0
command_from op.BlendFunc x = cmd.BlendFunc x.0 x.1.0
command_from op.ColorMask x = cmd.ColorMask x.0
command_from op.ClearColor x = cmd.ClearColor (color_from x)
command_from op.ClearDepth x = cmd.ClearDepth x.0
command_from op.Clear x = cmd.Clear x.0
command_from op.CullFace x = cmd.CullFace x.0
command_from op.FrontFace x = cmd.FrontFace x.0
command_from op.BindTexture x = cmd.BindTexture x.0 x.1.0
command_from op.TexEnv x = cmd.TexEnv x.0
command_from op.TexWrap x = cmd.TexWrap x.0 x.1.0
command_from op.TexImage x = cmd.TexImage x.0 x.1.0.w x.1.0.h x.1.0.texels
command_from op.TexPart x = cmd.TexPart (part_from x)
command_from op.SharedImage x = cmd.SharedImage (part_from x)
command_from op.Barrier x = cmd.Barrier x.0
command_from op.SemP x = cmd.SemP x.0
command_from op.SemV x = cmd.SemV x.0
command_from op.Swap x = cmd.Swap
