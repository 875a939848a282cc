-- How many bytes the payloads of commands with lists of numbers and with pictures have.
use Rattle.std.proofs.Common.{◌≡◌, ℕ, ℤ, ◌+◌, List, [], ◌++◌, ◌⊎◌, inl, inr, length, ap, ◌∙◌, arith, length-append}
use Rattle.std.proofs.lemmas.List.{append-nil}
use Rattle.std.specs.List.{flat_map}
use Rattle.rc_base.specs.Formats.Spelling.{half, word, payload}
use Rattle.rc_base.specs.declared.command.Command.{Command}
use Rattle.rc_base.specs.declared.command.Command.TheVariants as cmd
use Rattle.rc_base.specs.declared.command.Mat4.{Mat4}
use Rattle.rc_base.specs.declared.command.Part.{Part}

size_of : Command → ℕ
size_of c = length (payload c)

pub flags_size : (c : Command) (flags : List ℕ) → c ≡ cmd.ColorMask flags → length (payload c) ≡ length flags
flags_size c flags e = ap (λ x. length (payload x)) e ∙ ap length (append-nil flags)

pub vertex_size : (c : Command) (p : List ℤ) → c ≡ cmd.Vertex p → length (payload c) ≡ length (flat_map word p)
vertex_size c p e = ap (λ x. length (payload x)) e ∙ ap length (append-nil (flat_map word p))

pub area_size : (c : Command) (area : List ℤ) → (c ≡ cmd.Viewport area) ⊎ (c ≡ cmd.Scissor area) → length (payload c) ≡ length (flat_map word area)
area_size c area (inl e) = ap (λ x. length (payload x)) e ∙ ap length (append-nil (flat_map word area))
area_size c area (inr e) = ap (λ x. length (payload x)) e ∙ ap length (append-nil (flat_map word area))

pub matrix_size : (c : Command) (m : Mat4) → (c ≡ cmd.LoadMatrix m) ⊎ (c ≡ cmd.MultMatrix m) → length (payload c) ≡ length (flat_map word m.m)
matrix_size c m (inl e) = ap (λ x. length (payload x)) e ∙ ap length (append-nil (flat_map word m.m))
matrix_size c m (inr e) = ap (λ x. length (payload x)) e ∙ ap length (append-nil (flat_map word m.m))

picture_size : (w h : ℕ) (texels : List ℕ) → length ((half w ++ (half h ++ texels)) ++ []) ≡ 4 + length texels
picture_size w h texels =
    ap length (append-nil (half w ++ (half h ++ texels))) ∙ omega (arith, length-append (half w) (half h ++ texels), length-append (half h) texels)

pub image_size : (c : Command) (name w h : ℕ) (texels : List ℕ) → c ≡ cmd.TexImage name w h texels → length (payload c) ≡ 5 + length texels
image_size c name w h texels e = ap (λ x. length (payload x)) e ∙ omega (arith, picture_size w h texels)

place_size : (x y : ℕ) (rest : List ℕ) → length (half x ++ (half y ++ rest)) ≡ 4 + length rest
place_size x y rest = omega (arith, length-append (half x) (half y ++ rest), length-append (half y) rest)

pub part_size : (c : Command) (p : Part) → (c ≡ cmd.TexPart p) ⊎ (c ≡ cmd.SharedImage p) → length (payload c) ≡ 9 + length p.texels
part_size c p (inl e) =
    ap (λ x. length (payload x)) e ∙ omega (arith, place_size p.x p.y ((half p.w ++ (half p.h ++ p.texels)) ++ []), picture_size p.w p.h p.texels)
part_size c p (inr e) =
    ap (λ x. length (payload x)) e ∙ omega (arith, place_size p.x p.y ((half p.w ++ (half p.h ++ p.texels)) ++ []), picture_size p.w p.h p.texels)
