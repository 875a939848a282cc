-- The image of a private texture as a value of an element, along a client's stream.
use Rattle.std.proofs.Common.{◌≡◌, ℕ, zero, suc, ◌+◌, ◌-◌, ◌<◌, ◌≤◌, ◌==◌, true, false, ◌⊎◌, inl, inr, refl, sym, ap, ◌∙◌, subst, arith, ne_eqb, eqb-true, Some, None}
use Rattle.std.specs.declared.option.Option.{Option}
use Rattle.std.specs.Option.{option_map_or}
use Rattle.rc_base.specs.Pictures.{Picture}
use Rattle.rc_base.specs.Contexts.Context.{ClientContext, default_context, private_image, edit_of}
use Rattle.rc_base.specs.Contexts.Elements.{value_in, image_value, image_element, no_image, same_value}
use Rattle.rc_base.specs.Contexts.Issue.{context_after, command_at, issued_next}
use Rattle.rc_base.specs.declared.scene.Scene.{Scene}
use Rattle.order_model.specs.Board.{picture_in}
use Rattle.gl_context.proofs.ImagesGoOn.{GoesOn, next, has_textures, at_most, never_falls, same_images}
use Rattle.gl_context.proofs.OneElement.{image_element_is, no_images}
use Rattle.gl_context.proofs.OneMoreCommand.{goes_on_by}

-- ---- an edit number is 0 exactly where there is no image

abbrev pub IsEdited : ClientContext → ℕ → Type 0
IsEdited x name = ((edit_of x name ≡ 0) × (private_image x name ≡ None)) ⊎ ((0 < edit_of x name) × (p : Picture) × (private_image x name ≡ Some p))

edited_on : (x y : ClientContext) (name : ℕ) → GoesOn x y name → IsEdited x name → IsEdited y name
edited_on x y name (inl same) (inl h) = inl (same.0 ∙ h.0, same.1 ∙ h.1)
edited_on x y name (inl same) (inr h) = inr (let e = same.0 in let lt = h.0 in omega arith, h.1, same.1 ∙ h.2)
edited_on x y name (inr more) h = inr (let e = more.0 in omega arith, more.1, more.2)

none_first : (scene : Scene) (client name : ℕ) → private_image (context_after scene client 0) name ≡ None
unfolding context_after default_context
none_first scene client name = no_images 64 name

pub edited : (scene : Scene) (client n name : ℕ) → IsEdited (context_after scene client n) name
edited scene client zero name = inl (let le = at_most scene client 0 name in omega arith, none_first scene client name)
edited scene client (suc n) name =
    let x = context_after scene client n in
    subst (λ y. IsEdited y name) (sym (goes_on_by scene client n))
    (edited_on x (issued_next x n (command_at scene client n)) name ((next x n (command_at scene client n) (has_textures scene client n)).on name) (edited scene client n name))

-- ---- the value of an image

picture_is : (edit : ℕ) (o : Option Picture) → ((edit ≡ 0) × (o ≡ None)) ⊎ ((0 < edit) × (p : Picture) × (o ≡ Some p)) → picture_in (option_map_or (image_value edit) o no_image) ≡ o
picture_is edit None h = refl
picture_is edit (Some p) (inl h) = absurd (let no = h.1 in cc)
picture_is edit (Some p) (inr h) = let some : (edit == 0) ≡ false = ne_eqb edit 0 (λ z. let lt = h.0 in absurd (omega arith)) in rw some refl

-- it tells the image
pub picture_of_value : (scene : Scene) (client n name : ℕ) → 0 < name → picture_in (value_in (context_after scene client n) (image_element name)) ≡ private_image (context_after scene client n) name
picture_of_value scene client n name low =
    let x = context_after scene client n in
    ap picture_in (image_element_is x name low) ∙ picture_is (edit_of x name) (private_image x name) (edited scene client n name)

edit_is : (edit edit' : ℕ) (o o' : Option Picture) → ((edit ≡ 0) × (o ≡ None)) ⊎ ((0 < edit) × (p : Picture) × (o ≡ Some p))
    → ((edit' ≡ 0) × (o' ≡ None)) ⊎ ((0 < edit') × (p : Picture) × (o' ≡ Some p))
    → same_value (option_map_or (image_value edit) o no_image) (option_map_or (image_value edit') o' no_image) ≡ true → edit ≡ edit'
unfolding same_value
edit_is edit edit' None None (inl h) (inl k) t = h.0 ∙ sym k.0
edit_is edit edit' None None (inl h) (inr k) t = absurd (let no = k.2 in cc)
edit_is edit edit' None None (inr h) k t = absurd (let no = h.2 in cc)
edit_is edit edit' (Some p) (Some q) h k t = eqb-true edit edit' t
edit_is edit edit' None (Some q) (inl h) k t = h.0 ∙ eqb-true 0 edit' t
edit_is edit edit' None (Some q) (inr h) k t = absurd (let no = h.2 in cc)
edit_is edit edit' (Some p) None h (inl k) t = eqb-true edit 0 t ∙ sym k.0
edit_is edit edit' (Some p) None h (inr k) t = absurd (let no = k.2 in cc)

-- values that are the same tell the same image
pub same_value_images : (scene : Scene) (client i n name : ℕ) → 0 < name
    → same_value (value_in (context_after scene client i) (image_element name)) (value_in (context_after scene client n) (image_element name)) ≡ true
    → private_image (context_after scene client i) name ≡ private_image (context_after scene client n) name
same_value_images scene client i n name low t =
    let x = context_after scene client i in
    let y = context_after scene client n in
    same_images scene client i n name (edit_is (edit_of x name) (edit_of y name) (private_image x name) (private_image y name) (edited scene client i name) (edited scene client n name)
    (subst (λ w. same_value w (option_map_or (image_value (edit_of y name)) (private_image y name) no_image) ≡ true) (image_element_is x name low)
    (subst (λ w. same_value (value_in x (image_element name)) w ≡ true) (image_element_is y name low) t)))

-- where there is no image there was none before
pub none_before : (scene : Scene) (client i n name : ℕ) → i ≤ n → private_image (context_after scene client n) name ≡ None → private_image (context_after scene client i) name ≡ None
none_before scene client i n name le none = elim (edited scene client n name) [
  | inl h ↦
      let e : i + (n - i) ≡ n = omega arith in
      let less : edit_of (context_after scene client i) name ≤ edit_of (context_after scene client n) name
      = subst (λ k. edit_of (context_after scene client i) name ≤ edit_of (context_after scene client k) name) e (never_falls scene client i (n - i) name) in
      elim (edited scene client i name) [
        | inl k ↦ k.1
        | inr k ↦ absurd (let lt = k.0 in let z = h.0 in omega arith)
      ]
  | inr h ↦ absurd (let no : Some h.1 ≡ None = sym h.2 ∙ none in cc)
]
