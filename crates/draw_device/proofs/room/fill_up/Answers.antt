use Rattle.std.proofs.Common.{◌≡◌, ◌∙◌, ap, length, refl}
use Rattle.std.specs.Prelude.{Result, Ok, Err, IsOk, is_ok, if◌then◌else◌}
use Rattle.draw_device.proofs.Lists.{filled}
use Rattle.draw_device.proofs.room.fill_up.Goals as goal

-- what is so where the answer is an Ok
on_ok : {X Y E : Type 0} (r : Result Y E) (a b : X) → IsOk r → (if is_ok r then a else b) ≡ a
on_ok (Ok y) a b h = refl
on_ok (Err e) a b h = absurd (cc)

pub returns : goal.returns
returns g c =
    let e = c.resize-fits.ensures in
    let old = c.args.items.now in
    e.items ∙ on_ok c.resize-fits.result _ _ (e.succeeds c.requires.room)
    ∙ filled c.args.count _ c.args.value old.items c.requires.empty (old.ok.0 ∙ ap length c.requires.empty)
