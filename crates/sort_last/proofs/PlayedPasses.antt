-- A device that a client's commands were carried out on, one after the other.
use Rattle.std.proofs.Common.{◌≡◌, ℕ, ◌+◌, ◌-◌, ◌<◌, ◌≤◌, List, length, ℤ, sym, ap, subst, ◌∙◌, arith}
use Rattle.std.specs.Prelude.{fold, if◌then◌else◌}
use Rattle.std.specs.declared.option.Option.{Option}
use Rattle.std.proofs.lemmas.List.Sums.{fold_push}
use Rattle.rc_base.specs.Pictures.{Picture}
use Rattle.rc_base.specs.Contexts.Context.{ClientContext}
use Rattle.rc_base.specs.Contexts.Issue.{context_after, effect_at, stream_of}
use Rattle.rc_base.specs.Drawing.PixelStep.{effect_step}
use Rattle.rc_base.specs.Drawing.Serial.{blank_textures}
use Rattle.rc_base.specs.Orders.Order.{names_from}
use Rattle.rc_base.specs.declared.scene.Scene.{Scene}
use Rattle.rc_base.specs.declared.state.Effect.{Effect}
use Rattle.rc_base.specs.declared.sync.Name.{Name}
use Rattle.rc_base.specs.declared.window.Pixel.{Pixel}
use Rattle.textures.specs.Images.{texture_image}
use Rattle.gl_context.proofs.ValidContexts.{valid}
use Rattle.draw_device.specs.Conditions.{IsDrawable, IsClearable, shared_of}
use Rattle.order_model.proofs.ScenesWithinLimits.{within_has_sides}
use Rattle.serial_render.proofs.AddedInTurn.{names_from_more}
use Rattle.serial_render.proofs.ClearDepths.{clearable}
use Rattle.serial_render.proofs.DrawnCommands.{drawable}
use Rattle.serial_render.proofs.PlayedOrders.{step_is}
use Rattle.stream_replay.proofs.ClientsInTurn.{some_command}
use Rattle.sort_last.specs.Apart.{IsReady}
use Rattle.sort_last.specs.Players.{shows_effect, shows, draw_if}
use Rattle.sort_last.specs.declared.play.DrawPass.{DrawPass}

pub played_none : (scene : Scene) (pass : DrawPass) (client from : ℕ) (x y : ℤ) (p : Pixel) → p ≡ fold (draw_if scene x y (shows pass scene)) p (names_from client from (from - from))
played_none scene pass client from x y p = let e : 0 ≡ from - from = omega arith in ap (λ n. fold (draw_if scene x y (shows pass scene)) p (names_from client from n)) e

pub played_next : (scene : Scene) (pass : DrawPass) (client from place : ℕ) → from ≤ place → (x y : ℤ) (p q r : Pixel)
    → q ≡ fold (draw_if scene x y (shows pass scene)) p (names_from client from (place - from))
    → r ≡ draw_if scene x y (shows pass scene) q (record { client = client; place = place })
    → r ≡ fold (draw_if scene x y (shows pass scene)) p (names_from client from (place + 1 - from))
played_next scene pass client from place le x y p q r before step =
    let f = draw_if scene x y (shows pass scene) in
    let n : Name = record { client = client; place = place } in
    let count : place - from + 1 ≡ place + 1 - from = omega (arith, le) in
    step ∙ ap (λ s. f s n) before
    ∙ sym (fold_push f p (names_from client from (place - from)) n)
    ∙ ap (fold f p) (sym (names_from_more client from (place - from) place (omega (arith, le))))
    ∙ ap (λ k. fold f p (names_from client from k)) count

-- what a command of the pass does on the device is what its name draws
pub pass_step : (scene : Scene) (shared : List (Option Picture)) (pass : DrawPass) (client place : ℕ) (context : ClientContext) (e : Effect) (x y : ℤ) (p : Pixel)
    → IsReady scene shared → place < length (stream_of scene client) → context ≡ context_after scene client (place + 1) → e ≡ effect_at scene client place
    → (if shows_effect pass e then effect_step context.state (texture_image context.images) (shared_of shared) e x y p else p)
    ≡ draw_if scene x y (shows pass scene) p (record { client = client; place = place })
pass_step scene shared pass client place context e x y p ready lt now is =
    let n : Name = record { client = client; place = place } in
    let step = step_is scene n _ (blank_textures scene) shared context e x y p (some_command scene client place lt) now is (valid scene ready.within.commands client (place + 1)) ready.blank in
    λ i. if shows_effect pass (is i) then step i else p

pub ready_drawable : (scene : Scene) (shared : List (Option Picture)) (client n : ℕ) (context : ClientContext) → IsReady scene shared → context ≡ context_after scene client n
    → IsDrawable context.state context.images shared
ready_drawable scene shared client n context ready now =
    subst (λ (x : ClientContext). IsDrawable x.state x.images shared) (sym now)
    (drawable scene.decl (context_after scene client n) (blank_textures scene) shared (valid scene ready.within.commands client n) ready.blank (within_has_sides scene ready.within))

pub ready_clearable : (scene : Scene) (client n : ℕ) (context : ClientContext) → context ≡ context_after scene client n → IsClearable context.state
ready_clearable scene client n context now = subst (λ (x : ClientContext). IsClearable x.state) (sym now) (clearable scene client n)
