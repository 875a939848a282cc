-- Commands that do nothing beyond their client's context draw nothing and write no shared texture.
use Rattle.std.proofs.Common.{◌≡◌, ℕ, ℤ, List, Option, refl}
use Rattle.rc_base.specs.Drawing.PixelStep.{effect_step}
use Rattle.rc_base.specs.Pictures.{Picture}
use Rattle.rc_base.specs.declared.state.Effect.{Effect}
use Rattle.rc_base.specs.declared.state.Effect.TheVariants as eff
use Rattle.rc_base.specs.declared.state.State.{State}
use Rattle.rc_base.specs.declared.window.Pixel.{Pixel}
use Rattle.draw_device.specs.Stored.{set_after}
use Rattle.stream_replay.specs.Clients.{IsStill}

pub still_draws_nothing : (state : State) (privates : ℕ → Option Picture) (shareds : ℕ → Picture) (e : Effect) → IsStill e → (x y : ℤ) (old : Pixel)
    → effect_step state privates shareds e x y old ≡ old
still_draws_nothing state privates shareds eff.Quiet still x y old = refl
still_draws_nothing state privates shareds (eff.Refused fault) still x y old = refl
still_draws_nothing state privates shareds (eff.Block block) still x y old = absurd still
still_draws_nothing state privates shareds (eff.Clear mask) still x y old = absurd still
still_draws_nothing state privates shareds (eff.Shared part) still x y old = absurd still
still_draws_nothing state privates shareds (eff.Sync op) still x y old = absurd still

pub still_writes_nothing : (e : Effect) → IsStill e → (set : List (Option Picture)) → set_after e set ≡ set
still_writes_nothing eff.Quiet still set = refl
still_writes_nothing (eff.Refused fault) still set = refl
still_writes_nothing (eff.Block block) still set = absurd still
still_writes_nothing (eff.Clear mask) still set = absurd still
still_writes_nothing (eff.Shared part) still set = absurd still
still_writes_nothing (eff.Sync op) still set = absurd still
