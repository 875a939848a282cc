use Rattle.std.proofs.Common.{ℕ, ◌+◌, ◌<◌, ◌∙◌, List, Option, length, ap, sym, subst, arith, length-set}
use Rattle.std.specs.Prelude.{slice_index_or}
use Rattle.std.proofs.lemmas.Option.{slice_get_within}
use Rattle.rc_base.specs.Drawing.PixelStep.{effect_step}
use Rattle.rc_base.specs.Pictures.{Picture}
use Rattle.rc_base.specs.declared.state.Effect.{Effect}
use Rattle.rc_base.specs.declared.state.Effect.TheVariants as eff
use Rattle.rc_base.specs.declared.state.State.{State}
use Rattle.textures.specs.Images.{texture_image}
use Rattle.draw_device.specs.Conditions.{IsDrawable, IsClearable, shared_of}
use Rattle.draw_device.specs.Devices.{pixel_of}
use Rattle.stream_replay.specs.Blocks.{ClientsAreBehind}
use Rattle.stream_replay.specs.Clients.{StandsBefore, client_after}
use Rattle.stream_replay.specs.declared.client.Client.{Client}
use Rattle.stream_replay.specs.declared.in_block.InBlock.{InBlock}
use Rattle.stream_replay.proofs.ClientsInTurn.{client_now}
use Rattle.serial_render.specs.Performed.{images_behind, state_behind, IsSettled}
use Rattle.serial_render.proofs.SettledBrushes.{is_there, known, settled_stays, settled_anew}
use Rattle.serial_render.proofs.drawing.perform.Goals as goal

-- ---- a block is drawn

pub draw-requires-clause-known : goal.draw-requires-clause-known
draw-requires-clause-known g c of =
    let s = g.S.SceneStore.scene c.args.scene.now in
    let n = c.args.name in
    let xs = c.args.clients.now.items in
    let ys = c.issue_in_block.new.clients.items in
    let x = c.index.result.now in
    let h = subst (λ (r : InBlock). ClientsAreBehind s n xs ys r) c.in-Draws.is c.in_ok-issue_in_block.ensures.issued in
    let lt = slice_get_within xs n.client (client_after s n.client n.place) c.requires.name.before in
    let found = c.index.ensures ∙ ap (λ (k : ℕ). slice_index_or ys k x) c.from-client.ensures in
    known s n xs ys c.requires.name.before h.0 c.args.device.now.rect c.args.brush.now c.requires.settled h.2 of x (client_now s n xs ys x lt h.0 found)

pub take_back-requires : goal.take_back-requires
take_back-requires g c =
    let s = g.S.SceneStore.scene c.args.scene.now in
    let n = c.args.name in
    let xs = c.args.clients.now.items in
    let ys = c.issue_in_block.new.clients.items in
    let h = subst (λ (r : InBlock). ClientsAreBehind s n xs ys r) c.in-Draws.is c.in_ok-issue_in_block.ensures.issued in
    omega (arith, is_there s n xs ys c.requires.name.before h.0, c.from-client.ensures)

pub returns-in-Draws-clause-drawn : goal.returns-in-Draws-clause-drawn
returns-in-Draws-clause-drawn g c x y inside =
    let s = g.S.SceneStore.scene c.args.scene.now in
    let n = c.args.name in
    let xs = c.args.clients.now.items in
    let ys = c.issue_in_block.new.clients.items in
    let z = c.index.result.now in
    let h = subst (λ (r : InBlock). ClientsAreBehind s n xs ys r) c.in-Draws.is c.in_ok-issue_in_block.ensures.issued in
    let lt = slice_get_within xs n.client (client_after s n.client n.place) c.requires.name.before in
    let found = c.index.ensures ∙ ap (λ (k : ℕ). slice_index_or ys k z) c.from-client.ensures in
    let now = client_now s n xs ys z lt h.0 found in
    let shareds = shared_of c.args.shared.now in
    let old = pixel_of c.args.device.now x y in
    c.draw.ensures.drawn x y inside
    ∙ ap (λ (v : Client). effect_step v.context.state (texture_image v.context.images) shareds (eff.Block c.in-Draws.block) x y old) now
    ∙ ap (λ (e : Effect). effect_step (state_behind s n) (texture_image (images_behind s n)) shareds e x y old) (sym h.1)

pub returns-in-Draws-clause-settled : goal.returns-in-Draws-clause-settled
returns-in-Draws-clause-settled g c =
    let s = g.S.SceneStore.scene c.args.scene.now in
    let n = c.args.name in
    let xs = c.args.clients.now.items in
    let ys = c.issue_in_block.new.clients.items in
    let z = c.index.result.now in
    let h = subst (λ (r : InBlock). ClientsAreBehind s n xs ys r) c.in-Draws.is c.in_ok-issue_in_block.ensures.issued in
    let lt = slice_get_within xs n.client (client_after s n.client n.place) c.requires.name.before in
    let found = c.index.ensures ∙ ap (λ (k : ℕ). slice_index_or ys k z) c.from-client.ensures in
    let rect = c.args.device.now.rect in
    subst (λ (l : List Client). IsSettled l rect c.draw.new.brush) (sym c.take_back.ensures)
    (settled_anew s n xs ys c.requires.name.before h.0 rect c.draw.new.brush z (client_now s n xs ys z lt h.0 found) c.draw.ensures.of c.draw.ensures.prepared)

-- ---- a command does nothing beyond its context

pub returns-in-Quiet-clause-settled : goal.returns-in-Quiet-clause-settled
returns-in-Quiet-clause-settled g c =
    let s = g.S.SceneStore.scene c.args.scene.now in
    let n = c.args.name in
    let xs = c.args.clients.now.items in
    let ys = c.issue_in_block.new.clients.items in
    let h = subst (λ (r : InBlock). ClientsAreBehind s n xs ys r) c.in-Quiet.is c.in_ok-issue_in_block.ensures.issued in
    settled_stays s n xs ys c.requires.name.before h.0 c.args.device.now.rect c.args.brush.now c.requires.settled h.2

-- ---- another command

pub index-requires-in-Left : goal.index-requires-in-Left
index-requires-in-Left g c =
    let s = g.S.SceneStore.scene c.args.scene.now in
    let n = c.args.name in
    let xs = c.args.clients.now.items in
    let left = subst (λ (r : InBlock). ClientsAreBehind s n xs c.issue_in_block.new.clients.items r) c.in-Left.is c.in_ok-issue_in_block.ensures.issued in
    let size = ap length c.in_ok-effect-in-Left.ensures.clients ∙ length-set c.issue_in_block.new.clients.items n.client (client_after s n.client (n.place + 1)) in
    omega (arith, slice_get_within xs n.client (client_after s n.client n.place) c.requires.name.before, ap length left, size, c.from-client-in-Left.ensures, c.issue_name.new.clients.ok)

pub carry_out-requires-clause-drawable : goal.carry_out-requires-clause-drawable
carry_out-requires-clause-drawable g c =
    let s = g.S.SceneStore.scene c.args.scene.now in
    let n = c.args.name in
    let xs = c.args.clients.now.items in
    let ys = c.issue_in_block.new.clients.items in
    let zs = c.issue_name.new.clients.items in
    let z = c.index-in-Left.result.now in
    let left = subst (λ (r : InBlock). ClientsAreBehind s n xs ys r) c.in-Left.is c.in_ok-issue_in_block.ensures.issued in
    let lt : n.client < length ys = omega (arith, slice_get_within xs n.client (client_after s n.client n.place) c.requires.name.before, ap length left) in
    let found = c.index-in-Left.ensures ∙ ap (λ (k : ℕ). slice_index_or zs k z) c.from-client-in-Left.ensures in
    let now = client_now s n ys zs z lt c.in_ok-effect-in-Left.ensures.clients found in
    subst (λ (v : State). IsDrawable v c.private.result.now c.args.shared.now) (sym c.state.ensures)
    (subst (λ (v : List (Option Picture)). IsDrawable z.context.state v c.args.shared.now) (sym c.private.ensures)
    (subst (λ (v : Client). IsDrawable v.context.state v.context.images c.args.shared.now) (sym now) c.requires.drawable))

pub carry_out-requires-clause-clearable : goal.carry_out-requires-clause-clearable
carry_out-requires-clause-clearable g c =
    let s = g.S.SceneStore.scene c.args.scene.now in
    let n = c.args.name in
    let xs = c.args.clients.now.items in
    let ys = c.issue_in_block.new.clients.items in
    let zs = c.issue_name.new.clients.items in
    let z = c.index-in-Left.result.now in
    let left = subst (λ (r : InBlock). ClientsAreBehind s n xs ys r) c.in-Left.is c.in_ok-issue_in_block.ensures.issued in
    let lt : n.client < length ys = omega (arith, slice_get_within xs n.client (client_after s n.client n.place) c.requires.name.before, ap length left) in
    let found = c.index-in-Left.ensures ∙ ap (λ (k : ℕ). slice_index_or zs k z) c.from-client-in-Left.ensures in
    let now = client_now s n ys zs z lt c.in_ok-effect-in-Left.ensures.clients found in
    subst (λ (v : State). IsClearable v) (sym c.state.ensures) (subst (λ (v : Client). IsClearable v.context.state) (sym now) c.requires.clearable)

pub take_back-requires-in-Left : goal.take_back-requires-in-Left
take_back-requires-in-Left g c =
    let s = g.S.SceneStore.scene c.args.scene.now in
    let n = c.args.name in
    let xs = c.args.clients.now.items in
    let left = subst (λ (r : InBlock). ClientsAreBehind s n xs c.issue_in_block.new.clients.items r) c.in-Left.is c.in_ok-issue_in_block.ensures.issued in
    let size = ap length c.in_ok-effect-in-Left.ensures.clients ∙ length-set c.issue_in_block.new.clients.items n.client (client_after s n.client (n.place + 1)) in
    omega (arith, slice_get_within xs n.client (client_after s n.client n.place) c.requires.name.before, ap length left, size, c.from-client-in-Left.ensures)

pub returns-in_ok-effect-in-Left-clause-drawn : goal.returns-in_ok-effect-in-Left-clause-drawn
returns-in_ok-effect-in-Left-clause-drawn g c x y inside =
    let s = g.S.SceneStore.scene c.args.scene.now in
    let n = c.args.name in
    let xs = c.args.clients.now.items in
    let ys = c.issue_in_block.new.clients.items in
    let zs = c.issue_name.new.clients.items in
    let z = c.index-in-Left.result.now in
    let left = subst (λ (r : InBlock). ClientsAreBehind s n xs ys r) c.in-Left.is c.in_ok-issue_in_block.ensures.issued in
    let lt : n.client < length ys = omega (arith, slice_get_within xs n.client (client_after s n.client n.place) c.requires.name.before, ap length left) in
    let found = c.index-in-Left.ensures ∙ ap (λ (k : ℕ). slice_index_or zs k z) c.from-client-in-Left.ensures in
    let now = client_now s n ys zs z lt c.in_ok-effect-in-Left.ensures.clients found in
    let shareds = shared_of c.args.shared.now in
    let old = pixel_of c.args.device.now x y in
    c.carry_out.ensures.drawn x y inside
    ∙ ap (λ (v : State). effect_step v (texture_image c.private.result.now) shareds c.in_ok-effect-in-Left.effect x y old) c.state.ensures
    ∙ ap (λ (v : List (Option Picture)). effect_step z.context.state (texture_image v) shareds c.in_ok-effect-in-Left.effect x y old) c.private.ensures
    ∙ ap (λ (v : Client). effect_step v.context.state (texture_image v.context.images) shareds c.in_ok-effect-in-Left.effect x y old) now
    ∙ ap (λ (e : Effect). effect_step (state_behind s n) (texture_image (images_behind s n)) shareds e x y old) c.in_ok-effect-in-Left.ensures.effect

pub issue_name-requires : goal.issue_name-requires
issue_name-requires g c =
    let s = g.S.SceneStore.scene c.args.scene.now in
    let n = c.args.name in
    let xs = c.args.clients.now.items in
    let left = subst (λ (r : InBlock). ClientsAreBehind s n xs c.issue_in_block.new.clients.items r) c.in-Left.is c.in_ok-issue_in_block.ensures.issued in
    record {
      within = c.requires.name.within;
      inside = c.requires.name.inside;
      before = subst (λ (l : List Client). StandsBefore s l n) (sym left) c.requires.name.before;
    }
