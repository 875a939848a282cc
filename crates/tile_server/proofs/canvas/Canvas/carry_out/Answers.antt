-- What is kept of the client stays fit to draw with, and so the work is done.
use Rattle.std.proofs.Common.{◌≡◌, ℕ, true, List, Option, Some, sym, ap, ◌∙◌, subst}
use Rattle.std.specs.Prelude.{slice_get, slice_set}
use Rattle.rc_base.specs.Cluster.Parcels.{effect_by}
use Rattle.rc_base.specs.Drawing.PixelStep.{effect_step}
use Rattle.rc_base.specs.Pictures.{Picture}
use Rattle.rc_base.specs.declared.window.Rect.{Rect}
use Rattle.draw_device.specs.Conditions.{shared_of}
use Rattle.draw_device.specs.Devices.{EachTakes}
use Rattle.textures.specs.Images.{texture_image}
use Rattle.textures.specs.Stores.{HasTexels}
use Rattle.tile_model.specs.Givable.{is_givable}
use Rattle.tile_server.specs.Kepts.{kept_of, IsFit}
use Rattle.tile_server.specs.Switched.{IsStateOf, IsSwitched}
use Rattle.tile_server.specs.Works.{IsRectOf, texels_in}
use Rattle.tile_server.specs.declared.kept.KeptClient.{KeptClient}
use Rattle.tile_server.proofs.DrawnParcels.{act_given, act_writable, are_fit, carried_out, clearable, just_set, kept_at, still_fit, texel_sampled, whole_after}
use Rattle.tile_server.proofs.Switches.{known_now, switched_on}
use Rattle.tile_server.proofs.canvas.Canvas.carry_out.Goals as goal

pub work-requires-clause-ready : goal.work-requires-clause-ready
work-requires-clause-ready c =
    let canvas = c.args.self.now in
    let kept = canvas.kept.items in
    let i = c.from-client.result in
    let k = c.index_mut.result.now in
    let new = c.apply_all.new.self in
    let given : is_givable canvas.decl c.args.parcel ≡ true = sym c.is_givable.ensures ∙ c.if-not-is_givable.false in
    let at = kept_at kept i c.args.client k c.from-client.ensures c.requires.client c.index_mut.ensures.value in
    let fit : IsFit canvas.decl (kept_of c.apply_all.new.self) =
    still_fit canvas.decl c.args.parcel kept i c.index_mut.result.now c.apply_all.new.self given at canvas.fit c.apply_all.ensures.fit in
    let same : c.index.result.now ≡ c.apply_all.new.self = just_set kept i c.index_mut.result.now c.apply_all.new.self c.index.result.now at c.index.ensures in
    let now = subst (λ (x : KeptClient). IsFit canvas.decl (kept_of x)) (sym same) fit in
    record {
      hardware = record {
        aimed = c.expect.ensures.rect ∙ c.args.self.now.aimed;
        known = λ named.
            known_now kept c.args.client k new c.args.parcel.sets c.are_told-told.result canvas.hw c.expect.new.self (subst (λ (n : ℕ). slice_get kept n ≡ Some k) c.from-client.ensures at) canvas.switched
            (record { state = c.expect.ensures.state; told_now = c.expect.ensures.told; untold = c.expect.ensures.untold; none = c.are_told-told.ensures }) c.apply_all.ensures.made named
            ∙ sym (ap (λ (x : KeptClient). x.state) same);
      };
      drawable = record { texel = texel_sampled canvas.decl (kept_of c.index.result.now) canvas.shared now canvas.whole };
      clearable = clearable canvas.decl (kept_of c.index.result.now) now;
    }

pub work-requires-clause-writable : goal.work-requires-clause-writable
work-requires-clause-writable c part is =
    let canvas = c.args.self.now in
    let given : is_givable canvas.decl c.args.parcel ≡ true = sym c.is_givable.ensures ∙ c.if-not-is_givable.false in
    act_writable canvas.decl canvas.shared canvas.whole c.args.parcel.act part (act_given canvas.decl c.args.parcel given) is

pub invariant_of-self-2 : goal.invariant_of-self-2
invariant_of-self-2 c =
    let canvas = c.args.self.now in
    let kept = canvas.kept.items in
    let i = c.from-client.result in
    let given : is_givable canvas.decl c.args.parcel ≡ true = sym c.is_givable.ensures ∙ c.if-not-is_givable.false in
    let at = kept_at kept i c.args.client c.index_mut.result.now c.from-client.ensures c.requires.client c.index_mut.ensures.value in
    let fit : IsFit canvas.decl (kept_of c.apply_all.new.self) =
    still_fit canvas.decl c.args.parcel kept i c.index_mut.result.now c.apply_all.new.self given at canvas.fit c.apply_all.ensures.fit in
    let k = c.index_mut.result.now in
    let new = c.apply_all.new.self in
    let same : c.index.result.now ≡ new = just_set kept i k new c.index.result.now at c.index.ensures in
    record {
      place = subst (λ (r : Rect). IsRectOf canvas.layout canvas.tile r) (sym c.work.ensures.switched.rect) canvas.place;
      whole = subst (λ (v : List (Option Picture)). HasTexels canvas.decl.shared (texels_in v) v) (sym c.work.ensures.shared)
          (whole_after canvas.decl canvas.shared canvas.whole c.sets_have_stored_texels.ensures.written c.args.parcel.act (act_given canvas.decl c.args.parcel given));
      fit = are_fit canvas.decl kept i c.apply_all.new.self canvas.fit fit;
      aimed = c.work.ensures.switched.aimed ∙ c.expect.ensures.rect ∙ canvas.aimed ∙ sym c.work.ensures.switched.rect;
      switched = subst (λ (n : ℕ). IsStateOf c.work.new.hw.of c.work.new.hw.state (slice_set kept n new)) (sym c.from-client.ensures)
          (switched_on kept c.args.client k new c.args.parcel.sets c.are_told-told.result canvas.hw c.expect.new.self (subst (λ (n : ℕ). slice_get kept n ≡ Some k) c.from-client.ensures at) canvas.switched
          (record { state = c.expect.ensures.state; told_now = c.expect.ensures.told; untold = c.expect.ensures.untold; none = c.are_told-told.ensures }) c.apply_all.ensures.made c.work.new.hw
          (subst (λ (x : KeptClient). IsSwitched c.args.client x.state c.expect.new.self c.work.new.hw) same c.work.ensures.switched.switched));
    }

pub returns-clause-done : goal.returns-clause-done
returns-clause-done c asked =
    let canvas = c.args.self.now in
    let kept = canvas.kept.items in
    let i = c.from-client.result in
    let given : is_givable canvas.decl c.args.parcel ≡ true = sym c.is_givable.ensures ∙ c.if-not-is_givable.false in
    let at = kept_at kept i c.args.client c.index_mut.result.now c.from-client.ensures c.requires.client c.index_mut.ensures.value in
    let fit : IsFit canvas.decl (kept_of c.apply_all.new.self) =
    still_fit canvas.decl c.args.parcel kept i c.index_mut.result.now c.apply_all.new.self given at canvas.fit c.apply_all.ensures.fit in
    let same : c.index.result.now ≡ c.apply_all.new.self = just_set kept i c.index_mut.result.now c.apply_all.new.self c.index.result.now at c.index.ensures in
    let k = c.index_mut.result.now in
    let new = c.apply_all.new.self in
    let drawn : EachTakes (effect_step new.state (texture_image new.images) (shared_of canvas.shared) (effect_by c.args.parcel.act)) canvas.device c.work.new.device =
    subst (λ (x : KeptClient). EachTakes (effect_step x.state (texture_image x.images) (shared_of canvas.shared) (effect_by c.args.parcel.act)) canvas.device c.work.new.device) same c.work.ensures.drawn in
    carried_out canvas.decl canvas.layout c.args.client canvas.tile c.args.parcel kept i k new canvas.shared c.work.new.shared canvas.device c.work.new.device c.from-client.ensures at
    canvas.place canvas.whole
    c.sets_have_stored_texels.ensures.written (act_given canvas.decl c.args.parcel given) c.apply_all.ensures.made fit drawn c.work.ensures.shared
