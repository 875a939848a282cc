-- A block without sets: a scene can give it, and carrying it out is its drawing alone.
use Rattle.std.proofs.Common.{◌≡◌, ℕ, ◌==◌, true, List, [], length, None, refl, sym, ap, ◌∙◌, subst, true≢false}
use Rattle.std.specs.Prelude.{slice_get}
use Rattle.std.specs.Option.{option_map_or}
use Rattle.std.proofs.lemmas.Bool.{and_parts}
use Rattle.rc_base.specs.Cluster.Parcels.{effect_by}
use Rattle.rc_base.specs.Contexts.Context.{default_state}
use Rattle.rc_base.specs.Drawing.Serial.{stored}
use Rattle.rc_base.specs.Drawing.Texel.{SharedTexels}
use Rattle.rc_base.specs.declared.scene.Decl.{Decl}
use Rattle.rc_base.specs.declared.state.Act.{Act}
use Rattle.rc_base.specs.declared.state.Act.TheVariants as act
use Rattle.rc_base.specs.declared.state.ElementSet.{ElementSet}
use Rattle.rc_base.specs.declared.state.Parcel.{Parcel}
use Rattle.order_model.specs.Board.{Kept}
use Rattle.parcel_bytes.specs.Blocks.{IsNoDraw}
use Rattle.tile_model.specs.Acts.{is_draw, is_work}
use Rattle.tile_model.specs.Boards.{HasSets}
use Rattle.tile_model.specs.Givable.{is_givable, is_givable_act}
use Rattle.tile_server.specs.Boards.{is_plain, kept_in, KeepsAll}
use Rattle.tile_server.specs.Kepts.{kept_of}
use Rattle.tile_server.specs.Works.{texels_in}
use Rattle.tile_server.specs.declared.canvas.Canvas.{Canvas}
use Rattle.tile_server.specs.declared.kept.KeptClient.{KeptClient}
use Rattle.tile_server.proofs.Switches.{no_sets}

-- an act that draws a block
pub draws_one : (a : Act) → is_draw a ≡ true → IsNoDraw a → ⊥
draws_one (act.Draw block) is none = none block refl
draws_one (act.Clear mask) is none = true≢false (sym is)
draws_one (act.Shared part) is none = true≢false (sym is)
draws_one (act.Sync op) is none = true≢false (sym is)
draws_one act.End is none = true≢false (sym is)

-- writes no shared texture
pub unwritten : (a : Act) → is_draw a ≡ true → (sizes : List (List ℕ)) (texels : SharedTexels) (name : ℕ) → stored sizes (effect_by a) texels name ≡ texels name
unwritten (act.Draw block) is sizes texels name = refl
unwritten (act.Clear mask) is sizes texels name = absurd (true≢false (sym is))
unwritten (act.Shared part) is sizes texels name = absurd (true≢false (sym is))
unwritten (act.Sync op) is sizes texels name = absurd (true≢false (sym is))
unwritten act.End is sizes texels name = absurd (true≢false (sym is))

pub plain_sets : (parcel : Parcel) → is_plain parcel ≡ true → parcel.sets ≡ []
plain_sets parcel plain = no_sets parcel.sets (and_parts (length parcel.sets == 0) (is_draw parcel.act) plain).0

pub plain_act : (parcel : Parcel) → is_plain parcel ≡ true → is_draw parcel.act ≡ true
plain_act parcel plain = (and_parts (length parcel.sets == 0) (is_draw parcel.act) plain).1

-- no sets change nothing
pub no_sets_made : (sets : List ElementSet) (k : Kept) → sets ≡ [] → HasSets sets k k
no_sets_made sets k none = subst (λ (s : List ElementSet). HasSets s k k) (sym none) (record { values = λ e low. refl; images = λ name some. refl })

-- a scene can give it, and it is work
pub plain_given : (d : Decl) (parcel : Parcel) → is_plain parcel ≡ true → is_givable d parcel ≡ true
plain_given d parcel plain =
    subst (λ (sets : List ElementSet). is_givable d (record { place = parcel.place; sets = sets; act = parcel.act }) ≡ true) (sym (plain_sets parcel plain)) (given parcel.act (plain_act parcel plain))
  where
    given : (a : Act) → is_draw a ≡ true → is_givable_act d a ≡ true
    given (act.Draw block) is = refl
    given (act.Clear mask) is = refl
    given (act.Shared part) is = absurd (true≢false (sym is))
    given (act.Sync op) is = refl
    given act.End is = refl

pub plain_work : (parcel : Parcel) → is_plain parcel ≡ true → is_work parcel.act ≡ true
plain_work parcel plain = works parcel.act (plain_act parcel plain)
  where
    works : (a : Act) → is_draw a ≡ true → is_work a ≡ true
    works (act.Draw block) is = refl
    works (act.Clear mask) is = refl
    works (act.Shared part) is = refl
    works (act.Sync op) is = absurd (true≢false (sym is))
    works act.End is = absurd (true≢false (sym is))

-- ---- all that is drawn with is as it was

abbrev kept_by : Decl → List KeptClient → ℕ → Kept
kept_by d kept client = option_map_or kept_of (slice_get kept client) (record { state = default_state d; image = λ name. None })

module _ (canvas later : Canvas) (keeps : KeepsAll canvas later) where
  pub kept_same : kept_in later ≡ kept_in canvas
  kept_same = ap (λ (d : Decl). kept_by d later.kept.items) keeps.decl ∙ ap (λ (kept : List KeptClient). kept_by canvas.decl kept) keeps.kept

  pub texels_same : texels_in later.shared ≡ texels_in canvas.shared
  texels_same = ap texels_in keeps.shared
