-- What a client gives to a tile can be packed.
use Rattle.std.proofs.Common.{◌≡◌, ℕ, zero, suc, ◌<◌, ◌≤◌, ◌⊎◌, ◌==◌, ◌&&◌, Bool, true, false, List, [], ◌∷◌, ◌++◌, length, map, Some, None, inl, inr, refl, sym, ap, ◌∙◌, subst, arith, ltb-true, leb-true}
use Rattle.std.specs.Prelude.{if◌then◌else◌, nat_lt, nat_le, is_some, slice_index_or}
use Rattle.std.specs.declared.option.Option.{Option}
use Rattle.std.specs.List.{flat_map, range_with_len, AllByRecursion}
use Rattle.std.specs.Option.{option_map_or}
use Rattle.std.proofs.lemmas.Bool.{cases_Bool, and_parts}
use Rattle.std.proofs.lemmas.List.Concat.{flat_map-cons}
use Rattle.std.proofs.Math.Logic.{∥∥₁_elim}
use Rattle.std.proofs.Props.{props}
use Rattle.std.specs.Coded.{Unit-prop, le_prop, ×_prop}
use Rattle.rc_base.specs.Lists.{IsIn}
use Rattle.rc_base.specs.Pictures.{Picture}
use Rattle.rc_base.specs.Formats.Commands.{IsCommand}
use Rattle.rc_base.specs.Contexts.Context.{ClientContext, private_image, private_count, edit_of}
use Rattle.rc_base.specs.Contexts.Elements.{values_of, value_in, no_image, image_value, image_element, scalar_count, same_value}
use Rattle.rc_base.specs.Contexts.Faults.{fault_of, is_name}
use Rattle.rc_base.specs.Contexts.Issue.{done_by, effect_of, effect_at, command_at, context_after, stream_of}
use Rattle.rc_base.specs.Drawing.Texel.{bound_kind, bound_name}
use Rattle.rc_base.specs.Cluster.Parcels.{told, set_of, sets_for, examined, sampled_images, parcels_before}
use Rattle.rc_base.specs.declared.command.Command.{Command}
use Rattle.rc_base.specs.declared.command.Command.TheVariants as cmd
use Rattle.rc_base.specs.declared.command.Part.{Part}
use Rattle.rc_base.specs.declared.scene.Decl.{Decl}
use Rattle.rc_base.specs.declared.scene.Scene.{Scene}
use Rattle.rc_base.specs.declared.state.Act.{Act}
use Rattle.rc_base.specs.declared.state.Act.TheVariants as act
use Rattle.rc_base.specs.declared.state.Block.{Block}
use Rattle.rc_base.specs.declared.state.Effect.{Effect}
use Rattle.rc_base.specs.declared.state.Effect.TheVariants as eff
use Rattle.rc_base.specs.declared.state.ElementSet.{ElementSet}
use Rattle.rc_base.specs.declared.state.ElementValue.{ElementValue}
use Rattle.rc_base.specs.declared.state.ElementValue.TheVariants as val
use Rattle.rc_base.specs.declared.state.Fault.{Fault}
use Rattle.rc_base.specs.declared.state.Parcel.{Parcel}
use Rattle.gl_context.specs.Valid.{IsValidContext, IsPrivateImage}
use Rattle.gl_context.proofs.OneElement.{image_element_is}
use Rattle.gl_context.proofs.ValidContexts.{valid, command_of as is_in_range, stream_all}
use Rattle.state_update.specs.Knowledge.{Knows}
use Rattle.element_table.specs.declared.kind.ValueKind.{ValueKind}
use Rattle.element_table.specs.declared.kind.ValueKind.TheVariants.{Image}
use Rattle.element_table.specs.Kinds.{kind_of, kind_of_value}
use Rattle.parcel_bytes.specs.Spelling.{IsWholeValue, IsWholeSet, IsWholeAct, IsPackable}
use Rattle.scene_lemmas.proofs.Contexts.{few_examined, written_by_shared_image}
use Rattle.scene_lemmas.proofs.Numbered.{in_range_below}
use Rattle.element_table.proofs.Rows.{image_kind}
use Rattle.client_issue.specs.Acts.{act_by, act_sets}
use Rattle.client_issue.specs.Sequence.{scene_of, IsSendingWith, heard}
use Rattle.client_issue.specs.declared.pending.Pending.{Pending}
use Rattle.client_issue.specs.declared.sender.Sender.{Sender}
use Rattle.client_issue.proofs.ParcelGiven.{parcel_by}

-- ---- the values of a context

kinds_at : (vs : List ElementValue) (e : ℕ) (d : ElementValue) (k : ValueKind) → e < length vs → kind_of_value (slice_index_or vs e d) ≡ slice_index_or (map kind_of_value vs) e k
kinds_at [] e d k low = absurd (omega (arith, low))
kinds_at (v ∷ vs) zero d k low = refl
kinds_at (v ∷ vs) (suc e) d k low = kinds_at vs e d k (omega (arith, low))

wholes_at : (vs : List ElementValue) (e : ℕ) (d : ElementValue) → e < length vs → AllByRecursion IsWholeValue vs → IsWholeValue (slice_index_or vs e d)
wholes_at [] e d low h = absurd (omega (arith, low))
wholes_at (v ∷ vs) zero d low h = h.0
wholes_at (v ∷ vs) (suc e) d low h = wholes_at vs e d (omega (arith, low)) h.1

scalar_whole : (x : ClientContext) (e : ℕ) → e < scalar_count → IsWholeSet (record { element = e; value = value_in x e })
unfolding values_of kind_of
scalar_whole x e low = record {
  element = omega (arith, low);
  kind = kinds_at (values_of x.state) e _ Image (omega (arith, low));
  texels = wholes_at (values_of x.state) e _ (omega (arith, low))
      (tt, (tt, (tt, (tt, (tt, (tt, (tt, (tt, (tt, (tt, (tt, (tt, (tt, (tt, (tt, (tt, (tt, (tt, (tt, (tt, (tt, (tt, tt))))))))))))))))))))));
}

image_whole : (x : ClientContext) (name : ℕ) (p : Picture) → 0 < name → name ≤ private_count → IsPrivateImage p → private_image x name ≡ Some p
    → IsWholeSet (record { element = image_element name; value = value_in x (image_element name) })
image_whole x name p low high h has =
    let value : image_value (edit_of x name) p ≡ value_in x (image_element name) =
    sym (image_element_is x name low ∙ ap (λ o. option_map_or (image_value (edit_of x name)) o no_image) has) in
    subst (λ (v : ElementValue). IsWholeSet (record { element = image_element name; value = v })) value
    (record { element = omega (arith, low, high); kind = sym (image_kind (image_element name) (omega (arith, low))); texels = h.whole })

sampled_whole : (d : Decl) (x : ClientContext) → IsValidContext d x
    → (kind : Bool) → (bound_kind x.state == 0) ≡ kind → (on : Bool) → x.state.texture_on ≡ on → (o : Option Picture) → private_image x (bound_name x.state) ≡ o
    → (e : ℕ) → IsIn e (if on && (kind && is_some o) then image_element (bound_name x.state) ∷ [] else []) → IsWholeSet (record { element = e; value = value_in x e })
sampled_whole d x h true private true is (Some p) has e (inl same) =
    let name = bound_name x.state in
    let named : is_name name private_count ≡ true = rw private at h.bound in
    let both = and_parts (nat_lt 0 name) (nat_le name private_count) named in
    subst (λ (k : ℕ). IsWholeSet (record { element = k; value = value_in x k })) same
    (image_whole x name p (ltb-true 0 name both.0) (leb-true name private_count both.1) (h.pictures name p has) has)
sampled_whole d x h true private true is (Some p) has e (inr i) = absurd i
sampled_whole d x h true private true is None has e i = absurd i
sampled_whole d x h false private true is o has e i = absurd i
sampled_whole d x h kind private false is o has e i = absurd i

in_append : (e : ℕ) (xs ys : List ℕ) → IsIn e (xs ++ ys) → IsIn e xs ⊎ IsIn e ys
in_append e [] ys i = inr i
in_append e (x ∷ xs) ys (inl same) = inl (inl same)
in_append e (x ∷ xs) ys (inr i) = elim (in_append e xs ys i) [ inl a ↦ inl (inr a) | inr b ↦ inr b ]

examined_whole : (d : Decl) (x : ClientContext) → IsValidContext d x → (draws : Bool) → (e : ℕ) → IsIn e (examined x draws) → IsWholeSet (record { element = e; value = value_in x e })
examined_whole d x h draws e i =
    elim (in_append e (range_with_len 0 scalar_count) (if draws then sampled_images x else []) i) [
      | inl a ↦ scalar_whole x e (let lt = in_range_below 0 scalar_count e a in omega (arith, lt))
      | inr b ↦ elim (cases_Bool draws) [
        | inl t ↦ sampled_whole d x h (bound_kind x.state == 0) refl x.state.texture_on refl (private_image x (bound_name x.state)) refl e (subst (λ k. IsIn e (if k then sampled_images x else [])) t b)
        | inr f ↦ absurd (subst (λ k. IsIn e (if k then sampled_images x else [])) f b)
      ]
    ]

-- ---- sets

module _ (values : ℕ → ElementValue) (x : ClientContext) where
  each_set : (e : ℕ) (rest : List ElementSet) (same : Bool) → IsWholeSet (record { element = e; value = value_in x e }) → AllByRecursion IsWholeSet rest
      → AllByRecursion IsWholeSet ((if same then [] else record { element = e; value = value_in x e } ∷ []) ++ rest)
  each_set e rest true one all = all
  each_set e rest false one all = (one, all)

  each_few : (e n : ℕ) (rest : List ElementSet) (same : Bool) → length rest ≤ n → length ((if same then [] else (let s : ElementSet = record { element = e; value = value_in x e } in s) ∷ []) ++ rest) ≤ suc n
  each_few e n rest true le = omega (arith, le)
  each_few e n rest false le = omega (arith, le)

  all_sets : (es : List ℕ) → ((e : ℕ) → IsIn e es → IsWholeSet (record { element = e; value = value_in x e })) → AllByRecursion IsWholeSet (flat_map (set_of values x) es)
  all_sets [] h = tt
  all_sets (e ∷ es) h =
      subst (AllByRecursion IsWholeSet) (sym (flat_map-cons (set_of values x) e es))
      (each_set e (flat_map (set_of values x) es) (same_value (values e) (value_in x e)) (h e (inl refl)) (all_sets es (λ k i. h k (inr i))))

  few_sets : (es : List ℕ) → length (flat_map (set_of values x) es) ≤ length es
  few_sets [] = omega arith
  few_sets (e ∷ es) =
      subst (λ (l : List ElementSet). length l ≤ suc (length es)) (sym (flat_map-cons (set_of values x) e es))
      (each_few e (length es) (flat_map (set_of values x) es) (same_value (values e) (value_in x e)) (few_sets es))

abbrev AreFit : List ElementSet → Type 0
AreFit sets = (length sets ≤ 255) × AllByRecursion IsWholeSet sets

fit_sets : (d : Decl) (values : ℕ → ElementValue) (x : ClientContext) → IsValidContext d x → (draws : Bool) → AreFit (sets_for values x draws)
unfolding sets_for
fit_sets d values x h draws =
    let few = few_sets values x (examined x draws) in
    let most = few_examined x draws in
    (omega (arith, few, most), all_sets values x (examined x draws) (examined_whole d x h draws))

sets_fit : (d : Decl) (values : ℕ → ElementValue) (x : ClientContext) → IsValidContext d x → (a : Act) → AreFit (act_sets values x a)
sets_fit d values x h (act.Draw b) = fit_sets d values x h true
sets_fit d values x h (act.Clear m) = fit_sets d values x h false
sets_fit d values x h (act.Shared p) = (omega arith, tt)
sets_fit d values x h (act.Sync op) = (omega arith, tt)
sets_fit d values x h act.End = (omega arith, tt)

-- ---- acts

block_by : (x : ClientContext) (c : Command) (b : Block) → done_by x c ≡ eff.Block b → x.block ≡ Some b
block_by x cmd.End b e = go x.block e
  where
    go : (o : Option Block) → option_map_or (λ b. eff.Block b) o eff.Quiet ≡ eff.Block b → o ≡ Some b
    go None e = absurd cc
    go (Some a) e = let same : a ≡ b = cc in ap (λ q. Some q) same
block_by x c b e = absurd cc

block_of : (x : ClientContext) (c : Command) (b : Block) (f : Option Fault) → option_map_or (λ g. eff.Refused g) f (done_by x c) ≡ eff.Block b → x.block ≡ Some b
block_of x c b None e = block_by x c b e
block_of x c b (Some g) e = absurd cc

block_at : (x : ClientContext) (b : Block) (o : Option Command) → option_map_or (effect_of x) o eff.Quiet ≡ eff.Block b → x.block ≡ Some b
unfolding effect_of
block_at x b None e = absurd cc
block_at x b (Some c) e = block_of x c b (fault_of x c) e

written_of : (x : ClientContext) (c : Command) (part : Part) (f : Option Fault) → option_map_or (λ g. eff.Refused g) f (done_by x c) ≡ eff.Shared part → c ≡ cmd.SharedImage part
written_of x c part None e = written_by_shared_image x c part e
written_of x c part (Some g) e = absurd cc

written_at : (x : ClientContext) (part : Part) (o : Option Command) → option_map_or (effect_of x) o eff.Quiet ≡ eff.Shared part → o ≡ Some (cmd.SharedImage part)
unfolding effect_of
written_at x part None e = absurd cc
written_at x part (Some c) e = ap (λ d. Some d) (written_of x c part (fault_of x c) e)

act_fits : (scene : Scene) (n : ℕ) → AllByRecursion (AllByRecursion IsCommand) scene.streams → (o : Effect) → effect_at scene 0 n ≡ o → (a : Act) → act_by o ≡ Some a → IsWholeAct a
unfolding effect_at
act_fits scene n range (eff.Block b) is a e =
    let same : act.Draw b ≡ a = cc in
    let legal = (valid scene range 0 n).block b (block_at (context_after scene 0 n) b (command_at scene 0 n) is) in
    let few : length b.vertices ≤ 65535 = let v = legal.vertices in omega (arith, v) in
    subst IsWholeAct same few
act_fits scene n range (eff.Clear m) is a e = let same : act.Clear m ≡ a = cc in subst IsWholeAct same tt
act_fits scene n range (eff.Shared part) is a e =
    let same : act.Shared part ≡ a = cc in
    let i = is_in_range (stream_of scene 0) n (cmd.SharedImage part) (stream_all scene.streams 0 range) (written_at (context_after scene 0 n) part (command_at scene 0 n) is) in
    subst IsWholeAct same i.1.1.1.0.2
act_fits scene n range (eff.Sync op) is a e = let same : act.Sync op ≡ a = cc in subst IsWholeAct same tt
act_fits scene n range eff.Quiet is a e = absurd cc
act_fits scene n range (eff.Refused f) is a e = absurd cc

-- ---- parcels

IsWholeValue-prop : (v : ElementValue) → IsProp (IsWholeValue v)
IsWholeValue-prop (val.Matrix m) = Unit-prop
IsWholeValue-prop (val.Area area) = Unit-prop
IsWholeValue-prop (val.Range range) = Unit-prop
IsWholeValue-prop (val.Flag flag) = Unit-prop
IsWholeValue-prop (val.Code code) = Unit-prop
IsWholeValue-prop (val.Pair pair) = Unit-prop
IsWholeValue-prop (val.Mask mask) = Unit-prop
IsWholeValue-prop (val.Color color) = Unit-prop
IsWholeValue-prop (val.Depth depth) = Unit-prop
IsWholeValue-prop (val.Mode mode) = Unit-prop
IsWholeValue-prop (val.Image edit w h texels) = hlevel props

IsWholeSet-prop : (set : ElementSet) → IsProp (IsWholeSet set)
IsWholeSet-prop set = hlevel (props, IsWholeValue-prop)

AreWhole-prop : (sets : List ElementSet) → IsProp (AllByRecursion IsWholeSet sets)
AreWhole-prop [] = Unit-prop
AreWhole-prop (set ∷ sets) = ×_prop (IsWholeSet-prop set) (AreWhole-prop sets)

IsWholeAct-prop : (a : Act) → IsProp (IsWholeAct a)
IsWholeAct-prop (act.Draw block) = le_prop
IsWholeAct-prop (act.Clear mask) = Unit-prop
IsWholeAct-prop (act.Shared part) = hlevel props
IsWholeAct-prop (act.Sync op) = Unit-prop
IsWholeAct-prop act.End = Unit-prop

IsPackable-prop : (p : Parcel) → IsProp (IsPackable p)
IsPackable-prop p = hlevel (props, AreWhole-prop, IsWholeAct-prop)

-- the values that the tile was told
abbrev values_told : Sender → Pending → ℕ → ElementValue
values_told s p = told s.decl (parcels_before (scene_of s) s.layout 0 p.tile (heard (Some p) s.issued p.tile))

packable_by : (s : Sender) (p : Pending) (sets : List ElementSet) → IsSendingWith s (Some p) → AllByRecursion IsCommand s.stream
    → sets ≡ act_sets (values_told s p) s.context p.act → IsPackable (parcel_by p sets)
packable_by s p sets h commands same =
    let range : AllByRecursion (AllByRecursion IsCommand) (scene_of s).streams = (commands, tt) in
    let x : IsValidContext s.decl s.context = subst (IsValidContext s.decl) (sym h.context) (valid (scene_of s) range 0 s.issued) in
    let fit : AreFit sets = subst AreFit (sym same) (sets_fit s.decl (values_told s p) s.context x p.act) in
    record { few = fit.0; sets = fit.1; act = act_fits (scene_of s) p.place range (effect_at (scene_of s) 0 p.place) refl p.act h.pending.asks }

pub packable : (s : Sender) (p : Pending) (sets : List ElementSet) → IsSendingWith s (Some p)
    → ((values : ℕ → ElementValue) → Knows s.tracker p.tile values → sets ≡ act_sets values s.context p.act) → IsPackable (parcel_by p sets)
packable s p sets h are =
    let e = h.count in
    let t = h.pending.tile in
    let q = parcel_by p sets in
    ∥∥₁_elim {P = IsPackable q} h.commands (IsPackable-prop q)
    (λ commands. ∥∥₁_elim {P = IsPackable q} (h.known p.tile (omega (arith, e, t))) (IsPackable-prop q) (λ known. packable_by s p sets h commands (are (values_told s p) known)))
