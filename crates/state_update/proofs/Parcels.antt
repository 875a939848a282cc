-- What parcels told their tile, one after the other.
use Rattle.std.proofs.Common.{◌≡◌, ℕ, List, [], ◌∷◌, ◌++◌, true, fold, length, sym, ap, subst, ◌∙◌, ltb-true, leb-true, eq-eqb}
use Rattle.std.specs.Prelude.{nat_le, nat_lt, if◌then◌else◌}
use Rattle.std.specs.List.{flat_map}
use Rattle.std.proofs.Math.Path.{fun_ext}
use Rattle.std.proofs.lemmas.Grind.{flat_map-append}
use Rattle.std.proofs.lemmas.List.{append-nil}
use Rattle.std.proofs.lemmas.List.Sums.{fold-append}
use Rattle.std.proofs.lemmas.Bool.{and_parts}
use Rattle.rc_base.specs.Contexts.Context.{ClientContext, private_count}
use Rattle.rc_base.specs.Contexts.Elements.{default_value}
use Rattle.rc_base.specs.Cluster.Parcels.{told, told_by}
use Rattle.rc_base.specs.declared.scene.Decl.{Decl}
use Rattle.rc_base.specs.declared.state.ElementSet.{ElementSet}
use Rattle.rc_base.specs.declared.state.Parcel.{Parcel}
use Rattle.rc_base.specs.Contexts.Faults.{is_name}
use Rattle.rc_base.specs.Drawing.Texel.{bound_kind, bound_name}
use Rattle.gl_context.specs.Valid.{IsValidContext}
use Rattle.state_update.specs.Knowledge.{HasBoundTexture, Knows, Tracked, after_sets}

abbrev sets_in : List Parcel → List ElementSet
sets_in parcels = flat_map (λ (p : Parcel). p.sets) parcels

pub told_more : (d : Decl) (earlier : List Parcel) (p : Parcel) (e : ℕ) → after_sets (told d earlier) p.sets e ≡ told d (earlier ++ p ∷ []) e
unfolding told
told_more d earlier p e =
    sym (
    ap (fold (told_by e) (default_value d e)) (flat_map-append (λ (q : Parcel). q.sets) earlier (p ∷ []) ∙ ap (λ l. sets_in earlier ++ l) (append-nil p.sets))
    ∙ fold-append (told_by e) (default_value d e) (sets_in earlier) p.sets
    )

pub begins : (tracker : Tracked) (tile : ℕ) (d : Decl) → Knows tracker tile (default_value d) → Knows tracker tile (told d [])
unfolding told
begins tracker tile d k = k

pub goes_on : (tracker : Tracked) (tile : ℕ) (d : Decl) (earlier : List Parcel) (p : Parcel) → Knows tracker tile (after_sets (told d earlier) p.sets)
    → Knows tracker tile (told d (earlier ++ p ∷ []))
goes_on tracker tile d earlier p k = subst (Knows tracker tile) (fun_ext (told_more d earlier p)) k

pub stays : (tracker : Tracked) (tile : ℕ) (d : Decl) (earlier : List Parcel) (p : Parcel) → p.sets ≡ [] → Knows tracker tile (told d earlier)
    → Knows tracker tile (told d (earlier ++ p ∷ []))
stays tracker tile d earlier p none k =
    goes_on tracker tile d earlier p (subst (λ (l : List ElementSet). Knows tracker tile (after_sets (told d earlier) l)) (sym none) k)

pub has_texture : (d : Decl) (x : ClientContext) → IsValidContext d x → HasBoundTexture x
has_texture d x valid private =
    let name = bound_name x.state in
    let named : is_name name private_count ≡ true =
    subst (λ b. is_name name (if b then private_count else length d.shared) ≡ true) (eq-eqb (bound_kind x.state) 0 private) valid.bound in
    let b = and_parts (nat_lt 0 name) (nat_le name private_count) named in
    (ltb-true 0 name b.0, leb-true name private_count b.1)
