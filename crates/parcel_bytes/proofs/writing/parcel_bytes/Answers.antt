use Rattle.std.proofs.Common.{◌∷◌, ◌++◌, List, length, ap, ◌∙◌, subst}
use Rattle.std.specs.List.{flat_map, AllByRecursion}
use Rattle.rc_base.specs.Formats.Spelling.{long}
use Rattle.rc_base.specs.declared.state.ElementSet.{ElementSet}
use Rattle.parcel_bytes.specs.Spelling.{IsSet, set_bytes}
use Rattle.parcel_bytes.proofs.Fronts.{written_whole}
use Rattle.parcel_bytes.proofs.writing.parcel_bytes.Goals as goal

pub returns : goal.returns
returns c =
    let p = c.args.parcel.now in
    let same = c.as_slice-sets.ensures in
    written_whole p c.in_ok-bytes.bytes c.write_act.new.out c.len-act.result c.in_ok-bytes.ensures.typed.0 c.requires.packable.few
    (subst (AllByRecursion IsSet) same c.in_ok-bytes.ensures.typed.1) c.in_ok-write_act.ensures.typed
    (c.in_ok-bytes.ensures.front ∙ ap (λ (sets : List ElementSet). long p.place ++ (length sets ∷ flat_map set_bytes sets)) same)
    c.len-act.ensures c.in_ok-write_act.ensures.added
