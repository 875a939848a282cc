-- Of whom a tile takes parcels.
use Rattle.std.proofs.Common.{◌≡◌, not, Bool, true, false, cond, refl}
use Rattle.std.specs.Prelude.{◌&&◌, ◌||◌}

-- who is held counts where the tile isn't short and more may be performed
pub asked_by : (short closed held over : Bool)
    → (not closed && ((short || over) || not held)) ≡ cond short (not closed) (not closed && (not held || over))
asked_by true true held over = refl
asked_by true false held over = refl
asked_by false true held over = refl
asked_by false false true true = refl
asked_by false false true false = refl
asked_by false false false true = refl
asked_by false false false false = refl
