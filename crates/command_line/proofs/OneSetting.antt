-- Words begin with at most one setting.
use Rattle.std.specs.Prelude.{codes}
use Rattle.std.proofs.Common.{◌≡◌, ℕ, List, [], ◌∷◌, ◌++◌, Option, None, Some, if◌then◌else◌, sym, ap, ap₂, ◌∙◌, refl}
use Rattle.std.specs.Str.{bytes_eq}
use Rattle.std.specs.Fmt.{decimal}
use Rattle.std.proofs.lemmas.Fmt.{decimal_injective}
use Rattle.command_line.specs.declared.job.OptionName.{OptionName}
use Rattle.command_line.specs.Words.{Setting, option_of, setting_words}
use Rattle.command_line.specs.declared.job.OptionName.TheVariants.{Tiles, Depth, Order, Seed, Size}
use Rattle.command_line.specs.Words.Setting.{TilesOf, DepthOf, WithOrder, SeedOf, SizeOf}
use Rattle.command_line.specs.Begins.{Begins}
use Rattle.command_line.proofs.Numbers.{same_tiles}

-- the option that a word names
abbrev option_in : List (List ℕ) → Option OptionName
option_in [] = None
option_in (w ∷ ws) =
    if bytes_eq w (codes "--tiles") then Some Tiles
    else if bytes_eq w (codes "--depth") then Some Depth
    else if bytes_eq w (codes "--order") then Some Order
    else if bytes_eq w (codes "--seed") then Some Seed
    else if bytes_eq w (codes "--size") then Some Size
    else None

option_first : (s : Setting) (rest : List (List ℕ)) → option_in (setting_words s ++ rest) ≡ Some (option_of s)
option_first (TilesOf c r) rest = refl
option_first (DepthOf d) rest = refl
option_first WithOrder rest = refl
option_first (SeedOf n) rest = refl
option_first (SizeOf n) rest = refl

same_option : {ws rest more : List (List ℕ)} {s t : Setting} → Begins ws s rest → Begins ws t more → option_of s ≡ option_of t
same_option {s = s} {t = t} b d =
    let e : Some (option_of s) ≡ Some (option_of t) = sym (option_first s _) ∙ (ap option_in (sym b.parts ∙ d.parts) ∙ option_first t _) in
    cc

abbrev Same : Setting → Setting → List (List ℕ) → List (List ℕ) → Type 0
Same s t rest more = (s ≡ t) × (rest ≡ more)

pub same_setting : {ws rest more : List (List ℕ)} (s t : Setting) → Begins ws s rest → Begins ws t more → Same s t rest more
same_setting {ws} {rest} {more} (TilesOf c r) (TilesOf d q) b e =
    let words : setting_words (TilesOf c r) ++ rest ≡ setting_words (TilesOf d q) ++ more = sym b.parts ∙ e.parts in
    let texts : decimal c ++ (120 ∷ decimal r) ≡ decimal d ++ (120 ∷ decimal q) = cc in
    let k = same_tiles c r d q b.fits.0 b.fits.1 e.fits.0 e.fits.1 texts in
    (ap₂ TilesOf k.0 k.1, cc)
same_setting {ws} {rest} {more} (DepthOf c) (DepthOf d) b e =
    let words : setting_words (DepthOf c) ++ rest ≡ setting_words (DepthOf d) ++ more = sym b.parts ∙ e.parts in
    (ap DepthOf (decimal_injective c d b.fits e.fits cc), cc)
same_setting {ws} {rest} {more} WithOrder WithOrder b e =
    let words : setting_words WithOrder ++ rest ≡ setting_words WithOrder ++ more = sym b.parts ∙ e.parts in
    (refl, cc)
same_setting {ws} {rest} {more} (SeedOf c) (SeedOf d) b e =
    let words : setting_words (SeedOf c) ++ rest ≡ setting_words (SeedOf d) ++ more = sym b.parts ∙ e.parts in
    (ap SeedOf (decimal_injective c d b.fits e.fits cc), cc)
same_setting {ws} {rest} {more} (SizeOf c) (SizeOf d) b e =
    let words : setting_words (SizeOf c) ++ rest ≡ setting_words (SizeOf d) ++ more = sym b.parts ∙ e.parts in
    (ap SizeOf (decimal_injective c d b.fits e.fits cc), cc)
same_setting s t b e = absurd (let other = same_option b e in cc)
