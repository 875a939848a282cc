-- How the bytes of scenes begin, and by which versions these draw.
use Rattle.std.specs.Prelude.{◌≡◌, ℕ, List, [], ◌∷◌, ◌++◌}
use Rattle.rc_base.specs.Formats.Spelling.{CommandSet, SceneForm, IsVersion, magic, list_magic}

-- the bytes begin as those of a scene with call lists do
abbrev pub BeginWithLists : List ℕ → Type 0
BeginWithLists bytes = (rest : List ℕ) × (bytes ≡ list_magic ++ rest)

-- The versions by which scenes of a form draw, the letters of each version, and the letters of all.
pub record Letters : Type 1 where
  pub IsDrawn : ℕ → Type 0
  pub begins : ℕ → List ℕ
  pub all : List (List ℕ)

-- scenes of the commands of the table
abbrev pub plain_letters : Letters
plain_letters = record { IsDrawn = IsVersion; begins = magic; all = magic 1 ∷ magic 2 ∷ [] }

-- scenes with call lists
abbrev pub list_letters : Letters
list_letters = record { IsDrawn = λ version. version ≡ 2; begins = λ version. list_magic; all = list_magic ∷ [] }

-- scenes of these commands that begin so
abbrev pub form_of : {C O : Type 0} → CommandSet C O → Letters → SceneForm C O
form_of set letters = record { set = set; IsDrawn = letters.IsDrawn; begins = letters.begins }
