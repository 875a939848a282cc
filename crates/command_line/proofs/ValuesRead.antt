-- The values of settings, from their texts.
use Rattle.std.proofs.Common.{◌≡◌, ℕ, ◌<◌, ◌^◌, Bool, true, false, List, [], ◌∷◌, ◌++◌, Option, Some, option_map, codes, if◌then◌else◌, Bor, refl, ap, ap₂, Result, Ok, Err, IfOk, IfErr, MatchOption}
use Rattle.std.proofs.Common.{sym, ◌∙◌, None}
use Rattle.std.specs.Option.{unwrap_or}
use Rattle.clap.specs.Kinds.{Kinds, HasKind, FailsBy}
use Rattle.clap.specs.declared.error.Error.{Error}
use Rattle.std.specs.List.{AllByRecursion}
use Rattle.std.specs.Fmt.{decimal}
use Rattle.std.proofs.lemmas.Fmt.{decimal_injective}
use Rattle.command_line.specs.Words.{Setting, IsSetting, tiles_in, depth_in, order_in, seed_in, size_in}
use Rattle.command_line.specs.declared.job.OptionName.TheVariants.{Tiles, Depth, Seed, Size}
use Rattle.command_line.specs.Words.Setting.{TilesOf, DepthOf, WithOrder, SeedOf, SizeOf}
use Rattle.command_line.specs.Texts.{text_in}
use Rattle.command_line.proofs.Numbers.{same_tiles}

-- n is the number of the text, and the default where there is none
pub record ReadsNumber (text : Option (List ℕ)) (default n : ℕ) : Type 0 where
  pub none : text ≡ None → n ≡ default
  pub some : (m : ℕ) → m < 2 ^ 64 → text ≡ Some (decimal m) → n ≡ m

-- t are the numbers of the text, and 1 and 1 where there is none
pub record ReadsTiles (text : Option (List ℕ)) (t : ℕ × ℕ) : Type 0 where
  pub none : text ≡ None → t ≡ (1, 1)
  pub some : (c r : ℕ) → c < 2 ^ 64 → r < 2 ^ 64 → text ≡ Some (decimal c ++ (codes "x" ++ decimal r)) → t ≡ (c, r)

pub map_ok : {T E : Type 0} {P Q : T → Type 0} (r : Result T E) → IfOk r P → ((v : T) → P v → Q v) → IfOk r Q
map_ok (Ok v) h f = f v h
map_ok (Err e) h f = tt

pub map_err : {T : Type 0} (kinds : Kinds) {Q : Error → Type 0} (r : Result T Error) → FailsBy kinds r → ((e : Error) → HasKind kinds e → Q e) → IfErr r Q
map_err kinds (Ok v) h f = tt
map_err kinds (Err e) h f = f e h

pub number_read : (text : Option (Bor (List ℕ))) (t : Bor (List ℕ)) (default n : ℕ) (r : Option ℕ) → text ≡ Some t
    → MatchOption r ((m : ℕ) → m < 2 ^ 64 → t.now ≡ decimal m → ⊥) (λ m. t.now ≡ decimal m) → n < 2 ^ 64 → n ≡ unwrap_or r default
    → ReadsNumber (option_map (λ x. x.now) text) default n
number_read text t default n r is h small e = record {
  none = λ no. let there : option_map (λ x. x.now) text ≡ Some t.now = ap (option_map (λ x. x.now)) is in absurd cc;
  some = λ m less spelled.
      let there : option_map (λ x. x.now) text ≡ Some t.now = ap (option_map (λ x. x.now)) is in
      let told : t.now ≡ decimal m = cc in
      go r h e m less told;
}
  where
    go : (r : Option ℕ) → MatchOption r ((m : ℕ) → m < 2 ^ 64 → t.now ≡ decimal m → ⊥) (λ m. t.now ≡ decimal m) → n ≡ unwrap_or r default
        → (m : ℕ) → m < 2 ^ 64 → t.now ≡ decimal m → n ≡ m
    go None h e m less told = absurd (h m less told)
    go (Some k) h e m less told = decimal_injective n m small less (ap decimal e ∙ (sym h ∙ told))

pub tiles_read : (text : Option (Bor (List ℕ))) (t : Bor (List ℕ)) (n : ℕ × ℕ) (r : Option (ℕ × ℕ)) → text ≡ Some t
    → MatchOption r ((c q : ℕ) → c < 2 ^ 64 → q < 2 ^ 64 → t.now ≡ decimal c ++ (codes "x" ++ decimal q) → ⊥) (λ k. t.now ≡ decimal k.0 ++ (codes "x" ++ decimal k.1))
    → n.0 < 2 ^ 64 → n.1 < 2 ^ 64 → n ≡ unwrap_or r (1, 1) → ReadsTiles (option_map (λ x. x.now) text) n
tiles_read text t n r is h small small' e = record {
  none = λ no. let there : option_map (λ x. x.now) text ≡ Some t.now = ap (option_map (λ x. x.now)) is in absurd cc;
  some = λ c q less less' spelled.
      let there : option_map (λ x. x.now) text ≡ Some t.now = ap (option_map (λ x. x.now)) is in
      let told : t.now ≡ decimal c ++ (codes "x" ++ decimal q) = cc in
      go r h e c q less less' told;
}
  where
    go : (r : Option (ℕ × ℕ))
        → MatchOption r ((c q : ℕ) → c < 2 ^ 64 → q < 2 ^ 64 → t.now ≡ decimal c ++ (codes "x" ++ decimal q) → ⊥) (λ k. t.now ≡ decimal k.0 ++ (codes "x" ++ decimal k.1))
        → n ≡ unwrap_or r (1, 1) → (c q : ℕ) → c < 2 ^ 64 → q < 2 ^ 64 → t.now ≡ decimal c ++ (codes "x" ++ decimal q) → n ≡ (c, q)
    go None h e c q less less' told = absurd (h c q less less' told)
    go (Some k) h e c q less less' told =
        let own : decimal n.0 ++ (codes "x" ++ decimal n.1) ≡ decimal c ++ (codes "x" ++ decimal q)
        = ap (λ (p : ℕ × ℕ). decimal p.0 ++ (codes "x" ++ decimal p.1)) e ∙ (sym h ∙ told) in
        let k = same_tiles n.0 n.1 c q small small' less less' own in
        ap₂ (λ a b. (a, b)) k.0 k.1

pub tiles_value : (ss : List Setting) (t : ℕ × ℕ) → AllByRecursion IsSetting ss → ReadsTiles (text_in Tiles ss) t → t ≡ tiles_in ss
tiles_value [] t each h = h.none refl
tiles_value (TilesOf c r ∷ ss) t each h = h.some c r each.0.0 each.0.1 refl
tiles_value (DepthOf d ∷ ss) t each h = tiles_value ss t each.1 h
tiles_value (WithOrder ∷ ss) t each h = tiles_value ss t each.1 h
tiles_value (SeedOf n ∷ ss) t each h = tiles_value ss t each.1 h
tiles_value (SizeOf n ∷ ss) t each h = tiles_value ss t each.1 h

pub depth_value : (ss : List Setting) (n : ℕ) → AllByRecursion IsSetting ss → ReadsNumber (text_in Depth ss) 8 n → n ≡ depth_in ss
depth_value [] k each h = h.none refl
depth_value (TilesOf c r ∷ ss) k each h = depth_value ss k each.1 h
depth_value (DepthOf d ∷ ss) k each h = h.some d each.0 refl
depth_value (WithOrder ∷ ss) k each h = depth_value ss k each.1 h
depth_value (SeedOf n ∷ ss) k each h = depth_value ss k each.1 h
depth_value (SizeOf n ∷ ss) k each h = depth_value ss k each.1 h

pub seed_value : (ss : List Setting) (n : ℕ) → AllByRecursion IsSetting ss → ReadsNumber (text_in Seed ss) 0 n → n ≡ seed_in ss
seed_value [] k each h = h.none refl
seed_value (TilesOf c r ∷ ss) k each h = seed_value ss k each.1 h
seed_value (DepthOf d ∷ ss) k each h = seed_value ss k each.1 h
seed_value (WithOrder ∷ ss) k each h = seed_value ss k each.1 h
seed_value (SeedOf n ∷ ss) k each h = h.some n each.0 refl
seed_value (SizeOf n ∷ ss) k each h = seed_value ss k each.1 h

pub size_value : (ss : List Setting) (n : ℕ) → AllByRecursion IsSetting ss → ReadsNumber (text_in Size ss) 0 n → n ≡ size_in ss
size_value [] k each h = h.none refl
size_value (TilesOf c r ∷ ss) k each h = size_value ss k each.1 h
size_value (DepthOf d ∷ ss) k each h = size_value ss k each.1 h
size_value (WithOrder ∷ ss) k each h = size_value ss k each.1 h
size_value (SeedOf n ∷ ss) k each h = size_value ss k each.1 h
size_value (SizeOf n ∷ ss) k each h = h.some n each.0 refl

flag_value : (ordered b : Bool) (word : Option (List ℕ)) → word ≡ Some (if ordered then codes "true" else codes "false")
    → (word ≡ Some (codes "true") → b ≡ true) → (word ≡ Some (codes "false") → b ≡ false) → b ≡ ordered
flag_value true b word is when_true when_false = when_true is
flag_value false b word is when_true when_false = when_false is

pub order_value : (ss : List Setting) (b : Bool) (word : Option (List ℕ)) → word ≡ Some (if order_in ss then codes "true" else codes "false")
    → (word ≡ Some (codes "true") → b ≡ true) → (word ≡ Some (codes "false") → b ≡ false) → b ≡ order_in ss
order_value ss b word = flag_value (order_in ss) b word
