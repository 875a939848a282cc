-- `clap` takes the words of a line's settings, and has the texts of their values.
use Rattle.std.specs.Prelude.{◌≡◌, ◌≢◌, ℕ, ◌==◌, ◌<◌, ◌^◌, Bool, true, false, List, [], ◌∷◌, ◌++◌, Option, Some, None, codes, map, option_map, option_and_then, is_some, ◌||◌, if◌then◌else◌, fold, slice_get, length, unwrap_or}
use Rattle.std.proofs.Common.{refl, ap, sym, subst, ◌∙◌, inl, inr, arith, get_or}
use Rattle.std.specs.List.{flat_map, AllByRecursion}
use Rattle.std.specs.Str.{bytes_eq}
use Rattle.std.specs.Fmt.{decimal}
use Rattle.std.proofs.lemmas.Bool.Decides.{eqb_tells}
use Rattle.std.proofs.lemmas.Fmt.{digits_decimal, decimal_nonempty}
use Rattle.std.proofs.lemmas.Str.Parse.{not_in_digits}
use Rattle.rc_base.specs.Lists.{IsIn, NoRepeat}
use Rattle.plain_lemmas.proofs.Numbers.{decimal_numerals}
use Rattle.plain_lemmas.proofs.Booleans.{if_same}
use Rattle.command_line.specs.declared.job.OptionName.{OptionName}
use Rattle.command_line.specs.Words.{Setting, IsSetting, option_of, setting_words, order_in}
use Rattle.command_line.specs.declared.job.OptionName.TheVariants.{Tiles, Depth, Order, Seed, Size}
use Rattle.command_line.specs.Words.Setting.{TilesOf, DepthOf, WithOrder, SeedOf, SizeOf}
use Rattle.clap.specs.Kinds.{Kinds, or_else, HasKind}
use Rattle.clap.specs.Values.{kind_of}
use Rattle.clap.specs.declared.error.Error.{Error}
use Rattle.clap.specs.declared.error.kind.ErrorKind.TheVariants.{OutOfMemory}
use Rattle.clap.specs.Walk.{Held, Row, Rule, Text, Walk, with_default, more_values, first_of, one_of, walk_from, walked, settled, reacted, has_row, nothing_held}
use Rattle.clap.specs.Simple.{matches_of, filled, with_index}
use Rattle.clap.specs.Faults.{walk_fault, fault_of, defaults_fault, default_fault}
use Rattle.clap.proofs.OnLiterals.{clap_on_literals}
use Rattle.clap.specs.declared.parser.matches.ValueSource.TheVariants.{CommandLine, DefaultValue}
use Rattle.command_line.specs.App.{option_rule, rule_for, line_app}
use Rattle.command_line.specs.Texts.{id_of, value_text, text_in, AreSettings}
use Rattle.command_line.proofs.ClapRows.{new_row, fresh, row_in, row_other, row_own}
use Rattle.command_line.proofs.ClapWords.{shape, rules, Got, with_got, Turn, Standing, nothing_stands, wanting, valued, HasValue, tiles_has_value, depth_has_value, seed_has_value, size_has_value, flag_turn, same_option, one_more}

-- ---- values don't begin with a hyphen

record IsPlain (t : Text) : Type 0 where
  first : ℕ
  others : Text
  is : t ≡ first ∷ others
  plain : (first == 45) ≡ false

no_hyphen : (t : Text) → 0 < length t → get_or t 0 0 ≢ 45 → IsPlain t
no_hyphen [] some n = absurd (omega arith)
no_hyphen (x ∷ xs) some n = record {
  first = x;
  others = xs;
  is = refl;
  plain = elim (eqb_tells x 45) [ inl h ↦ absurd (n h.1) | inr h ↦ h.0 ];
}

number_is_plain : (n : ℕ) → n < 2 ^ 64 → IsPlain (decimal n)
number_is_plain n small =
    no_hyphen (decimal n) (decimal_nonempty n small) (not_in_digits decimal_numerals (decimal n) 45 (digits_decimal decimal_numerals n small) (λ h. omega arith) 0 (decimal_nonempty n small))

more_is_plain : (t more : Text) → IsPlain t → IsPlain (t ++ more)
more_is_plain t more p = record { first = p.first; others = p.others ++ more; is = ap (λ (u : Text). u ++ more) p.is; plain = p.plain }

-- ---- the walk

unfoldable got_after : Got → List Setting → Got
got_after got [] = got
got_after got (s ∷ ss) = got_after (with_got got (option_of s) (value_text s)) ss

record Walked (w : Walk) (words : List Text) (got : Got) : Type 0 where
  passes : walk_fault shape [] w words ≡ []
  last : Held
  leads : fold (walked rules []) w words ≡ walk_from last
  stands : Standing last got

more_words : {w v : Walk} {word : Text} {rest : List Text} {got : Got} → Turn w word v → Walked v rest got → Walked w (word ∷ rest) got
unfolding walk_fault
more_words t k = record {
  passes = rw (t.passes, t.leads) k.passes;
  last = k.last;
  leads = rw (t.leads) k.leads;
  stands = k.stands;
}

-- an option and its value
walk_value : {o : OptionName} {got final : Got} {rest : List Text} → HasValue o → (h : Held) (t : Text) → IsPlain t → Standing h got → got o ≡ None
    → ((next : Held) → Standing next (with_got got o t) → Walked (walk_from next) rest final)
    → Walked (walk_from h) ((45 ∷ 45 ∷ id_of o) ∷ (t ∷ rest)) final
walk_value {o} {got} v h t p s n tail =
    let new : has_row (id_of o) (settled rules h).rows ≡ false = s.has o ∙ ap is_some n in
    let stands : Standing (valued (id_of o) h t) (with_got got o t) = one_more o h (valued (id_of o) h t) got t s n (v.settles h t new) (v.uses h t) in
    let turn : Turn (wanting (id_of o) h) t (walk_from (valued (id_of o) h t))
    = subst (λ (u : Text). Turn (wanting (id_of o) h) u (walk_from (valued (id_of o) h u))) (sym p.is) (v.value h p.first p.others p.plain) in
    more_words (v.word h s.clean) (more_words turn (tail (valued (id_of o) h t) stands))

walk_flag : {got final : Got} {rest : List Text} → (h : Held) → Standing h got → got Order ≡ None
    → ((next : Held) → Standing next (with_got got Order (codes "true")) → Walked (walk_from next) rest final)
    → Walked (walk_from h) (codes "--order" ∷ rest) final
walk_flag {got} h s n tail =
    let next : Held = reacted rules (filled (rule_for Order)) [] h in
    let new : has_row (id_of Order) (settled rules h).rows ≡ false = s.has Order ∙ ap is_some n in
    let stands : Standing next (with_got got Order (codes "true")) = one_more Order h next got (codes "true") s n refl refl in
    more_words (flag_turn h s.clean new) (tail next stands)

-- the settings to come are of options that were not read
abbrev AreNew : Got → List Setting → Type 0
AreNew got ss = (o : OptionName) → IsIn o (map option_of ss) → got o ≡ None

still_new : (got : Got) (s : Setting) (ss : List Setting) → NoRepeat (map option_of (s ∷ ss)) → AreNew got (s ∷ ss)
    → AreNew (with_got got (option_of s) (value_text s)) ss
still_new got s ss once new o i = go (bytes_eq (id_of (option_of s)) (id_of o)) refl
  where
    go : (b : Bool) → bytes_eq (id_of (option_of s)) (id_of o) ≡ b → (if b then Some (value_text s) else got o) ≡ None
    go true e = absurd (once.0 (subst (λ p. IsIn p (map option_of ss)) (sym (same_option (option_of s) o e)) i))
    go false e = new o (inr i)

walk_settings : (ss : List Setting) (h : Held) (got : Got) → Standing h got → AllByRecursion IsSetting ss → NoRepeat (map option_of ss) → AreNew got ss
    → Walked (walk_from h) (flat_map setting_words ss) (got_after got ss)
unfolding walk_fault got_after
walk_settings [] h got s each once new = record { passes = refl; last = h; leads = refl; stands = s }
walk_settings (TilesOf c r ∷ ss) h got s each once new =
    walk_value tiles_has_value h (value_text (TilesOf c r)) (more_is_plain (decimal c) (codes "x" ++ decimal r) (number_is_plain c each.0.0)) s (new Tiles (inl refl))
    (λ next k. walk_settings ss next _ k each.1 once.1 (still_new got (TilesOf c r) ss once new))
walk_settings (DepthOf d ∷ ss) h got s each once new =
    walk_value depth_has_value h (decimal d) (number_is_plain d each.0) s (new Depth (inl refl))
    (λ next k. walk_settings ss next _ k each.1 once.1 (still_new got (DepthOf d) ss once new))
walk_settings (WithOrder ∷ ss) h got s each once new =
    walk_flag h s (new Order (inl refl)) (λ next k. walk_settings ss next _ k each.1 once.1 (still_new got WithOrder ss once new))
walk_settings (SeedOf n ∷ ss) h got s each once new =
    walk_value seed_has_value h (decimal n) (number_is_plain n each.0) s (new Seed (inl refl))
    (λ next k. walk_settings ss next _ k each.1 once.1 (still_new got (SeedOf n) ss once new))
walk_settings (SizeOf n ∷ ss) h got s each once new =
    walk_value size_has_value h (decimal n) (number_is_plain n each.0) s (new Size (inl refl))
    (λ next k. walk_settings ss next _ k each.1 once.1 (still_new got (SizeOf n) ss once new))

-- ---- what was read in the end

abbrev or_later : Option Text → Option Text → Option Text
or_later (Some t) later = Some t
or_later None later = later

got_told : (o : OptionName) (got : Got) (ss : List Setting) → NoRepeat (map option_of ss) → AreNew got ss → got_after got ss o ≡ or_later (got o) (text_in o ss)
unfolding got_after
got_told o got [] once new = none (got o)
  where
    none : (t : Option Text) → t ≡ or_later t None
    none None = refl
    none (Some t) = refl
got_told o got (s ∷ ss) once new =
    got_told o (with_got got (option_of s) (value_text s)) ss once.1 (still_new got s ss once new) ∙ go (bytes_eq (id_of (option_of s)) (id_of o)) refl
  where
    go : (b : Bool) → bytes_eq (id_of (option_of s)) (id_of o) ≡ b
        → or_later (if b then Some (value_text s) else got o) (text_in o ss) ≡ or_later (got o) (if b then Some (value_text s) else text_in o ss)
    go true e = let n : got o ≡ None = new o (inl (same_option (option_of s) o e)) in rw n refl
    go false e = refl

-- ---- defaults

ordered : (ss : List Setting) → text_in Order ss ≡ (if order_in ss then Some (codes "true") else None)
ordered [] = refl
ordered (TilesOf c r ∷ ss) = ordered ss
ordered (DepthOf d ∷ ss) = ordered ss
ordered (WithOrder ∷ ss) = refl
ordered (SeedOf n ∷ ss) = ordered ss
ordered (SizeOf n ∷ ss) = ordered ss

abbrev flag : Rule
flag = with_index 1 (filled (rule_for Order))

option_default : (name : Text) (rows : List Row) → with_default rows (with_index 1 (filled (option_rule name))) ≡ rows
option_default name rows = if_same (has_row name rows) rows

only_flag : (rows : List Row) → fold with_default rows rules ≡ with_default rows flag
only_flag rows =
    rw (option_default (codes "tiles") rows, option_default (codes "depth") rows, option_default (codes "seed") rows, option_default (codes "size") rows) refl

option_passes : (name : Text) (rows : List Row) → default_fault rows (with_index 1 (filled (option_rule name))) ≡ []
option_passes name rows = go (has_row name rows) _
  where
    go : (b : Bool) (ks : Kinds) → (if b || true then [] else ks) ≡ []
    go true ks = refl
    go false ks = refl

skip_option : (name : Text) (rows : List Row) (rest : List Rule) → defaults_fault rows (with_index 1 (filled (option_rule name)) ∷ rest) ≡ defaults_fault rows rest
unfolding defaults_fault
skip_option name rows rest = rw (option_passes name rows, option_default name rows) refl

flag_passes : (rows : List Row) → defaults_fault rows (flag ∷ []) ≡ []
unfolding clap_on_literals
flag_passes rows = go (has_row (codes "order") rows)
  where
    go : (b : Bool) → or_else (if b || false then [] else []) [] ≡ []
    go true = refl
    go false = refl

no_default_fault : (rows : List Row) → defaults_fault rows rules ≡ []
no_default_fault rows =
    skip_option (codes "tiles") rows _ ∙ (skip_option (codes "depth") rows _ ∙ (skip_option (codes "seed") rows _ ∙ (skip_option (codes "size") rows _ ∙ flag_passes rows)))

-- the flag's text in the end
abbrev IsRow : Text → Rule → List Row → Option Text → Type 0
IsRow id a rows t = row_in id rows ≡ option_map (new_row CommandLine a) t

flag_added : (rows : List Row) → has_row (codes "order") rows ≡ false → with_default rows flag ≡ rows ++ new_row DefaultValue flag (codes "false") ∷ []
flag_added rows n = rw n (fresh (codes "order") (more_values DefaultValue (codes "false" ∷ [])) (new_row DefaultValue flag (codes "false") ∷ []) rows n)

flag_text : (rows : List Row) (t : Option Text) → has_row (codes "order") rows ≡ is_some t → IsRow (codes "order") (filled (rule_for Order)) rows t
    → one_of (codes "order") (with_default rows flag) ≡ Some (unwrap_or t (codes "false"))
flag_text rows (Some v) has row = rw (has, row) refl
flag_text rows None has row =
    rw (flag_added rows has, row_own (codes "order") rows (new_row DefaultValue flag (codes "false")) refl has) refl

option_text : (id : Text) (a : Rule) (rows : List Row) (t : Option Text) → bytes_eq (codes "order") id ≡ false → IsRow id a rows t
    → first_of id (with_default rows flag) ≡ t
option_text id a rows t other row = go (has_row (codes "order") rows) refl
  where
    first : (t : Option Text) → option_and_then (λ r. slice_get r.values 0) (option_map (new_row CommandLine a) t) ≡ t
    first None = refl
    first (Some v) = refl

    go : (b : Bool) → has_row (codes "order") rows ≡ b → first_of id (with_default rows flag) ≡ t
    go true has = rw (has, row) (first t)
    go false has = rw (flag_added rows has, row_other id rows (new_row DefaultValue flag (codes "false")) other, row) (first t)

-- ---- the line

pub record Taken (words : List Text) (ss : List Setting) : Type 0 where
  pub faultless : fault_of line_app words ≡ []
  pub tiles : first_of (codes "tiles") (matches_of line_app words) ≡ text_in Tiles ss
  pub depth : first_of (codes "depth") (matches_of line_app words) ≡ text_in Depth ss
  pub seed : first_of (codes "seed") (matches_of line_app words) ≡ text_in Seed ss
  pub size : first_of (codes "size") (matches_of line_app words) ≡ text_in Size ss
  pub order : one_of (codes "order") (matches_of line_app words) ≡ Some (if order_in ss then codes "true" else codes "false")

flag_word : (b : Bool) → unwrap_or (if b then Some (codes "true") else None) (codes "false") ≡ (if b then codes "true" else codes "false")
flag_word true = refl
flag_word false = refl

words_taken : (ss : List Setting) → AllByRecursion IsSetting ss → NoRepeat (map option_of ss) → Taken (flat_map setting_words ss) ss
words_taken ss each once =
    let got : Got = λ o. None in
    let new : AreNew got ss = λ o i. refl in
    let k : Walked (walk_from nothing_held) (flat_map setting_words ss) (got_after got ss) = walk_settings ss nothing_held got nothing_stands each once new in
    let rows : List Row = (settled rules k.last).rows in
    record {
      faultless = rw (k.passes) (rw (k.leads) (rw (k.stands.clean, no_default_fault rows) refl));
      tiles = text Tiles k refl (got_told Tiles got ss once new);
      depth = text Depth k refl (got_told Depth got ss once new);
      seed = text Seed k refl (got_told Seed got ss once new);
      size = text Size k refl (got_told Size got ss once new);
      order = rw (k.leads) (ap (one_of (codes "order")) (only_flag rows)
          ∙ (flag_text rows (got_after got ss Order) (k.stands.has Order) (k.stands.row Order)
          ∙ ap Some (ap (λ t. unwrap_or t (codes "false")) (got_told Order got ss once new ∙ ordered ss) ∙ flag_word (order_in ss))));
    }
  where
    text : (o : OptionName) (k : Walked (walk_from nothing_held) (flat_map setting_words ss) (got_after (λ p. None) ss)) → bytes_eq (codes "order") (id_of o) ≡ false
        → got_after (λ p. None) ss o ≡ text_in o ss → first_of (id_of o) (matches_of line_app (flat_map setting_words ss)) ≡ text_in o ss
    text o k other told =
        rw (k.leads) (ap (first_of (id_of o)) (only_flag (settled rules k.last).rows)
        ∙ (option_text (id_of o) (filled (rule_for o)) (settled rules k.last).rows (got_after (λ p. None) ss o) other (k.stands.row o) ∙ told))

pub taken : {words : List Text} {ss : List Setting} → AreSettings words ss → Taken words ss
taken {words} {ss} s = subst (λ ws. Taken ws ss) (sym s.parts) (words_taken ss s.each s.once)

pub only_memory : {words : List Text} {ss : List Setting} (e : Error) → AreSettings words ss → HasKind (fault_of line_app words) e → kind_of e ≡ OutOfMemory
only_memory e s h = elim (subst (λ ks. HasKind ks e) (taken s).faultless h) [ inl m ↦ m | inr n ↦ absurd n ]
