-- A client has drawn in its frame after one more command; and beyond a stream nothing offends.
use Rattle.std.proofs.Common.{◌≡◌, ℕ, zero, suc, ◌+◌, ◌<◌, ◌≤◌, Bool, true, false, [], ◌∷◌, ◌++◌, length, Some, None, inl, inr, refl, sym, ap, subst, ◌∙◌, arith, eq-eqb}
use Rattle.std.specs.Prelude.{◌==◌, ◌&&◌, ◌||◌, MatchOption}
use Rattle.std.specs.List.{list_any, range_with_len}
use Rattle.std.specs.Option.{option_map_or}
use Rattle.std.specs.declared.option.Option.{Option}
use Rattle.std.proofs.lemmas.Bool.{cases_Bool, cases_lt, ne_eqb, and_right}
use Rattle.std.proofs.lemmas.List.{get_or_past}
use Rattle.std.proofs.lemmas.List.Folds.{list_any-append}
use Rattle.std.proofs.lemmas.Option.{slice_get_past}
use Rattle.rc_base.specs.Contexts.Issue.{context_after, effect_at, effect_of, stream_of}
use Rattle.rc_base.specs.Drawing.Serial.{accepted_swaps, is_swap_effect}
use Rattle.rc_base.specs.declared.command.Command.{Command}
use Rattle.rc_base.specs.declared.scene.Scene.{Scene}
use Rattle.rc_base.specs.declared.state.Effect.{Effect}
use Rattle.rc_base.specs.declared.state.Effect.TheVariants as eff
use Rattle.rc_base.specs.declared.sync.SyncOp.TheVariants as op
use Rattle.rc_base.specs.declared.sync.Name.{Name}
use Rattle.gl_context.specs.Counted.{kind_of}
use Rattle.gl_context.specs.declared.counting.EffectKind.{EffectKind}
use Rattle.stream_replay.proofs.AcceptedSwaps.{swaps_le, swaps_after_other}
use Rattle.plain_lemmas.proofs.Ranges.{any_same_in_range}
use Rattle.sort_last.specs.Offends.{keeps_nearest, is_block, has_drawn, is_offence, offends, IsComposable, IsFirstOffence}
use Rattle.sort_last.specs.Runs.{kind_offends, kind_drawn, place_or, name_or, IsFirstIn, IsFirstBelow, IsFirstOf}
use Rattle.sort_last.proofs.FramesOfClients.{swaps_after_swap}

range_push : (a n : ℕ) → range_with_len a (suc n) ≡ range_with_len a n ++ (a + n) ∷ []
range_push a zero = let e : a ≡ a + 0 = omega arith in ap (λ k. k ∷ []) e
range_push a (suc n) = let e : a + 1 + n ≡ a + suc n = omega arith in ap (λ l. a ∷ l) (range_push (a + 1) n) ∙ ap (λ k. a ∷ (range_with_len (a + 1) n ++ k ∷ [])) e

any_never : (from n : ℕ) → list_any (λ i. false) (range_with_len from n) ≡ false
any_never from zero = refl
any_never from (suc n) = any_never (from + 1) n

pub nothing_drawn : (scene : Scene) (client : ℕ) → has_drawn scene client 0 ≡ false
unfolding has_drawn
nothing_drawn scene client = refl

and_same : (b c : Bool) → c ≡ true → (b && c) ≡ b
and_same true c h = h
and_same false c h = refl

or_both : (d b : Bool) → (d || (b || false)) ≡ (b || d)
or_both true true = refl
or_both true false = refl
or_both false true = refl
or_both false false = refl

after_other : (e : Effect) (d : Bool) → is_swap_effect e ≡ false → (is_block e || d) ≡ kind_drawn (kind_of e) d
after_other eff.Quiet d h = refl
after_other (eff.Refused f) d h = refl
after_other (eff.Block b) d h = refl
after_other (eff.Clear m) d h = refl
after_other (eff.Shared p) d h = refl
after_other (eff.Sync op.Swap) d h = absurd cc
after_other (eff.Sync (op.Barrier b)) d h = refl
after_other (eff.Sync (op.SemP k)) d h = refl
after_other (eff.Sync (op.SemV k)) d h = refl

after_swap : (e : Effect) (d : Bool) → is_swap_effect e ≡ true → false ≡ kind_drawn (kind_of e) d
after_swap (eff.Sync op.Swap) d h = refl
after_swap (eff.Sync (op.Barrier b)) d h = absurd cc
after_swap (eff.Sync (op.SemP k)) d h = absurd cc
after_swap (eff.Sync (op.SemV k)) d h = absurd cc
after_swap e d h = absurd (cc h)

pub drawn_next : (scene : Scene) (c p : ℕ) → has_drawn scene c (p + 1) ≡ kind_drawn (kind_of (effect_at scene c p)) (has_drawn scene c p)
unfolding has_drawn
drawn_next scene c p =
    let e = effect_at scene c p in
    let test = λ (q i : ℕ). is_block (effect_at scene c i) && (accepted_swaps scene c i == accepted_swaps scene c q) in
    let more : p + 1 ≡ suc p = omega arith in
    let last : 0 + p ≡ p = omega arith in
    let split : list_any (test (p + 1)) (range_with_len 0 (p + 1)) ≡ (list_any (test (p + 1)) (range_with_len 0 p) || (test (p + 1) p || false)) =
    ap (λ k. list_any (test (p + 1)) (range_with_len 0 k)) more
    ∙ ap (list_any (test (p + 1))) (range_push 0 p ∙ ap (λ k. range_with_len 0 p ++ k ∷ []) last)
    ∙ list_any-append (test (p + 1)) (range_with_len 0 p) (p ∷ []) in
    elim (cases_Bool (is_swap_effect e)) [
      | inl t ↦
          let up = swaps_after_swap scene c p t in
          let never : (i : ℕ) → i ≤ p → test (p + 1) i ≡ false =
          λ i le. and_right (is_block (effect_at scene c i)) (accepted_swaps scene c i == accepted_swaps scene c (p + 1)) (ne_eqb _ _ (λ same. omega (arith, same, up, swaps_le scene c i p le))) in
          split
          ∙ (λ i. (any_same_in_range (test (p + 1)) (λ k. false) 0 p (λ k low high. never k (omega (arith, high))) ∙ any_never 0 p) i || (never p (omega arith) i || false))
          ∙ after_swap e (list_any (test p) (range_with_len 0 p)) t
      | inr f ↦
          let same = swaps_after_other scene c p f in
          let alike : (i : ℕ) → test (p + 1) i ≡ test p i = λ i. ap (λ k. is_block (effect_at scene c i) && (accepted_swaps scene c i == k)) same in
          split
          ∙ (λ i. any_same_in_range (test (p + 1)) (test p) 0 p (λ k low high. alike k) i || ((alike p ∙ and_same (is_block e) (accepted_swaps scene c p == accepted_swaps scene c p) (eq-eqb _ _ refl)) i || false))
          ∙ or_both (list_any (test p) (range_with_len 0 p)) (is_block e)
          ∙ after_other e (list_any (test p) (range_with_len 0 p)) f
    ]

-- ---- beyond a stream

pub past_stream : (scene : Scene) (client place : ℕ) → length (stream_of scene client) ≤ place → offends scene client place ≡ false
unfolding offends effect_at
past_stream scene client place le =
    let x = context_after scene client place in
    ap (λ (o : Option Command). is_offence (keeps_nearest x.state) client (has_drawn scene client place) (option_map_or (effect_of x) o eff.Quiet)) (slice_get_past (stream_of scene client) place le)

pub past_clients : (scene : Scene) (client place : ℕ) → length scene.streams ≤ client → offends scene client place ≡ false
past_clients scene client place le = past_stream scene client place (omega (arith, ap length (get_or_past scene.streams client [] le)))

-- ---- the first one

none_in : (scene : Scene) (client : ℕ) → ((place : ℕ) → place < length (stream_of scene client) → offends scene client place ≡ false) → (place : ℕ) → offends scene client place ≡ false
none_in scene client h place = elim (cases_lt place (length (stream_of scene client))) [
  | inl lt ↦ h place lt
  | inr ge ↦ past_stream scene client place ge
]

none_offends : (scene : Scene) → ((client place : ℕ) → client < length scene.streams → offends scene client place ≡ false) → IsComposable scene
none_offends scene h client place = elim (cases_lt client (length scene.streams)) [
  | inl lt ↦ h client place lt
  | inr ge ↦ past_clients scene client place ge
]

-- ---- one command

-- the kind of an effect tells whether its command offends
of_kind : (keeps : Bool) (client : ℕ) (drawn : Bool) (e : Effect) → is_offence keeps client drawn e ≡ kind_offends keeps client drawn (kind_of e)
of_kind keeps client drawn eff.Quiet = refl
of_kind keeps client drawn (eff.Refused fault) = refl
of_kind keeps client drawn (eff.Block block) = refl
of_kind keeps client drawn (eff.Clear mask) = refl
of_kind keeps client drawn (eff.Shared part) = refl
of_kind keeps client drawn (eff.Sync o) = refl

pub offence_is : (scene : Scene) (client place : ℕ) (keeps drawn r : Bool) (k : EffectKind) → keeps ≡ keeps_nearest (context_after scene client place).state
    → drawn ≡ has_drawn scene client place → k ≡ kind_of (effect_at scene client place) → r ≡ kind_offends keeps client drawn k → offends scene client place ≡ r
unfolding offends
offence_is scene client place keeps drawn r k a b c is =
    of_kind (keeps_nearest (context_after scene client place).state) client (has_drawn scene client place) (effect_at scene client place)
    ∙ (λ i. kind_offends (sym a i) client (sym b i) (sym c i)) ∙ sym is

pub drawn_is : (scene : Scene) (client place : ℕ) (drawn r : Bool) (k : EffectKind) → drawn ≡ has_drawn scene client place → k ≡ kind_of (effect_at scene client place)
    → r ≡ kind_drawn k drawn → r ≡ has_drawn scene client (place + 1)
drawn_is scene client place drawn r k b c is = is ∙ (λ i. kind_drawn (c i) (b i)) ∙ sym (drawn_next scene client place)

none_more : (scene : Scene) (client place : ℕ) → ((q : ℕ) → q < place → offends scene client q ≡ false) → offends scene client place ≡ false
    → (q : ℕ) → q < place + 1 → offends scene client q ≡ false
none_more scene client place before here q lt = elim (cases_lt q place) [
  | inl less ↦ before q less
  | inr ge ↦ let same : place ≡ q = omega (arith, lt, ge) in subst (λ k. offends scene client k ≡ false) same here
]

more : (scene : Scene) (client place : ℕ) (found : Option ℕ) (o : Bool) → IsFirstBelow scene client place found → offends scene client place ≡ o
    → IsFirstBelow scene client (place + 1) (place_or found place o)
more scene client place (Some p) o before here = before
more scene client place None true before here = (here, before)
more scene client place None false before here = none_more scene client place before here

pub place_more : (scene : Scene) (client place : ℕ) (found r : Option ℕ) (o : Bool) → IsFirstBelow scene client place found → offends scene client place ≡ o
    → r ≡ place_or found place o → IsFirstBelow scene client (place + 1) r
place_more scene client place found r o before here is =
    subst (λ (f : Option ℕ). IsFirstBelow scene client (place + 1) f) (sym is) (more scene client place found o before here)

pub first_is : (scene : Scene) (client : ℕ) (found : Option ℕ) → IsFirstBelow scene client (length (stream_of scene client)) found → IsFirstIn scene client found
first_is scene client None below = none_in scene client below
first_is scene client (Some p) below = below

-- ---- one client

clients_more : (scene : Scene) (c : ℕ) → ((client place : ℕ) → client < c → offends scene client place ≡ false) → ((place : ℕ) → offends scene c place ≡ false)
    → (client place : ℕ) → client < c + 1 → offends scene client place ≡ false
clients_more scene c before here client place lt = elim (cases_lt client c) [
  | inl less ↦ before client place less
  | inr ge ↦ let same : c ≡ client = omega (arith, lt, ge) in subst (λ k. offends scene k place ≡ false) same (here place)
]

one_more : (scene : Scene) (n : ℕ) (found : Option Name) (first : Option ℕ) → IsFirstOf scene n found → IsFirstIn scene n first → IsFirstOf scene (n + 1) (name_or found n first)
one_more scene n (Some name) first before here = before
one_more scene n None None before here = clients_more scene n before here
one_more scene n None (Some p) before here = record { is = here.0; clients = before; places = here.1 }

pub name_more : (scene : Scene) (n : ℕ) (found r : Option Name) (first : Option ℕ) → IsFirstOf scene n found → IsFirstIn scene n first → r ≡ name_or found n first
    → IsFirstOf scene (n + 1) r
name_more scene n found r first before here is = subst (λ (f : Option Name). IsFirstOf scene (n + 1) f) (sym is) (one_more scene n found first before here)

pub offence_is_first : (scene : Scene) (found : Option Name) → IsFirstOf scene (length scene.streams) found
    → MatchOption found (IsComposable scene) (λ n. IsFirstOffence scene n)
offence_is_first scene None all = none_offends scene all
offence_is_first scene (Some name) all = all
