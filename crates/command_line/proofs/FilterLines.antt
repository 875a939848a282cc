-- The filters that a line begins with, one after another.
use Rattle.std.proofs.Common.{◌≡◌, ◌≢◌, ◌∙◌, sym, ap, ap₂, subst, refl, arith, ℕ, ◌+◌, ◌-◌, ◌<◌, ◌≤◌, List, [], ◌∷◌, ◌++◌, inl, inr, length, map}
use Rattle.std.specs.Prelude.{◌^◌}
use Rattle.std.proofs.lemmas.List.{append_assoc, append-nil, map-append, length-append, length-map}
use Rattle.std.proofs.lemmas.Grind.{flat_map-append}
use Rattle.std.proofs.lemmas.Bool.{cases_eq}
use Rattle.std.specs.List.{flat_map, AllByRecursion}
use Rattle.spu_chain.specs.declared.rule.SpuRule.{SpuRule}
use Rattle.command_line.specs.Filters.{Filter, due_words, filter_words, IsFilter, BeginsFilter, LeadsWith, NamesChain, LacksWords, HasTooMany, NamesNone, rule_of}
use Rattle.command_line.specs.Filters.Filter.{Count}
use Rattle.spu_chain.specs.Filter.{HasByteTint, HasRoom, HaveRoom}
use Rattle.command_line.proofs.FilterWords.{same_filter}

-- ---- lists of filters

pub each_push : (fs : List Filter) (f : Filter) → AllByRecursion IsFilter fs → IsFilter f → AllByRecursion IsFilter (fs ++ f ∷ [])
each_push [] f h one = (one, tt)
each_push (g ∷ fs) f h one = (h.0, each_push fs f h.1 one)

each_behind : (fs gs : List Filter) → AllByRecursion IsFilter (fs ++ gs) → AllByRecursion IsFilter gs
each_behind [] gs h = h
each_behind (f ∷ fs) gs h = each_behind fs gs h.1

-- one filter more
pub leads_more : (words rest behind : List (List ℕ)) (fs : List Filter) (f : Filter) → LeadsWith words fs rest → IsFilter f → rest ≡ filter_words f ++ behind
    → LeadsWith words (fs ++ f ∷ []) behind
leads_more words rest behind fs f l fits e = record {
  parts =
      l.parts ∙ ap (λ xs. flat_map filter_words fs ++ xs) e ∙ sym (append_assoc (flat_map filter_words fs) (filter_words f) behind)
      ∙ ap (λ xs. (flat_map filter_words fs ++ xs) ++ behind) (sym (append-nil (filter_words f)))
      ∙ ap (λ xs. xs ++ behind) (sym (flat_map-append filter_words fs (f ∷ [])));
  each = each_push fs f l.each fits;
}

-- ---- one reading

-- where no filter follows the first filters, the others are their front
pub front_of : (fs gs : List Filter) (rest more : List (List ℕ)) → AllByRecursion IsFilter fs → AllByRecursion IsFilter gs → (BeginsFilter rest → ⊥)
    → flat_map filter_words fs ++ rest ≡ flat_map filter_words gs ++ more → (hs : List Filter) × (fs ≡ gs ++ hs) × (more ≡ flat_map filter_words hs ++ rest)
front_of fs [] rest more hf hg ends e = (fs, refl, sym e)
front_of [] (g ∷ gs) rest more hf hg ends e =
    absurd (ends (g, due_words g ++ (flat_map filter_words gs ++ more), e ∙ append_assoc (filter_words g) (flat_map filter_words gs) more))
front_of (f ∷ fs) (g ∷ gs) rest more hf hg ends e =
    let parts : filter_words f ++ (flat_map filter_words fs ++ rest) ≡ filter_words g ++ (flat_map filter_words gs ++ more) =
    sym (append_assoc (filter_words f) (flat_map filter_words fs) rest) ∙ e ∙ append_assoc (filter_words g) (flat_map filter_words gs) more in
    let same = same_filter f g _ _ hf.0 hg.0 parts in
    let later = front_of fs gs rest more hf.1 hg.1 ends same.1 in
    (later.0, ap₂ (λ (h : Filter) (hs : List Filter). h ∷ hs) same.0 later.1, later.2)

-- ---- chains and none

module _ (words : List (List ℕ)) (rules : List SpuRule) (count : ℕ) (chain : NamesChain words rules count) where
  filled : (l : LacksWords words) (hs : List Filter) → chain.filters ≡ l.filters ++ hs → l.rest ≡ flat_map filter_words hs ++ chain.rest → ⊥
  filled l [] same e = chain.ends (subst BeginsFilter e l.begins)
  filled l (h ∷ hs) same e =
      l.lacks h (flat_map filter_words hs ++ chain.rest)
      (each_behind l.filters (h ∷ hs) (subst (AllByRecursion IsFilter) same chain.leads.each)).0
      (e ∙ append_assoc (filter_words h) (flat_map filter_words hs) chain.rest)

  pub chain_is_none : NamesNone words → ⊥
  chain_is_none none = elim none [
    | inl l ↦
        let k = front_of chain.filters l.filters chain.rest l.rest chain.leads.each l.leads.each chain.ends (sym chain.leads.parts ∙ l.leads.parts) in
        filled l k.0 k.1 k.2
    | inr m ↦
        let k = front_of chain.filters m.filters chain.rest m.rest chain.leads.each m.leads.each chain.ends (sym chain.leads.parts ∙ m.leads.parts) in
        let size : length chain.filters ≡ length m.filters + length k.0 = ap length k.1 ∙ length-append m.filters k.0 in
        let most = chain.most in
        let many = m.many in
        absurd (omega arith)
  ]

  module _ (others : List SpuRule) (other : ℕ) (second : NamesChain words others other) where
    no_more : (hs : List Filter) → second.rest ≡ flat_map filter_words hs ++ chain.rest → hs ≡ []
    no_more [] e = refl
    no_more (h ∷ hs) e =
        absurd (second.ends (h, due_words h ++ (flat_map filter_words hs ++ chain.rest), e ∙ append_assoc (filter_words h) (flat_map filter_words hs) chain.rest))

    same_filters : chain.filters ≡ second.filters
    same_filters =
        let k = front_of chain.filters second.filters chain.rest second.rest chain.leads.each second.leads.each chain.ends (sym chain.leads.parts ∙ second.leads.parts) in
        k.1 ∙ ap (λ hs. second.filters ++ hs) (no_more k.0 k.2) ∙ append-nil second.filters

    pub one_chain : (rules ≡ others) × (count ≡ other)
    one_chain = (
      chain.rules_are ∙ ap (map rule_of) same_filters ∙ sym second.rules_are,
      chain.count_is ∙ ap (λ fs. length (flat_map filter_words fs)) same_filters ∙ sym second.count_is,
    )

-- ---- the rules that words name

named_tints : (fs : List Filter) → AllByRecursion IsFilter fs → AllByRecursion HasByteTint (map rule_of fs)
named_tints [] h = tt
named_tints (f ∷ fs) h = (h.0, named_tints fs h.1)

rule_room : (f : Filter) (n : ℕ) → n ≤ 2 ^ 63 → HasRoom n (rule_of f)
rule_room Count n le = omega (arith, le)
rule_room f n le = tt

named_room : (fs : List Filter) (n : ℕ) → n ≤ 2 ^ 63 → HaveRoom n (map rule_of fs)
named_room [] n le = tt
named_room (f ∷ fs) n le = (rule_room f n le, named_room fs n le)

module _ (words : List (List ℕ)) (rules : List SpuRule) (count : ℕ) (chain : NamesChain words rules count) where
  pub chain_tints : AllByRecursion HasByteTint rules
  chain_tints = subst (AllByRecursion HasByteTint) (sym chain.rules_are) (named_tints chain.filters chain.leads.each)

  pub chain_room : (n : ℕ) → n ≤ 2 ^ 63 → HaveRoom n rules
  chain_room n le = subst (HaveRoom n) (sym chain.rules_are) (named_room chain.filters n le)

pub empty_chain : (words : List (List ℕ)) → (BeginsFilter words → ⊥) → NamesChain words [] 0
empty_chain words ends = record {
  filters = [];
  rest = words;
  leads = record { parts = refl; each = tt };
  most = omega arith;
  ends = ends;
  rules_are = refl;
  count_is = refl;
}

-- ---- what was read so far

less_from_ne : {m : ℕ} → m ≤ 16 → (m ≡ 16 → ⊥) → m + 1 ≤ 16
less_from_ne {m} le other = elim (cases_eq m 16) [ inl same ↦ absurd (other same) | inr _ ↦ omega arith ]

pub record HasRead (words rest : List (List ℕ)) (rules : List SpuRule) : Type 0 where
  pub filters : List Filter
  pub leads : LeadsWith words filters rest
  pub most : length filters ≤ 16
  pub rules_are : rules ≡ map rule_of filters

pub nothing_read : (words : List (List ℕ)) → HasRead words words []
nothing_read words = record { filters = []; leads = record { parts = refl; each = tt }; most = omega arith; rules_are = refl }

module _ (words rest : List (List ℕ)) (rules : List SpuRule) (read : HasRead words rest rules) where
  count_of : length rules ≡ length read.filters
  count_of = ap length read.rules_are ∙ length-map read.filters rule_of

  module _ (f : Filter) (fits : IsFilter f) (behind : List (List ℕ)) (parts : rest ≡ filter_words f ++ behind) where
    pub read_more : (r : SpuRule) → r ≡ rule_of f → length rules ≢ 16 → HasRead words behind (rules ++ r ∷ [])
    read_more r is ne = record {
      filters = read.filters ++ f ∷ [];
      leads = leads_more words rest behind read.filters f read.leads fits parts;
      most = rw (length-append read.filters (f ∷ [])) (below read.most ne count_of);
      rules_are = ap₂ (λ xs x. xs ++ x ∷ []) read.rules_are is ∙ sym (map-append rule_of read.filters (f ∷ []));
    }
      where
        below : {m n : ℕ} → m ≤ 16 → n ≢ 16 → n ≡ m → m + 1 ≤ 16
        below {m} {n} le other same = less_from_ne le (λ e. other (same ∙ e))

    pub too_many : length rules ≡ 16 → HasTooMany words
    too_many full = record {
      filters = read.filters ++ f ∷ [];
      rest = behind;
      leads = leads_more words rest behind read.filters f read.leads fits parts;
      many = rw (length-append read.filters (f ∷ [])) (let k = count_of in omega arith);
    }

  pub lacking : BeginsFilter rest → ((f : Filter) (more : List (List ℕ)) → IsFilter f → rest ≡ filter_words f ++ more → ⊥) → LacksWords words
  lacking begins lacks = record { filters = read.filters; rest = rest; leads = read.leads; begins = begins; lacks = lacks }

  -- where a filter's word comes next, the words begin with one
  pub begins_before : BeginsFilter rest → BeginsFilter words
  begins_before begins = go read.filters read.leads.parts where
    go : (fs : List Filter) → words ≡ flat_map filter_words fs ++ rest → BeginsFilter words
    go [] e = subst BeginsFilter (sym e) begins
    go (f ∷ fs) e = (f, due_words f ++ (flat_map filter_words fs ++ rest), e ∙ append_assoc (filter_words f) (flat_map filter_words fs) rest)

  pub chain_read : (BeginsFilter rest → ⊥) → NamesChain words rules (length words - length rest)
  chain_read ends = record {
    filters = read.filters;
    rest = rest;
    leads = read.leads;
    most = read.most;
    ends = ends;
    rules_are = read.rules_are;
    count_is = let size = ap length read.leads.parts ∙ length-append (flat_map filter_words read.filters) rest in omega arith;
  }

-- the words behind a filter are fewer
pub fewer : {A : Type 0} (g : A → List ℕ) (words behind : List A) (f : Filter) → map g words ≡ filter_words f ++ map g behind → length behind < length words
fewer g words behind f e =
    let size : length words ≡ length (filter_words f) + length behind =
    sym (length-map words g) ∙ ap length e ∙ length-append (filter_words f) (map g behind) ∙ ap (λ n. length (filter_words f) + n) (length-map behind g) in
    let some : 1 ≤ length (filter_words f) = omega arith in
    omega arith
