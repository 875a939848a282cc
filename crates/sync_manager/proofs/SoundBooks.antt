-- A book stays sound: whoever waits is a client, at something that is declared, and has room for its entry.
use Rattle.std.proofs.Common.{◌≡◌, ℕ, zero, suc, ◌+◌, ◌<◌, ◌≤◌, ◌==◌, Bool, true, false, cond, List, length, set, replicate, le-leb, leb-true, nat_le, slice_index_or, Option, Some, None, inl, inr, refl, sym, ap, ◌∙◌, subst, arith, eqb-true, eq-eqb, lt-ltb, true≢false, get_or-set_same, get_or-set_other}
use Rattle.std.proofs.lemmas.Bool.{cases_Bool, cases_lt, eqb-false}
use Rattle.std.specs.Prelude.{is_some, option_map}
use Rattle.rc_base.specs.Lists.{at_name}
use Rattle.rc_base.specs.Orders.Journal.{how_many, has, is_member, op_of}
use Rattle.rc_base.specs.Orders.Sync.{client_count}
use Rattle.rc_base.specs.declared.sync.Entry.{Entry}
use Rattle.rc_base.specs.declared.sync.Entry.TheVariants.{Meet, Swap, Give, Take}
use Rattle.rc_base.specs.declared.sync.SyncOp.{SyncOp}
use Rattle.rc_base.specs.declared.sync.WaitAt.{WaitAt}
use Rattle.scene_lemmas.proofs.Numbered.{how_many_at_most}
use Rattle.sync_manager.specs.Stored.{wait_at, is_name, is_named, grant_at, IsUnitThere, IsSoundBook}
use Rattle.plain_lemmas.proofs.Lists.{is_some_within}
use Rattle.sync_manager.proofs.FirstEntries.{IsFirst, first_is}
use Rattle.std.proofs.lemmas.Option.{slice_get_past}
use Rattle.std.proofs.Math.ListN.{length-set}

-- ---- how many pass a test

fewer : (p q : ℕ → Bool) (n : ℕ) → ((c : ℕ) → q c ≡ true → p c ≡ true) → how_many q n ≤ how_many p n
fewer p q zero h = omega arith
fewer p q (suc n) h = elim (cases_Bool (q n)) [
  | inl t ↦ rw (t, h n t) (omega (arith, fewer p q n h))
  | inr f ↦ rw f (omega (arith, fewer p q n h))
]

one_fewer : (p q : ℕ → Bool) (n c : ℕ) → ((d : ℕ) → q d ≡ true → p d ≡ true) → c < n → p c ≡ true → q c ≡ false → how_many q n + 1 ≤ how_many p n
one_fewer p q zero c h low here gone = absurd (omega arith)
one_fewer p q (suc n) c h low here gone = elim (cases_lt c n) [
  | inl less ↦ elim (cases_Bool (q n)) [
    | inl t ↦ rw (t, h n t) (omega (arith, one_fewer p q n c h less here gone))
    | inr f ↦ rw f (omega (arith, one_fewer p q n c h less here gone))
  ]
  | inr more ↦
      let e : c ≡ n = omega arith in
      rw (subst (λ d. p d ≡ true) e here, subst (λ d. q d ≡ false) e gone) (omega (arith, fewer p q n h))
]

some_member : (passes : ℕ → Bool) (n : ℕ) → 0 < how_many passes n → (c : ℕ) × (c < n) × (passes c ≡ true)
some_member passes zero h = absurd (omega arith)
some_member passes (suc n) h = elim (cases_Bool (passes n)) [
  | inl t ↦ (n, omega arith, t)
  | inr f ↦
      let h' : 0 < how_many passes n + 0 = rw f at h in
      let r = some_member passes n (omega arith) in (r.0, omega (arith, r.1), r.2)
]

-- ---- who waits

waits_at : (o : Option WaitAt) (op : SyncOp) → option_map (λ (w : WaitAt). w.op) o ≡ Some op → (w : WaitAt) × (o ≡ Some w) × (w.op ≡ op)
waits_at None op h = absurd cc
waits_at (Some w) op h = (w, refl, cc)

module _ (n : ℕ) (counts units : List ℕ) (waiting : List (Option WaitAt)) (len cap : ℕ) (sound : IsSoundBook n counts units waiting len cap) where
  within : (c : ℕ) (w : WaitAt) → wait_at waiting c ≡ Some w → c < n
  within c w h = elim (cases_lt c n) [ inl lt ↦ lt | inr ge ↦ let none = sound.beyond c ge in absurd cc ]

  module _ (e : Entry) (h : grant_at counts units waiting n ≡ Some e) where
    is_first : IsFirst n counts units waiting e
    is_first = first_is n counts units waiting e h

    -- a member waits
    member : (c : ℕ) → is_member n e c ≡ true → (c < n) × (is_some (wait_at waiting c) ≡ true) × (is_named (length counts) (length units) (op_of e) ≡ true)
    member c i =
        let w = waits_at (wait_at waiting c) (op_of e) (is_first.next c i) in
        (within c w.0 w.1, ap is_some w.1, subst (λ o. is_named (length counts) (length units) o ≡ true) w.2 (sound.named c w.0 w.1))

    later_waits : (later : List (Option WaitAt)) → ((c : ℕ) → wait_at later c ≡ cond (is_member n e c) None (wait_at waiting c))
        → (c : ℕ) (w : WaitAt) → wait_at later c ≡ Some w → wait_at waiting c ≡ Some w
    later_waits later waits c w is = elim (cases_Bool (is_member n e c)) [
      | inl i ↦ let gone : wait_at later c ≡ None = waits c ∙ rw i refl in absurd cc
      | inr f ↦ let same : wait_at later c ≡ wait_at waiting c = waits c ∙ rw f refl in cc
    ]

    some_waits : (later : List (Option WaitAt)) → ((c : ℕ) → wait_at later c ≡ cond (is_member n e c) None (wait_at waiting c))
        → (c : ℕ) → is_some (wait_at later c) ≡ true → is_some (wait_at waiting c) ≡ true
    some_waits later waits c is = elim (cases_Bool (is_member n e c)) [
      | inl i ↦ absurd (true≢false (sym is ∙ ap is_some (waits c) ∙ rw i refl))
      | inr f ↦ sym (ap is_some (waits c) ∙ rw f refl) ∙ is
    ]

  -- an entry has a member
  a_member : (e : Entry) → grant_at counts units waiting n ≡ Some e → (c : ℕ) × (is_member n e c ≡ true)
  a_member (Give k d) h = (d, eq-eqb d d refl)
  a_member (Take k d) h = (d, eq-eqb d d refl)
  a_member Swap h = (0, lt-ltb 0 n sound.some)
  a_member (Meet b m) h =
      let f = is_first (Meet b m) h in
      let count : at_name counts b ≡ Some (how_many (has m) n) =
      subst (λ k. at_name counts b ≡ Some (how_many (has m) k)) f.clients (subst (λ xs. at_name xs b ≡ Some (how_many (has m) (client_count f.lists))) f.of_counts f.counted.1) in
      let r = some_member (has m) n (sound.counted b (how_many (has m) n) count) in (r.0, r.2)

  -- and room in the journal
  pub has_room : (e : Entry) → grant_at counts units waiting n ≡ Some e → len < cap
  has_room e h =
      let a = a_member e h in
      let m = member e h a.0 a.1 in
      omega (arith, sound.room, one_fewer (λ c. is_some (wait_at waiting c)) (λ c. false) n a.0 (λ d t. absurd (true≢false (sym t))) m.0 m.1 refl)

  pub unit_there : (e : Entry) → grant_at counts units waiting n ≡ Some e → IsUnitThere units e
  unit_there (Give k d) h = (member (Give k d) h d (eq-eqb d d refl)).2
  unit_there (Take k d) h = (is_first (Take k d) h).counted
  unit_there Swap h = tt
  unit_there (Meet b m) h = tt

  -- it stays sound where an entry is carried out
  pub sound_granted : (e : Entry) (later : List (Option WaitAt)) (moved : List ℕ) → grant_at counts units waiting n ≡ Some e
      → ((c : ℕ) → wait_at later c ≡ cond (is_member n e c) None (wait_at waiting c)) → length later ≡ length waiting → length moved ≡ length units
      → ((k : ℕ) → slice_index_or moved k 0 ≤ slice_index_or units k 0 + 1) → IsSoundBook n counts moved later (len + 1) cap
  sound_granted e later moved h waits kept same grown =
      let a = a_member e h in
      let m = member e h a.0 a.1 in
      record {
        some = sound.some;
        most = sound.most;
        slots = kept ∙ sound.slots;
        names = sound.names;
        counted = sound.counted;
        beyond = λ c le. elim (cases_Bool (is_member n e c)) [ inl i ↦ waits c ∙ rw i refl | inr f ↦ waits c ∙ rw f (sound.beyond c le) ];
        named = λ c w is. subst (λ k. is_named (length counts) k w.op ≡ true) (sym same) (sound.named c w (later_waits e h later waits c w is));
        bounded = λ k. omega (arith, grown k, sound.bounded k);
        room = omega (
          arith,
          sound.room,
          one_fewer (λ c. is_some (wait_at waiting c)) (λ c. is_some (wait_at later c)) n a.0 (some_waits e h later waits) m.0 m.1
              (ap is_some (waits a.0) ∙ rw a.1 refl),
        );
      }

  -- and where an operation arrives
  pub sound_arrived : (client : ℕ) (w : WaitAt) (capacity : ℕ) → client < n → is_named (length counts) (length units) w.op ≡ true → len + 8 ≤ capacity
      → IsSoundBook n counts units (set waiting client (Some w)) len capacity
  sound_arrived client w capacity low named fits = record {
    some = sound.some;
    most = sound.most;
    slots = length-set waiting client (Some w) ∙ sound.slots;
    names = sound.names;
    counted = sound.counted;
    beyond = λ c le. get_or-set_other waiting client c (Some w) None (λ e. omega (arith, le, low, e)) ∙ sound.beyond c le;
    named = λ c v is. elim (cases_Bool (c == client)) [
      | inl t ↦
          let e : c ≡ client = eqb-true c client t in
          let here : Some w ≡ Some v = sym (get_or-set_same waiting client (Some w) None (omega (arith, low, sound.slots, sound.most)))
          ∙ sym (ap (wait_at (set waiting client (Some w))) e) ∙ is in
          let same : w ≡ v = cc in subst (λ (x : WaitAt). is_named (length counts) (length units) x.op ≡ true) same named
      | inr f ↦ sound.named c v (sym (get_or-set_other waiting client c (Some w) None (eqb-false c client f)) ∙ is)
    ];
    bounded = sound.bounded;
    room = omega (arith, fits, sound.most, how_many_at_most (λ c. is_some (wait_at (set waiting client (Some w)) c)) n);
  }

-- ---- a new book

pub nobody_waits : (n c : ℕ) → wait_at (replicate n None) c ≡ None
nobody_waits zero c = refl
nobody_waits (suc n) zero = refl
nobody_waits (suc n) (suc c) = nobody_waits n c

pub sound_new : (n : ℕ) (counts units : List ℕ) (cap : ℕ) → 0 < n → n ≤ 8 → length counts < 256 → ((barrier count : ℕ) → at_name counts barrier ≡ Some count → 0 < count)
    → ((k : ℕ) → slice_index_or units k 0 ≤ 65535) → IsSoundBook n counts units (replicate 8 None) 0 cap
sound_new n counts units cap some most names counted bounded = record {
  some = some;
  most = most;
  slots = refl;
  names = names;
  counted = counted;
  beyond = λ c le. nobody_waits 8 c;
  named = λ c w is. absurd (let none = nobody_waits 8 c in cc);
  bounded = λ k. omega (arith, bounded k);
  room = omega (arith, fewer (λ c. is_some (wait_at (replicate 8 None) c)) (λ c. false) n (λ c t. absurd (true≢false (sym t))), none_pass n);
}
  where
    none_pass : (k : ℕ) → how_many (λ c. is_some (wait_at (replicate 8 None) c)) k ≡ 0
    none_pass zero = refl
    none_pass (suc k) = rw (nobody_waits 8 k) (omega (arith, none_pass k))

-- a name is declared where there is something of that name
pub name_is : {A : Type 0} (xs : List A) (name : ℕ) → is_name (length xs) name ≡ is_some (at_name xs name)
name_is xs zero = refl
name_is xs (suc k) = elim (cases_lt k (length xs)) [
  | inl lt ↦ rw (lt-ltb 0 (suc k) (omega arith), le-leb (suc k) (length xs) (omega arith)) (sym (is_some_within xs k lt))
  | inr ge ↦ elim (cases_Bool (nat_le (suc k) (length xs))) [
    | inl t ↦ absurd (omega (arith, ge, leb-true (suc k) (length xs) t))
    | inr f ↦ rw (lt-ltb 0 (suc k) (omega arith), f) (sym (ap is_some (slice_get_past xs k ge)))
  ]
]
