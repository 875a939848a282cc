-- What a step makes of a tile's counts.
use Rattle.std.proofs.Common.{◌≡◌, ℕ, ◌+◌, ◌==◌, ◌||◌, ◌&&◌, ◌<◌, ◌≤◌, not, Bool, true, false, cond, List, [], ◌∷◌, ◌++◌, take, length, inl, inr, refl, sym, ap, ◌∙◌, subst, arith, append-nil, length-append, eqb-true, eq-eqb, true≢false}
use Rattle.std.proofs.lemmas.Bool.{cases_Bool, and_parts}
use Rattle.std.proofs.lemmas.Option.{slice_get_within}
use Rattle.std.specs.List.{list_any}
use Rattle.std.specs.Prelude.{option_to_list}
use Rattle.rc_base.specs.Cluster.Parcels.{is_end}
use Rattle.std.proofs.Math.Bool.{or-true, or-false}
use Rattle.rc_base.specs.Orders.Journal.{is_member}
use Rattle.rc_base.specs.declared.state.Act.{Act}
use Rattle.rc_base.specs.declared.state.Act.TheVariants as act
use Rattle.rc_base.specs.declared.state.Parcel.{Parcel}
use Rattle.rc_base.specs.declared.sync.Entry.{Entry}
use Rattle.rc_base.specs.declared.sync.Grant.{Grant}
use Rattle.order_model.specs.Standing.{Progress, performed_in, is_over, is_asked}
use Rattle.order_model.specs.declared.record.LogEntry.TheVariants.{Took, Performed}
use Rattle.tile_model.specs.Items.{Item, after_act, after_item, grant_taken, grants_heard, parcel_taken, IsAwaited}
use Rattle.tile_model.specs.Items.Item.{Nothing, Due, Granted, NoMore, Sent}
use Rattle.tile_model.specs.Short.{after_lost}
use Rattle.order_model.proofs.JournalsInTurn.{performed_more}
use Rattle.plain_lemmas.proofs.Numbers.{equal_to_itself}
use Rattle.world_model.specs.Flowing.{wait_by, waits, uses, is_end_parcel, is_no_more, IsTileFlowing}
use Rattle.world_model.specs.Tiles.{Tile}
use Rattle.tile_model.proofs.ItemsComeFromLanes.{listens, learnt_same, heard_after}
use Rattle.world_model.proofs.OrderlySequences.{waits_append, any_append}
use Rattle.world_model.proofs.UsedOperations.{uses_next}

-- ---- what is taken

module _ (took : ℕ → List Parcel) where
  abbrev now : Item → ℕ → List Parcel
  now item c = took c ++ option_to_list (parcel_taken item c)

  -- of the client that sent the parcel, and of another
  now_here : (client : ℕ) (x : Parcel) → now (Sent client x) client ≡ took client ++ x ∷ []
  now_here client x = rw (equal_to_itself client) refl

  now_off : (client c : ℕ) (x : Parcel) → (c == client) ≡ false → now (Sent client x) c ≡ took c
  now_off client c x g = rw g (append-nil (took c))

  ends_here : (client : ℕ) (x : Parcel) → list_any is_end_parcel (now (Sent client x) client) ≡ (list_any is_end_parcel (took client) || is_end x.act)
  ends_here client x = ap (list_any is_end_parcel) (now_here client x) ∙ any_append is_end_parcel (took client) (x ∷ [])
      ∙ ap (λ b. list_any is_end_parcel (took client) || b) (or-false (is_end x.act))

  -- ---- clients that are closed

  -- where the parcel closes its client exactly as its End
  closed_by : (p q : Progress) (client : ℕ) (x : Parcel) (c : ℕ) → p.closed c ≡ list_any is_end_parcel (took c)
      → (is_end x.act ≡ true → q.closed ≡ (λ k. cond (k == client) true (p.closed k))) → (is_end x.act ≡ false → q.closed ≡ p.closed)
      → q.closed c ≡ list_any is_end_parcel (now (Sent client x) c)
  closed_by p q client x c h ends not_ends = elim (cases_Bool (c == client)) [
    | inr g ↦ off_it g ∙ ap (λ (ps : List Parcel). list_any is_end_parcel ps) (sym (now_off client c x g))
    | inl t ↦
        let same : c ≡ client = eqb-true c client t in
        subst (λ k. q.closed k ≡ list_any is_end_parcel (now (Sent client x) k)) (sym same) (here (subst (λ k. p.closed k ≡ list_any is_end_parcel (took k)) same h))
  ]
    where
      off_it : (c == client) ≡ false → q.closed c ≡ list_any is_end_parcel (took c)
      off_it g = elim (cases_Bool (is_end x.act)) [
        | inl y ↦ ap (λ (f : ℕ → Bool). f c) (ends y) ∙ rw g h
        | inr n ↦ ap (λ (f : ℕ → Bool). f c) (not_ends n) ∙ h
      ]

      closes : cond (client == client) true (p.closed client) ≡ true
      closes = rw (equal_to_itself client) refl

      here : p.closed client ≡ list_any is_end_parcel (took client) → q.closed client ≡ list_any is_end_parcel (now (Sent client x) client)
      here k = elim (cases_Bool (is_end x.act)) [
        | inl y ↦ ap (λ (f : ℕ → Bool). f client) (ends y) ∙ closes ∙ (sym (ends_here client x ∙ ap (λ b. list_any is_end_parcel (took client) || b) y ∙ or-true (list_any is_end_parcel (took client))))
        | inr n ↦ ap (λ (f : ℕ → Bool). f client) (not_ends n) ∙ k
            ∙ sym (ends_here client x ∙ ap (λ b. list_any is_end_parcel (took client) || b) n ∙ or-false (list_any is_end_parcel (took client)))
      ]

  act_closes : (p : Progress) (client : ℕ) (a : Act) (place : ℕ) → is_end a ≡ true → (after_act p client a place).closed ≡ (λ k. cond (k == client) true (p.closed k))
  act_closes p client (act.Draw block) place y = absurd (true≢false (sym y))
  act_closes p client (act.Clear mask) place y = absurd (true≢false (sym y))
  act_closes p client (act.Shared part) place y = absurd (true≢false (sym y))
  act_closes p client (act.Sync op) place y = absurd (true≢false (sym y))
  act_closes p client act.End place y = refl

  act_leaves : (p : Progress) (client : ℕ) (a : Act) (place : ℕ) → is_end a ≡ false → (after_act p client a place).closed ≡ p.closed
  act_leaves p client (act.Draw block) place n = elim (cases_Bool (p.held client)) [ inl t ↦ rw t refl | inr f ↦ rw f refl ]
  act_leaves p client (act.Clear mask) place n = elim (cases_Bool (p.held client)) [ inl t ↦ rw t refl | inr f ↦ rw f refl ]
  act_leaves p client (act.Shared part) place n = elim (cases_Bool (p.held client)) [ inl t ↦ rw t refl | inr f ↦ rw f refl ]
  act_leaves p client (act.Sync op) place n = elim (cases_Bool (p.held client)) [ inl t ↦ rw t refl | inr f ↦ rw f refl ]
  act_leaves p client act.End place n = absurd (true≢false n)

  pub closed_after : (p : Progress) (item : Item) (c : ℕ) → p.closed c ≡ list_any is_end_parcel (took c) → (after_item p item).closed c ≡ list_any is_end_parcel (now item c)
  closed_after p Nothing c h = h ∙ ap (list_any is_end_parcel) (sym (append-nil (took c)))
  closed_after p (Due e) c h = h ∙ ap (list_any is_end_parcel) (sym (append-nil (took c)))
  closed_after p (Granted e) c h = h ∙ ap (list_any is_end_parcel) (sym (append-nil (took c)))
  closed_after p NoMore c h = h ∙ ap (list_any is_end_parcel) (sym (append-nil (took c)))
  closed_after p (Sent client x) c h = closed_by p (after_item p (Sent client x)) client x c h (act_closes p client x.act x.place) (act_leaves p client x.act x.place)

  pub closed_lost : (p : Progress) (item : Item) (c : ℕ) → p.closed c ≡ list_any is_end_parcel (took c) → (after_lost p item).closed c ≡ list_any is_end_parcel (now item c)
  closed_lost p Nothing c h = h ∙ ap (list_any is_end_parcel) (sym (append-nil (took c)))
  closed_lost p (Due e) c h = h ∙ ap (list_any is_end_parcel) (sym (append-nil (took c)))
  closed_lost p (Granted e) c h = h ∙ ap (list_any is_end_parcel) (sym (append-nil (took c)))
  closed_lost p NoMore c h = h ∙ ap (list_any is_end_parcel) (sym (append-nil (took c)))
  closed_lost p (Sent client x) c h = closed_by p (after_lost p (Sent client x)) client x c h (λ y. rw y refl) (λ n. rw n refl)

-- ---- that no more comes

module _ (heard : List Grant) where
  abbrev heard_now : Item → List Grant
  heard_now item = heard ++ option_to_list (grant_taken item)

  kept : (b : Bool) → b ≡ list_any is_no_more heard → b ≡ list_any is_no_more (heard ++ [])
  kept b h = h ∙ ap (list_any is_no_more) (sym (append-nil heard))

  one_more : (b : Bool) (g : Grant) → b ≡ list_any is_no_more heard → (b || is_no_more g) ≡ list_any is_no_more (heard ++ g ∷ [])
  one_more b g h = ap (λ x. x || is_no_more g) h ∙ ap (λ x. list_any is_no_more heard || x) (sym (or-false (is_no_more g))) ∙ sym (any_append is_no_more heard (g ∷ []))

  pub no_more_after : (p : Progress) (item : Item) → p.no_more ≡ list_any is_no_more heard → (after_item p item).no_more ≡ list_any is_no_more (heard_now item)
  no_more_after p Nothing h = kept p.no_more h
  no_more_after p (Due e) h = kept p.no_more h
  no_more_after p (Granted e) h = sym (or-false p.no_more) ∙ one_more p.no_more _ h
  no_more_after p NoMore h = sym (or-true p.no_more) ∙ one_more p.no_more _ h
  no_more_after p (Sent client x) h = (learnt_same p client x.act x.place).1 ∙ kept p.no_more h

  pub no_more_lost : (p : Progress) (item : Item) → p.no_more ≡ list_any is_no_more heard → (after_lost p item).no_more ≡ list_any is_no_more (heard_now item)
  no_more_lost p Nothing h = kept p.no_more h
  no_more_lost p (Due e) h = kept p.no_more h
  no_more_lost p (Granted e) h = sym (or-false p.no_more) ∙ one_more p.no_more _ h
  no_more_lost p NoMore h = sym (or-true p.no_more) ∙ one_more p.no_more _ h
  no_more_lost p (Sent client x) h = elim (cases_Bool (is_end x.act)) [ inl y ↦ rw y (kept p.no_more h) | inr n ↦ rw n (kept p.no_more h) ]

-- ---- how many clients

count_after : (p : Progress) (item : Item) → (after_item p item).count ≡ p.count
count_after p Nothing = refl
count_after p (Due e) = refl
count_after p (Granted e) = refl
count_after p NoMore = refl
count_after p (Sent client x) = by x.act x.place
  where
    by : (a : Act) (place : ℕ) → (after_act p client a place).count ≡ p.count
    by (act.Draw block) place = elim (cases_Bool (p.held client)) [ inl t ↦ rw t refl | inr f ↦ rw f refl ]
    by (act.Clear mask) place = elim (cases_Bool (p.held client)) [ inl t ↦ rw t refl | inr f ↦ rw f refl ]
    by (act.Shared part) place = elim (cases_Bool (p.held client)) [ inl t ↦ rw t refl | inr f ↦ rw f refl ]
    by (act.Sync op) place = elim (cases_Bool (p.held client)) [ inl t ↦ rw t refl | inr f ↦ rw f refl ]
    by act.End place = refl

count_lost : (p : Progress) (item : Item) → (after_lost p item).count ≡ p.count
count_lost p Nothing = refl
count_lost p (Due e) = refl
count_lost p (Granted e) = refl
count_lost p NoMore = refl
count_lost p (Sent client x) = elim (cases_Bool (is_end x.act)) [ inl y ↦ rw y refl | inr n ↦ rw n refl ]

-- ---- operations that are performed, or hold a client

pub act_performed : (p : Progress) (client : ℕ) (a : Act) (place : ℕ) → performed_in (after_act p client a place).log ≡ performed_in p.log
act_performed p c (act.Draw block) place = elim (cases_Bool (p.held c)) [ inl y ↦ rw y refl | inr n ↦ rw n (let e = performed_more p.log (Took c place) in omega (arith, e)) ]
act_performed p c (act.Clear mask) place = elim (cases_Bool (p.held c)) [ inl y ↦ rw y refl | inr n ↦ rw n (let e = performed_more p.log (Took c place) in omega (arith, e)) ]
act_performed p c (act.Shared part) place = elim (cases_Bool (p.held c)) [ inl y ↦ rw y refl | inr n ↦ rw n (let e = performed_more p.log (Took c place) in omega (arith, e)) ]
act_performed p c (act.Sync op) place = elim (cases_Bool (p.held c)) [ inl y ↦ rw y refl | inr n ↦ rw n refl ]
act_performed p c act.End place = refl

abbrev one_if : Bool → ℕ
one_if b = cond b 1 0

module _ (n : ℕ) (took : ℕ → List Parcel) (p : Progress) (count : p.count ≡ n) where
  abbrev IsCounted : ℕ → Type 0
  IsCounted c = waits (took c) ≡ uses n (take (performed_in p.log) p.learnt) c + one_if (p.held c)

  -- the operations of the client that the progress tells of
  abbrev told_by : Progress → ℕ → ℕ
  told_by q c = uses n (take (performed_in q.log) q.learnt) c + one_if (q.held c)

  held_performed : (e : Entry) (c : ℕ) → IsAwaited p (Due e) → IsCounted c → waits (took c ++ []) ≡ told_by (after_item p (Due e)) c
  held_performed e c awaited h =
      let same = ap waits (append-nil (took c)) in
      let k : performed_in (p.log ++ Performed ∷ []) ≡ performed_in p.log + 1 = performed_more p.log Performed in
      let u = ap (λ i. uses n (take i p.learnt) c) k ∙ uses_next n c p.learnt (performed_in p.log) e awaited.0 in
      elim (cases_Bool (is_member n e c)) [
        | inl t ↦
            let t' : is_member p.count e c ≡ true = ap (λ m. is_member m e c) count ∙ t in
            let was : one_if (p.held c) ≡ 1 = ap one_if (awaited.1 c t') in
            let now : one_if ((after_item p (Due e)).held c) ≡ 0 = rw t' refl in
            let one : cond {A = ℕ} (is_member n e c) 1 0 ≡ 1 = rw t refl in
            omega (arith, same, u, was, now, one, h)
        | inr g ↦
            let g' : is_member p.count e c ≡ false = ap (λ m. is_member m e c) count ∙ g in
            let now : one_if ((after_item p (Due e)).held c) ≡ one_if (p.held c) = rw g' refl in
            let none : cond {A = ℕ} (is_member n e c) 1 0 ≡ 0 = rw g refl in
            omega (arith, same, u, now, none, h)
      ]

  held_learnt : (e : Entry) (c : ℕ) → performed_in p.log ≡ length p.learnt → IsCounted c → waits (took c ++ []) ≡ told_by (after_item p (Granted e)) c
  held_learnt e c all h =
      let same = ap waits (append-nil (took c)) in
      let front : (es : List Entry) → take (length es) (es ++ e ∷ []) ≡ take (length es) es = front_of in
      let u : uses n (take (performed_in p.log) (p.learnt ++ e ∷ [])) c ≡ uses n (take (performed_in p.log) p.learnt) c =
      ap (λ es. uses n es c) (ap (λ k. take k (p.learnt ++ e ∷ [])) all ∙ front p.learnt ∙ ap (λ k. take k p.learnt) (sym all)) in
      omega (arith, same, u, h)
    where
      front_of : (es : List Entry) → take (length es) (es ++ e ∷ []) ≡ take (length es) es
      front_of [] = refl
      front_of (d ∷ es) = ap (λ xs. d ∷ xs) (front_of es)

  same : (k : ℕ) → k ≡ performed_in p.log → (c : ℕ) (b : Bool) → uses n (take k p.learnt) c + one_if (p.held c) ≡ told_by p c + cond {A = ℕ} b 0 0
  same k e c true = ap (λ i. uses n (take i p.learnt) c + one_if (p.held c)) e ∙ omega arith
  same k e c false = ap (λ i. uses n (take i p.learnt) c + one_if (p.held c)) e ∙ omega arith

  -- a parcel of a client that isn't held
  held_act : (client : ℕ) (a : Act) (place c : ℕ) → p.held client ≡ false
      → told_by (after_act p client a place) c ≡ told_by p c + cond {A = ℕ} (c == client) (wait_by a) 0
  held_act client (act.Draw block) place c free = rw free (let k = performed_more p.log (Took client place) in same (performed_in (p.log ++ Took client place ∷ [])) (omega (arith, k)) c (c == client))
  held_act client (act.Clear mask) place c free = rw free (let k = performed_more p.log (Took client place) in same (performed_in (p.log ++ Took client place ∷ [])) (omega (arith, k)) c (c == client))
  held_act client (act.Shared part) place c free = rw free (let k = performed_more p.log (Took client place) in same (performed_in (p.log ++ Took client place ∷ [])) (omega (arith, k)) c (c == client))
  held_act client (act.Sync op) place c free = rw free (elim (cases_Bool (c == client)) [
    | inl t ↦
        let was : one_if (p.held c) ≡ 0 = ap one_if (ap p.held (eqb-true c client t) ∙ free) in
        rw t (omega (arith, was))
    | inr g ↦ rw g (omega arith)
  ])
  held_act client act.End place c free = same (performed_in p.log) refl c (c == client)

  -- so it is while the tile isn't over
  waits_now : (client : ℕ) (x : Parcel) (c : ℕ) → waits (now took (Sent client x) c) ≡ waits (took c) + cond {A = ℕ} (c == client) (wait_by x.act) 0
  waits_now client x c = elim (cases_Bool (c == client)) [
    | inl t ↦
        let a = waits_append (took c) (x ∷ []) in
        rw t (omega (arith, a))
    | inr g ↦ rw g (let a = waits_append (took c) [] in omega (arith, a))
  ]

  not_over : p.no_more ≡ false → is_over p ≡ false
  not_over more = rw more refl

  free_of : (client : ℕ) → is_asked p client ≡ true → is_over p ≡ false → p.held client ≡ false
  free_of client asked goes_on = by (p.held client) refl
    where
      by : (b : Bool) → p.held client ≡ b → p.held client ≡ false
      by false e = e
      by true e =
          let k = (and_parts (not (p.closed client)) (not (p.held client) || is_over p) asked).1 in
          absurd (true≢false (sym k ∙ rw e (rw goes_on refl)))

  pub held_after : (item : Item) (c : ℕ) → IsAwaited p item → (is_over p ≡ false → IsCounted c) → is_over (after_item p item) ≡ false
      → waits (now took item c) ≡ told_by (after_item p item) c
  held_after Nothing c awaited h goes_on = ap waits (append-nil (took c)) ∙ h goes_on
  held_after (Due e) c awaited h goes_on = held_performed e c awaited (h (elim (cases_Bool (performed_in p.log == length p.learnt)) [
    | inl t ↦ absurd (
        let same = eqb-true (performed_in p.log) (length p.learnt) t in
        let less = slice_get_within p.learnt (performed_in p.log) e awaited.0 in
        omega (arith, same, less))
    | inr g ↦ rw g (and_false p.no_more)
  ]))
    where
      and_false : (b : Bool) → (b && false) ≡ false
      and_false true = refl
      and_false false = refl
  held_after (Granted e) c awaited h goes_on = let s = listens p awaited in held_learnt e c s.1 (h (not_over s.0))
  held_after NoMore c awaited h goes_on = absurd (true≢false (sym (eq-eqb (performed_in p.log) (length p.learnt) (listens p awaited).1) ∙ goes_on))
  held_after (Sent client x) c awaited h goes_on =
      let s = learnt_same p client x.act x.place in
      let same_over : is_over (after_item p (Sent client x)) ≡ is_over p =
      ap (λ b. b && (performed_in (after_item p (Sent client x)).log == length (after_item p (Sent client x)).learnt)) s.1
      ∙ ap (λ k. p.no_more && (k == length (after_item p (Sent client x)).learnt)) (act_performed p client x.act x.place)
      ∙ ap (λ (es : List Entry). p.no_more && (performed_in p.log == length es)) s.0 in
      let on : is_over p ≡ false = sym same_over ∙ goes_on in
      let a = waits_now client x c in
      let b = held_act client x.act x.place c (free_of client awaited.1 on) in
      let k = h on in
      omega (arith, a, b, k)

-- ---- the tile

module _ (n : ℕ) (took : ℕ → List Parcel) (heard : List Grant) (a b : Tile) (item : Item) (h : IsTileFlowing n took heard a) where
  performed_least : IsAwaited a.progress item → performed_in a.progress.log ≤ length a.progress.learnt
      → performed_in (after_item a.progress item).log ≤ length (after_item a.progress item).learnt
  performed_least awaited le = by item refl awaited
    where
      p : Progress
      p = a.progress

      by : (i : Item) → item ≡ i → IsAwaited a.progress i → performed_in (after_item a.progress i).log ≤ length (after_item a.progress i).learnt
      by Nothing is awaited = le
      by (Due e) is awaited =
          let k : performed_in (a.progress.log ++ Performed ∷ []) ≡ performed_in a.progress.log + 1 = performed_more a.progress.log Performed in
          let less = slice_get_within a.progress.learnt (performed_in a.progress.log) e awaited.0 in
          omega (arith, k, less)
      by (Granted e) is awaited = let k = length-append a.progress.learnt (e ∷ []) in omega (arith, k, le)
      by NoMore is awaited = le
      by (Sent client x) is awaited =
          let k = act_performed a.progress client x.act x.place in
          let e = ap length (learnt_same a.progress client x.act x.place).0 in
          omega (arith, k, e, le)

  pub tile_flows : a.short ≡ false → IsAwaited a.progress item → b.progress ≡ after_item a.progress item
      → IsTileFlowing n (λ c. took c ++ option_to_list (parcel_taken item c)) (heard ++ option_to_list (grant_taken item)) b
  tile_flows ample awaited is =
      let k = h.ample ample in
      record {
        count = ap (λ (q : Progress). q.count) is ∙ count_after a.progress item ∙ h.count;
        closed = λ c lc. ap (λ (q : Progress). q.closed c) is ∙ closed_after took a.progress item c (h.closed c lc);
        no_more = ap (λ (q : Progress). q.no_more) is ∙ no_more_after heard a.progress item h.no_more;
        ample = λ still. record {
          heard_is = ap (λ (gs : List Grant). gs ++ option_to_list (grant_taken item)) k.heard_is ∙ sym (heard_after a.progress item awaited)
              ∙ ap (λ (q : Progress). grants_heard q) (sym is);
          performed = subst (λ (q : Progress). performed_in q.log ≤ length q.learnt) (sym is) (performed_least awaited k.performed);
          held = subst (λ (q : Progress). (c : ℕ) → c < n → is_over q ≡ false → waits (took c ++ option_to_list (parcel_taken item c))
              ≡ uses n (take (performed_in q.log) q.learnt) c + cond (q.held c) 1 0) (sym is)
              (λ c lc goes_on. held_after n took a.progress h.count item c awaited (k.held c lc) goes_on);
        };
      }

  pub short_tile_flows : b.short ≡ true → b.progress ≡ after_lost a.progress item
      → IsTileFlowing n (λ c. took c ++ option_to_list (parcel_taken item c)) (heard ++ option_to_list (grant_taken item)) b
  short_tile_flows short is = record {
    count = ap (λ (q : Progress). q.count) is ∙ count_lost a.progress item ∙ h.count;
    closed = λ c lc. ap (λ (q : Progress). q.closed c) is ∙ closed_lost took a.progress item c (h.closed c lc);
    no_more = ap (λ (q : Progress). q.no_more) is ∙ no_more_lost heard a.progress item h.no_more;
    ample = λ still. absurd (true≢false (sym short ∙ still));
  }
