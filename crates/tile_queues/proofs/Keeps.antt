-- Each kind of step keeps the rule of a lane.
use Rattle.std.proofs.Common.{◌≡◌, ◌≢◌, ℕ, Bool, ◌+◌, ◌<◌, zero, suc, true, false, true≢false, List, [], ◌∷◌, ◌++◌, length, drop, set, sym, refl, ap, ◌∙◌, subst, ⊎_elim, append_assoc, length-append, arith}
use Rattle.std.specs.Prelude.{Option, Some, None, MatchOption, IfSome, IfNone}
use Rattle.std.proofs.Math.Seq.{drop-append_seam}
use mathlib.Core.Option.{some, some-ne-none, some-injective}
use lib.ListN.{get_elem?}
use Rattle.crossbeam_queue.specs.Fifo.{Admits, Pushes, Pops, Forks, Merges, Learns, Held}
use Rattle.crossbeam_queue.proofs.Lists.{at_set, at_snoc}
use Rattle.std.proofs.lemmas.List.{length-set}
use Rattle.tile_queues.specs.declared.rule.History.{History}
use Rattle.tile_queues.specs.Rule.{history, Fits, InOrder, IsUnparted, idle_pass, sender_pass, receiver_pass, both_passes, Appends, IsWithinSent, TakesItem, TakesNext, IsHeld, left_of}

true_or : (b : Bool) → b ≢ false → b ≡ true
true_or true h = refl
true_or false h = absurd (h refl)

module _ {T : Type 0} where
  -- the pass that came last
  at_end : (l : List (History T)) (a b : History T) (j : ℕ) → get_elem? l j ≢ some b → get_elem? (l ++ a ∷ []) j ≡ some b → j ≡ length l
  at_end [] a b zero n e = refl
  at_end [] a b (suc j) n e = absurd (some-ne-none b (sym e))
  at_end (x ∷ xs) a b zero n e = absurd (n e)
  at_end (x ∷ xs) a b (suc j) n e = ap suc (at_end xs a b j n e)

  abbrev Each : (ℕ → History T → Type 0) → List (History T) → Type 0
  Each F histories = (pass : ℕ) (h : History T) → get_elem? histories pass ≡ some h → F pass h

  each_set : (F : ℕ → History T → Type 0) (histories : List (History T)) (pass : ℕ) (h : History T) → F pass h → ((j : ℕ) (u : History T) → j ≢ pass → get_elem? histories j ≡ some u → F j u)
      → Each F (set histories pass h)
  each_set F histories pass h mine others j u e = ⊎_elim (λ (x : (j ≡ pass) × (h ≡ u)). subst (λ (y : ℕ × History T). F y.0 y.1) (λ i. (sym x.0 i, x.1 i)) mine)
      (λ (x : (j ≢ pass) × (get_elem? histories j ≡ some u)). others j u x.0 x.1) (at_set histories pass j h u e)

  no_items : (items : List T) → length items ≡ 0 → items ≡ []
  no_items [] e = refl
  no_items (x ∷ xs) e = cc

  -- the first of some passes is the first still when another comes
  first_stays : (l : List (History T)) (a b : History T) → 0 < length l → get_elem? (l ++ a ∷ []) 0 ≡ some b → get_elem? l 0 ≡ some b
  first_stays [] a b h e = absurd (omega arith)
  first_stays (x ∷ xs) a b h e = e

  -- once the first pass may send it stays so, whatever it does
  begun : (histories : List (History T)) (sent : List T) (pass : ℕ) (w : History T) → (pass ≡ 0 → w.sends ≡ true)
      → ((h : History T) → pass ≢ 0 → get_elem? histories 0 ≡ some h → h.sends ≢ false)
      → (h : History T) → get_elem? (set histories pass w) 0 ≡ some h → h.sends ≡ false → IsUnparted sent (set histories pass w)
  begun histories sent pass w here else h e not_yet = absurd (⊎_elim (λ (x : (0 ≡ pass) × (w ≡ h)). true≢false (sym (here (sym x.0)) ∙ ap (λ (y : History T). y.sends) x.1 ∙ not_yet))
      (λ (x : (0 ≢ pass) × (get_elem? histories 0 ≡ some h)). else h (λ p. x.0 (sym p)) x.1 not_yet) (at_set histories pass 0 w h e))

  alone : (F : History T → Type 0) → F idle_pass → (pass : ℕ) (h : History T) → get_elem? (idle_pass ∷ []) pass ≡ some h → F h
  alone F mine zero h e = subst F (some-injective idle_pass h e) mine
  alone F mine (suc pass) h e = absurd (some-ne-none h (sym e))

  idle_fits : (receiver depth : ℕ) (sent taken : List T) (pass : ℕ) (h : History T) → idle_pass ≡ h → Fits receiver depth sent taken pass h
  idle_fits receiver depth sent taken pass h is =
      ((λ p. absurd (true≢false (sym (ap (λ (y : History T). y.sends) is ∙ p)))), λ p. absurd (true≢false (sym (ap (λ (y : History T). y.takes) is ∙ p))))

  pub begins : InOrder {T = T} [] (idle_pass ∷ [])
  begins = record {
    sent = [];
    taken = [];
    order = refl;
    depth = 0;
    room = omega arith;
    receiver = 0;
    passes = λ pass h e. alone (λ u. Fits 0 0 [] [] pass u) (idle_fits 0 0 [] [] pass idle_pass refl) pass h e;
    any = omega arith;
    begins = λ h e not_yet. record { unsent = refl; untaken = alone (λ u. u.takes ≡ false) refl };
  }

  pub appends : (n pass : ℕ) (h : History T) (x : T) → h.sends ≡ true → h.depth ≡ n → Pushes InOrder n pass h x (Appends h x)
  appends n pass h x may deep items views free rule at =
      let w : History T = history h.sends h.takes h.depth (h.sent ++ x ∷ []) h.taken in
      let mine = rule.passes pass h at in
      let sender = mine.0 may in
      let sent = rule.sent ++ x ∷ [] in (
        w,
        record {
          sent = sent;
          taken = rule.taken;
          order = ap (λ l. l ++ x ∷ []) rule.order ∙ append_assoc rule.taken items (x ∷ []);
          depth = rule.depth;
          room = omega (arith, length-append items (x ∷ []), deep, sender.1);
          receiver = rule.receiver;
          passes = each_set (Fits rule.receiver rule.depth sent rule.taken) views pass w ((λ _. (sender.0, sender.1, ap (λ l. l ++ x ∷ []) sender.2)), mine.1)
              (λ j u other e. ((λ p. absurd (other (((rule.passes j u e).0 p).0 ∙ sym sender.0))), (rule.passes j u e).1));
          any = omega (arith, rule.any, length-set views pass w);
          begins = begun views sent pass w (λ _. may) (λ u apart e. absurd (apart sender.0));
        },
        refl,
      )

  -- where a pass may take, the first may send
  may_send : (pass : ℕ) (h : History T) (items : List T) (views : List (History T)) → h.takes ≡ true → InOrder items views → get_elem? views pass ≡ some h
      → (u : History T) → get_elem? views 0 ≡ some u → u.sends ≢ false
  may_send pass h items views may rule at u e not_yet = true≢false (sym may ∙ (rule.begins u e not_yet).untaken pass h at)

  pub takes : (pass : ℕ) (h : History T) → h.takes ≡ true → Pops InOrder pass h (TakesItem h)
  takes pass h may x items views rule at =
      let w : History T = history h.sends h.takes h.depth h.sent (h.taken ++ x ∷ []) in
      let mine = rule.passes pass h at in
      let receiver = mine.1 may in
      let taken = rule.taken ++ x ∷ [] in
      let sends = may_send pass h (x ∷ items) views may rule at in (
        w,
        record {
          sent = rule.sent;
          taken = taken;
          order = rule.order ∙ sym (append_assoc rule.taken (x ∷ []) items);
          depth = rule.depth;
          room = let r = rule.room in omega arith;
          receiver = rule.receiver;
          passes = each_set (Fits rule.receiver rule.depth rule.sent taken) views pass w (mine.0, λ _. (receiver.0, ap (λ l. l ++ x ∷ []) receiver.1))
              (λ j u other e. ((rule.passes j u e).0, λ p. absurd (other (((rule.passes j u e).1 p).0 ∙ sym receiver.0))));
          any = omega (arith, rule.any, length-set views pass w);
          begins = begun views rule.sent pass w (λ (p : pass ≡ 0). true_or h.sends (sends h (subst (λ i. get_elem? views i ≡ some h) p at))) (λ u apart e. sends u e);
        },
        refl,
      )

  pub takes_next : (pass : ℕ) (h : History T) → h.sends ≡ true → h.takes ≡ true → Pops InOrder pass h (TakesNext h)
  takes_next pass h a b x items views rule at =
      let step = takes pass h b x items views rule at in
      let mine = rule.passes pass h at in
      (step.0, step.1, (step.2, (items, (mine.0 a).2 ∙ rule.order ∙ ap (λ l. l ++ x ∷ items) (sym (mine.1 b).1))))

  idle_parts : (depth : ℕ) → Forks (InOrder {T = T}) 0 idle_pass (sender_pass depth) (receiver_pass depth)
  idle_parts depth items views rule at =
      let l : History T = sender_pass depth in
      let r : History T = receiver_pass depth in
      let vs : List (History T) = set views 0 l in
      let un = rule.begins idle_pass at refl in
      let empty : length rule.taken + length items ≡ 0 = sym (length-append rule.taken items) ∙ ap length (sym rule.order ∙ un.unsent) in
      let untaken : rule.taken ≡ [] = no_items rule.taken (omega (arith, empty)) in
      let Old : ℕ → History T → Type 0 = λ j u. (u.sends ≡ true → (j ≡ 0) × (u.depth ≡ depth) × (u.sent ≡ rule.sent)) × (u.takes ≡ false) in
      let old : Each Old vs = each_set Old views 0 l ((λ _. (refl, refl, sym un.unsent)), refl) (λ j u other e. ((λ p. absurd (other ((rule.passes j u e).0 p).0)), un.untaken j u e)) in
      let any : 0 < length vs = omega (arith, rule.any, length-set views 0 l) in
      record {
        sent = rule.sent;
        taken = rule.taken;
        order = rule.order;
        depth = depth;
        room = omega (arith, empty);
        receiver = length vs;
        passes = λ j u e. ⊎_elim (λ x. ((old j u x).0, λ p. absurd (true≢false (sym p ∙ (old j u x).1))))
            (λ (is : r ≡ u). (
              (λ p. absurd (true≢false (sym (ap (λ (y : History T). y.sends) is ∙ p)))),
              λ p. (at_end vs r u j (λ x. true≢false (sym p ∙ (old j u x).1)) e, ap (λ (y : History T). y.taken) (sym is) ∙ sym untaken),
            )) (at_snoc vs r u j e);
        any = omega (arith, any, length-append vs (r ∷ []));
        begins = λ h e not_yet. ⊎_elim (λ (x : (0 ≡ 0) × (l ≡ h)). absurd (true≢false (ap (λ (y : History T). y.sends) x.1 ∙ not_yet))) (λ (x : (0 ≢ 0) × (get_elem? views 0 ≡ some h)). absurd (x.0 refl))
            (at_set views 0 0 l h (first_stays vs r h any e));
      }

  pub parts : (pass depth : ℕ) (h : History T) → pass ≡ 0 → h ≡ idle_pass → Forks InOrder pass h (sender_pass depth) (receiver_pass depth)
  parts pass depth h first is = subst (λ (x : ℕ × History T). Forks InOrder x.0 x.1 (sender_pass depth) (receiver_pass depth)) (λ i. (sym first i, sym is i)) (idle_parts depth)

  pub admits : Admits (InOrder {T = T}) idle_pass
  admits items views rule = record {
    sent = rule.sent;
    taken = rule.taken;
    order = rule.order;
    depth = rule.depth;
    room = rule.room;
    receiver = rule.receiver;
    passes = λ j u e. ⊎_elim (λ x. rule.passes j u x) (λ is. idle_fits rule.receiver rule.depth rule.sent rule.taken j u is) (at_snoc views idle_pass u j e);
    any = omega (arith, rule.any, length-append views (idle_pass ∷ []));
    begins = λ h e not_yet.
        let un = rule.begins h (first_stays views idle_pass h rule.any e) not_yet in
        record {
          unsent = un.unsent;
          untaken = λ j u f. ⊎_elim (λ x. un.untaken j u x) (λ (is : idle_pass ≡ u). ap (λ (y : History T). y.takes) (sym is)) (at_snoc views idle_pass u j f);
        };
  }

  pub joins : (pass : ℕ) (h : History T) (other : ℕ) (u : History T) → h.sends ≡ true → u.takes ≡ true → Merges InOrder pass h other u (both_passes h u) idle_pass
  joins pass h other u a b items views rule at two at' =
      let both : History T = both_passes h u in
      let sender = (rule.passes pass h at).0 a in
      let vs : List (History T) = set views pass both in
      let was : get_elem? views other ≡ some u = ⊎_elim (λ x. absurd (two x.0)) (λ x. x.1) (at_set views pass other both u at') in
      let receiver = (rule.passes other u was).1 b in
      let Now : ℕ → History T → Type 0 = λ j y. j ≢ other → Fits pass rule.depth rule.sent rule.taken j y in
      let now : Each Now vs = each_set Now views pass both (λ _. ((λ _. sender), λ _. (refl, receiver.1))) (λ j y _ e apart. ((rule.passes j y e).0, λ p. absurd (apart (((rule.passes j y e).1 p).0 ∙ sym receiver.0)))) in
      record {
        sent = rule.sent;
        taken = rule.taken;
        order = rule.order;
        depth = rule.depth;
        room = rule.room;
        receiver = pass;
        passes = each_set (Fits pass rule.depth rule.sent rule.taken) vs other idle_pass (idle_fits pass rule.depth rule.sent rule.taken other idle_pass refl) (λ j y apart e. now j y e apart);
        any = omega (arith, rule.any, length-set views pass both, length-set vs other idle_pass);
        begins = begun vs rule.sent other idle_pass (λ is. absurd (two (is ∙ sym sender.0)))
            (λ y _ e not_yet. ⊎_elim (λ (x : (0 ≡ pass) × (both ≡ y)). true≢false (ap (λ (z : History T). z.sends) x.1 ∙ not_yet)) (λ (x : (0 ≢ pass) × (get_elem? views 0 ≡ some y)). x.0 (sym sender.0))
            (at_set views pass 0 both y e));
      }

  pub is_left : (pass : ℕ) (h : History T) → h.sends ≡ true → h.takes ≡ true → Learns InOrder pass h (IsHeld h)
  is_left pass h a b items views rule at =
      let mine = rule.passes pass h at in
      let sender = mine.0 a in
      (sender.2 ∙ rule.order ∙ ap (λ l. l ++ items) (sym (mine.1 b).1), (let r = rule.room in omega (arith, sender.1)))

  pub within_sent : (pass : ℕ) (h : History T) → h.sends ≡ true → Learns InOrder pass h (IsWithinSent h)
  within_sent pass h a items views rule at = let mine = rule.passes pass h at in omega (arith, ap length ((mine.0 a).2 ∙ rule.order), length-append rule.taken items)

  pub left_at : (h : History T) (items : List T) → h.sent ≡ h.taken ++ items → left_of h ≡ items
  left_at h items e = ap (λ l. drop (length h.taken) l) e ∙ drop-append_seam h.taken items

  pub ordered_at : (h : History T) (items : List T) → h.sent ≡ h.taken ++ items → h.sent ≡ h.taken ++ left_of h
  ordered_at h items e = e ∙ ap (λ l. h.taken ++ l) (sym (left_at h items e))

  abbrev Drained : Option T → History T → History T → Type 0
  Drained r h w = (w.sends ≡ true) × (w.takes ≡ true) × (w.sent ≡ w.taken ++ left_of w) × IfSome r (λ x. left_of h ≡ x ∷ left_of w) × IfNone r ((left_of h ≡ []) × (left_of w ≡ []))

  -- what a pop of the rest leaves
  pub drained : (r : Option T) (h w : History T) → h.sends ≡ true → h.takes ≡ true → h.sent ≡ h.taken ++ left_of h
      → MatchOption r ((w ≡ h) × Held 0 (IsHeld h)) (λ x. TakesNext h x w)
      → Drained r h w
  drained None h w a b ordered got =
      let none : left_of h ≡ [] = left_at h got.1.0 got.1.2.0 ∙ no_items got.1.0 got.1.1 in
      subst (λ u. Drained None h u) (sym got.0) (a, b, ordered, tt, (none, none))
  drained (Some x) h w a b ordered got =
      let u : History T = history h.sends h.takes h.depth h.sent (h.taken ++ x ∷ []) in
      let e : u.sent ≡ u.taken ++ got.1.0 = got.1.1 ∙ sym (append_assoc h.taken (x ∷ []) got.1.0) in
      subst (λ y. Drained (Some x) h y) (sym got.0) (a, b, ordered_at u got.1.0 e, (left_at h (x ∷ got.1.0) got.1.1 ∙ ap (λ l. x ∷ l) (sym (left_at u got.1.0 e))), tt)
