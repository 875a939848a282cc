-- The streams of a scene on their way through a chain.
use Rattle.std.proofs.Common.{◌≡◌, ◌∙◌, sym, ap, ap₂, subst, refl, arith, ℕ, ◌+◌, length, map, List, [], ◌∷◌, ◌++◌}
use Rattle.std.proofs.lemmas.List.{append_assoc}
use Rattle.std.proofs.lemmas.List.Sums.{fold_push, sum_by-cons}
use Rattle.std.proofs.lemmas.Grind.{flat_map-append}
use Rattle.std.specs.List.{flat_map}
use Rattle.rc_base.specs.declared.command.Command.{Command}
use Rattle.rc_base.specs.declared.scene.Decl.{Decl}
use Rattle.rc_base.specs.declared.scene.Scene.{Scene}
use Rattle.rc_base.specs.Formats.Limits.{commands_in}
use Rattle.spu_chain.specs.declared.rule.SpuRule.{SpuRule}
use Rattle.spu_chain.specs.Filter.{HaveRoom, filtered_by, rules_after, rules_behind, AreReached}
use Rattle.spu_chain.specs.Scenes.{streams_by, rules_after_all, scene_by}
use Rattle.spu_chain.proofs.Whole.{room_for_fewer, room_behind}
use Rattle.spu_chain.proofs.Chains.{lists, no_members, no_rules}

-- the streams that were given so far, and what came of them
pub record FiltersAll {B : Type 0} (f : B → SpuRule) (old now : List B) (all done rest out : List (List Command)) : Type 0 where
  pub parts : all ≡ done ++ rest
  pub given : out ≡ streams_by (map f old) done
  pub after : map f now ≡ rules_after_all (map f old) done
  pub room : HaveRoom (commands_in rest) (map f now)

streams_more : (rules : List SpuRule) (done : List (List Command)) (s : List Command)
    → streams_by rules (done ++ s ∷ []) ≡ streams_by rules done ++ filtered_by (rules_after_all rules done) s ∷ []
streams_more rules [] s = refl
streams_more rules (d ∷ done) s = ap (λ xs. filtered_by rules d ∷ xs) (streams_more (rules_after rules d) done s)

abbrev the_scene : Decl → List (List Command) → Scene
the_scene d ss = record { decl = d; streams = ss }

-- a chain without members
no_streams_change : (ss : List (List Command)) → streams_by [] ss ≡ ss
no_streams_change [] = refl
no_streams_change (s ∷ ss) =
    ap₂ (λ (x : List Command) (xs : List (List Command)). x ∷ xs) (no_members s) (ap (λ rs. streams_by rs ss) (no_rules s) ∙ no_streams_change ss)

no_rules_left : (ss : List (List Command)) → rules_after_all [] ss ≡ []
no_rules_left [] = refl
no_rules_left (s ∷ ss) = ap (λ rs. rules_after_all rs ss) (no_rules s) ∙ no_rules_left ss

module _ {B : Type 0} (f : B → SpuRule) where
  pub scene_given : (bs : List B) (scene : Scene) → bs ≡ [] → scene ≡ scene_by (map f bs) scene
  scene_given bs scene e =
      ap (λ (ss : List (List Command)). the_scene scene.decl ss) (sym (ap (λ xs. streams_by (map f xs) scene.streams) e ∙ no_streams_change scene.streams))

  pub rules_kept : (bs : List B) (ss : List (List Command)) → bs ≡ [] → map f bs ≡ rules_after_all (map f bs) ss
  rules_kept bs ss e = ap (map f) e ∙ sym (ap (λ xs. rules_after_all (map f xs) ss) e ∙ no_rules_left ss)

-- the rules after all streams are those after one list of all
one_list : (rules : List SpuRule) (ss : List (List Command)) → rules_after_all rules ss ≡ rules_after rules (flat_map (λ s. s) ss)
one_list rules [] = refl
one_list rules (s ∷ ss) = one_list (rules_after rules s) ss ∙ sym (lists rules s (flat_map (λ x. x) ss)).1

-- a list leaves room for those behind it
room_past : (cs : List Command) (n : ℕ) (rules : List SpuRule) → HaveRoom (length cs + n) rules → HaveRoom n (rules_after rules cs)
room_past [] n rules h = room_for_fewer rules n (0 + n) (omega arith) h
room_past (c ∷ cs) n rules h =
    room_past cs n (rules_behind rules c) (room_behind rules c (length cs + n) (room_for_fewer rules (length cs + n + 1) (length (c ∷ cs) + n) (omega arith) h))

module _ {B : Type 0} (f : B → SpuRule) (old now : List B) (all done left rest out : List (List Command)) (s : List Command)
    (steps : left ≡ s ∷ rest) (before : FiltersAll f old now all done left out) where
  here : FiltersAll f old now all done (s ∷ rest) out
  here = subst (λ xs. FiltersAll f old now all done xs out) steps before

  sizes : commands_in (s ∷ rest) ≡ length s + commands_in rest
  sizes = sum_by-cons length s rest

  room_both : HaveRoom (length s + commands_in rest) (map f now)
  room_both = subst (λ n. HaveRoom n (map f now)) sizes here.room

  pub room_here : HaveRoom (length s) (map f now)
  room_here = room_for_fewer (map f now) (length s) (length s + commands_in rest) (omega arith) room_both

  parts_next : all ≡ (done ++ s ∷ []) ++ rest
  parts_next = here.parts ∙ sym (append_assoc done (s ∷ []) rest)

  module _ (next : List B) (after : map f next ≡ rules_after (map f now) s) where
    after_next : map f next ≡ rules_after_all (map f old) (done ++ s ∷ [])
    after_next = after ∙ ap (λ rs. rules_after rs s) here.after ∙ sym (fold_push rules_after (map f old) done s)

    pub streams_next : (o : List Command) → o ≡ filtered_by (map f now) s → FiltersAll f old next all (done ++ s ∷ []) rest (out ++ o ∷ [])
    streams_next o e = record {
      parts = parts_next;
      given =
          ap (λ xs. xs ++ o ∷ []) here.given
          ∙ ap (λ x. streams_by (map f old) done ++ x ∷ []) (e ∙ ap (λ rs. filtered_by rs s) here.after)
          ∙ sym (streams_more (map f old) done s);
      after = after_next;
      room = subst (λ rs. HaveRoom (commands_in rest) rs) (sym after) (room_past s (commands_in rest) (map f now) room_both);
    }

    -- the rules where there is no room for the stream's result
    pub stops_behind : AreReached (map f old) (flat_map (λ x. x) all) (map f next)
    stops_behind = record {
      front = flat_map (λ x. x) (done ++ s ∷ []);
      rest = flat_map (λ x. x) rest;
      parts = ap (flat_map (λ x. x)) parts_next ∙ flat_map-append (λ x. x) (done ++ s ∷ []) rest;
      left_is = after_next ∙ one_list (map f old) (done ++ s ∷ []);
    }

  -- the rules where there is no room within the stream
  pub stops_within : (next : List B) → AreReached (map f now) s (map f next) → AreReached (map f old) (flat_map (λ x. x) all) (map f next)
  stops_within next r = record {
    front = flat_map (λ x. x) done ++ r.front;
    rest = r.rest ++ flat_map (λ x. x) rest;
    parts =
        ap (flat_map (λ x. x)) here.parts ∙ flat_map-append (λ x. x) done (s ∷ rest)
        ∙ ap (λ xs. flat_map (λ x. x) done ++ (xs ++ flat_map (λ x. x) rest)) r.parts
        ∙ ap (λ xs. flat_map (λ x. x) done ++ xs) (append_assoc r.front r.rest (flat_map (λ x. x) rest))
        ∙ sym (append_assoc (flat_map (λ x. x) done) r.front (r.rest ++ flat_map (λ x. x) rest));
    left_is =
        r.left_is ∙ ap (λ rs. rules_after rs r.front) (here.after ∙ one_list (map f old) done)
        ∙ sym (lists (map f old) (flat_map (λ x. x) done) r.front).1;
  }
