-- A round grows by one step after the other, and says whether somebody moved.
use Rattle.std.proofs.Common.{◌≡◌, ℕ, ◌+◌, List, [], ◌∷◌, ◌++◌, length, map, true, Ok, Err, refl, sym, ap, ◌∙◌, subst, arith, true≢false}
use Rattle.std.proofs.lemmas.List.{map-append}
use Rattle.std.proofs.lemmas.List.FromFn.{map-range_with_len_more}
use Rattle.std.specs.List.{range_with_len, AllByRecursion}
use Rattle.rc_base.specs.Cluster.Tiles.{tile_count}
use Rattle.rc_base.specs.declared.out_of_memory.OutOfMemory.{OutOfMemory}
use Rattle.rc_base.specs.declared.scene.Scene.{Scene}
use Rattle.rc_base.specs.declared.window.Layout.{Layout}
use Rattle.world_model.specs.declared.moves.Move.{Move}
use Rattle.world_model.specs.Laws.{AmpleTurnsAreMoves}
use Rattle.world_model.specs.Turns.{Turn, AreTurns, IsLastTurn, IsResting, IsTurn, number_of, turn_of}
use Rattle.world_model.specs.World.{client_total}
use Rattle.world_model.specs.World.{World as Model}
use Rattle.world_model.proofs.StoppedWorldsRest.{last_rests}
use Rattle.step_core.specs.Rounds.{round_with, IsRound, IsRoundOf, IsRoundBelow, Rounds}
use Rattle.step_core.specs.Actors.{said_of}
use Rattle.step_core.specs.Steps.{Attempts, IsTurnSaid, Turns}
use Rattle.step_core.specs.Worlds.{IsSeen, IsSeenAs}
use Rattle.step_core.specs.declared.actor.Stepped.{Stepped}
use Rattle.step_core.specs.declared.actor.Stepped.TheVariants as stepped
use Rattle.step_core.specs.declared.round.Round.{Round}
use Rattle.step_core.specs.declared.round.Round.TheVariants.{Moved, Still, Ended}
use Rattle.step_core.specs.declared.cluster.Cluster.{Cluster}
use Rattle.step_core.proofs.Said.{tells, rests, lasts}

-- ---- lists

module _ {A : Type 0} (P : A → Type 0) where
  all_with : (xs : List A) (x : A) → AllByRecursion P xs → P x → AllByRecursion P (xs ++ x ∷ [])
  all_with [] x h k = (k, tt)
  all_with (y ∷ xs) x h k = (h.0, all_with xs x h.1 k)

  all_front : (xs : List A) (x : A) → AllByRecursion P (xs ++ x ∷ []) → AllByRecursion P xs
  all_front [] x h = tt
  all_front (y ∷ xs) x h = (h.0, all_front xs x h.1)

  at_end : (xs : List A) (x : A) → AllByRecursion P (xs ++ x ∷ []) → P x
  at_end [] x h = h.0
  at_end (y ∷ xs) x h = at_end xs x h.1

  pub all_by : (Q : A → Type 0) → ((x : A) → P x → Q x) → (xs : List A) → AllByRecursion P xs → AllByRecursion Q xs
  all_by Q f [] h = tt
  all_by Q f (x ∷ xs) h = (f x h.0, all_by Q f xs h.1)

map_self : (xs : List ℕ) → map (λ x. x) xs ≡ xs
map_self [] = refl
map_self (x ∷ xs) = ap (λ ys. x ∷ ys) (map_self xs)

range_more : (n : ℕ) → range_with_len 0 (n + 1) ≡ range_with_len 0 n ++ n ∷ []
range_more n =
    sym (map_self (range_with_len 0 (n + 1))) ∙ map-range_with_len_more (λ x. x) 0 n n (omega arith)
    ∙ ap (λ xs. xs ++ n ∷ []) (map_self (range_with_len 0 n))

-- ---- what it says

pub all_rest : (turns : List Turn) → AllByRecursion IsLastTurn turns → AllByRecursion IsResting turns
all_rest turns h = all_by IsLastTurn IsResting last_rests turns h

has_moved : (turns : List Turn) (turn : Turn) → (IsResting turn → ⊥) → AllByRecursion IsResting (turns ++ turn ∷ []) → ⊥
has_moved turns turn k all = k (at_end IsResting turns turn all)

-- what is said of a move is said of its turn
said_so : (move : Move) → IsTurnSaid (turn_of move) (said_of move)
said_so move =
    let k = tells move in
    record {
      moves = λ e rest. k.rest.0 ((rests move).0 rest) e;
      rests = λ f. (rests move).1 (k.rest.1 f);
      last = λ e. (lasts move).1 (k.last.1 e);
      goes_on = λ f last. f (k.last.0 ((lasts move).0 last));
    }

moved_said : (turn : Turn) → (IsResting turn → ⊥) → IsTurnSaid turn stepped.Moved
moved_said turn moves = record {
  moves = λ e. moves;
  rests = λ f. absurd (f refl);
  last = λ e. absurd cc;
  goes_on = λ f last. moves (last_rests turn last);
}

tells_more : (round : Round) (said : Stepped) (turns : List Turn) (turn : Turn) → IsRound round turns → IsTurnSaid turn said → IsRound (round_with round said) (turns ++ turn ∷ [])
tells_more Moved stepped.Moved turns turn h k = has_moved turns turn (k.moves refl)
tells_more Moved stepped.Waits turns turn h k = λ all. h (all_front IsResting turns turn all)
tells_more Moved stepped.Ended turns turn h k = λ all. h (all_front IsResting turns turn all)
tells_more Still stepped.Moved turns turn h k = has_moved turns turn (k.moves refl)
tells_more Still stepped.Waits turns turn h k =
    (all_with IsResting turns turn h.0 (k.rests (λ e. cc)), λ all. h.1 (all_front IsLastTurn turns turn all))
tells_more Still stepped.Ended turns turn h k =
    (all_with IsResting turns turn h.0 (k.rests (λ e. cc)), λ all. h.1 (all_front IsLastTurn turns turn all))
tells_more Ended stepped.Moved turns turn h k = has_moved turns turn (k.moves refl)
tells_more Ended stepped.Waits turns turn h k =
    (all_with IsResting turns turn (all_rest turns h) (k.rests (λ e. cc)), λ all. k.goes_on (λ e. cc) (at_end IsLastTurn turns turn all))
tells_more Ended stepped.Ended turns turn h k = all_with IsLastTurn turns turn h (k.last refl)

-- ---- its turns

turns_with : (scene : Scene) (l : Layout) (depth : ℕ) (turns : List Turn) (turn : Turn) (a b c : Model) → AreTurns scene l depth a turns b
    → IsTurn scene l depth b turn c → AreTurns scene l depth a (turns ++ turn ∷ []) c
turns_with scene l depth [] turn a b c h k = (c, subst (λ w. IsTurn scene l depth w turn c) h k, refl)
turns_with scene l depth (m ∷ turns) turn a b c h k = (h.0, h.1, turns_with scene l depth turns turn h.0 b c h.2 k)

pub round_begins : (before : Cluster) → IsRoundBelow 0 before Ended before
round_begins before = record {
  each = λ scene l depth w view. record {
    turns = [];
    later = w;
    actors = refl;
    turned = refl;
    view = view;
    tells = tt;
    kept = λ lacking. record { lacking = lacking; ample = λ all. all; parts = λ all shown. shown };
  };
}

-- what the cluster notes isn't seen
seen_noted : (scene : Scene) (l : Layout) (depth : ℕ) (after : Cluster) (w : Model) → IsSeenAs scene l depth after w
    → IsSeenAs scene l depth (record after { lacking = true }) w
seen_noted scene l depth after w v = record {
  clients = v.clients;
  manager = v.manager;
  tiles = v.tiles;
  parcels = v.parcels;
  ports = v.ports;
  requests = v.requests;
  grants = v.grants;
  lists = v.lists;
}

-- ---- one step

-- it was answered
pub attempts : AmpleTurnsAreMoves → (n : ℕ) (before after : Cluster) (move : Move) (said : Stepped) → said ≡ said_of move → Turns n before (Ok move) after
    → after.lacking ≡ before.lacking → Attempts n before said after
attempts law n before after move said is step same scene l depth w view =
    let s = step scene l depth w view in
    record {
      turn = s.turn;
      later = s.later;
      turned = s.turned;
      actor = s.actor;
      tells = subst (λ x. IsTurnSaid s.turn x) (sym is) (subst (λ t. IsTurnSaid t (said_of move)) (sym s.tells) (said_so move));
      view = s.view;
      kept = λ lacking. record {
        lacking = sym same ∙ lacking;
        ample = λ all. (law scene l depth w s.later move all (subst (λ t. IsTurn scene l depth w t s.later) s.tells s.turned)).1;
        parts = s.parts;
      };
    }

-- memory lacked in it
pub lacks : (n : ℕ) (before after : Cluster) (error : OutOfMemory) → Turns n before (Err error) after
    → Attempts n before stepped.Moved (record after { lacking = true })
lacks n before after error step scene l depth w view =
    let s = step scene l depth w view in
    record {
      turn = s.turn;
      later = s.later;
      turned = s.turned;
      actor = s.actor;
      tells = moved_said s.turn s.tells;
      view = seen_noted scene l depth after s.later s.view;
      kept = λ lacking. absurd (true≢false lacking);
    }

-- ---- and one after the other

module _ (n : ℕ) (before now after : Cluster) (round : Round) (said : Stepped) (h : IsRoundBelow n before round now) (step : Attempts n now said after) where
  actors_more : (scene : Scene) (turns : List Turn) (turn : Turn) → map (number_of scene) turns ≡ range_with_len 0 n → number_of scene turn ≡ n
      → map (number_of scene) (turns ++ turn ∷ []) ≡ range_with_len 0 (n + 1)
  actors_more scene turns turn e f =
      map-append (number_of scene) turns (turn ∷ []) ∙ ap (λ xs. xs ++ number_of scene turn ∷ []) e
      ∙ ap (λ k. range_with_len 0 n ++ k ∷ []) f ∙ sym (range_more n)

  pub round_goes_on : IsRoundBelow (n + 1) before (round_with round said) after
  round_goes_on = record {
    each = λ scene l depth w view.
        let a = h.each scene l depth w view in
        let s = step scene l depth a.later a.view in
        record {
          turns = a.turns ++ s.turn ∷ [];
          later = s.later;
          actors = actors_more scene a.turns s.turn a.actors s.actor;
          turned = turns_with scene l depth a.turns s.turn w a.later s.later a.turned s.turned;
          view = s.view;
          tells = tells_more round said a.turns s.turn a.tells s.tells;
          kept = λ lacking.
              let k = s.kept lacking in
              let was = a.kept k.lacking in
              record {
                lacking = was.lacking;
                ample = λ all. k.ample (was.ample all);
                parts = λ all shown. k.parts (was.ample all) (was.parts all shown);
              };
        };
  }

-- ---- it goes on, and over all actors

pub still_seen : (n : ℕ) (before now : Cluster) (round : Round) → IsSeen before → IsRoundBelow n before round now → IsSeen now
still_seen n before now round seen h =
    let a = h.each seen.scene seen.l seen.depth seen.model seen.view in
    record { scene = seen.scene; l = seen.l; depth = seen.depth; model = a.later; view = a.view; few = seen.few; few_tiles = seen.few_tiles }

pub same_actors : (n : ℕ) (before now : Cluster) (round : Round) → IsSeen before → IsRoundBelow n before round now
    → length now.clients.items + 1 + length now.tiles.items ≡ length before.clients.items + 1 + length before.tiles.items
same_actors n before now round seen h =
    let a = h.each seen.scene seen.l seen.depth seen.model seen.view in
    let c = a.view.clients.count in
    let d = seen.view.clients.count in
    let t = a.view.tiles.count in
    let u = seen.view.tiles.count in
    omega (arith, c, d, t, u)

pub all_actors : (before after : Cluster) (round : Round) (n : ℕ) → n ≡ length before.clients.items + 1 + length before.tiles.items
    → IsRoundBelow n before round after → Rounds before round after
all_actors before after round n e h scene l depth w view =
    let whole : n ≡ client_total scene + 1 + tile_count l =
    (let c = view.clients.count in let t = view.tiles.count in omega (arith, e, c, t)) in
    subst (λ k. IsRoundOf scene l depth k w before round after) whole (h.each scene l depth w view)
