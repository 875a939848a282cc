-- What arrived in the book of a sound world is a front of each client's operations: so the journal is legal for the scene.
use Rattle.std.proofs.Common.{◌≡◌, ℕ, ◌<◌, ◌≤◌, true, List, [], ◌∷◌, ◌++◌, map, inl, inr, refl, sym, ap, ◌∙◌, arith, append-nil}
use Rattle.std.proofs.lemmas.Bool.{cases_lt}
use Rattle.rc_base.specs.Cluster.Sending.{request_of, requests_in}
use Rattle.rc_base.specs.Cluster.Tiles.{tile_count}
use Rattle.rc_base.specs.Orders.Book.{opened, standing}
use Rattle.rc_base.specs.Orders.Journal.{start, IsLegal, sync_state_after}
use Rattle.rc_base.specs.Orders.Sync.{ops_of, sync_lists_of}
use Rattle.rc_base.specs.declared.scene.Scene.{Scene}
use Rattle.rc_base.specs.declared.sync.Request.TheVariants as request
use Rattle.rc_base.specs.declared.sync.WaitAt.{WaitAt}
use Rattle.rc_base.specs.declared.window.Layout.{Layout}
use Rattle.order_model.specs.Gathering.{HasArrived}
use Rattle.order_model.proofs.ClientsBeyond.{ops_past}
use Rattle.order_model.proofs.MoreOperations.{IsFront, legal_more}
use Rattle.sync_manager.specs.Promises.{grants_of}
use Rattle.sync_manager.proofs.FrontsArrive.{still_comes, nobody_arrives}
use Rattle.tile_model.specs.Scenes.{IsInRange}
use Rattle.scene_lemmas.proofs.Scenes.{scene_client_count}
use Rattle.stream_replay.proofs.DeclaredOperations.{scene_declared}
use Rattle.world_model.specs.Sound.{GoesOnTo, IsSound}
use Rattle.world_model.specs.World.{World, client_total}
use Rattle.world_model.proofs.JournalsGoOn.{goes_on_to_itself}

-- ---- of a sound world

module _ (scene : Scene) (l : Layout) (w : World) (h : IsSound scene l w) where
  -- what has still to arrive of a client
  pub record StillComes (client : ℕ) : Type 0 where
    pub more : List WaitAt
    pub front : ops_of (sync_lists_of scene) client ≡ w.manager.book.arrived client ++ more
    pub all : IsInRange scene → w.manager.book.ended client ≡ true → more ≡ []
    pub nobody : client_total scene ≤ client → more ≡ []
    -- the requests that have not arrived
    pub behind : client < client_total scene
        → map request_of more ++ request.End ∷ [] ≡ (h.manager.right.clients client).rest ++ (w.requests client ++ requests_in (w.clients client).left)

  comes_of : (client : ℕ) → client < client_total scene → StillComes client
  comes_of client lc =
      let c = still_comes (sync_lists_of scene) (tile_count l) h.manager.took (grants_of w.manager) w.manager h.manager.right client
      (w.requests client ++ requests_in (w.clients client).left) (h.manager.lanes client lc) in
      record {
        more = c.more;
        front = c.front;
        all = λ range ended. c.all (scene_declared scene range) ended;
        nobody = λ le. absurd (omega (arith, lc, le));
        behind = λ _. c.behind;
      }

  comes_of_nobody : (client : ℕ) → client_total scene ≤ client → StillComes client
  comes_of_nobody client le =
      let none = nobody_arrives (sync_lists_of scene) (tile_count l) h.manager.took (grants_of w.manager) w.manager h.manager.right client (h.manager.nobody_else client le) in
      record {
        more = [];
        front = ops_past (sync_lists_of scene) client (omega (arith, scene_client_count scene, le)) ∙ sym (append-nil []) ∙ ap (λ (ws : List WaitAt). ws ++ []) (sym none);
        all = λ range ended. refl;
        nobody = λ _. refl;
        behind = λ lt. absurd (omega (arith, lt, le));
      }

  pub comes : (client : ℕ) → StillComes client
  comes client = elim (cases_lt client (client_total scene)) [ inl lt ↦ comes_of client lt | inr ge ↦ comes_of_nobody client ge ]

  pub has_arrived : IsInRange scene → HasArrived (sync_lists_of scene) w.manager.book
  has_arrived range = record {
    front = λ client. let c = comes client in (c.more, c.front);
    all = λ client ended.
        let c = comes client in
        sym (c.front ∙ ap (λ ws. w.manager.book.arrived client ++ ws) (c.all range ended) ∙ append-nil (w.manager.book.arrived client));
  }

  -- the journal by the scene's operations
  whole_journal : IsLegal (sync_lists_of scene) w.manager.book.journal
      × IsFront (standing (sync_lists_of scene) w.manager.book) (sync_state_after (sync_lists_of scene) w.manager.book.journal) (λ client. (comes client).more)
  whole_journal =
      let syncs = sync_lists_of scene in
      legal_more syncs (opened syncs w.manager.book) (start syncs) (λ client. (comes client).more) w.manager.book.journal
      (record { rest = λ client. (comes client).front; units = refl }) h.manager.legal

  pub journal_legal : IsLegal (sync_lists_of scene) w.manager.book.journal
  journal_legal = whole_journal.0

  pub journal_stands : IsFront (standing (sync_lists_of scene) w.manager.book) (sync_state_after (sync_lists_of scene) w.manager.book.journal) (λ client. (comes client).more)
  journal_stands = whole_journal.1

  pub goes_on : GoesOnTo (sync_lists_of scene) w.manager.book.journal w.manager.book.journal
  goes_on = goes_on_to_itself (sync_lists_of scene) w.manager.book.journal journal_legal
