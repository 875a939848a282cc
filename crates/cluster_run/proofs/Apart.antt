-- The workers that were taken apart, and one more.
use Rattle.std.proofs.Common.{◌≡◌, ℕ, ◌||◌, Bool, false, List, [], ◌∷◌, ◌++◌, length, refl, sym, ◌∙◌, subst}
use Rattle.std.proofs.lemmas.Bool.{or_parts}
use Rattle.std.specs.Prelude.{Vec}
use Rattle.std.specs.Global.{Global}
use Rattle.rc_base.proofs.Paired.{none_paired, paired_more}
use Rattle.rc_base.specs.Lists.{ArePaired}
use Rattle.rc_base.specs.declared.cluster.TilePart.{TilePart}
use Rattle.rc_base.specs.declared.state.Parcel.{Parcel}
use Rattle.rc_base.specs.declared.sync.Grant.{Grant}
use Rattle.rc_base.specs.declared.sync.Request.{Request}
use Rattle.client_issue.specs.Cores.{short_of}
use Rattle.client_issue.specs.declared.client.ClientCore.{ClientCore}
use Rattle.tile_server.specs.Cores.{is_short}
use Rattle.tile_server.specs.declared.tile_core.TileCore.{TileCore}
use Rattle.tile_queues.specs.declared.ends.LaneIn.{LaneIn}
use Rattle.tile_queues.specs.declared.ends.LaneOut.{LaneOut}
use Rattle.worker_crew.specs.declared.task.Task.{Task}
use Rattle.cluster_run.specs.Apart.{AreOfClients, AreOfTiles, IsAmpleClient, IsAmpleTile, IsClientCore, IsTileCore}
use Rattle.cluster_run.specs.declared.workers.ClientWorker.{ClientWorker}
use Rattle.cluster_run.specs.declared.workers.TileWorker.{TileWorker}

none : {A B : Type 0} (R : ℕ → A → B → Type 0) (ys : List B) → ys ≡ [] → ArePaired R [] ys
none R ys e = subst (ArePaired R []) (sym e) (none_paired R)

more : {A B : Type 0} (R : ℕ → A → B → Type 0) (xs : List A) (x : A) (ys ys' : List B) (y : B) → ArePaired R xs ys → ys' ≡ ys ++ y ∷ [] → R (length xs) x y
    → ArePaired R (xs ++ x ∷ []) ys'
more R xs x ys ys' y h e one = subst (ArePaired R (xs ++ x ∷ [])) (sym e) (paired_more R xs ys x y h one)

-- what holds of each pair by a weaker fact
still_paired : {A B : Type 0} {R S : ℕ → A → B → Type 0} {xs : List A} {ys : List B} → ArePaired R xs ys → ((i : ℕ) (d : A) (e : B) → R i d e → S i d e) → ArePaired S xs ys
still_paired h f = record { count = h.count; at = λ i d e low. f i _ _ (h.at i d e low) }

-- ---- clients

module _ {R : Type 0} (short : Bool) (cores : List ClientCore) (rows : List (Vec (LaneIn Parcel R) Global)) (requests : List (LaneIn Request R)) where
  pub no_clients : cores ≡ [] → rows ≡ [] → requests ≡ [] → AreOfClients short [] cores rows requests
  no_clients a b c = record { cores_are = none _ cores a; rows_are = none _ rows b; requests_are = none _ requests c }

  module _ (tasks : List (Task (ClientWorker R))) (task : Task (ClientWorker R)) (h : AreOfClients short tasks cores rows requests) where
    pub one_client_more : {cores' : List ClientCore} {rows' : List (Vec (LaneIn Parcel R) Global)} {requests' : List (LaneIn Request R)} (short' : Bool)
        → short' ≡ (short || short_of task.worker.core)
        → cores' ≡ cores ++ task.worker.core ∷ [] → rows' ≡ rows ++ task.worker.tiles ∷ [] → requests' ≡ requests ++ task.worker.requests ∷ []
        → AreOfClients short' (tasks ++ task ∷ []) cores' rows' requests'
    one_client_more short' is a b c = record {
      cores_are = more _ tasks task cores _ task.worker.core (still_paired h.cores_are (λ i d e is_core.
          record { same = is_core.same; ample = λ none. is_core.ample (or_parts short (short_of task.worker.core) (sym is ∙ none)).0 })) a
          (record { same = refl; ample = λ none. (or_parts short (short_of task.worker.core) (sym is ∙ none)).1 });
      rows_are = more _ tasks task rows _ task.worker.tiles h.rows_are b refl;
      requests_are = more _ tasks task requests _ task.worker.requests h.requests_are c refl;
    }

pub ample_clients : {R : Type 0} {short : Bool} {tasks : List (Task (ClientWorker R))} {cores : List ClientCore} → ArePaired (IsClientCore short) tasks cores → short ≡ false
    → ArePaired IsAmpleClient tasks cores
ample_clients h none = still_paired h (λ i d e is. record { same = is.same; ample = is.ample none })

-- ---- tiles

pub ample_tiles : {R : Type 0} {short : Bool} {tasks : List (Task (TileWorker R))} {cores : List TileCore} → ArePaired (IsTileCore short) tasks cores → short ≡ false
    → ArePaired IsAmpleTile tasks cores
ample_tiles h none = still_paired h (λ i d e is. record { same = is.same; ample = is.ample none })

module _ {R : Type 0} (short : Bool) (cores : List TileCore) (columns : List (Vec (LaneOut Parcel R) Global)) (grants : List (LaneOut Grant R))
    (parts : List (LaneIn TilePart R)) where
  pub no_tiles : cores ≡ [] → columns ≡ [] → grants ≡ [] → parts ≡ [] → AreOfTiles short [] cores columns grants parts
  no_tiles a b c d = record { cores_are = none _ cores a; columns_are = none _ columns b; grants_are = none _ grants c; parts_are = none _ parts d }

  module _ (tasks : List (Task (TileWorker R))) (task : Task (TileWorker R)) (h : AreOfTiles short tasks cores columns grants parts) where
    pub one_tile_more : {cores' : List TileCore} {columns' : List (Vec (LaneOut Parcel R) Global)} {grants' : List (LaneOut Grant R)}
        {parts' : List (LaneIn TilePart R)} (short' : Bool) → short' ≡ (short || is_short task.worker.core)
        → cores' ≡ cores ++ task.worker.core ∷ [] → columns' ≡ columns ++ task.worker.clients ∷ [] → grants' ≡ grants ++ task.worker.grants ∷ []
        → parts' ≡ parts ++ task.worker.parts ∷ [] → AreOfTiles short' (tasks ++ task ∷ []) cores' columns' grants' parts'
    one_tile_more short' is a b c d = record {
      cores_are = more _ tasks task cores _ task.worker.core (still_paired h.cores_are (λ i d e is_core.
          record { same = is_core.same; ample = λ none. is_core.ample (or_parts short (is_short task.worker.core) (sym is ∙ none)).0 })) a
          (record { same = refl; ample = λ none. (or_parts short (is_short task.worker.core) (sym is ∙ none)).1 });
      columns_are = more _ tasks task columns _ task.worker.clients h.columns_are b refl;
      grants_are = more _ tasks task grants _ task.worker.grants h.grants_are c refl;
      parts_are = more _ tasks task parts _ task.worker.parts h.parts_are d refl;
    }
