-- One element of a list is written.
use Rattle.std.proofs.Common.{◌≡◌, ℕ, ◌<◌, List, length, sym, ap, ◌∙◌, subst, get_or-set_same, get_or-set_other, length-set}
use Rattle.std.specs.Prelude.{slice_index_or, slice_set, Result, Vec}
use Rattle.std.specs.Global.{Global}
use Rattle.rc_base.specs.declared.cluster.ClientMoved.{ClientMoved}
use Rattle.rc_base.specs.declared.cluster.TileMoved.{TileMoved}
use Rattle.rc_base.specs.declared.cluster.TilePart.{TilePart}
use Rattle.rc_base.specs.declared.out_of_memory.OutOfMemory.{OutOfMemory}
use Rattle.rc_base.specs.declared.plain_lane.PlainLane.{PlainLane}
use Rattle.rc_base.specs.declared.state.Parcel.{Parcel}
use Rattle.rc_base.specs.declared.sync.Grant.{Grant}
use Rattle.rc_base.specs.declared.sync.Request.{Request}
use Rattle.client_issue.specs.declared.client.ClientCore.{ClientCore}
use Rattle.tile_server.specs.declared.tile_core.TileCore.{TileCore}
use Rattle.rc_base.proofs.Paired.{same_default}
use Rattle.step_core.specs.Changes.{IsClientStepped, IsTileStepped, ArePartsKept}
use Rattle.rc_base.specs.declared.cluster.ClientMoved.TheVariants as client_moved
use Rattle.step_core.specs.Ports.{where_appended, IsCarried, IsChanged}
use Rattle.step_core.specs.Settling.{AreSettled}
use Rattle.step_core.specs.declared.port.Port.{Port}

pub changed : {A : Type 0} (xs : List A) (n : ℕ) (x y : A) → n < length xs → x ≡ slice_index_or xs n x → IsChanged n x y xs (slice_set xs n y)
changed xs n x y lt is = record {
  count = length-set xs n y;
  was = λ d. same_default xs n d x lt ∙ sym is;
  is = λ d. get_or-set_same xs n y d lt;
  others = λ i d ne. get_or-set_other xs n i y d ne;
}

pub changed_at : {A : Type 0} (xs : List A) (n : ℕ) (d y : A) → n < length xs → IsChanged n (slice_index_or xs n d) y xs (slice_set xs n y)
changed_at xs n d y lt = changed xs n (slice_index_or xs n d) y lt (same_default xs n d (slice_index_or xs n d) lt)

-- with other names for the lists
pub stepped_at : (tile : ℕ) (m : Result TileMoved OutOfMemory) (cores cores1 cores' cores1' : List TileCore)
    (rows rows1 rows' rows1' : List (Vec (PlainLane Parcel) Global)) (lanes lanes1 lanes' lanes1' : List (PlainLane Grant))
    → cores ≡ cores1 → cores' ≡ cores1' → rows ≡ rows1 → rows' ≡ rows1' → lanes ≡ lanes1 → lanes' ≡ lanes1'
    → IsTileStepped tile m cores cores' rows rows' lanes lanes' → IsTileStepped tile m cores1 cores1' rows1 rows1' lanes1 lanes1'
stepped_at tile m cores cores1 cores' cores1' rows rows1 rows' rows1' lanes lanes1 lanes' lanes1' a a' b b' c c' h =
    subst (λ (x : List TileCore). IsTileStepped tile m x cores1' rows1 rows1' lanes1 lanes1') a
    (subst (λ (x : List TileCore). IsTileStepped tile m cores x rows1 rows1' lanes1 lanes1') a'
    (subst (λ (x : List (Vec (PlainLane Parcel) Global)). IsTileStepped tile m cores cores' x rows1' lanes1 lanes1') b
    (subst (λ (x : List (Vec (PlainLane Parcel) Global)). IsTileStepped tile m cores cores' rows x lanes1 lanes1') b'
    (subst (λ (x : List (PlainLane Grant)). IsTileStepped tile m cores cores' rows rows' x lanes1') c
    (subst (λ (x : List (PlainLane Grant)). IsTileStepped tile m cores cores' rows rows' lanes x) c' h)))))

pub kept_at : (tile : ℕ) (m : TileMoved) (lists lists1 lists' lists1' : List (Vec TilePart Global)) → lists ≡ lists1 → lists' ≡ lists1'
    → ArePartsKept tile m lists lists' → ArePartsKept tile m lists1 lists1'
kept_at tile m lists lists1 lists' lists1' a a' h =
    subst (λ (x : List (Vec TilePart Global)). ArePartsKept tile m x lists1') a
    (subst (λ (x : List (Vec TilePart Global)). ArePartsKept tile m lists x) a' h)

pub client_at : (number : ℕ) (m : Result ClientMoved OutOfMemory) (cores cores1 cores' cores1' : List ClientCore)
    (ports ports1 ports' ports1' : List (Vec Port Global)) (lanes lanes1 lanes' lanes1' : List (PlainLane Request)) → cores ≡ cores1
    → cores' ≡ cores1' → ports ≡ ports1 → ports' ≡ ports1' → lanes ≡ lanes1 → lanes' ≡ lanes1'
    → IsClientStepped number m cores cores' ports ports' lanes lanes' → IsClientStepped number m cores1 cores1' ports1 ports1' lanes1 lanes1'
client_at number m cores cores1 cores' cores1' ports ports1 ports' ports1' lanes lanes1 lanes' lanes1' a a' b b' c c' h =
    subst (λ (x : List ClientCore). IsClientStepped number m x cores1' ports1 ports1' lanes1 lanes1') a
    (subst (λ (x : List ClientCore). IsClientStepped number m cores x ports1 ports1' lanes1 lanes1') a'
    (subst (λ (x : List (Vec Port Global)). IsClientStepped number m cores cores' x ports1' lanes1 lanes1') b
    (subst (λ (x : List (Vec Port Global)). IsClientStepped number m cores cores' ports x lanes1 lanes1') b'
    (subst (λ (x : List (PlainLane Request)). IsClientStepped number m cores cores' ports ports' x lanes1') c
    (subst (λ (x : List (PlainLane Request)). IsClientStepped number m cores cores' ports ports' lanes x) c' h)))))

-- what is carried, where anything is
abbrev pub Carried : ℕ → ClientMoved → List (Vec Port Global) → List (Vec Port Global) → List (Vec (PlainLane Parcel) Global)
    → List (Vec (PlainLane Parcel) Global) → Type 0
Carried number m ports ports' rows rows' =
    where_appended m (λ tile. IsCarried number tile ports ports' rows rows') ((ports' ≡ ports) × (rows' ≡ rows))

pub carried_at : (number : ℕ) (m : ClientMoved) (ports ports1 ports' ports1' : List (Vec Port Global))
    (rows rows1 rows' rows1' : List (Vec (PlainLane Parcel) Global)) → ports ≡ ports1 → ports' ≡ ports1' → rows ≡ rows1 → rows' ≡ rows1'
    → Carried number m ports ports' rows rows' → Carried number m ports1 ports1' rows1 rows1'
carried_at number m ports ports1 ports' ports1' rows rows1 rows' rows1' a a' b b' h =
    subst (λ (x : List (Vec Port Global)). Carried number m x ports1' rows1 rows1') a
    (subst (λ (x : List (Vec Port Global)). Carried number m ports x rows1 rows1') a'
    (subst (λ (x : List (Vec (PlainLane Parcel) Global)). Carried number m ports ports' x rows1') b
    (subst (λ (x : List (Vec (PlainLane Parcel) Global)). Carried number m ports ports' rows x) b' h)))

pub ports_count : (number : ℕ) (m : ClientMoved) (ports ports' : List (Vec Port Global)) (rows rows' : List (Vec (PlainLane Parcel) Global))
    → Carried number m ports ports' rows rows' → length ports' ≡ length ports
ports_count number (client_moved.Appended tile) ports ports' rows rows' h = h.ports_changed.rows_changed.count
ports_count number client_moved.Requested ports ports' rows rows' h = ap length h.0
ports_count number (client_moved.BlockedTile tile) ports ports' rows rows' h = ap length h.0
ports_count number client_moved.BlockedRequest ports ports' rows rows' h = ap length h.0
ports_count number client_moved.Ended ports ports' rows rows' h = ap length h.0

pub rows_count : (number : ℕ) (m : ClientMoved) (ports ports' : List (Vec Port Global)) (rows rows' : List (Vec (PlainLane Parcel) Global))
    → Carried number m ports ports' rows rows' → length rows' ≡ length rows
rows_count number (client_moved.Appended tile) ports ports' rows rows' h = h.rows_changed.rows_changed.count
rows_count number client_moved.Requested ports ports' rows rows' h = ap length h.1
rows_count number (client_moved.BlockedTile tile) ports ports' rows rows' h = ap length h.1
rows_count number client_moved.BlockedRequest ports ports' rows rows' h = ap length h.1
rows_count number client_moved.Ended ports ports' rows rows' h = ap length h.1

pub settled_at : (tile : ℕ) (ports ports1 ports' ports1' : List (Vec Port Global)) (lanes lanes1 : List (PlainLane Parcel)) → ports ≡ ports1 → ports' ≡ ports1'
    → lanes ≡ lanes1 → AreSettled tile ports ports' lanes → AreSettled tile ports1 ports1' lanes1
settled_at tile ports ports1 ports' ports1' lanes lanes1 a a' b h =
    subst (λ (x : List (Vec Port Global)). AreSettled tile x ports1' lanes1) a
    (subst (λ (x : List (Vec Port Global)). AreSettled tile ports x lanes1) a'
    (subst (λ (x : List (PlainLane Parcel)). AreSettled tile ports ports' x) b h))
