-- What a client does next is determined by what it has still to send and by what its lanes hold.
use Rattle.std.proofs.Common.{◌≡◌, ◌≢◌, ℕ, ◌<◌, List, [], ◌∷◌, ◌++◌, ◌⊎◌, length, inl, inr, refl, sym, ap, ◌∙◌, subst, arith, length-append}
use Rattle.rc_base.specs.Cluster.Sending.{Sending, ToTile, ToManager}
use Rattle.rc_base.specs.Cluster.Tiles.{tile_count}
use Rattle.rc_base.specs.declared.cluster.ClientMoved.{ClientMoved}
use Rattle.rc_base.specs.declared.cluster.ClientMoved.TheVariants as moved
use Rattle.rc_base.specs.declared.scene.Scene.{Scene}
use Rattle.rc_base.specs.declared.state.Parcel.{Parcel}
use Rattle.rc_base.specs.declared.sync.Request.{Request}
use Rattle.rc_base.specs.declared.window.Layout.{Layout}
use Rattle.plain_lemmas.proofs.Numbers.{at_one_or_other}
use Rattle.world_model.specs.Laws.{AreAlike}
use Rattle.world_model.specs.Moves.{IsClientStep, IsClientMove, IsIdle}
use Rattle.world_model.specs.Tiles.{Tile}
use Rattle.world_model.specs.World.{World, Client, client_total, LanesFit}

-- ---- a step, by its next item

module _ (scene : Scene) (l : Layout) (depth : ℕ) (w v : World) (client : ℕ) (low : client < client_total scene) (fit : LanesFit scene l depth v) where
  -- nothing is sent
  pub record SendsNothing : Type 0 where
    pub left : (v.clients client).left ≡ (w.clients client).left
    pub parcels : (tile : ℕ) → v.parcels client tile ≡ w.parcels client tile
    pub requests : v.requests client ≡ w.requests client

  -- the parcel goes to the tile
  pub record SendsParcel (t : ℕ) (p : Parcel) (rest : List Sending) : Type 0 where
    pub left : (v.clients client).left ≡ rest
    pub here : v.parcels client t ≡ w.parcels client t ++ p ∷ []
    pub others : (tile : ℕ) → tile ≢ t → v.parcels client tile ≡ w.parcels client tile
    pub requests : v.requests client ≡ w.requests client
    pub room : length (w.parcels client t) < depth

  pub record SendsRequest (r : Request) (rest : List Sending) : Type 0 where
    pub left : (v.clients client).left ≡ rest
    pub parcels : (tile : ℕ) → v.parcels client tile ≡ w.parcels client tile
    pub here : v.requests client ≡ w.requests client ++ r ∷ []
    pub room : length (w.requests client) < depth

  idle : IsIdle w client v → SendsNothing
  idle m = record { left = m.sent.left; parcels = m.sent.parcels; requests = m.sent.requests }

  pub at_end : (answer : ClientMoved) → (w.clients client).left ≡ [] → IsClientStep scene l depth w client answer v → (answer ≡ moved.Ended) × SendsNothing
  at_end (moved.Appended t) e m = absurd (let no : [] ≡ ToTile t m.sent.parcel ∷ (v.clients client).left = sym e ∙ m.sent.next in cc)
  at_end moved.Requested e m = absurd (let no : [] ≡ ToManager m.sent.request ∷ (v.clients client).left = sym e ∙ m.sent.next in cc)
  at_end (moved.BlockedTile t) e m = absurd (let no : [] ≡ ToTile t m.parcel ∷ m.rest = sym e ∙ m.next in cc)
  at_end moved.BlockedRequest e m = absurd (let no : [] ≡ ToManager m.request ∷ m.rest = sym e ∙ m.next in cc)
  at_end moved.Ended e m = (refl, idle m.1)

  abbrev pub AtParcel : ℕ → Parcel → List Sending → ClientMoved → Type 0
  AtParcel t p rest answer =
      (t < tile_count l) × (((answer ≡ moved.Appended t) × SendsParcel t p rest) ⊎ ((answer ≡ moved.BlockedTile t) × (length (w.parcels client t) ≡ depth) × SendsNothing))

  sends_parcel : (t k : ℕ) (p q : Parcel) (rest now : List Sending) → ToTile t p ∷ rest ≡ ToTile k q ∷ now → (k ≡ t) × (q ≡ p) × (now ≡ rest)
  sends_parcel t k p q rest now e = (cc, cc, cc)

  pub at_parcel : (t : ℕ) (p : Parcel) (rest : List Sending) (answer : ClientMoved) → (w.clients client).left ≡ ToTile t p ∷ rest → IsClientStep scene l depth w client answer v → AtParcel t p rest answer
  at_parcel t p rest (moved.Appended k) e m =
      let s = sends_parcel t k p m.sent.parcel rest (v.clients client).left (sym e ∙ m.sent.next) in
      let lt = subst (λ i. i < tile_count l) s.0 m.low in
      let here : v.parcels client t ≡ w.parcels client t ++ p ∷ [] =
      subst (λ i. v.parcels client i ≡ w.parcels client i ++ p ∷ []) s.0 (m.sent.appended ∙ ap (λ x. w.parcels client k ++ x ∷ []) s.1) in (
        lt,
        inl (
          ap moved.Appended s.0,
          record {
            left = s.2;
            here = here;
            others = λ tile ne. m.sent.others tile (λ same. ne (same ∙ s.0));
            requests = m.sent.requests;
            room = let a = fit.parcels client t low lt in let b = ap length here in let c = length-append (w.parcels client t) (p ∷ []) in omega (arith, a, b, c);
          },
        ),
      )
  at_parcel t p rest moved.Requested e m = absurd (let no : ToTile t p ∷ rest ≡ ToManager m.sent.request ∷ (v.clients client).left = sym e ∙ m.sent.next in cc)
  at_parcel t p rest (moved.BlockedTile k) e m =
      let s = sends_parcel t k p m.parcel rest m.rest (sym e ∙ m.next) in
      (subst (λ i. i < tile_count l) s.0 m.low, inr (ap moved.BlockedTile s.0, subst (λ i. length (w.parcels client i) ≡ depth) s.0 m.full, idle m.idle))
  at_parcel t p rest moved.BlockedRequest e m = absurd (let no : ToTile t p ∷ rest ≡ ToManager m.request ∷ m.rest = sym e ∙ m.next in cc)
  at_parcel t p rest moved.Ended e m = absurd (let no : ToTile t p ∷ rest ≡ [] = sym e ∙ m.0 in cc)

  abbrev pub AtRequest : Request → List Sending → ClientMoved → Type 0
  AtRequest r rest answer = ((answer ≡ moved.Requested) × SendsRequest r rest) ⊎ ((answer ≡ moved.BlockedRequest) × (length (w.requests client) ≡ depth) × SendsNothing)

  sends_request : (r q : Request) (rest now : List Sending) → ToManager r ∷ rest ≡ ToManager q ∷ now → (q ≡ r) × (now ≡ rest)
  sends_request r q rest now e = (cc, cc)

  pub at_request : (r : Request) (rest : List Sending) (answer : ClientMoved) → (w.clients client).left ≡ ToManager r ∷ rest → IsClientStep scene l depth w client answer v → AtRequest r rest answer
  at_request r rest (moved.Appended k) e m = absurd (let no : ToManager r ∷ rest ≡ ToTile k m.sent.parcel ∷ (v.clients client).left = sym e ∙ m.sent.next in cc)
  at_request r rest moved.Requested e m =
      let s = sends_request r m.sent.request rest (v.clients client).left (sym e ∙ m.sent.next) in
      let here : v.requests client ≡ w.requests client ++ r ∷ [] = m.sent.appended ∙ ap (λ x. w.requests client ++ x ∷ []) s.0 in
      inl (
        refl,
        record {
          left = s.1;
          parcels = m.sent.parcels;
          here = here;
          room = let a = fit.requests client low in let b = ap length here in let c = length-append (w.requests client) (r ∷ []) in omega (arith, a, b, c);
        },
      )
  at_request r rest (moved.BlockedTile k) e m = absurd (let no : ToManager r ∷ rest ≡ ToTile k m.parcel ∷ m.rest = sym e ∙ m.next in cc)
  at_request r rest moved.BlockedRequest e m = inr (refl, m.full, idle m.idle)
  at_request r rest moved.Ended e m = absurd (let no : ToManager r ∷ rest ≡ [] = sym e ∙ m.0 in cc)

-- ---- two steps of alike clients

module _ (scene : Scene) (l : Layout) (depth : ℕ) (w v w' v' : World) (client : ℕ) (low : client < client_total scene)
    (fit : LanesFit scene l depth v) (fit' : LanesFit scene l depth v') (h : AreAlike scene l w w') where
  -- the client's own lanes afterwards
  pub record OwnAlike : Type 0 where
    pub left : (v'.clients client).left ≡ (v.clients client).left
    pub parcels : (tile : ℕ) → tile < tile_count l → v'.parcels client tile ≡ v.parcels client tile
    pub requests : v'.requests client ≡ v.requests client

  nothing_alike : SendsNothing scene l depth w v client low fit → SendsNothing scene l depth w' v' client low fit' → OwnAlike
  nothing_alike a b = record {
    left = b.left ∙ h.left client low ∙ sym a.left;
    parcels = λ tile lt. b.parcels tile ∙ h.parcels client tile low lt ∙ sym (a.parcels tile);
    requests = b.requests ∙ h.requests client low ∙ sym a.requests;
  }

  parcel_alike : (t : ℕ) (p : Parcel) (rest : List Sending) (answer answer' : ClientMoved) → AtParcel scene l depth w v client low fit t p rest answer
      → AtParcel scene l depth w' v' client low fit' t p rest answer' → (answer' ≡ answer) × OwnAlike
  parcel_alike t p rest answer answer' a b = by a.1 b.1
    where
      same : w'.parcels client t ≡ w.parcels client t
      same = h.parcels client t low a.0

      by : ((answer ≡ moved.Appended t) × SendsParcel scene l depth w v client low fit t p rest) ⊎ ((answer ≡ moved.BlockedTile t) × (length (w.parcels client t) ≡ depth) × SendsNothing scene l depth w v client low fit)
          → ((answer' ≡ moved.Appended t) × SendsParcel scene l depth w' v' client low fit' t p rest)
          ⊎ ((answer' ≡ moved.BlockedTile t) × (length (w'.parcels client t) ≡ depth) × SendsNothing scene l depth w' v' client low fit') → (answer' ≡ answer) × OwnAlike
      by (inl x) (inl y) = (
        y.0 ∙ sym x.0,
        record {
          left = y.1.left ∙ sym x.1.left;
          parcels = at_one_or_other (λ tile. tile < tile_count l → v'.parcels client tile ≡ v.parcels client tile) t
              (λ lt. y.1.here ∙ ap (λ ps. ps ++ p ∷ []) same ∙ sym x.1.here)
              (λ tile ne lt. y.1.others tile ne ∙ h.parcels client tile low lt ∙ sym (x.1.others tile ne));
          requests = y.1.requests ∙ h.requests client low ∙ sym x.1.requests;
        },
      )
      by (inl x) (inr y) = absurd (let r = x.1.room in let f = y.1 in let e = ap length same in omega (arith, r, f, e))
      by (inr x) (inl y) = absurd (let r = y.1.room in let f = x.1 in let e = ap length same in omega (arith, r, f, e))
      by (inr x) (inr y) = (y.0 ∙ sym x.0, nothing_alike x.2 y.2)

  request_alike : (r : Request) (rest : List Sending) (answer answer' : ClientMoved) → AtRequest scene l depth w v client low fit r rest answer
      → AtRequest scene l depth w' v' client low fit' r rest answer' → (answer' ≡ answer) × OwnAlike
  request_alike r rest answer answer' (inl x) (inl y) = (
    y.0 ∙ sym x.0,
    record {
      left = y.1.left ∙ sym x.1.left;
      parcels = λ tile lt. y.1.parcels tile ∙ h.parcels client tile low lt ∙ sym (x.1.parcels tile);
      requests = y.1.here ∙ ap (λ rs. rs ++ r ∷ []) (h.requests client low) ∙ sym x.1.here;
    },
  )
  request_alike r rest answer answer' (inl x) (inr y) = absurd (let q = x.1.room in let f = y.1 in let e = ap length (h.requests client low) in omega (arith, q, f, e))
  request_alike r rest answer answer' (inr x) (inl y) = absurd (let q = y.1.room in let f = x.1 in let e = ap length (h.requests client low) in omega (arith, q, f, e))
  request_alike r rest answer answer' (inr x) (inr y) = (y.0 ∙ sym x.0, nothing_alike x.2 y.2)

  by_next : (items : List Sending) (answer answer' : ClientMoved) → (w.clients client).left ≡ items → IsClientStep scene l depth w client answer v → IsClientStep scene l depth w' client answer' v'
      → (answer' ≡ answer) × OwnAlike
  by_next [] answer answer' e m m' =
      let a = at_end scene l depth w v client low fit answer e m in
      let b = at_end scene l depth w' v' client low fit' answer' (h.left client low ∙ e) m' in
      (b.0 ∙ sym a.0, nothing_alike a.1 b.1)
  by_next (ToTile t p ∷ rest) answer answer' e m m' =
      parcel_alike t p rest answer answer' (at_parcel scene l depth w v client low fit t p rest answer e m)
      (at_parcel scene l depth w' v' client low fit' t p rest answer' (h.left client low ∙ e) m')
  by_next (ToManager r ∷ rest) answer answer' e m m' =
      request_alike r rest answer answer' (at_request scene l depth w v client low fit r rest answer e m)
      (at_request scene l depth w' v' client low fit' r rest answer' (h.left client low ∙ e) m')

pub client_alike : (scene : Scene) (l : Layout) (depth : ℕ) (w v w' v' : World) (client : ℕ) (answer answer' : ClientMoved) → AreAlike scene l w w'
    → IsClientMove scene l depth w client answer v → LanesFit scene l depth v → IsClientMove scene l depth w' client answer' v' → LanesFit scene l depth v'
    → (answer' ≡ answer) × AreAlike scene l v v'
client_alike scene l depth w v w' v' client answer answer' h m fit m' fit' =
    let own = by_next scene l depth w v w' v' client m.low fit fit' h (w.clients client).left answer answer' refl m.step m'.step in (
      own.0,
      record {
        left = at_one_or_other (λ c. c < client_total scene → (v'.clients c).left ≡ (v.clients c).left) client
            (λ lc. own.1.left)
            (λ c ne lc. ap (λ (k : Client). k.left) (m'.only.clients c lc ne) ∙ h.left c lc ∙ sym (ap (λ (k : Client). k.left) (m.only.clients c lc ne)));
        manager = m'.only.manager ∙ h.manager ∙ sym m.only.manager;
        progress = λ tile lt. ap (λ (a : Tile). a.progress) (m'.only.tiles tile lt) ∙ h.progress tile lt ∙ sym (ap (λ (a : Tile). a.progress) (m.only.tiles tile lt));
        next = λ tile lt. ap (λ (a : Tile). a.next) (m'.only.tiles tile lt) ∙ h.next tile lt ∙ sym (ap (λ (a : Tile). a.next) (m.only.tiles tile lt));
        parcels = at_one_or_other (λ c. (tile : ℕ) → c < client_total scene → tile < tile_count l → v'.parcels c tile ≡ v.parcels c tile) client
            (λ tile lc lt. own.1.parcels tile lt)
            (λ c ne tile lc lt. m'.only.parcels c tile lc lt ne ∙ h.parcels c tile lc lt ∙ sym (m.only.parcels c tile lc lt ne));
        requests = at_one_or_other (λ c. c < client_total scene → v'.requests c ≡ v.requests c) client
            (λ lc. own.1.requests)
            (λ c ne lc. m'.only.requests c lc ne ∙ h.requests c lc ∙ sym (m.only.requests c lc ne));
        grants = λ tile lt. m'.only.grants tile lt ∙ h.grants tile lt ∙ sym (m.only.grants tile lt);
      },
    )
