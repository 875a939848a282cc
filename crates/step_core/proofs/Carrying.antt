-- What a client appended is carried to the tile's end: the lanes hold it, and the ports know it.
use Rattle.std.proofs.Common.{◌≡◌, ◌≢◌, ℕ, ◌+◌, ◌<◌, List, [], ◌∷◌, ◌++◌, length, refl, sym, ap, ◌∙◌, subst, arith, length-append}
use Rattle.std.specs.Prelude.{slice_index_or, Vec}
use Rattle.std.specs.Global.{Global}
use Rattle.rc_base.specs.Cluster.PlainLanes.{held}
use Rattle.rc_base.specs.declared.cluster.ClientMoved.{ClientMoved}
use Rattle.rc_base.specs.declared.cluster.ClientMoved.TheVariants as moved
use Rattle.rc_base.specs.declared.plain_lane.PlainLane.{PlainLane}
use Rattle.rc_base.specs.declared.state.Parcel.{Parcel}
use Rattle.tile_model.specs.Items.{with_at}
use Rattle.scene_lemmas.proofs.Numbered.{with_here, with_other}
use Rattle.rc_base.proofs.Paired.{some_item}
use Rattle.plain_lemmas.proofs.Numbers.{at_one_or_other}
use Rattle.step_core.specs.Ports.{IsChanged, CanCarry, IsCarried, where_appended}
use Rattle.step_core.specs.Worlds.{IsLaneOf, AreLanesOf, AreRowsOf, IsEmptyPort, IsPortRow, ArePortsOf}
use Rattle.step_core.specs.declared.port.Port.{Port}
use Rattle.step_core.proofs.ClientMoves.{IsCounted, HasAppended, HasNotAppended}
use Rattle.step_core.proofs.Lanes.{lanes_as}

module _ (depth clients tiles number : ℕ) (items : ℕ → ℕ → List Parcel) (rows : List (Vec (PlainLane Parcel) Global))
    (ports ports1 : List (Vec Port Global)) (row row' : Vec Port Global) (low : number < clients)
    (v : AreRowsOf depth clients tiles items rows) (q : ArePortsOf depth clients tiles items ports) (changed : IsChanged number row row' ports ports1)
    (row_count : length row'.items ≡ tiles)
    (counted : (i : ℕ) (d : Port) → i < tiles → IsCounted depth (items number i) (slice_index_or row'.items i d)) where
  abbrev now : (ℕ → List Parcel) → ℕ → ℕ → List Parcel
  now own = with_at items number own

  -- ---- before

  port_here : (t : ℕ) (r : Vec Port Global) (d : Port) → slice_index_or (slice_index_or ports1 number r).items t d ≡ slice_index_or row'.items t d
  port_here t r d = ap (λ (x : Vec Port Global). slice_index_or x.items t d) (changed.is r)

  can_here : (own : ℕ → List Parcel) (t : ℕ) → HasAppended tiles (items number) own row'.items t → CanCarry number t ports1 rows
  can_here own t a =
      let n = q.count in
      let m = changed.count in
      let u = v.count in
      let lt = a.low_tile in
      record {
        port_place = record {
          row_in = omega (arith, n, m, low);
          column_in = λ r. (let e = ap (λ (x : Vec Port Global). length x.items) (changed.is r) in omega (arith, e, row_count, lt));
        };
        lane_place = record { row_in = omega (arith, u, lt); column_in = λ r. (let e = (v.at t r lt).count in omega (arith, e, low)) };
        tells = λ r d x e.
            let lane = (v.at t x lt).at number e low in
            let port = counted t d lt in
            record {
              count = ap (λ (p : Port). p.count) (port_here t r d) ∙ port.count ∙ ap length (sym lane.holds);
              depth = ap (λ (p : Port). p.depth) (port_here t r d) ∙ port.most ∙ sym lane.most;
            };
      }

  pub can_carry : (m : ClientMoved) (own : ℕ → List Parcel)
      → where_appended m (HasAppended tiles (items number) own row'.items) (HasNotAppended tiles (items number) own row'.items)
      → where_appended m (λ t. CanCarry number t ports1 rows) (Unit {0})
  can_carry (moved.Appended t) own a = can_here own t a
  can_carry moved.Requested own a = tt
  can_carry (moved.BlockedTile t) own a = tt
  can_carry moved.BlockedRequest own a = tt
  can_carry moved.Ended own a = tt

  -- ---- after

  pub record AreCarried (own : ℕ → List Parcel) (rows' : List (Vec (PlainLane Parcel) Global)) (ports' : List (Vec Port Global)) : Type 0 where
    pub rows_are : AreRowsOf depth clients tiles (now own) rows'
    pub ports_are : ArePortsOf depth clients tiles (now own) ports'

  -- another client's
  same_else : (own : ℕ → List Parcel) (i t : ℕ) → i ≢ number → now own i t ≡ items i t
  same_else own i t ne = ap (λ (f : ℕ → List Parcel). f t) (with_other items number own i ne)

  own_here : (own : ℕ → List Parcel) (t : ℕ) → now own number t ≡ own t
  own_here own t = ap (λ (f : ℕ → List Parcel). f t) (with_here items number own)

  port_else : (own : ℕ → List Parcel) (ports' : List (Vec Port Global)) → ((i : ℕ) (r : Vec Port Global) → i ≢ number → slice_index_or ports' i r ≡ slice_index_or ports1 i r)
      → (i : ℕ) → i ≢ number → (r : Vec Port Global) → i < clients → IsPortRow depth tiles (now own i) (slice_index_or ports' i r).items
  port_else own ports' same i ne r lt =
      subst (λ (x : Vec Port Global). IsPortRow depth tiles (now own i) x.items) (sym (same i r ne ∙ changed.others i r ne))
      (subst (λ (f : ℕ → List Parcel). IsPortRow depth tiles f (slice_index_or ports i r).items) (sym (with_other items number own i ne)) (q.at i r lt))

  still : (own : ℕ → List Parcel) (rows' : List (Vec (PlainLane Parcel) Global)) (ports' : List (Vec Port Global))
      → HasNotAppended tiles (items number) own row'.items → (ports' ≡ ports1) × (rows' ≡ rows) → AreCarried own rows' ports'
  still own rows' ports' a e =
      let same : (i t : ℕ) → now own i t ≡ items i t = λ i t. at_one_or_other (λ j. now own j t ≡ items j t) number
      (own_here own t ∙ ap (λ (f : ℕ → List Parcel). f t) a.now_is) (λ j ne. same_else own j t ne) i in
      record {
        rows_are = subst (λ rs. AreRowsOf depth clients tiles (now own) rs) (sym e.1) record {
          count = v.count;
          at = λ t d lt. lanes_as depth clients (λ client. items client t) (λ client. now own client t) (slice_index_or rows t d).items (λ i li. same i t) (v.at t d lt);
        };
        ports_are = subst (λ ps. ArePortsOf depth clients tiles (now own) ps) (sym e.0) record {
          count = changed.count ∙ q.count;
          at = at_one_or_other (λ i. (r : Vec Port Global) → i < clients → IsPortRow depth tiles (now own i) (slice_index_or ports1 i r).items) number
              (λ r li. subst (λ (x : Vec Port Global). IsPortRow depth tiles (now own number) x.items) (sym (changed.is r)) record {
                count = row_count;
                at = λ t d lt. record {
                  empty = a.none t d lt;
                  count = (counted t d lt).count ∙ ap length (sym (same number t));
                  most = (counted t d lt).most;
                };
              })
              (port_else own ports1 (λ i r ne. refl));
        };
      }

  module _ (own : ℕ → List Parcel) (t : ℕ) (rows' : List (Vec (PlainLane Parcel) Global)) (ports' : List (Vec Port Global))
      (a : HasAppended tiles (items number) own row'.items t) (k : IsCarried number t ports1 ports' rows rows') where
    abbrev lt : t < tiles
    lt = a.low_tile

    inside : t < length row'.items
    inside = let e = row_count in let f = lt in omega (arith, e, f)

    abbrev some_port : Port
    some_port = some_item row'.items t inside

    -- the line of ports that was carried from is the client's own
    line_is : k.ports_changed.line ≡ row'
    line_is = sym (k.ports_changed.rows_changed.was row') ∙ changed.is row'

    port_is : (d : Port) → k.port ≡ slice_index_or row'.items t d
    port_is d = sym (k.ports_changed.line_changed.was d) ∙ ap (λ (x : Vec Port Global). slice_index_or x.items t d) line_is

    over : (held k.lane' ≡ held k.lane ++ a.parcel ∷ []) × (k.port'.count ≡ k.port.count + 1)
    over = k.over.carried a.parcel (ap (λ (p : Port). p.sent) (port_is some_port) ∙ a.here some_port)

    lane_was : IsLaneOf depth (items number t) k.lane
    lane_was =
        subst (λ (x : PlainLane Parcel). IsLaneOf depth (items number t) x) (k.rows_changed.line_changed.was k.lane)
        (subst (λ (x : Vec (PlainLane Parcel) Global). IsLaneOf depth (items number t) (slice_index_or x.items number k.lane)) (k.rows_changed.rows_changed.was k.rows_changed.line)
        ((v.at t k.rows_changed.line lt).at number k.lane low))

    own_t : own t ≡ items number t ++ a.parcel ∷ []
    own_t = ap (λ (f : ℕ → List Parcel). f t) a.now_is ∙ with_here (items number) t _

    own_else : (i : ℕ) → i ≢ t → own i ≡ items number i
    own_else i ne = ap (λ (f : ℕ → List Parcel). f i) a.now_is ∙ with_other (items number) t _ i ne

    lane_now : IsLaneOf depth (now own number t) k.lane'
    lane_now = record {
      holds = over.0 ∙ ap (λ xs. xs ++ a.parcel ∷ []) lane_was.holds ∙ sym (own_here own t ∙ own_t);
      most = k.over.lane_depth ∙ lane_was.most;
    }

    row_was : AreLanesOf depth clients (λ client. items client t) k.rows_changed.line.items
    row_was = subst (λ (x : Vec (PlainLane Parcel) Global). AreLanesOf depth clients (λ client. items client t) x.items)
        (k.rows_changed.rows_changed.was k.rows_changed.line) (v.at t k.rows_changed.line lt)

    row_now : AreLanesOf depth clients (λ client. now own client t) k.rows_changed.line'.items
    row_now = record {
      count = k.rows_changed.line_changed.count ∙ row_was.count;
      at = at_one_or_other (λ i. (d : PlainLane Parcel) → i < clients → IsLaneOf depth (now own i t) (slice_index_or k.rows_changed.line'.items i d)) number
          (λ d li. subst (λ (x : PlainLane Parcel). IsLaneOf depth (now own number t) x) (sym (k.rows_changed.line_changed.is d)) lane_now)
          (λ i ne d li. subst (λ (x : PlainLane Parcel). IsLaneOf depth (now own i t) x) (sym (k.rows_changed.line_changed.others i d ne))
          (subst (λ (xs : List Parcel). IsLaneOf depth xs (slice_index_or k.rows_changed.line.items i d)) (sym (same_else own i t ne)) (row_was.at i d li)));
    }

    same_away : (i : ℕ) → i ≢ t → (client : ℕ) → now own client i ≡ items client i
    same_away i ne client = at_one_or_other (λ j. now own j i ≡ items j i) number (own_here own i ∙ own_else i ne) (λ j nj. same_else own j i nj) client

    port_now : IsEmptyPort depth (now own number t) k.port'
    port_now =
        let was = counted t some_port lt in
        let n = ap (λ (p : Port). p.count) (port_is some_port) ∙ was.count in
        let more = over.1 in
        let all = ap length (own_here own t ∙ own_t) in
        let l = length-append (items number t) (a.parcel ∷ []) in
        record {
          empty = k.over.empty;
          count = omega (arith, n, more, all, l);
          most = k.over.depth ∙ ap (λ (p : Port). p.depth) (port_is some_port) ∙ was.most;
        }

    line_now : IsPortRow depth tiles (now own number) k.ports_changed.line'.items
    line_now = record {
      count = k.ports_changed.line_changed.count ∙ ap (λ (x : Vec Port Global). length x.items) line_is ∙ row_count;
      at = at_one_or_other (λ i. (d : Port) → i < tiles → IsEmptyPort depth (now own number i) (slice_index_or k.ports_changed.line'.items i d)) t
          (λ d li. subst (λ (x : Port). IsEmptyPort depth (now own number t) x) (sym (k.ports_changed.line_changed.is d)) port_now)
          (λ i ne d li. subst (λ (x : Port). IsEmptyPort depth (now own number i) x)
          (sym (k.ports_changed.line_changed.others i d ne ∙ ap (λ (x : Vec Port Global). slice_index_or x.items i d) line_is)) record {
            empty = a.others i d li ne;
            count = (counted i d li).count ∙ ap length (sym (same_away i ne number));
            most = (counted i d li).most;
          });
    }

    carried : AreCarried own rows' ports'
    carried = record {
      rows_are = record {
        count = k.rows_changed.rows_changed.count ∙ v.count;
        at = at_one_or_other (λ i. (d : Vec (PlainLane Parcel) Global) → i < tiles → AreLanesOf depth clients (λ client. now own client i) (slice_index_or rows' i d).items) t
            (λ d li. subst (λ (x : Vec (PlainLane Parcel) Global). AreLanesOf depth clients (λ client. now own client t) x.items)
            (sym (k.rows_changed.rows_changed.is d)) row_now)
            (λ i ne d li. subst (λ (x : Vec (PlainLane Parcel) Global). AreLanesOf depth clients (λ client. now own client i) x.items)
            (sym (k.rows_changed.rows_changed.others i d ne))
            (lanes_as depth clients (λ client. items client i) (λ client. now own client i) (slice_index_or rows i d).items (λ c lc. same_away i ne c) (v.at i d li)));
      };
      ports_are = record {
        count = k.ports_changed.rows_changed.count ∙ changed.count ∙ q.count;
        at = at_one_or_other (λ i. (r : Vec Port Global) → i < clients → IsPortRow depth tiles (now own i) (slice_index_or ports' i r).items) number
            (λ r li. subst (λ (x : Vec Port Global). IsPortRow depth tiles (now own number) x.items) (sym (k.ports_changed.rows_changed.is r)) line_now)
            (port_else own ports' (λ i r ne. k.ports_changed.rows_changed.others i r ne));
      };
    }

  pub are_carried : (m : ClientMoved) (own : ℕ → List Parcel) (rows' : List (Vec (PlainLane Parcel) Global)) (ports' : List (Vec Port Global))
      → where_appended m (HasAppended tiles (items number) own row'.items) (HasNotAppended tiles (items number) own row'.items)
      → where_appended m (λ t. IsCarried number t ports1 ports' rows rows') ((ports' ≡ ports1) × (rows' ≡ rows)) → AreCarried own rows' ports'
  are_carried (moved.Appended t) own rows' ports' a k = carried own t rows' ports' a k
  are_carried moved.Requested own rows' ports' a k = still own rows' ports' a k
  are_carried (moved.BlockedTile t) own rows' ports' a k = still own rows' ports' a k
  are_carried moved.BlockedRequest own rows' ports' a k = still own rows' ports' a k
  are_carried moved.Ended own rows' ports' a k = still own rows' ports' a k
