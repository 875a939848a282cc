-- Writing one thing after the other.
use Rattle.std.proofs.Common.{◌≡◌, ℕ, zero, suc, get_or, ◌≤◌, ◌<◌, List, [], ◌∷◌, ◌++◌, length, map, drop, Option, None, Result, Ok, Err, refl, sym, ap, subst, ◌∙◌, append_assoc, arith}
use Rattle.std.specs.Prelude.{OnOk, IfOk, sum_by}
use Rattle.std.specs.List.{flat_map, AllByRecursion}
use Rattle.std.proofs.lemmas.List.Concat.{flat_map-cons}
use Rattle.std.proofs.lemmas.List.{append-nil, drop_all}
use Rattle.std.proofs.lemmas.Bool.Decides.{nat_tests}
use Rattle.rc_base.specs.declared.command.Command.{Command}
use Rattle.rc_base.specs.Formats.Commands.{IsCommand}
use Rattle.rc_base.specs.declared.scene.Decl.{Decl}
use Rattle.rc_base.specs.declared.scene.Limit.{Limit}
use Rattle.rc_base.specs.declared.scene.Scene.{Scene}
use Rattle.rc_base.specs.Formats.Limits.{first_outside, barrier_count, side, size_area, limit_of}
use Rattle.rc_base.specs.Formats.Spelling.{CommandSet, SceneForm, half, size, magic, header, stream_text, encoded, IsCount, IsSide, IsSize, IsDecl, IsDeclOf, IsPacketOf, SpellsStream, SpellStreams, SpellStreamsOf, SpellsScene, SpellsSceneOf}
use Rattle.packet_bytes.proofs.EncodedSpells.{encoded_spells}
use Rattle.byte_codec.proofs.WrittenInTurn.{all_both}
use Rattle.scene_file.specs.Written.{written, IsShort, IsWritable}
use Rattle.scene_file.specs.Judging.{or_else, one, window_part, judge_counts, judge_decl}
use Rattle.scene_file.proofs.LimitsByParts.{outside_append, limit_parts, none_first, single, window_within}

pub if_ok_map : {A E : Type 0} {P Q : A → Type 0} (r : Result A E) → ((x : A) → P x → Q x) → IfOk r P → IfOk r Q
if_ok_map (Ok x) f h = f x h
if_ok_map (Err e) f h = tt

pub on_ok_map : {A E P Q : Type 0} (r : Result A E) → (P → Q) → OnOk r P → OnOk r Q
on_ok_map (Ok x) f h = f h
on_ok_map (Err e) f h = tt

-- seven pieces, each put behind the one before
pub seven : (old a b c d e f g m w h n s k u : List ℕ) → a ≡ old ++ m → b ≡ a ++ w → c ≡ b ++ h → d ≡ c ++ n → e ≡ d ++ s → f ≡ e ++ k → g ≡ f ++ u
    → g ≡ old ++ (m ++ (w ++ (h ++ (n ++ (s ++ (k ++ u))))))
seven old a b c d e f g m w h n s k u pa pb pc pd pe pf pg =
    let two : b ≡ old ++ (m ++ w) = pb ∙ ap (λ (l : List ℕ). l ++ w) pa ∙ append_assoc old m w in
    let three : c ≡ (old ++ (m ++ w)) ++ h = pc ∙ ap (λ (l : List ℕ). l ++ h) two in
    let four : d ≡ ((old ++ (m ++ w)) ++ h) ++ n = pd ∙ ap (λ (l : List ℕ). l ++ n) three in
    let five : e ≡ (((old ++ (m ++ w)) ++ h) ++ n) ++ s = pe ∙ ap (λ (l : List ℕ). l ++ s) four in
    let six : f ≡ ((((old ++ (m ++ w)) ++ h) ++ n) ++ s) ++ k = pf ∙ ap (λ (l : List ℕ). l ++ k) five in
    pg ∙ ap (λ (l : List ℕ). l ++ u) six ∙ simp append_assoc

-- ---- what the limits say

single_below : (n : ℕ) → first_outside (barrier_count n ∷ []) ≡ None → n < 256
single_below n h = grind (arith, nat_tests)

step_within : (n : ℕ) (later : Option Limit) → or_else (first_outside (barrier_count n ∷ [])) later ≡ None → (n < 256) × (later ≡ None)
step_within n later h =
    let s = none_first (first_outside (barrier_count n ∷ [])) later h in
    (single_below n s.0, s.1)

within_eight : (counts : List ℕ) → first_outside (map barrier_count counts) ≡ None → AllByRecursion IsCount counts
within_eight [] h = tt
within_eight (n ∷ ns) h = let s = step_within n (first_outside (map barrier_count ns)) (sym (outside_append (barrier_count n ∷ []) (map barrier_count ns)) ∙ h) in (s.0, within_eight ns s.1)

pub record Within (s : Scene) : Type 0 where
  pub width : s.decl.width ≤ 2048
  pub height : s.decl.height ≤ 2048
  pub clients : length s.streams ≤ 8
  pub shared : length s.decl.shared ≤ 16
  pub barriers : length s.decl.barriers ≤ 64
  pub counts : AllByRecursion IsCount s.decl.barriers
  pub semaphores : length s.decl.semaphores ≤ 64

pub within : (s : Scene) → limit_of s ≡ None → Within s
within s h =
    let d = s.decl in
    let declared = none_first (judge_decl d (length s.streams)) _ (sym (limit_parts s) ∙ h) in
    let window_ = none_first (first_outside (window_part d (length s.streams))) (judge_counts d) declared.0 in
    let two = none_first (first_outside (map side (flat_map (λ size. size) d.shared))) _ window_.1 in
    let three = none_first (first_outside (one 7 (sum_by size_area d.shared) 1048576)) _ two.1 in
    let four = none_first (first_outside (one 8 (length d.barriers) 64)) _ three.1 in
    let five = none_first (first_outside (map barrier_count d.barriers)) (first_outside (one 10 (length d.semaphores) 64)) four.1 in
    let window = window_within d (length s.streams) window_.0 in
    record {
      width = window.0;
      height = window.1;
      clients = window.2;
      shared = window.3;
      barriers = single 8 (length d.barriers) 64 four.0;
      counts = within_eight d.barriers five.0;
      semaphores = single 10 (length d.semaphores) 64 five.1;
    }

-- a header, piece by piece
pub header_put : (d : Decl) (n : ℕ) (old m a b c e f g h w x k u : List ℕ) (s : List (List ℕ)) (p q r : ℕ)
    → a ≡ old ++ m → b ≡ a ++ w → c ≡ b ++ x → e ≡ c ++ (n ∷ p ∷ q ∷ r ∷ []) → f ≡ e ++ flat_map size s → g ≡ f ++ k
    → m ≡ magic d.version → w ≡ half d.width → x ≡ half d.height → p ≡ length d.shared → q ≡ length d.barriers → r ≡ length d.semaphores → s ≡ d.shared → k ≡ d.barriers → u ≡ d.semaphores
    → h ≡ g ++ flat_map half u → h ≡ old ++ header d n
header_put d n old m a b c e f g h w x k u s p q r pa pb pc pe pf pg em ew ex ep eq er es ek eu ph =
    seven old a b c e f g h m w x (n ∷ p ∷ q ∷ r ∷ []) (flat_map size s) k (flat_map half u) pa pb pc pe pf pg ph
    ∙ (λ i. old ++ (em i ++ (ew i ++ (ex i ++ ((n ∷ ep i ∷ eq i ∷ er i ∷ []) ++ (flat_map size (es i) ++ (ek i ++ flat_map half (eu i))))))))

-- what holds of each element holds of all
pub all_from : {A : Type 0} (P : A → Type 0) (xs : List A) (d : A) → ((k : ℕ) → k < length xs → P (get_or xs k d)) → AllByRecursion P xs
all_from P [] d h = tt
all_from P (x ∷ xs) d h = (h 0 (omega arith), all_from P xs d (λ k lt. h (suc k) (omega arith)))

-- each element of a list has what all have, and so has an empty one
pub all_at : (P : List Command → Type 0) (css : List (List Command)) → P [] → AllByRecursion P css → (k : ℕ) → P (get_or css k [])
all_at P [] none h k = none
all_at P (cs ∷ css) none h zero = h.0
all_at P (cs ∷ css) none h (suc k) = all_at P css none h.1 k

-- a stream's packets spell it
abbrev pub IsEncoded : List Command → Type 0
IsEncoded commands = SpellsStream (encoded commands) commands

streams_spelled : (css : List (List Command)) → AllByRecursion IsEncoded css → AllByRecursion IsShort css → SpellStreams (map encoded css) css
streams_spelled [] e s = tt
streams_spelled (cs ∷ css) e s = (e.0, s.0, streams_spelled css e.1 s.1)

pub scene_written : (s : Scene) → IsWritable s → AllByRecursion IsSize s.decl.shared × AllByRecursion IsSide s.decl.semaphores → AllByRecursion IsEncoded s.streams → SpellsScene (written s) s
scene_written s is fits encodes =
    let w = within s is.within in
    record {
      texts = map encoded s.streams;
      each = streams_spelled s.streams encodes is.short;
      few = omega (arith, w.clients);
      decl = record {
        version = is.version;
        width = omega (arith, w.width);
        height = omega (arith, w.height);
        few_shared = omega (arith, w.shared);
        few_barriers = omega (arith, w.barriers);
        few_semaphores = omega (arith, w.semaphores);
        shared = fits.0;
        barriers = w.counts;
        semaphores = fits.1;
      };
      parts = refl;
    }

-- when the loop over the streams is done
pub loop_done : (s : Scene) (bytes : List ℕ) (i : ℕ) → IsWritable s → AllByRecursion IsSize s.decl.shared × AllByRecursion IsSide s.decl.semaphores → length s.streams ≤ i
    → bytes ++ flat_map stream_text (map encoded (drop i s.streams)) ≡ written s → ((k : ℕ) → k < i → IsEncoded (get_or s.streams k [])) → SpellsScene bytes s
loop_done s bytes i is fits le parts each =
    let none : drop i s.streams ≡ [] = drop_all i s.streams le in
    let same : bytes ≡ written s = sym (append-nil bytes) ∙ ap (λ (css : List (List Command)). bytes ++ flat_map stream_text (map encoded css)) (sym none) ∙ parts in
    let encodes = all_from IsEncoded s.streams [] (λ k lt. each k (omega arith)) in
    subst (λ (l : List ℕ). SpellsScene l s) (sym same) (scene_written s is fits encodes)

-- ---- a scene whose fields are in their ranges

all_encoded : (css : List (List Command)) → AllByRecursion (AllByRecursion IsCommand) css → AllByRecursion IsEncoded css
all_encoded [] h = tt
all_encoded (cs ∷ css) h = (encoded_spells cs h.0, all_encoded css h.1)

pub written_read : (s : Scene) → IsWritable s → IsDecl s.decl → AllByRecursion (AllByRecursion IsCommand) s.streams → SpellsScene (written s) s
written_read s is decl commands = scene_written s is (decl.shared, decl.semaphores) (all_encoded s.streams commands)

module _ {C O : Type 0} (set : CommandSet C O) where
  packets_typed : (ps : List (List C)) → AllByRecursion (IsPacketOf set) ps → AllByRecursion set.IsOne (flat_map (λ p. p) ps)
  packets_typed [] h = tt
  packets_typed (p ∷ ps) h = subst (AllByRecursion set.IsOne) (sym (flat_map-cons (λ (l : List C). l) p ps)) (all_both set.IsOne p (flat_map (λ l. l) ps) h.0.each (packets_typed ps h.1))

  streams_typed : (ts : List (List ℕ)) (css : List (List C)) → SpellStreamsOf set ts css → AllByRecursion (AllByRecursion set.IsOne) css
  streams_typed [] [] h = tt
  streams_typed [] (cs ∷ css) h = absurd h
  streams_typed (t ∷ ts) [] h = absurd h
  streams_typed (t ∷ ts) (cs ∷ css) h = (subst (AllByRecursion set.IsOne) (sym h.0.whole) (packets_typed h.0.packets h.0.each), streams_typed ts css h.2)

-- the fields of a scene that was read are in their ranges
pub read_typed : {C O : Type 0} (form : SceneForm C O) (bytes : List ℕ) (d : Decl) (css : List (List C)) → SpellsSceneOf form bytes d css
    → IsDeclOf form d × AllByRecursion (AllByRecursion form.set.IsOne) css
read_typed form bytes d css sp = (sp.decl, streams_typed form.set sp.texts css sp.each)
