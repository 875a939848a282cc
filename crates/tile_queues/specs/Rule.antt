-- The rule of a lane, and its seven kinds of step.
--
-- A lane is a queue that two threads share. Each thread has a pass, and a pass has a history: what it may do, and what went in or came out by it. The
-- rule, InOrder, is about what the lane holds and about the histories of all passes. A lane changes by these steps alone, each made at one moment by
-- one pass; each keeps the rule, so it holds at every moment of every run.
--
--   the two passes are made, before any item     idle_pass becomes sender_pass, and receiver_pass comes
--   a look comes with a pass of its own          idle_pass comes
--   a push appends an item                       Appends
--   a push finds the lane full                   no history changes; IsWithinSent is known of what the lane held
--   a pop takes the front                        Takes
--   a pop finds the lane empty                   no history changes
--   the two passes are brought together          both_passes stays, and idle_pass is left; each pop by the pass that stays TakesNext, since IsLeft
--                                                is known of what the lane holds
use Rattle.std.specs.Prelude.{◌≡◌, ◌<◌, ◌≤◌, ℕ, Bool, true, false, List, [], ◌∷◌, ◌++◌, length, drop}
use mathlib.Core.Option.{some}
use lib.ListN.{get_elem?}
use Rattle.crossbeam_queue.specs.Passes.{Pass}
use Rattle.tile_queues.specs.declared.rule.History.{History}

module _ {T : Type 0} where
  abbrev pub history : Bool → Bool → ℕ → List T → List T → History T
  history sends takes depth sent taken = record { sends = sends; takes = takes; depth = depth; sent = sent; taken = taken }

  -- A pass that may send is the lane's first, and knows the lane's depth and all that was sent; one that may take is the receiver, and knows all
  -- that was taken.
  abbrev pub Fits : ℕ → ℕ → List T → List T → ℕ → History T → Type 0
  Fits receiver depth sent taken pass h =
      (h.sends ≡ true → (pass ≡ 0) × (h.depth ≡ depth) × (h.sent ≡ sent)) × (h.takes ≡ true → (pass ≡ receiver) × (h.taken ≡ taken))

  -- nothing was sent, and no pass may take
  pub record IsUnparted (sent : List T) (histories : List (History T)) : Type 0 where
    pub unsent : sent ≡ []
    pub untaken : (pass : ℕ) (h : History T) → get_elem? histories pass ≡ some h → h.takes ≡ false

  -- What was sent is what was taken, and then what the lane holds, which is at most as many items as the lane is deep. Until the first pass may send, the lane
  -- is unparted.
  pub record InOrder (held : List T) (histories : List (History T)) : Type 0 where
    pub sent : List T
    pub taken : List T
    pub order : sent ≡ taken ++ held
    pub depth : ℕ
    pub room : length held ≤ depth
    pub receiver : ℕ
    pub passes : (pass : ℕ) (h : History T) → get_elem? histories pass ≡ some h → Fits receiver depth sent taken pass h
    pub any : 0 < length histories
    pub begins : (h : History T) → get_elem? histories 0 ≡ some h → h.sends ≡ false → IsUnparted sent histories

  -- a pass that may do nothing: the one of a new lane, that of a look, and one that was brought together with the other
  abbrev pub idle_pass : History T
  idle_pass = history false false 0 [] []

  abbrev pub sender_pass : ℕ → History T
  sender_pass depth = history true false depth [] []

  abbrev pub receiver_pass : ℕ → History T
  receiver_pass depth = history false true depth [] []

  -- what was sent grows by the item
  abbrev pub Appends : History T → T → History T → Type 0
  Appends h item after = after ≡ history h.sends h.takes h.depth (h.sent ++ item ∷ []) h.taken

  -- no more is held than was sent
  abbrev pub IsWithinSent : History T → List T → Type 0
  IsWithinSent h held = length held ≤ length h.sent

  -- what was taken grows by the item
  abbrev pub TakesItem : History T → T → History T → Type 0
  TakesItem h item after = after ≡ history h.sends h.takes h.depth h.sent (h.taken ++ item ∷ [])

  -- the sender's pass, which knows now what the receiver took
  abbrev pub both_passes : History T → History T → History T
  both_passes sender receiver = history true true sender.depth sender.sent receiver.taken

  -- what was taken grows by the item, which was sent next
  abbrev pub TakesNext : History T → T → History T → Type 0
  TakesNext h item after = TakesItem h item after × ((later : List T) × (h.sent ≡ h.taken ++ item ∷ later))

  -- what is held is all that was sent and not taken
  abbrev pub IsHeld : History T → List T → Type 0
  IsHeld h held = (h.sent ≡ h.taken ++ held) × (length held ≤ h.depth)

  -- what was sent and not taken
  abbrev pub left_of : History T → List T
  left_of h = drop (length h.taken) h.sent

  -- which lane a pass is of, as a list of numbers, whose first is how many items the lane holds at most
  abbrev pub lane_name : Pass T (History T) → List ℕ
  lane_name p = p.table_id.slots ∷ p.table_id.words ∷ p.table_id.views_name ∷ p.table_id.atom ∷ p.table_id.block ∷ p.table_id.offset ∷ p.table_id.slot_names
