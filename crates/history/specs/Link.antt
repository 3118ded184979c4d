-- A link: its two directions, what a reader makes of the containers of each, and the buffers of the two receivers.
use Rattle.std.specs.Prelude.{ℕ, zero, suc, ◌+◌, ◌≤◌, ◌≡◌, Bool, true, false}
use Rattle.std.proofs.Math.Option.{Option, none, some}

-- the two directions
pub data Direction : Type 0 where
  direction0 direction1 : Direction

-- the number that a direction has in a call
abbrev pub number_of : Direction → ℕ
number_of direction0 = 0
number_of direction1 = 1

-- the direction of a number; any number but 0 and 1 is that of none
abbrev pub direction_of : ℕ → Option Direction
direction_of zero = some direction0
direction_of (suc zero) = some direction1
direction_of (suc (suc n)) = none

-- the direction that a container's grants pay
abbrev pub opposite : Direction → Direction
opposite direction0 = direction1
opposite direction1 = direction0

-- whether two directions are one
abbrev pub same_direction : Direction → Direction → Bool
same_direction direction0 direction0 = true
same_direction direction0 direction1 = false
same_direction direction1 direction0 = false
same_direction direction1 direction1 = true

-- what later definitions know of containers, of their reader and of the receivers
pub record Link : Type 1 where
  -- what goes over the link
  pub Container : Type 0
  -- what a direction's reader keeps from one container to the next, and what it keeps at first
  pub State : Type 0
  pub fresh : State
  -- whether a container, read in this state, keeps the rules for bytes, heads and placement and those for pools
  pub reads : Direction → State → Container → Bool
  -- the state behind a container
  pub next : Direction → State → Container → State
  -- the credits that a container grants to each pool of the opposite direction, its header and its messages together
  pub grants : Direction → State → Container → ℕ → ℕ
  -- the messages that start in a container, in each pool with the credits that they pay: of pool 9 responses (document 02, K3)
  pub begins : Direction → State → Container → ℕ → ℕ
  -- the messages that end in a container, likewise
  pub finishes : Direction → State → Container → ℕ → ℕ
  -- the messages that have started and not ended, likewise
  pub carried : State → ℕ → ℕ
  -- whether a state is a valid one of this direction's reader
  pub state_ok : Direction → State → Bool
  -- the number of pools of a receiver
  pub pools : ℕ
  -- the buffers of each pool of a direction's receiver
  pub capacity : Direction → ℕ → ℕ

-- what the theorems ask of a link: valid states lead to valid states, no message is lost, and nothing is counted past the last pool
pub record Lawful (K : Link) : Type 0 where
  -- nothing is carried at first
  pub none_at_first : (p : ℕ) → K.carried K.fresh p ≡ 0
  -- each message that is carried in or starts ends here or is carried on
  pub none_lost : (d : Direction) (s : K.State) (c : K.Container) (p : ℕ) → K.state_ok d s ≡ true → K.reads d s c ≡ true
      → K.carried s p + K.begins d s c p ≡ K.finishes d s c p + K.carried (K.next d s c) p
  -- the first state is valid
  pub fresh_ok : (d : Direction) → K.state_ok d K.fresh ≡ true
  -- the state behind a container that reads is valid
  pub next_ok : (d : Direction) (s : K.State) (c : K.Container) → K.state_ok d s ≡ true → K.reads d s c ≡ true → K.state_ok d (K.next d s c) ≡ true
  -- no container that reads grants to or pays a pool past the last, and none read in a valid state ends a message there
  pub no_grant_law : (d : Direction) (s : K.State) (c : K.Container) (p : ℕ) → K.reads d s c ≡ true → K.pools ≤ p → K.grants d s c p ≡ 0
  pub no_begin : (d : Direction) (s : K.State) (c : K.Container) (p : ℕ) → K.reads d s c ≡ true → K.pools ≤ p → K.begins d s c p ≡ 0
  pub no_finish : (d : Direction) (s : K.State) (c : K.Container) (p : ℕ) → K.state_ok d s ≡ true → K.reads d s c ≡ true → K.pools ≤ p
      → K.finishes d s c p ≡ 0
