-- What a refill of a window comes to.
use Rattle.std.specs.Prelude.{ℕ, zero, suc, ◌≤◌, ◌<◌, min, ◌≡◌, List, length, take, Result, Ok, Err}
use Rattle.std.specs.declared.io.Error.{Error}
use Rattle.input.specs.declared.Refill.{Refill}
use Rattle.input.specs.declared.Refill.TheVariants.{Got, End, Full}

-- so many bytes were read
abbrev pub by_count : ℕ → Refill
by_count zero = End
by_count (suc n) = Got (suc n)

-- by the answer of a read that was lent l bytes: an error is that of the refill
abbrev pub answered : Result ℕ Error → ℕ → Result Refill Error
answered (Ok n) l = Ok (by_count (min n l))
answered (Err e) l = Err e

-- the bytes at hand behind k kept ones in a window of l bytes; a read that fails had room
abbrev pub AtHand : ℕ → ℕ → Result Refill Error → Type 0
AtHand k l (Ok (Got n)) = (k < n) × (n ≤ l)
AtHand k l (Ok End) = k < l
AtHand k l (Ok Full) = k ≡ l
AtHand k l (Err e) = k < l

-- a window before and after: its length stays, and the kept bytes stand at its front
pub record Refilled (kept before after : List ℕ) (r : Result Refill Error) : Type 0 where
  pub long : length after ≡ length before
  pub front : take (length kept) after ≡ kept
  pub more : AtHand (length kept) (length after) r
