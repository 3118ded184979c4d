-- What was read of standard input.
use Rattle.std.specs.Prelude.{ℕ, ◌-◌, ◌≤◌, ◌≡◌, List, length, Ok}
use Rattle.lists.specs.Parts.{part}
use Rattle.input.specs.Refills.{Refilled}
use Rattle.input.specs.declared.Refill.TheVariants.{Got, End}

-- refills of a space from its front on, each behind the bytes of those before it: the space, and how many bytes they gave
pub data Refills : List ℕ → ℕ → Type 0 where
  none : (space : List ℕ) → Refills space 0
  more : {space : List ℕ} {have : ℕ} → Refills space have → (after : List ℕ) (n : ℕ)
      → Refilled (part 0 (have - 0) space) space after (Ok (Got n)) → Refills after n

-- all of the input that a space holds: it is full, or the input has ended behind the refills
pub data Whole (space : List ℕ) (have : ℕ) : Type 0 where
  full : Refills space have → have ≡ length space → Whole space have
  ended : {before : List ℕ} → Refills before have → Refilled (part 0 (have - 0) before) before space (Ok End) → Whole space have

-- the bytes that were read, by the space afterwards
pub record Loaded (space : List ℕ) (have : ℕ) : Type 0 where
  pub within : have ≤ length space
  pub whole : Whole space have
