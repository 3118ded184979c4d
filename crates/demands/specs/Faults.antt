-- "Causes and places" (document 01), the table of a new reader or writer.
use Rattle.std.specs.Prelude.{ℕ, ◌≤◌}

-- a new reader or writer: 19 | format not valid | 0
pub data FormatFault (f : ℕ) : ℕ → ℕ → Type 0 where
  unknown : 2 ≤ f → FormatFault f 19 0
