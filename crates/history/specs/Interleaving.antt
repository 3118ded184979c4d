-- Two tap records of the same containers, however the directions are interleaved (document 02, K14).
use Rattle.std.specs.Prelude.{ℕ, ◌≡◌}
use Rattle.history.specs.Trace.{Trace, start, ◌▷◌}
use Rattle.history.specs.Link.{Direction, direction0, direction1}
use Rattle.history.specs.History.{Entry}
use Rattle.history.specs.Bounds.{containers_of}
use Rattle.history.specs.Calls.{Auditor}

-- "the same containers in the same order within each direction"
abbrev pub SameContainers : {A : Type 0} → Trace (Entry A) → Trace (Entry A) → Type 0
SameContainers t u = (d : Direction) → containers_of d t ≡ containers_of d u

-- "However the directions are interleaved": entries in which the containers a pass in direction 0 and the containers b in direction 1,
-- either of the two next at any time
pub data Interleaves {A : Type 0} : Trace A → Trace A → Trace (Entry A) → Type 0 where
  none : Interleaves start start start
  next0 : {a b : Trace A} {t : Trace (Entry A)} (c : A) → Interleaves a b t → Interleaves (a ▷ c) b (t ▷ record { direction = direction0; container = c })
  next1 : {a b : Trace A} {t : Trace (Entry A)} (c : A) → Interleaves a b t → Interleaves a (b ▷ c) (t ▷ record { direction = direction1; container = c })

-- "the same credits held, open messages .. in every pool", as an audit reports them
pub record SameReports {A : Type 0} (U : Auditor A) (l m : U.Ledger) : Type 0 where
  pub held : (d : Direction) (p : ℕ) → U.held l d p ≡ U.held m d p
  pub unfinished : (d : Direction) (p : ℕ) → U.unfinished l d p ≡ U.unfinished m d p
