-- A log handed over in parts: each call gets the bytes that the last one has left and the next part, and the last call says that the log
-- has ended.
use Rattle.std.specs.Prelude.{ℕ, true, false, List, [], ◌∷◌, ◌++◌, drop, None, Some}
use Rattle.logs.specs.Stream.{consuming, Outcome}
use Rattle.logs.specs.declared.log.LogVerdict.{LogVerdict}
use Rattle.logs.specs.declared.log.LogVerdict.TheVariants.{Accepted}
use Rattle.logs.specs.declared.log.LogReader.{LogReader}

-- the first verdict stands
abbrev pub told : Outcome → LogVerdict → LogVerdict
told None v = v
told (Some w) v = w

-- the verdict of the calls, from a state and the bytes left over
unfoldable pub run : LogReader → List ℕ → List (List ℕ) → LogVerdict
run s rest [] = told (consuming s rest true).outcome (Accepted 0)
run s rest (p ∷ ps) =
    told (consuming s (rest ++ p) false).outcome
    (run (consuming s (rest ++ p) false).reader (drop (consuming s (rest ++ p) false).used (rest ++ p)) ps)
