-- An input handed over in parts: a call gets the bytes that the last one has left, and the next part behind them where the last one has
-- asked for more; where no part is left, the calls say that the input has ended.
use Rattle.std.specs.Prelude.{ℕ, zero, suc, true, false, List, [], ◌∷◌, ◌++◌, drop}
use Rattle.unpacker.specs.Stepping.{Turn, turn}
use Rattle.unpacker.specs.declared.unpack.Outcome.{Outcome}
use Rattle.unpacker.specs.declared.unpack.Outcome.TheVariants.{More, Next, Over}
use Rattle.unpacker.specs.declared.unpack.Unpacker.{Unpacker}

-- by the outcome of a call: nothing more, what the next call gives, or what it gives with the next part
abbrev pub behind : Outcome → List ℕ → List ℕ → List ℕ
behind (Over v) again more = []
behind Next again more = again
behind More again more = more

-- the bytes that a call has left
abbrev pub left_by : Turn → List ℕ → List ℕ
left_by t b = drop t.used b

-- the texts of at most k calls, one behind the other, from a state and the bytes left over
unfoldable pub run : ℕ → Unpacker → List ℕ → List (List ℕ) → List ℕ
run zero s b ps = []
run (suc k) s b [] = (turn s b true).text ++ behind (turn s b true).outcome (run k (turn s b true).next (left_by (turn s b true) b) []) []
run (suc k) s b (p ∷ ps) =
    (turn s b false).text
    ++ behind (turn s b false).outcome
    (run k (turn s b false).next (left_by (turn s b false) b) (p ∷ ps))
    (run k (turn s b false).next (left_by (turn s b false) b ++ p) ps)
