-- A valid writer in the paper's words (document 01, "Causes and places").
use Rattle.std.specs.Prelude.{ℕ, ◌≤◌, ◌<◌, ◌≡◌, [], ◌∷◌, T}
use Rattle.message.specs.HeadRules.{byte, among}
use Rattle.writer.specs.declared.writer.Writer.{Writer}

pub record ValidWriter (w : Writer) : Type 0 where
  pub format : w.format < 2
  -- "a writer's tail is 0, 20, 40, 60, 80 or 100 bytes"
  pub tail : T (among (0 ∷ 20 ∷ 40 ∷ 60 ∷ 80 ∷ 100 ∷ []) w.len)
  -- "with zeros behind"
  pub behind : (i : ℕ) → w.len ≤ i → byte w.tail i ≡ 0
