-- Traces: lists that grow at their end, and what they begin with.
use Rattle.std.specs.Prelude.{ℕ, zero, suc, ◌≡◌}

infixl 50 ◌▷◌
infix 4 ◌⊑◌
-- the empty trace, and `h ▷ x`: the trace h, and then x
pub data Trace (A : Type 0) : Type 0 where
  start : Trace A
  ◌▷◌ : Trace A → A → Trace A

-- how many items a trace has
abbrev pub length_of : {A : Type 0} → Trace A → ℕ
length_of start = zero
length_of (h ▷ x) = suc (length_of h)

-- h ⊑ k: the trace k begins with h
pub data ◌⊑◌ {A : Type 0} (h : Trace A) : Trace A → Type 0 where
  whole : {k : Trace A} → h ≡ k → h ⊑ k
  shorter : {k : Trace A} {x : A} → h ⊑ k → h ⊑ (k ▷ x)
