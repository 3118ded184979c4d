-- Two refusals that are one have one cause and one place. Assumes nothing.
use Prim.Native.Nat.{ℕ}
use mathlib.Core.Path.{◌≡◌, ap}
use Rattle.std.specs.Prelude.{Ok, Err}
use Rattle.cause.specs.Checks.{Verdict, Refused}
use Rattle.cause.specs.declared.Cause.{Cause}
use Rattle.cause.specs.declared.Fault.{Fault}

-- the fault of a refusal, or another one
fault_or : Fault → Verdict → Fault
fault_or other (Ok _) = other
fault_or other (Err fault) = fault

pub refused_by : (a k : Cause) (b p : ℕ) → Refused a b ≡ Refused k p → a ≡ k
unfolding fault_or
refused_by a k b p e = ap (λ (v : Verdict). (fault_or (record { cause = a; place = b }) v).cause) e

pub refused_at : (a k : Cause) (b p : ℕ) → Refused a b ≡ Refused k p → b ≡ p
unfolding fault_or
refused_at a k b p e = ap (λ (v : Verdict). (fault_or (record { cause = a; place = b }) v).place) e
