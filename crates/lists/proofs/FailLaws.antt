-- Tests that fail.
use Prim.Native.Nat.{ℕ, ◌<◌}
use mathlib.Core.Path.{◌≡◌, refl}
use mathlib.Core.Bool.{Bool, true, false, ◌&&◌, ◌||◌, not}
use mathlib.Core.Logic.{◌⊎◌, inl, inr}
use native.Mathlib.Omega.{arith}
use lib.Dec.{T, eqb}
use borrow.Author.Tests.{ne_eqb, eqb-false}
use Rattle.lists.proofs.Tests.{never_both, and_false}

pub guard_fails : (a b : Bool) → (not a || b) ≡ false → T a × (b ≡ false)
guard_fails true b e = (tt, e)
guard_fails false b e = absurd (never_both e refl)

pub fail_guard : (a b : Bool) → T a → b ≡ false → (not a || b) ≡ false
fail_guard true b t e = e
fail_guard false b t e = absurd t

pub and_fails : (a b : Bool) → (a && b) ≡ false → (a ≡ false) ⊎ (b ≡ false)
and_fails true b e = inr e
and_fails false b e = inl refl

pub fail_left : (a b : Bool) → a ≡ false → (a && b) ≡ false
fail_left a b e = rw e

pub fail_right : (a b : Bool) → b ≡ false → (a && b) ≡ false
fail_right a b e = rw e (and_false a)

pub or_fails : (a b : Bool) → (a || b) ≡ false → (a ≡ false) × (b ≡ false)
or_fails true b e = absurd (never_both e refl)
or_fails false b e = (refl, e)

pub not_zero : (n : ℕ) → eqb n 0 ≡ false → 0 < n
not_zero n e = let d = eqb-false n 0 e in omega arith

pub zero_not : (n : ℕ) → 0 < n → eqb n 0 ≡ false
zero_not n h = ne_eqb n 0 (λ e. omega arith)
