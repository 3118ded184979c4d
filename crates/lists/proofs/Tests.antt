-- Laws on tests: what holds where a test made of others holds. Assumes nothing.
use Prim.Native.Nat.{ℕ}
use mathlib.Core.Path.{◌≡◌, refl}
use mathlib.Core.Bool.{Bool, true, false, ◌&&◌, ◌||◌}
use mathlib.Core.Logic.{◌⊎◌, inl, inr}
use native.Mathlib.Omega.{arith}
use lib.Dec.{T}

-- a test holds or fails
pub cases : (b : Bool) → (b ≡ true) ⊎ (b ≡ false)
cases true = inl refl
cases false = inr refl

-- no test both fails and holds
pub never_both : {b : Bool} → b ≡ false → b ≡ true → ⊥
never_both {b} f t = let z : ◌≡◌ {A = ℕ} 0 1 = cc in omega arith

pub not_true_false : (b : Bool) → (b ≡ true → ⊥) → b ≡ false
not_true_false true h = absurd (h refl)
not_true_false false h = refl

-- two tests that hold at the same places are equal
pub same_test : (a b : Bool) → (a ≡ true → b ≡ true) → (b ≡ true → a ≡ true) → a ≡ b
same_test true b f g = let e = f refl in cc
same_test false true f g = g refl
same_test false false f g = refl

-- between a test's equation and the statement T
pub T_true : (b : Bool) → T b → b ≡ true
T_true true t = refl
T_true false t = absurd t

pub true_t : (b : Bool) → b ≡ true → T b
true_t true e = tt
true_t false e = let z : ◌≡◌ {A = ℕ} 0 1 = cc in absurd (omega arith)

-- a conjunction, in statements and in equations
pub t_left : (a b : Bool) → T (a && b) → T a
t_left true b t = tt
t_left false b t = t

pub t_right : (a b : Bool) → T (a && b) → T b
t_right true b t = t
t_right false b t = absurd t

pub and_left : (a b : Bool) → (a && b) ≡ true → a ≡ true
and_left true b e = refl
and_left false b e = e

pub and_right : (a b : Bool) → (a && b) ≡ true → b ≡ true
and_right true b e = e
and_right false b e = cc

pub and_both : (a b : Bool) → a ≡ true → b ≡ true → (a && b) ≡ true
and_both a b e f = rw (e, f)

pub and_false : (b : Bool) → (b && false) ≡ false
and_false true = refl
and_false false = refl

pub and_assoc : (a b c : Bool) → ((a && b) && c) ≡ (a && (b && c))
and_assoc true b c = refl
and_assoc false b c = refl

-- a disjunction
pub or_cases : (a b : Bool) → T (a || b) → T a ⊎ T b
or_cases true b t = inl tt
or_cases false b t = inr t

pub or_true : (b : Bool) → (b || true) ≡ true
or_true true = refl
or_true false = refl
