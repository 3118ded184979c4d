-- What the reading of a number looks at, and how much it takes. Assumes nothing.
use Prim.Native.Nat.{ℕ, zero, suc, ◌+◌, ◌*◌, ◌%◌, ◌≤◌}
use mathlib.Core.Path.{◌≡◌, refl, ap, ◌∙◌}
use mathlib.Core.Bool.{Bool, true, false}
use mathlib.Core.List.{List, [], ◌∷◌, ◌++◌}
use native.Mathlib.Omega.{arith}
use lib.ListN.{length}
use lib.Dec.{eqb, ltb, leb}
use Rattle.lists.specs.Pick.{pick}
use Rattle.record.specs.Number.{largest, joined, read_groups, read_number, Broken, Value}
use Rattle.record.specs.declared.number.Number.{Number}
use Rattle.std.specs.Prelude.{Option, Some, None}

-- a number that is read takes a byte, and no more than are allowed and there
abbrev pub Takes : Option Number → ℕ → ℕ → Type 0
Takes None n m = Unit {0}
Takes (Some number) n m = (1 ≤ number.used) × ((number.used ≤ n) × (number.used ≤ m))

takes_pick : (t : Bool) (a b : Option Number) (n m : ℕ) → Takes a n m → Takes b n m → Takes (pick t a b) n m
takes_pick true a b n m p q = p
takes_pick false a b n m p q = q

takes_joined : (low : ℕ) (r : Option Number) (n m : ℕ) → Takes r n m → Takes (joined low r) (suc n) (suc m)
takes_joined low None n m p = tt
takes_joined low (Some number) n m p =
    takes_pick (eqb number.value 0) Broken (pick (leb (low % 128 + 128 * number.value) largest) (Value (low % 128 + 128 * number.value) (number.used + 1)) Broken) (suc n) (suc m) tt
    (takes_pick (leb (low % 128 + 128 * number.value) largest) (Value (low % 128 + 128 * number.value) (number.used + 1)) Broken (suc n) (suc m)
    (omega arith, (omega arith, omega arith)) tt)

takes_groups : (n : ℕ) (l : List ℕ) → Takes (read_groups n l) n (length l)
takes_groups zero l = tt
takes_groups (suc n) [] = tt
takes_groups (suc n) (b ∷ l) =
    takes_pick (ltb b 128) (Value b 1) (joined b (read_groups n l)) (suc n) (suc (length l)) (omega arith, (omega arith, omega arith))
    (takes_joined b (read_groups n l) n (length l) (takes_groups n l))

pub takes_number : (l : List ℕ) → Takes (read_number l) 5 (length l)
unfolding read_number
takes_number l = takes_groups 5 l

pub number_takes : (l : List ℕ) (v u : ℕ) → read_number l ≡ Value v u → Takes (Value v u) 5 (length l)
number_takes l v u e = rw e at (takes_number l)

-- no more than five bytes are looked at
groups_append : (n : ℕ) (l m : List ℕ) → n ≤ length l → read_groups n (l ++ m) ≡ read_groups n l
groups_append zero l m h = refl
groups_append (suc n) [] m h = absurd (omega arith)
groups_append (suc n) (b ∷ l) m h = ap (λ (r : Option Number). pick (ltb b 128) (Value b 1) (joined b r)) (groups_append n l m (omega arith))

pub number_append : (l m : List ℕ) → 5 ≤ length l → read_number (l ++ m) ≡ read_number l
unfolding read_number
number_append l m h = groups_append 5 l m h

no_value : (v u : ℕ) → Broken ≡ Value v u → ⊥
no_value v u e = let z : ◌≡◌ {A = ℕ} 0 1 = cc in omega arith

-- a number that is there stays, whatever follows
stays : (t : Bool) (b : ℕ) (r s : Option Number) (v u : ℕ) → ((x y : ℕ) → r ≡ Value x y → s ≡ Value x y)
    → pick t (Value b 1) (joined b r) ≡ Value v u → pick t (Value b 1) (joined b s) ≡ Value v u
stays true b r s v u h e = e
stays false b None s v u h e = absurd (no_value v u e)
stays false b (Some number) s v u h e = ap (λ (q : Option Number). joined b q) (h number.value number.used refl) ∙ e

groups_stay : (n : ℕ) (l m : List ℕ) (v u : ℕ) → read_groups n l ≡ Value v u → read_groups n (l ++ m) ≡ Value v u
groups_stay zero l m v u e = absurd (no_value v u e)
groups_stay (suc n) [] m v u e = absurd (no_value v u e)
groups_stay (suc n) (b ∷ l) m v u e = stays (ltb b 128) b (read_groups n l) (read_groups n (l ++ m)) v u (groups_stay n l m) e

pub number_stays : (l m : List ℕ) (v u : ℕ) → read_number l ≡ Value v u → read_number (l ++ m) ≡ Value v u
unfolding read_number
number_stays l m v u e = groups_stay 5 l m v u e
