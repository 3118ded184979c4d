-- Reading a number and writing it are inverse to each other, and what is no number is broken. Assumes nothing.
use Prim.Native.Nat.{ℕ, zero, suc, ◌+◌, ◌-◌, ◌*◌, ◌/◌, ◌%◌, ◌^◌, ◌≤◌, ◌<◌}
use mathlib.Core.Path.{◌≡◌, refl, sym, ap, ◌∙◌}
use mathlib.Core.Bool.{true, false}
use mathlib.Core.List.{List, [], ◌∷◌, ◌++◌}
use mathlib.Core.Logic.{⊎_elim}
use native.Mathlib.Omega.{arith}
use native.Mathlib.Nat.{pow-suc}
use native.Mathlib.Numerals.{add-one, sub-one}
use lib.ListN.{length, get_or, drop, length-append}
use lib.Dec.{eqb, ltb, leb}
use borrow.Author.Tests.{lt-ltb, le-ltb, ltb-true, ltb-false, le-leb, leb-true, eqb-false, ne_eqb}
use Rattle.lists.specs.Pick.{pick}
use Rattle.lists.specs.Parts.{IsBytes}
use Rattle.lists.proofs.Tests.{cases}
use Rattle.lists.proofs.PickLaws.{pick_both}
use Rattle.record.specs.Number.{largest, groups, number, used_of, joined, read_groups, read_number, Broken, Value}
use Rattle.record.specs.declared.number.Number.{Number}
use Rattle.std.specs.Prelude.{Option, Some, None}

-- ---- one step of reading, as the code takes it

pub groups_none : (k : ℕ) (l : List ℕ) → length l ≡ 0 → read_groups k l ≡ Broken
groups_none zero l e = refl
groups_none (suc k) [] e = refl
groups_none (suc k) (b ∷ l) e = absurd (omega arith)

pub groups_some : (k : ℕ) (l : List ℕ) → (k ≡ 0 → ⊥) → (length l ≡ 0 → ⊥)
    → read_groups k l ≡ pick (ltb (get_or l 0 0) 128) (Value (get_or l 0 0) 1) (joined (get_or l 0 0) (read_groups (k - 1) (drop 1 l)))
groups_some zero l d e = absurd (d refl)
groups_some (suc k) [] d e = absurd (e refl)
groups_some (suc k) (b ∷ l) d e = rw (sub-one (suc k))

used_joined : (low : ℕ) (r : Option Number) (k : ℕ) → used_of r ≤ k → used_of (joined low r) ≤ suc k
used_joined low None k p = omega arith
used_joined low (Some number) k p =
    pick_both (λ (x : Option Number). used_of x ≤ suc k) (eqb number.value 0) {a = Broken} {b = pick (leb (low % 128 + 128 * number.value) largest) (Value (low % 128 + 128 * number.value) (number.used + 1)) Broken} (omega arith)
    (pick_both (λ (x : Option Number). used_of x ≤ suc k) (leb (low % 128 + 128 * number.value) largest) {a = Value (low % 128 + 128 * number.value) (number.used + 1)} {b = Broken} (omega arith) (omega arith))

pub used_groups : (k : ℕ) (l : List ℕ) → used_of (read_groups k l) ≤ k
used_groups zero l = omega arith
used_groups (suc k) [] = omega arith
used_groups (suc k) (b ∷ l) =
    pick_both (λ (x : Option Number). used_of x ≤ suc k) (ltb b 128) {a = Value b 1} {b = joined b (read_groups k l)} (omega arith) (used_joined b (read_groups k l) k (used_groups k l))

-- ---- what was written is read

joined_back : (n : ℕ) → 128 ≤ n → n ≤ largest → (u : ℕ) → joined (128 + n % 128) (Value (n / 128) u) ≡ Value n (u + 1)
joined_back n big small u =
    let d : n / 128 ≡ 0 → ⊥ = λ (e : n / 128 ≡ 0). omega arith in
    let r : (128 + n % 128) % 128 ≡ n % 128 = omega arith in
    let s : n % 128 + 128 * (n / 128) ≡ n = omega arith in
    rw (ne_eqb (n / 128) 0 d, r, s, le-leb n largest small)

groups_read : (k n : ℕ) (l : List ℕ) → n < 128 ^ suc k → n ≤ largest → read_groups (suc k) (groups (suc k) n ++ l) ≡ Value n (length (groups (suc k) n))
groups_read zero n l h s = let t : ltb n 128 ≡ true = lt-ltb n 128 (omega arith) in rw (t, t)
groups_read (suc k) n l h s = ⊎_elim one (several (groups_read k (n / 128) l)) (cases (ltb n 128))
  where
    Goal : Type 0
    Goal = read_groups (suc (suc k)) (groups (suc (suc k)) n ++ l) ≡ Value n (length (groups (suc (suc k)) n))

    one : ltb n 128 ≡ true → Goal
    one t = rw (t, t)

    quotient : n < 128 ^ suc k * 128 → n / 128 < 128 ^ suc k
    quotient h = omega arith

    several : (n / 128 < 128 ^ suc k → n / 128 ≤ largest → read_groups (suc k) (groups (suc k) (n / 128) ++ l) ≡ Value (n / 128) (length (groups (suc k) (n / 128))))
        → ltb n 128 ≡ false → Goal
    several ih t =
        let big : 128 ≤ n = ltb-false n 128 t in
        let top : ltb (128 + n % 128) 128 ≡ false = le-ltb (128 + n % 128) 128 (omega arith) in
        rw (t, top, ih (quotient (rw (pow-suc 128 (suc k)) at h)) (omega arith), joined_back n big s, add-one)

pub written_read : (n : ℕ) (l : List ℕ) → n ≤ largest → read_number (number n ++ l) ≡ Value n (length (number n))
unfolding read_number number
written_read n l h = groups_read 4 n l (omega arith) h

-- a number below 128 is one byte
pub number_small : (n : ℕ) → n < 128 → number n ≡ n ∷ []
unfolding number
number_small n h = rw (lt-ltb n 128 h)

-- the number of what was read, or another one
number_or : Number → Option Number → Number
number_or other None = other
number_or other (Some number) = number

-- two numbers that are one have one value and one length
pub value_same : (a n b u : ℕ) → Value a b ≡ Value n u → (a ≡ n) × (b ≡ u)
unfolding number_or
value_same a n b u e =
    let same : record { value = a; used = b } ≡ record { value = n; used = u } = ap (number_or (record { value = a; used = b })) e in
    (ap (λ (x : Number). x.value) same, ap (λ (x : Number). x.used) same)

-- groups behind a byte whose top bit is set make the number at least 128
joined_large : (low : ℕ) (r : Option Number) (n u : ℕ) → joined low r ≡ Value n u → 128 ≤ n
joined_large low None n u e = let z : ◌≡◌ {A = ℕ} 0 1 = cc in absurd (omega arith)
joined_large low (Some number) n u e = ⊎_elim longer other (cases (eqb number.value 0))
  where
    longer : eqb number.value 0 ≡ true → 128 ≤ n
    longer t = let f : Broken ≡ Value n u = rw t at e in let z : ◌≡◌ {A = ℕ} 0 1 = cc in absurd (omega arith)

    other : eqb number.value 0 ≡ false → 128 ≤ n
    other t = ⊎_elim fits over (cases (leb (low % 128 + 128 * number.value) largest))
      where
        over : leb (low % 128 + 128 * number.value) largest ≡ false → 128 ≤ n
        over x = let f : Broken ≡ Value n u = rw (t, x) at e in let z : ◌≡◌ {A = ℕ} 0 1 = cc in absurd (omega arith)

        fits : leb (low % 128 + 128 * number.value) largest ≡ true → 128 ≤ n
        fits x =
            let f : Value (low % 128 + 128 * number.value) (number.used + 1) ≡ Value n u = rw (t, x) at e in
            let en = (value_same _ _ _ _ f).0 in
            let d = eqb-false number.value 0 t in
            omega arith

groups_small : (k : ℕ) (l : List ℕ) (n u : ℕ) → read_groups k l ≡ Value n u → n < 128 → u ≡ 1
groups_small zero l n u e h = let z : ◌≡◌ {A = ℕ} 0 1 = cc in absurd (omega arith)
groups_small (suc k) [] n u e h = let z : ◌≡◌ {A = ℕ} 0 1 = cc in absurd (omega arith)
groups_small (suc k) (b ∷ l) n u e h = ⊎_elim one several (cases (ltb b 128))
  where
    one : ltb b 128 ≡ true → u ≡ 1
    one t = let f : Value b 1 ≡ Value n u = rw t at e in sym (value_same _ _ _ _ f).1

    several : ltb b 128 ≡ false → u ≡ 1
    several t =
        let f : joined b (read_groups k l) ≡ Value n u = rw t at e in
        let large = joined_large b (read_groups k l) n u f in
        absurd (omega arith)

-- a number below 128 that is read is one byte
pub read_small : (l : List ℕ) (n u : ℕ) → read_number l ≡ Value n u → n < 128 → u ≡ 1
unfolding read_number
read_small l n u e h = groups_small 5 l n u e h

-- ---- what was read is what is written

-- a number of u bytes stands at the front of l
pub record Stands (k : ℕ) (l : List ℕ) (n u : ℕ) : Type 0 where
  pub front : l ≡ groups k n ++ drop u l
  pub bytes : u ≡ length (groups k n)
  pub small : n ≤ largest

more_groups : (k d v : ℕ) → d < 128 → (v ≡ 0 → ⊥) → groups (suc k) (d + 128 * v) ≡ (128 + d) ∷ groups k v
more_groups k d v h nz =
    let big : 128 ≤ d + 128 * v = omega arith in
    let rem : (d + 128 * v) % 128 ≡ d = omega arith in
    let quo : (d + 128 * v) / 128 ≡ v = omega arith in
    simp (le-ltb (d + 128 * v) 128 big, rem, quo)

more_stands : (k b : ℕ) (l : List ℕ) → 128 ≤ b → b < 256 → (s : Option Number) → ((v u : ℕ) → s ≡ Value v u → Stands k l v u)
    → (n u : ℕ) → joined b s ≡ Value n u → Stands (suc k) (b ∷ l) n u
more_stands k b l lo hi None ih n u e = let z : ◌≡◌ {A = ℕ} 0 1 = cc in absurd (omega arith)
more_stands k b l lo hi (Some number) ih n u e = ⊎_elim longer other (cases (eqb number.value 0))
  where
    longer : eqb number.value 0 ≡ true → Stands (suc k) (b ∷ l) n u
    longer t = let f : Broken ≡ Value n u = rw t at e in let z : ◌≡◌ {A = ℕ} 0 1 = cc in absurd (omega arith)

    other : eqb number.value 0 ≡ false → Stands (suc k) (b ∷ l) n u
    other t = ⊎_elim fits over (cases (leb (b % 128 + 128 * number.value) largest))
      where
        over : leb (b % 128 + 128 * number.value) largest ≡ false → Stands (suc k) (b ∷ l) n u
        over x = let f : Broken ≡ Value n u = rw (t, x) at e in let z : ◌≡◌ {A = ℕ} 0 1 = cc in absurd (omega arith)

        fits : leb (b % 128 + 128 * number.value) largest ≡ true → Stands (suc k) (b ∷ l) n u
        fits x =
            let f : Value (b % 128 + 128 * number.value) (number.used + 1) ≡ Value n u = rw (t, x) at e in
            let en = (value_same _ _ _ _ f).0 in
            let eu = (value_same _ _ _ _ f).1 in
            let back : 128 + b % 128 ≡ b = omega arith in
            let g : groups (suc k) n ≡ b ∷ groups k number.value = rw (← en, more_groups k (b % 128) number.value (omega arith) (eqb-false number.value 0 t), back) in
            let h = ih number.value number.used refl in
            rw (← eu, add-one number.used)
            (record {
              front = rw g (ap (λ (r : List ℕ). b ∷ r) h.front);
              bytes = rw g (ap suc h.bytes);
              small = rw (← en) (leb-true (b % 128 + 128 * number.value) largest x);
            })

groups_stand : (k : ℕ) (l : List ℕ) → IsBytes l → (n u : ℕ) → read_groups k l ≡ Value n u → Stands k l n u
groups_stand zero l h n u e = let z : ◌≡◌ {A = ℕ} 0 1 = cc in absurd (omega arith)
groups_stand (suc k) [] h n u e = let z : ◌≡◌ {A = ℕ} 0 1 = cc in absurd (omega arith)
groups_stand (suc k) (b ∷ l) h n u e = ⊎_elim one (several (groups_stand k l (λ i. h (suc i)))) (cases (ltb b 128))
  where
    one : ltb b 128 ≡ true → Stands (suc k) (b ∷ l) n u
    one t =
        let f : Value b 1 ≡ Value n u = rw t at e in
        let en = (value_same _ _ _ _ f).0 in
        let eu = (value_same _ _ _ _ f).1 in
        let less : b < 128 = ltb-true b 128 t in
        rw (← en, ← eu) (record { front = rw t; bytes = rw t; small = omega arith })

    several : ((v q : ℕ) → read_groups k l ≡ Value v q → Stands k l v q) → ltb b 128 ≡ false → Stands (suc k) (b ∷ l) n u
    several ih t =
        let f : joined b (read_groups k l) ≡ Value n u = rw t at e in
        more_stands k b l (ltb-false b 128 t) (h 0) (read_groups k l) ih n u f

pub read_written : (l : List ℕ) → IsBytes l → (n u : ℕ) → read_number l ≡ Value n u → Stands 5 l n u
unfolding read_number
read_written l h n u e = groups_stand 5 l h n u e

-- a number lies inside the list that it is read from
pub number_inside : (l : List ℕ) → IsBytes l → (n u : ℕ) → read_number l ≡ Value n u → (u ≤ length l) × (u ≤ 5)
unfolding read_number
number_inside l h n u e =
    let s = groups_stand 5 l h n u e in
    let b = s.bytes in
    let f : length l ≡ length (groups 5 n) + length (drop u l) = ap length s.front ∙ length-append (groups 5 n) (drop u l) in
    let few : used_of (read_groups 5 l) ≤ 5 = used_groups 5 l in
    let v : used_of (read_groups 5 l) ≡ u = ap used_of e in
    (omega arith, omega arith)

-- ---- what is broken, by each reason

-- every byte says that more follow, up to the end of the list or to the last group allowed
pub unfinished : (k : ℕ) (l : List ℕ) → ((i : ℕ) → i < k → i < length l → 128 ≤ get_or l i 0) → read_groups k l ≡ Broken
unfinished zero l h = refl
unfinished (suc k) [] h = refl
unfinished (suc k) (b ∷ l) h =
    let top : 128 ≤ b = h 0 (omega arith) (omega arith) in
    rw (le-ltb b 128 top, unfinished k l (λ i p q. h (suc i) (omega arith) (omega arith)))

-- every byte of a list says that more follow
abbrev pub Continue : List ℕ → Type 0
Continue [] = Unit {0}
Continue (b ∷ l) = (128 ≤ b) × Continue l

-- a last group that is zero: the form is not the shortest
pub not_shortest : (k b : ℕ) (more l : List ℕ) → Continue (b ∷ more) → read_groups k ((b ∷ more) ++ (0 ∷ l)) ≡ Broken
not_shortest zero b more l h = refl
not_shortest (suc zero) b [] l h = rw (le-ltb b 128 h.0)
not_shortest (suc (suc k)) b [] l h = rw (le-ltb b 128 h.0)
not_shortest (suc k) b (c ∷ more) l h = rw (le-ltb b 128 h.0, not_shortest k c more l h.1)

-- the value of groups
abbrev pub value_of : List ℕ → ℕ
value_of [] = 0
value_of (b ∷ l) = b % 128 + 128 * value_of l

no_value : (r : Option Number) → ((n u : ℕ) → r ≡ Value n u → ⊥) → r ≡ Broken
no_value None h = refl
no_value (Some number) h = absurd (h number.value number.used refl)

value_read : (k : ℕ) (more : List ℕ) (b : ℕ) (l : List ℕ) → Continue more → b < 128 → (n u : ℕ)
    → read_groups k (more ++ (b ∷ l)) ≡ Value n u → (n ≡ value_of (more ++ (b ∷ []))) × (n ≤ largest)
value_read zero more b l h s n u e = let z : ◌≡◌ {A = ℕ} 0 1 = cc in absurd (omega arith)
value_read (suc k) [] b l h s n u e =
    let f : Value b 1 ≡ Value n u = rw (lt-ltb b 128 s) at e in
    let en = (value_same _ _ _ _ f).0 in
    (omega arith, omega arith)
value_read (suc k) (a ∷ more) b l h s n u e =
    let f : joined a (read_groups k (more ++ (b ∷ l))) ≡ Value n u = rw (le-ltb a 128 h.0) at e in
    behind (read_groups k (more ++ (b ∷ l))) (λ v q. value_read k more b l h.1 s v q) f
  where
    behind : (r : Option Number) → ((v q : ℕ) → r ≡ Value v q → (v ≡ value_of (more ++ (b ∷ []))) × (v ≤ largest)) → joined a r ≡ Value n u
        → (n ≡ a % 128 + 128 * value_of (more ++ (b ∷ []))) × (n ≤ largest)
    behind None ih f = let z : ◌≡◌ {A = ℕ} 0 1 = cc in absurd (omega arith)
    behind (Some number) ih f = ⊎_elim longer other (cases (eqb number.value 0))
      where
        Goal : Type 0
        Goal = (n ≡ a % 128 + 128 * value_of (more ++ (b ∷ []))) × (n ≤ largest)

        longer : eqb number.value 0 ≡ true → Goal
        longer t = let g : Broken ≡ Value n u = rw t at f in let z : ◌≡◌ {A = ℕ} 0 1 = cc in absurd (omega arith)

        other : eqb number.value 0 ≡ false → Goal
        other t = ⊎_elim fits over (cases (leb (a % 128 + 128 * number.value) largest))
          where
            over : leb (a % 128 + 128 * number.value) largest ≡ false → Goal
            over x = let g : Broken ≡ Value n u = rw (t, x) at f in let z : ◌≡◌ {A = ℕ} 0 1 = cc in absurd (omega arith)

            fits : leb (a % 128 + 128 * number.value) largest ≡ true → Goal
            fits x =
                let g : Value (a % 128 + 128 * number.value) (number.used + 1) ≡ Value n u = rw (t, x) at f in
                let en = (value_same _ _ _ _ g).0 in
                let ev : number.value ≡ value_of (more ++ (b ∷ [])) = (ih number.value number.used refl).0 in
                let le : a % 128 + 128 * number.value ≤ largest = leb-true (a % 128 + 128 * number.value) largest x in
                (omega arith, omega arith)

-- a value over the largest
pub too_large : (k : ℕ) (more : List ℕ) (b : ℕ) (l : List ℕ) → Continue more → b < 128 → largest < value_of (more ++ (b ∷ []))
    → read_groups k (more ++ (b ∷ l)) ≡ Broken
too_large k more b l h s big =
    no_value (read_groups k (more ++ (b ∷ l))) (λ n u e. let r = value_read k more b l h s n u e in omega arith)
