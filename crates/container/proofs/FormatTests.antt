-- The tests that make a format lawful. Assumes nothing.
use Prim.Native.Nat.{ℕ, ◌+◌, ◌%◌, ◌<◌}
use mathlib.Core.Path.{subst}
use mathlib.Core.Bool.{Bool, ◌||◌, not}
use mathlib.Core.Logic.{inl, inr, ⊎_elim}
use native.Mathlib.Omega.{arith}
use lib.Dec.{T, eqb, ltb, leb, leb→le, ltb→lt, eqb→eq, T_not}
use borrow.Author.Tests.{eq-eqb}
use Rattle.lists.proofs.Tests.{or_cases, T_true, true_t}
use Rattle.lists.proofs.Tables.{below, below_at}
use Rattle.container.specs.Layout.{Format, start, wide}
use Rattle.container.specs.Lawful.{Lawful, owners}

module _ (fm : Format) where
  abbrev t_inside : ℕ → Bool
  t_inside g = leb (start g + fm.size g) 256

  abbrev t_apart : ℕ → ℕ → Bool
  t_apart g h = leb h g || leb (start g + fm.size g) (start h)

  abbrev t_header_inside : ℕ → Bool
  t_header_inside i = ltb (fm.place i) 256

  abbrev t_header_distinct : ℕ → ℕ → Bool
  t_header_distinct i j = leb j i || not (eqb (fm.place i) (fm.place j))

  abbrev t_header_outside : ℕ → ℕ → Bool
  t_header_outside g i = ltb (fm.place i) (start g) || leb (start g + fm.size g) (fm.place i)

  abbrev t_least : ℕ → Bool
  t_least g = leb 10 (fm.size g)

  abbrev t_most : ℕ → Bool
  t_most g = leb (fm.size g) 20

  abbrev t_narrow : ℕ → Bool
  t_narrow g = wide fm g || eqb (g % 3) 2

  abbrev t_owned : ℕ → Bool
  t_owned i = eqb (owners fm i) 1

  -- all tests
  pub record Computed : Type 0 where
    pub c_inside : T (below 12 t_inside)
    pub c_apart : T (below 12 (λ g. below 12 (t_apart g)))
    pub c_header_inside : T (below 10 t_header_inside)
    pub c_header_distinct : T (below 10 (λ i. below 10 (t_header_distinct i)))
    pub c_header_outside : T (below 12 (λ g. below 10 (t_header_outside g)))
    pub c_least : T (below 12 t_least)
    pub c_most : T (below 12 t_most)
    pub c_narrow : T (below 12 t_narrow)
    pub c_first : T (below 5 (wide fm))
    pub c_owned : T (below 256 t_owned)

  under : (g h : ℕ) → g < h → T (leb h g) → ⊥
  under g h l k = let q = leb→le h g k in omega arith

  pub lawful : Computed → Lawful fm
  lawful t = record {
    inside = λ g b. leb→le (start g + fm.size g) 256 (below_at 12 t_inside t.c_inside g b);
    apart = λ g h l b. ⊎_elim (λ (x : T (leb h g)). absurd (under g h l x)) (λ (x : T (leb (start g + fm.size g) (start h))). leb→le (start g + fm.size g) (start h) x) (or_cases (leb h g) (leb (start g + fm.size g) (start h)) (below_at 12 (t_apart g) (below_at 12 (λ g. below 12 (t_apart g)) t.c_apart g (omega arith)) h b));
    header_inside = λ i b. ltb→lt (fm.place i) 256 (below_at 10 t_header_inside t.c_header_inside i b);
    header_distinct = λ i j l b z. ⊎_elim (λ (x : T (leb j i)). under i j l x) (λ (x : T (not (eqb (fm.place i) (fm.place j)))). T_not (eqb (fm.place i) (fm.place j)) x (true_t (eqb (fm.place i) (fm.place j)) (eq-eqb (fm.place i) (fm.place j) z))) (or_cases (leb j i) (not (eqb (fm.place i) (fm.place j))) (below_at 10 (t_header_distinct i) (below_at 10 (λ i. below 10 (t_header_distinct i)) t.c_header_distinct i (omega arith)) j b));
    header_outside = λ g i b d. ⊎_elim (λ (x : T (ltb (fm.place i) (start g))). inl (ltb→lt (fm.place i) (start g) x)) (λ (x : T (leb (start g + fm.size g) (fm.place i))). inr (leb→le (start g + fm.size g) (fm.place i) x)) (or_cases (ltb (fm.place i) (start g)) (leb (start g + fm.size g) (fm.place i)) (below_at 10 (t_header_outside g) (below_at 12 (λ g. below 10 (t_header_outside g)) t.c_header_outside g b) i d));
    least = λ g b. leb→le 10 (fm.size g) (below_at 12 t_least t.c_least g b);
    most = λ g b. leb→le (fm.size g) 20 (below_at 12 t_most t.c_most g b);
    narrow_last = λ g b w. ⊎_elim (λ (x : T (wide fm g)). absurd (subst T w x)) (λ (x : T (eqb (g % 3) 2)). eqb→eq (g % 3) 2 x) (or_cases (wide fm g) (eqb (g % 3) 2) (below_at 12 t_narrow t.c_narrow g b));
    first_wide = λ g b. T_true (wide fm g) (below_at 5 (wide fm) t.c_first g b);
    owned = λ i b. eqb→eq (owners fm i) 1 (below_at 256 t_owned t.c_owned i b);
  }
