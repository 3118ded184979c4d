-- The counts of an entry, pool by pool. Assumes nothing.
use Prim.Native.Nat.{ℕ, zero, suc, ◌+◌, ◌-◌, ◌≤◌, ◌<◌, ◌^◌, min}
use mathlib.Core.Path.{◌≡◌, refl, sym, ap, ap₂, ◌∙◌}
use mathlib.Core.Bool.{Bool, true, false, ◌&&◌, not}
use mathlib.Core.List.{List, [], ◌∷◌}
use native.Mathlib.Nat.{zero-add}
use native.Mathlib.Omega.{arith}
use lib.ListN.{length, get_or, set}
use lib.Dec.{eqb, leb}
use Rattle.lists.proofs.Fill.{grown, grown_more, grown_all}
use Rattle.cause.specs.declared.Cause.TheVariants.{BegunOverGranted, GrantedOverCapacity}
use Rattle.cause.proofs.EachLaws.{Each}
use Rattle.pools.specs.Rows.{row, entry_of, rows}
use Rattle.ledger.specs.CountingMirror.{credit_row_checks, capacity_row_checks, rows_ok, settled_held, settled_open}
use Rattle.pools.specs.declared.kinds.Credits.{Credits}
use Rattle.pools.proofs.PoolLoops.{Tests}
use Rattle.pools.proofs.RowLaws.{length_row, row_at, row_same}
use Rattle.pools.proofs.TableLaws.{Rows}

not_so : (s : Bool) → not s ≡ true → s ≡ false
not_so true e = sym e
not_so false e = refl

so : (s : Bool) → not s ≡ false → s ≡ true
so true e = refl
so false e = sym e

-- begun against held, pool by pool
pub short_checks : (held begun : List ℕ) → Each (credit_row_checks held begun) (λ p. leb (get_or begun p 0) (get_or held p 0)) BegunOverGranted
unfolding credit_row_checks
short_checks held begun = record { none = λ p. refl; more = λ k p. refl }

-- held, granted and open against the capacity, pool by pool
pub over_checks : (held opened granted capacities : List ℕ)
    → Each (capacity_row_checks held opened granted capacities) (λ p. leb (get_or held p 0 + (get_or granted p 0 + get_or opened p 0)) (get_or capacities p 0)) GrantedOverCapacity
unfolding capacity_row_checks
over_checks held opened granted capacities = record { none = λ p. refl; more = λ k p. refl }

-- open messages as paid and held plus open within the capacity, pool by pool
module _ (held opened paid capacities : List ℕ) where
  abbrev kept : ℕ → Bool
  kept p = eqb (get_or opened p 0) (get_or paid p 0) && leb (get_or held p 0 + get_or opened p 0) (get_or capacities p 0)

  pub row_tests : Tests (rows_ok held opened paid capacities) kept
  unfolding rows_ok
  row_tests = record { none = λ p. refl; more = λ k p. refl }

  -- the test as the code makes it: open against paid first
  pub unpaid : (p : ℕ) {d : Bool} → d ≡ not (eqb (get_or opened p 0) (get_or paid p 0)) → d ≡ true → false ≡ kept p
  unpaid p ed e = rw (not_so (eqb (get_or opened p 0) (get_or paid p 0)) (sym ed ∙ e))

  pub paid_fits : (p : ℕ) {d : Bool} → d ≡ not (eqb (get_or opened p 0) (get_or paid p 0)) → d ≡ false → {t : Bool}
      → t ≡ leb (get_or held p 0 + (0 + get_or opened p 0)) (get_or capacities p 0) → t ≡ kept p
  paid_fits p ed e et = et ∙ rw (zero-add (get_or opened p 0), so (eqb (get_or opened p 0) (get_or paid p 0)) (sym ed ∙ e))

-- credits that a count holds
pub raised_is : (a b : ℕ) → a + b < 2 ^ 32 → {w : Credits} → w ≡ record { 0 = min (a + b) 4294967295 } → w ≡ record { 0 = a + b }
raised_is a b h e = let s : min (a + b) 4294967295 ≡ a + b = omega arith in e ∙ rw s

-- two rows, row by row
both : {a b c d : List ℕ} → a ≡ c → b ≡ d → ◌≡◌ {A = List (List ℕ)} (a ∷ b ∷ []) (c ∷ d ∷ [])
both e f = ap₂ (λ (x y : List ℕ). x ∷ y ∷ []) e f

-- a row of which the entries below p have become those of f
module _ (f : ℕ → ℕ) (l : List ℕ) (long : length l ≡ 14) where
  row_more : (p v : ℕ) → p < 14 → v ≡ f p → set (grown (row f 14 0) l p) p v ≡ grown (row f 14 0) l (p + 1)
  row_more p v h e =
      let n = length_row f 14 0 in
      ap (set (grown (row f 14 0) l p) p) (e ∙ sym (row_at f p h)) ∙ grown_more (row f 14 0) l p 0 (omega arith) (omega arith)

  row_all : (p : ℕ) → 14 ≤ p → grown (row f 14 0) l p ≡ row f 14 0
  row_all p h = grown_all (row f 14 0) l p (length_row f 14 0 ∙ sym long) (omega arith)

-- held of which the entries of pools below p are settled
module _ (d : ℕ) (held : List (List ℕ)) (begun granted : List ℕ) where
  abbrev settled_row : ℕ → ℕ → List ℕ
  settled_row e p = grown (row (settled_held d held begun granted e) 14 0) (get_or held e []) p

  abbrev pub settled_to : ℕ → List (List ℕ)
  settled_to p = settled_row 0 p ∷ settled_row 1 p ∷ []

  pub settled_all : Rows held → (p : ℕ) → 14 ≤ p → settled_to p ≡ rows (settled_held d held begun granted)
  settled_all r p h =
      both
      (row_all (settled_held d held begun granted 0) (get_or held 0 []) r.first p h)
      (row_all (settled_held d held begun granted 1) (get_or held 1 []) r.second p h)

-- the stores of one turn
abbrev pub stored : List (List ℕ) → ℕ → ℕ → ℕ → List (List ℕ)
stored t d p v = set t d (set (get_or t d []) p v)

module _ (held : List (List ℕ)) (begun granted : List ℕ) (r : Rows held) (p : ℕ) (h : p < 14) where
  pub settled_more : (d : ℕ) → d < 2 → {next : List (List ℕ)} → next ≡ settled_to d held begun granted p → {v w : Credits}
      → v ≡ record { 0 = entry_of held d p - get_or begun p 0 }
      → w ≡ record { 0 = entry_of held (1 - d) p + get_or granted p 0 }
      → stored (stored next d p v.0) (1 - d) p w.0 ≡ settled_to d held begun granted (p + 1)
  settled_more zero l e ev ew =
      rw (e, ev, ew)
      (both
      (row_more (settled_held 0 held begun granted 0) (get_or held 0 []) r.first p (entry_of held 0 p - get_or begun p 0) h refl)
      (row_more (settled_held 0 held begun granted 1) (get_or held 1 []) r.second p (entry_of held 1 p + get_or granted p 0) h refl))
  settled_more (suc zero) l e ev ew =
      rw (e, ev, ew)
      (both
      (row_more (settled_held 1 held begun granted 0) (get_or held 0 []) r.first p (entry_of held 0 p + get_or granted p 0) h refl)
      (row_more (settled_held 1 held begun granted 1) (get_or held 1 []) r.second p (entry_of held 1 p - get_or begun p 0) h refl))
  settled_more (suc (suc d)) l e ev ew = absurd (omega arith)

-- open with one row set
pub opened_set : (d : ℕ) → d < 2 → (opened : List (List ℕ)) → Rows opened → (paid : List ℕ) → length paid ≡ 14 → set opened d paid ≡ rows (settled_open d opened paid)
opened_set zero h t r paid n =
    ap (λ (s : List (List ℕ)). set s 0 paid) r.two
    ∙ both (row_same (settled_open 0 t paid 0) paid n (λ i l. refl)) (row_same (settled_open 0 t paid 1) (get_or t 1 []) r.second (λ i l. refl))
opened_set (suc zero) h t r paid n =
    ap (λ (s : List (List ℕ)). set s 1 paid) r.two
    ∙ both (row_same (settled_open 1 t paid 0) (get_or t 0 []) r.first (λ i l. refl)) (row_same (settled_open 1 t paid 1) paid n (λ i l. refl))
opened_set (suc (suc d)) h t r paid n = absurd (omega arith)
