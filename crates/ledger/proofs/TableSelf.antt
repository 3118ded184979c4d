-- A flat list of counts is the table of its entries. Assumes nothing.
use Prim.Native.Nat.{ℕ, ◌+◌, ◌*◌, ◌<◌}
use native.Mathlib.Nat.{zero-add}
use native.Mathlib.Omega.{arith}
use mathlib.Core.Path.{◌≡◌, sym, ap, ap₂, ◌∙◌}
use mathlib.Core.List.{List, ◌++◌}
use lib.ListN.{length, get_or, take, drop, length-append, length-drop, take-append-drop}
use lib.Seq.{length-take-le, get_or-take, get_or-drop}
use Rattle.pools.specs.Rows.{table}
use Rattle.pools.proofs.RowLaws.{length_row, row_same, row_equal}

pub table_self : (l : List ℕ) → length l ≡ 28 → table (λ e p. get_or l (14 * e + p) 0) ≡ l
table_self l n =
    let first = row_same (λ p. get_or l (0 + p) 0) (take 14 l) (length-take-le 14 l (omega arith)) (λ i b. get_or-take 14 l i 0 b ∙ ap (λ (k : ℕ). get_or l k 0) (sym (zero-add i))) in
    let second = row_same (λ p. get_or l (14 + p) 0) (drop 14 l) (length-drop 14 l ∙ omega arith) (λ i b. get_or-drop 14 l i 0) in
    sym (ap₂ ◌++◌ first second) ∙ take-append-drop 14 l

-- a table whose entries are those of a list
pub table_by : (f : ℕ → ℕ → ℕ) (l : List ℕ) → length l ≡ 28 → ((e p : ℕ) → e < 2 → p < 14 → f e p ≡ get_or l (14 * e + p) 0) → table f ≡ l
table_by f l n h =
    ap₂ ◌++◌ (row_equal (f 0) (λ p. get_or l (0 + p) 0) (λ p b. h 0 p (omega arith) b)) (row_equal (f 1) (λ p. get_or l (14 + p) 0) (λ p b. h 1 p (omega arith) b))
    ∙ table_self l n

-- two lists with the same entries
pub table_equal : (k l : List ℕ) → length k ≡ 28 → length l ≡ 28 → ((e p : ℕ) → e < 2 → p < 14 → get_or k (14 * e + p) 0 ≡ get_or l (14 * e + p) 0) → k ≡ l
table_equal k l m n h = sym (table_self k m) ∙ table_by (λ e p. get_or k (14 * e + p) 0) l n h

pub length_table : (f : ℕ → ℕ → ℕ) → length (table f) ≡ 28
length_table f = simp (length-append, length_row)
