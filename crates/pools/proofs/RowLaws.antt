-- Rows of counts by their entries. Assumes nothing.
use Prim.Native.Nat.{ℕ, zero, suc, ◌+◌, ◌≤◌, ◌<◌}
use native.Mathlib.Nat.{zero-add}
use native.Mathlib.Omega.{arith}
use mathlib.Core.Path.{◌≡◌, refl, ap, ap₂, sym, ◌∙◌}
use mathlib.Core.List.{List, [], ◌∷◌}
use lib.ListN.{length, get_or}
use Rattle.pools.specs.Rows.{row}

pub length_row : (f : ℕ → ℕ) (k p : ℕ) → length (row f k p) ≡ k
unfolding row
length_row f zero p = refl
length_row f (suc k) p = ap suc (length_row f k (p + 1))

-- entry i of a row from p on
pub row_from : (f : ℕ → ℕ) (k p i : ℕ) → i < k → get_or (row f k p) i 0 ≡ f (p + i)
unfolding row
row_from f zero p i h = absurd (omega arith)
row_from f (suc k) p zero h = ap f (omega arith)
row_from f (suc k) p (suc i) h = row_from f k (p + 1) i (omega arith) ∙ ap f (omega arith)

pub row_at : (f : ℕ → ℕ) (i : ℕ) → i < 14 → get_or (row f 14 0) i 0 ≡ f i
row_at f i h = row_from f 14 0 i h ∙ ap f (zero-add i)

-- a list is the row of its entries
pub row_by : (f : ℕ → ℕ) (k p : ℕ) (l : List ℕ) → length l ≡ k → ((i : ℕ) → i < k → get_or l i 0 ≡ f (p + i)) → l ≡ row f k p
unfolding row
row_by f zero p [] n h = refl
row_by f zero p (x ∷ l) n h = absurd (omega arith)
row_by f (suc k) p [] n h = absurd (omega arith)
row_by f (suc k) p (x ∷ l) n h =
    ap₂ ◌∷◌ (h 0 (omega arith) ∙ ap f (omega arith))
    (row_by f k (p + 1) l (omega arith) (λ i b. h (suc i) (omega arith) ∙ ap f (omega arith)))

pub row_same : (f : ℕ → ℕ) (l : List ℕ) → length l ≡ 14 → ((i : ℕ) → i < 14 → get_or l i 0 ≡ f i) → l ≡ row f 14 0
row_same f l n h = row_by f 14 0 l n (λ i b. h i b ∙ ap f (sym (zero-add i)))

-- two rows with the same entries
pub row_equal : (f g : ℕ → ℕ) → ((i : ℕ) → i < 14 → f i ≡ g i) → row f 14 0 ≡ row g 14 0
row_equal f g h = row_same g (row f 14 0) (length_row f 14 0) (λ i b. row_at f i b ∙ h i b)

-- no entry behind the last
pub row_past : (f : ℕ → ℕ) (k p i : ℕ) → k ≤ i → get_or (row f k p) i 0 ≡ 0
unfolding row
row_past f zero p i h = refl
row_past f (suc k) p zero h = absurd (omega arith)
row_past f (suc k) p (suc i) h = row_past f k (p + 1) i (omega arith)
