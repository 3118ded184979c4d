-- The cells of a container by granule: what is in progress, what is carried on, and what has ended. Assumes nothing.
use Prim.Native.Nat.{ℕ, zero, suc, ◌+◌}
use mathlib.Core.Path.{◌≡◌, refl, sym, ap, ◌∙◌}
use mathlib.Core.List.{List, [], ◌∷◌, ◌++◌, append_assoc, append-nil}
use native.Mathlib.Omega.{arith}
use native.Mathlib.Numerals.{add-one}
use Rattle.container.specs.Layout.{Format}
use Rattle.placement.specs.Cells.{Cell, cell_at, after, ended, cells, carry_after, endings}
use Rattle.placement.proofs.Keeps.{progress, cell_of, ended_to}

-- f g, f (g + 1), .., k of them
unfoldable pub list_from : {A : Type 0} → (ℕ → A) → ℕ → ℕ → List A
list_from f zero g = []
list_from f (suc k) g = f g ∷ list_from f k (g + 1)

module _ (fm : Format) (c m : List ℕ) where
  next_progress : (g : ℕ) → progress fm c m (g + 1) ≡ after fm g (cell_at fm g c (progress fm c m g)) (progress fm c m g)
  unfolding progress
  next_progress g = ap (progress fm c m) (add-one g)

  -- the cells are those of the granules, each after what was read before it
  pub cells_of : (k g : ℕ) → cells fm c k g (progress fm c m g) ≡ list_from (cell_of fm c m) k g
  unfolding cells list_from cell_of
  cells_of zero g = refl
  cells_of (suc k) g =
      ap (λ (r : List Cell). cell_of fm c m g ∷ r)
      (ap (cells fm c k (g + 1)) (sym (next_progress g)) ∙ cells_of k (g + 1))

  -- what is carried on is what is in progress behind the last granule
  carry_from : (k g : ℕ) → carry_after fm g (cells fm c k g (progress fm c m g)) (progress fm c m g) ≡ progress fm c m (g + k)
  unfolding cells carry_after
  carry_from zero g = let e : g + 0 ≡ g = omega arith in rw e
  carry_from (suc k) g =
      let e : g + suc k ≡ (g + 1) + k = omega arith in
      ap (λ (x : List ℕ). carry_after fm (g + 1) (cells fm c k (g + 1) x) x) (sym (next_progress g)) ∙ carry_from k (g + 1) ∙ ap (progress fm c m) (sym e)

  pub carry_of : carry_after fm 0 (cells fm c 12 0 m) m ≡ progress fm c m 12
  unfolding progress
  carry_of = carry_from 12 0

  next_ended : (g : ℕ) → ended_to fm c m g ++ ended (cell_at fm g c (progress fm c m g)) (progress fm c m g) ≡ ended_to fm c m (g + 1)
  unfolding ended_to cell_of
  next_ended g = ap (ended_to fm c m) (sym (add-one g))

  -- the messages that end are those whose last granules are among the twelve, in their order
  endings_from : (k g : ℕ) → ended_to fm c m g ++ endings fm g (cells fm c k g (progress fm c m g)) (progress fm c m g) ≡ ended_to fm c m (g + k)
  unfolding cells endings
  endings_from zero g = let e : g + 0 ≡ g = omega arith in append-nil (ended_to fm c m g) ∙ ap (ended_to fm c m) (sym e)
  endings_from (suc k) g =
      let e : g + suc k ≡ (g + 1) + k = omega arith in
      ap (λ (x : List ℕ). ended_to fm c m g ++ (ended (cell_at fm g c (progress fm c m g)) (progress fm c m g) ++ endings fm (g + 1) (cells fm c k (g + 1) x) x)) (sym (next_progress g))
      ∙ sym (append_assoc (ended_to fm c m g) (ended (cell_at fm g c (progress fm c m g)) (progress fm c m g)) (endings fm (g + 1) (cells fm c k (g + 1) (progress fm c m (g + 1))) (progress fm c m (g + 1))))
      ∙ ap (λ (x : List (List ℕ)). x ++ endings fm (g + 1) (cells fm c k (g + 1) (progress fm c m (g + 1))) (progress fm c m (g + 1))) (next_ended g)
      ∙ endings_from k (g + 1) ∙ ap (ended_to fm c m) (sym e)

  pub endings_of : endings fm 0 (cells fm c 12 0 m) m ≡ ended_to fm c m 12
  unfolding progress ended_to
  endings_of = endings_from 12 0
