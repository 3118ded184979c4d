-- The place of every refusal of a reading or judging is below 12. Assumes nothing.
use Prim.Native.Nat.{ℕ, zero, suc, ◌+◌, ◌≤◌, ◌<◌}
use mathlib.Core.Path.{◌≡◌}
use mathlib.Core.Bool.{true, false}
use mathlib.Core.List.{List, [], ◌∷◌, ◌++◌}
use mathlib.Core.Logic.{⊎_elim}
use native.Mathlib.Omega.{arith}
use Rattle.lists.proofs.Tests.{cases}
use Rattle.cause.specs.Checks.{Check, first_fault, Refused}
use Rattle.cause.specs.declared.Cause.{Cause}
use Rattle.cause.proofs.FaultLaws.{refused_at}
use Rattle.container.specs.Layout.{Format, format_of}
use Rattle.placement.specs.Cells.{Cell, cells, cell_at, after}
use Rattle.placement.specs.Checking.{granule_checks, group_checks, activation_checks, container_checks}
use Rattle.reader.specs.Reading.{carried, state_checks, read_checks, judge_checks, reading, judging}
use Rattle.reader.specs.declared.reader.Reader.{Reader}
use Rattle.reader.specs.declared.reader.Answer.TheVariants as answer
use Rattle.reader.specs.declared.reader.JudgeAnswer.TheVariants as judge
use Rattle.reader.proofs.AnswerLaws.{read_answer_refused, judge_answer_refused}

-- the place of each check is below n
abbrev Below : ℕ → List Check → Type 0
Below n [] = Unit {0}
Below n (k ∷ l) = (k.place < n) × Below n l

below_append : (n : ℕ) (a b : List Check) → Below n a → Below n b → Below n (a ++ b)
below_append n [] b p q = q
below_append n (k ∷ a) b p q = (p.0, below_append n a b p.1 q)

first_below : (n : ℕ) (l : List Check) → Below n l → (k : Cause) (p : ℕ) → first_fault l ≡ Refused k p → p < n
first_below n [] b k p e = let z : ◌≡◌ {A = ℕ} 0 1 = cc in absurd (omega arith)
first_below n (x ∷ l) b k p e =
    ⊎_elim (λ (t : x.passes ≡ true). first_below n l b.1 k p (rw t at e))
    (λ (t : x.passes ≡ false). found x.cause x.place b.0 (rw t at e))
    (cases x.passes)
  where
    found : (c : Cause) (q : ℕ) → q < n → Refused c q ≡ Refused k p → p < n
    found c q h f = omega (arith, refused_at _ _ _ _ f)

granules_below : (fm : Format) (c : List ℕ) (k g : ℕ) (m : List ℕ) → g + k ≤ 12 → Below 12 (granule_checks fm g (cells fm c k g m))
unfolding granule_checks cells
granules_below fm c zero g m h = tt
granules_below fm c (suc k) g m h =
    let b : g < 12 = omega arith in
    (b, (b, (b, (b, (b, granules_below fm c k (g + 1) (after fm g (cell_at fm g c m) m) (omega arith))))))

groups_below : (k q : ℕ) (es : List Cell) → q + k ≤ 4 → Below 12 (group_checks k q es)
unfolding group_checks
groups_below zero q es h = tt
groups_below (suc k) q es h = let b : q < 12 = omega arith in (b, (b, (b, groups_below k (q + 1) _ (omega arith))))

state_below : (s : Reader) (c : List ℕ) → Below 12 (state_checks s c)
unfolding state_checks container_checks
state_below s c =
    let fm = format_of s.format in
    let es = cells fm c 12 0 (carried s) in
    let z : 0 < 12 = omega arith in (
      z,
      (
        z,
        below_append 12 (granule_checks fm 0 es) (group_checks 4 0 es ++ activation_checks fm c es) (granules_below fm c 12 0 (carried s) (omega arith))
            (below_append 12 (group_checks 4 0 es) (activation_checks fm c es) (groups_below 4 0 es (omega arith)) (z, tt)),
      ),
    )

read_below : (s : Reader) (c : List ℕ) (n : ℕ) → Below 12 (read_checks s c n)
unfolding read_checks
read_below s c n = let z : 0 < 12 = omega arith in (z, (z, (z, state_below s c)))

judge_below : (s : Reader) (c : List ℕ) → Below 12 (judge_checks s c)
unfolding judge_checks
judge_below s c = let z : 0 < 12 = omega arith in (z, (z, state_below s c))

-- the place of a refused reading
pub refused_place : (s : Reader) (c : List ℕ) (n : ℕ) (k : Cause) (p : ℕ) → (reading s c n).answer ≡ answer.Refused k p → p < 12
unfolding reading
refused_place s c n k p e = first_below 12 (read_checks s c n) (read_below s c n) k p (read_answer_refused (first_fault (read_checks s c n)) _ _ k p e)

-- the place of a refused judging
pub judged_place : (s : Reader) (c : List ℕ) (k : Cause) (p : ℕ) → (judging s c).answer ≡ judge.Refused k p → p < 12
unfolding judging
judged_place s c k p e = first_below 12 (judge_checks s c) (judge_below s c) k p (judge_answer_refused (first_fault (judge_checks s c)) _ _ k p e)
