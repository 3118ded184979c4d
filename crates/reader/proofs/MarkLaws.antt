-- The checks of groups and of the header beside an Activation, by the marks of cells. Assumes nothing.
use Prim.Native.Nat.{ℕ, zero, suc, ◌+◌, ◌-◌, ◌*◌, ◌/◌, ◌%◌, ◌≤◌, ◌<◌}
use mathlib.Core.Path.{◌≡◌, refl, sym, ap, ◌∙◌}
use mathlib.Core.Bool.{Bool, true, false, ◌&&◌, ◌||◌, not}
use mathlib.Core.Logic.{⊎_elim}
use mathlib.Core.List.{List, [], ◌∷◌}
use native.Mathlib.Omega.{arith}
use lib.ListN.{length, get_or, drop}
use lib.Seq.{get_or-drop, drop-drop}
use lib.Dec.{eqb, leb}
use borrow.Author.Tests.{ne_eqb, leb-true, leb-false}
use Rattle.std.specs.List.{list_any}
use Rattle.lists.proofs.Tests.{cases}
use Rattle.lists.specs.Pick.{pick}
use Rattle.lists.proofs.PickLaws.{pick_both}
use Rattle.cause.specs.Checks.{Check, first_fault, or_else, Verdict, Accepted}
use Rattle.cause.specs.declared.Fault.{Fault}
use Rattle.cause.proofs.CheckLaws.{first_append}
use Rattle.std.specs.Prelude.{Err}
use Rattle.message.specs.Heads.{type_of}
use Rattle.message.specs.Places.{responses, miscs}
use Rattle.message.proofs.PlaceLaws.{responses_most, miscs_most}
use Rattle.placement.specs.Cells.{Cell}
use Rattle.placement.specs.Checking.{populated, no_gap, starting, sum_of, group_checks, activations}
use Rattle.reader.specs.TrackingMirror.{mark_of, marks_of, group_by, mark_checks, activation_marks}

-- the parts of a cell's mark
abbrev fills : Cell → ℕ
fills e = pick (populated e) 1 0

module _ (e : Cell) where
  fills_most : fills e ≤ 1
  fills_most = pick_both (λ n. n ≤ 1) (populated e) (omega arith) (omega arith)

  starting_responses : starting responses e ≤ 2
  starting_responses = pick_both (λ n. n ≤ 2) e.starts (responses_most (type_of e.bytes)) (omega arith)

  starting_miscs : starting miscs e ≤ 1
  starting_miscs = pick_both (λ n. n ≤ 1) e.starts (miscs_most (type_of e.bytes)) (omega arith)

-- a mark, or the sum of three, by its parts
abbrev parts : ℕ → ℕ → ℕ → ℕ → ℕ
parts p r m x = p + (4 * r + (32 * m + 128 * x))

module _ (p r m x : ℕ) where
  filled_part : p ≤ 1 → parts p r m x % 2 ≡ p
  filled_part hp = omega arith

  response_part : p ≤ 3 → r ≤ 6 → parts p r m x / 4 % 8 ≡ r
  response_part hp hr = omega arith

  misc_part : p ≤ 3 → r ≤ 6 → m ≤ 3 → parts p r m x / 32 % 4 ≡ m
  misc_part hp hr hm = omega arith

  activation_part : p ≤ 1 → r ≤ 2 → m ≤ 1 → parts p r m x / 128 ≡ x
  activation_part hp hr hm = omega arith

-- a gap is seen by the first bits
gap_bits : (p q r : Bool) → (leb (pick q 1 0) (pick p 1 0) && leb (pick r 1 0) (pick q 1 0)) ≡ pick p (pick q (pick r true true) (not r && true)) (not q && (not r && true))
gap_bits true true true = refl
gap_bits true true false = refl
gap_bits true false true = refl
gap_bits true false false = refl
gap_bits false true true = refl
gap_bits false true false = refl
gap_bits false false true = refl
gap_bits false false false = refl

-- three cells of a group
module _ (a b c : Cell) where
  abbrev summed : (Cell → ℕ) → ℕ
  summed f = f a + (f b + f c)

  marks_sum : mark_of a + (mark_of b + mark_of c) ≡ parts (summed fills) (summed (starting responses)) (summed (starting miscs)) (summed (starting activations))
  marks_sum = omega arith

  filled_most : summed fills ≤ 3
  filled_most = omega (arith, fills_most a, fills_most b, fills_most c)

  responses_sum : summed (starting responses) ≤ 6
  responses_sum = omega (arith, starting_responses a, starting_responses b, starting_responses c)

  miscs_sum : summed (starting miscs) ≤ 3
  miscs_sum = omega (arith, starting_miscs a, starting_miscs b, starting_miscs c)

  same_gap : (leb (mark_of b % 2) (mark_of a % 2) && leb (mark_of c % 2) (mark_of b % 2)) ≡ no_gap (a ∷ b ∷ c ∷ [])
  same_gap = rw (bit_of a, bit_of b, bit_of c) (gap_bits (populated a) (populated b) (populated c))
    where
      bit_of : (e : Cell) → mark_of e % 2 ≡ fills e
      bit_of e = filled_part (fills e) (starting responses e) (starting miscs e) (starting activations e) (fills_most e)

  same_miscs : (mark_of a + (mark_of b + mark_of c)) / 32 % 4 ≡ sum_of miscs (a ∷ b ∷ c ∷ [])
  same_miscs =
      ap (λ (n : ℕ). n / 32 % 4) marks_sum
      ∙ misc_part (summed fills) (summed (starting responses)) (summed (starting miscs)) (summed (starting activations)) filled_most responses_sum miscs_sum
      ∙ omega arith

  same_responses : (mark_of a + (mark_of b + mark_of c)) / 4 % 8 ≡ sum_of responses (a ∷ b ∷ c ∷ [])
  same_responses =
      ap (λ (n : ℕ). n / 4 % 8) marks_sum
      ∙ response_part (summed fills) (summed (starting responses)) (summed (starting miscs)) (summed (starting activations)) filled_most responses_sum
      ∙ omega arith

-- an element of a list, and what stands behind it
element : (i j : ℕ) (l : List ℕ) {r : List ℕ} → drop i l ≡ r → get_or l (i + j) 0 ≡ get_or r j 0
element i j l e = sym (get_or-drop i l j 0) ∙ ap (λ (s : List ℕ). get_or s j 0) e

behind : (i j : ℕ) (l : List ℕ) {r : List ℕ} → drop i l ≡ r → drop (i + j) l ≡ drop j r
behind i j l e = sym (drop-drop j i l) ∙ ap (drop j) e

-- the groups of cells, judged by marks of which those of the cells are left from group q on
groups_from : (k q : ℕ) (l : List ℕ) (es : List Cell) → length es ≡ 3 * k → drop (3 * q) l ≡ marks_of es → first_fault (mark_checks k q l) ≡ first_fault (group_checks k q es)
unfolding mark_checks group_checks
groups_from zero q l es n e = refl
groups_from (suc k) q l [] n e = absurd (omega arith)
groups_from (suc k) q l (a ∷ []) n e = absurd (omega arith)
groups_from (suc k) q l (a ∷ b ∷ []) n e = absurd (omega arith)
groups_from (suc k) q l (a ∷ b ∷ c ∷ es) n e =
    let z : 3 * q ≡ 3 * q + 0 = omega arith in
    let next : 3 * (q + 1) ≡ 3 * q + 3 = omega arith in
    let first : get_or l (3 * q) 0 ≡ mark_of a = ap (λ (i : ℕ). get_or l i 0) z ∙ element (3 * q) 0 l e in
    let left : drop (3 * (q + 1)) l ≡ marks_of es = ap (λ (i : ℕ). drop i l) next ∙ behind (3 * q) 3 l e in
    rw (first, element (3 * q) 1 l e, element (3 * q) 2 l e, same_gap a b c, same_miscs a b c, same_responses a b c, groups_from k (q + 1) l es (omega arith) left)

pub groups_of : (es : List Cell) → length es ≡ 12 → first_fault (mark_checks 4 0 (marks_of es)) ≡ first_fault (group_checks 4 0 es)
groups_of es n = groups_from 4 0 (marks_of es) es n refl

activations_from : (k i : ℕ) (l : List ℕ) (es : List Cell) → length es ≡ k → drop i l ≡ marks_of es → activation_marks k i l ≡ sum_of activations es
unfolding activation_marks
activations_from zero i l [] n e = refl
activations_from zero i l (a ∷ es) n e = absurd (omega arith)
activations_from (suc k) i l [] n e = absurd (omega arith)
activations_from (suc k) i l (a ∷ es) n e =
    let z : i ≡ i + 0 = omega arith in
    let first : get_or l i 0 ≡ mark_of a = ap (λ (j : ℕ). get_or l j 0) z ∙ element i 0 l e in
    rw (first, activation_part (fills a) (starting responses a) (starting miscs a) (starting activations a) (fills_most a) (starting_responses a) (starting_miscs a), activations_from k (i + 1) l es (omega arith) (behind i 1 l e))

pub activations_of : (es : List Cell) → length es ≡ 12 → activation_marks 12 0 (marks_of es) ≡ sum_of activations es
activations_of es n = activations_from 12 0 (marks_of es) es n refl

-- one turn of the loop over the groups
module _ (l : List ℕ) (q : ℕ) (h : q < 4) {all : Verdict} (ea : all ≡ first_fault (mark_checks (4 - q) q l)) where
  abbrev here : List Check
  here = group_by q (get_or l (3 * q) 0) (get_or l (3 * q + 1) 0) (get_or l (3 * q + 2) 0)

  turn : {v : Verdict} → v ≡ first_fault here → all ≡ or_else v (first_fault (mark_checks (4 - (q + 1)) (q + 1) l))
  unfolding mark_checks
  turn ev =
      let e : 4 - q ≡ suc (4 - (q + 1)) = omega arith in
      rw (ea, e, ev) (first_append here (mark_checks (4 - (q + 1)) (q + 1) l))

  pub groups_stop : {fault : Fault} → Err fault ≡ first_fault here → Err fault ≡ all
  groups_stop e = sym (turn e)

  pub groups_go_on : Accepted ≡ first_fault here → all ≡ first_fault (mark_checks (4 - (q + 1)) (q + 1) l)
  groups_go_on e = turn e

pub groups_end : (l : List ℕ) (q : ℕ) → 4 ≤ q → first_fault (mark_checks (4 - q) q l) ≡ Accepted
unfolding mark_checks
groups_end l q h = let e : 4 - q ≡ 0 = omega arith in rw e

-- an Activation is among marks where one of them is at least 128
counts_one : (a x : ℕ) → (leb 128 a || not (eqb x 0)) ≡ not (eqb (a / 128 + x) 0)
counts_one a x =
    ⊎_elim
    (λ (t : leb 128 a ≡ true). let h = leb-true 128 a t in rw (t, ne_eqb (a / 128 + x) 0 (λ z. omega arith)))
    (λ (t : leb 128 a ≡ false). let h = leb-false 128 a t in let e : a / 128 + x ≡ x = omega arith in rw (t, e))
    (cases (leb 128 a))

any_from : (k i : ℕ) (l r : List ℕ) → length r ≡ k → drop i l ≡ r → list_any (leb 128) r ≡ not (eqb (activation_marks k i l) 0)
unfolding activation_marks
any_from zero i l [] n e = refl
any_from zero i l (a ∷ r) n e = absurd (omega arith)
any_from (suc k) i l [] n e = absurd (omega arith)
any_from (suc k) i l (a ∷ r) n e =
    let z : i ≡ i + 0 = omega arith in
    let first : get_or l i 0 ≡ a = ap (λ (j : ℕ). get_or l j 0) z ∙ element i 0 l e in
    rw (first, any_from k (i + 1) l r (omega arith) (behind i 1 l e)) (counts_one a (activation_marks k (i + 1) l))

pub any_activation : (l : List ℕ) → length l ≡ 12 → list_any (leb 128) l ≡ not (eqb (activation_marks 12 0 l) 0)
any_activation l n = any_from 12 0 l l n refl
