-- A writer is valid in the paper's words exactly where the test holds. Assumes nothing.
use Prim.Native.Nat.{ℕ, ◌+◌, ◌-◌, ◌%◌, ◌≤◌}
use mathlib.Core.Path.{◌≡◌, sym, ap, ◌∙◌}
use mathlib.Core.Bool.{true, ◌&&◌, ◌||◌, not}
use mathlib.Core.List.{List, [], ◌∷◌}
use mathlib.Core.Logic.{◌↔◌}
use native.Mathlib.Omega.{arith}
use lib.ListN.{get_or, drop}
use lib.Seq.{get_or-drop}
use lib.Dec.{T, eqb, ltb, leb}
use borrow.Author.Tests.{lt-ltb, le-leb, eq-eqb}
use Rattle.lists.specs.Parts.{zeros}
use Rattle.lists.proofs.Tables.{below_at}
use Rattle.lists.proofs.Tests.{T_true, true_t, and_right, and_both}
use Rattle.lists.proofs.ZeroLaws.{zeros_at, at_zeros}
use Rattle.message.specs.HeadRules.{byte, among}
use Rattle.message.proofs.HeadRuleLaws.{each_of, guarded}
use Rattle.writer.specs.Filling.{writer_ok}
use Rattle.writer.specs.ValidWriter.{ValidWriter}
use Rattle.writer.specs.declared.writer.Writer.{Writer}
use Rattle.writer.proofs.StateCases.{writer_ok_valid}

-- the lengths that a tail may have
abbrev lengths : List ℕ
lengths = 0 ∷ 20 ∷ 40 ∷ 60 ∷ 80 ∷ 100 ∷ []

length_exactly : (n : ℕ) → ((n ≤ 100) × (n % 20 ≡ 0)) ↔ T (among lengths n)
length_exactly n = (
  λ h. let a = h.0 in (guarded (eqb (n % 20) 0) (among lengths n)).0 (T_true _ (below_at 101 (λ k. not (eqb (k % 20) 0) || among lengths k) tt n (omega arith))) (true_t (eqb (n % 20) 0) (eq-eqb (n % 20) 0 h.1)),
  each_of (λ k. (k ≤ 100) × (k % 20 ≡ 0)) lengths n
      ((omega arith, omega arith), ((omega arith, omega arith), ((omega arith, omega arith), ((omega arith, omega arith), ((omega arith, omega arith), ((omega arith, omega arith), tt)))))),
)

-- a valid writer
pub writer_exactly : (w : Writer) → (writer_ok w ≡ true) ↔ ValidWriter w
writer_exactly w = (to, from)
  where
    to : writer_ok w ≡ true → ValidWriter w
    to e =
        let v = writer_ok_valid w e in
        let a = and_right (ltb w.format 2) (leb w.len 100 && (eqb (w.len % 20) 0 && zeros (drop w.len w.tail))) e in
        let b = and_right (leb w.len 100) (eqb (w.len % 20) 0 && zeros (drop w.len w.tail)) a in
        let z = and_right (eqb (w.len % 20) 0) (zeros (drop w.len w.tail)) b in
        record { format = v.format; tail = (length_exactly w.len).0 (v.short, v.granules); behind = λ i l. zero_at z i l }
      where
        zero_at : zeros (drop w.len w.tail) ≡ true → (i : ℕ) → w.len ≤ i → byte w.tail i ≡ 0
        zero_at z i l =
            let j : w.len + (i - w.len) ≡ i = omega arith in
            sym (ap (λ (n : ℕ). get_or w.tail n 0) j) ∙ sym (get_or-drop w.len w.tail (i - w.len) 0) ∙ zeros_at (drop w.len w.tail) z (i - w.len)

    from : ValidWriter w → writer_ok w ≡ true
    from v =
        let s = (length_exactly w.len).1 v.tail in
        and_both (ltb w.format 2) (leb w.len 100 && (eqb (w.len % 20) 0 && zeros (drop w.len w.tail))) (lt-ltb w.format 2 v.format)
        (and_both (leb w.len 100) (eqb (w.len % 20) 0 && zeros (drop w.len w.tail)) (le-leb w.len 100 s.0)
        (and_both (eqb (w.len % 20) 0) (zeros (drop w.len w.tail)) (eq-eqb (w.len % 20) 0 s.1) (at_zeros (drop w.len w.tail) all)))
      where
        all : (i : ℕ) → get_or (drop w.len w.tail) i 0 ≡ 0
        all i = get_or-drop w.len w.tail i 0 ∙ v.behind (w.len + i) (omega arith)
