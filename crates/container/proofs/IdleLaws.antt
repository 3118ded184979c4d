-- The idle container byte by byte, and by the parts between the bytes of the link header. Assumes nothing.
use Prim.Native.Nat.{ℕ, zero, suc, ◌+◌, ◌<◌}
use mathlib.Core.Path.{◌≡◌, refl, sym, ap, ◌∙◌}
use mathlib.Core.Bool.{Bool, true, false, ◌&&◌, ◌||◌, not}
use mathlib.Core.List.{List, [], ◌∷◌}
use mathlib.Core.Logic.{⊎_elim, ◌↔◌}
use native.Mathlib.Omega.{arith}
use native.Mathlib.Nat.{zero-add}
use borrow.Author.Tests.{eqb-true, eq-eqb, ne_eqb, not-true}
use lib.ListN.{length, get_or, take, drop, length-drop}
use lib.Seq.{drop-drop, take_all}
use lib.Dec.{T, eqb}
use Rattle.lists.specs.Pick.{pick}
use Rattle.lists.specs.Parts.{part, zeros}
use Rattle.lists.proofs.Tests.{cases, T_true, and_left, and_right, and_both, and_assoc}
use Rattle.lists.proofs.Tables.{below, below_at}
use Rattle.container.specs.Layout.{link_x, link_y, format_of}
use Rattle.container.specs.Idle.{idle_from}

module _ (link : ℕ → Bool) where
  -- byte by byte
  idle_from_law : (c : List ℕ) (a i : ℕ) → idle_from link c a ≡ true → link (a + i) ≡ false → get_or c i 0 ≡ 0
  unfolding idle_from
  idle_from_law [] a i e h = refl
  idle_from_law (b ∷ c) a zero e h =
      let f : link a ≡ false = ap link (omega arith) ∙ h in
      eqb-true b 0 (rw f at (and_left (link a || eqb b 0) (idle_from link c (a + 1)) e))
  idle_from_law (b ∷ c) a (suc i) e h =
      idle_from_law c (a + 1) i (and_right (link a || eqb b 0) (idle_from link c (a + 1)) e) (ap link (omega arith) ∙ h)

  from_idle : (c : List ℕ) (a : ℕ) → ((i : ℕ) → i < length c → link (a + i) ≡ false → get_or c i 0 ≡ 0) → idle_from link c a ≡ true
  unfolding idle_from
  from_idle [] a h = refl
  from_idle (b ∷ c) a h =
      and_both (link a || eqb b 0) (idle_from link c (a + 1))
      (⊎_elim (λ (t : link a ≡ true). rw t) (λ (t : link a ≡ false). rw (t, eq-eqb b 0 (h 0 (omega arith) (ap link (omega arith) ∙ t)))) (cases (link a)))
      (from_idle c (a + 1) (λ i b t. h (suc i) (omega arith) (ap link (omega arith) ∙ t)))

  pub idle_exactly : (c : List ℕ) → (idle_from link c 0 ≡ true) ↔ ((i : ℕ) → i < length c → link i ≡ false → get_or c i 0 ≡ 0)
  idle_exactly c = (
    λ e i b t. idle_from_law c 0 i e (ap link (zero-add i) ∙ t),
    λ h. from_idle c 0 (λ i b t. h i b (ap link (sym (zero-add i)) ∙ t)),
  )

  -- none of a list's bytes is of the link header
  idle_plain : (c : List ℕ) (a : ℕ) → ((i : ℕ) → i < length c → link (a + i) ≡ false) → idle_from link c a ≡ zeros c
  unfolding idle_from
  idle_plain [] a h = refl
  idle_plain (b ∷ c) a h =
      let t : link a ≡ false = ap link (omega arith) ∙ h 0 (omega arith) in
      rw (t, idle_plain c (a + 1) (λ i b. ap link (omega arith) ∙ h (suc i) (omega arith)))

  -- n bytes that are none of it, and n that are
  idle_off : (n : ℕ) (c : List ℕ) (a : ℕ) → ((i : ℕ) → i < n → link (a + i) ≡ false)
      → idle_from link c a ≡ (zeros (take n c) && idle_from link (drop n c) (a + n))
  unfolding idle_from
  idle_off zero c a h = ap (idle_from link c) (omega arith)
  idle_off (suc n) [] a h = refl
  idle_off (suc n) (b ∷ c) a h =
      let t : link a ≡ false = ap link (omega arith) ∙ h 0 (omega arith) in
      let e : (a + 1) + n ≡ a + suc n = omega arith in
      rw (t, idle_off n c (a + 1) (λ i b. ap link (omega arith) ∙ h (suc i) (omega arith)), e)
      (sym (and_assoc (eqb b 0) (zeros (take n c)) (idle_from link (drop n c) (a + suc n))))

  idle_on : (n : ℕ) (c : List ℕ) (a : ℕ) → ((i : ℕ) → i < n → link (a + i) ≡ true) → idle_from link c a ≡ idle_from link (drop n c) (a + n)
  unfolding idle_from
  idle_on zero c a h = ap (idle_from link c) (omega arith)
  idle_on (suc n) [] a h = refl
  idle_on (suc n) (b ∷ c) a h =
      let t : link a ≡ true = ap link (omega arith) ∙ h 0 (omega arith) in
      let e : (a + 1) + n ≡ a + suc n = omega arith in
      rw (t, idle_on n c (a + 1) (λ i b. ap link (omega arith) ∙ h (suc i) (omega arith)), e)

  module _ (c : List ℕ) (a n : ℕ) (off : T (below n (λ i. not (link (a + i))))) where
    no_link : (i : ℕ) → i < n → link (a + i) ≡ false
    no_link i b = not-true (link (a + i)) (T_true (not (link (a + i))) (below_at n (λ i. not (link (a + i))) off i b))

    -- n bytes from a on that are none of it, then k that are; and the last n bytes, that are none of it
    idle_span : (k : ℕ) → T (below k (λ i. link ((a + n) + i)))
        → idle_from link (drop a c) a ≡ (zeros (part a n c) && idle_from link (drop ((a + n) + k) c) ((a + n) + k))
    idle_span k on =
        idle_off n (drop a c) a no_link
        ∙ rw (drop-drop n a c, idle_on k (drop (a + n) c) (a + n) (λ i b. T_true (link ((a + n) + i)) (below_at k (λ i. link ((a + n) + i)) on i b)), drop-drop k (a + n) c)

    idle_last : length c ≡ a + n → idle_from link (drop a c) a ≡ zeros (part a n c)
    idle_last e =
        idle_plain (drop a c) a (λ i b. no_link i (omega (arith, rw (length-drop a c) at b)))
        ∙ ap zeros (sym (take_all n (drop a c) (rw (length-drop a c) (omega arith))))

-- format X: bytes 60-63, 124 and 125 are its link header
pub idle_x : (c : List ℕ) → length c ≡ 256 → idle_from link_x c 0 ≡ (zeros (part 0 60 c) && (zeros (part 64 60 c) && zeros (part 126 130 c)))
idle_x c n = idle_span link_x c 0 60 tt 4 tt ∙ rw (idle_span link_x c 64 60 tt 2 tt, idle_last link_x c 126 130 tt n)

-- format Y: bytes 60-63, 120-127, 188-191 and 242-245 are its link header
pub idle_y : (c : List ℕ) → length c ≡ 256
    → idle_from link_y c 0 ≡ (zeros (part 0 60 c) && (zeros (part 64 56 c) && (zeros (part 128 60 c) && (zeros (part 192 50 c) && zeros (part 246 10 c)))))
idle_y c n =
    idle_span link_y c 0 60 tt 4 tt
    ∙ rw (idle_span link_y c 64 56 tt 8 tt, idle_span link_y c 128 60 tt 4 tt, idle_span link_y c 192 50 tt 4 tt, idle_last link_y c 246 10 tt n)

-- every format but 0 has Y's link header
pub idle_other : (f : ℕ) (c : List ℕ) → (f ≡ 0 → ⊥) → idle_from link_y c 0 ≡ idle_from (format_of f).link c 0
idle_other f c d = ap (λ (x : Bool). idle_from (λ i. pick x (link_x i) (link_y i)) c 0) (sym (ne_eqb f 0 d))
