-- A message may start where the sentences on places say exactly where the test of the checks holds. Assumes nothing.
use Prim.Native.Nat.{ℕ, ◌≤◌, ◌<◌}
use mathlib.Core.Path.{◌≡◌, refl, ap, ◌∙◌}
use mathlib.Core.Bool.{Bool, true, false, ◌&&◌, ◌||◌}
use mathlib.Core.List.{List}
use mathlib.Core.Logic.{◌⊎◌, inl, inr, ⊎_elim, ◌↔◌}
use native.Mathlib.Omega.{arith}
use lib.Dec.{T, eqb, leb, eqb→eq, leb→le}
use borrow.Author.Tests.{le-leb, eq-eqb}
use Rattle.lists.proofs.Tests.{cases, true_t, t_left, t_right, and_left, and_right, and_both, or_cases, or_true, never_both}
use Rattle.container.specs.Layout.{Format, wide}
use Rattle.container.specs.Lawful.{Lawful}
use Rattle.message.specs.Heads.{type_of, op_of, msg_size, misc_by}
use Rattle.message.specs.Places.{placed, fits_in, first_only, responses}
use Rattle.message.specs.HeadRules.{type, Row, Bytes, MayStart, response_count}
use Rattle.message.specs.HeadRules.Row.{ReqS, ReqL, Resp, Resp2, Snoop, DataS, DataL, WrReqDataS, WrReqDataL, LinkStatus, Activation, CrdtGrant, Connect, Property}
use Rattle.message.proofs.HeadRuleLaws.{row_size, guarded, misc_t, t_misc}

-- a message of the table may start at a granule exactly where the test holds
module _ (fm : Format) (law : Lawful fm) (g : ℕ) (below : g < 12) (m : List ℕ) (n : ℕ) (r : Bytes m n) where
  size : msg_size m ≡ n
  size = row_size r

  resp_fits : {t o n : ℕ} → Row t o n → t ≡ 3 → n ≤ 10
  resp_fits (ReqS o) e = absurd (omega arith)
  resp_fits (ReqL o) e = absurd (omega arith)
  resp_fits (Resp o) e = omega arith
  resp_fits (Resp2 o) e = absurd (omega arith)
  resp_fits (Snoop o) e = absurd (omega arith)
  resp_fits (DataS o) e = absurd (omega arith)
  resp_fits (DataL o) e = absurd (omega arith)
  resp_fits (WrReqDataS o) e = absurd (omega arith)
  resp_fits (WrReqDataL o) e = absurd (omega arith)
  resp_fits LinkStatus e = absurd (omega arith)
  resp_fits Activation e = absurd (omega arith)
  resp_fits CrdtGrant e = absurd (omega arith)
  resp_fits Connect e = absurd (omega arith)
  resp_fits Property e = absurd (omega arith)

  abbrev small : Bool
  small = leb (msg_size m) (fm.size g)

  abbrev kind : Bool
  kind = eqb (type_of m) 3 || eqb (type_of m) 10

  fits_to : T (wide fm g || (kind && small)) → fm.size g < 20 → (type m ≡ 3) ⊎ ((type m ≡ 10) × ((k : ℕ) → Bytes m k → k ≤ fm.size g))
  fits_to h s =
      ⊎_elim (λ (w : T (wide fm g)). let e = eqb→eq (fm.size g) 20 w in absurd (omega arith))
      (λ (x : T (kind && small)).
      ⊎_elim (λ (t : T (eqb (type_of m) 3)). inl (eqb→eq (type_of m) 3 t))
      (λ (t : T (eqb (type_of m) 10)). inr (eqb→eq (type_of m) 10 t, λ k q. let e : msg_size m ≡ k = row_size q in let l = leb→le (msg_size m) (fm.size g) (t_right kind small x) in omega arith))
      (or_cases (eqb (type_of m) 3) (eqb (type_of m) 10) (t_left kind small x)))
      (or_cases (wide fm g) (kind && small) h)

  fits_from : (fm.size g < 20 → (type m ≡ 3) ⊎ ((type m ≡ 10) × ((k : ℕ) → Bytes m k → k ≤ fm.size g))) → (wide fm g || (kind && small)) ≡ true
  fits_from h = ⊎_elim (λ (w : wide fm g ≡ true). rw w) narrow (cases (wide fm g))
    where
      narrow : wide fm g ≡ false → (wide fm g || (kind && small)) ≡ true
      narrow w =
          let k = law.most g below in
          let d : fm.size g ≡ 20 → ⊥ = λ e. never_both w (eq-eqb (fm.size g) 20 e) in
          ⊎_elim is_resp is_misc_case (h (omega arith))
        where
          is_resp : type m ≡ 3 → (wide fm g || (kind && small)) ≡ true
          is_resp t = let l = resp_fits r t in let k = law.least g below in rw (w, eq-eqb (type_of m) 3 t, le-leb (msg_size m) (fm.size g) (omega (arith, size)))

          is_misc_case : (type m ≡ 10) × ((k : ℕ) → Bytes m k → k ≤ fm.size g) → (wide fm g || (kind && small)) ≡ true
          is_misc_case t = let l = t.1 n r in rw w (and_both kind small (ap (λ (b : Bool). eqb (type_of m) 3 || b) (eq-eqb (type_of m) 10 t.0) ∙ or_true (eqb (type_of m) 3)) (le-leb (msg_size m) (fm.size g) (omega (arith, size))))

  pub place_exactly : (placed fm g m ≡ true) ↔ MayStart fm g m
  place_exactly = (to, from)
    where
      to : placed fm g m ≡ true → MayStart fm g m
      to e = record {
        narrow = fits_to (true_t (fits_in fm g (type_of m) (op_of m)) (and_left (fits_in fm g (type_of m) (op_of m)) (first_only g (type_of m) (op_of m)) e));
        first = λ x. eqb→eq g 0 ((guarded (misc_by (type_of m) (op_of m) 0) (eqb g 0)).0 (and_right (fits_in fm g (type_of m) (op_of m)) (first_only g (type_of m) (op_of m)) e) (misc_t (type_of m) (op_of m) 0 x));
      }

      from : MayStart fm g m → placed fm g m ≡ true
      from h =
          and_both (fits_in fm g (type_of m) (op_of m)) (first_only g (type_of m) (op_of m)) (fits_from h.narrow)
          ((guarded (misc_by (type_of m) (op_of m) 0) (eqb g 0)).1 (λ x. true_t (eqb g 0) (eq-eqb g 0 (h.first (t_misc (type_of m) (op_of m) 0 x)))))

-- a message counts among the responses what the test counts
pub responses_exactly : (m : List ℕ) → responses m ≡ response_count m
responses_exactly m = refl
