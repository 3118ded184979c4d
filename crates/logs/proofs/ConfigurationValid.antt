-- A configuration that is taken is valid, and so is the ledger that it starts. Assumes nothing.
use Prim.Native.Nat.{ℕ, zero, suc, ◌-◌, ◌+◌, ◌*◌, ◌/◌, ◌%◌, ◌<◌, ◌≤◌}
use mathlib.Core.Path.{◌≡◌, refl, sym, ap, subst, ◌∙◌}
use mathlib.Core.Bool.{Bool, true, false, ◌&&◌, ◌||◌}
use mathlib.Core.List.{List, []}
use mathlib.Core.Logic.{⊎_elim}
use native.Mathlib.Nat.{div-add-mod'}
use native.Mathlib.Omega.{arith}
use lib.ListN.{length, drop, set, get_or, replicate, length-set}
use lib.Seq.{get_or-set_same, get_or-set_other}
use lib.Dec.{ltb, leb, eqb}
use borrow.Author.Tests.{eqb-false, ne_eqb}
use Rattle.lists.specs.Pick.{pick}
use Rattle.lists.proofs.Tests.{cases, and_both}
use Rattle.lists.proofs.Order.{lt_or_le}
use Rattle.lists.proofs.PickLaws.{pick_by}
use Rattle.lists.proofs.PartLaws.{get_d_part}
use Rattle.record.specs.Number.{read_number}
use Rattle.record.specs.declared.number.Number.{Number}
use Rattle.pools.specs.Pools.{has_pool, capacity_ok, capacities_ok, receiver_ok}
use Rattle.ledger.specs.Audit.{ledger_ok, configured}
use Rattle.logs.specs.Log.{ConfigurationAnswer, misconfigures, configures, configuration_from, configuration_at, number_then, value_ok, suits, receiver_at, ledger_of}
use Rattle.pools.specs.declared.receiver.Receiver.{Receiver}
use Rattle.ledger.proofs.FreshLaws.{fresh_valid}
use Rattle.std.specs.Prelude.{Option, Some, None}

-- ---- a number is judged by those before it

-- N and push alone say which pools there are
abbrev suits_by : ℕ → Bool → ℕ → ℕ → Bool
suits_by planes push j v = suits (record { planes = planes; push = push; capacities = [] }) j v

suits_same : (n m : ℕ) (x y : Bool) (j v : ℕ) → (2 ≤ j → (n ≡ m) × (x ≡ y)) → suits_by n x j v ≡ suits_by m y j v
suits_same n m x y j v h =
    ⊎_elim
    (λ (a : eqb j 0 ≡ true). simp a)
    (λ (a : eqb j 0 ≡ false). ⊎_elim
    (λ (b : eqb j 1 ≡ true). simp (a, b))
    (λ (b : eqb j 1 ≡ false).
    let same : (n ≡ m) × (x ≡ y) = h (omega (arith, eqb-false j 0 a, eqb-false j 1 b)) in
    ap (λ (k : ℕ). suits_by k x j v) same.0 ∙ ap (λ (t : Bool). suits_by m t j v) same.1)
    (cases (eqb j 1)))
    (cases (eqb j 0))

pub value_same : (ns ms : List ℕ) (i v : ℕ) → ((m : ℕ) → m < i → get_or ns m 0 ≡ get_or ms m 0) → value_ok ns i v ≡ value_ok ms i v
value_same ns ms i v h =
    ap (λ (t : Bool). pick (eqb i 0) (ltb v 2) t)
    (suits_same (get_or ns ((i - 1) / 16 * 16 + 1) 0) (get_or ms ((i - 1) / 16 * 16 + 1) 0)
    (eqb (get_or ns ((i - 1) / 16 * 16 + 1 + 1) 0) 1) (eqb (get_or ms ((i - 1) / 16 * 16 + 1 + 1) 0) 1)
    ((i - 1) % 16) v
    (λ two. (
      h ((i - 1) / 16 * 16 + 1) (omega (arith, div-add-mod' (i - 1) 16)),
      ap (λ (n : ℕ). eqb n 1) (h ((i - 1) / 16 * 16 + 1 + 1) (omega (arith, div-add-mod' (i - 1) 16))),
    )))

-- ---- the numbers that are taken

-- the first i of the 33 may stand where they stand
record Valid (ns : List ℕ) (i : ℕ) : Type 0 where
  all : length ns ≡ 33
  each : (j : ℕ) → j < i → value_ok ns j (get_or ns j 0) ≡ true

valid_more : (ns : List ℕ) (i v : ℕ) → i < 33 → Valid ns i → value_ok ns i v ≡ true → Valid (set ns i v) (i + 1)
valid_more ns i v low h ok = record {
  all = length-set ns i v ∙ h.all;
  each = λ j below. ⊎_elim
      (λ (less : j < i).
      ap (λ (x : ℕ). value_ok (set ns i v) j x) (get_or-set_other ns i j v 0 (λ z. omega arith))
      ∙ value_same (set ns i v) ns j (get_or ns j 0) (λ m q. get_or-set_other ns i m v 0 (λ z. omega arith))
      ∙ h.each j less)
      (λ (more : i ≤ j).
      let here : j ≡ i = omega arith in
      subst (λ (x : ℕ). value_ok (set ns i v) x (get_or (set ns i v) x 0) ≡ true) (sym here)
      (ap (λ (x : ℕ). value_ok (set ns i v) i x) (get_or-set_same ns i v 0 (omega (arith, h.all)))
      ∙ value_same (set ns i v) ns i v (λ m q. get_or-set_other ns i m v 0 (λ z. omega arith))
      ∙ ok))
      (lt_or_le j i);
}

abbrev Good : ConfigurationAnswer → Type 0
Good (misconfigures c p) = Unit {0}
Good (configures ns n) = Valid ns 33

number_good : (r : Option Number) (ns : List ℕ) (i at : ℕ) (f : ℕ → ℕ → ConfigurationAnswer) → ((v u : ℕ) → value_ok ns i v ≡ true → Good (f v u))
    → Good (number_then r ns i at f)
number_good None ns i at f h = tt
number_good (Some number) ns i at f h = pick_by Good (value_ok ns i number.value) (λ t. h number.value number.used t) (λ t. tt)

configuration_good : (k : ℕ) (ns : List ℕ) (i at : ℕ) (l : List ℕ) → i + k ≡ 33 → Valid ns i → Good (configuration_from k ns i at l)
unfolding configuration_from
configuration_good zero ns i at l e h =
    let full : i ≡ 33 = omega arith in
    subst (λ (x : ℕ). Valid ns x) full h
configuration_good (suc k) ns i at l e h =
    number_good (read_number l) ns i at (λ v u. configuration_from k (set ns i v) (i + 1) (at + u) (drop u l))
    (λ v u ok. configuration_good k (set ns i v) (i + 1) (at + u) (drop u l) (omega arith) (valid_more ns i v (omega arith) h ok))

configuration_valid : (l ns : List ℕ) (n : ℕ) → configuration_at l ≡ configures ns n → Valid ns 33
configuration_valid l ns n e =
    subst Good e (configuration_good 33 (replicate 33 0) 0 0 l refl (record { all = refl; each = λ j below. absurd (omega arith) }))

-- ---- the receivers

-- number j of the sixteen of direction d
pub value_at : (ns : List ℕ) (d j v : ℕ) → j < 16 → value_ok ns (16 * d + 1 + j) v ≡ suits (receiver_at ns (16 * d + 1)) j v
value_at ns d j v h =
    let first : (16 * d + 1 + j - 1) / 16 * 16 + 1 ≡ 16 * d + 1 = omega arith in
    let place : (16 * d + 1 + j - 1) % 16 ≡ j = omega arith in
    ap (λ (t : Bool). pick t (ltb v 2) (suits (receiver_at ns ((16 * d + 1 + j - 1) / 16 * 16 + 1)) ((16 * d + 1 + j - 1) % 16) v))
    (ne_eqb (16 * d + 1 + j) 0 (λ z. omega arith))
    ∙ ap (λ (i : ℕ). suits (receiver_at ns i) ((16 * d + 1 + j - 1) % 16) v) first
    ∙ ap (λ (i : ℕ). suits (receiver_at ns (16 * d + 1)) i v) place

pub suits_capacity : (r : Receiver) (p v : ℕ) → suits r (p + 2) v ≡ (leb v 1023 && (has_pool r p || eqb v 0))
suits_capacity r p v =
    let two : p + 2 - 2 ≡ p = omega arith in
    ap (λ (t : Bool). pick t (leb 1 v && leb v 8) (pick (eqb (p + 2) 1) (ltb v 2) (leb v 1023 && (has_pool r (p + 2 - 2) || eqb v 0)))) (ne_eqb (p + 2) 0 (λ z. omega arith))
    ∙ ap (λ (t : Bool). pick t (ltb v 2) (leb v 1023 && (has_pool r (p + 2 - 2) || eqb v 0))) (ne_eqb (p + 2) 1 (λ z. omega arith))
    ∙ ap (λ (q : ℕ). leb v 1023 && (has_pool r q || eqb v 0)) two

capacities_by : (r : Receiver) (k p : ℕ) → ((i : ℕ) → i < k → capacity_ok r (p + i) ≡ true) → capacities_ok r k p ≡ true
unfolding capacities_ok
capacities_by r zero p h = refl
capacities_by r (suc k) p h =
    and_both (capacity_ok r p) (capacities_ok r k (p + 1)) (ap (capacity_ok r) (omega arith) ∙ h 0 (omega arith))
    (capacities_by r k (p + 1) (λ i b. ap (capacity_ok r) (omega arith) ∙ h (suc i) (omega arith)))

module _ (ns : List ℕ) (valid : Valid ns 33) (d : ℕ) (two : d < 2) where
  abbrev receiver : Receiver
  receiver = receiver_at ns (16 * d + 1)

  number_suits : (j : ℕ) → j < 16 → suits receiver j (get_or ns (16 * d + 1 + j) 0) ≡ true
  number_suits j h = sym (value_at ns d j (get_or ns (16 * d + 1 + j) 0) h) ∙ valid.each (16 * d + 1 + j) (omega arith)

  planes_fine : (leb 1 receiver.planes && leb receiver.planes 8) ≡ true
  planes_fine =
      ap (λ (i : ℕ). leb 1 (get_or ns i 0) && leb (get_or ns i 0) 8) (omega arith)
      ∙ number_suits 0 (omega arith)

  capacity_here : (p : ℕ) → p < 14 → get_or receiver.capacities p 0 ≡ get_or ns (16 * d + 1 + (p + 2)) 0
  capacity_here p h =
      get_d_part (16 * d + 1 + 2) 14 ns (omega (arith, valid.all)) p h ∙ ap (λ (i : ℕ). get_or ns i 0) (omega arith)

  capacity_fine : (p : ℕ) → p < 14 → capacity_ok receiver (0 + p) ≡ true
  capacity_fine p h =
      ap (capacity_ok receiver) (omega arith)
      ∙ ap (λ (v : ℕ). leb v 1023 && (has_pool receiver p || eqb v 0)) (capacity_here p h)
      ∙ sym (suits_capacity receiver p (get_or ns (16 * d + 1 + (p + 2)) 0))
      ∙ number_suits (p + 2) (omega arith)

  receiver_fine : receiver_ok receiver ≡ true
  receiver_fine =
      and_both (leb 1 receiver.planes && leb receiver.planes 8) (capacities_ok receiver 14 0) planes_fine
      (capacities_by receiver 14 0 capacity_fine)

-- a configuration that is taken has a valid format and valid receivers
pub configuration_configured : (l ns : List ℕ) (n : ℕ) → configuration_at l ≡ configures ns n → configured (get_or ns 0 0) (receiver_at ns 1) (receiver_at ns 17) ≡ true
configuration_configured l ns n e =
    let valid = configuration_valid l ns n e in
    and_both (ltb (get_or ns 0 0) 2) (receiver_ok (receiver_at ns 1) && receiver_ok (receiver_at ns 17)) (valid.each 0 (omega arith))
    (and_both (receiver_ok (receiver_at ns 1)) (receiver_ok (receiver_at ns 17)) (receiver_fine ns valid 0 (omega arith)) (receiver_fine ns valid 1 (omega arith)))

-- ---- the ledger that it starts

pub configuration_fresh : (l ns : List ℕ) (n : ℕ) → configuration_at l ≡ configures ns n → ledger_ok (ledger_of ns) ≡ true
configuration_fresh l ns n e = fresh_valid (get_or ns 0 0) (receiver_at ns 1) (receiver_at ns 17) (configuration_configured l ns n e)
