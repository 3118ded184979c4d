-- A valid ledger direction by direction and pool by pool, and back. Assumes nothing.
use Prim.Native.Nat.{ℕ, zero, suc, ◌+◌, ◌≤◌, ◌<◌}
use mathlib.Core.Path.{◌≡◌, refl, ap, ◌∙◌}
use mathlib.Core.Bool.{Bool, true, ◌&&◌}
use native.Mathlib.Omega.{arith}
use lib.ListN.{get_or}
use lib.Dec.{eqb, leb}
use borrow.Author.Tests.{eqb-true, leb-true, eq-eqb, le-leb}
use Rattle.lists.proofs.Tests.{and_left, and_right, and_both}
use Rattle.message.specs.Charges.{charges}
use Rattle.reader.specs.Reading.{reader_ok, carried}
use Rattle.pools.specs.Pools.{receiver_ok, payable, charged_to}
use Rattle.ledger.specs.Audit.{receiver_of, reader_of, held_of, open_of, pool_ok, pools_ok, direction_ok, ledger_ok}
use Rattle.ledger.specs.declared.ledger.Ledger.{Ledger}

-- direction d of a valid ledger
pub record ValidDirection (s : Ledger) (d : ℕ) : Type 0 where
  pub receiver : receiver_ok (receiver_of s d) ≡ true
  pub reader : reader_ok (reader_of s d) ≡ true
  pub carry : payable (receiver_of s d) (carried (reader_of s d)) ≡ true
  pub unfinished : (p : ℕ) → p < 14 → open_of s d p ≡ charged_to p (charges (carried (reader_of s d)))
  pub room : (p : ℕ) → p < 14 → held_of s d p + open_of s d p ≤ get_or (receiver_of s d).capacities p 0

module _ (s : Ledger) (d : ℕ) where
  -- the tests of a direction and of a pool
  abbrev fourteen : Bool
  fourteen = payable (receiver_of s d) (carried (reader_of s d))

  abbrev last : Bool
  last = fourteen && pools_ok s d 14 0

  abbrev behind : Bool
  behind = reader_ok (reader_of s d) && last

  abbrev same : ℕ → Bool
  same p = eqb (open_of s d p) (charged_to p (charges (carried (reader_of s d))))

  abbrev fits : ℕ → Bool
  fits p = leb (held_of s d p + open_of s d p) (get_or (receiver_of s d).capacities p 0)

  pools_at : (k p i : ℕ) → pools_ok s d k p ≡ true → i < k → pool_ok s d (p + i) ≡ true
  unfolding pools_ok
  pools_at zero p i e h = absurd (omega arith)
  pools_at (suc k) p zero e h = ap (pool_ok s d) (omega arith) ∙ and_left (pool_ok s d p) (pools_ok s d k (p + 1)) e
  pools_at (suc k) p (suc i) e h =
      ap (pool_ok s d) (omega arith) ∙ pools_at k (p + 1) i (and_right (pool_ok s d p) (pools_ok s d k (p + 1)) e) (omega arith)

  pools_by : (k p : ℕ) → ((i : ℕ) → i < k → pool_ok s d (p + i) ≡ true) → pools_ok s d k p ≡ true
  unfolding pools_ok
  pools_by zero p h = refl
  pools_by (suc k) p h =
      and_both (pool_ok s d p) (pools_ok s d k (p + 1)) (ap (pool_ok s d) (omega arith) ∙ h 0 (omega arith))
      (pools_by k (p + 1) (λ i b. ap (pool_ok s d) (omega arith) ∙ h (suc i) (omega arith)))

  pub direction_valid : direction_ok s d ≡ true → ValidDirection s d
  direction_valid e = record {
    receiver = and_left (receiver_ok (receiver_of s d)) behind e;
    reader = and_left (reader_ok (reader_of s d)) last (and_right (receiver_ok (receiver_of s d)) behind e);
    carry = and_left fourteen (pools_ok s d 14 0) (and_right (reader_ok (reader_of s d)) last (and_right (receiver_ok (receiver_of s d)) behind e));
    unfinished = λ p h. eqb-true (open_of s d p) (charged_to p (charges (carried (reader_of s d)))) (and_left (same p) (fits p) (pool p h));
    room = λ p h. leb-true (held_of s d p + open_of s d p) (get_or (receiver_of s d).capacities p 0) (and_right (same p) (fits p) (pool p h));
  }
    where
      pool : (p : ℕ) → p < 14 → pool_ok s d p ≡ true
      pool p h =
          ap (pool_ok s d) (omega arith)
          ∙ pools_at 14 0 p (and_right fourteen (pools_ok s d 14 0) (and_right (reader_ok (reader_of s d)) last (and_right (receiver_ok (receiver_of s d)) behind e))) h

  pub valid_direction : ValidDirection s d → direction_ok s d ≡ true
  valid_direction v =
      and_both (receiver_ok (receiver_of s d)) behind v.receiver
      (and_both (reader_ok (reader_of s d)) last v.reader
      (and_both fourteen (pools_ok s d 14 0) v.carry (pools_by 14 0 (λ i b. ap (pool_ok s d) (omega arith) ∙ pool i b))))
    where
      pool : (p : ℕ) → p < 14 → pool_ok s d p ≡ true
      pool p h =
          and_both (same p) (fits p)
          (eq-eqb (open_of s d p) (charged_to p (charges (carried (reader_of s d)))) (v.unfinished p h))
          (le-leb (held_of s d p + open_of s d p) (get_or (receiver_of s d).capacities p 0) (v.room p h))

-- both directions of a valid ledger
pub ledger_valid : (s : Ledger) (d : ℕ) → ledger_ok s ≡ true → d < 2 → ValidDirection s d
ledger_valid s zero e h = direction_valid s 0 (and_left (direction_ok s 0) (direction_ok s 1) e)
ledger_valid s (suc zero) e h = direction_valid s 1 (and_right (direction_ok s 0) (direction_ok s 1) e)
ledger_valid s (suc (suc d)) e h = absurd (omega arith)

pub valid_ledger : (s : Ledger) → ValidDirection s 0 → ValidDirection s 1 → ledger_ok s ≡ true
valid_ledger s v w = and_both (direction_ok s 0) (direction_ok s 1) (valid_direction s 0 v) (valid_direction s 1 w)
