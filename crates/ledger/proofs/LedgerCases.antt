-- The tests of a ledger as the code makes them, part by part. Assumes nothing.
use Prim.Native.Nat.{ℕ, zero, suc, ◌+◌, ◌%◌, ◌≤◌, ◌<◌}
use mathlib.Core.Path.{◌≡◌, refl, sym, ap, ◌∙◌}
use mathlib.Core.Bool.{Bool, true, false, ◌&&◌}
use mathlib.Core.List.{List, []}
use native.Mathlib.Omega.{arith}
use lib.ListN.{get_or}
use Rattle.message.specs.Charges.{charges}
use Rattle.reader.specs.Reading.{reader_ok, carried}
use Rattle.reader.specs.declared.reader.Reader.{Reader}
use Rattle.pools.specs.Pools.{receiver_ok, payable_by, payable, charged_to}
use Rattle.ledger.specs.Audit.{receiver_of, reader_of, pools_ok, direction_ok}
use Rattle.pools.specs.Rows.{row, nested}
use Rattle.ledger.specs.CountingMirror.{rows_ok, pooled}
use Rattle.pools.specs.declared.receiver.Receiver.{Receiver}
use Rattle.ledger.specs.declared.ledger.Ledger.{Ledger}
use Rattle.pools.proofs.RowLaws.{row_at}
use Rattle.ledger.proofs.SettleLaws.{nested_entry}

-- a test behind another that holds
second_decides : (a b : Bool) {t u : Bool} → t ≡ a → t ≡ true → u ≡ b → u ≡ (a && b)
second_decides a b e f g = g ∙ sym (ap (λ (x : Bool). x && b) (sym e ∙ f))

-- whether the pools of what is carried exist, by its first two bytes
module _ (s : Ledger) (d : ℕ) {r : Receiver} (er : r ≡ receiver_of s d) {m : List ℕ} (em : m ≡ carried (reader_of s d)) {x y : ℕ} (ex : x ≡ get_or m 0 0) (ey : y ≡ get_or m 1 0)
    {t : Bool} (et : t ≡ payable_by r (x % 16) x y) where
  carry_payable : t ≡ payable (receiver_of s d) (carried (reader_of s d))
  carry_payable = et ∙ (λ i. payable_by r (ex i % 16) (ex i) (ey i)) ∙ (λ i. payable (er i) (em i))

  pub pools_decide : t ≡ true → {u : Bool} → u ≡ pools_ok s d 14 0 → u ≡ pooled s d
  pools_decide e eu = second_decides (payable (receiver_of s d) (carried (reader_of s d))) (pools_ok s d 14 0) carry_payable e eu

-- the pools of a direction by its rows
module _ (s : Ledger) (d : ℕ) (h : d < 2) where
  abbrev carried_row : List ℕ → List ℕ
  carried_row m = row (λ p. charged_to p (charges m)) 14 0

  rows_pools : (k p : ℕ) → p + k ≤ 14
      → rows_ok (get_or (nested s.held) d []) (get_or (nested s.opened) d []) (carried_row (carried (reader_of s d))) (receiver_of s d).capacities k p ≡ pools_ok s d k p
  unfolding rows_ok pools_ok
  rows_pools zero p b = refl
  rows_pools (suc k) p b =
      rw (nested_entry s.held d p h (omega arith), nested_entry s.opened d p h (omega arith), row_at (λ q. charged_to q (charges (carried (reader_of s d)))) p (omega arith), rows_pools k (p + 1) (omega arith))

  pub counts_pools : {held opened : List (List ℕ)} → held ≡ nested s.held → opened ≡ nested s.opened → {m paid : List ℕ} → m ≡ carried (reader_of s d) → paid ≡ carried_row m
      → {r : Receiver} → r ≡ receiver_of s d → {t : Bool} → t ≡ rows_ok (get_or held d []) (get_or opened d []) paid r.capacities 14 0 → t ≡ pools_ok s d 14 0
  counts_pools eh eo em ep er et =
      et ∙ (λ i. rows_ok (get_or (eh i) d []) (get_or (eo i) d []) ((ep ∙ ap carried_row em) i) (er i).capacities 14 0) ∙ rows_pools 14 0 (omega arith)

-- a direction whose receiver is valid, by its reader and its pools
module _ (s : Ledger) (d : ℕ) {r : Receiver} (er : r ≡ receiver_of s d) {t : Bool} (et : t ≡ receiver_ok r) (valid : t ≡ true) {q : Reader} (eq : q ≡ reader_of s d) {u : Bool} (eu : u ≡ reader_ok q) where
  behind_receiver : {w : Bool} → w ≡ (reader_ok (reader_of s d) && pooled s d) → w ≡ direction_ok s d
  behind_receiver = second_decides (receiver_ok (receiver_of s d)) (reader_ok (reader_of s d) && pooled s d) (et ∙ ap receiver_ok er) valid

  pub reader_fails : u ≡ false → u ≡ direction_ok s d
  reader_fails e = behind_receiver (e ∙ sym (ap (λ (x : Bool). x && pooled s d) (sym (eu ∙ ap reader_ok eq) ∙ e)))

  pub direction_decides : u ≡ true → {w : Bool} → w ≡ pooled s d → w ≡ direction_ok s d
  direction_decides e ew = behind_receiver (second_decides (reader_ok (reader_of s d)) (pooled s d) (eu ∙ ap reader_ok eq) e ew)
