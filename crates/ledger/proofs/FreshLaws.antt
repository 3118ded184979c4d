-- A fresh ledger of a valid format and valid receivers is valid. Assumes nothing.
use Prim.Native.Nat.{ℕ, zero, suc, ◌+◌, ◌*◌, ◌<◌}
use mathlib.Core.Path.{◌≡◌, refl, sym, ◌∙◌}
use mathlib.Core.Bool.{true, ◌&&◌}
use native.Mathlib.Omega.{arith}
use lib.ListN.{get_or-replicate}
use lib.Dec.{ltb}
use Rattle.lists.proofs.Tests.{and_left, and_right, and_both}
use Rattle.message.specs.Charges.{charges}
use Rattle.reader.specs.Reading.{reader_ok, carried}
use Rattle.pools.specs.Pools.{payable, charged_to, receiver_ok}
use Rattle.pools.specs.declared.receiver.Receiver.{Receiver}
use Rattle.ledger.specs.Audit.{receiver_of, reader_of, ledger_ok, fresh_ledger, configured}
use Rattle.ledger.proofs.ValidLaws.{ValidDirection, valid_ledger}

fresh_direction : (f : ℕ) (a b : Receiver) (d : ℕ) → d < 2 → ltb f 2 ≡ true → receiver_ok (receiver_of (fresh_ledger f a b) d) ≡ true
    → reader_ok (reader_of (fresh_ledger f a b) d) ≡ true
    → ValidDirection (fresh_ledger f a b) d
fresh_direction f a b d two ok good reads = record {
  receiver = good;
  reader = reads;
  carry = carry_passes d two;
  unfinished = λ p h. get_or-replicate {A = ℕ} 28 (14 * d + p) 0 0 (omega arith) ∙ sym (nothing_paid d two p);
  room = λ p h. let held = get_or-replicate {A = ℕ} 28 (14 * d + p) 0 0 (omega arith) in omega arith;
}
  where
    carry_passes : (d : ℕ) → d < 2 → payable (receiver_of (fresh_ledger f a b) d) (carried (reader_of (fresh_ledger f a b) d)) ≡ true
    carry_passes zero h = refl
    carry_passes (suc zero) h = refl
    carry_passes (suc (suc d)) h = absurd (omega arith)

    nothing_paid : (d : ℕ) → d < 2 → (p : ℕ) → charged_to p (charges (carried (reader_of (fresh_ledger f a b) d))) ≡ 0
    nothing_paid zero h p = refl
    nothing_paid (suc zero) h p = refl
    nothing_paid (suc (suc d)) h p = absurd (omega arith)

pub fresh_valid : (f : ℕ) (a b : Receiver) → configured f a b ≡ true → ledger_ok (fresh_ledger f a b) ≡ true
fresh_valid f a b e =
    let ok = and_left (ltb f 2) (receiver_ok a && receiver_ok b) e in
    let both = and_right (ltb f 2) (receiver_ok a && receiver_ok b) e in
    valid_ledger (fresh_ledger f a b)
    (fresh_direction f a b 0 (omega arith) ok (and_left (receiver_ok a) (receiver_ok b) both) (and_both (ltb f 2) true ok refl))
    (fresh_direction f a b 1 (omega arith) ok (and_right (receiver_ok a) (receiver_ok b) both) (and_both (ltb f 2) true ok refl))
