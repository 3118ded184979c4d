-- A configuration and a ledger are valid in the paper's words exactly where the tests of the checks hold. Assumes nothing.
use Prim.Native.Nat.{ℕ, ◌≤◌, ◌<◌}
use mathlib.Core.Path.{◌≡◌, refl, ◌∙◌}
use mathlib.Core.Bool.{true, ◌&&◌}
use mathlib.Core.List.{List, []}
use mathlib.Core.Logic.{⊎_elim, ◌↔◌}
use native.Mathlib.Omega.{arith}
use lib.Dec.{ltb}
use borrow.Author.Tests.{ltb-true, lt-ltb}
use Rattle.lists.proofs.Order.{lt_or_le}
use Rattle.lists.proofs.Tests.{and_left, and_right, and_both}
use Rattle.message.specs.Charges.{charges}
use Rattle.message.specs.HeadRules.{byte}
use Rattle.reader.specs.Reading.{carried}
use Rattle.reader.specs.ValidState.{Part, ValidState}
use Rattle.reader.specs.declared.reader.Reader.{Reader}
use Rattle.reader.proofs.ReadRules.{state_exactly}
use Rattle.pools.specs.Pools.{receiver_ok, charged_to}
use Rattle.pools.specs.PoolRules.{Pays}
use Rattle.ledger.specs.Audit.{receiver_of, reader_of, open_of, direction_ok, ledger_ok, configured}
use Rattle.ledger.specs.ValidLedger.{ValidConfiguration, ValidDirection, ValidLedger}
use Rattle.pools.specs.declared.receiver.Receiver.{Receiver}
use Rattle.ledger.specs.declared.ledger.Ledger.{Ledger}
use Rattle.ledger.proofs.ValidLaws.{direction_valid, valid_direction}
use Rattle.pools.proofs.PoolRuleLaws.{receiver_exactly}
use Rattle.pools.proofs.PaymentRuleLaws.{pays_exactly}
use Rattle.pools.proofs.PayableLaws.{payment_exactly}

pub configured_exactly : (f : ℕ) (a b : Receiver) → (configured f a b ≡ true) ↔ ValidConfiguration f a b
configured_exactly f a b = (
  λ e. let v = and_right (ltb f 2) (receiver_ok a && receiver_ok b) e in record {
    format = ltb-true f 2 (and_left (ltb f 2) (receiver_ok a && receiver_ok b) e);
    receiver0 = (receiver_exactly a).0 (and_left (receiver_ok a) (receiver_ok b) v);
    receiver1 = (receiver_exactly b).0 (and_right (receiver_ok a) (receiver_ok b) v);
  },
  λ v. and_both (ltb f 2) (receiver_ok a && receiver_ok b) (lt-ltb f 2 v.format)
      (and_both (receiver_ok a) (receiver_ok b) ((receiver_exactly a).1 v.receiver0) ((receiver_exactly b).1 v.receiver1)),
)

-- byte 0 of what a valid reader carries is a byte
pub first_byte : (r : Reader) → ValidState r → byte (carried r) 0 < 256
first_byte r v = ⊎_elim (λ (z : carried r ≡ []). rw z (omega arith)) (λ (h : Part (carried r)). h.headed.eight) v.carry

-- a number of a pool follows from what a message pays exactly where it is what its charges take
module _ (m : List ℕ) (b : byte m 0 < 256) (p n : ℕ) where
  pub follows_exactly : (n ≡ charged_to p (charges m)) ↔ (((k : ℕ) → Pays m p k → n ≡ k) × (((k : ℕ) → Pays m p k → ⊥) → n ≡ 0))
  follows_exactly = (
    λ e. (
      λ k x. e ∙ ((pays_exactly m p k b).0 x).0,
      λ none. ⊎_elim
          (λ (z : charged_to p (charges m) < 1). omega arith)
          (λ (z : 1 ≤ charged_to p (charges m)). absurd (none (charged_to p (charges m)) ((pays_exactly m p (charged_to p (charges m)) b).1 (refl, omega arith))))
          (lt_or_le (charged_to p (charges m)) 1),
    ),
    λ h. ⊎_elim
        (λ (z : charged_to p (charges m) < 1). let e = h.1 (λ k x. let y = (pays_exactly m p k b).0 x in let l = y.0 in let q = y.1 in omega arith) in omega arith)
        (λ (z : 1 ≤ charged_to p (charges m)). h.0 (charged_to p (charges m)) ((pays_exactly m p (charged_to p (charges m)) b).1 (refl, omega arith)))
        (lt_or_le (charged_to p (charges m)) 1),
  )

module _ (s : Ledger) (d : ℕ) where
  abbrev message : List ℕ
  message = carried (reader_of s d)

  pub direction_exactly : (direction_ok s d ≡ true) ↔ ValidDirection s d
  direction_exactly = (to, from)
    where
      to : direction_ok s d ≡ true → ValidDirection s d
      to e =
          let v = direction_valid s d e in
          let t = (state_exactly (reader_of s d)).0 v.reader in
          let b = first_byte (reader_of s d) t in
          record {
            receiver = (receiver_exactly (receiver_of s d)).0 v.receiver;
            reader = t;
            passes = (payment_exactly (receiver_of s d) message b).0 v.carry;
            within = v.room;
            carrying = λ p k h. ((follows_exactly message b p (open_of s d p)).0 (v.unfinished p h)).0 k;
            closed = λ p h. ((follows_exactly message b p (open_of s d p)).0 (v.unfinished p h)).1;
          }

      from : ValidDirection s d → direction_ok s d ≡ true
      from v =
          let b = first_byte (reader_of s d) v.reader in
          valid_direction s d (record {
            receiver = (receiver_exactly (receiver_of s d)).1 v.receiver;
            reader = (state_exactly (reader_of s d)).1 v.reader;
            carry = (payment_exactly (receiver_of s d) message b).1 v.passes;
            unfinished = λ p h. (follows_exactly message b p (open_of s d p)).1 (λ k. v.carrying p k h, v.closed p h);
            room = v.within;
          })

pub ledger_exactly : (s : Ledger) → (ledger_ok s ≡ true) ↔ ValidLedger s
ledger_exactly s = (
  λ e. record {
    direction0 = (direction_exactly s 0).0 (and_left (direction_ok s 0) (direction_ok s 1) e);
    direction1 = (direction_exactly s 1).0 (and_right (direction_ok s 0) (direction_ok s 1) e);
  },
  λ v. and_both (direction_ok s 0) (direction_ok s 1) ((direction_exactly s 0).1 v.direction0) ((direction_exactly s 1).1 v.direction1),
)
