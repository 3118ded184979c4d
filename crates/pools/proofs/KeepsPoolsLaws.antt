-- A container keeps the rules for pools exactly where the checks of 14 and 21 pass. Assumes nothing.
use Prim.Native.Nat.{ℕ, ◌<◌}
use mathlib.Core.Path.{◌≡◌}
use mathlib.Core.Bool.{true, ◌&&◌}
use mathlib.Core.List.{List}
use mathlib.Core.Logic.{◌↔◌}
use native.Mathlib.Omega.{arith}
use borrow.Author.Tests.{eqb-true, eq-eqb}
use Rattle.lists.proofs.Tests.{T_true, true_t, and_left, and_right, and_both}
use Rattle.cause.specs.Checks.{Pass}
use Rattle.cause.specs.declared.Cause.TheVariants.{MissingPool, MissingGrantPool}
use Rattle.cause.proofs.EachLaws.{each_passes, passes_each}
use Rattle.container.specs.Layout.{Format, granule, msg_start, bit}
use Rattle.container.specs.Grants.{header_grant}
use Rattle.message.specs.Heads.{is_misc, crdt_grant}
use Rattle.message.specs.HeadRules.{byte, Misc}
use Rattle.message.proofs.HeadRuleLaws.{guarded, misc_exactly}
use Rattle.placement.specs.Cells.{Cell, cells}
use Rattle.placement.specs.Rules.{Starts, start_bit}
use Rattle.placement.proofs.Keeps.{progress, cell_of}
use Rattle.placement.proofs.ProgressLaws.{list_from, cells_of}
use Rattle.pools.specs.Pools.{payable, grantable, start_payable, start_grantable, message_checks, grant_checks}
use Rattle.pools.specs.PoolRules.{PaysRight, GrantsRight, KeepsPools, grant_in}
use Rattle.pools.specs.declared.receiver.Receiver.{Receiver}
use Rattle.pools.proofs.GranuleLaws.{granule_checks_law}
use Rattle.pools.proofs.GrantRuleLaws.{grant_exactly}
use Rattle.pools.proofs.PayableLaws.{payment_exactly}

module _ (own other : Receiver) (fm : Format) (m c : List ℕ) (eight : (g : ℕ) → g < 12 → Starts fm c g → byte (granule fm g c) 0 < 256) where
  abbrev cell : ℕ → Cell
  cell = cell_of fm c m

  cells_are : cells fm c 12 0 m ≡ list_from cell 12 0
  unfolding progress
  cells_are = cells_of fm c m 12 0

  -- a message that starts in granule g
  message_exactly : (g : ℕ) → g < 12 → (start_payable own (cell g) ≡ true) ↔ (Starts fm c g → PaysRight own (granule fm g c))
  unfolding cell_of
  message_exactly g b =
      let x = guarded (bit (msg_start fm c) g) (payable own (granule fm g c)) in (
        λ e s. (payment_exactly own (granule fm g c) (eight g b s)).0 (T_true (payable own (granule fm g c)) (x.0 e (true_t (bit (msg_start fm c) g) (eq-eqb (start_bit fm c g) 1 s)))),
        λ h. x.1 (λ t. let s = eqb-true (start_bit fm c g) 1 (T_true (bit (msg_start fm c) g) t) in true_t (payable own (granule fm g c)) ((payment_exactly own (granule fm g c) (eight g b s)).1 (h s))),
      )

  -- a CrdtGrant that starts there
  crdt_exactly : (g : ℕ) → (start_grantable other (cell g) ≡ true) ↔ (Starts fm c g → Misc (granule fm g c) 2 → GrantsRight other (grant_in (granule fm g c)))
  unfolding cell_of
  crdt_exactly g =
      let n = grant_in (granule fm g c) in
      let s? = bit (msg_start fm c) g in
      let x? = is_misc (granule fm g c) crdt_grant in
      let x = guarded (s? && x?) (grantable other n) in (
        λ e s i. (grant_exactly other n).0 (T_true (grantable other n) (x.0 e (true_t (s? && x?) (and_both s? x? (eq-eqb (start_bit fm c g) 1 s) (T_true x? ((misc_exactly (granule fm g c) 2).1 i)))))),
        λ h. x.1 (λ t.
            let u = T_true (s? && x?) t in
            true_t (grantable other n) ((grant_exactly other n).1 (h (eqb-true (start_bit fm c g) 1 (and_left s? x? u)) ((misc_exactly (granule fm g c) 2).0 (true_t x? (and_right s? x? u)))))),
      )

  pub pools_exactly : (Pass (message_checks own (cells fm c 12 0 m)) × Pass (grant_checks other (header_grant fm c) (cells fm c 12 0 m))) ↔ KeepsPools own other fm c
  pools_exactly = (to, from)
    where
      to : Pass (message_checks own (cells fm c 12 0 m)) × Pass (grant_checks other (header_grant fm c) (cells fm c 12 0 m)) → KeepsPools own other fm c
      to h = record {
        messages = λ g b s. (message_exactly g b).0 (each_passes (granule_checks_law (start_payable own) MissingPool cell) 12 0 (rw cells_are at h.0) g (omega arith) b) s;
        heading = (grant_exactly other (header_grant fm c)).0 h.1.0;
        grants = λ g b s i. (crdt_exactly g).0 (each_passes (granule_checks_law (start_grantable other) MissingGrantPool cell) 12 0 (rw cells_are at h.1.1) g (omega arith) b) s i;
      }

      from : KeepsPools own other fm c → Pass (message_checks own (cells fm c 12 0 m)) × Pass (grant_checks other (header_grant fm c) (cells fm c 12 0 m))
      from v = (
        rw cells_are (passes_each (granule_checks_law (start_payable own) MissingPool cell) 12 0 (λ g a b. (message_exactly g b).1 (v.messages g b))),
        (
          (grant_exactly other (header_grant fm c)).1 v.heading,
          rw cells_are (passes_each (granule_checks_law (start_grantable other) MissingGrantPool cell) 12 0 (λ g a b. (crdt_exactly g).1 (v.grants g b))),
        ),
      )
