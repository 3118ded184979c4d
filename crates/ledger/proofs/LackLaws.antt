-- A message that starts in an entry, and a CrdtGrant, lacks a pool exactly where the test of its cell fails. Assumes nothing.
use Prim.Native.Nat.{ℕ, ◌<◌}
use mathlib.Core.Path.{◌≡◌}
use mathlib.Core.Bool.{false, ◌&&◌}
use mathlib.Core.List.{List}
use mathlib.Core.Logic.{◌↔◌}
use Rattle.lists.proofs.FailLaws.{guard_fails, fail_guard}
use Rattle.lists.proofs.Tests.{T_true, true_t, and_left, and_right, and_both}
use Rattle.container.specs.Layout.{Format, format_of, granule, msg_start, bit}
use Rattle.message.specs.Heads.{is_misc, crdt_grant}
use Rattle.message.specs.HeadRules.{Misc}
use Rattle.message.proofs.HeadRuleLaws.{misc_exactly}
use Rattle.placement.specs.Rules.{Starts}
use Rattle.placement.proofs.Keeps.{cell_of}
use Rattle.placement.proofs.ContainerTable.{starts_in_law, starts_cell}
use Rattle.reader.specs.Reading.{carried}
use Rattle.pools.specs.Faults.{GrantFault}
use Rattle.pools.specs.PoolRules.{grant_in}
use Rattle.pools.specs.Pools.{payable, grantable, form_in, start_payable, start_grantable}
use Rattle.pools.proofs.PoolFaults.{payment_fault, grant_fault}
use Rattle.ledger.specs.Audit.{receiver_of, reader_of, opposite}
use Rattle.ledger.specs.Faults.{MessageLacksPool, GrantLacksPool, crdt}
use Rattle.ledger.specs.declared.ledger.Ledger.{Ledger}
use Rattle.ledger.proofs.EntryFaults.{entry_cell}

module _ (s : Ledger) (d : ℕ) (c : List ℕ) where
  abbrev fm : Format
  fm = format_of s.format

  abbrev m : List ℕ
  m = carried (reader_of s d)

  pub lacks_message : (g : ℕ) → g < 12 → (start_payable (receiver_of s d) (entry_cell s d c g) ≡ false) ↔ MessageLacksPool s d c g
  unfolding cell_of
  lacks_message g b =
      let own = receiver_of s d in
      let t = bit (msg_start fm c) g in
      let u = payable own (granule fm g c) in (
        λ e. let w = guard_fails t u e in record { within = b; starts = starts_in_law fm m c g w.0; lacks = (payment_fault own (granule fm g c)).0 w.1 },
        λ h. fail_guard t u (starts_cell fm m c g h.starts) ((payment_fault own (granule fm g c)).1 h.lacks),
      )

  pub lacks_crdt : (g : ℕ) → g < 12 → start_grantable (receiver_of s (opposite d)) (entry_cell s d c g) ≡ false → GrantLacksPool s d c g
  unfolding cell_of
  lacks_crdt g b e =
      let far = receiver_of s (opposite d) in
      let t = bit (msg_start fm c) g in
      let i = is_misc (granule fm g c) crdt_grant in
      let w = guard_fails (t && i) (grantable far (form_in (granule fm g c))) e in
      let h = T_true (t && i) w.0 in
      crdt g b (starts_in_law fm m c g (true_t t (and_left t i h))) ((misc_exactly (granule fm g c) 2).0 (true_t i (and_right t i h))) ((grant_fault far (form_in (granule fm g c))).0 w.1)

  pub crdt_lacks : (g : ℕ) → Starts fm c g → Misc (granule fm g c) 2 → GrantFault (receiver_of s (opposite d)) (grant_in (granule fm g c))
      → start_grantable (receiver_of s (opposite d)) (entry_cell s d c g) ≡ false
  unfolding cell_of
  crdt_lacks g a x f =
      let far = receiver_of s (opposite d) in
      let t = bit (msg_start fm c) g in
      let i = is_misc (granule fm g c) crdt_grant in
      let h = and_both t i (T_true t (starts_cell fm m c g a)) (T_true i ((misc_exactly (granule fm g c) 2).1 x)) in
      fail_guard (t && i) (grantable far (form_in (granule fm g c))) (true_t (t && i) h) ((grant_fault far (form_in (granule fm g c))).1 f)
