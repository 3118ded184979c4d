-- A message and a grant lack a pool exactly where the tests of the checks fail. Assumes nothing.
use Prim.Native.Nat.{ℕ, ◌/◌, ◌%◌, ◌≤◌, ◌<◌}
use mathlib.Core.Path.{◌≡◌, sym, subst}
use mathlib.Core.Bool.{Bool, false, ◌&&◌, ◌||◌, not}
use mathlib.Core.List.{List}
use mathlib.Core.Logic.{◌⊎◌, inl, inr, ⊎_elim, ◌↔◌}
use lib.ListN.{get_or}
use lib.Dec.{T, eqb, ltb, leb}
use borrow.Author.Tests.{le-ltb, lt-leb, ne_eqb, ltb-false, leb-false, eqb-false}
use Rattle.container.specs.declared.grant.Grant.{Grant}
use Rattle.message.specs.Heads.{type_of, class_of}
use Rattle.message.specs.Charges.{shared_crdt, res_plane}
use Rattle.pools.specs.Pools.{has_pool, pays_req, pays_data, pays_push, payable, grantable}
use Rattle.pools.specs.declared.receiver.Receiver.{Receiver}
use Rattle.pools.proofs.PaymentRuleLaws.{req_class, data_class, push_class}
use Rattle.pools.specs.Faults.{PaymentFault, GrantFault, dedicated, push, dat}
use Rattle.lists.proofs.FailLaws.{guard_fails, fail_guard, and_fails, fail_left, fail_right, or_fails, not_zero, zero_not}

-- ---- a message
module _ (r : Receiver) (m : List ℕ) where
  abbrev t : ℕ
  t = type_of m

  -- the tests of its REQ plane, of the DAT pool of DataS and DataL, and of that of push data
  abbrev in_planes : Bool
  in_planes = ltb (res_plane (get_or m 0 0)) r.planes

  abbrev data_pooled : Bool
  data_pooled = shared_crdt (get_or m 0 0) || has_pool r 12

  abbrev push_pooled : Bool
  push_pooled = r.push && (eqb (get_or m 1 0 % 2) 1 || has_pool r 13)

  plane_fault : (not (pays_req (class_of t)) || in_planes) ≡ false → PaymentFault r m
  plane_fault e =
      let w = guard_fails (pays_req (class_of t)) in_planes e in
      PaymentFault.bad_plane (subst T (sym (req_class m)) w.0) (ltb-false (res_plane (get_or m 0 0)) r.planes w.1)

  data_fault : (not (pays_data (class_of t)) || data_pooled) ≡ false → PaymentFault r m
  data_fault e =
      let w = guard_fails (pays_data (class_of t)) data_pooled e in
      let v = or_fails (shared_crdt (get_or m 0 0)) (has_pool r 12) w.1 in
      dedicated (subst T (sym (data_class m)) w.0) (eqb-false (get_or m 0 0 / 16 % 2) 1 v.0) v.1

  push_fault : (not (pays_push (class_of t)) || push_pooled) ≡ false → PaymentFault r m
  push_fault e =
      let w = guard_fails (pays_push (class_of t)) push_pooled e in
      push (subst T (sym (push_class m)) w.0) (⊎_elim (λ a. inl a) missing (and_fails r.push (eqb (get_or m 1 0 % 2) 1 || has_pool r 13) w.1))
    where
      missing : (eqb (get_or m 1 0 % 2) 1 || has_pool r 13) ≡ false → (r.push ≡ false) ⊎ ((get_or m 1 0 % 2 ≡ 1 → ⊥) × (r.planes < 2))
      missing f =
          let v = or_fails (eqb (get_or m 1 0 % 2) 1) (has_pool r 13) f in
          ⊎_elim (λ a. inl a) (λ b. inr (eqb-false (get_or m 1 0 % 2) 1 v.0, leb-false 2 r.planes b)) (and_fails r.push (leb 2 r.planes) v.1)

  -- its three tests, and those behind the first
  abbrev planes : Bool
  planes = not (pays_req (class_of t)) || in_planes

  abbrev datas : Bool
  datas = not (pays_data (class_of t)) || data_pooled

  abbrev pushes : Bool
  pushes = not (pays_push (class_of t)) || push_pooled

  unpaid : PaymentFault r m → payable r m ≡ false
  unpaid (PaymentFault.bad_plane k l) =
      fail_left planes (datas && pushes) (fail_guard (pays_req (class_of t)) in_planes (subst T (req_class m) k) (le-ltb (res_plane (get_or m 0 0)) r.planes l))
  unpaid (dedicated k s h) =
      fail_right planes (datas && pushes) (fail_left datas pushes (fail_guard (pays_data (class_of t)) data_pooled (subst T (data_class m) k) (rw (ne_eqb (get_or m 0 0 / 16 % 2) 1 s, h))))
  unpaid (push k h) =
      fail_right planes (datas && pushes) (fail_right datas pushes (fail_guard (pays_push (class_of t)) push_pooled (subst T (push_class m) k) (missing h)))
    where
      missing : (r.push ≡ false) ⊎ ((get_or m 1 0 % 2 ≡ 1 → ⊥) × (r.planes < 2)) → push_pooled ≡ false
      missing (inl e) = fail_left r.push (eqb (get_or m 1 0 % 2) 1 || has_pool r 13) e
      missing (inr w) =
          fail_right r.push (eqb (get_or m 1 0 % 2) 1 || has_pool r 13)
          (rw (ne_eqb (get_or m 1 0 % 2) 1 w.0) (fail_right r.push (leb 2 r.planes) (lt-leb 2 r.planes w.1)))

  pub payment_fault : (payable r m ≡ false) ↔ PaymentFault r m
  payment_fault = (λ e. ⊎_elim plane_fault (λ f. ⊎_elim data_fault push_fault (and_fails datas pushes f)) (and_fails planes (datas && pushes) e), unpaid)

-- ---- a grant
module _ (r : Receiver) (n : Grant) where
  -- the tests of its plane and of its DAT count
  abbrev in_plane : Bool
  in_plane = ltb n.rp r.planes

  abbrev dat_pooled : Bool
  dat_pooled = eqb n.dat 0 || (r.push && ltb n.rp 2)

  lacking : grantable r n ≡ false → GrantFault r n
  lacking e =
      let w = or_fails n.shc (in_plane && dat_pooled) e in
      ⊎_elim (λ (a : in_plane ≡ false). GrantFault.bad_plane w.0 (ltb-false n.rp r.planes a))
      (λ (a : dat_pooled ≡ false).
      let v = or_fails (eqb n.dat 0) (r.push && ltb n.rp 2) a in
      dat w.0 (not_zero n.dat v.0) (⊎_elim (λ b. inl b) (λ b. inr (ltb-false n.rp 2 b)) (and_fails r.push (ltb n.rp 2) v.1)))
      (and_fails in_plane dat_pooled w.1)

  ungranted : GrantFault r n → grantable r n ≡ false
  ungranted (GrantFault.bad_plane s l) = rw s (fail_left in_plane dat_pooled (le-ltb n.rp r.planes l))
  ungranted (dat s d h) = rw s (fail_right in_plane dat_pooled (rw (zero_not n.dat d) (missing h)))
    where
      missing : (r.push ≡ false) ⊎ (2 ≤ n.rp) → (r.push && ltb n.rp 2) ≡ false
      missing (inl e) = fail_left r.push (ltb n.rp 2) e
      missing (inr l) = fail_right r.push (ltb n.rp 2) (le-ltb n.rp 2 l)

  pub grant_fault : (grantable r n ≡ false) ↔ GrantFault r n
  grant_fault = (lacking, ungranted)
