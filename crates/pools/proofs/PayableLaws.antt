-- A message keeps the rules for pools exactly where its test holds. Assumes nothing.
use Prim.Native.Nat.{ℕ, ◌/◌, ◌%◌, ◌<◌}
use mathlib.Core.Path.{◌≡◌, sym, subst}
use mathlib.Core.Bool.{Bool, true, ◌&&◌, ◌||◌, not}
use mathlib.Core.List.{List}
use mathlib.Core.Logic.{◌↔◌}
use native.Mathlib.Omega.{arith}
use lib.Dec.{T, eqb, ltb}
use borrow.Author.Tests.{ltb-true, eqb-false, lt-ltb}
use Rattle.lists.proofs.Tests.{true_t, T_true, and_left, and_right, and_both}
use Rattle.message.specs.Heads.{class_of}
use Rattle.message.specs.HeadRules.{byte, type}
use Rattle.message.specs.Charges.{shared_crdt}
use Rattle.message.proofs.HeadRuleLaws.{guarded}
use Rattle.pools.specs.Pools.{has_pool, pays_req, pays_data, pays_push, payable}
use Rattle.pools.specs.PoolRules.{Exists, plane, PaysReq, IsData, IsPush, Pays, PaysRight}
use Rattle.pools.specs.PoolRules.Exists.{always, req_plane}
use Rattle.pools.specs.PoolRules.Pays.{shared_req_case, req, rsp, rsp2, snp, shared_dat_case, dat, shared_push, push}
use Rattle.pools.specs.declared.receiver.Receiver.{Receiver}
use Rattle.pools.proofs.PoolRuleLaws.{by_test, exists_exactly}
use Rattle.pools.proofs.PaymentRuleLaws.{req_class, data_class, push_class, not_shared, not_push}

module _ (r : Receiver) (m : List ℕ) (b : byte m 0 < 256) where
  abbrev fits : Bool
  fits = ltb (plane m) r.planes

  abbrev data_fits : Bool
  data_fits = shared_crdt (byte m 0) || has_pool r 12

  abbrev push_fits : Bool
  push_fits = r.push && (eqb (byte m 1 % 2) 1 || has_pool r 13)

  -- its three tests
  abbrev planes : Bool
  planes = not (pays_req (class_of (type m))) || fits

  abbrev datas : Bool
  datas = not (pays_data (class_of (type m))) || data_fits

  abbrev pushes : Bool
  pushes = not (pays_push (class_of (type m))) || push_fits

  pub payment_exactly : (payable r m ≡ true) ↔ PaysRight r m
  payment_exactly = (to, from)
    where
      to : payable r m ≡ true → PaysRight r m
      to e = record { below = below_planes; needs = λ h. and_left r.push (eqb (byte m 1 % 2) 1 || has_pool r 13) (pushing h); pools = λ p k x. existing x }
        where
          below_planes : PaysReq m → plane m < r.planes
          below_planes h = ltb-true (plane m) r.planes (T_true fits ((guarded (pays_req (class_of (type m))) fits).0 (and_left planes (datas && pushes) e) (subst T (req_class m) h)))

          pushing : IsPush m → push_fits ≡ true
          pushing h = T_true push_fits ((guarded (pays_push (class_of (type m))) push_fits).0 (and_right datas pushes (and_right planes (datas && pushes) e)) (subst T (push_class m) h))

          existing : {p k : ℕ} → Pays m p k → Exists r p
          existing (shared_req_case h s) = always tt
          existing (req h s) = req_plane (plane m) (omega arith) (below_planes h)
          existing (rsp h) = always tt
          existing (rsp2 h) = always tt
          existing (snp h) = always tt
          existing (shared_dat_case h s) = always tt
          existing (dat h s) =
              let t = T_true data_fits ((guarded (pays_data (class_of (type m))) data_fits).0 (and_left datas pushes (and_right planes (datas && pushes) e)) (subst T (data_class m) h)) in
              (exists_exactly r 12).0 (rw (not_shared m s) at t)
          existing (shared_push h s) = always tt
          existing (push h s) =
              (exists_exactly r 13).0 (rw (not_push m s) at (and_right r.push (eqb (byte m 1 % 2) 1 || has_pool r 13) (pushing h)))

      from : PaysRight r m → payable r m ≡ true
      from v =
          and_both planes (datas && pushes)
          ((guarded (pays_req (class_of (type m))) fits).1 (λ h. true_t fits (lt-ltb (plane m) r.planes (v.below (subst T (sym (req_class m)) h)))))
          (and_both datas pushes
          ((guarded (pays_data (class_of (type m))) data_fits).1 (λ h. true_t data_fits (data_right (subst T (sym (data_class m)) h))))
          ((guarded (pays_push (class_of (type m))) push_fits).1 (λ h. true_t push_fits (push_right (subst T (sym (push_class m)) h)))))
        where
          data_right : IsData m → data_fits ≡ true
          data_right h =
              by_test (shared_crdt (byte m 0)) (λ t. rw t)
              (λ t. rw t ((exists_exactly r 12).1 (v.pools 12 1 (dat h (eqb-false (byte m 0 / 16 % 2) 1 t)))))

          push_right : IsPush m → push_fits ≡ true
          push_right h =
              and_both r.push (eqb (byte m 1 % 2) 1 || has_pool r 13) (v.needs h)
              (by_test (eqb (byte m 1 % 2) 1) (λ t. rw t)
              (λ t. rw t ((exists_exactly r 13).1 (v.pools 13 1 (push h (eqb-false (byte m 1 % 2) 1 t))))))
