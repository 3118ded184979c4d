-- The pools of a receiver and a valid receiver, in the sentences of the paper, exactly where the tests of the checks hold. Assumes nothing.
use Prim.Native.Nat.{ℕ, zero, suc, ◌+◌, ◌-◌, ◌<◌}
use mathlib.Core.Path.{◌≡◌, refl, sym, ap, ◌∙◌, subst}
use mathlib.Core.Bool.{Bool, true, false, ◌&&◌, ◌||◌}
use mathlib.Core.List.{[], ◌∷◌}
use mathlib.Core.Logic.{⊎_elim, ◌↔◌}
use native.Mathlib.Omega.{arith}
use lib.Dec.{T, eqb, ltb, leb}
use borrow.Author.Tests.{ltb-true, leb-true, eqb-true, le-leb, eq-eqb}
use Rattle.lists.specs.Pick.{pick}
use Rattle.lists.proofs.Tables.{below_at}
use Rattle.lists.proofs.Tests.{cases, never_both, T_true, and_left, and_right, and_both, or_cases}
use Rattle.message.specs.HeadRules.{among}
use Rattle.message.proofs.HeadRuleLaws.{each_of}
use Rattle.pools.specs.Pools.{has_pool, capacity_ok, capacities_ok, receiver_ok}
use Rattle.pools.specs.PoolRules.{Exists, ValidReceiver, capacity_of}
use Rattle.pools.specs.PoolRules.Exists.{always, req_plane, first, second}
use Rattle.pools.specs.declared.receiver.Receiver.{Receiver}

-- ---- tests

-- by a test that holds or fails
pub by_test : (t : Bool) {P : Type 0} → (t ≡ true → P) → (t ≡ false → P) → P
by_test t f g = ⊎_elim f g (cases t)

-- ---- the pools of a receiver
module _ (r : Receiver) where
  -- below 12 a pool is a plane's or one of 0, 9, 10 and 11
  lasts : (p : ℕ) → (leb 1 p && leb p 8) ≡ false → p < 12 → T (among (0 ∷ 9 ∷ 10 ∷ 11 ∷ []) p)
  lasts p e h =
      ⊎_elim (λ (t : T (leb 1 p && leb p 8)). absurd (never_both e (T_true (leb 1 p && leb p 8) t))) (λ t. t)
      (or_cases (leb 1 p && leb p 8) (among (0 ∷ 9 ∷ 10 ∷ 11 ∷ []) p)
      (below_at 12 (λ q. (leb 1 q && leb q 8) || among (0 ∷ 9 ∷ 10 ∷ 11 ∷ []) q) tt p h))

  exists_has : {p : ℕ} → Exists r p → has_pool r p ≡ true
  exists_has {p} (always h) = each_of (λ (q : ℕ). has_pool r q ≡ true) (0 ∷ 9 ∷ 10 ∷ 11 ∷ []) p (refl, (refl, (refl, (refl, tt)))) h
  exists_has (req_plane i a b) = rw (le-leb 1 (1 + i) (omega arith), le-leb (1 + i) 8 (omega arith)) (le-leb (1 + i) r.planes (omega arith))
  exists_has (first a) = a
  exists_has (second a b) = rw a (le-leb 2 r.planes b)

  has_exists : (p : ℕ) → has_pool r p ≡ true → Exists r p
  has_exists p e = by_test (leb 1 p && leb p 8) plane_has higher
    where
      plane_has : (leb 1 p && leb p 8) ≡ true → Exists r p
      plane_has t =
          let a = leb-true 1 p (and_left (leb 1 p) (leb p 8) t) in
          let b = leb-true p 8 (and_right (leb 1 p) (leb p 8) t) in
          let f : leb p r.planes ≡ true = rw t at e in
          let g = leb-true p r.planes f in
          let q : 1 + (p - 1) ≡ p = omega arith in
          subst (Exists r) q (req_plane (p - 1) (omega arith) (omega arith))

      higher : (leb 1 p && leb p 8) ≡ false → Exists r p
      higher t =
          let f : pick (eqb p 12) r.push (pick (eqb p 13) (r.push && leb 2 r.planes) (ltb p 12)) ≡ true = rw t at e in
          by_test (eqb p 12) (λ a. subst (Exists r) (sym (eqb-true p 12 a)) (first (rw a at f)))
          (λ a. let g : pick (eqb p 13) (r.push && leb 2 r.planes) (ltb p 12) ≡ true = rw a at f in
          by_test (eqb p 13)
          (λ b. let h : (r.push && leb 2 r.planes) ≡ true = rw b at g in
          subst (Exists r) (sym (eqb-true p 13 b)) (second (and_left r.push (leb 2 r.planes) h) (leb-true 2 r.planes (and_right r.push (leb 2 r.planes) h))))
          (λ b. always (lasts p t (ltb-true p 12 (rw b at g)))))

  pub exists_exactly : (p : ℕ) → (has_pool r p ≡ true) ↔ Exists r p
  exists_exactly p = (has_exists p, λ x. exists_has x)

-- ---- a valid receiver
module _ (r : Receiver) where
  capacities_at : (k p i : ℕ) → capacities_ok r k p ≡ true → i < k → capacity_ok r (p + i) ≡ true
  unfolding capacities_ok
  capacities_at zero p i e h = absurd (omega arith)
  capacities_at (suc k) p zero e h = ap (capacity_ok r) (omega arith) ∙ and_left (capacity_ok r p) (capacities_ok r k (p + 1)) e
  capacities_at (suc k) p (suc i) e h =
      ap (capacity_ok r) (omega arith) ∙ capacities_at k (p + 1) i (and_right (capacity_ok r p) (capacities_ok r k (p + 1)) e) (omega arith)

  capacities_by : (k p : ℕ) → ((i : ℕ) → i < k → capacity_ok r (p + i) ≡ true) → capacities_ok r k p ≡ true
  unfolding capacities_ok
  capacities_by zero p h = refl
  capacities_by (suc k) p h =
      and_both (capacity_ok r p) (capacities_ok r k (p + 1)) (ap (capacity_ok r) (omega arith) ∙ h 0 (omega arith))
      (capacities_by k (p + 1) (λ i b. ap (capacity_ok r) (omega arith) ∙ h (suc i) (omega arith)))

  abbrev few : ℕ → Bool
  few p = leb (capacity_of r p) 1023

  abbrev right : ℕ → Bool
  right p = has_pool r p || eqb (capacity_of r p) 0

  pub receiver_exactly : (receiver_ok r ≡ true) ↔ ValidReceiver r
  receiver_exactly = (to, from)
    where
      to : receiver_ok r ≡ true → ValidReceiver r
      to e =
          let n = and_left (leb 1 r.planes && leb r.planes 8) (capacities_ok r 14 0) e in
          record {
            planes = (leb-true 1 r.planes (and_left (leb 1 r.planes) (leb r.planes 8) n), leb-true r.planes 8 (and_right (leb 1 r.planes) (leb r.planes 8) n));
            most = λ p h. leb-true (capacity_of r p) 1023 (and_left (few p) (right p) (at p h));
            missing = λ p h none. by_test (has_pool r p) (λ t. absurd (none ((exists_exactly r p).0 t)))
                (λ t. let z : eqb (capacity_of r p) 0 ≡ true = rw t at (and_right (few p) (right p) (at p h)) in eqb-true (capacity_of r p) 0 z);
          }
        where
          at : (p : ℕ) → p < 14 → capacity_ok r p ≡ true
          at p h = ap (capacity_ok r) (omega arith) ∙ capacities_at 14 0 p (and_right (leb 1 r.planes && leb r.planes 8) (capacities_ok r 14 0) e) h

      from : ValidReceiver r → receiver_ok r ≡ true
      from v =
          and_both (leb 1 r.planes && leb r.planes 8) (capacities_ok r 14 0)
          (and_both (leb 1 r.planes) (leb r.planes 8) (le-leb 1 r.planes v.planes.0) (le-leb r.planes 8 v.planes.1))
          (capacities_by 14 0 (λ p h. ap (capacity_ok r) (omega arith) ∙ at p h))
        where
          at : (p : ℕ) → p < 14 → capacity_ok r p ≡ true
          at p h =
              and_both (few p) (right p) (le-leb (capacity_of r p) 1023 (v.most p h))
              (by_test (has_pool r p) (λ t. rw t)
              (λ t. rw t (eq-eqb (capacity_of r p) 0 (v.missing p h (λ x. never_both t ((exists_exactly r p).1 x))))))
