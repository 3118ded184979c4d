-- What grants give, and a grant that keeps the rules for pools, exactly where the tests of the checks say so. Assumes nothing.
use Prim.Native.Nat.{ℕ, ◌+◌, ◌≤◌, ◌<◌}
use mathlib.Core.Path.{◌≡◌, refl}
use mathlib.Core.Bool.{Bool, true, false, ◌&&◌, ◌||◌}
use mathlib.Core.Logic.{⊎_elim, ◌↔◌}
use native.Mathlib.Omega.{arith}
use lib.Dec.{eqb, ltb}
use borrow.Author.Tests.{ltb-true, eqb-true, eqb-false, lt-ltb, eq-eqb, ne_eqb}
use Rattle.lists.specs.Pick.{pick}
use Rattle.lists.proofs.Order.{lt_or_le}
use Rattle.lists.proofs.Tests.{and_left, and_right, and_both}
use Rattle.container.specs.declared.grant.Grant.{Grant}
use Rattle.pools.specs.Pools.{grantable, granted_by}
use Rattle.pools.specs.PoolRules.{Gives, GrantsRight}
use Rattle.pools.specs.PoolRules.Gives.{rsp, snp, shared_req_case, shared_dat_case, req, dat0, dat1}
use Rattle.pools.specs.declared.receiver.Receiver.{Receiver}
use Rattle.pools.proofs.PoolRuleLaws.{by_test}

-- what a grant gives to a pool, and nothing where it gives none
pub gives_exactly : (n : Grant) → n.rp ≤ 7 → (p : ℕ) → p < 14 → ((k : ℕ) → Gives n p k → granted_by p n ≡ k) × (((k : ℕ) → Gives n p k → ⊥) → granted_by p n ≡ 0)
gives_exactly n b p h = (λ k x. given x, none)
  where
    given : {p k : ℕ} → Gives n p k → granted_by p n ≡ k
    given rsp = refl
    given snp = refl
    given (shared_req_case s) = rw s
    given (shared_dat_case s) = rw s
    given (req s) = rw (s, ne_eqb (1 + n.rp) 9 (λ z. omega arith), ne_eqb (1 + n.rp) 10 (λ z. omega arith), eq-eqb (1 + n.rp) (1 + n.rp) refl)
    given (dat0 s e) = rw (s, e)
    given (dat1 s e) = rw (s, e)

    none : ((k : ℕ) → Gives n p k → ⊥) → granted_by p n ≡ 0
    none f =
        by_test (eqb p 9) (λ t. absurd (f n.rsp (rw (eqb-true p 9 t) rsp)))
        (λ a. by_test (eqb p 10) (λ t. absurd (f n.snp (rw (eqb-true p 10 t) snp)))
        (λ b. rw (a, b) (by_test n.shc (shared f) (own f))))
      where
        shared : ((k : ℕ) → Gives n p k → ⊥) → n.shc ≡ true
            → pick n.shc (pick (eqb p 0) n.req (pick (eqb p 11) n.dat 0)) (pick (eqb p (1 + n.rp)) n.req (pick (eqb p (12 + n.rp)) n.dat 0)) ≡ 0
        shared f s =
            by_test (eqb p 0) (λ t. absurd (f n.req (rw (eqb-true p 0 t) (shared_req_case s))))
            (λ c. by_test (eqb p 11) (λ t. absurd (f n.dat (rw (eqb-true p 11 t) (shared_dat_case s)))) (λ d. rw (s, c, d)))

        own : ((k : ℕ) → Gives n p k → ⊥) → n.shc ≡ false
            → pick n.shc (pick (eqb p 0) n.req (pick (eqb p 11) n.dat 0)) (pick (eqb p (1 + n.rp)) n.req (pick (eqb p (12 + n.rp)) n.dat 0)) ≡ 0
        own f s =
            by_test (eqb p (1 + n.rp)) (λ t. absurd (f n.req (rw (eqb-true p (1 + n.rp) t) (req s))))
            (λ c. by_test (eqb p (12 + n.rp)) (λ t. absurd (dedicated (eqb-true p (12 + n.rp) t))) (λ d. rw (s, c, d)))
          where
            dedicated : p ≡ 12 + n.rp → ⊥
            dedicated e =
                ⊎_elim (λ (z : n.rp < 1). f n.dat (let q : p ≡ 12 = omega arith in rw q (dat0 s (omega arith))))
                (λ (z : 1 ≤ n.rp). f n.dat (let q : p ≡ 13 = omega arith in rw q (dat1 s (omega arith))))
                (lt_or_le n.rp 1)

-- a grant keeps the rules for pools exactly where its pools exist
pub grant_exactly : (r : Receiver) (n : Grant) → (grantable r n ≡ true) ↔ GrantsRight r n
grant_exactly r n = (to, from)
  where
    counted : Bool
    counted = eqb n.dat 0 || (r.push && ltb n.rp 2)

    to : grantable r n ≡ true → GrantsRight r n
    to e = record {
      below = λ s. ltb-true n.rp r.planes (and_left (ltb n.rp r.planes) counted (own s));
      dat = λ s d.
          let x : (r.push && ltb n.rp 2) ≡ true = rw (ne_eqb n.dat 0 (λ z. omega arith)) at (and_right (ltb n.rp r.planes) counted (own s)) in
          (and_left r.push (ltb n.rp 2) x, ltb-true n.rp 2 (and_right r.push (ltb n.rp 2) x));
    }
      where
        own : n.shc ≡ false → (ltb n.rp r.planes && counted) ≡ true
        own s = rw s at e

    from : GrantsRight r n → grantable r n ≡ true
    from v = by_test n.shc (λ s. rw s) (λ s. rw s (and_both (ltb n.rp r.planes) counted (lt-ltb n.rp r.planes (v.below s)) (some s)))
      where
        some : n.shc ≡ false → counted ≡ true
        some s =
            by_test (eqb n.dat 0) (λ t. rw t)
            (λ t. let x = v.dat s (omega (arith, eqb-false n.dat 0 t)) in rw (t, x.0) (lt-ltb n.rp 2 x.1))
