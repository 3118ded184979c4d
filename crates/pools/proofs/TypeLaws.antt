-- What a message pays, by tests of its type: two additions, one of at most two credits and one of at most one. Assumes nothing.
use Prim.Native.Nat.{ℕ, ◌+◌, ◌%◌, ◌<◌, ◌≤◌, ◌^◌}
use mathlib.Core.Path.{◌≡◌, refl, ap, ◌∙◌}
use mathlib.Core.Bool.{Bool, ◌&&◌}
use mathlib.Core.List.{List, [], ◌∷◌}
use native.Mathlib.Omega.{arith}
use lib.ListN.{get_or}
use lib.Dec.{eqb, ltb, leb}
use borrow.Author.Tests.{ne_eqb}
use Rattle.lists.specs.Pick.{pick}
use Rattle.lists.proofs.Tables.{below_at}
use Rattle.lists.proofs.PickLaws.{pick_both}
use Rattle.message.specs.HeadRules.{among}
use Rattle.message.specs.Places.{responses_by}
use Rattle.message.specs.Charges.{shared_crdt, res_plane, req_pool, dat_pool, push_pool, charges_by}
use Rattle.message.proofs.HeadRuleLaws.{each_of}
use Rattle.pools.specs.Rows.{raised}
use Rattle.pools.specs.TalliesMirror.{pool_by}
use Rattle.pools.proofs.TallyLaws.{one_more, taken, raised_same, raised_twice, Counts, counts_one, one_fits}

-- the credits that a type pays of its pool, and for push data
abbrev pub credits : ℕ → ℕ
credits t = pick (leb 1 t && ltb t 10) 1 0 + pick (eqb t 4) 1 0

abbrev pub pushes : ℕ → ℕ
pushes t = pick (leb 8 t && ltb t 10) 1 0

pub one_most : (t : Bool) → pick t 1 0 ≤ 1
one_most t = pick_both (λ (n : ℕ). n ≤ 1) t (omega arith) (omega arith)

credits_most : (t : ℕ) → credits t ≤ 2
credits_most t = omega (arith, one_most (leb 1 t && ltb t 10), one_most (eqb t 4))

push_there : (second : ℕ) → push_pool second < 14
push_there second = pick_both (λ (p : ℕ). p < 14) (eqb (second % 2) 1) (omega arith) (omega arith)

-- nothing of a pool
none : (pool p : ℕ) → one_more pool 0 p ≡ 0
none pool p = pick_both (λ (n : ℕ). n ≡ 0) (eqb pool p) refl refl

-- the numbers of types
abbrev types : List ℕ
types = 0 ∷ 1 ∷ 2 ∷ 3 ∷ 4 ∷ 5 ∷ 6 ∷ 7 ∷ 8 ∷ 9 ∷ 10 ∷ 11 ∷ 12 ∷ 13 ∷ 14 ∷ 15 ∷ []

-- both additions are what a type pays, type by type
module _ (first second p : ℕ) where
  abbrev Pays : ℕ → Type 0
  Pays t = one_more (pool_by t first) (credits t) p + one_more (push_pool second) (pushes t) p ≡ taken (charges_by t first second) p

  free : Pays 0
  free = omega (arith, none (req_pool first) p, none (push_pool second) p)

  req : Pays 1
  req = omega (arith, none (push_pool second) p)

  rsp : Pays 3
  rsp = omega (arith, none (push_pool second) p)

  rsp2 : Pays 4
  rsp2 = omega (arith, none (push_pool second) p)

  snp : Pays 5
  snp = omega (arith, none (push_pool second) p)

  dat : Pays 6
  dat = omega (arith, none (push_pool second) p)

  both : Pays 8
  both = omega arith

  pays : (t : ℕ) → t < 16 → Pays t
  pays t b =
      each_of Pays types t
      (free, (req, (req, (rsp, (rsp2, (snp, (dat, (dat, (both, (both, (free, (free, (free, (free, (free, (free, tt))))))))))))))))
      (below_at 16 (among types) tt t b)

-- in pool 9 responses are counted: a message pays as many credits there as it counts for in its group, type by type
module _ (first second : ℕ) (byte : first < 256) where
  abbrev Counted : ℕ → Type 0
  Counted t = taken (charges_by t first second) 9 ≡ responses_by t

  req_none : one_more (req_pool first) 1 9 ≡ 0
  req_none = pick_both (λ (q : ℕ). one_more q 1 9 ≡ 0) (shared_crdt first) refl (rw (ne_eqb (1 + res_plane first) 9 (λ e. omega arith)))

  dat_none : one_more (dat_pool first) 1 9 ≡ 0
  dat_none = pick_both (λ (q : ℕ). one_more q 1 9 ≡ 0) (shared_crdt first) refl refl

  push_none : one_more (push_pool second) 1 9 ≡ 0
  push_none = pick_both (λ (q : ℕ). one_more q 1 9 ≡ 0) (eqb (second % 2) 1) refl refl

  of_req : Counted 1
  of_req = omega (arith, req_none)

  of_dat : Counted 6
  of_dat = omega (arith, dat_none)

  of_both : Counted 8
  of_both = omega (arith, req_none, push_none)

  pub counted : (t : ℕ) → t < 16 → Counted t
  counted t b =
      each_of Counted types t
      (refl, (of_req, (of_req, (refl, (refl, (refl, (of_dat, (of_dat, (of_both, (of_both, (refl, (refl, (refl, (refl, (refl, (refl, tt))))))))))))))))
      (below_at 16 (among types) tt t b)

-- the two additions, one by one
module _ (first second : ℕ) (byte : first < 256) (l : List ℕ) (counts : Counts 65535 l) {q₁ a₁ : ℕ} (e₁ : q₁ ≡ pool_by (first % 16) first) (b₁ : a₁ ≡ credits (first % 16)) where
  few : a₁ ≤ 2
  few = rw b₁ (credits_most (first % 16))

  module _ {d₁ : List ℕ} (r₁ : d₁ ≡ raised (one_more q₁ a₁) l) {q₂ a₂ : ℕ} (e₂ : q₂ ≡ push_pool second) (b₂ : a₂ ≡ pushes (first % 16)) where
    pub add_push : (q₂ < 14) × (get_or d₁ q₂ 0 + a₂ < 2 ^ 32)
    add_push =
        let few₂ : a₂ ≤ 1 = rw b₂ (one_most (leb 8 (first % 16) && ltb (first % 16) 10)) in
        one_fits q₂ a₂ (counts_one q₁ a₁ 2 counts few r₁) (rw e₂ (push_there second)) (omega (arith, few₂))

    pub add_both : {d₂ : List ℕ} → d₂ ≡ raised (one_more q₂ a₂) d₁ → d₂ ≡ raised (taken (charges_by (first % 16) first second)) l
    add_both r₂ =
        r₂ ∙ ap (raised (one_more q₂ a₂)) r₁ ∙ raised_twice (one_more q₂ a₂) (one_more q₁ a₁) l
        ∙ raised_same (λ p. one_more q₁ a₁ p + one_more q₂ a₂ p) (taken (charges_by (first % 16) first second)) l
        (λ p _. rw (e₁, e₂, b₁, b₂) (pays first second p (first % 16) (omega arith)))
