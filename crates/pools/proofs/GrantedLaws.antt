-- What a grant gives to each pool, by four additions, and the grants of a container as a pass over its granules. Assumes nothing.
use Prim.Native.Nat.{ℕ, ◌+◌, ◌%◌, ◌≤◌, ◌<◌, ◌^◌}
use mathlib.Core.Path.{◌≡◌, refl, sym, ap, ◌∙◌}
use mathlib.Core.Bool.{Bool, true, false, ◌&&◌, ◌||◌}
use mathlib.Core.List.{List, [], ◌∷◌}
use mathlib.Core.Logic.{⊎_elim}
use native.Mathlib.Omega.{arith}
use lib.ListN.{length, get_or, replicate}
use lib.Dec.{eqb, ltb}
use borrow.Author.Tests.{eq-eqb, ne_eqb, eqb-true, eqb-false, ltb-true}
use Rattle.lists.specs.Pick.{pick}
use Rattle.lists.specs.Parts.{IsBytes}
use Rattle.lists.proofs.Tests.{cases}
use Rattle.lists.proofs.PickLaws.{pick_both, pick_by}
use Rattle.cause.specs.Causes.{header_place}
use Rattle.cause.specs.Checks.{first_fault, Accepted}
use Rattle.container.specs.Layout.{start, bit}
use Rattle.container.specs.declared.grant.Grant.{Grant}
use Rattle.message.specs.Heads.{misc_by, crdt_grant}
use Rattle.pools.specs.Pools.{granted_by}
use Rattle.pools.specs.Rows.{raised}
use Rattle.pools.specs.TalliesMirror.{first_at, second_at, started_at, grants_at, grant_at, grant_check, crdt_check, crdt_checks, crdt_gives}
use Rattle.pools.specs.Tallies.{tally_of, grants_give}
use Rattle.pools.specs.declared.receiver.Receiver.{Receiver}
use Rattle.pools.proofs.RowLaws.{row_at}
use Rattle.pools.proofs.TallyLaws.{one_more, raised_same, raised_none, raised_twice, raised_zeros, Counts, zero_counts, counts_raised, one_fits, counts_one}
use Rattle.pools.proofs.PassLaws.{tallied_behind, Walk, Walks, Walking}

-- an amount of pool a, at pool p
meets : (a n p : ℕ) → p ≡ a → one_more a n p ≡ n
meets a n p e = rw (eq-eqb a p (sym e))

misses : (a n p : ℕ) → (p ≡ a → ⊥) → one_more a n p ≡ 0
misses a n p d = rw (ne_eqb a p (λ (e : a ≡ p). d (sym e)))

-- amounts of four pools
four_more : (q k req rsp snp dat p : ℕ) → q < 9 → 10 < k
    → ((one_more q req p + one_more 9 rsp p) + one_more 10 snp p) + one_more k dat p
    ≡ pick (eqb p 9) rsp (pick (eqb p 10) snp (pick (eqb p q) req (pick (eqb p k) dat 0)))
four_more q k req rsp snp dat p low high =
    pick_by Is (eqb p 9)
    (λ t. let e : p ≡ 9 = eqb-true p 9 t in
    omega (arith, misses q req p (λ z. omega arith), meets 9 rsp p e, misses 10 snp p (λ z. omega arith), misses k dat p (λ z. omega arith)))
    (λ f. let a : p ≡ 9 → ⊥ = eqb-false p 9 f in
    pick_by Is (eqb p 10)
    (λ t. let e : p ≡ 10 = eqb-true p 10 t in
    omega (arith, misses q req p (λ z. omega arith), misses 9 rsp p a, meets 10 snp p e, misses k dat p (λ z. omega arith)))
    (λ f. let b : p ≡ 10 → ⊥ = eqb-false p 10 f in
    pick_by Is (eqb p q)
    (λ t. let e : p ≡ q = eqb-true p q t in
    omega (arith, meets q req p e, misses 9 rsp p a, misses 10 snp p b, misses k dat p (λ z. omega arith)))
    (λ f. let c : p ≡ q → ⊥ = eqb-false p q f in
    pick_by Is (eqb p k)
    (λ t. omega (arith, misses q req p c, misses 9 rsp p a, misses 10 snp p b, meets k dat p (eqb-true p k t)))
    (λ f. omega (arith, misses q req p c, misses 9 rsp p a, misses 10 snp p b, misses k dat p (eqb-false p k f))))))
  where
    Is : ℕ → Type 0
    Is n = ((one_more q req p + one_more 9 rsp p) + one_more 10 snp p) + one_more k dat p ≡ n

-- the pools of a grant's REQ and DAT counts
abbrev pub req_of : Grant → ℕ
req_of n = pick n.shc 0 (1 + n.rp)

abbrev pub dat_of : Grant → ℕ
dat_of n = pick n.shc 11 (pick (eqb n.rp 0) 12 13)

-- the DAT count has a pool
abbrev pub dat_pooled : Grant → Bool
dat_pooled n = n.shc || (eqb n.dat 0 || ltb n.rp 2)

-- the DAT count of a grant with ShC 0
dat_same : (rp dat p : ℕ) → (eqb dat 0 || ltb rp 2) ≡ true → pick (eqb p (pick (eqb rp 0) 12 13)) dat 0 ≡ pick (eqb p (12 + rp)) dat 0
dat_same rp dat p h = ⊎_elim none some (cases (eqb dat 0))
  where
    zero_of : (t : Bool) → ◌≡◌ {A = ℕ} (pick t 0 0) 0
    zero_of t = pick_both (λ (n : ℕ). n ≡ 0) t refl refl

    none : eqb dat 0 ≡ true → pick (eqb p (pick (eqb rp 0) 12 13)) dat 0 ≡ pick (eqb p (12 + rp)) dat 0
    none t = rw (eqb-true dat 0 t) (zero_of (eqb p (pick (eqb rp 0) 12 13)) ∙ sym (zero_of (eqb p (12 + rp))))

    some : eqb dat 0 ≡ false → pick (eqb p (pick (eqb rp 0) 12 13)) dat 0 ≡ pick (eqb p (12 + rp)) dat 0
    some f =
        let b : rp < 2 = ltb-true rp 2 (rw f at h) in
        let e : pick (eqb rp 0) 12 13 ≡ 12 + rp =
        pick_by (λ (n : ℕ). n ≡ 12 + rp) (eqb rp 0) (λ t. omega (arith, eqb-true rp 0 t)) (λ g. let d : rp ≡ 0 → ⊥ = eqb-false rp 0 g in omega arith) in
        rw e

-- four additions are what a grant gives
given_by : (n : Grant) (p : ℕ) → n.rp < 8 → dat_pooled n ≡ true
    → ((one_more (req_of n) n.req p + one_more 9 n.rsp p) + one_more 10 n.snp p) + one_more (dat_of n) n.dat p ≡ granted_by p n
given_by n p h k = ⊎_elim shared own (cases n.shc)
  where
    Gives : Type 0
    Gives = ((one_more (req_of n) n.req p + one_more 9 n.rsp p) + one_more 10 n.snp p) + one_more (dat_of n) n.dat p ≡ granted_by p n

    shared : n.shc ≡ true → Gives
    shared s = rw s (four_more 0 11 n.req n.rsp n.snp n.dat p (omega arith) (omega arith))

    own : n.shc ≡ false → Gives
    own s =
        let d : (eqb n.dat 0 || ltb n.rp 2) ≡ true = rw s at k in
        rw (s, ← dat_same n.rp n.dat p d)
        (four_more (1 + n.rp) (pick (eqb n.rp 0) 12 13) n.req n.rsp n.snp n.dat p (omega arith) (pick_both (λ (x : ℕ). 10 < x) (eqb n.rp 0) (omega arith) (omega arith)))

-- counts of at most 255 each
pub record Bytes (n : Grant) : Type 0 where
  pub req : n.req ≤ 255
  pub rsp : n.rsp ≤ 255
  pub snp : n.snp ≤ 255
  pub dat : n.dat ≤ 255

-- what a grant gives to a pool is little
pub given_most : (n : Grant) → Bytes n → (p : ℕ) → granted_by p n ≤ 255
given_most n b p =
    both (eqb p 9) b.rsp
    (both (eqb p 10) b.snp
    (both n.shc (both (eqb p 0) b.req (both (eqb p 11) b.dat (omega arith)))
    (both (eqb p (1 + n.rp)) b.req (both (eqb p (12 + n.rp)) b.dat (omega arith)))))
  where
    both : (t : Bool) {x y : ℕ} → x ≤ 255 → y ≤ 255 → pick t x y ≤ 255
    both t = pick_both (λ (x : ℕ). x ≤ 255) t

-- the four additions, one by one
module _ (n : Grant) (l : List ℕ) (counts : Counts 65535 l) (b : Bytes n) (plane : n.rp < 8) {q : ℕ} (eq : q ≡ req_of n) where
  low : q < 9
  low = rw eq (pick_both (λ (x : ℕ). x < 9) n.shc (omega arith) (omega arith))

  module _ {d₁ : List ℕ} (e₁ : d₁ ≡ raised (one_more q n.req) l) where
    counts₁ : Counts (65535 + 255) d₁
    counts₁ = counts_one q n.req 255 counts b.req e₁

    pub add_rsp : (9 < 14) × (get_or d₁ 9 0 + n.rsp < 2 ^ 32)
    add_rsp = one_fits 9 n.rsp counts₁ (omega arith) (omega (arith, b.rsp))

    module _ {d₂ : List ℕ} (e₂ : d₂ ≡ raised (one_more 9 n.rsp) d₁) where
      counts₂ : Counts (65790 + 255) d₂
      counts₂ = counts_one 9 n.rsp 255 counts₁ b.rsp e₂

      pub add_snp : (10 < 14) × (get_or d₂ 10 0 + n.snp < 2 ^ 32)
      add_snp = one_fits 10 n.snp counts₂ (omega arith) (omega (arith, b.snp))

      module _ {d₃ : List ℕ} (e₃ : d₃ ≡ raised (one_more 10 n.snp) d₂) {k : ℕ} (ek : k ≡ dat_of n) where
        counts₃ : Counts (66045 + 255) d₃
        counts₃ = counts_one 10 n.snp 255 counts₂ b.snp e₃

        pub add_dat : (k < 14) × (get_or d₃ k 0 + n.dat < 2 ^ 32)
        add_dat =
            one_fits k n.dat counts₃
            (rw ek (pick_both (λ (x : ℕ). x < 14) n.shc (omega arith) (pick_both (λ (x : ℕ). x < 14) (eqb n.rp 0) (omega arith) (omega arith))))
            (omega (arith, b.dat))

        pub add_all : dat_pooled n ≡ true → {d₄ : List ℕ} → d₄ ≡ raised (one_more k n.dat) d₃ → d₄ ≡ raised (λ p. granted_by p n) l
        add_all h e₄ =
            let f₁ = one_more q n.req in
            let f₂ = one_more 9 n.rsp in
            let f₃ = one_more 10 n.snp in
            let f₄ = one_more k n.dat in
            e₄ ∙ ap (raised f₄) (e₃ ∙ ap (raised f₃) (e₂ ∙ ap (raised f₂) e₁ ∙ raised_twice f₂ f₁ l) ∙ raised_twice f₃ (λ p. f₁ p + f₂ p) l)
            ∙ raised_twice f₄ (λ p. (f₁ p + f₂ p) + f₃ p) l
            ∙ raised_same (λ p. ((f₁ p + f₂ p) + f₃ p) + f₄ p) (λ p. granted_by p n) l (λ p _. rw (eq, ek) (given_by n p plane h))

-- a CrdtGrant, by a byte 0 that is 0 where nothing starts
started_misc : (t : Bool) (first second : ℕ) → misc_by (pick t first 0 % 16) second crdt_grant ≡ (t && misc_by (first % 16) second crdt_grant)
started_misc true first second = refl
started_misc false first second = refl

-- where no CrdtGrant starts in granule g, nothing is given
pub none_given : (c : List ℕ) (w g : ℕ) (l : List ℕ) {first a : ℕ} → first ≡ started_at c w g → a ≡ start g → misc_by (first % 16) (get_or c (a + 1) 0) crdt_grant ≡ false
    → length l ≡ 14 → l ≡ raised (λ p. pick (grants_at c w g) (granted_by p (grant_at c g)) 0) l
none_given c w g l ef ea n long =
    let e : grants_at c w g ≡ false = sym (started_misc (bit w g) (first_at c g) (second_at c g)) ∙ (rw (ef, ea) at n) in rw e (raised_none l long)

-- the grants of a container
module _ (r : Receiver) (c : List ℕ) (w : ℕ) where
  abbrev pub granted_walk : Walk
  granted_walk = record {
    here = λ g. crdt_check r c w g ∷ [];
    gain = λ g p. pick (grants_at c w g) (granted_by p (grant_at c g)) 0;
    rest = crdt_checks r c w;
    left = crdt_gives c w;
  }

  pub granted_walks : Walks granted_walk
  unfolding crdt_checks crdt_gives
  granted_walks = record { no_checks = λ g. refl; no_gains = λ g p. refl; next_checks = λ k g. refl; next_gains = λ k g p. refl }

  -- what the CrdtGrants give is little
  pub gain_most : IsBytes c → (g p : ℕ) → granted_walk.gain g p ≤ 255
  gain_most h g p = pick_both (λ (x : ℕ). x ≤ 255) (grants_at c w g) (given_most (grant_at c g) bytes p) (omega arith)
    where
      bytes : Bytes (grant_at c g)
      bytes = record {
        req = omega (arith, h (start g + 3));
        rsp = omega (arith, h (start g + 4));
        snp = omega (arith, h (start g + 5));
        dat = omega (arith, h (start g + 6));
      }

  -- behind the counts l of the header's grant
  module _ (l : List ℕ) where
    abbrev pub gives_all : ℕ → ℕ
    gives_all p = get_or l p 0 + crdt_gives c w 12 0 p

    abbrev pub Granting : List ℕ → ℕ → Type 0
    Granting = Walking granted_walk (crdt_checks r c w 12 0) gives_all

    module _ (n : Grant) (el : l ≡ raised (λ p. granted_by p n) (replicate 14 0)) where
      pub granted_starts : Bytes n → Granting l 0
      granted_starts b = record { within = omega arith; few = counts_raised (λ p. granted_by p n) (zero_counts 0) (given_most n b) el; same = refl; sums = λ p k. refl }

      pub all_granted : Accepted ≡ first_fault (grant_check r n header_place ∷ []) → tally_of (crdt_checks r c w 12 0) gives_all ≡ tally_of (grant_check r n header_place ∷ crdt_checks r c w 12 0) (grants_give n c w)
      all_granted u =
          tallied_behind (grant_check r n header_place ∷ []) (crdt_checks r c w 12 0) u gives_all (grants_give n c w)
          (λ p b. ap (λ (x : ℕ). x + crdt_gives c w 12 0 p) (ap (λ (d : List ℕ). get_or d p 0) (el ∙ raised_zeros (λ i. granted_by i n)) ∙ row_at (λ i. granted_by i n) p b))
