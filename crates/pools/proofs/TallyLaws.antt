-- Counts by pool, raised by what a message pays. Assumes nothing.
use Prim.Native.Nat.{ℕ, ◌+◌, ◌%◌, ◌≤◌, ◌<◌, ◌^◌}
use mathlib.Core.Path.{◌≡◌, refl, sym, ap, ◌∙◌}
use mathlib.Core.Bool.{true, false}
use mathlib.Core.List.{List}
use mathlib.Core.Logic.{⊎_elim}
use native.Mathlib.Omega.{arith}
use lib.ListN.{length, get_or, set, replicate, length-set}
use lib.Seq.{get_or-set_same, get_or-set_other}
use lib.Dec.{eqb}
use borrow.Author.Tests.{eqb-true, eqb-false}
use Rattle.lists.specs.Pick.{pick}
use Rattle.lists.proofs.Tests.{cases}
use Rattle.lists.proofs.PickLaws.{pick_both}
use Rattle.lists.proofs.ZeroLaws.{zeros_at, zeros_replicate}
use Rattle.lists.proofs.Order.{lt_or_le}
use Rattle.message.specs.Places.{responses_by}
use Rattle.message.specs.Charges.{shared_crdt, req_pool, dat_pool, push_pool, credits_of, one_of, paid_by, listed}
use Rattle.message.specs.declared.heads.Class.{Class}
use Rattle.message.specs.declared.heads.Class.TheVariants.{Unknown, Request, Response, Snoop, Data, RequestData, Misc}
use Rattle.message.specs.declared.charge.Charge.{Charge}
use Rattle.message.specs.declared.charge.Charges.{Charges}
use Rattle.message.specs.declared.charge.Charges.TheVariants.{Free, One, Two}
use Rattle.message.proofs.PlaceLaws.{responses_most}
use Rattle.pools.specs.Pools.{charged_to}
use Rattle.pools.specs.Rows.{row, raised, Small}
use Rattle.pools.proofs.RowLaws.{length_row, row_at, row_same, row_equal, row_past}

pub raised_at : (f : ℕ → ℕ) (l : List ℕ) (p : ℕ) → p < 14 → get_or (raised f l) p 0 ≡ get_or l p 0 + f p
raised_at f l = row_at (λ p. get_or l p 0 + f p)

pub raised_same : (f g : ℕ → ℕ) (l : List ℕ) → ((p : ℕ) → p < 14 → f p ≡ g p) → raised f l ≡ raised g l
raised_same f g l h = row_equal (λ p. get_or l p 0 + f p) (λ p. get_or l p 0 + g p) (λ p b. ap (λ (n : ℕ). get_or l p 0 + n) (h p b))

-- by nothing
pub raised_none : (l : List ℕ) → length l ≡ 14 → l ≡ raised (λ p. 0) l
raised_none l n = row_same (λ p. get_or l p 0 + 0) l n (λ p b. omega arith)

-- from zeros on
pub zero_at : (p : ℕ) → ◌≡◌ {A = ℕ} (get_or (replicate 14 0) p 0) 0
zero_at = zeros_at (replicate 14 0) (zeros_replicate 14)

pub raised_zeros : (f : ℕ → ℕ) → raised f (replicate 14 0) ≡ row f 14 0
raised_zeros f = row_equal (λ p. get_or (replicate 14 0) p 0 + f p) f (λ p b. omega (arith, zero_at p))

-- by one after another
pub raised_twice : (f g : ℕ → ℕ) (l : List ℕ) → raised f (raised g l) ≡ raised (λ p. g p + f p) l
raised_twice f g l =
    row_equal (λ p. get_or (raised g l) p 0 + f p) (λ p. get_or l p 0 + (g p + f p))
    (λ p b. let e = raised_at g l p b in omega arith)

-- an amount of one pool
abbrev pub one_more : ℕ → ℕ → ℕ → ℕ
one_more pool amount p = pick (eqb pool p) amount 0

pub raised_one : (l : List ℕ) (pool amount : ℕ) → length l ≡ 14 → pool < 14 → set l pool (get_or l pool 0 + amount) ≡ raised (one_more pool amount) l
raised_one l pool amount n h =
    row_same (λ p. get_or l p 0 + one_more pool amount p) (set l pool (get_or l pool 0 + amount)) (length-set l pool (get_or l pool 0 + amount) ∙ n)
    (λ p b. ⊎_elim (there p) (elsewhere p) (cases (eqb pool p)))
  where
    there : (p : ℕ) → eqb pool p ≡ true → get_or (set l pool (get_or l pool 0 + amount)) p 0 ≡ get_or l p 0 + one_more pool amount p
    there p t = let e : pool ≡ p = eqb-true pool p t in rw (t, ← e) (get_or-set_same l pool (get_or l pool 0 + amount) 0 (omega arith))

    elsewhere : (p : ℕ) → eqb pool p ≡ false → get_or (set l pool (get_or l pool 0 + amount)) p 0 ≡ get_or l p 0 + one_more pool amount p
    elsewhere p t =
        let d : p ≡ pool → ⊥ = λ (e : p ≡ pool). eqb-false pool p t (sym e) in
        rw (t, get_or-set_other l pool p (get_or l pool 0 + amount) 0 d) (omega arith)

-- counts of fourteen pools, each at most n
pub record Counts (n : ℕ) (l : List ℕ) : Type 0 where
  pub long : length l ≡ 14
  pub most : (p : ℕ) → get_or l p 0 ≤ n

pub zero_counts : (n : ℕ) → Counts n (replicate 14 0)
zero_counts n = record { long = refl; most = λ p. omega (arith, zero_at p) }

pub counts_raised : {n k : ℕ} {l d : List ℕ} (f : ℕ → ℕ) → Counts n l → ((p : ℕ) → f p ≤ k) → d ≡ raised f l → Counts (n + k) d
counts_raised {n} {k} {l} {d} f h m e = record {
  long = ap length e ∙ length_row (λ p. get_or l p 0 + f p) 14 0;
  most = λ p. rw e (⊎_elim (inside p) (past p) (lt_or_le p 14));
}
  where
    inside : (p : ℕ) → p < 14 → get_or (raised f l) p 0 ≤ n + k
    inside p b = omega (arith, raised_at f l p b, h.most p, m p)

    past : (p : ℕ) → 14 ≤ p → get_or (raised f l) p 0 ≤ n + k
    past p b = omega (arith, row_past (λ p. get_or l p 0 + f p) 14 0 p b)

-- counts and an amount of one pool more
pub one_fits : {n : ℕ} {l : List ℕ} (pool amount : ℕ) → Counts n l → pool < 14 → n + amount < 2 ^ 32
    → (pool < 14) × (get_or l pool 0 + amount < 2 ^ 32)
one_fits pool amount h b f = (b, omega (arith, h.most pool))

pub counts_one : {n : ℕ} {l d : List ℕ} (pool amount k : ℕ) → Counts n l → amount ≤ k → d ≡ raised (one_more pool amount) l → Counts (n + k) d
counts_one pool amount k h b = counts_raised (one_more pool amount) h (λ p. pick_both (λ (x : ℕ). x ≤ k) (eqb pool p) b (omega arith))

-- a charge of a pool that there is, of at most two credits
pub record Chargeable (a : Charge) : Type 0 where
  pub pooled : a.pool < 14
  pub little : a.amount ≤ 2

abbrev pub AllChargeable : Charges → Type 0
AllChargeable Free = Unit {0}
AllChargeable (One a) = Chargeable a
AllChargeable (Two a b) = Chargeable a × Chargeable b

one_of_chargeable : (p : ℕ) → p < 14 → Chargeable (one_of p)
one_of_chargeable p b = record { pooled = b; little = omega arith }

-- what a message pays, by its type and bytes 0 and 1
module _ (t first second : ℕ) (byte : first < 256) where
  req : Chargeable (one_of (req_pool first))
  req = one_of_chargeable (req_pool first) (pick_both (λ (p : ℕ). p < 14) (shared_crdt first) (omega arith) (omega arith))

  dat : Chargeable (one_of (dat_pool first))
  dat = one_of_chargeable (dat_pool first) (pick_both (λ (p : ℕ). p < 14) (shared_crdt first) (omega arith) (omega arith))

  push : Chargeable (one_of (push_pool second))
  push = one_of_chargeable (push_pool second) (pick_both (λ (p : ℕ). p < 14) (eqb (second % 2) 1) (omega arith) (omega arith))

  rsp : Chargeable (credits_of (responses_by t) 9)
  rsp = record { pooled = omega arith; little = responses_most t }

  pub all_chargeable : (k : Class) → AllChargeable (paid_by k t first second)
  all_chargeable Unknown = tt
  all_chargeable Request = req
  all_chargeable Response = rsp
  all_chargeable Snoop = one_of_chargeable 10 (omega arith)
  all_chargeable Data = dat
  all_chargeable RequestData = (req, push)
  all_chargeable Misc = tt

-- what charges take of a pool
abbrev pub taken : Charges → ℕ → ℕ
taken q p = charged_to p (listed q)

charge_most : (a : Charge) (p : ℕ) → Chargeable a → one_more a.pool a.amount p ≤ 2
charge_most a p h = pick_both (λ (n : ℕ). n ≤ 2) (eqb a.pool p) h.little (omega arith)

pub taken_most : (q : Charges) → AllChargeable q → (p : ℕ) → taken q p ≤ 4
taken_most Free h p = omega arith
taken_most (One a) h p = omega (arith, charge_most a p h)
taken_most (Two a b) h p = omega (arith, charge_most a p h.0, charge_most b p h.1)

-- counts that are small, and the charges of a message added to them
module _ (q : Charges) (l : List ℕ) (long : length l ≡ 14) (small : Small l) where
  pub pay_none : q ≡ Free → l ≡ raised (taken q) l
  pay_none e = rw e (raised_none l long)

  counts : Counts 65535 l
  counts = record { long = long; most = small }

  module _ (a b : Charge) (e : q ≡ Two a b) where
    module _ (d : List ℕ) (u : d ≡ raised (one_more a.pool a.amount) l) where
      pub pay_second : AllChargeable q → (b.pool < 14) × (get_or d b.pool 0 + b.amount < 2 ^ 32)
      pay_second h =
          let k : Chargeable a × Chargeable b = rw e at h in
          one_fits b.pool b.amount (counts_one a.pool a.amount 2 counts k.0.little u) k.1.pooled (omega (arith, k.1.little))

      pub pay_two : (x : List ℕ) → x ≡ raised (one_more b.pool b.amount) d → x ≡ raised (taken q) l
      pay_two x v =
          v ∙ ap (raised (one_more b.pool b.amount)) u ∙ raised_twice (one_more b.pool b.amount) (one_more a.pool a.amount) l
          ∙ rw e (raised_same (λ p. one_more a.pool a.amount p + one_more b.pool b.amount p) (taken (Two a b)) l (λ p c. omega arith))
