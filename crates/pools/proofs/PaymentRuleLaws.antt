-- What messages pay, exactly where their charges say so. Assumes nothing.
use Prim.Native.Nat.{ℕ, ◌+◌, ◌/◌, ◌%◌, ◌≤◌, ◌<◌}
use mathlib.Core.Path.{◌≡◌, refl, sym, ap, ◌∙◌}
use mathlib.Core.Bool.{Bool, true, false, not}
use mathlib.Core.List.{List, [], ◌∷◌}
use mathlib.Core.Logic.{◌⊎◌, inl, inr, ⊎_elim, ◌↔◌}
use native.Mathlib.Omega.{arith}
use lib.Dec.{T, eqb}
use borrow.Author.Tests.{eqb-true, eqb-false, eq-eqb, ne_eqb}
use Rattle.lists.specs.Pick.{pick}
use Rattle.lists.proofs.PickLaws.{pick_both}
use Rattle.lists.proofs.Tables.{below, below_at}
use Rattle.lists.proofs.Tests.{true_t}
use Rattle.message.specs.Heads.{class_of}
use Rattle.message.specs.HeadRules.{byte, type, among, response_count}
use Rattle.message.specs.Places.{responses_by}
use Rattle.message.specs.Charges.{charges, shared_crdt, req_pool, dat_pool, push_pool, credits_of, one_of, paid_by, listed}
use Rattle.message.specs.Kinds.{pays_by}
use Rattle.message.specs.Kinds as kinds
use Rattle.message.specs.declared.heads.Class.{Class}
use Rattle.message.specs.declared.heads.Class.TheVariants.{Unknown, Request, Response, Snoop, Data, RequestData, Misc}
use Rattle.message.proofs.HeadRuleLaws.{each_of}
use Rattle.pools.specs.Pools.{pays_req, pays_data, pays_push, charged_to}
use Rattle.pools.specs.PoolRules.{Shared, plane, SharedPush, PaysReq, IsData, IsPush, Pays}
use Rattle.pools.specs.PoolRules.Pays.{shared_req_case, req, rsp, rsp2, snp, shared_dat_case, dat, shared_push, push}
use Rattle.pools.proofs.PoolRuleLaws.{by_test}
use Rattle.pools.proofs.TypeLaws.{counted}

-- k credits of pool q, and no other
abbrev Only : ℕ → ℕ → ℕ → ℕ → Type 0
Only k q p n = (p ≡ q) × (n ≡ k)

-- the pool and the credits of one charge
one_exactly : (k q p n : ℕ) → (Only k q p n × (0 < n)) ↔ ((charged_to p (credits_of k q ∷ []) ≡ n) × (0 < n))
one_exactly k q p n = (to, λ h. (by_test (eqb q p) (there h) (elsewhere h), h.1))
  where
    to : Only k q p n × (0 < n) → (charged_to p (credits_of k q ∷ []) ≡ n) × (0 < n)
    to h = let e = h.0.1 in (rw (eq-eqb q p (sym h.0.0)) (omega arith), h.1)

    there : (charged_to p (credits_of k q ∷ []) ≡ n) × (0 < n) → eqb q p ≡ true → Only k q p n
    there h t = let z : k + 0 ≡ n = rw t at h.0 in (sym (eqb-true q p t), omega arith)

    elsewhere : (charged_to p (credits_of k q ∷ []) ≡ n) × (0 < n) → eqb q p ≡ false → Only k q p n
    elsewhere h t = let z : 0 ≡ n = rw t at h.0 in let l = h.1 in absurd (omega arith)

-- the pools of two charges that are not one pool's
two_exactly : (a b p n : ℕ) → (a ≡ b → ⊥) → ((Only 1 a p n ⊎ Only 1 b p n) × (0 < n)) ↔ ((charged_to p (one_of a ∷ one_of b ∷ []) ≡ n) × (0 < n))
two_exactly a b p n d = (to, from)
  where
    to : (Only 1 a p n ⊎ Only 1 b p n) × (0 < n) → (charged_to p (one_of a ∷ one_of b ∷ []) ≡ n) × (0 < n)
    to h = (
      ⊎_elim (λ (e : Only 1 a p n). rw (eq-eqb a p (sym e.0), ne_eqb b p (λ (z : b ≡ p). d (sym (z ∙ e.0)))) (sym e.1))
          (λ (e : Only 1 b p n). rw (ne_eqb a p (λ (z : a ≡ p). d (z ∙ e.0)), eq-eqb b p (sym e.0)) (sym e.1))
          h.0,
      h.1,
    )

    from : (charged_to p (one_of a ∷ one_of b ∷ []) ≡ n) × (0 < n) → (Only 1 a p n ⊎ Only 1 b p n) × (0 < n)
    from h =
        by_test (eqb a p)
        (λ t. let z : 1 ≡ n = rw (t, ne_eqb b p (λ (z : b ≡ p). d (eqb-true a p t ∙ sym z))) at h.0 in (inl (sym (eqb-true a p t), sym z), h.1))
        (λ t. let z : 0 + charged_to p (one_of b ∷ []) ≡ n = rw t at h.0 in let x = (one_exactly 1 b p n).1 (omega arith, h.1) in (inr x.0, h.1))

-- the pools that a class pays, with the credits, by the type and bytes 0 and 1
abbrev PaidBy : Class → ℕ → ℕ → ℕ → ℕ → ℕ → Type 0
PaidBy Unknown t first second p n = ⊥
PaidBy Request t first second p n = Only 1 (req_pool first) p n
PaidBy Response t first second p n = Only (responses_by t) 9 p n
PaidBy Snoop t first second p n = Only 1 10 p n
PaidBy Data t first second p n = Only 1 (dat_pool first) p n
PaidBy RequestData t first second p n = Only 1 (req_pool first) p n ⊎ Only 1 (push_pool second) p n
PaidBy Misc t first second p n = ⊥

-- a REQ charge and a charge of push data are not one pool's
apart : (first second : ℕ) → first < 256 → req_pool first ≡ push_pool second → ⊥
apart first second h e =
    let a : req_pool first ≤ 8 = pick_both (λ (q : ℕ). q ≤ 8) (shared_crdt first) (omega arith) (omega arith) in
    let b : 11 ≤ push_pool second = pick_both (λ (q : ℕ). 11 ≤ q) (eqb (second % 2) 1) (omega arith) (omega arith) in
    omega arith

none_exactly : (n : ℕ) → (⊥ × (0 < n)) ↔ ((0 ≡ n) × (0 < n))
none_exactly n = (λ h. absurd h.0, λ h. let e = h.0 in let l = h.1 in absurd (omega arith))

charged_exactly : (k : Class) (t first second p n : ℕ) → first < 256
    → (PaidBy k t first second p n × (0 < n)) ↔ ((charged_to p (listed (paid_by k t first second)) ≡ n) × (0 < n))
charged_exactly Unknown t first second p n h = none_exactly n
charged_exactly Request t first second p n h = one_exactly 1 (req_pool first) p n
charged_exactly Response t first second p n h = one_exactly (responses_by t) 9 p n
charged_exactly Snoop t first second p n h = one_exactly 1 10 p n
charged_exactly Data t first second p n h = one_exactly 1 (dat_pool first) p n
charged_exactly RequestData t first second p n h = two_exactly (req_pool first) (push_pool second) p n (apart first second h)
charged_exactly Misc t first second p n h = none_exactly n

-- a test of types agrees with a test of their classes
abbrev agrees : Bool → Bool → Bool
agrees a b = pick a b (not b)

same_tests : (a b : Bool) → T (agrees a b) → a ≡ b
same_tests true true h = refl
same_tests true false h = absurd h
same_tests false true h = absurd h
same_tests false false h = refl

by_class : (m l : List ℕ) (f : Class → Bool) → T (below 16 (λ t. agrees (among l t) (f (class_of t)))) → among l (type m) ≡ f (class_of (type m))
by_class m l f h = same_tests (among l (type m)) (f (class_of (type m))) (below_at 16 (λ t. agrees (among l t) (f (class_of t))) h (type m) (omega arith))

module _ (m : List ℕ) where
  pub req_class : among (1 ∷ 2 ∷ 8 ∷ 9 ∷ []) (type m) ≡ pays_req (class_of (type m))
  req_class = by_class m (1 ∷ 2 ∷ 8 ∷ 9 ∷ []) pays_req tt

  pub data_class : among (6 ∷ 7 ∷ []) (type m) ≡ pays_data (class_of (type m))
  data_class = by_class m (6 ∷ 7 ∷ []) pays_data tt

  pub push_class : among (8 ∷ 9 ∷ []) (type m) ≡ pays_push (class_of (type m))
  push_class = by_class m (8 ∷ 9 ∷ []) pays_push tt

  snp_class : among (5 ∷ []) (type m) ≡ pays_by (class_of (type m)) kinds.snp
  snp_class = by_class m (5 ∷ []) (λ k. pays_by k kinds.snp) tt

  -- where the class is known, m is of one of the types of a list
  of_type : (l : List ℕ) (f : Class → Bool) → among l (type m) ≡ f (class_of (type m)) → {k : Class} → class_of (type m) ≡ k → f k ≡ true → T (among l (type m))
  of_type l f e c h = true_t (among l (type m)) (e ∙ ap f c ∙ h)

  -- shared or not
  is_shared : Shared m → shared_crdt (byte m 0) ≡ true
  is_shared h = eq-eqb (byte m 0 / 16 % 2) 1 h

  pub not_shared : (Shared m → ⊥) → shared_crdt (byte m 0) ≡ false
  not_shared h = ne_eqb (byte m 0 / 16 % 2) 1 h

  is_push : SharedPush m → eqb (byte m 1 % 2) 1 ≡ true
  is_push h = eq-eqb (byte m 1 % 2) 1 h

  pub not_push : (SharedPush m → ⊥) → eqb (byte m 1 % 2) 1 ≡ false
  not_push h = ne_eqb (byte m 1 % 2) 1 h

  -- what a message of type t would pay, with the bytes 0 and 1 of m
  abbrev PaidAs : ℕ → ℕ → ℕ → Type 0
  PaidAs p n t = PaidBy (class_of t) t (byte m 0) (byte m 1) p n

  abbrev Paid : ℕ → ℕ → Type 0
  Paid p n = PaidAs p n (type m)

  paid_req : PaysReq m → (p : ℕ) → p ≡ req_pool (byte m 0) → Paid p 1
  paid_req h p e = each_of (PaidAs p 1) (1 ∷ 2 ∷ 8 ∷ 9 ∷ []) (type m) ((e, refl), ((e, refl), (inl (e, refl), (inl (e, refl), tt)))) h

  paid_data : IsData m → (p : ℕ) → p ≡ dat_pool (byte m 0) → Paid p 1
  paid_data h p e = each_of (PaidAs p 1) (6 ∷ 7 ∷ []) (type m) ((e, refl), ((e, refl), tt)) h

  paid_push : IsPush m → (p : ℕ) → p ≡ push_pool (byte m 1) → Paid p 1
  paid_push h p e = each_of (PaidAs p 1) (8 ∷ 9 ∷ []) (type m) (inr (e, refl), (inr (e, refl), tt)) h

  pays_paid : {p n : ℕ} → Pays m p n → Paid p n × (0 < n)
  pays_paid (shared_req_case h s) = (paid_req h 0 (rw (is_shared s)), omega arith)
  pays_paid (req h s) = (paid_req h (1 + plane m) (rw (not_shared s)), omega arith)
  pays_paid (rsp h) = (each_of (PaidAs 9 1) (3 ∷ []) (type m) ((refl, refl), tt) h, omega arith)
  pays_paid (rsp2 h) = (each_of (PaidAs 9 2) (4 ∷ []) (type m) ((refl, refl), tt) h, omega arith)
  pays_paid (snp h) = (each_of (PaidAs 10 1) (5 ∷ []) (type m) ((refl, refl), tt) h, omega arith)
  pays_paid (shared_dat_case h s) = (paid_data h 11 (rw (is_shared s)), omega arith)
  pays_paid (dat h s) = (paid_data h 12 (rw (not_shared s)), omega arith)
  pays_paid (shared_push h s) = (paid_push h 11 (rw (is_push s)), omega arith)
  pays_paid (push h s) = (paid_push h 13 (rw (not_push s)), omega arith)

  pays_req_case : PaysReq m → Pays m (req_pool (byte m 0)) 1
  pays_req_case h =
      by_test (shared_crdt (byte m 0)) (λ t. rw t (shared_req_case h (eqb-true (byte m 0 / 16 % 2) 1 t)))
      (λ t. rw t (req h (eqb-false (byte m 0 / 16 % 2) 1 t)))

  pays_data_case : IsData m → Pays m (dat_pool (byte m 0)) 1
  pays_data_case h =
      by_test (shared_crdt (byte m 0)) (λ t. rw t (shared_dat_case h (eqb-true (byte m 0 / 16 % 2) 1 t)))
      (λ t. rw t (dat h (eqb-false (byte m 0 / 16 % 2) 1 t)))

  pays_push_case : IsPush m → Pays m (push_pool (byte m 1)) 1
  pays_push_case h =
      by_test (eqb (byte m 1 % 2) 1) (λ t. rw t (shared_push h (eqb-true (byte m 1 % 2) 1 t)))
      (λ t. rw t (push h (eqb-false (byte m 1 % 2) 1 t)))

  -- as many RSP credits as m counts responses, if it counts any
  pays_rsp : {n : ℕ} → n ≡ responses_by (type m) → 0 < n → Pays m 9 n
  pays_rsp {n} e l = by_test (eqb (type m) 3) single (λ t. by_test (eqb (type m) 4) (double t) (λ u. let z : n ≡ 0 = rw (t, u) at e in absurd (omega arith)))
    where
      single : eqb (type m) 3 ≡ true → Pays m 9 n
      single t = let z : n ≡ 1 = rw t at e in rw z (rsp (rw (eqb-true (type m) 3 t) tt))

      double : eqb (type m) 3 ≡ false → eqb (type m) 4 ≡ true → Pays m 9 n
      double t u = let z : n ≡ 2 = rw (t, u) at e in rw z (rsp2 (rw (eqb-true (type m) 4 u) tt))

  paid_pays : (k : Class) → class_of (type m) ≡ k → (p n : ℕ) → PaidBy k (type m) (byte m 0) (byte m 1) p n → 0 < n → Pays m p n
  paid_pays Unknown c p n x l = absurd x
  paid_pays Request c p n x l = rw (x.0, x.1) (pays_req_case (of_type (1 ∷ 2 ∷ 8 ∷ 9 ∷ []) pays_req req_class c refl))
  paid_pays Response c p n x l = rw x.0 (pays_rsp x.1 l)
  paid_pays Snoop c p n x l = rw (x.0, x.1) (snp (of_type (5 ∷ []) (λ k. pays_by k kinds.snp) snp_class c refl))
  paid_pays Data c p n x l = rw (x.0, x.1) (pays_data_case (of_type (6 ∷ 7 ∷ []) pays_data data_class c refl))
  paid_pays RequestData c p n x l =
      ⊎_elim (λ (e : Only 1 (req_pool (byte m 0)) p n). rw (e.0, e.1) (pays_req_case (of_type (1 ∷ 2 ∷ 8 ∷ 9 ∷ []) pays_req req_class c refl)))
      (λ (e : Only 1 (push_pool (byte m 1)) p n). rw (e.0, e.1) (pays_push_case (of_type (8 ∷ 9 ∷ []) pays_push push_class c refl))) x
  paid_pays Misc c p n x l = absurd x

  -- what a message pays is what its charges take of each pool
  pub pays_exactly : (p k : ℕ) → byte m 0 < 256 → Pays m p k ↔ ((charged_to p (charges m) ≡ k) × (0 < k))
  pays_exactly p k b =
      let x = charged_exactly (class_of (type m)) (type m) (byte m 0) (byte m 1) p k b in
      (λ h. x.0 (pays_paid h), λ h. let y = x.1 h in paid_pays (class_of (type m)) refl p k y.0 h.1)

  -- in pool 9 responses are counted
  pub responses_counted : byte m 0 < 256 → charged_to 9 (charges m) ≡ response_count m
  responses_counted b = counted (byte m 0) (byte m 1) b (type m) (omega arith)
