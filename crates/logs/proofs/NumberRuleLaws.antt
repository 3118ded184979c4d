-- The numbers of a configuration come to what the rules say of them, and to nothing else. Assumes nothing.
use Prim.Native.Nat.{ℕ, zero, suc, ◌-◌, ◌+◌, ◌*◌, ◌/◌, ◌%◌, ◌<◌}
use mathlib.Core.Path.{◌≡◌, refl, sym, ap, ◌∙◌}
use mathlib.Core.Bool.{true, false, ◌||◌}
use mathlib.Core.List.{List, [], ◌∷◌, ◌++◌, append_assoc, append-nil}
use mathlib.Core.Logic.{◌↔◌, ⊎_elim}
use native.Mathlib.Nat.{div-add-mod'}
use native.Mathlib.Omega.{arith}
use lib.ListN.{length, drop, set, replicate, length-append, get_or-append}
use lib.Seq.{drop-drop, set-append_seam}
use lib.Dec.{leb, eqb}
use borrow.Author.Tests.{ltb-true, leb-true, eqb-true, lt-ltb, le-leb, eq-eqb}
use Rattle.lists.proofs.Tests.{cases, never_both, not_true_false, and_left, and_right, and_both}
use Rattle.cause.specs.declared.Cause.{Cause}
use Rattle.cause.specs.declared.Cause.TheVariants.{BrokenRecord, InvalidState}
use Rattle.record.specs.Number.{read_number}
use Rattle.record.specs.declared.number.Number.{Number}
use Rattle.pools.specs.Pools.{has_pool}
use Rattle.pools.specs.PoolRules.{Exists}
use Rattle.logs.specs.Log.{misconfigures, configures, configuration_from, configuration_at, value_ok, suits, receiver_at}
use Rattle.logs.specs.LogRules.{Suits, Numbers, ConfigurationFault}
use Rattle.logs.specs.LogRules.Suits.{format, planes, push, capacity}
use Rattle.logs.specs.LogRules.Numbers.{none, next}
use Rattle.logs.specs.LogRules.ConfigurationFault.{broken, invalid}
use Rattle.pools.specs.declared.receiver.Receiver.{Receiver}
use Rattle.pools.proofs.PoolRuleLaws.{exists_exactly}
use Rattle.logs.proofs.ConfigurationLaws.{configuration_broken, configuration_wrong, configuration_on, configuration_done}
use Rattle.logs.proofs.ConfigurationValid.{value_same, value_at, suits_capacity}
use Rattle.std.specs.Prelude.{Option, Some, None}

-- ---- a number may stand where the test says so

module _ (r : Receiver) (p v : ℕ) where
  -- a capacity is 0 in a missing pool
  zero_missing : (has_pool r p || eqb v 0) ≡ true → (Exists r p → ⊥) → v ≡ 0
  zero_missing h lacks =
      let f : has_pool r p ≡ false = not_true_false (has_pool r p) (λ t. lacks ((exists_exactly r p).0 t)) in
      eqb-true v 0 (rw f at h)

  missing_zero : ((Exists r p → ⊥) → v ≡ 0) → (has_pool r p || eqb v 0) ≡ true
  missing_zero h =
      ⊎_elim
      (λ (t : has_pool r p ≡ true). rw t)
      (λ (f : has_pool r p ≡ false). rw f (eq-eqb v 0 (h (λ x. never_both f ((exists_exactly r p).1 x)))))
      (cases (has_pool r p))

module _ (ns : List ℕ) (v : ℕ) where
  suits_value : Suits ns v → value_ok ns (length ns) v ≡ true
  suits_value (format z h) = ap (λ (i : ℕ). value_ok ns i v) z ∙ lt-ltb v 2 h
  suits_value (planes d two z a b) =
      let e : length ns ≡ 16 * d + 1 + 0 = omega arith in
      ap (λ (i : ℕ). value_ok ns i v) e ∙ value_at ns d 0 v (omega arith) ∙ and_both (leb 1 v) (leb v 8) (le-leb 1 v a) (le-leb v 8 b)
  suits_value (push d two z h) =
      let e : length ns ≡ 16 * d + 1 + 1 = omega arith in
      ap (λ (i : ℕ). value_ok ns i v) e ∙ value_at ns d 1 v (omega arith) ∙ lt-ltb v 2 h
  suits_value (capacity d p two low z h m) =
      let e : length ns ≡ 16 * d + 1 + (p + 2) = omega arith in
      ap (λ (i : ℕ). value_ok ns i v) e ∙ value_at ns d (p + 2) v (omega arith) ∙ suits_capacity (receiver_at ns (16 * d + 1)) p v
      ∙ and_both (leb v 1023) (has_pool (receiver_at ns (16 * d + 1)) p || eqb v 0) (le-leb v 1023 h) (missing_zero (receiver_at ns (16 * d + 1)) p v m)

  -- number j of the sixteen of direction d
  suits_at : (d j : ℕ) → d < 2 → j < 16 → length ns ≡ 16 * d + 1 + j → suits (receiver_at ns (16 * d + 1)) j v ≡ true → Suits ns v
  suits_at d zero two low e h = planes d two (omega arith) (leb-true 1 v (and_left (leb 1 v) (leb v 8) h)) (leb-true v 8 (and_right (leb 1 v) (leb v 8) h))
  suits_at d (suc zero) two low e h = push d two (omega arith) (ltb-true v 2 h)
  suits_at d (suc (suc p)) two low e h =
      let r = receiver_at ns (16 * d + 1) in
      let same : p + 2 ≡ suc (suc p) = omega arith in
      let g = sym (suits_capacity r p v) ∙ ap (λ (j : ℕ). suits r j v) same ∙ h in
      capacity d p two (omega arith) (omega arith) (leb-true v 1023 (and_left (leb v 1023) (has_pool r p || eqb v 0) g))
      (zero_missing r p v (and_right (leb v 1023) (has_pool r p || eqb v 0) g))

  value_suits : (i : ℕ) → length ns ≡ i → i < 33 → value_ok ns i v ≡ true → Suits ns v
  value_suits zero e low h = format e (ltb-true v 2 h)
  value_suits (suc i) e low h =
      let m = div-add-mod' i 16 in
      let same : suc i ≡ 16 * (i / 16) + 1 + i % 16 = omega arith in
      suits_at (i / 16) (i % 16) (omega arith) (omega arith) (e ∙ same)
      (sym (value_at ns (i / 16) (i % 16) v (omega arith)) ∙ ap (λ (j : ℕ). value_ok ns j v) (sym same) ∙ h)

pub suits_exactly : (ns : List ℕ) (v : ℕ) → length ns < 33 → (value_ok ns (length ns) v ≡ true) ↔ Suits ns v
suits_exactly ns v low = (value_suits ns v (length ns) refl low, suits_value ns v)

-- ---- the numbers, one after the other

-- those behind ns are not yet looked at
abbrev filled : List ℕ → ℕ → List ℕ
filled ns k = ns ++ replicate k 0

value_filled : (ns : List ℕ) (k v : ℕ) → value_ok (filled ns k) (length ns) v ≡ value_ok ns (length ns) v
value_filled ns k v = value_same (filled ns k) ns (length ns) v (λ m low. get_or-append ns (replicate k 0) 0 m low)

set_filled : (ns : List ℕ) (k v : ℕ) → set (filled ns (suc k)) (length ns) v ≡ filled (ns ++ (v ∷ [])) k
set_filled ns k v = set-append_seam ns 0 (replicate k 0) v ∙ sym (append_assoc ns (v ∷ []) (replicate k 0))

module _ (l : List ℕ) where
  numbers_from : {ns : List ℕ} {n : ℕ} → Numbers l ns n → (k : ℕ) → length ns + k ≡ 33
      → configuration_at l ≡ configuration_from k (filled ns k) (length ns) n (drop n l)
  numbers_from none k e =
      let same : 33 ≡ k = omega arith in
      ap (λ (j : ℕ). configuration_from j (replicate j 0) 0 0 l) same
  numbers_from (next {ns} {n} v u f g s) k e =
      let one : length (ns ++ (v ∷ [])) ≡ length ns + 1 = length-append ns (v ∷ []) in
      numbers_from f (suc k) (omega arith)
      ∙ configuration_on k (filled ns (suc k)) (length ns) n (drop n l) v u g (value_filled ns (suc k) v ∙ suits_value ns v s)
      ∙ ap (λ (ms : List ℕ). configuration_from k ms (length ns + 1) (n + u) (drop u (drop n l))) (set_filled ns k v)
      ∙ ap (λ (i : ℕ). configuration_from k (filled (ns ++ (v ∷ [])) k) i (n + u) (drop u (drop n l))) (sym one)
      ∙ ap (λ (m : List ℕ). configuration_from k (filled (ns ++ (v ∷ [])) k) (length (ns ++ (v ∷ []))) (n + u) m) (drop-drop u n l)

  -- all 33 may stand where they stand
  pub numbers_set_up : {ns : List ℕ} {n : ℕ} → Numbers l ns n → length ns ≡ 33 → configuration_at l ≡ configures ns n
  numbers_set_up {ns} {n} f full =
      numbers_from f 0 (omega arith) ∙ configuration_done (filled ns 0) (length ns) n (drop n l) ∙ ap (λ (ms : List ℕ). configures ms n) (append-nil ns)

  -- one is broken, or may not
  pub fault_wrong : {k : Cause} {p : ℕ} → ConfigurationFault l k p → configuration_at l ≡ misconfigures k p
  fault_wrong (broken ns n f low e) =
      numbers_from f (suc (32 - length ns)) (omega arith)
      ∙ configuration_broken (32 - length ns) (filled ns (suc (32 - length ns))) (length ns) n (drop n l) e
  fault_wrong (invalid ns n v u f low e bad) =
      numbers_from f (suc (32 - length ns)) (omega arith)
      ∙ configuration_wrong (32 - length ns) (filled ns (suc (32 - length ns))) (length ns) n (drop n l) v u e
      (value_filled ns (suc (32 - length ns)) v ∙ not_true_false (value_ok ns (length ns) v) (λ t. bad ((suits_exactly ns v low).0 t)))

-- a configuration has its 33 numbers or a fault
pub data Configuration (l : List ℕ) : Type 0 where
  good : (ns : List ℕ) (n : ℕ) → Numbers l ns n → length ns ≡ 33 → Configuration l
  bad : (k : Cause) (p : ℕ) → ConfigurationFault l k p → Configuration l

module _ (l : List ℕ) where
  by_number : (ns : List ℕ) (n : ℕ) → Numbers l ns n → length ns < 33 → (r : Option Number) → read_number (drop n l) ≡ r
      → ((v u : ℕ) → Numbers l (ns ++ (v ∷ [])) (n + u) → Configuration l) → Configuration l
  by_number ns n f low None e go = bad BrokenRecord n (broken ns n f low e)
  by_number ns n f low (Some number) e go =
      ⊎_elim
      (λ (t : value_ok ns (length ns) number.value ≡ true). go number.value number.used (next number.value number.used f e ((suits_exactly ns number.value low).0 t)))
      (λ (t : value_ok ns (length ns) number.value ≡ false). bad InvalidState 0 (invalid ns n number.value number.used f low e (λ s. never_both t ((suits_exactly ns number.value low).1 s))))
      (cases (value_ok ns (length ns) number.value))

  configured_from : (k : ℕ) (ns : List ℕ) (n : ℕ) → Numbers l ns n → length ns + k ≡ 33 → Configuration l
  configured_from zero ns n f e = good ns n f (omega arith)
  configured_from (suc k) ns n f e =
      by_number ns n f (omega arith) (read_number (drop n l)) refl
      (λ v u g. configured_from k (ns ++ (v ∷ [])) (n + u) g (let one : length (ns ++ (v ∷ [])) ≡ length ns + 1 = length-append ns (v ∷ []) in omega arith))

  pub configuration_numbers : Configuration l
  configuration_numbers = configured_from 33 [] 0 none refl
