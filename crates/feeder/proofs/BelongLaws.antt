-- A message belongs in a waiting list by its type exactly as the test says, and the responses are the messages that pay RSP. Assumes
-- nothing.
use Prim.Native.Nat.{ℕ, ◌<◌}
use mathlib.Core.Path.{◌≡◌, refl}
use mathlib.Core.Bool.{Bool, true, false, ◌||◌, not}
use mathlib.Core.List.{List}
use mathlib.Core.Logic.{◌⊎◌, inl, inr, ⊎_elim, ◌↔◌}
use native.Mathlib.Omega.{arith}
use lib.Dec.{T, eqb}
use borrow.Author.Tests.{eqb-true, eq-eqb, ne_eqb}
use Rattle.lists.proofs.Tests.{cases, never_both, T_true}
use Rattle.lists.proofs.Tables.{below_at}
use Rattle.message.specs.Heads.{type_of, class_of}
use Rattle.message.specs.Kinds.{rsp, pays_by, pays}
use Rattle.feeder.specs.Due.{response_by, belongs_by}
use Rattle.feeder.specs.Rules.{Belongs}
use Rattle.feeder.specs.declared.found.Waiting.{Waiting}
use Rattle.feeder.specs.declared.found.Waiting.TheVariants.{Responses, Others}

-- the test for each type
is_resp : (t : ℕ) → t ≡ 3 → response_by t ≡ true
is_resp t e = rw (eq-eqb t 3 e)

is_resp2 : (t : ℕ) → (t ≡ 3 → ⊥) → t ≡ 4 → response_by t ≡ true
is_resp2 t d e = rw (ne_eqb t 3 d, eq-eqb t 4 e)

no_response : (t : ℕ) → (t ≡ 3 → ⊥) → (t ≡ 4 → ⊥) → response_by t ≡ false
no_response t d e = rw (ne_eqb t 3 d, ne_eqb t 4 e)

response_in : (t : ℕ) → Belongs Responses t → response_by t ≡ true
response_in t (inl e) = is_resp t e
response_in t (inr e) = is_resp2 t (λ (q : t ≡ 3). omega arith) e

in_response : (t : ℕ) → response_by t ≡ true → Belongs Responses t
in_response t h = ⊎_elim (λ a. inl (eqb-true t 3 a)) (λ a. ⊎_elim (λ b. inr (eqb-true t 4 b)) (λ b. no a b) (cases (eqb t 4))) (cases (eqb t 3))
  where
    no : eqb t 3 ≡ false → eqb t 4 ≡ false → (t ≡ 3) ⊎ (t ≡ 4)
    no a b = let z : false ≡ true = rw (a, b) at h in absurd (never_both refl z)

pub belongs_law : (w : Waiting) (t : ℕ) → Belongs w t → belongs_by w t ≡ true
belongs_law Responses t h = response_in t h
belongs_law Others t h = rw (no_response t h.0 h.1)

pub by_belongs : (w : Waiting) (t : ℕ) → belongs_by w t ≡ true → Belongs w t
by_belongs Responses t e = in_response t e
by_belongs Others t e = (λ q. never (is_resp t q), λ q. never (response_in t (inr q)))
  where
    never : response_by t ≡ true → ⊥
    never r = let z : false ≡ true = rw r at e in never_both refl z

-- ---- responses pay RSP

implied : (a b : Bool) → T (not a || b) → a ≡ true → b ≡ true
implied a b t e = T_true b (rw e at t)

response_pays : (t : ℕ) → t < 16 → response_by t ≡ true → pays_by (class_of t) rsp ≡ true
response_pays t h = implied (response_by t) (pays_by (class_of t) rsp) (below_at 16 (λ (k : ℕ). not (response_by k) || pays_by (class_of k) rsp) tt t h)

pays_response : (t : ℕ) → t < 16 → pays_by (class_of t) rsp ≡ true → response_by t ≡ true
pays_response t h = implied (pays_by (class_of t) rsp) (response_by t) (below_at 16 (λ (k : ℕ). not (pays_by (class_of k) rsp) || response_by k) tt t h)

pub responses_pay : (m : List ℕ) → Belongs Responses (type_of m) ↔ (pays rsp m ≡ true)
responses_pay m =
    let low : type_of m < 16 = omega arith in
    (λ b. response_pays (type_of m) low (response_in (type_of m) b), λ e. in_response (type_of m) (pays_response (type_of m) low e))
