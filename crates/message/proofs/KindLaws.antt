-- The kinds that messages pay are those of their charges, and a longer message pays none that a message in a smaller granule pays.
-- Assumes nothing.
use Prim.Native.Nat.{ℕ, zero, suc, ◌+◌, ◌/◌, ◌%◌, ◌≤◌, ◌<◌}
use mathlib.Core.Path.{◌≡◌, refl, sym, ap, subst}
use mathlib.Core.Bool.{Bool, true, false, ◌&&◌, ◌||◌}
use mathlib.Core.List.{List, [], ◌∷◌}
use mathlib.Core.Logic.{◌⊎◌, inl, inr, ⊎_elim, ◌↔◌}
use native.Mathlib.Omega.{arith}
use lib.ListN.{length, get_or}
use lib.Dec.{eqb, leb, leb→le}
use borrow.Author.Tests.{eqb-true, ne_eqb, le-leb, ltb-true}
use Rattle.lists.proofs.Tests.{cases, never_both, and_left}
use Rattle.lists.proofs.Tables.{every_at}
use Rattle.lists.proofs.PickLaws.{pick_both, pick_by}
use Rattle.container.specs.Layout.{Format, wide}
use Rattle.message.specs.Heads.{type_of, op_of, size_by, op_sizes, class_of, flag_bounds, flag_bound, flags_ok, push_ok, activation_ok, grant_ok, resp, misc_u}
use Rattle.message.specs.Places.{placed}
use Rattle.message.specs.Charges.{shared_crdt, res_plane, req_pool, dat_pool, push_pool, paid_by, listed}
use Rattle.message.specs.Kinds.{req, dat, free, pays_by, pays, pool_kind, charged, PaysAsCharged}
use Rattle.message.specs.declared.heads.Class.{Class}
use Rattle.message.specs.declared.heads.Class.TheVariants.{Unknown, Request, Response, Snoop, Data, RequestData, Misc}
use Rattle.message.proofs.HeadLaws.{Message}
use Rattle.message.proofs.PlaceLaws.{placed_short}

-- ---- the kinds of the charges

-- byte 0 of a message is a byte
first_byte : (m : List ℕ) → Message m → get_or m 0 0 < 256
first_byte m h =
    let flags : flags_ok m ≡ true = and_left (flags_ok m) (push_ok m && (activation_ok m && grant_ok m)) h.headed in
    let low = ltb-true (get_or m 0 0 / 16) (flag_bound (type_of m)) flags in
    let most : flag_bound (type_of m) ≤ 16 = leb→le (flag_bound (type_of m)) 16 (every_at (λ (n : ℕ). leb n 16) flag_bounds tt tt (type_of m)) in
    omega arith

req_kind : (first : ℕ) → first < 256 → pool_kind (req_pool first) ≡ req
req_kind first b =
    pick_by (λ (p : ℕ). pool_kind p ≡ req) (shared_crdt first) (λ _. refl)
    (λ _. rw (le-leb (1 + res_plane first) 8 (omega arith)))

dat_kind : (first : ℕ) → pool_kind (dat_pool first) ≡ dat
dat_kind first = pick_both (λ (p : ℕ). pool_kind p ≡ dat) (shared_crdt first) refl refl

push_kind : (second : ℕ) → pool_kind (push_pool second) ≡ dat
push_kind second = pick_both (λ (p : ℕ). pool_kind p ≡ dat) (eqb (second % 2) 1) refl refl

or_none : (b : Bool) → b ≡ (b || false)
or_none true = refl
or_none false = refl

kinds_charged : (c : Class) (t first second k : ℕ) → first < 256 → (k ≡ free → ⊥) → pays_by c k ≡ charged k (listed (paid_by c t first second))
kinds_charged Unknown t first second k b d = ne_eqb k free d
kinds_charged Request t first second k b d = rw (req_kind first b) (or_none (eqb k 0))
kinds_charged Response t first second k b d = or_none (eqb k 1)
kinds_charged Snoop t first second k b d = or_none (eqb k 2)
kinds_charged Data t first second k b d = rw (dat_kind first) (or_none (eqb k 3))
kinds_charged RequestData t first second k b d = rw (req_kind first b, push_kind second) (ap (λ (x : Bool). eqb k 0 || x) (or_none (eqb k 3)))
kinds_charged Misc t first second k b d = ne_eqb k free d

-- a test that fails, and a list that is not empty
neither : {A : Type 0} {x : A} {l : List A} → (false ≡ true) ↔ (x ∷ l ≡ [])
neither = (λ e. absurd (never_both refl e), λ e. let z : ◌≡◌ {A = ℕ} 0 1 = cc in absurd (omega arith))

nothing_charged : (c : Class) (t first second : ℕ) → (pays_by c free ≡ true) ↔ (listed (paid_by c t first second) ≡ [])
nothing_charged Unknown t first second = (λ _. refl, λ _. refl)
nothing_charged Request t first second = neither
nothing_charged Response t first second = neither
nothing_charged Snoop t first second = neither
nothing_charged Data t first second = neither
nothing_charged RequestData t first second = neither
nothing_charged Misc t first second = (λ _. refl, λ _. refl)

pub pays_charged : (m : List ℕ) → Message m → PaysAsCharged m
pays_charged m h = record {
  kinds = λ k d. kinds_charged (class_of (type_of m)) (type_of m) (get_or m 0 0) (get_or m 1 0) k (first_byte m h) d;
  nothing = nothing_charged (class_of (type_of m)) (type_of m) (get_or m 0 0) (get_or m 1 0);
}

-- ---- longer messages

-- a longer message pays REQ, DAT or both
data Longer : Class → Type 0 where
  request : Longer Request
  with_data : Longer Data
  both : Longer RequestData

longer_class : (t o : ℕ) → 20 < size_by t o → Longer (class_of t)
longer_class zero o p = absurd (omega arith)
longer_class (suc zero) o p = absurd (omega arith)
longer_class (suc (suc zero)) o p = request
longer_class (suc (suc (suc zero))) o p = absurd (omega arith)
longer_class (suc (suc (suc (suc zero)))) o p = absurd (omega arith)
longer_class (suc (suc (suc (suc (suc zero))))) o p = absurd (omega arith)
longer_class (suc (suc (suc (suc (suc (suc zero)))))) o p = with_data
longer_class (suc (suc (suc (suc (suc (suc (suc zero))))))) o p = with_data
longer_class (suc (suc (suc (suc (suc (suc (suc (suc zero)))))))) o p = both
longer_class (suc (suc (suc (suc (suc (suc (suc (suc (suc zero))))))))) o p = both
longer_class (suc (suc (suc (suc (suc (suc (suc (suc (suc (suc zero)))))))))) o p =
    let k : get_or op_sizes o 0 ≤ 20 = leb→le (get_or op_sizes o 0) 20 (every_at (λ (n : ℕ). leb n 20) op_sizes tt tt o) in absurd (omega arith)
longer_class (suc (suc (suc (suc (suc (suc (suc (suc (suc (suc (suc t))))))))))) o p = absurd (omega arith)

-- a kind v alone, and kinds of which v is none
kind_apart : (v : ℕ) (f : ℕ → Bool) → f v ≡ false → (k : ℕ) → (eqb k v && f k) ≡ false
kind_apart v f d k =
    ⊎_elim (λ (e : eqb k v ≡ true). let q = eqb-true k v e in rw e (subst (λ (j : ℕ). f j ≡ false) (sym q) d)) (λ (e : eqb k v ≡ false). rw e) (cases (eqb k v))

longer_apart : (v : ℕ) (c : Class) → (v ≡ 1) ⊎ (v ≡ 4) → Longer c → (k : ℕ) → (eqb k v && pays_by c k) ≡ false
longer_apart v c w request = kind_apart v (pays_by Request) (⊎_elim (λ e. rw e) (λ e. rw e) w)
longer_apart v c w with_data = kind_apart v (pays_by Data) (⊎_elim (λ e. rw e) (λ e. rw e) w)
longer_apart v c w both = kind_apart v (pays_by RequestData) (⊎_elim (λ e. rw e) (λ e. rw e) w)

-- what is placed in a smaller granule pays RSP or nothing, and a longer message neither
pub pays_apart : (fm : Format) (g : ℕ) (x y : List ℕ) → wide fm g ≡ false → placed fm g x ≡ true → Message y → 20 < length y
    → (k : ℕ) → (pays k x && pays k y) ≡ false
pays_apart fm g x y w p h more k =
    let c = longer_class (type_of y) (op_of y) (rw h.sized more) in
    ⊎_elim (λ (e : type_of x ≡ resp). rw e (longer_apart 1 (class_of (type_of y)) (inl refl) c k))
    (λ (e : type_of x ≡ misc_u). rw e (longer_apart 4 (class_of (type_of y)) (inr refl) c k)) (placed_short fm g x w p)
