-- The sentences on heads hold exactly where the tests of the checks do. Assumes nothing.
use Prim.Native.Nat.{ℕ, zero, suc, ◌+◌, ◌-◌, ◌/◌, ◌%◌, ◌≤◌, ◌<◌}
use mathlib.Core.Path.{◌≡◌, refl, sym, ◌∙◌, subst}
use mathlib.Core.Bool.{Bool, true, false, ◌&&◌, ◌||◌, not}
use mathlib.Core.List.{List, [], ◌∷◌}
use mathlib.Core.Logic.{⊎_elim, ◌↔◌}
use native.Mathlib.Omega.{arith}
use lib.ListN.{length, get_or, drop, length-take, get_or-eq_default}
use lib.Seq.{get_or-drop, get_or-take}
use lib.Dec.{T, eqb, ltb, leb, eqb→eq, ltb→lt, lt→ltb, leb→le}
use borrow.Author.Tests.{lt-ltb, le-leb, eq-eqb, eqb-true, ltb-true}
use Rattle.lists.specs.Parts.{part, zeros}
use Rattle.lists.proofs.Tests.{T_true, true_t, t_left, t_right, and_left, and_right, and_both, or_cases}
use Rattle.lists.proofs.Order.{lt_or_le}
use Rattle.lists.proofs.ZeroLaws.{zeros_at, at_zeros}
use Rattle.container.specs.Grants.{form_ok}
use Rattle.message.specs.Heads.{type_of, op_of, size_by, msg_size, is_misc, flag_bound, flags_ok, push_by, push_ok, misc_by, activation_by, activation_ok, grant_by, grant_ok, well_headed, known, is_message}
use Rattle.message.specs.HeadRules.{byte, Row, Bytes, Misc, among, RightHead, Message}
use Rattle.message.specs.HeadRules.Row.{ReqS, ReqL, Resp, Resp2, Snoop, DataS, DataL, WrReqDataS, WrReqDataL, LinkStatus, Activation, CrdtGrant, Connect, Property}

-- what holds of each of a list holds of one that is among it
abbrev pub Each : (ℕ → Type 0) → List ℕ → Type 0
Each P [] = Unit {0}
Each P (a ∷ l) = P a × Each P l

pub each_of : (P : ℕ → Type 0) (l : List ℕ) (t : ℕ) → Each P l → T (among l t) → P t
each_of P [] t h x = absurd x
each_of P (a ∷ l) t h x =
    ⊎_elim (λ (y : T (eqb t a)). subst P (sym (eqb→eq t a y)) h.0) (λ (y : T (among l t)). each_of P l t h.1 y) (or_cases (eqb t a) (among l t) x)

-- ---- the table
pub row_size : {t o n : ℕ} → Row t o n → size_by t o ≡ n
row_size (ReqS o) = refl
row_size (ReqL o) = refl
row_size (Resp o) = refl
row_size (Resp2 o) = refl
row_size (Snoop o) = refl
row_size (DataS o) = refl
row_size (DataL o) = refl
row_size (WrReqDataS o) = refl
row_size (WrReqDataL o) = refl
row_size LinkStatus = refl
row_size Activation = refl
row_size CrdtGrant = refl
row_size Connect = refl
row_size Property = refl

row_some : {t o n : ℕ} → Row t o n → 0 < n
row_some (ReqS o) = omega arith
row_some (ReqL o) = omega arith
row_some (Resp o) = omega arith
row_some (Resp2 o) = omega arith
row_some (Snoop o) = omega arith
row_some (DataS o) = omega arith
row_some (DataL o) = omega arith
row_some (WrReqDataS o) = omega arith
row_some (WrReqDataL o) = omega arith
row_some LinkStatus = omega arith
row_some Activation = omega arith
row_some CrdtGrant = omega arith
row_some Connect = omega arith
row_some Property = omega arith

row_of : (t o : ℕ) → 0 < size_by t o → Row t o (size_by t o)
row_of zero o h = absurd (omega arith)
row_of (suc zero) o h = ReqS o
row_of (suc (suc zero)) o h = ReqL o
row_of (suc (suc (suc zero))) o h = Resp o
row_of (suc (suc (suc (suc zero)))) o h = Resp2 o
row_of (suc (suc (suc (suc (suc zero))))) o h = Snoop o
row_of (suc (suc (suc (suc (suc (suc zero)))))) o h = DataS o
row_of (suc (suc (suc (suc (suc (suc (suc zero))))))) o h = DataL o
row_of (suc (suc (suc (suc (suc (suc (suc (suc zero)))))))) o h = WrReqDataS o
row_of (suc (suc (suc (suc (suc (suc (suc (suc (suc zero))))))))) o h = WrReqDataL o
row_of (suc (suc (suc (suc (suc (suc (suc (suc (suc (suc zero)))))))))) zero h = LinkStatus
row_of (suc (suc (suc (suc (suc (suc (suc (suc (suc (suc zero)))))))))) (suc zero) h = Activation
row_of (suc (suc (suc (suc (suc (suc (suc (suc (suc (suc zero)))))))))) (suc (suc zero)) h = CrdtGrant
row_of (suc (suc (suc (suc (suc (suc (suc (suc (suc (suc zero)))))))))) (suc (suc (suc zero))) h = Connect
row_of (suc (suc (suc (suc (suc (suc (suc (suc (suc (suc zero)))))))))) (suc (suc (suc (suc zero)))) h = Property
row_of (suc (suc (suc (suc (suc (suc (suc (suc (suc (suc zero)))))))))) (suc (suc (suc (suc (suc o))))) h = absurd (omega arith)
row_of (suc (suc (suc (suc (suc (suc (suc (suc (suc (suc (suc t))))))))))) o h = absurd (omega arith)

-- a message has n bytes by the table exactly where the size by type and op is n, and not 0
pub bytes_exactly : (m : List ℕ) (n : ℕ) → Bytes m n ↔ ((msg_size m ≡ n) × (0 < n))
bytes_exactly m n = (λ r. (row_size r, row_some r), λ h. subst (Bytes m) h.0 (row_of (type_of m) (op_of m) (rw h.0 h.1)))

pub bytes_size : (m : List ℕ) {n : ℕ} → Bytes m n → msg_size m ≡ n
bytes_size m r = row_size r

pub bytes_some : (m : List ℕ) {n : ℕ} → Bytes m n → 0 < n
bytes_some m r = row_some r

pub size_bytes : (m : List ℕ) → 0 < msg_size m → Bytes m (msg_size m)
size_bytes m h = row_of (type_of m) (op_of m) h

-- ---- tests as statements
pub guarded : (a b : Bool) → ((not a || b) ≡ true) ↔ (T a → T b)
guarded true b = (λ (e : b ≡ true). λ t. true_t b e, λ (f : T true → T b). T_true b (f tt))
guarded false b = (λ (e : true ≡ true). λ t. absurd t, λ (f : T false → T b). refl)

-- a MiscU with a given op
pub misc_t : (t o w : ℕ) → (t ≡ 10) × (o ≡ w) → T (misc_by t o w)
misc_t t o w h = true_t (misc_by t o w) (and_both (eqb t 10) (eqb o w) (eq-eqb t 10 h.0) (eq-eqb o w h.1))

pub t_misc : (t o w : ℕ) → T (misc_by t o w) → (t ≡ 10) × (o ≡ w)
t_misc t o w h = (eqb→eq t 10 (t_left (eqb t 10) (eqb o w) h), eqb→eq o w (t_right (eqb t 10) (eqb o w) h))

-- a MiscU with a given op, by the test
pub misc_exactly : (m : List ℕ) (w : ℕ) → T (is_misc m w) ↔ Misc m w
misc_exactly m w = (t_misc (type_of m) (op_of m) w, misc_t (type_of m) (op_of m) w)

-- ---- bits of byte 0
record Flags (t b : ℕ) : Type 0 where
  eight : b < 256
  plain : T (among (3 ∷ 4 ∷ 5 ∷ 10 ∷ []) t) → b / 16 ≡ 0
  planeless : T (among (6 ∷ 7 ∷ []) t) → b / 32 ≡ 0

-- bounds for byte 0 by kind of type
free : (t b : ℕ) → (T (among (3 ∷ 4 ∷ 5 ∷ 10 ∷ []) t) → ⊥) → (T (among (6 ∷ 7 ∷ []) t) → ⊥) → (b / 16 < 16) ↔ Flags t b
free t b p q = (λ h. record { eight = omega arith; plain = λ x. absurd (p x); planeless = λ x. absurd (q x) }, λ h. let e = h.eight in omega arith)

none : (t b : ℕ) → T (among (3 ∷ 4 ∷ 5 ∷ 10 ∷ []) t) → (T (among (6 ∷ 7 ∷ []) t) → ⊥) → (b / 16 < 1) ↔ Flags t b
none t b p q = (λ h. record { eight = omega arith; plain = λ x. omega arith; planeless = λ x. absurd (q x) }, λ h. let e = h.plain p in omega arith)

shared : (t b : ℕ) → (T (among (3 ∷ 4 ∷ 5 ∷ 10 ∷ []) t) → ⊥) → T (among (6 ∷ 7 ∷ []) t) → (b / 16 < 2) ↔ Flags t b
shared t b p q = (λ h. record { eight = omega arith; plain = λ x. absurd (p x); planeless = λ x. omega arith }, λ h. let e = h.planeless q in omega arith)

flags_exactly : {t o n : ℕ} → Row t o n → (b : ℕ) → (b / 16 < flag_bound t) ↔ Flags t b
flags_exactly (ReqS o) b = free 1 b (λ x. x) (λ x. x)
flags_exactly (ReqL o) b = free 2 b (λ x. x) (λ x. x)
flags_exactly (Resp o) b = none 3 b tt (λ x. x)
flags_exactly (Resp2 o) b = none 4 b tt (λ x. x)
flags_exactly (Snoop o) b = none 5 b tt (λ x. x)
flags_exactly (DataS o) b = shared 6 b (λ x. x) tt
flags_exactly (DataL o) b = shared 7 b (λ x. x) tt
flags_exactly (WrReqDataS o) b = free 8 b (λ x. x) (λ x. x)
flags_exactly (WrReqDataL o) b = free 9 b (λ x. x) (λ x. x)
flags_exactly LinkStatus b = none 10 b tt (λ x. x)
flags_exactly Activation b = none 10 b tt (λ x. x)
flags_exactly CrdtGrant b = none 10 b tt (λ x. x)
flags_exactly Connect b = none 10 b tt (λ x. x)
flags_exactly Property b = none 10 b tt (λ x. x)

-- ---- byte 1 of types 8 and 9
push_list : (t : ℕ) → (eqb t 8 || eqb t 9) ≡ among (8 ∷ 9 ∷ []) t
push_list t = by (eqb t 8) (eqb t 9)
  where
    by : (a b : Bool) → (a || b) ≡ (a || (b || false))
    by true b = refl
    by false true = refl
    by false false = refl

push_exactly : (t b : ℕ) → (push_by t b ≡ true) ↔ (T (among (8 ∷ 9 ∷ []) t) → b / 2 ≡ 0)
push_exactly t b = (
  λ e x. let l : b < 2 = ltb→lt b 2 ((guarded (eqb t 8 || eqb t 9) (ltb b 2)).0 e (subst T (sym (push_list t)) x)) in omega arith,
  λ h. (guarded (eqb t 8 || eqb t 9) (ltb b 2)).1 (λ x. let z = h (subst T (push_list t) x) in lt→ltb b 2 (omega arith)),
)

-- ---- Activation and CrdtGrant
activation_exactly : (t o b : ℕ) → (activation_by t o b ≡ true) ↔ ((t ≡ 10) × (o ≡ 1) → (1 ≤ b) × (b ≤ 5))
activation_exactly t o b = (
  λ e x. let k = (guarded (misc_by t o 1) (leb 1 b && leb b 5)).0 e (misc_t t o 1 x) in (leb→le 1 b (t_left (leb 1 b) (leb b 5) k), leb→le b 5 (t_right (leb 1 b) (leb b 5) k)),
  λ h. (guarded (misc_by t o 1) (leb 1 b && leb b 5)).1 (λ x. let k = h (t_misc t o 1 x) in true_t (leb 1 b && leb b 5) (and_both (leb 1 b) (leb b 5) (le-leb 1 b k.0) (le-leb b 5 k.1))),
)

form_exactly : (a : ℕ) → (form_ok a ≡ true) ↔ ((a / 16 ≡ 0) × (a % 2 ≡ 1 → a / 2 % 8 ≡ 0))
form_exactly a = (to, from)
  where
    to : form_ok a ≡ true → (a / 16 ≡ 0) × (a % 2 ≡ 1 → a / 2 % 8 ≡ 0)
    to e =
        let l : a < 16 = ltb-true a 16 (and_left (ltb a 16) (not (eqb (a % 2) 1) || eqb (a / 2 % 8) 0) e) in
        let r = (guarded (eqb (a % 2) 1) (eqb (a / 2 % 8) 0)).0 (and_right (ltb a 16) (not (eqb (a % 2) 1) || eqb (a / 2 % 8) 0) e) in
        (omega arith, λ h. eqb→eq (a / 2 % 8) 0 (r (true_t (eqb (a % 2) 1) (eq-eqb (a % 2) 1 h))))

    from : (a / 16 ≡ 0) × (a % 2 ≡ 1 → a / 2 % 8 ≡ 0) → form_ok a ≡ true
    from h =
        let z = h.0 in
        and_both (ltb a 16) (not (eqb (a % 2) 1) || eqb (a / 2 % 8) 0) (lt-ltb a 16 (omega arith))
        ((guarded (eqb (a % 2) 1) (eqb (a / 2 % 8) 0)).1 (λ x. true_t (eqb (a / 2 % 8) 0) (eq-eqb (a / 2 % 8) 0 (h.1 (eqb→eq (a % 2) 1 x)))))

-- bytes 7 to 15
tail_exactly : (m : List ℕ) → (zeros (part 7 9 m) ≡ true) ↔ ((i : ℕ) → 7 ≤ i → i ≤ 15 → byte m i ≡ 0)
tail_exactly m = (to, λ h. at_zeros (part 7 9 m) (λ i. from h i))
  where
    to : zeros (part 7 9 m) ≡ true → (i : ℕ) → 7 ≤ i → i ≤ 15 → byte m i ≡ 0
    to e i a b =
        let j : 7 + (i - 7) ≡ i = omega arith in
        rw j at (sym (get_or-take 9 (drop 7 m) (i - 7) 0 (omega arith) ∙ get_or-drop 7 m (i - 7) 0) ∙ zeros_at (part 7 9 m) e (i - 7))

    from : ((i : ℕ) → 7 ≤ i → i ≤ 15 → byte m i ≡ 0) → (i : ℕ) → get_or (part 7 9 m) i 0 ≡ 0
    from h i =
        ⊎_elim (λ (l : i < 9). get_or-take 9 (drop 7 m) i 0 l ∙ get_or-drop 7 m i 0 ∙ h (7 + i) (omega arith) (omega arith))
        (λ (l : 9 ≤ i). get_or-eq_default (part 7 9 m) 0 {n = i} (rw (length-take 9 (drop 7 m)) (omega arith)))
        (lt_or_le i 9)

grant_exactly : (m : List ℕ) (t o : ℕ) → (grant_by t o m ≡ true) ↔ ((t ≡ 10) × (o ≡ 2) → (form_ok (byte m 2) ≡ true) × (zeros (part 7 9 m) ≡ true))
grant_exactly m t o = (
  λ e x. let k = T_true (form_ok (byte m 2) && zeros (part 7 9 m)) ((guarded (misc_by t o 2) (form_ok (byte m 2) && zeros (part 7 9 m))).0 e (misc_t t o 2 x)) in (and_left (form_ok (byte m 2)) (zeros (part 7 9 m)) k, and_right (form_ok (byte m 2)) (zeros (part 7 9 m)) k),
  λ h. (guarded (misc_by t o 2) (form_ok (byte m 2) && zeros (part 7 9 m))).1 (λ x. let k = h (t_misc t o 2 x) in true_t (form_ok (byte m 2) && zeros (part 7 9 m)) (and_both (form_ok (byte m 2)) (zeros (part 7 9 m)) k.0 k.1)),
)

-- a message of the table has a right head exactly where the test holds
pub head_exactly : (m : List ℕ) (n : ℕ) → Bytes m n → (well_headed m ≡ true) ↔ RightHead m
head_exactly m n r = (to, from)
  where
    to : well_headed m ≡ true → RightHead m
    to e =
        let x = and_right (flags_ok m) (push_ok m && (activation_ok m && grant_ok m)) e in
        let y = and_right (push_ok m) (activation_ok m && grant_ok m) x in
        let f = (flags_exactly r (byte m 0)).0 (ltb-true (byte m 0 / 16) (flag_bound (type_of m)) (and_left (flags_ok m) (push_ok m && (activation_ok m && grant_ok m)) e)) in
        let g = (grant_exactly m (type_of m) (op_of m)).0 (and_right (activation_ok m) (grant_ok m) y) in
        record {
          eight = f.eight;
          plain = f.plain;
          planeless = f.planeless;
          push = (push_exactly (type_of m) (byte m 1)).0 (and_left (push_ok m) (activation_ok m && grant_ok m) x);
          activation = (activation_exactly (type_of m) (op_of m) (byte m 2)).0 (and_left (activation_ok m) (grant_ok m) y);
          form = λ h. (form_exactly (byte m 2)).0 (g h).0;
          behind = λ h. (tail_exactly m).0 (g h).1;
        }

    from : RightHead m → well_headed m ≡ true
    from h =
        let a : flags_ok m ≡ true = lt-ltb (byte m 0 / 16) (flag_bound (type_of m)) ((flags_exactly r (byte m 0)).1 (record { eight = h.eight; plain = h.plain; planeless = h.planeless })) in
        let b : push_ok m ≡ true = (push_exactly (type_of m) (byte m 1)).1 h.push in
        let c : activation_ok m ≡ true = (activation_exactly (type_of m) (op_of m) (byte m 2)).1 h.activation in
        let d : grant_ok m ≡ true = (grant_exactly m (type_of m) (op_of m)).1 (λ x. ((form_exactly (byte m 2)).1 (h.form x), (tail_exactly m).1 (h.behind x))) in
        rw (a, b, c, d)

-- a whole message is one exactly where the test holds
pub message_exactly : (m : List ℕ) → (is_message m ≡ true) ↔ Message m
message_exactly m = (to, from)
  where
    to : is_message m ≡ true → Message m
    to e =
        let size : msg_size m ≡ length m = eqb-true (msg_size m) (length m) (and_left (eqb (msg_size m) (length m)) (known m && well_headed m) e) in
        let rest = and_right (eqb (msg_size m) (length m)) (known m && well_headed m) e in
        let some : 0 < msg_size m = ltb-true 0 (msg_size m) (and_left (known m) (well_headed m) rest) in
        let row : Bytes m (length m) = (bytes_exactly m (length m)).1 (size, omega arith) in
        record { sized = row; headed = (head_exactly m (length m) row).0 (and_right (known m) (well_headed m) rest) }

    from : Message m → is_message m ≡ true
    from w =
        let s = (bytes_exactly m (length m)).0 w.sized in
        let size = s.0 in
        let some = s.1 in
        and_both (eqb (msg_size m) (length m)) (known m && well_headed m) (eq-eqb (msg_size m) (length m) size)
        (and_both (known m) (well_headed m) (lt-ltb 0 (msg_size m) (omega arith)) ((head_exactly m (length m) w.sized).1 w.headed))
