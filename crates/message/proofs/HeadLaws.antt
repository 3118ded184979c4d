-- What a head says depends on the first bytes of a message alone, and which sizes there are. Assumes nothing.
use Prim.Native.Nat.{ℕ, ◌+◌, ◌%◌, ◌≤◌, ◌<◌}
use mathlib.Core.Path.{◌≡◌, subst}
use mathlib.Core.Bool.{Bool, true, false, ◌&&◌, ◌||◌}
use mathlib.Core.List.{List, ◌++◌}
use mathlib.Core.Logic.{◌⊎◌, inl, inr, ⊎_elim}
use native.Mathlib.Omega.{arith}
use lib.ListN.{get_or, length, get_or-append}
use lib.Dec.{T, eqb, leb, eqb→eq, leb→le}
use borrow.Author.Tests.{eqb-true, ltb-true, ltb-false}
use Rattle.lists.proofs.Tests.{cases, t_left, t_right, or_cases, true_t, T_true, and_left, and_right}
use Rattle.lists.proofs.Tables.{every, every_at}
use Rattle.lists.proofs.PartLaws.{part_append}
use Rattle.message.specs.Heads.{type_of, op_of, type_sizes, op_sizes, size_by, msg_size, known, is_misc, crdt_grant, activation, flags_ok, push_ok, activation_ok, grant_ok, well_headed, is_message}

-- a size of the tables: none, at most a granule, or whole granules and at most 120 bytes
abbrev good_size : ℕ → Bool
good_size n = eqb n 0 || (leb 10 n && (leb n 20 || (eqb (n % 20) 0 && leb n 120)))

-- each entry of the op table and of the type table
size_good : (t o : ℕ) → T (good_size (size_by t o))
size_good t o = every_at good_size (type_sizes o) tt (all_types (every_at good_size op_sizes tt tt o)) t
  where
    all_types : T (good_size (get_or op_sizes o 0)) → T (every good_size (type_sizes o))
    all_types h = rw (T_true (good_size (get_or op_sizes o 0)) h) tt

-- a size that is not 0
pub record Size (n : ℕ) : Type 0 where
  pub least : 10 ≤ n
  pub kind : (n ≤ 20) ⊎ ((n % 20 ≡ 0) × (n ≤ 120))

pub size_of : (t o : ℕ) → 0 < size_by t o → Size (size_by t o)
size_of t o p = go (size_by t o) p (size_good t o)
  where
    go : (n : ℕ) → 0 < n → T (good_size n) → Size n
    go n q g =
        ⊎_elim (λ (z : T (eqb n 0)). let e : n ≡ 0 = eqb→eq n 0 z in absurd (omega arith))
        (λ (h : T (leb 10 n && (leb n 20 || (eqb (n % 20) 0 && leb n 120)))). record {
          least = leb→le 10 n (t_left (leb 10 n) (leb n 20 || (eqb (n % 20) 0 && leb n 120)) h);
          kind = ⊎_elim (λ (a : T (leb n 20)). inl (leb→le n 20 a))
              (λ (b : T (eqb (n % 20) 0 && leb n 120)). inr (eqb→eq (n % 20) 0 (t_left (eqb (n % 20) 0) (leb n 120) b), leb→le n 120 (t_right (eqb (n % 20) 0) (leb n 120) b)))
              (or_cases (leb n 20) (eqb (n % 20) 0 && leb n 120) (t_right (leb 10 n) (leb n 20 || (eqb (n % 20) 0 && leb n 120)) h));
        })
        (or_cases (eqb n 0) (leb 10 n && (leb n 20 || (eqb (n % 20) 0 && leb n 120))) g)

-- no message is longer than 120 bytes
pub size_most : (m : List ℕ) → msg_size m ≤ 120
size_most m = ⊎_elim some none (cases (known m))
  where
    some : known m ≡ true → msg_size m ≤ 120
    some k =
        ⊎_elim (λ (s : msg_size m ≤ 20). omega arith) (λ s. s.1) (size_of (type_of m) (op_of m) (ltb-true 0 (msg_size m) k)).kind

    none : known m ≡ false → msg_size m ≤ 120
    none k = let z : msg_size m ≤ 0 = ltb-false 0 (msg_size m) k in omega arith

-- a whole message, fact by fact
pub record Message (m : List ℕ) : Type 0 where
  pub sized : msg_size m ≡ length m
  pub is_known : known m ≡ true
  pub headed : well_headed m ≡ true

pub is_message_law : (m : List ℕ) → is_message m ≡ true → Message m
is_message_law m t =
    let r = and_right (eqb (msg_size m) (length m)) (known m && well_headed m) t in
    record {
      sized = eqb-true (msg_size m) (length m) (and_left (eqb (msg_size m) (length m)) (known m && well_headed m) t);
      is_known = and_left (known m) (well_headed m) r;
      headed = and_right (known m) (well_headed m) r;
    }

pub message_size : (m : List ℕ) → Message m → Size (length m)
message_size m h = subst Size h.sized (size_of (type_of m) (op_of m) (ltb-true 0 (msg_size m) h.is_known))

-- the head of a message with z behind it
module _ (m z : List ℕ) where
  pub size_append : 1 < length m → msg_size (m ++ z) ≡ msg_size m
  size_append h = let p : 0 < length m = omega arith in rw (get_or-append m z 0 0 p, get_or-append m z 0 1 h)

  pub misc_append : (o : ℕ) → 1 < length m → is_misc (m ++ z) o ≡ is_misc m o
  misc_append o h = let p : 0 < length m = omega arith in rw (get_or-append m z 0 0 p, get_or-append m z 0 1 h)

  grant_append : 2 < length m → (is_misc m crdt_grant ≡ true → 16 ≤ length m) → grant_ok (m ++ z) ≡ grant_ok m
  grant_append h k = ⊎_elim is isnt (cases (is_misc m crdt_grant))
    where
      p : 1 < length m
      p = omega arith

      is : is_misc m crdt_grant ≡ true → grant_ok (m ++ z) ≡ grant_ok m
      is e = let f : 7 + 9 ≤ length m = k e in rw (misc_append crdt_grant p, get_or-append m z 0 2 h, part_append m z 7 9 f)

      isnt : is_misc m crdt_grant ≡ false → grant_ok (m ++ z) ≡ grant_ok m
      isnt e = rw (misc_append crdt_grant p, e)

  pub headed_append : 2 < length m → (is_misc m crdt_grant ≡ true → 16 ≤ length m) → well_headed (m ++ z) ≡ well_headed m
  headed_append h k =
      let p : 0 < length m = omega arith in
      let q : 1 < length m = omega arith in
      let a : flags_ok (m ++ z) ≡ flags_ok m = rw (get_or-append m z 0 0 p) in
      let b : push_ok (m ++ z) ≡ push_ok m = rw (get_or-append m z 0 0 p, get_or-append m z 0 1 q) in
      let c : activation_ok (m ++ z) ≡ activation_ok m = rw (misc_append activation q, get_or-append m z 0 2 h) in
      cc (a, b, c, grant_append h k)

-- a CrdtGrant has 16 bytes
pub grant_size : (m : List ℕ) → is_misc m crdt_grant ≡ true → msg_size m ≡ 16
grant_size m e =
    let t : type_of m ≡ 10 = eqb→eq (type_of m) 10 (t_left (eqb (type_of m) 10) (eqb (op_of m) crdt_grant) (true_t _ e)) in
    let o : op_of m ≡ 2 = eqb→eq (op_of m) 2 (t_right (eqb (type_of m) 10) (eqb (op_of m) crdt_grant) (true_t _ e)) in
    rw (t, o)
