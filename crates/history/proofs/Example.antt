-- A small link with one pool: the laws of a link can be met, and its audit answers as document 01's M8 and M10 say. Assumes nothing.
use Prim.Native.Nat.{ℕ, zero, suc, ◌+◌, ◌≤◌}
use native.Mathlib.Omega.{arith}
use mathlib.Core.Path.{◌≡◌, refl}
use mathlib.Core.Bool.{Bool, true, false, not, false≢true}
use Rattle.lists.specs.Pick.{pick}
use Rattle.history.specs.Trace.{Trace, start, ◌▷◌}
use Rattle.history.specs.Link.{Link, Lawful}
use Rattle.history.specs.Calls.{Call, after}
use Rattle.history.specs.Audit.{link_auditor}
use Rattle.history.specs.Demand.{Closed}
use Rattle.history.proofs.Demand.{link_closes}

-- a container grants credits, starts a message that goes on, ends it, or breaks the rules
data Small : Type 0 where
  grant : ℕ → Small
  begin finish broken : Small

-- n in pool 0, and nothing in any other
abbrev in_pool0 : ℕ → ℕ → ℕ
in_pool0 n zero = n
in_pool0 n (suc p) = 0

-- a message ends if one is carried, and nothing else stands beside a carried one
abbrev small_reads : Bool → Small → Bool
small_reads s (grant n) = not s
small_reads s begin = not s
small_reads s finish = s
small_reads s broken = false

abbrev small_next : Small → Bool
small_next (grant n) = false
small_next begin = true
small_next finish = false
small_next broken = false

abbrev small_grants : Small → ℕ
small_grants (grant n) = n
small_grants begin = 0
small_grants finish = 0
small_grants broken = 0

abbrev small_begins : Small → ℕ
small_begins (grant n) = 0
small_begins begin = 1
small_begins finish = 0
small_begins broken = 0

abbrev small_finishes : Small → ℕ
small_finishes (grant n) = 0
small_finishes begin = 0
small_finishes finish = 1
small_finishes broken = 0

-- the link whose receivers have n buffers each
abbrev small_link : ℕ → Link
small_link n = record {
  Container = Small;
  State = Bool;
  fresh = false;
  reads = λ d s c. small_reads s c;
  next = λ d s c. small_next c;
  grants = λ d s c p. in_pool0 (small_grants c) p;
  begins = λ d s c p. in_pool0 (small_begins c) p;
  finishes = λ d s c p. in_pool0 (small_finishes c) p;
  carried = λ s p. in_pool0 (pick s 1 0) p;
  state_ok = λ d s. true;
  pools = 1;
  capacity = λ d p. in_pool0 n p;
}

none_elsewhere : (n p : ℕ) → 1 ≤ p → in_pool0 n p ≡ 0
none_elsewhere n zero h = absurd (omega arith)
none_elsewhere n (suc p) h = refl

none_carried : (p : ℕ) → in_pool0 0 p ≡ 0
none_carried zero = refl
none_carried (suc p) = refl

none_lost : (s : Bool) (c : Small) (p : ℕ) → small_reads s c ≡ true
    → in_pool0 (pick s 1 0) p + in_pool0 (small_begins c) p ≡ in_pool0 (small_finishes c) p + in_pool0 (pick (small_next c) 1 0) p
none_lost s c (suc p) r = refl
none_lost false (grant n) zero r = refl
none_lost true (grant n) zero r = absurd (false≢true r)
none_lost false begin zero r = refl
none_lost true begin zero r = absurd (false≢true r)
none_lost false finish zero r = absurd (false≢true r)
none_lost true finish zero r = refl
none_lost s broken zero r = absurd (false≢true r)

small_lawful : (n : ℕ) → Lawful (small_link n)
small_lawful n = record {
  none_at_first = none_carried;
  none_lost = λ d s c p k r. none_lost s c p r;
  fresh_ok = λ d. refl;
  next_ok = λ d s c r k. refl;
  no_grant_law = λ d s c p r h. none_elsewhere (small_grants c) p h;
  no_begin = λ d s c p r h. none_elsewhere (small_begins c) p h;
  no_finish = λ d s c p k r h. none_elsewhere (small_finishes c) p h;
}

-- demand 3 holds of its audit
small_closes : (n : ℕ) (xs : Trace (Call Small)) → Closed (small_link n) (link_auditor (small_link n)) xs
small_closes n = link_closes (small_link n) (small_lawful n)

abbrev call_of : ℕ → Small → Call Small
call_of d c = record { number = d; container = c }

-- whether the audit with n buffers a receiver, after the calls xs, accepts the call x
abbrev answer_to : ℕ → Trace (Call Small) → Call Small → Bool
answer_to n xs x = ((link_auditor (small_link n)).audit (after (link_auditor (small_link n)) xs) x).accepts

-- M8, capacity 2: granting 2 passes, granting 3 does not
m8_two : answer_to 2 start (call_of 1 (grant 2)) ≡ true
m8_two = refl

m8_three : answer_to 2 start (call_of 1 (grant 3)) ≡ false
m8_three = refl

-- M10, capacity 1: a message that has begun takes its slot until it is finished, and a refused call changes nothing
m10_begun : answer_to 1 (start ▷ call_of 1 (grant 1) ▷ call_of 0 begin) (call_of 1 (grant 1)) ≡ false
m10_begun = refl

m10_finished : answer_to 1 (start ▷ call_of 1 (grant 1) ▷ call_of 0 begin ▷ call_of 1 (grant 1) ▷ call_of 0 broken ▷ call_of 0 finish) (call_of 1 (grant 1)) ≡ true
m10_finished = refl

-- a grant pays the opposite direction
opposite_pays : answer_to 2 (start ▷ call_of 1 (grant 2)) (call_of 0 begin) ≡ true
opposite_pays = refl

own_does_not : answer_to 2 (start ▷ call_of 1 (grant 2)) (call_of 1 begin) ≡ false
own_does_not = refl

-- a number that is no direction is refused
no_direction : answer_to 2 start (call_of 2 (grant 1)) ≡ false
no_direction = refl
