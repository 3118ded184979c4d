-- A Resp2 in a history, by computation. Assumes nothing.
use Prim.Native.Nat.{ℕ, ◌≤◌}
use mathlib.Core.Path.{◌≡◌, refl, sym, ◌∙◌}
use mathlib.Core.Bool.{true, false}
use mathlib.Core.List.{[]}
use mathlib.Core.Logic.{⊎_elim}
use native.Mathlib.Omega.{arith}
use lib.Dec.{eqb}
use borrow.Author.Tests.{eqb-true, eqb-false, ne_eqb}
use Rattle.lists.proofs.Tests.{cases}
use Rattle.container.specs.Grants.{grant_of}
use Rattle.placement.specs.Cells.{cells, carry_after, endings, startings}
use Rattle.placement.specs.Checking.{granule_checks, group_checks, container_checks}
use Rattle.reader.specs.Reading.{reader_with, state_checks, next_reader}
use Rattle.pools.specs.Pools.{each_granule, paid_to, granted_to, granted_by, grants_in}
use Rattle.history.specs.Trace.{start, whole}
use Rattle.history.specs.Link.{direction0, direction1}
use Rattle.history.specs.History.{leaves, frees, ungranted, returning, held_at_sender, in_flight, buffered, Enabled}
use Rattle.demands.specs.Delayed.{link}
use Rattle.demands.specs.TwoResponses.{granting, resp2, grant_arrived, resp2_arrived, one_freed, both_freed, TwoResponses}
use Rattle.demands.proofs.Delayed.{responses_given}

-- numbers of pools that are zero but for pool 9
abbrev Only9 : (ℕ → ℕ) → Type 0
Only9 f = (p : ℕ) → (p ≡ 9 → ⊥) → f p ≡ 0

-- they are at most others where that of pool 9 is
most_at_9 : (f g : ℕ → ℕ) → Only9 f → f 9 ≤ g 9 → (p : ℕ) → f p ≤ g p
most_at_9 f g none h p =
    ⊎_elim (λ (t : eqb p 9 ≡ true). rw (eqb-true p 9 t) h)
    (λ (t : eqb p 9 ≡ false). let z = none p (eqb-false p 9 t) in omega arith) (cases (eqb p 9))

given_at_9 : (n : ℕ) → Only9 (λ p. granted_by p (grant_of 0 0 n 0 0))
given_at_9 n p d = responses_given n p ∙ rw (ne_eqb p 9 d)

-- the grant gives to pool 9 alone
grant_gives : Only9 (link.grants direction1 (reader_with 0 []) (granting 2))
unfolding cells startings granted_to grants_in
grant_gives p d = let e : granted_by p (grant_of 0 0 2 0 0) ≡ 0 = given_at_9 2 p d in omega arith

-- the container of the Resp2 gives nothing to another pool, and begins nothing in another
resp2_gives : Only9 (link.grants direction0 (reader_with 0 []) resp2)
unfolding cells startings granted_to grants_in
resp2_gives p d = let e : granted_by p (grant_of 0 0 0 0 0) ≡ 0 = given_at_9 0 p d in omega arith

resp2_begins : Only9 (link.begins direction0 (reader_with 0 []) resp2)
unfolding cells startings paid_to
resp2_begins p d = rw (ne_eqb 9 p (λ (e : 9 ≡ p). d (sym e)))

-- the grant leaves, at the start
grant_leaves : Enabled link start (leaves direction1 (granting 2))
unfolding cells carry_after startings granule_checks group_checks container_checks state_checks each_granule granted_to grants_in paid_to ungranted held_at_sender
grant_leaves =
    let enough : 2 ≤ 2 = omega arith in
    (refl, most_at_9 (link.grants direction1 (reader_with 0 []) (granting 2)) (λ p. ungranted link direction0 p start) grant_gives enough, λ p. omega arith)

-- the Resp2 leaves where both credits are held
resp2_leaves : Enabled link (grant_arrived 2) (leaves direction0 resp2)
unfolding cells carry_after startings granule_checks group_checks container_checks state_checks each_granule granted_to grants_in paid_to ungranted held_at_sender
resp2_leaves =
    let enough : 2 ≤ 2 = omega arith in
    let no_grant_law : 0 ≤ 2 = omega arith in (
      refl,
      most_at_9 (link.grants direction0 (reader_with 0 []) resp2) (λ p. ungranted link direction1 p (grant_arrived 2)) resp2_gives no_grant_law,
      most_at_9 (link.begins direction0 (reader_with 0 []) resp2) (λ p. held_at_sender link direction0 p (grant_arrived 2)) resp2_begins enough,
    )

-- the grant leaves again, where both slots are free
grant_again : Enabled link both_freed (leaves direction1 (granting 2))
unfolding cells carry_after endings startings granule_checks group_checks container_checks state_checks next_reader each_granule granted_to grants_in paid_to ungranted held_at_sender
grant_again =
    let enough : 2 ≤ 2 = omega arith in
    (refl, most_at_9 (link.grants direction1 (reader_with 0 []) (granting 2)) (λ p. ungranted link direction0 p both_freed) grant_gives enough, λ p. omega arith)

pub two_responses : TwoResponses
unfolding cells carry_after endings startings next_reader granted_to grants_in paid_to ungranted returning held_at_sender in_flight buffered
two_responses = record {
  history = ((((((((tt, grant_leaves), whole refl), whole refl), resp2_leaves), whole refl), whole refl), first_freed), second_freed);
  at_start = refl;
  two_returning = refl;
  two_held = refl;
  two_in_flight = refl;
  two_buffered = refl;
  one_back = refl;
  both_back = refl;
  none_left = λ h. let e : 1 ≤ 0 = h in omega arith;
  not_before = λ h. let e : 2 ≤ 1 = h.1 9 in omega arith;
  anew = grant_again;
  one_held = refl;
  not_on_one = λ h. let e : 2 ≤ 1 = h.2 9 in omega arith;
}
  where
    first_freed : Enabled link resp2_arrived (frees direction0 9)
    first_freed = let enough : 1 ≤ 2 = omega arith in enough

    second_freed : Enabled link one_freed (frees direction0 9)
    second_freed = let enough : 1 ≤ 1 = omega arith in enough
