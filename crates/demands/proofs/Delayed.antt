-- Containers wait at the tap. Assumes nothing.
use Prim.Native.Nat.{ℕ, ◌+◌}
use mathlib.Core.Path.{◌≡◌, refl, ap, ◌∙◌}
use mathlib.Core.Bool.{true}
use mathlib.Core.List.{[]}
use native.Mathlib.Omega.{arith}
use lib.Dec.{eqb}
use Rattle.lists.specs.Pick.{pick}
use Rattle.lists.proofs.PickLaws.{pick_both}
use Rattle.container.specs.Grants.{grant_of}
use Rattle.placement.specs.Cells.{cells, carry_after, startings}
use Rattle.placement.specs.Checking.{granule_checks, group_checks, container_checks}
use Rattle.reader.specs.Reading.{reader_with, state_checks, next_reader}
use Rattle.reader.specs.declared.reader.Reader.{Reader}
use Rattle.pools.specs.Pools.{each_granule, paid_to, granted_to, granted_by, grants_in}
use Rattle.history.specs.Trace.{whole, shorter}
use Rattle.history.specs.Link.{Direction, direction0, direction1}
use Rattle.history.specs.History.{state_after, Measure, total}
use Rattle.history.specs.Delays.{Readable, Plain}
use Rattle.history.proofs.DelayTheorem.{delays}
use Rattle.demands.specs.Marked.{no_grant}
use Rattle.demands.specs.Delayed.{link, idle, one, two, three, Delayed}

-- a grant of n RSP credits alone gives them to pool 9, and nothing to any other pool
pub responses_given : (n p : ℕ) → granted_by p (grant_of 0 0 n 0 0) ≡ pick (eqb p 9) n 0
responses_given n p =
    ap (λ (k : ℕ). pick (eqb p 9) n k)
    (pick_both (λ (k : ℕ). k ≡ 0) (eqb p 10) refl (pick_both (λ (k : ℕ). k ≡ 0) (eqb p 1) refl (pick_both (λ (k : ℕ). k ≡ 0) (eqb p 12) refl refl)))

-- a grant of nothing gives nothing to any pool
nothing_given : (p : ℕ) → granted_by p no_grant ≡ 0
nothing_given p = responses_given 0 p ∙ pick_both (λ (k : ℕ). k ≡ 0) (eqb p 9) refl refl

-- what an idle container leaves, gives and begins
idle_reads : (d : Direction) → link.reads d (reader_with 0 []) idle ≡ true
unfolding cells carry_after startings granule_checks group_checks container_checks state_checks each_granule grants_in
idle_reads direction0 = refl
idle_reads direction1 = refl

idle_next : (d : Direction) → link.next d (reader_with 0 []) idle ≡ reader_with 0 []
unfolding cells carry_after next_reader
idle_next d = refl

idle_grants : (d : Direction) (p : ℕ) → link.grants d (reader_with 0 []) idle p ≡ 0
unfolding cells startings granted_to grants_in
idle_grants d p = let e : granted_by p no_grant ≡ 0 = nothing_given p in ap (λ (n : ℕ). n + 0) e

idle_begins : (d : Direction) (p : ℕ) → link.begins d (reader_with 0 []) idle p ≡ 0
unfolding cells startings paid_to
idle_begins d p = refl

-- the state behind idle containers is the first one
behind_one : (d : Direction) → state_after link d one ≡ reader_with 0 []
behind_one d = idle_next d

behind_two : (d : Direction) → state_after link d two ≡ reader_with 0 []
behind_two d = ap (λ (s : Reader). link.next d s idle) (behind_one d) ∙ idle_next d

readable : (d : Direction) → Readable link d three
readable d =
    let read : (s : Reader) → s ≡ reader_with 0 [] → link.reads d s idle ≡ true = λ s e. ap (λ (t : Reader). link.reads d t idle) e ∙ idle_reads d in
    (((tt, idle_reads d), read (state_after link d one) (behind_one d)), read (state_after link d two) (behind_two d))

-- three containers come to nothing where each does
none_of : (f : Measure link) (d : Direction) (p : ℕ) → f d (reader_with 0 []) idle p ≡ 0 → total link f d three p ≡ 0
none_of f d p e =
    let a : f d (state_after link d one) idle p ≡ 0 = ap (λ (s : Reader). f d s idle p) (behind_one d) ∙ e in
    let b : f d (state_after link d two) idle p ≡ 0 = ap (λ (s : Reader). f d s idle p) (behind_two d) ∙ e in
    omega (arith, e, a, b)

plain : (d : Direction) → Plain link d three
plain d = (readable d, λ p. none_of link.grants d p (idle_grants d p), λ p. none_of link.begins d p (idle_begins d p))

pub delayed : Delayed
delayed = record {
  under_way_law = (delays link).any_delay (λ d. three) (λ d. two) (λ d. one) (λ d. (shorter (whole refl), shorter (whole refl), plain d));
}
