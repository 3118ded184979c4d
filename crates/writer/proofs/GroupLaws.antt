-- The rules of a group with cells behind others, and the checks of the groups of a container. Assumes nothing.
use Prim.Native.Nat.{ℕ, zero, suc, ◌+◌, ◌*◌, ◌/◌, ◌<◌}
use mathlib.Core.Path.{◌≡◌, refl, sym, ap, ◌∙◌}
use mathlib.Core.Bool.{Bool, true, false, ◌&&◌, ◌||◌, not}
use mathlib.Core.List.{List, [], ◌∷◌, ◌++◌}
use mathlib.Core.Logic.{⊎_elim, ◌↔◌}
use native.Mathlib.Omega.{arith}
use native.Mathlib.Nat.{add_assoc}
use lib.ListN.{length, take, drop}
use lib.Dec.{leb}
use borrow.Author.Tests.{not-true, leb-true, le-leb}
use Rattle.lists.proofs.Tests.{cases, never_both, and_left, and_right, and_assoc, and_false}
use Rattle.cause.specs.Checks.{Pass}
use Rattle.message.specs.Places.{miscs, responses}
use Rattle.placement.specs.Cells.{Cell}
use Rattle.placement.specs.Checking.{populated, none_populated, no_gap, starting, sum_of, one_misc, four_responses, group_checks}
use Rattle.writer.specs.Plan.{group_ok}

-- ---- cells that are not populated

not_start : (e : Cell) → populated e ≡ false → e.starts ≡ false
not_start e p = second e.goes_on e.starts p
  where
    second : (a b : Bool) → (a || b) ≡ false → b ≡ false
    second true b h = absurd (never_both h refl)
    second false b h = h

-- of cells that are not populated, the first and the others
head_none : (z : Cell) (zs : List Cell) → none_populated (z ∷ zs) ≡ true → populated z ≡ false
head_none z zs h = not-true (populated z) (and_left (not (populated z)) (none_populated zs) h)

rest_none : (z : Cell) (zs : List Cell) → none_populated (z ∷ zs) ≡ true → none_populated zs ≡ true
rest_none z zs h = and_right (not (populated z)) (none_populated zs) h

none_take : (k : ℕ) (zs : List Cell) → none_populated zs ≡ true → none_populated (take k zs) ≡ true
none_take zero zs h = refl
none_take (suc k) [] h = refl
none_take (suc k) (z ∷ zs) h = rw (head_none z zs h, none_take k zs (rest_none z zs h))

none_drop : (k : ℕ) (zs : List Cell) → none_populated zs ≡ true → none_populated (drop k zs) ≡ true
none_drop zero zs h = h
none_drop (suc k) [] h = refl
none_drop (suc k) (z ∷ zs) h = none_drop k zs (rest_none z zs h)

-- ---- cells behind others in a group

pub sum_both : (f : List ℕ → ℕ) (es zs : List Cell) → sum_of f (es ++ zs) ≡ sum_of f es + sum_of f zs
sum_both f [] zs = let x = sum_of f zs in omega arith
sum_both f (e ∷ es) zs = rw (sum_both f es zs) (sym (add_assoc (starting f e) (sum_of f es) (sum_of f zs)))

sum_none : (f : List ℕ → ℕ) (zs : List Cell) → none_populated zs ≡ true → sum_of f zs ≡ 0
sum_none f [] h = refl
sum_none f (z ∷ zs) h = rw (not_start z (head_none z zs h), sum_none f zs (rest_none z zs h))

none_both : (es zs : List Cell) → none_populated zs ≡ true → none_populated (es ++ zs) ≡ none_populated es
none_both [] zs h = h
none_both (e ∷ es) zs h = rw (none_both es zs h)

gap_none : (zs : List Cell) → none_populated zs ≡ true → no_gap zs ≡ true
gap_none [] h = refl
gap_none (z ∷ zs) h = rw (head_none z zs h) (rest_none z zs h)

gap_both : (es zs : List Cell) → none_populated zs ≡ true → no_gap (es ++ zs) ≡ no_gap es
gap_both [] zs h = gap_none zs h
gap_both (e ∷ es) zs h = rw (gap_both es zs h, none_both es zs h)

-- every cell is populated
abbrev pub all_populated : List Cell → Bool
all_populated [] = true
all_populated (e ∷ es) = populated e && all_populated es

and_true : (b : Bool) → (b && true) ≡ b
and_true true = refl
and_true false = refl

-- one cell more
pub all_more : (es : List Cell) (e : Cell) → all_populated (es ++ (e ∷ [])) ≡ (all_populated es && populated e)
all_more [] e = and_true (populated e)
all_more (d ∷ es) e = rw (all_more es e) (sym (and_assoc (populated d) (all_populated es) (populated e)))

pub sum_more : (f : List ℕ → ℕ) (es : List Cell) (e : Cell) → sum_of f (es ++ (e ∷ [])) ≡ sum_of f es + starting f e
sum_more f es e = omega (arith, sum_both f es (e ∷ []))

none_more : (es : List Cell) (e : Cell) → populated e ≡ true → none_populated (es ++ (e ∷ [])) ≡ false
none_more [] e h = rw h
none_more (d ∷ es) e h = rw (none_more es e h) (and_false (not (populated d)))

-- behind a cell that is populated there is no gap exactly where all others are
pub gap_more : (es : List Cell) (e : Cell) → populated e ≡ true → no_gap (es ++ (e ∷ [])) ≡ all_populated es
gap_more [] e h = rw h
gap_more (d ∷ es) e h =
    ⊎_elim (λ (t : populated d ≡ true). rw (t, gap_more es e h)) (λ (t : populated d ≡ false). rw (t, none_more es e h)) (cases (populated d))

-- unpopulated cells at the end of a group change none of its tests
pub ok_both : (es zs : List Cell) → none_populated zs ≡ true → group_ok (es ++ zs) ≡ group_ok es
ok_both es zs h =
    rw (gap_both es zs h, same miscs, same responses)
  where
    same : (f : List ℕ → ℕ) → sum_of f (es ++ zs) ≡ sum_of f es
    same f = sum_both f es zs ∙ rw (sum_none f zs h) (let x = sum_of f es in omega arith)

-- a group that keeps its rules keeps them without its last cells
none_front : (es zs : List Cell) → none_populated (es ++ zs) ≡ true → none_populated es ≡ true
none_front [] zs h = refl
none_front (e ∷ es) zs h = rw (head_none e (es ++ zs) h, none_front es zs (rest_none e (es ++ zs) h))

gap_front : (es zs : List Cell) → no_gap (es ++ zs) ≡ true → no_gap es ≡ true
gap_front [] zs h = refl
gap_front (e ∷ es) zs h =
    ⊎_elim (λ (p : populated e ≡ true). rw p (gap_front es zs (rw p at h)))
    (λ (p : populated e ≡ false). rw p (none_front es zs (rw p at h))) (cases (populated e))

few_front : (f : List ℕ → ℕ) (k : ℕ) (es zs : List Cell) → leb (sum_of f (es ++ zs)) k ≡ true → leb (sum_of f es) k ≡ true
few_front f k es zs h = le-leb (sum_of f es) k (let a = leb-true (sum_of f (es ++ zs)) k h in let b = sum_both f es zs in omega arith)

ok_front : (es zs : List Cell) → group_ok (es ++ zs) ≡ true → group_ok es ≡ true
ok_front es zs h =
    let gap = and_left (no_gap (es ++ zs)) (one_misc (es ++ zs) && four_responses (es ++ zs)) h in
    let few = and_right (no_gap (es ++ zs)) (one_misc (es ++ zs) && four_responses (es ++ zs)) h in
    rw (
      gap_front es zs gap,
      few_front miscs 1 es zs (and_left (one_misc (es ++ zs)) (four_responses (es ++ zs)) few),
      few_front responses 4 es zs (and_right (one_misc (es ++ zs)) (four_responses (es ++ zs)) few),
    )

-- ---- the groups of a container

-- the checks of a group and of those behind it
pub group_checks_law : (k q : ℕ) (es : List Cell) → ((group_ok (take 3 es) ≡ true) × Pass (group_checks k (q + 1) (drop 3 es))) ↔ Pass (group_checks (suc k) q es)
unfolding group_checks
group_checks_law k q es = (
  λ h. let few = and_right (no_gap (take 3 es)) (one_misc (take 3 es) && four_responses (take 3 es)) h.0 in (
    and_left (no_gap (take 3 es)) (one_misc (take 3 es) && four_responses (take 3 es)) h.0,
    (and_left (one_misc (take 3 es)) (four_responses (take 3 es)) few, (and_right (one_misc (take 3 es)) (four_responses (take 3 es)) few, h.1)),
  ),
  λ h. (rw (h.0, h.1.0, h.1.1.0), h.1.1.1),
)

-- groups of unpopulated cells pass
none_pass : (k q : ℕ) (zs : List Cell) → none_populated zs ≡ true → Pass (group_checks k q zs)
unfolding group_checks
none_pass zero q zs h = tt
none_pass (suc k) q zs h = (group_checks_law k q zs).0 (ok_both [] (take 3 zs) (none_take 3 zs h), none_pass k (q + 1) (drop 3 zs) (none_drop 3 zs h))

-- the groups of cells es of one group and unpopulated cells behind them, i of which fill the group, pass exactly if es keep the rules
last_group : (k q i : ℕ) (es zs : List Cell) → none_populated zs ≡ true → take 3 (es ++ zs) ≡ es ++ take i zs → drop 3 (es ++ zs) ≡ drop i zs
    → (group_ok es ≡ true) ↔ Pass (group_checks (suc k) q (es ++ zs))
last_group k q i es zs h a b = (
  λ ok. (group_checks_law k q (es ++ zs)).0 (ap group_ok a ∙ same ∙ ok, rw b (none_pass k (q + 1) (drop i zs) (none_drop i zs h))),
  λ all. sym same ∙ ap group_ok (sym a) ∙ ((group_checks_law k q (es ++ zs)).1 all).0,
)
  where
    same : group_ok (es ++ take i zs) ≡ group_ok es
    same = ok_both es (take i zs) (none_take i zs h)

-- groups that pass still pass where the cells behind xs are taken away
pub front_pass : (k q : ℕ) (xs ys zs : List Cell) → none_populated zs ≡ true → Pass (group_checks k q (xs ++ ys)) → Pass (group_checks k q (xs ++ zs))
unfolding group_checks
front_pass zero q xs ys zs h all = tt
front_pass (suc k) q [] ys zs h all = none_pass (suc k) q zs h
front_pass (suc k) q (a ∷ []) ys zs h all =
    (last_group k q 2 (a ∷ []) zs h refl refl).0 (ok_front (a ∷ []) (take 2 ys) ((group_checks_law k q (a ∷ ys)).1 all).0)
front_pass (suc k) q (a ∷ b ∷ []) ys zs h all =
    (last_group k q 1 (a ∷ b ∷ []) zs h refl refl).0 (ok_front (a ∷ b ∷ []) (take 1 ys) ((group_checks_law k q (a ∷ b ∷ ys)).1 all).0)
front_pass (suc k) q (a ∷ b ∷ c ∷ xs) ys zs h all =
    (all.0, (all.1.0, (all.1.1.0, front_pass k (q + 1) xs ys zs h all.1.1.1)))

-- with one more cell e behind xs, where the groups of xs pass, all groups pass exactly if the group of e does
pub more_exactly : (k q : ℕ) (xs ys zs : List Cell) (e : Cell) → length xs < 3 * k → none_populated zs ≡ true → Pass (group_checks k q (xs ++ ys))
    → (group_ok (drop (3 * (length xs / 3)) xs ++ (e ∷ [])) ≡ true) ↔ Pass (group_checks k q (xs ++ (e ∷ zs)))
unfolding group_checks
more_exactly zero q xs ys zs e b h all = absurd (omega arith)
more_exactly (suc k) q [] ys zs e b h all = last_group k q 2 (e ∷ []) zs h refl refl
more_exactly (suc k) q (x ∷ []) ys zs e b h all = last_group k q 1 (x ∷ e ∷ []) zs h refl refl
more_exactly (suc k) q (x ∷ y ∷ []) ys zs e b h all = last_group k q 0 (x ∷ y ∷ e ∷ []) zs h refl refl
more_exactly (suc k) q (x ∷ y ∷ z ∷ xs) ys zs e b h all =
    let next = more_exactly k (q + 1) xs ys zs e (omega arith) h all.1.1.1 in
    let three : 3 * (suc (suc (suc (length xs))) / 3) ≡ suc (suc (suc (3 * (length xs / 3)))) = omega arith in
    rw three (λ ok. (all.0, (all.1.0, (all.1.1.0, next.0 ok))), λ r. next.1 r.1.1.1)
