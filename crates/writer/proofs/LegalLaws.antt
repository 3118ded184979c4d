-- A granule is legal exactly where the container so far, with the message there, keeps every placement rule. Assumes nothing.
use Prim.Native.Nat.{ℕ, zero, suc, ◌+◌, ◌-◌, ◌<◌}
use mathlib.Core.Path.{◌≡◌, refl, ap, ◌∙◌}
use mathlib.Core.Bool.{Bool, true, false, ◌&&◌, ◌||◌, not}
use mathlib.Core.List.{List, [], ◌∷◌, ◌++◌}
use mathlib.Core.Logic.{◌↔◌}
use native.Mathlib.Omega.{arith}
use lib.ListN.{length, take, drop, take-append-drop}
use lib.Seq.{length-take-le}
use borrow.Author.Tests.{not-true}
use Rattle.lists.proofs.Tests.{never_both, and_left, and_right}
use Rattle.cause.specs.Checks.{Pass}
use Rattle.container.specs.Layout.{Format, format_of, wide}
use Rattle.container.specs.Grants.{no_counts}
use Rattle.container.specs.declared.grant.Grant.{Grant}
use Rattle.container.proofs.Formats.{lawful_of}
use Rattle.message.specs.Heads.{is_misc, activation}
use Rattle.message.specs.Places.{placed}
use Rattle.message.proofs.PlaceLaws.{placed_short}
use Rattle.placement.specs.Cells.{Cell}
use Rattle.placement.specs.Checking.{none_populated, group_checks}
use Rattle.writer.specs.Plan.{start_cell, group_ok, never_early, plan, cursor_of}
use Rattle.writer.specs.OneWay.{group_at, may_start, may_lie, empties_from, so_far, with_start, KeepsWith, KeepsBeneath}
use Rattle.writer.proofs.PlanLaws.{plan_length}
use Rattle.writer.proofs.GroupLaws.{front_pass, more_exactly}
use Rattle.writer.proofs.Groups.{packed_none, groups_pass}

-- no cell of those that stay empty is populated
empties_none : (fm : Format) (k g : ℕ) → none_populated (empties_from fm k g) ≡ true
empties_none fm zero g = refl
empties_none fm (suc k) g = empties_none fm k (g + 1)

-- a test that fails, or another that holds
not_or_exactly : (a b : Bool) → ((not a || b) ≡ true) ↔ (a ≡ true → b ≡ true)
not_or_exactly true b = (λ h _. h, λ h. h refl)
not_or_exactly false b = (λ _ e. absurd (never_both refl e), λ _. refl)

-- where the container so far keeps the group rules, a granule is legal exactly if it keeps every placement rule with the message there
pub legal_exactly : (fm : Format) (n : Grant) (es : List Cell) (j : ℕ) (m : List ℕ) → length es ≡ 12 → j < 12 → Pass (group_checks 4 0 (so_far fm es j))
    → (may_start fm n es j m ≡ true) ↔ KeepsWith fm n es j m
legal_exactly fm n es j m twelve b all = (
  λ t. let first = and_left (here && calm) (group_ok group) t in
      record {
        place = and_left here calm first;
        groups = exactly.0 (and_right (here && calm) (group_ok group) t);
        quiet = (not_or_exactly (is_misc m activation) (no_counts n)).0 (and_right here calm first);
      },
  λ h. rw (h.place, (not_or_exactly (is_misc m activation) (no_counts n)).1 h.quiet) (exactly.1 h.groups),
)
  where
    here : Bool
    here = placed fm j m

    calm : Bool
    calm = not (is_misc m activation) || no_counts n

    group : List Cell
    group = group_at es j ++ (start_cell (fm.size j) m ∷ [])

    exactly : (group_ok group ≡ true) ↔ Pass (group_checks 4 0 (with_start fm es j m))
    exactly =
        let count : length (take j es) ≡ j = length-take-le j es (rw twelve (omega arith)) in
        rw count at (more_exactly 4 0 (take j es) (empties_from fm (12 - j) j) (empties_from fm (11 - j) (j + 1)) (start_cell (fm.size j) m)
        (rw count (omega arith)) (empties_none fm (11 - j) (j + 1)) all)

-- a container that keeps the group rules keeps them so far at every granule
pub so_far_passes : (fm : Format) (es : List Cell) (j : ℕ) → Pass (group_checks 4 0 es) → Pass (group_checks 4 0 (so_far fm es j))
so_far_passes fm es j all =
    front_pass 4 0 (take j es) (drop j es) (empties_from fm (12 - j) j) (empties_none fm (12 - j) j) (rw (take-append-drop j es) all)

-- the writer's plan keeps the group rules so far at every granule, so each granule is legal exactly if it keeps every placement rule
module _ (f : ℕ) (n : Grant) (l t : List ℕ) (j : ℕ) where
  abbrev fm : Format
  fm = format_of f

  abbrev laid : List Cell
  laid = plan fm n l 12 0 (cursor_of t)

  pub plan_so_far : Pass (group_checks 4 0 (so_far fm laid j))
  plan_so_far = so_far_passes fm laid j (groups_pass fm n l (lawful_of f).narrow_last 4 0 0 (cursor_of t) (omega arith) refl refl (packed_none t))

  pub plan_legal : (m : List ℕ) → j < 12 → (may_start fm n laid j m ≡ true) ↔ KeepsWith fm n laid j m
  plan_legal m b = legal_exactly fm n laid j m (plan_length fm n l 12 0 (cursor_of t)) b plan_so_far

  -- and what lies beneath is a Resp or a MiscU, no Activation, that keeps them
  pub plan_beneath : (m : List ℕ) → j < 12 → wide fm j ≡ false → (may_lie fm n laid j m ≡ true) ↔ KeepsBeneath fm n laid j m
  plan_beneath m b narrow = (
    λ t. let keeps = (plan_legal m b).0 (and_right (not (never_early m)) (may_start fm n laid j m) t) in
        record { short = placed_short fm j m narrow keeps.place; not_early = not-true (is_misc m activation) (and_left (not (never_early m)) (may_start fm n laid j m) t); keeps = keeps },
    λ h. ap (λ (x : Bool). not x && may_start fm n laid j m) h.not_early ∙ (plan_legal m b).1 h.keeps,
  )
