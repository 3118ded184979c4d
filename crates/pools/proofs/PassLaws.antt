-- A pass over twelve granules, each judged and then counted by pool. Assumes nothing.
use Prim.Native.Nat.{ℕ, suc, ◌+◌, ◌-◌, ◌*◌, ◌≤◌, ◌<◌}
use mathlib.Core.Path.{◌≡◌, refl, sym, ap, ◌∙◌}
use mathlib.Core.List.{List, [], ◌∷◌, ◌++◌}
use native.Mathlib.Omega.{arith}
use lib.ListN.{length, get_or}
use borrow.Author.Tests.{eq-eqb, lt-ltb}
use Rattle.std.specs.Prelude.{Ok, Err}
use Rattle.cause.specs.Causes.{header_place}
use Rattle.cause.specs.Checks.{Check, first_fault, or_else, Verdict, Accepted}
use Rattle.cause.specs.declared.Fault.{Fault}
use Rattle.container.specs.declared.grant.Grant.{Grant}
use Rattle.cause.proofs.CheckLaws.{first_append}
use Rattle.cause.proofs.GivenLaws.{fault_given, fine_given}
use Rattle.pools.specs.Rows.{raised, row}
use Rattle.pools.specs.TalliesMirror.{starts_checks, starts_pay, grant_check, crdt_checks}
use Rattle.pools.specs.Tallies.{tally_of, begun_tally, grants_give, granted_tally}
use Rattle.pools.specs.declared.receiver.Receiver.{Receiver}
use Rattle.pools.proofs.RowLaws.{row_same, row_equal}
use Rattle.pools.proofs.TallyLaws.{raised_at, Counts, counts_raised}

-- checks behind others: the first list's fault is the fault of both, and the second list's counts where the first is sound
module _ (a b : List Check) {v : Verdict} (u : v ≡ first_fault a) where
  pub stops_before : {e : Fault} → v ≡ Err e → first_fault (a ++ b) ≡ Err e
  stops_before e = first_append a b ∙ ap (λ (x : Verdict). or_else x (first_fault b)) (sym u ∙ e)

  pub goes_behind : v ≡ Accepted → first_fault (a ++ b) ≡ first_fault b
  goes_behind s = first_append a b ∙ ap (λ (x : Verdict). or_else x (first_fault b)) (sym u ∙ s)

module _ (a b : List Check) where
  pub tallied_behind : Accepted ≡ first_fault a → (f g : ℕ → ℕ) → ((p : ℕ) → p < 14 → f p ≡ g p) → tally_of b f ≡ tally_of (a ++ b) g
  tallied_behind u f g h = rw (goes_behind a b u refl, row_equal f g h)

-- the checks of each granule and what it gives to each pool, and both of k granules from g on
pub record Walk : Type 0 where
  pub here : ℕ → List Check
  pub gain : ℕ → ℕ → ℕ
  pub rest : ℕ → ℕ → List Check
  pub left : ℕ → ℕ → ℕ → ℕ

pub record Walks (w : Walk) : Type 0 where
  pub no_checks : (g : ℕ) → w.rest 0 g ≡ []
  pub no_gains : (g p : ℕ) → w.left 0 g p ≡ 0
  pub next_checks : (k g : ℕ) → w.rest (suc k) g ≡ w.here g ++ w.rest k (g + 1)
  pub next_gains : (k g p : ℕ) → w.left (suc k) g p ≡ w.gain g p + w.left k (g + 1) p

-- the loop's invariant
pub record Walking (w : Walk) (checks : List Check) (total : ℕ → ℕ) (counts : List ℕ) (g : ℕ) : Type 0 where
  pub within : g ≤ 12
  pub few : Counts (255 * (g + 1)) counts
  pub same : first_fault checks ≡ first_fault (w.rest (12 - g) g)
  pub sums : (p : ℕ) → p < 14 → get_or counts p 0 + w.left (12 - g) g p ≡ total p

module _ {w : Walk} (x : Walks w) {checks : List Check} {total : ℕ → ℕ} {counts : List ℕ} {g : ℕ} (i : Walking w checks total counts g) where
  pub walk_ends : 12 ≤ g → Ok counts ≡ tally_of checks total
  walk_ends h =
      let e : g ≡ 12 = let k = i.within in omega arith in
      let j : Walking w checks total counts 12 = rw e at i in
      let c : counts ≡ row total 14 0 = row_same total counts j.few.long (λ p b. omega (arith, j.sums p b, x.no_gains 12 p)) in
      ap Ok c ∙ fine_given (j.same ∙ ap first_fault (x.no_checks 12)) (row total 14 0)

  -- one granule
  module _ (b : g < 12) where
    one_less : 12 - g ≡ suc (12 - (g + 1))
    one_less = omega arith

    next : first_fault checks ≡ first_fault (w.here g ++ w.rest (12 - (g + 1)) (g + 1))
    next = i.same ∙ ap (λ (k : ℕ). first_fault (w.rest k g)) one_less ∙ ap first_fault (x.next_checks (12 - (g + 1)) g)

    pub walk_stops : {e : Fault} → Err e ≡ first_fault (w.here g) → Err e ≡ tally_of checks total
    walk_stops u = fault_given (next ∙ stops_before (w.here g) (w.rest (12 - (g + 1)) (g + 1)) u refl) (row total 14 0)

    pub walk_on : Accepted ≡ first_fault (w.here g) → {d : List ℕ} → d ≡ raised (w.gain g) counts → ((p : ℕ) → w.gain g p ≤ 255) → Walking w checks total d (g + 1)
    walk_on u {d} r m =
        let h : Counts (255 * (g + 1) + 255) d = counts_raised (w.gain g) i.few m r in
        record {
          within = omega arith;
          few = let e : 255 * (g + 1) + 255 ≡ 255 * ((g + 1) + 1) = omega arith in rw e at h;
          same = next ∙ goes_behind (w.here g) (w.rest (12 - (g + 1)) (g + 1)) u refl;
          sums = λ p k. omega (arith, i.sums p k, ap (λ (n : ℕ). w.left n g p) one_less, x.next_gains (12 - (g + 1)) g p, raised_at (w.gain g) counts p k, ap (λ (y : List ℕ). get_or y p 0) r);
        }

-- ---- the tally of the messages that start, and that of the grants, by the pass over the granules
module _ (r : Receiver) (c : List ℕ) (w : ℕ) where
  pub begun_is : length c ≡ 256 → begun_tally r c w ≡ tally_of (starts_checks r c w 12 0) (starts_pay c w 12 0)
  begun_is long = rw (eq-eqb (length c) 256 long)

  module _ (n : Grant) where
    pub granted_is : length c ≡ 256 → n.rp < 8 → granted_tally r n c w ≡ tally_of (grant_check r n header_place ∷ crdt_checks r c w 12 0) (grants_give n c w)
    granted_is long low = rw (eq-eqb (length c) 256 long, lt-ltb n.rp 8 low)
