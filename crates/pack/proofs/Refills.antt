-- A space that is refilled until the input ends. Assumes nothing.
use Prim.Native.Nat.{ℕ, ◌-◌, ◌≤◌}
use mathlib.Core.Path.{◌≡◌, refl, sym, ap, ◌∙◌, subst}
use mathlib.Core.List.{List}
use native.Mathlib.Omega.{arith}
use lib.ListN.{length}
use lib.Seq.{take_all}
use Rattle.std.specs.Prelude.{Result, Ok}
use Rattle.std.specs.declared.io.Error.{Error}
use Rattle.lists.specs.Parts.{part}
use Rattle.lists.proofs.PartLaws.{length_part}
use Rattle.input.specs.Refills.{Refilled}
use Rattle.input.specs.declared.Refill.{Refill}
use Rattle.input.specs.declared.Refill.TheVariants.{Got, End, Full}
use Rattle.pack.specs.Inputs.{Refills, none, more, full, ended, Loaded}

-- a space of which the first bytes were read
pub record Loading (s₀ s : List ℕ) (have : ℕ) : Type 0 where
  pub within : have ≤ length s
  pub long : length s ≡ length s₀
  pub refills : Refills s have

pub loading_none : (s : List ℕ) → Loading s s 0
loading_none s = record { within = omega arith; long = refl; refills = none s }

module _ (s₀ s : List ℕ) (have : ℕ) (h : Loading s₀ s have) (s' : List ℕ) (a : Result Refill Error)
    (k : Refilled (part 0 (have - 0) s) s s' a) where
  kept : length (part 0 (have - 0) s) ≡ have
  kept =
      let w = h.within in
      let z : have - 0 ≡ have = omega arith in ap (λ (j : ℕ). length (part 0 j s)) z ∙ length_part 0 have s (omega arith)

  told : (q : Result Refill Error) → a ≡ q → Refilled (part 0 (have - 0) s) s s' q
  told q e = subst (Refilled (part 0 (have - 0) s) s s') e k

  pub loading_more : (n : ℕ) → a ≡ Ok (Got n) → Loading s₀ s' n
  loading_more n e =
      let g = told (Ok (Got n)) e in record { within = g.more.1; long = g.long ∙ h.long; refills = more h.refills s' n g }

  -- a space that is full stays as it was
  pub loading_over : (r : Refill) → ((n : ℕ) → r ≡ Got n → ⊥) → a ≡ Ok r → Loaded s' have
  loading_over (Got n) other e = absurd (other n refl)
  loading_over End other e =
      let g = told (Ok End) e in let m = g.more in record { within = omega (arith, m, kept); whole = ended h.refills g }
  loading_over Full other e =
      let m : length (part 0 (have - 0) s) ≡ length s' = (told (Ok Full) e).more in
      let z : have - 0 ≡ length s = omega (arith, kept, k.long) in
      let same : s' ≡ s =
      sym (take_all (length (part 0 (have - 0) s)) s' (omega arith)) ∙ k.front ∙ take_all (have - 0) s (omega arith) in
      subst (λ (x : List ℕ). Loaded x have) (sym same) (record { within = h.within; whole = full h.refills (omega (arith, z)) })
