-- The messages that start in a container, as a pass over its granules. Assumes nothing.
use Prim.Native.Nat.{ℕ, ◌%◌, ◌≤◌}
use mathlib.Core.Path.{refl}
use mathlib.Core.List.{List, [], ◌∷◌}
use native.Mathlib.Omega.{arith}
use Rattle.lists.specs.Parts.{IsBytes}
use Rattle.lists.proofs.PickLaws.{pick_both}
use Rattle.container.specs.Layout.{start, bit}
use Rattle.message.specs.Heads.{class_of}
use Rattle.message.specs.Charges.{charges_by}
use Rattle.pools.specs.TalliesMirror.{first_at, second_at, paid_at, start_check, starts_checks, starts_pay}
use Rattle.pools.specs.declared.receiver.Receiver.{Receiver}
use Rattle.pools.proofs.TallyLaws.{all_chargeable, taken_most}
use Rattle.pools.proofs.PassLaws.{Walk, Walks, Walking}

module _ (r : Receiver) (c : List ℕ) (w : ℕ) where
  abbrev pub begun_walk : Walk
  begun_walk = record { here = λ g. start_check r c w g ∷ []; gain = paid_at c w; rest = starts_checks r c w; left = starts_pay c w }

  pub begun_walks : Walks begun_walk
  unfolding starts_checks starts_pay
  begun_walks = record { no_checks = λ g. refl; no_gains = λ g p. refl; next_checks = λ k g. refl; next_gains = λ k g p. refl }

  abbrev pub Begun : List ℕ → ℕ → Type 0
  Begun = Walking begun_walk (starts_checks r c w 12 0) (starts_pay c w 12 0)

-- what a message pays of a pool is little
pub paid_most : (c : List ℕ) (w : ℕ) → IsBytes c → (g p : ℕ) → paid_at c w g p ≤ 255
paid_most c w h g p =
    let q = charges_by (first_at c g % 16) (first_at c g) (second_at c g) in
    let m = taken_most q (all_chargeable (first_at c g % 16) (first_at c g) (second_at c g) (h (start g)) (class_of (first_at c g % 16))) p in
    pick_both (λ (n : ℕ). n ≤ 255) (bit w g) (omega arith) (omega arith)
