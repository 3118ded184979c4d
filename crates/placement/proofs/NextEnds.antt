-- A carried message ends in the next container, whatever that holds: no message lies in three. Assumes nothing.
use Prim.Native.Nat.{ℕ, zero, suc, ◌≤◌}
use mathlib.Core.Path.{◌≡◌, refl}
use mathlib.Core.Bool.{true}
use mathlib.Core.List.{List, [], ◌∷◌}
use native.Mathlib.Omega.{arith}
use lib.ListN.{length, length-append}
use borrow.Author.Tests.{eqb-true}
use Rattle.container.specs.Layout.{Format}
use Rattle.container.specs.Lawful.{Lawful}
use Rattle.message.specs.HeadRules.{Bytes}
use Rattle.message.proofs.HeadLaws.{size_most}
use Rattle.message.proofs.HeadRuleLaws.{bytes_size}
use Rattle.placement.specs.Cells.{carry_ok}
use Rattle.placement.specs.Rules.{full}
use Rattle.placement.specs.Completion.{CarryEnds}
use Rattle.placement.proofs.OccupyLaws.{full_in}
use Rattle.placement.proofs.CompletionLaws.{carry_last}

-- G0 to G4 have 20 bytes
first_full : (fm : Format) → Lawful fm → (g : ℕ) → g ≤ 5 → length (full fm 0 g) ≡ g
unfolding full
first_full fm law zero b = refl
first_full fm law (suc g) b =
    let i = first_full fm law g (omega arith) in
    rw (full_in fm 0 g (omega arith) (eqb-true (fm.size g) 20 (law.first_wide g b)), length-append (full fm 0 g) (g ∷ [])) (omega arith)

-- at most 100 bytes are left of a message of which a granule was carried, and the first five granules hold them
pub carry_ends : (fm : Format) (law : Lawful fm) (m c : List ℕ) → length c ≡ 256 → carry_ok m ≡ true → (n : ℕ) → Bytes m n → 20 ≤ length m → CarryEnds fm m c
carry_ends fm law m c size valid n r some =
    let e = carry_last fm law m c size valid n 5 r (omega arith) (omega (arith, size_most m, bytes_size m r, first_full fm law 5 (omega arith))) in
    let l = e.3 in
    record { ended = e.0; completes = e.1; carried = e.2; early = omega arith }
