-- The head of a message, case by case: its bytes and the tests on them are given as numbers and flags with their equations. Assumes nothing.
use Prim.Native.Nat.{ℕ, ◌/◌, ◌%◌}
use mathlib.Core.Path.{◌≡◌, ◌∙◌}
use mathlib.Core.Bool.{Bool, true, false, ◌&&◌}
use mathlib.Core.List.{List}
use lib.ListN.{get_or}
use lib.Dec.{ltb}
use Rattle.lists.proofs.Tests.{and_assoc}
use Rattle.message.specs.Heads.{flag_bound, flags_ok, push_by, push_ok, activation_by, activation_ok, grant_by, grant_ok, well_headed}

-- the flag `kept` is the test of the rules that hold of bytes 0 to 2 alone
module _ (m : List ℕ) {first second third : ℕ} {kept : Bool} (ef : first ≡ get_or m 0 0) (es : second ≡ get_or m 1 0) (et : third ≡ get_or m 2 0) (ek : kept ≡ (ltb (first / 16) (flag_bound (first % 16)) && (push_by (first % 16) second && activation_by (first % 16) second third))) where
  whole : (kept && grant_ok m) ≡ well_headed m
  whole = rw (ek, ef, es, et, and_assoc (flags_ok m) (push_ok m && activation_ok m) (grant_ok m), and_assoc (push_ok m) (activation_ok m) (grant_ok m))

  pub bytes_break : kept ≡ false → false ≡ well_headed m
  bytes_break k = rw k at whole

  pub grant_decides : kept ≡ true → {grant : Bool} → grant ≡ grant_by (first % 16) second m → grant ≡ well_headed m
  grant_decides k eg = let e : grant_by (first % 16) second m ≡ (kept && grant_ok m) = rw (k, ef, es) in eg ∙ e ∙ whole
