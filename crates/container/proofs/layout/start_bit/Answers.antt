use Prim.Native.Nat.{◌<◌, ◌≤◌, ◌^◌}
use native.Mathlib.Omega.{arith}
use native.Mathlib.Nat.{div-eq_of_lt, pow-le-pow_right}
use Rattle.container.proofs.layout.start_bit.Goals as goal

pub returns-then-g-gt15 : goal.returns-then-g-gt15
returns-then-g-gt15 c = let g = c.args.g in
    let wide : 2 ^ 16 ≤ 2 ^ g = pow-le-pow_right {n = 2} (omega arith) {i = 16} {j = g} (omega arith) in
    let below : c.args.msgstart < 2 ^ g = omega arith in
    rw (div-eq_of_lt below)
