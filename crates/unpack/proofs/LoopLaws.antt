-- The loop over the turns. Assumes nothing.
use Prim.Native.Nat.{ℕ, ◌≤◌, ◌<◌}
use mathlib.Core.Path.{◌≡◌, refl, sym, ap, ◌∙◌, subst}
use mathlib.Core.Bool.{Bool, true, false}
use mathlib.Core.List.{List, []}
use native.Mathlib.Omega.{arith}
use lib.ListN.{length}
use Rattle.unpacker.specs.Stepping.{min_room, fresh_unpacker}
use Rattle.unpacker.specs.declared.unpack.Unpacker.{Unpacker}
use Rattle.std.specs.Prelude.{None, Some, Result, Ok, Err, MatchResult, is_ok}
use Rattle.std.specs.declared.io.Error.{Error}
use Rattle.unpack.specs.declared.Failure.{Failure}
use Rattle.unpack.specs.Turns.{held, Turned, Taken, none, Ended}
use Rattle.unpack.specs.declared.Window.{Window}
use Rattle.unpack.specs.declared.Turn.{Turn}
use Rattle.unpack.proofs.TurnLaws.{distance, Nearer, nearer}
use Rattle.unpack.proofs.TurnTheorem.{SoFar, turn_on, turn_over}

-- a window over the buffer behind a chain of turns
pub record Looping (room₀ buf room : List ℕ) (s : Unpacker) (w : Window) : Type 0 where
  pub size : length buf ≡ 65536
  pub room_same : length room ≡ length room₀
  pub large : min_room ≤ length room
  pub inside : w.at ≤ w.have
  pub within : w.have ≤ length buf
  pub turns : SoFar s (held w buf) w.ended

pub looping_first : (buf room : List ℕ) (s : Unpacker) (w : Window) → length buf ≡ 65536 → min_room ≤ length room → s ≡ fresh_unpacker
    → w ≡ record { at = 0; have = 0; ended = false } → Looping room buf room s w
looping_first buf room s w size large es ew =
    subst (λ (x : Window). Looping room buf room s x) (sym ew)
    (subst (λ (x : Unpacker). Looping room buf room x (record { at = 0; have = 0; ended = false })) (sym es)
    (record {
      size = size;
      room_same = refl;
      large = large;
      inside = omega arith;
      within = omega arith;
      turns = ([], [], none);
    }))

-- a turn whose error, had there been one, was named
pub turn_named : (s : Unpacker) (b : List ℕ) (ended : Bool) (buf : List ℕ) (a : Result Turn Error) (m : Result Turn Failure) (P : Error → Type 0)
    (r : Turn) → Taken s b ended buf a → MatchResult a (λ x. m ≡ Ok x) P → is_ok m ≡ is_ok a → m ≡ Ok r → Turned s b ended buf r
turn_named s b ended buf (Ok t) m P r h e v k = let same : t ≡ r = cc in subst (Turned s b ended buf) same h
turn_named s b ended buf (Err why) m P r h e v k = let good : is_ok m ≡ true = ap is_ok k in cc

module _ (room₀ buf room : List ℕ) (s : Unpacker) (w : Window) (h : Looping room₀ buf room s w) (buf' room' : List ℕ) (r : Turn)
    (t : Turned s (held w buf) w.ended buf' r) where
  module _ (eb : length buf' ≡ length buf) (v : Window) (on : r.window ≡ Some v) where
    near : Nearer s w buf' r.unpacker v
    near = nearer s w buf buf' r h.inside h.within (eb ∙ h.size) t v on

    pub looping_less : distance r.unpacker v < distance s w
    looping_less = near.less

    pub looping_more : length room' ≡ length room → Looping room₀ buf' room' r.unpacker v
    looping_more er =
        let k = near in
        record {
          size = eb ∙ h.size;
          room_same = er ∙ h.room_same;
          large = omega (arith, er, h.large);
          inside = k.inside;
          within = k.within;
          turns = turn_on s (held w buf) w.ended buf' r t h.turns v on;
        }

  pub looping_over : r.window ≡ None → Ended
  looping_over over = turn_over s (held w buf) w.ended buf' r t h.turns over
