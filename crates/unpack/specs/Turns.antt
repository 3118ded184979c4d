-- One turn of the program: a call on the bytes at hand, and a refill of the buffer where it asks for more.
use Rattle.std.specs.declared.io.Error.{Error}
use Rattle.std.specs.Prelude.{ℕ, ◌-◌, ◌≤◌, ◌<◌, ◌≡◌, Bool, true, false, List, [], ◌++◌, length, Option, None, IsSomeAnd, Result, Ok, Err}
use Rattle.lists.specs.Parts.{part, put}
use Rattle.unpacker.specs.Stepping.{turn, fresh_unpacker}
use Rattle.unpacker.specs.Cutting.{left_by}
use Rattle.unpacker.specs.declared.unpack.Unpacker.{Unpacker}
use Rattle.unpacker.specs.declared.unpack.Outcome.{Outcome}
use Rattle.unpacker.specs.declared.unpack.Outcome.TheVariants as outcome
use Rattle.unpack.specs.declared.Window.{Window}
use Rattle.unpack.specs.declared.Turn.{Turn}
use Rattle.cause.specs.Checks.{Verdict}

-- the bytes of a buffer that a window holds
abbrev pub held : Window → List ℕ → List ℕ
held w buf = part w.at (w.have - w.at) buf

-- a window inside its buffer that holds the bytes b
pub record AtHand (w : Window) (buf b : List ℕ) : Type 0 where
  pub inside : w.at ≤ w.have
  pub within : w.have ≤ length buf
  pub bytes : held w buf ≡ b

-- a refill behind the bytes b: more of them, or the end of the input
pub data Filled (b buf : List ℕ) (w : Window) : Type 0 where
  got : (p : List ℕ) → 0 < length p → AtHand w buf (b ++ p) → w.ended ≡ false → Filled b buf w
  end : AtHand w buf b → w.ended ≡ true → Filled b buf w

-- the window behind a call that has left the bytes b, by its outcome
abbrev pub Follows : List ℕ → Bool → List ℕ → Option Window → Outcome → Type 0
Follows b ended buf w (outcome.Over v) = w ≡ None
Follows b ended buf w outcome.Next = IsSomeAnd w (λ x. AtHand x buf b × (x.ended ≡ ended))
Follows b ended buf w outcome.More = IsSomeAnd w (Filled b buf)

-- the same, or a read that has failed where the call has asked for more
abbrev pub Followed : List ℕ → Bool → List ℕ → Outcome → Result (Option Window) Error → Type 0
Followed b ended buf o (Ok w) = Follows b ended buf w o
Followed b ended buf o (Err e) = o ≡ outcome.More

-- a turn from a state with the bytes b at hand
pub record Turned (s : Unpacker) (b : List ℕ) (ended : Bool) (buf : List ℕ) (r : Turn) : Type 0 where
  pub next : r.unpacker ≡ (turn s b ended).next
  pub written : r.written ≡ length (turn s b ended).text
  pub window : Follows (left_by (turn s b ended) b) ended buf r.window (turn s b ended).outcome

-- a turn, or a read that has failed where the call has asked for more and has given no text
abbrev pub Taken : Unpacker → List ℕ → Bool → List ℕ → Result Turn Error → Type 0
Taken s b ended buf (Ok r) = Turned s b ended buf r
Taken s b ended buf (Err e) = ((turn s b ended).outcome ≡ outcome.More) × ((turn s b ended).text ≡ [])

-- the room behind a turn: the text of the call at its front
abbrev pub printed : Unpacker → List ℕ → Bool → List ℕ → List ℕ
printed s b ended room = put 0 (turn s b ended).text room

-- turns from the start on, none of which gave the verdict: what they have read, the texts of their calls one behind the other, the state,
-- the bytes at hand, and whether the input has ended
pub data Turns : List ℕ → List ℕ → Unpacker → List ℕ → Bool → Type 0 where
  none : Turns [] [] fresh_unpacker [] false
  next : {l text b : List ℕ} {s : Unpacker} {ended : Bool} → Turns l text s b ended → (turn s b ended).outcome ≡ outcome.Next
      → Turns l (text ++ (turn s b ended).text) (turn s b ended).next (left_by (turn s b ended) b) ended
  more : {l text b : List ℕ} {s : Unpacker} → Turns l text s b false → (turn s b false).outcome ≡ outcome.More → (p : List ℕ)
      → Turns (l ++ p) (text ++ (turn s b false).text) (turn s b false).next (left_by (turn s b false) b ++ p) false
  last : {l text b : List ℕ} {s : Unpacker} → Turns l text s b false → (turn s b false).outcome ≡ outcome.More
      → Turns l (text ++ (turn s b false).text) (turn s b false).next (left_by (turn s b false) b) true

-- a call behind such turns gave the verdict: what was read, and the whole text
pub record Told (l text : List ℕ) (ended : Bool) : Type 0 where
  pub before : List ℕ
  pub s : Unpacker
  pub b : List ℕ
  pub v : Verdict
  pub turns : Turns l before s b ended
  pub over : (turn s b ended).outcome ≡ outcome.Over v
  pub all : text ≡ before ++ (turn s b ended).text

-- where the program ends: a chain of turns up to the verdict
abbrev pub Ended : Type 0
Ended = (l : List ℕ) × (text : List ℕ) × (ended : Bool) × Told l text ended
