-- The bytes of a line of hex, each at its place. Assumes nothing.
use Prim.Native.Nat.{ℕ, zero, suc, ◌+◌, ◌*◌, ◌/◌, ◌%◌, ◌<◌}
use mathlib.Core.Path.{◌≡◌, refl, sym, ap, ◌∙◌, subst}
use mathlib.Core.List.{List, [], ◌∷◌}
use native.Mathlib.Omega.{arith}
use lib.ListN.{length, get_or, set, length-append}
use Rattle.lists.specs.Parts.{put}
use Rattle.lists.proofs.Fill.{Copied, copied_more, copied_all}
use Rattle.io.specs.Digits.{hex_digit_ascii}
use Rattle.text.specs.Hex.{hex_of, message_line}

length_hex : (m : List ℕ) → length (hex_of m) ≡ 2 * length m
length_hex [] = refl
length_hex (b ∷ m) = let h = length_hex m in omega arith

pub length_line : (m : List ℕ) → length (message_line m) ≡ 2 * length m + 1
length_line m = length-append (hex_of m) (10 ∷ []) ∙ omega (arith, length_hex m)

-- the digits of byte i
high_digit : (m : List ℕ) (i : ℕ) → i < length m → get_or (message_line m) (2 * i) 0 ≡ hex_digit_ascii (get_or m i 0 / 16)
high_digit [] i h = absurd (omega arith)
high_digit (b ∷ m) zero h = refl
high_digit (b ∷ m) (suc i) h =
    let e : 2 * suc i ≡ suc (suc (2 * i)) = omega arith in
    ap (λ (k : ℕ). get_or (message_line (b ∷ m)) k 0) e ∙ high_digit m i (omega arith)

low_digit : (m : List ℕ) (i : ℕ) → i < length m → get_or (message_line m) (2 * i + 1) 0 ≡ hex_digit_ascii (get_or m i 0 % 16)
low_digit [] i h = absurd (omega arith)
low_digit (b ∷ m) zero h = refl
low_digit (b ∷ m) (suc i) h =
    let e : 2 * suc i + 1 ≡ suc (suc (2 * i + 1)) = omega arith in
    ap (λ (k : ℕ). get_or (message_line (b ∷ m)) k 0) e ∙ low_digit m i (omega arith)

line_end : (m : List ℕ) → get_or (message_line m) (2 * length m) 0 ≡ 10
line_end [] = refl
line_end (b ∷ m) =
    let e : 2 * suc (length m) ≡ suc (suc (2 * length m)) = omega arith in
    ap (λ (k : ℕ). get_or (message_line (b ∷ m)) k 0) e ∙ line_end m

-- the digits of the first i bytes stand at the front of d, over d₀
abbrev pub Hexed : List ℕ → List ℕ → List ℕ → ℕ → Type 0
Hexed m d₀ d i = Copied (message_line m) d₀ d (2 * i)

module _ (m d₀ d : List ℕ) (i : ℕ) (room : 2 * length m < length d₀) (h : Hexed m d₀ d i) where
  -- one byte more
  pub hexed_more : i < length m → (a b : ℕ) → a ≡ hex_digit_ascii (get_or m i 0 / 16) → b ≡ hex_digit_ascii (get_or m i 0 % 16)
      → Hexed m d₀ (set (set d (2 * i) a) (2 * i + 1) b) (i + 1)
  hexed_more l a b ea eb =
      let n = length_line m in
      let one = copied_more (message_line m) d₀ d (2 * i) h (omega arith) (omega arith) a (ea ∙ sym (high_digit m i l)) in
      let two = copied_more (message_line m) d₀ (set d (2 * i) a) (2 * i + 1) one (omega arith) (omega arith) b (eb ∙ sym (low_digit m i l))
      in
      let e : 2 * i + 1 + 1 ≡ 2 * (i + 1) = omega arith in
      subst (Copied (message_line m) d₀ (set (set d (2 * i) a) (2 * i + 1) b)) e two

-- the line end behind the last
pub hexed_all : (m d₀ d : List ℕ) → 2 * length m < length d₀ → Hexed m d₀ d (length m) → set d (2 * length m) 10 ≡ put 0 (message_line m) d₀
hexed_all m d₀ d room h =
    let n = length_line m in
    let all = copied_more (message_line m) d₀ d (2 * length m) h (omega arith) (omega arith) 10 (sym (line_end m)) in
    copied_all (message_line m) d₀ (set d (2 * length m) 10) (2 * length m + 1) all (omega arith)
