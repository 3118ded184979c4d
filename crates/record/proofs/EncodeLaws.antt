-- A number as bytes, group by group. Assumes nothing.
use Prim.Native.Nat.{ℕ, zero, suc, ◌+◌, ◌-◌, ◌*◌, ◌/◌, ◌%◌, ◌^◌, ◌≤◌, ◌<◌}
use mathlib.Core.Path.{◌≡◌, refl, sym, ap, ◌∙◌, subst}
use mathlib.Core.Bool.{true, false}
use mathlib.Core.List.{List, [], ◌∷◌}
use mathlib.Core.Logic.{⊎_elim}
use native.Mathlib.Omega.{arith}
use native.Mathlib.Nat.{pow-suc}
use lib.ListN.{length, get_or, set, drop, replicate, length-drop, length-replicate}
use lib.Seq.{drop-drop, get_or-drop}
use lib.Dec.{ltb}
use borrow.Author.Tests.{lt-ltb, le-ltb, ltb-true, ltb-false}
use Rattle.lists.specs.Parts.{pad}
use Rattle.lists.proofs.Tests.{cases}
use Rattle.lists.proofs.PartLaws.{length_pad, get_d_pad}
use Rattle.lists.proofs.Fill.{grown, grown_more, grown_pad}
use Rattle.record.specs.Number.{groups, number, encoded}
use Rattle.record.specs.declared.number.Encoded.{Encoded}

groups_length : (k n : ℕ) → (length (groups k n) ≤ k) × (0 < k → 0 < length (groups k n))
groups_length zero n = (omega arith, λ h. h)
groups_length (suc k) n =
    let h = groups_length k (n / 128) in
    ⊎_elim (λ (t : ltb n 128 ≡ true). rw t (omega arith, λ _. omega arith)) (λ (t : ltb n 128 ≡ false). rw t (omega arith, λ _. omega arith)) (cases (ltb n 128))

-- len groups are written, and rest is what the groups behind them hold
pub record Encoding (value : ℕ) (bytes : List ℕ) (rest len : ℕ) : Type 0 where
  pub few : len ≤ 4
  pub small : rest < 128 ^ (5 - len)
  pub left : drop len (number value) ≡ groups (5 - len) rest
  pub made : bytes ≡ grown (pad 5 (number value)) (replicate 5 0) len

pub encoding_starts : (value : ℕ) → value < 128 ^ 5 → Encoding value (replicate 5 0) value 0
unfolding number
encoding_starts value h = record { few = omega arith; small = h; left = refl; made = refl }

number_length : (value : ℕ) → length (number value) ≤ 5
unfolding number
number_length value = (groups_length 5 value).0

pad_length : (value : ℕ) → length (pad 5 (number value)) ≡ 5
pad_length value = length_pad 5 (number value) (number_length value)

-- one group more: b is the next byte of the number
store : (value len b : ℕ) (bytes : List ℕ) → len < 5 → bytes ≡ grown (pad 5 (number value)) (replicate 5 0) len → get_or (number value) len 0 ≡ b
    → set bytes len b ≡ grown (pad 5 (number value)) (replicate 5 0) (len + 1)
store value len b bytes h e q =
    let g : get_or (pad 5 (number value)) len 0 ≡ b = get_d_pad 5 (number value) len ∙ q in
    ap (λ (l : List ℕ). set l len b) e
    ∙ ap (set (grown (pad 5 (number value)) (replicate 5 0) len) len) (sym g)
    ∙ grown_more (pad 5 (number value)) (replicate 5 0) len 0 (rw (pad_length value) h) (rw (length-replicate {A = ℕ} 5 0) h)

-- the next byte of the number is the first of what is left
next_byte : (value len b : ℕ) (r : List ℕ) → drop len (number value) ≡ b ∷ r → get_or (number value) len 0 ≡ b
next_byte value len b r e =
    let z : len + 0 ≡ len = omega arith in
    subst (λ (i : ℕ). get_or (number value) i 0 ≡ b) z (sym (get_or-drop len (number value) 0 0) ∙ ap (λ (l : List ℕ). get_or l 0 0) e)

module _ (value : ℕ) (bytes : List ℕ) (rest len : ℕ) (h : Encoding value bytes rest len) where
  pub encoding_more : 128 ≤ rest → Encoding value (set bytes len (128 + rest % 128)) (rest / 128) (len + 1)
  encoding_more big =
      let few = h.few in
      let more : 5 - len ≡ suc (5 - (len + 1)) = omega arith in
      let t : ltb rest 128 ≡ false = le-ltb rest 128 big in
      let l : drop len (number value) ≡ (128 + rest % 128) ∷ groups (5 - (len + 1)) (rest / 128) = h.left ∙ rw (more, t) in
      let s : rest < 128 ^ (5 - (len + 1)) * 128 = rw (more, pow-suc 128 (5 - (len + 1))) at h.small in
      record {
        few = enough s;
        small = omega arith;
        left = sym (drop-drop 1 len (number value)) ∙ ap (drop 1) l;
        made = store value len (128 + rest % 128) bytes (omega arith) h.made (next_byte value len (128 + rest % 128) (groups (5 - (len + 1)) (rest / 128)) l);
      }
    where
      enough : rest < 128 ^ (5 - (len + 1)) * 128 → len + 1 ≤ 4
      enough s = ⊎_elim (λ (e : ltb len 4 ≡ true). let k = ltb-true len 4 e in omega arith) (λ (e : ltb len 4 ≡ false). absurd (never e)) (cases (ltb len 4))
        where
          never : ltb len 4 ≡ false → ⊥
          never e =
              let k : 4 ≤ len = ltb-false len 4 e in
              let few = h.few in
              let z : 5 - (len + 1) ≡ 0 = omega arith in
              let s0 : rest < 128 ^ 0 * 128 = rw z at s in
              omega arith

  pub encoding_last : rest < 128 → ◌≡◌ {A = Encoded} (record { bytes = set bytes len rest; len = len + 1 }) (encoded value)
  encoding_last low =
      let few = h.few in
      let more : 5 - len ≡ suc (5 - (len + 1)) = omega arith in
      let t : ltb rest 128 ≡ true = lt-ltb rest 128 low in
      let l : drop len (number value) ≡ rest ∷ [] = h.left ∙ rw (more, t) in
      let n : length (number value) ≡ len + 1 = long (ap length l) in
      let b : set bytes len rest ≡ pad 5 (number value) =
      store value len rest bytes (omega arith) h.made (next_byte value len rest [] l)
      ∙ ap (grown (pad 5 (number value)) (replicate 5 0)) (sym n) ∙ grown_pad 5 (number value) in
      λ i. record { bytes = b i; len = sym n i }
    where
      long : length (drop len (number value)) ≡ 1 → length (number value) ≡ len + 1
      long e = let k = length-drop len (number value) in omega arith
