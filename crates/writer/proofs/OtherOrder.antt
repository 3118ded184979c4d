-- Messages that come out in another order than they were taken, as far as the granules of a format allow. Assumes nothing.
use Prim.Native.Nat.{ℕ, ◌<◌}
use mathlib.Core.Path.{◌≡◌}
use mathlib.Core.Bool.{Bool, true, false, ◌&&◌}
use mathlib.Core.List.{List, ◌++◌}
use lib.ListN.{length}
use Rattle.lists.specs.Reordering.{Reordered}
use Rattle.lists.proofs.Tests.{never_both}
use Rattle.lists.proofs.ReorderLaws.{same_order, reordered_on, reordered_through, reordered_length, one_class}
use Rattle.container.specs.Layout.{Format, format_of, wide}
use Rattle.message.specs.Kinds.{pays}
use Rattle.message.specs.Places.{placed}
use Rattle.message.proofs.HeadLaws.{Message}
use Rattle.message.proofs.KindLaws.{pays_apart}
use Rattle.writer.specs.SameMessages.{SameMessages}

-- classes of messages such that what is placed in a smaller granule and a longer message have none in common
abbrev pub Apart : Format → (ℕ → List ℕ → Bool) → Type 0
Apart fm classes = (g : ℕ) (x y : List ℕ) → wide fm g ≡ false → placed fm g x ≡ true → Message y → 20 < length y → (k : ℕ) → (classes k x && classes k y) ≡ false

-- messages in another order, for all such classes
pub record OtherOrder (fm : Format) (a b : List (List ℕ)) : Type 0 where
  pub over : (classes : ℕ → List ℕ → Bool) → Apart fm classes → Reordered classes a b

module _ {fm : Format} where
  pub unchanged : {a b : List (List ℕ)} → a ≡ b → OtherOrder fm a b
  unchanged e = record { over = λ classes apart. same_order classes e }

  pub other_order_on : {a b c : List (List ℕ)} → OtherOrder fm a b → OtherOrder fm b c → OtherOrder fm a c
  other_order_on p q = record { over = λ classes apart. reordered_on classes (p.over classes apart) (q.over classes apart) }

  pub other_order_through : (a m b c d e : List (List ℕ)) → OtherOrder fm (a ++ m) b → OtherOrder fm (c ++ d) (m ++ e) → OtherOrder fm ((a ++ c) ++ d) (b ++ e)
  other_order_through a m b c d e p q = record { over = λ classes apart. reordered_through classes a m b c d e (p.over classes apart) (q.over classes apart) }

-- kinds are such classes
pub by_kinds : {fm : Format} {a b : List (List ℕ)} → OtherOrder fm a b → Reordered pays a b
by_kinds {fm = fm} p = p.over pays (pays_apart fm)

pub other_order_length : {fm : Format} {a b : List (List ℕ)} → OtherOrder fm a b → length a ≡ length b
other_order_length p = reordered_length pays (by_kinds p)

-- where every granule has 20 bytes, one class for all messages is such a class
pub in_wide : {fm : Format} {a b : List (List ℕ)} → ((g : ℕ) → wide fm g ≡ true) → OtherOrder fm a b → a ≡ b
in_wide all p = one_class (p.over (λ k m. true) (λ g x y w. absurd (never_both w (all g))))

pub same_messages : (f : ℕ) {out taken : List (List ℕ)} → OtherOrder (format_of f) out taken → SameMessages f out taken
same_messages f p = record { by_kind = by_kinds p; in_x = λ (e : f ≡ 0). in_wide (λ g. rw e) p }
