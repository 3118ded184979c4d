-- The order in which messages come out again (document 02, K8).
use Rattle.std.specs.Prelude.{ℕ, ◌≡◌, List}
use Rattle.lists.specs.Reordering.{Reordered}
use Rattle.message.specs.Kinds.{pays}

-- "the same messages, each once, with those that pay one kind, REQ, RSP, SNP, DAT or nothing, in their order" (document 02, K8)
pub record SameMessages (f : ℕ) (out taken : List (List ℕ)) : Type 0 where
  pub by_kind : Reordered pays out taken
  -- in X no granule is passed over, and all are in the same order
  pub in_x : f ≡ 0 → out ≡ taken
