-- What a valid writer and a fill that is accepted say. Assumes nothing.
use Prim.Native.Nat.{ℕ, ◌%◌, ◌≤◌, ◌<◌}
use mathlib.Core.Path.{◌≡◌}
use mathlib.Core.Bool.{true, ◌&&◌}
use mathlib.Core.List.{List}
use lib.ListN.{length, drop}
use lib.Dec.{eqb, ltb, leb}
use borrow.Author.Tests.{leb-true, eqb-true, ltb-true}
use Rattle.lists.specs.Parts.{zeros}
use Rattle.lists.proofs.Tests.{and_left, and_right}
use Rattle.cause.specs.Checks.{first_fault, Accepted}
use Rattle.cause.proofs.CheckLaws.{accepted_pass, both_accepted}
use Rattle.container.specs.Grants.{plane_allowed}
use Rattle.container.specs.declared.grant.Grant.{Grant}
use Rattle.record.specs.Records.{list_fault}
use Rattle.writer.specs.Filling.{writer_ok, call_checks, fill_fault}
use Rattle.writer.specs.declared.writer.Writer.{Writer}

-- what a valid writer says
pub record Valid (w : Writer) : Type 0 where
  pub format : w.format < 2
  pub short : w.len ≤ 100
  pub granules : w.len % 20 ≡ 0

pub writer_ok_valid : (w : Writer) → writer_ok w ≡ true → Valid w
writer_ok_valid w e =
    let a = and_right (ltb w.format 2) (leb w.len 100 && (eqb (w.len % 20) 0 && zeros (drop w.len w.tail))) e in
    let b = and_right (leb w.len 100) (eqb (w.len % 20) 0 && zeros (drop w.len w.tail)) a in
    record {
      format = ltb-true w.format 2 (and_left (ltb w.format 2) (leb w.len 100 && (eqb (w.len % 20) 0 && zeros (drop w.len w.tail))) e);
      short = leb-true w.len 100 (and_left (leb w.len 100) (eqb (w.len % 20) 0 && zeros (drop w.len w.tail)) a);
      granules = eqb-true (w.len % 20) 0 (and_left (eqb (w.len % 20) 0) (zeros (drop w.len w.tail)) b);
    }

-- what a sound verdict says
pub record Callable (w : Writer) (l : List ℕ) (n : Grant) (size : ℕ) : Type 0 where
  pub valid : Valid w
  pub whole : size ≡ 256
  pub short : length l ≤ 4096
  pub plane : n.rp < 8

pub fill_callable : (w : Writer) (l : List ℕ) (n : Grant) (size : ℕ) → fill_fault w l n size ≡ Accepted → Callable w l n size
unfolding fill_fault call_checks
fill_callable w l n size e =
    let p = accepted_pass (call_checks w (length l) n size) (both_accepted (first_fault (call_checks w (length l) n size)) (list_fault l) e).0 in
    record {
      valid = writer_ok_valid w p.0;
      whole = eqb-true size 256 p.1.0;
      short = leb-true (length l) 4096 p.1.1.0;
      plane = ltb-true n.rp 8 (and_left (ltb n.rp 8) (plane_allowed n) p.1.1.1.0);
    }
