-- The grant form (document 01, "Container bytes"): its five bytes, its reserved bits and the ShC/RP rule.
use Rattle.std.specs.Prelude.{ℕ, ◌/◌, ◌%◌, Bool, ◌&&◌, ◌||◌, not, List, eqb, ltb}
use Rattle.container.specs.Layout.{Format, header}
use Rattle.container.specs.declared.grant.Grant.{Grant}

-- the grant of a form: ShC in bit 0 and RP in bits 1-3 of its first byte, then the REQ, RSP, SNP and DAT counts
abbrev pub grant_of : ℕ → ℕ → ℕ → ℕ → ℕ → Grant
grant_of a req rsp snp dat = record { shc = eqb (a % 2) 1; rp = a / 2 % 8; req = req; rsp = rsp; snp = snp; dat = dat }

-- P2 to P6 are a grant form
abbrev pub header_grant : Format → List ℕ → Grant
header_grant fm c = grant_of (header fm c 2) (header fm c 3) (header fm c 4) (header fm c 5) (header fm c 6)

-- ShC 1 requires RP 0
abbrev pub plane_allowed : Grant → Bool
plane_allowed n = not n.shc || eqb n.rp 0

-- the first byte of a form: its high half is reserved zero, and ShC 1 requires RP 0
abbrev pub form_ok : ℕ → Bool
form_ok a = ltb a 16 && plane_allowed (grant_of a 0 0 0 0)

-- the four counts are zero
abbrev pub no_counts : Grant → Bool
no_counts n = eqb n.req 0 && (eqb n.rsp 0 && (eqb n.snp 0 && eqb n.dat 0))

-- the high halves of P1 and P2, and P7 to P9, are reserved zero
abbrev pub reserved_ok : Format → List ℕ → Bool
reserved_ok fm c =
    ltb (header fm c 1) 16 && (ltb (header fm c 2) 16 && (eqb (header fm c 7) 0 && (eqb (header fm c 8) 0 && eqb (header fm c 9) 0)))
