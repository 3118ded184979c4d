use Prim.Native.Nat.{ℕ, ◌+◌, ◌-◌, ◌≤◌, ◌<◌}
use mathlib.Core.Path.{◌≡◌, ap}
use mathlib.Core.Bool.{false, ◌&&◌, not}
use mathlib.Core.List.{List, [], ◌∷◌}
use native.Mathlib.Omega.{arith}
use lib.ListN.{length, take, drop}
use lib.Dec.{ltb}
use Rattle.container.specs.Layout.{format_of, start, wide}
use Rattle.container.proofs.Formats.{lawful_of}
use Rattle.reader.specs.declared.contents.Contents.{Contents}
use Rattle.reader.specs.declared.track.Track.{Track}
use Rattle.reader.proofs.RecordsLaws.{none_written, one_written, one_fits}
use Rattle.reader.proofs.EndingCases.{Here, ended_here, gathered_here, ended_long, ended_later, long_sized, off_idle, off_narrow, ended_none, ended_over, ended_short, short_small}
use Rattle.reader.proofs.contents.Contents.write_ending.Goals.{Else-width-size, Joined-else-track-gt0, else-track-gt0-via-then-track-gt0+else-width-eq-WIDE, else-track-gt0-via-else-track-gt0}
use Rattle.reader.proofs.contents.Contents.write_ending.Goals as goal

-- the granule

abbrev here : Contents → Track → ℕ → Here
here k t g = record { format = k.format; container = k.container.now; carry = k.carry.now; starts = k.msgstart; track = t; g = g }

-- it lies inside the container

inside : (f g : ℕ) → g < 12 → start g + (format_of f).size g ≤ 256
inside f g low = (lawful_of f).inside g low

-- no message goes on

off : (c : Joined-else-track-gt0) → (ltb 0 c.args.track.owed && wide (format_of c.args.self.format) c.args.g) ≡ false
off c = let h = here c.args.self c.args.track c.args.g in
    elim c.else-track-gt0.branch [
      | else-track-gt0-via-then-track-gt0+else-width-eq-WIDE x ↦ off_narrow h c.measure_granule-width.ensures x.if-width-eq-WIDE.false
      | else-track-gt0-via-else-track-gt0 x ↦ off_idle h c.measure_granule-width.ensures x.if-track-gt0.false
    ]

-- a message that starts ends

abbrev short : Else-width-size → List ℕ
short c =
    let a = c.locate_granule-a.result in
    take ((a + c.measure_message-size.result) - a) (drop a c.args.self.container.now)

short_ends : (c : Else-width-size) → (ltb 0 c.args.track.owed && wide (format_of c.args.self.format) c.args.g) ≡ false
    → (ended_here (here c.args.self c.args.track c.args.g) ≡ short c ∷ []) × (length (short c) ≤ 20)
short_ends c started =
    let h = here c.args.self c.args.track c.args.g in
    let w = c.measure_granule-width.ensures in
    let starts = ap not c.if-not-starts_at.false in (
      ended_short h w started c.starts_at.ensures starts c.locate_granule-a.ensures c.measure_message-size.ensures c.if-width-size.false,
      short_small h w started c.starts_at.ensures starts c.locate_granule-a.ensures c.measure_message-size.ensures c.if-width-size.false ((lawful_of c.args.self.format).most c.args.g c.requires.from_le_g.1),
    )

pub write_long-requires-clause-size_in_bounds : goal.write_long-requires-clause-size_in_bounds
write_long-requires-clause-size_in_bounds c = let h = here c.args.self c.args.track c.args.g in
    let w = c.measure_granule-width.ensures in
    let sized = long_sized h w c.if-track-gt0.true c.if-width-eq-WIDE.true c.requires.ending c.if-track-le-WIDE.true in
    let ends = ended_long h w c.if-track-gt0.true c.if-width-eq-WIDE.true c.if-track-le-WIDE.true in
    omega (arith, sized.0, one_fits c.args.at c.args.room.now (ended_here h) (gathered_here h) ends (omega (arith, sized.0, sized.1)) c.requires.g_in_bounds)

pub returns-then-width-eq-WIDE-clause-room : goal.returns-then-width-eq-WIDE-clause-room
returns-then-width-eq-WIDE-clause-room c = let h = here c.args.self c.args.track c.args.g in
    (none_written c.args.at c.args.room.now (ended_here h) (ended_later h c.measure_granule-width.ensures c.if-track-gt0.true c.if-width-eq-WIDE.true c.if-track-le-WIDE.false)).1

pub returns-then-not-starts_at-clause-room : goal.returns-then-not-starts_at-clause-room
returns-then-not-starts_at-clause-room c = let h = here c.args.self c.args.track c.args.g in
    let none = ended_none h c.measure_granule-width.ensures (off (goal.at.returns-then-not-starts_at-clause-room c).Joined-else-track-gt0) c.starts_at.ensures (ap not c.if-not-starts_at.true) in
    (none_written c.args.at c.args.room.now (ended_here h) none).1

pub returns-then-width-size : goal.returns-then-width-size
returns-then-width-size c = let h = here c.args.self c.args.track c.args.g in
    let none = ended_over h c.measure_granule-width.ensures (off (goal.at.returns-then-width-size c).Joined-else-track-gt0) c.starts_at.ensures (ap not c.if-not-starts_at.false) c.locate_granule-a.ensures c.measure_message-size.ensures c.if-width-size.true in
    let both = none_written c.args.at c.args.room.now (ended_here h) none in
    record { end = both.0; room = both.1 }

pub write_short-requires : goal.write_short-requires
write_short-requires c = let at = goal.at.write_short-requires c in
    let e = short_ends at.Else-width-size (off at.Joined-else-track-gt0) in
    (e.1, one_fits c.args.at c.args.room.now (ended_here (here c.args.self c.args.track c.args.g)) (short at.Else-width-size) e.0 (omega (arith, e.1)) c.requires.g_in_bounds)

pub returns : goal.returns
returns c = let at = goal.at.returns c in
    let e = short_ends at.Else-width-size (off at.Joined-else-track-gt0) in
    let both = one_written c.args.at c.args.room.now (ended_here (here c.args.self c.args.track c.args.g)) (short at.Else-width-size) e.0 _ _ c.write_short.ensures.end c.write_short.ensures.room in
    record { end = both.0; room = both.1 }
