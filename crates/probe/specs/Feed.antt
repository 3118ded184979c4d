-- The feed of an ask, by its numbers.
use Rattle.std.specs.Prelude.{ℕ}
use Rattle.feeder.specs.declared.feed.Feed.{Feed}

-- two positions and a run
abbrev pub feed_of : ℕ → ℕ → ℕ → Feed
feed_of response other run = record { response = response; other = other; run = run }
