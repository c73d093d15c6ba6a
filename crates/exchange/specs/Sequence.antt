-- One play after another.
use Rattle.std.specs.Prelude.{ℕ, ◌+◌, ◌*◌, List, ◌++◌, take, drop}
use Rattle.exchange.specs.Exchange.{Exchange, End, yields, lacks, Played, played, play}

-- A play that comes after u bytes used and w pairs written, with the log's front that is behind it.
abbrev pub onward : {A : Type 0} → ℕ → ℕ → List ℕ → Played A → Played A
onward u w front o = played o.end (u + o.used) (w + o.pairs) (front ++ o.log)

-- What follows a play on this script: where it yields, the next goes on with the bytes and the log
-- that are left; where it lacks a byte or room, that ends both.
unfoldable pub follow : {A B : Type 0} → End A → ℕ → ℕ → List ℕ → List ℕ → (A → Exchange B)
    → Played B
follow (yields a) u w log script next =
    onward u w (take (2 * w) log) (play (next a) (drop u script) (drop (2 * w) log))
follow (lacks x) u w log script next = played (lacks x) u w log
