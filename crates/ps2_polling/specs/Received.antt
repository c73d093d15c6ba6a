-- What becomes of the data bytes that a receiving reads: the words of the law that none is lost.
use Rattle.std.specs.Prelude.{Ok}
use Rattle.std.specs.Prelude.{ℕ, List, [], ◌∷◌, ◌++◌, ◌≡◌}
use Rattle.exchange.specs.Exchange.{p60, p64}
use Rattle.exchange.specs.Answer.{Answer, gives, refuses}
use Rattle.exchange.specs.Trace.{Access, brought, wrote}
use Rattle.ps2_bytes.specs.declared.response.DeviceToHostResponse.{DeviceToHostResponse}
use Rattle.ps2_bytes.specs.Responses.{response_read}
use Rattle.ps2_kept.specs.Thrown.{thrown_in}

-- The bytes that reads of port 60 brought, in order.
abbrev pub data_read : List Access → List ℕ
data_read [] = []
data_read (brought p60 b ∷ more) = b ∷ data_read more
data_read (brought p64 b ∷ more) = data_read more
data_read (wrote p v ∷ more) = data_read more

-- The byte that the answer is, where there is one.
pub data AnsweredBy : Answer DeviceToHostResponse → List ℕ → Type 0 where
  by_response : {b : ℕ} {r : DeviceToHostResponse} → response_read b ≡ Ok r
      → AnsweredBy (gives r) (b ∷ [])
  by_none : {n : ℕ} → AnsweredBy (refuses n) []

-- Of the data bytes that were read, all but the response
-- were thrown away, and are in the list of those that were.
pub record NothingLost (made : List Access) (a : Answer DeviceToHostResponse) : Type 0 where
  pub last : List ℕ
  pub answered : AnsweredBy a last
  pub all : data_read made ≡ thrown_in made ++ last
