-- What a script must hold before a polling may give up: the words of the laws on 4, 5, 8 and 9.
use Rattle.std.specs.Prelude.{true, false, ℕ, suc, ◌≤◌, ◌<◌, List, ◌∷◌, ◌≡◌, length, get_or}
use Rattle.bits.specs.Bits.{bit}
use Rattle.ps2_bytes.specs.Responses.{response_byte}
use Rattle.ps2_layouts.specs.Status.{output_buffer_full}
use Rattle.ps2_bytes.specs.declared.response.DeviceToHostResponse.{DeviceToHostResponse}

-- The script begins with n bytes that have P, one for each read.
pub record FirstBytes (P : ℕ → Type 0) (n : ℕ) (script : List ℕ) : Type 0 where
  pub there : n ≤ length script
  pub each : (i : ℕ) → i < n → P (get_or script i 0)

-- The script begins with n polls that bring nothing: each a status byte with bit 0 clear, or one
-- with bit 0 set and a data byte that is thrown away. Such a byte uses up its poll.
pub data SilentPolls (ThrownAway : ℕ → Type 0) : ℕ → List ℕ → Type 0 where
  over : {script : List ℕ} → SilentPolls ThrownAway 0 script
  no_data : {n status : ℕ} {script : List ℕ} → bit output_buffer_full status ≡ false
      → SilentPolls ThrownAway n script
      → SilentPolls ThrownAway (suc n) (status ∷ script)
  thrown_away : {n status b : ℕ} {script : List ℕ} → bit output_buffer_full status ≡ true
      → ThrownAway b → SilentPolls ThrownAway n script
      → SilentPolls ThrownAway (suc n) (status ∷ b ∷ script)

-- A byte that is none of 00, AA, EE, FA, FC, FD, FE and FF.
abbrev pub NoResponse : ℕ → Type 0
NoResponse b = (r : DeviceToHostResponse) → b ≡ response_byte r → ⊥
