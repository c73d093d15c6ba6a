-- The record of a new mouse, and what the code's poll for an identity is worth.
use Rattle.std.specs.Prelude.{Option, Some, None}
use Rattle.exchange.specs.Answer.{Answer, gives}
use Rattle.exchange.specs.Repeat.{Turn, found, again}
use Rattle.ps2_bytes.specs.declared.response.MouseId.{MouseId}
use Rattle.ps2_bytes.specs.declared.response.MouseId.TheVariants.{Zero}
use Rattle.ps2_mouse.specs.declared.PS2Mouse.{PS2Mouse}

-- The identity of a PS/2 mouse is 0 until a sequence of rates has changed it.
abbrev pub fresh_mouse : PS2Mouse
fresh_mouse = record { id = Zero }

-- An identity that a poll brought ends the search; where there is none another is made.
abbrev pub identified : Option MouseId → Turn (Answer MouseId)
identified (Some id) = found (gives id)
identified None = again
