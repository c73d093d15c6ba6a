-- What port operations hand back that answer by numbers:
-- the counts, and the answer with the counts left out.
use Rattle.std.specs.Prelude.{ℕ, List, ◌≡◌}
use Rattle.exchange.specs.Exchange.{End}
use Rattle.port_words.specs.declared.PortWords.{PortWords}
use Rattle.port_words.specs.declared.KeptWords.{KeptWords}
use Rattle.port_words.specs.declared.PacketWords.{PacketWords}
use Rattle.controller_words.specs.declared.InitializedWords.{InitializedWords}
use Rattle.theorem_cut_scripts.specs.CutShort.{Handed, handed}

-- Where an answer has its counts, and the answer with 0 in their places.
pub record Parts (R : Type 0) : Type 0 where
  pub used : R → ℕ
  pub pairs : R → ℕ
  pub others : R → R

abbrev pub handed_in : {R : Type 0} → Parts R → R → List ℕ → Handed R
handed_in parts r l = handed (parts.others r) (parts.used r) (parts.pairs r) l

-- One that has no count of pairs, of an operation that writes none.
abbrev pub handed_read : {R : Type 0} → Parts R → R → List ℕ → Handed R
handed_read parts r l = handed (parts.others r) (parts.used r) 0 l

-- What a play is told by has its counts there, and goes by the play's end otherwise.
pub record UsedTold {A R : Type 0} (parts : Parts R) (tell : End A → ℕ → ℕ → R) : Type 0 where
  pub used_is : (e : End A) (u w : ℕ) → parts.used (tell e u w) ≡ u
  pub others_are : (e : End A) (u w : ℕ) → parts.others (tell e u w) ≡ tell e 0 0

pub record CountsTold {A R : Type 0} (parts : Parts R) (tell : End A → ℕ → ℕ → R) : Type 0 where
  pub used : UsedTold parts tell
  pub pairs_are : (e : End A) (u w : ℕ) → parts.pairs (tell e u w) ≡ w

-- ---- the parts of each kind of answer

abbrev pub port_parts : Parts PortWords
port_parts =
    record {
      used = λ r. r.used;
      pairs = λ r. r.pairs;
      others =
          λ r. record { refusal = r.refusal; port = r.port; used = 0; pairs = 0; value = r.value };
    }

abbrev pub kept_parts : Parts KeptWords
kept_parts =
    record {
      used = λ r. r.used;
      pairs = λ r. r.pairs;
      others = λ r. record {
        refusal = r.refusal;
        port = r.port;
        used = 0;
        pairs = 0;
        count = r.count;
        others = r.others;
        bytes = r.bytes;
      };
    }

abbrev pub packet_parts : Parts PacketWords
packet_parts =
    record {
      used = λ r. r.used;
      pairs = λ _. 0;
      others = λ r. record {
        refusal = r.refusal;
        port = r.port;
        used = 0;
        buttons = r.buttons;
        x = r.x;
        y = r.y;
        wheel = r.wheel;
      };
    }

abbrev pub init_parts : Parts InitializedWords
init_parts =
    record {
      used = λ r. r.used;
      pairs = λ r. r.pairs;
      others = λ r. record {
        refusal = r.refusal;
        port = r.port;
        used = 0;
        pairs = 0;
        controller = r.controller;
      };
    }

-- ---- an answer with a lent record's numbers beside it

pub record WithWords : Type 0 where
  pub answer : PortWords
  pub words : List ℕ

abbrev pub with_words : PortWords → List ℕ → WithWords
with_words r ws = record { answer = r; words = ws }

abbrev pub handed_with : PortWords → List ℕ → List ℕ → Handed WithWords
handed_with r ws l = handed (with_words (port_parts.others r) ws) r.used r.pairs l
