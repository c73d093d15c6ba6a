-- What is left of a session.
use Prim.Native.Nat.{ℕ, ◌<◌}
use mathlib.Core.List.{List, [], ◌∷◌, ◌++◌}
use mathlib.Core.Path.{◌≡◌, refl, sym, ap, ◌∙◌}
use Rattle.std.specs.Prelude.{Option, Some, None, Result, Ok, Err, get_or, take}
use Rattle.exchange.specs.Exchange.{Exchange, done, bind}
use Rattle.ps2_answers.specs.declared.Failure.{Failure}
use Rattle.questions.specs.declared.Question.{Question}
use Rattle.ps2_answers.specs.declared.ReadPort.{ReadPort}
use Rattle.questions.specs.declared.Going.{Going}
use Rattle.questions.specs.declared.Going.TheVariants.{Writing, Sending, Submitting}
use Rattle.questions.specs.declared.Request.{Request}
use Rattle.questions.specs.Asked.{going, begun}
use Rattle.questions.specs.Steps.{after, wants, requested}
use Rattle.talks.specs.declared.Stop.{Stop}
use Rattle.talks.specs.declared.Stop.TheVariants.{Asks, Refused}
use Rattle.sessions.specs.declared.Operation.{Operation}
use Rattle.sessions.specs.declared.Ending.{Ending}
use Rattle.sessions.specs.Operations.{talk_of, refusal_told}
use Rattle.sessions.specs.Rounds.{Rounds, rounds, exchange_of, answered, past, shown, rest_of}
use Rattle.sessions.specs.Memory.{reply_in}
use Rattle.sessions.proofs.Past.{past_more, after_bind, wants_bind, still_asks, after_last, shows_given, shows_refused, shows_asked, not_end}
use Rattle.step_words.specs.declared.ends.Session.{Session}
use Rattle.step_words.specs.declared.ends.Advance.{Advance}
use Rattle.step_words.specs.declared.ends.Advance.TheVariants as Says
use Rattle.step_words.specs.Places.{place_in}
use Rattle.step_words.specs.Arguments.{operation_in}
use Rattle.exchange.specs.Keeping.{Kept}
use Rattle.ps2_kept.specs.declared.KeptBytes.{KeptBytes}
use Rattle.ps2_kept.specs.Added.{keeping_onto}
use Rattle.step_words.specs.Sessions.{session_in, kept_in, noting, ending_in, ended, rest, left_in, said_rest}
use Rattle.step_words.specs.Steps.{Said, StepIn}
use Rattle.step_words.proofs.Sessions.{no_place, running, parts, some_same}
use Rattle.step_words.proofs.Keeps.{keeps}

-- ---- at its end

abbrev pub Left : Rounds (Result Ending Failure) → Advance → List ℕ → List ℕ → Type 0
Left r a f p = (bind (exchange_of r) (λ r. done (ended r)) ≡ said_rest a f p) × Said a f p

ends_same : {m n : ℕ} → Says.Ends m ≡ Says.Ends n → m ≡ n
ends_same e = cc

asks_same : {q r : Request} → Says.Asks q ≡ Says.Asks r → q ≡ r
asks_same e = cc

ends_said : (f p : List ℕ) (e : Ending) {a : Advance} → place_in f ≡ None → ending_in f ≡ e → a ≡ Says.Ends e.refusal → Said a f p
ends_said f p e {a} h q s = record {
  asks = λ r z. cc;
  ends = λ n z. (no_place f h, ap (λ e. e.refusal) q ∙ ends_same (sym s ∙ z));
}

at_end : (x : Exchange (Result Ending Failure)) (r : Result Ending Failure) (f p : List ℕ) {a : Advance} → x ≡ done r → ending_in f ≡ ended r → a ≡ Says.Ends (ended r).refusal
    → bind x (λ r. done (ended r)) ≡ said_rest a f p
unfolding bind
at_end x r f p e q s = ap (λ x. bind x (λ r. done (ended r))) e ∙ ap done (sym q) ∙ ap (λ a. said_rest a f p) (sym s)

pub given_left : (r : Rounds (Result Ending Failure)) (f p : List ℕ) (e : Ending) {x : Result Ending Stop} {a : Advance} → x ≡ Ok e → x ≡ shown r
    → place_in f ≡ None → ending_in f ≡ e → a ≡ Says.Ends e.refusal → Left r a f p
given_left r f p e h s n q w = (at_end (exchange_of r) (Ok e) f p (shows_given r (sym s ∙ h)) q w, ends_said f p e n q w)

pub refused_left : (r : Rounds (Result Ending Failure)) (f p : List ℕ) (g : Failure) {x : Result Ending Stop} {a : Advance} → x ≡ Err (Refused g) → x ≡ shown r
    → place_in f ≡ None → ending_in f ≡ refusal_told g → a ≡ Says.Ends (refusal_told g).refusal → Left r a f p
refused_left r f p g h s n q w = (at_end (exchange_of r) (Err g) f p (shows_refused r (sym s ∙ h)) q w, ends_said f p (refusal_told g) n q w)

-- ---- while it runs

-- what a session asks is what its place asks
pub wants_rest : (s : Session) (p : List ℕ) → wants (rest s p) ≡ wants (going s.at)
wants_rest s p =
    wants_bind (rest_of (rounds (talk_of s.operation)) (take s.count p) s.at) (λ r. done (ended r))
    (still_asks (going s.at) (λ x. exchange_of (answered (past (rounds (talk_of s.operation)) (take s.count p)) x)) (not_end s.at))
    ∙ wants_bind (going s.at) (λ x. exchange_of (answered (past (rounds (talk_of s.operation)) (take s.count p)) x)) (not_end s.at)

pub rest_asks : (s : Session) (p : List ℕ) (e : Ending) → rest s p ≡ done e → ⊥
rest_asks s p e =
    still_asks (rest_of (rounds (talk_of s.operation)) (take s.count p) s.at) (λ r. done (ended r))
    (still_asks (going s.at) (λ x. exchange_of (answered (past (rounds (talk_of s.operation)) (take s.count p)) x)) (not_end s.at)) e

asks_said : (f p : List ℕ) (s : Session) (q : Request) {a : Advance} → session_in f ≡ Some s → wants (going s.at) ≡ requested q → a ≡ Says.Asks q → Said a f p
asks_said f p s q h w e = record {
  asks = λ r z. ap (λ x. wants (left_in x p)) h ∙ wants_rest s p ∙ w ∙ ap requested (asks_same (sym e ∙ z));
  ends = λ n z. cc;
}

-- the session that asks next
pub asks_left : (f p : List ℕ) (s : Session) (q : Request) → session_in f ≡ Some s → wants (going s.at) ≡ requested q
    → (rest s p ≡ said_rest (Says.Asks q) f p) × Said (Says.Asks q) f p
asks_left f p s q h w = (ap (λ x. left_in x p) (sym h), asks_said f p s q h w refl)

-- the question that is asked next
pub asked_left : (o : Operation) (n : ℕ) (f p : List ℕ) (q : Question) (g : Going) (w : Request) {x : Result Ending Stop} → x ≡ Err (Asks q) → x ≡ shown (past (rounds (talk_of o)) (take n p))
    → g ≡ begun q → operation_in (get_or f 0 0) (get_or f 1 0) ≡ Some o → place_in f ≡ Some g → get_or f 2 0 ≡ n → n < 224 → wants (going g) ≡ requested w
    → Left (past (rounds (talk_of o)) (take n p)) (Says.Asks w) f p
asked_left o n f p q g w h s b i j k l m =
    let t : session_in f ≡ Some (record { operation = o; count = n; at = g }) = running f o g n i j k l in
    let u = asks_left f p (record { operation = o; count = n; at = g }) w t m in (
      ap (λ x. bind x (λ r. done (ended r))) (shows_asked (past (rounds (talk_of o)) (take n p)) (sym s ∙ h)
          ∙ ap (λ g. bind (going g) (λ x. exchange_of (answered (past (rounds (talk_of o)) (take n p)) x))) (sym b)) ∙ u.0,
      u.1,
    )

-- ---- one byte

-- a place that is no wait: nothing that is read there is thrown away
module _ (k : KeptBytes) (byte : ℕ) where
  unthrown : (g g' : Going) → g ≡ g' → noting (wants (going g')) k byte ≡ k → k ≡ noting (wants (going g)) k byte
  unthrown g g' e h = sym (ap (λ g. noting (wants (going g)) k byte) e ∙ h)

  pub unthrown_writing : (g : Going) (p : ReadPort) (v : ℕ) → g ≡ Writing p v → k ≡ noting (wants (going g)) k byte
  unthrown_writing g p v e = unthrown g (Writing p v) e refl

  pub unthrown_sending : (g : Going) (v n : ℕ) → g ≡ Sending v n → k ≡ noting (wants (going g)) k byte
  unfolding bind
  unthrown_sending g v n e = unthrown g (Sending v n) e refl

  pub unthrown_submitting : (g : Going) (v : ℕ) → g ≡ Submitting v → k ≡ noting (wants (going g)) k byte
  unthrown_submitting g v e = unthrown g (Submitting v) e refl

  pub thrown_seeking : (g : Going) (k' : KeptBytes) (r : Request) → wants (going g) ≡ requested r → k' ≡ noting (requested r) k byte → k' ≡ noting (wants (going g)) k byte
  thrown_seeking g k' r e h = h ∙ ap (λ w. noting w k byte) (sym e)

pub goes_on : (s : Session) (g : Going) (p : List ℕ) (b : ℕ) → after (going s.at) b ≡ going g → after (rest s p) b ≡ rest (record { operation = s.operation; count = s.count; at = g }) p
goes_on s g p b e =
    let R : Option ℕ → Exchange (Result Ending Failure) = λ x. exchange_of (answered (past (rounds (talk_of s.operation)) (take s.count p)) x) in
    after_bind (bind (going s.at) R) (λ r. done (ended r)) b (still_asks (going s.at) R (not_end s.at)) (after_bind (going s.at) R b (not_end s.at) e)

pub replies_to : (s : Session) (r : Option ℕ) (p : List ℕ) (b : ℕ) → after (going s.at) b ≡ done r
    → after (rest s p) b ≡ bind (exchange_of (answered (past (rounds (talk_of s.operation)) (take s.count p)) r)) (λ r. done (ended r))
replies_to s r p b e =
    let R : Option ℕ → Exchange (Result Ending Failure) = λ x. exchange_of (answered (past (rounds (talk_of s.operation)) (take s.count p)) x) in
    after_bind (bind (going s.at) R) (λ r. done (ended r)) b (still_asks (going s.at) R (not_end s.at)) (after_last (going s.at) R b r (not_end s.at) e)

-- one reply more
pub more_known : (o : Operation) (l l' : List ℕ) (w : ℕ) (r : Option ℕ) {x : Exchange Ending} → l' ≡ l ++ (w ∷ []) → reply_in w ≡ r
    → bind (exchange_of (past (rounds (talk_of o)) l')) (λ r. done (ended r)) ≡ x → bind (exchange_of (answered (past (rounds (talk_of o)) l) r)) (λ r. done (ended r)) ≡ x
more_known o l l' w r p q e =
    ap (λ r. bind (exchange_of (answered (past (rounds (talk_of o)) l) r)) (λ r. done (ended r))) (sym q)
    ∙ ap (λ y. bind (exchange_of y) (λ r. done (ended r))) (sym (past_more (rounds (talk_of o)) l w))
    ∙ ap (λ l. bind (exchange_of (past (rounds (talk_of o)) l)) (λ r. done (ended r))) (sym p)
    ∙ e

-- the whole step, where the question goes on
module _ (f c b p f' c' b' : List ℕ) (byte : ℕ) (s : Session) (h : session_in f ≡ Some s) (k : kept_in c' b' ≡ noting (wants (going s.at)) (kept_in c b) byte) where
  of_it : {x : Exchange (Kept KeptBytes Ending)} → after (keeping_onto (kept_in c b) (rest s p)) byte ≡ x → (z : Session) → session_in f ≡ Some z → after (keeping_onto (kept_in c b) (rest z p)) byte ≡ x
  of_it m z e = let q : s ≡ z = some_same (sym h ∙ e) in ap (λ s. after (keeping_onto (kept_in c b) (rest s p)) byte) (sym q) ∙ m

  pub step_goes : (g : Going) (w : Request) → after (going s.at) byte ≡ going g → place_in f' ≡ Some g → get_or f' 0 0 ≡ get_or f 0 0 → get_or f' 1 0 ≡ get_or f 1 0 → get_or f' 2 0 ≡ get_or f 2 0
      → wants (going g) ≡ requested w → StepIn f c b p byte (Says.Asks w) f' c' b' p
  step_goes g w e l i j n v =
      let t = parts f s h in
      let r : session_in f' ≡ Some (record { operation = s.operation; count = s.count; at = g }) =
      running f' s.operation g s.count (ap (λ x. operation_in x (get_or f' 1 0)) i ∙ ap (operation_in (get_or f 0 0)) j ∙ t.operation) l (n ∙ t.count) t.room in
      let u = asks_left f' p (record { operation = s.operation; count = s.count; at = g }) w r v in
      record {
        malformed = λ z. cc;
        runs = λ z y x. cc;
        steps = of_it (keeps (kept_in c b) (kept_in c' b') (rest s p) (said_rest (Says.Asks w) f' p) byte (rest_asks s p) (wants_rest s p) k (goes_on s g p byte e ∙ u.0));
        says = u.1;
      }

  -- and where it has its reply
  pub step_replies : (p' : List ℕ) (x : Option ℕ) (r : Advance) → after (going s.at) byte ≡ done x
      → bind (exchange_of (answered (past (rounds (talk_of s.operation)) (take s.count p)) x)) (λ r. done (ended r)) ≡ said_rest r f' p' → Said r f' p' → (r ≡ Says.Malformed → ⊥)
      → StepIn f c b p byte r f' c' b' p'
  step_replies p' x r e l u v =
      record {
        malformed = λ z. cc;
        runs = λ z y o. v o;
        steps = of_it (keeps (kept_in c b) (kept_in c' b') (rest s p) (said_rest r f' p') byte (rest_asks s p) (wants_rest s p) k (replies_to s x p byte e ∙ l));
        says = u;
      }
