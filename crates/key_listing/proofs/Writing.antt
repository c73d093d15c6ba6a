-- What a call put into its room, written: whoever appends that, then the listing of what is left, has appended the whole listing.
use mathlib.Core.Path.{◌≡◌}
use mathlib.Core.List.{List}
use Prim.Native.Nat.{ℕ, ◌<◌, ◌≤◌}
use lib.ListN.{length, take}
use lib.Seq.{take-append_seam, take_all}
use Rattle.std.specs.Prelude.{Option, None, Some}
use Rattle.std.specs.Io.KnownBytes.{Appends}
use Rattle.std.proofs.KnownBytes.{Appends-trans}
use Rattle.exchange.specs.Parts.{part}
use Rattle.keyboard_record.specs.declared.KeyboardHandler.{KeyboardHandler}
use Rattle.buffer.specs.Buffer.{Holds}
use Rattle.key_listing.specs.Listing.{call_text, record_after, bytes_left, listing_from}
use Rattle.key_listing.proofs.Calls.{answer, last_is, more_is}
use Rattle.key_listing.proofs.Listing.{call_fits}

-- a buffer that has room for a text holds all of it
holds_whole : {text buffer after : List ℕ} {n : ℕ} → Holds text buffer n after → length text ≤ length buffer → take n after ≡ text
holds_whole {text} {buffer} h l = rw (h.bytes, h.counted, take_all (length buffer) text l) (take-append_seam text _)

module _ (h : KeyboardHandler) (s : List ℕ) (i : 0 < bytes_left h s) {room after : List ℕ} {n : ℕ} (enough : length room ≡ 26) (p : Holds (call_text h s) room n after) (a b : Option (List ℕ)) (w : Appends a b (take n after)) where
  wrote : Appends a b (call_text h s)
  wrote = rw (holds_whole p (rw enough (call_fits h s))) at w

  pub wrote_last : None ≡ answer h s → Appends a b (listing_from h s)
  wrote_last e = rw (last_is h s i e) wrote

  pub wrote_more : (k : Option (List ℕ)) {u : ℕ} → Some u ≡ answer h s → Appends b k (listing_from (record_after h s) (part u s)) → Appends a k (listing_from h s)
  wrote_more k e r = rw (more_is h s i e) (Appends-trans a b k _ _ wrote r)
