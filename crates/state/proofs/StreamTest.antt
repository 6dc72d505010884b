-- The soundness of a stream from the tests that code makes.
use mathlib.Core.Bool.{Bool, true, false, cond}
use mathlib.Core.List.{List}
use mathlib.Core.Path.{◌≡◌, refl, sym, ap, ◌∙◌}
use Prim.Native.Nat.{ℕ, ◌≤◌, ◌<◌}
use native.Mathlib.Omega.{arith}
use lib.Dec.{leb, ltb, eqb}
use lib.ListN.{length, take, get_or}
use lib.Seq.{length-take-le, take_all}
use borrow.Author.Tests.{leb-true, leb-false, le-ltb, ne_eqb}
use Rattle.commands.specs.Commands.{count, command_bytes}
use Rattle.commands.proofs.Table.{count_small}
use Rattle.stream.proofs.PendingLaws.{stream_test, sound_from_tests}
use Rattle.state.specs.declared.Stream.{Stream}
use Rattle.state.specs.Sound.{pending_of, sound_stream}

-- of n parameters in a list of 32, up to 32 are there: tests against a count of parameters give the same
held-length : (n : ℕ) (l : List ℕ) → length l ≡ 32
    → (n ≤ 32 → length (take n l) ≡ n) × (32 < n → length (take n l) ≡ 32)
held-length n l e = (λ h. length-take-le n l (omega arith), λ h. ap length (take_all n l (omega arith)) ∙ e)

ltb-held : (n m : ℕ) (l : List ℕ) → length l ≡ 32 → m ≤ 32 → ltb (length (take n l)) m ≡ ltb n m
ltb-held n m l e h = by (leb n 32) refl
  where
    by : (t : Bool) → leb n 32 ≡ t → ltb (length (take n l)) m ≡ ltb n m
    by true p = ap (λ (k : ℕ). ltb k m) ((held-length n l e).0 (leb-true n 32 p))
    by false p =
        let far = leb-false n 32 p in
        ap (λ (k : ℕ). ltb k m) ((held-length n l e).1 far) ∙ le-ltb 32 m h ∙ sym (le-ltb n m (omega arith))

none-held : (n : ℕ) (l : List ℕ) → length l ≡ 32 → eqb (length (take n l)) 0 ≡ eqb n 0
none-held n l e = by (leb n 32) refl
  where
    by : (t : Bool) → leb n 32 ≡ t → eqb (length (take n l)) 0 ≡ eqb n 0
    by true p = ap (λ (k : ℕ). eqb k 0) ((held-length n l e).0 (leb-true n 32 p))
    by false p =
        let far = leb-false n 32 p in
        ap (λ (k : ℕ). eqb k 0) ((held-length n l e).1 far) ∙ sym (ne_eqb n 0 (λ z. omega arith))

pub stream-sound : (s : Stream) → length s.held ≡ 32
    → stream_test (command_bytes s.queue) s.count s.dummy s.port ≡ sound_stream s
unfolding sound_stream pending_of
stream-sound s e =
    let b = get_or (command_bytes s.queue) 0 0 in
    let first = cond (eqb b 0) s.port b in
    rw (
      sym (ltb-held s.count (count first) s.held e (count_small first)),
      sym (none-held s.count s.held e),
    ) (sound_from_tests s.queue (take s.count s.held) s.dummy s.port)
