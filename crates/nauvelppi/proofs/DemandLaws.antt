-- Demands 2 and 3 of the calls that C makes, from those of the calls on words.
use mathlib.Core.Bool.{Bool, true, false, cond}
use mathlib.Core.List.{List}
use mathlib.Core.Path.{◌≡◌, refl, sym, ap, subst, ◌∙◌}
use Prim.Native.Nat.{ℕ, ◌*◌, ◌/◌, ◌%◌}
use native.Mathlib.Omega.{arith}
use lib.Dec.{eqb}
use lib.ListN.{length, take}
use borrow.Author.Tests.{eqb-true, eq-eqb}
use Rattle.words.specs.Words.{words_of, bytes_of, over}
use Rattle.words.proofs.Over.{take-over}
use Rattle.words.proofs.Words.{length-bytes_of, length-words_of, words-bytes, bytes-words}
use Rattle.words.proofs.Below.{below_at, words_below}
use Rattle.stream.specs.declared.OutputAnswer.{OutputAnswer}
use Rattle.stream.specs.Output.{Output, refusal, on_bytes, Stores}
use Rattle.stream.specs.Pack.{pack}
use Rattle.stream.specs.Unpack.{unpack}
use Rattle.stream.proofs.OutputLaws.{stored-words}
use Rattle.stream.proofs.WordBounds.{packed_below}
use Rattle.equivalence.specs.RoundTrip.{RoundTrip}
use Rattle.equivalence.proofs.CallLaws.{sides_demand3}
use Rattle.equivalence.proofs.RoundTripLaws.{calls_demand2}
use Rattle.nauvelppi.specs.Bytes.{on_all_bytes, StoresBytes}
use Rattle.nauvelppi.specs.Demands.{PackedForC, packed_bytes, Demand3ForC, Demand2ForC}

-- ---- a call on bytes, as one on words

-- input and output are whole words
on-words : (f : ℕ → List ℕ → Output) (size : ℕ) (input : List ℕ) → size % 4 ≡ 0 → length input % 4 ≡ 0
    → on_all_bytes f size input ≡ f (size / 4) (words_of input)
unfolding on_all_bytes on_bytes
on-words f size input a b = rw (eq-eqb (size % 4) 0 a, eq-eqb (length input % 4) 0 b)

-- where the call is accepted, they are
record Whole (f : ℕ → List ℕ → Output) (size : ℕ) (input : List ℕ) : Type 0 where
  output : size % 4 ≡ 0
  whole : length input % 4 ≡ 0
  is : on_all_bytes f size input ≡ f (size / 4) (words_of input)

accepted-whole : (f : ℕ → List ℕ → Output) (size : ℕ) (input : List ℕ) → (on_all_bytes f size input).number ≡ 0
    → Whole f size input
unfolding on_all_bytes on_bytes
accepted-whole f size input = by (eqb (size % 4) 0) (eqb (length input % 4) 0) refl refl
  where
    by : (t u : Bool) → eqb (size % 4) 0 ≡ t → eqb (length input % 4) 0 ≡ u
        → (cond t (cond u (f (size / 4) (words_of input)) (refusal 7 0)) (refusal 7 0)).number ≡ 0 → Whole f size input
    by true true p q z =
        let a = eqb-true (size % 4) 0 p in
        let b = eqb-true (length input % 4) 0 q in
        record { output = a; whole = b; is = on-words f size input a b }
    by true false p q z = absurd (omega arith)
    by false u p q z = absurd (omega arith)

-- what it stored, read back
bytes_back : {o : Output} {r : OutputAnswer} {old new : List ℕ} → StoresBytes o r old new
    → take (4 * r.length) new ≡ bytes_of o.words
bytes_back {o} {r} {old} {new} s =
    let n : 4 * r.length ≡ length (bytes_of o.words) =
    ap (λ (x : OutputAnswer). 4 * x.length) s.answer ∙ sym (length-bytes_of o.words) in
    rw (n, s.buffer) (take-over (bytes_of o.words) old)

-- the same answer, of a call on words that stored the same in the words of the output
on-word-lists : {o : Output} {r : OutputAnswer} {old new : List ℕ} → StoresBytes o r old new → (blank : List ℕ)
    → Stores o r blank (over o.words blank)
on-word-lists s blank = record { answer = s.answer; buffer = refl }

-- ---- an accepted log

module _ {log : List ℕ} {packed : OutputAnswer} {old output : List ℕ} (p : PackedForC log packed old output) where
  read : Whole pack (length old) log
  read =
      accepted-whole pack (length old) log
      (sym (ap (λ (x : OutputAnswer). x.number) p.packs.answer) ∙ p.accepted)

  -- what the packer gives for its words
  abbrev o : Output
  o = pack (length old / 4) (words_of log)

  stores : StoresBytes o packed old output
  stores = subst (λ (x : Output). StoresBytes x packed old output) read.is p.packs

  accepted : o.number ≡ 0
  accepted = sym (ap (λ (x : OutputAnswer). x.number) stores.answer) ∙ p.accepted

  bytes-are : packed_bytes packed output ≡ bytes_of o.words
  bytes-are = bytes_back stores

  -- its words come back from their bytes
  words_are : words_of (bytes_of o.words) ≡ o.words
  words_are =
      words-bytes o.words
      (below_at _ o.words
      (packed_below (length old / 4) (words_of log) (words_below log p.are-bytes) accepted))

pub demand3_for_c : Demand3ForC
demand3_for_c log packed old output s t p b =
    sides_demand3 (length old / 4) (accepted p) (ap words_of (bytes-are p) ∙ words_are p) packed.length
    (ap (λ (x : OutputAnswer). x.length) (stores p).answer) b

pub demand2_for_c : Demand2ForC
demand2_for_c log packed unpacked old output blank back p u whole room =
    let ws = words_of log in
    let q = o p in
    let input : length (packed_bytes packed output) % 4 ≡ 0 =
    rw (bytes-are p, length-bytes_of q.words) (omega arith) in
    let list : on_all_bytes unpack (length blank) (packed_bytes packed output) ≡ unpack (length blank / 4) q.words =
    on-words unpack (length blank) (packed_bytes packed output) whole input
    ∙ ap (unpack (length blank / 4)) (ap words_of (bytes-are p) ∙ words_are p) in
    let x : Output = unpack (length blank / 4) q.words in
    let stored : StoresBytes x unpacked blank back =
    subst (λ (y : Output). StoresBytes y unpacked blank back) list u in
    let packs = on-word-lists (stores p) (words_of old) in
    let unpacks = on-word-lists stored (words_of blank) in
    let trip : RoundTrip ws packed unpacked (words_of old) (over q.words (words_of old)) (words_of blank)
    (over x.words (words_of blank)) = record {
      packs = rw (length-words_of old) packs;
      accepted = p.accepted;
      unpacks = rw (length-words_of blank, stored-words packs) unpacks;
      room = omega (arith, length-words_of log, length-words_of blank, room);
    } in
    let told = calls_demand2 trip in
    let long : 4 * unpacked.length ≡ length log =
    omega (arith, told.log_length, length-words_of log, (read p).whole) in
    let bytes : take (length log) back ≡ bytes_of x.words =
    ap (λ (n : ℕ). take n back) (sym long) ∙ bytes_back stored in
    record {
      number = told.number;
      log_length = long;
      log_back = bytes ∙ ap bytes_of (sym (stored-words unpacks) ∙ told.log_back);
      same_log = λ z.
          bytes ∙ ap bytes_of (sym (stored-words unpacks) ∙ told.same_log z)
          ∙ bytes-words log (read p).whole (below_at 256 log p.are-bytes);
    }
