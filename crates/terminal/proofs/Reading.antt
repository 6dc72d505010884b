-- Two reads, one behind the other.
use Rattle.std.proofs.Common.{List, ◌++◌, ℕ, ◌+◌, ◌≡◌, ◌≤◌, None, Some, ap, sym, ◌∙◌, length, take, drop, drop_at, length-take-le, arith}
use Rattle.std.proofs.Common.{append_assoc, subst}
use Rattle.std.proofs.Math.Seq.{take-add, take-append-le}
use Rattle.std.proofs.lemmas.Slice.{take-put_mid_below}
use Rattle.std.specs.declared.option.Option.{Option}
use Rattle.std.specs.Io.KnownBytes.{Consumes}
use borrow.Rule.Slice.PartMut.{put_mid, post_of}

-- bs was read, then cs
consumed : (a b c : Option (List ℕ)) (bs cs : List ℕ) → Consumes a b bs → Consumes b c cs → Consumes a c (bs ++ cs)
consumed None b c bs cs p q = tt
consumed (Some x) None c bs cs p q = absurd p
consumed (Some x) (Some y) None bs cs p q = absurd q
consumed (Some x) (Some y) (Some z) bs cs p q = p ∙ ap (λ l. bs ++ l) q ∙ sym (append_assoc bs cs z)

-- what a buffer begins with, of which k bytes from at on were lent to a read that gave n
begins : (at k n : ℕ) (xs ys : List ℕ) → at ≤ length xs → n ≤ length ys
    → take (at + n) (put_mid at k xs ys) ≡ take at xs ++ take n ys
begins at k n xs ys within fits =
    take-add at n (put_mid at k xs ys)
    ∙ ap (λ l. l ++ take n (drop at (put_mid at k xs ys))) (take-put_mid_below at k xs ys at (omega arith) within)
    ∙ ap (λ l. take at xs ++ take n l) (drop_at (take at xs) (ys ++ post_of at k xs) at (length-take-le at xs within))
    ∙ ap (λ l. take at xs ++ l) (take-append-le n ys (post_of at k xs) fits)

-- the bytes before at were given before that read
pub read_more : (a b c : Option (List ℕ)) (at k n : ℕ) (xs ys : List ℕ) → at ≤ length xs → n ≤ length ys
    → Consumes a b (take at xs) → Consumes b c (take n ys) → Consumes a c (take (at + n) (put_mid at k xs ys))
read_more a b c at k n xs ys within fits before read =
    subst (Consumes a c) (sym (begins at k n xs ys within fits)) (consumed a b c (take at xs) (take n ys) before read)
