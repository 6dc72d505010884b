-- The port writes of a log and their values.
use mathlib.Core.List.{List, [], ◌∷◌, ◌++◌}
use mathlib.Core.Path.{◌≡◌, refl, ap, ◌∙◌}
use Prim.Native.Nat.{ℕ, zero, suc, ◌/◌, ◌<◌}
use native.Mathlib.Omega.{arith}
use lib.ListN.{length, get_or, take, drop}
use lib.Seq.{take-suc}
use Rattle.std.specs.Simd.{first_chunks}
use Rattle.stream.specs.Command.{Write, write}
use Rattle.stream.specs.Read.{writes}
use Rattle.packer.specs.Inside.{writes_of, values, write_at}

-- ---- the writes, as the code reads them

-- a log's words two by two
chunks-writes : (k : ℕ) (log : List ℕ) → k ≡ length log / 2 → writes_of (first_chunks 2 k log) ≡ writes log
chunks-writes zero [] e = refl
chunks-writes zero (a ∷ []) e = refl
chunks-writes zero (a ∷ v ∷ l) e = absurd (omega arith)
chunks-writes (suc k) [] e = absurd (omega arith)
chunks-writes (suc k) (a ∷ []) e = absurd (omega arith)
chunks-writes (suc k) (a ∷ v ∷ l) e = ap (λ (ws : List Write). write a v ∷ ws) (chunks-writes k l (omega arith))

pub writes-of-chunks : (log : List ℕ) → writes_of (first_chunks 2 (length log / 2) log) ≡ writes log
writes-of-chunks log = chunks-writes (length log / 2) log refl

pub length-writes_of : (log : List (List ℕ)) → length (writes_of log) ≡ length log
length-writes_of [] = refl
length-writes_of (p ∷ ps) = ap suc (length-writes_of ps)

pub write-of : (log : List (List ℕ)) (i : ℕ) (d : List ℕ) → i < length log
    → write_at (writes_of log) i ≡ write (get_or (get_or log i d) 0 0) (get_or (get_or log i d) 1 0)
write-of [] i d h = absurd (omega arith)
write-of (p ∷ ps) zero d h = refl
write-of (p ∷ ps) (suc i) d h = write-of ps i d (omega arith)

pub address-of : (log : List (List ℕ)) (i : ℕ) → i < length log
    → (write_at (writes_of log) i).address ≡ get_or (get_or log i []) 0 0
address-of log i h = ap (λ (w : Write). w.address) (write-of log i [] h)

-- some writes of a log
pub part-writes : (log : List (List ℕ)) (k n : ℕ) → writes_of (take n (drop k log)) ≡ take n (drop k (writes_of log))
part-writes [] k n = empty k n
  where
    empty : (k n : ℕ) → writes_of (take n (drop k [])) ≡ take n (drop k [])
    empty zero zero = refl
    empty zero (suc n) = refl
    empty (suc k) zero = refl
    empty (suc k) (suc n) = refl
part-writes (p ∷ ps) zero zero = refl
part-writes (p ∷ ps) zero (suc n) =
    ap (λ (ws : List Write). write (get_or p 0 0) (get_or p 1 0) ∷ ws) (part-writes ps zero n)
part-writes (p ∷ ps) (suc k) n = part-writes ps k n

-- ---- values

pub length-values : (l : List Write) → length (values l) ≡ length l
length-values [] = refl
length-values (w ∷ l) = ap suc (length-values l)

pub value_at : (l : List Write) (i : ℕ) → i < length l → get_or (values l) i 0 ≡ (write_at l i).value
value_at [] i h = absurd (omega arith)
value_at (w ∷ l) zero h = refl
value_at (w ∷ l) (suc i) h = value_at l i (omega arith)

values-append : (l k : List Write) → values (l ++ k) ≡ values l ++ values k
values-append [] k = refl
values-append (w ∷ l) k = ap (λ (x : List ℕ). w.value ∷ x) (values-append l k)

-- one value more
pub values-more : (l : List Write) (j : ℕ) → j < length l
    → values (take (suc j) l) ≡ values (take j l) ++ (get_or l j (write 0 0)).value ∷ []
values-more l j h =
    ap values (take-suc l j (write 0 0) h) ∙ values-append (take j l) (get_or l j (write 0 0) ∷ [])
