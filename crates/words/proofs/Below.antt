-- Lists whose numbers are all below a bound.
use mathlib.Core.List.{List, [], ◌∷◌, ◌++◌}
use Prim.Native.Nat.{ℕ, zero, suc, ◌^◌, ◌<◌}
use native.Mathlib.Omega.{arith}
use lib.ListN.{length, get_or}
use Rattle.words.specs.Words.{words_of, AllBelow}

pub below_append : (n : ℕ) (xs ys : List ℕ) → AllBelow n xs → AllBelow n ys → AllBelow n (xs ++ ys)
below_append n [] ys h k = k
below_append n (x ∷ xs) ys h k = (h.0, below_append n xs ys h.1 k)

pub below_parts : (n : ℕ) (xs ys : List ℕ) → AllBelow n (xs ++ ys) → AllBelow n xs × AllBelow n ys
below_parts n [] ys h = (tt, h)
below_parts n (x ∷ xs) ys h = let k = below_parts n xs ys h.1 in ((h.0, k.0), k.1)

pub below_at : (n : ℕ) (l : List ℕ) → AllBelow n l → (k : ℕ) → k < length l → get_or l k 0 < n
below_at n [] h k i = absurd (omega (arith, i))
below_at n (x ∷ l) h zero i = h.0
below_at n (x ∷ l) h (suc k) i = below_at n l h.1 k (omega (arith, i))

-- the words of bytes
pub words_below : (bs : List ℕ) → AllBelow 256 bs → AllBelow (2 ^ 32) (words_of bs)
unfolding words_of
words_below [] h = tt
words_below (a ∷ []) h = tt
words_below (a ∷ b ∷ []) h = tt
words_below (a ∷ b ∷ c ∷ []) h = tt
words_below (a ∷ b ∷ c ∷ d ∷ bs) h =
    (omega (arith, h.0, h.1.0, h.1.1.0, h.1.1.1.0), words_below bs h.1.1.1.1)
