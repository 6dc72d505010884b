-- How a sum of products is held in the code: what a reader need not believe, since no contract of the crates above
-- `matrix` cites it. Document 02, T-03, "from 16-bit halves: no product of matrix or vertex numbers there has a factor
-- over 16 bits or a result over 32". Only bits 12 to 43 of an exact sum are kept, so its 48 low bits will do.
use Rattle.std.specs.Prelude.{ℕ, ◌+◌, ◌-◌, ◌*◌, ◌%◌, ◌^◌, List, map, ℤ, pos, negsuc, ◌+ℤ◌}
use Rattle.products.specs.declared.Sum.{Sum}

-- what n stands for in offset binary: n less 2 ^ 31
abbrev pub number : ℕ → ℤ
number n = pos n +ℤ negsuc (2 ^ 31 - 1)

-- and of an array
abbrev pub numbers : List ℕ → List ℤ
numbers l = map number l

-- the sum's 48 low bits: the upper halves' products count from bit 32 on, the middle ones from bit 16; and as
-- x * a = (x + 2 ^ 31) * (a + 2 ^ 31) - 2 ^ 31 * ((x + 2 ^ 31) + (a + 2 ^ 31)) + 2 ^ 62,
-- each factor in offset binary is taken off 2 ^ 31 times
abbrev pub held : ℕ → ℕ → ℕ → ℕ → ℕ
held upper middle lower factors =
    (upper * 2 ^ 32 + middle * 2 ^ 16 + lower + factors * (2 ^ 48 - 2 ^ 31)) % 2 ^ 48

abbrev pub sum_of : Sum → ℕ
sum_of s = held s.upper s.middle s.lower s.factors
