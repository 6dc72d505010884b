-- Odd numbers.
use Rattle.std.specs.Prelude.{Bool, ℕ, ◌%◌, eqb}

abbrev pub is_odd : ℕ → Bool
is_odd n = eqb (n % 2) 1
