-- The number of a call's answer: a refusal has one, and 0 is none.
use mathlib.Core.Bool.{true, false, false≢true}
use mathlib.Core.Path.{◌≡◌, refl, sym}
use native.Mathlib.Omega.{arith}
use Rattle.std.specs.Prelude.{Option, Some, None, is_some}
use Rattle.stream.specs.declared.Refusal.{Refusal}
use Rattle.stream.specs.declared.Refusal.TheVariants.{NotSound, ListTooShort, Hole, OtherKindPending, NoPort, OtherPort}
use Rattle.stream.specs.declared.Refusal.TheVariants.{NoInput, Incomplete, TooLong, OutputTooShort, NoRoom}
use Rattle.stream.specs.Refusal.{number_of, call_number}

pub number-not-0 : (r : Refusal) → number_of r ≡ 0 → ⊥
number-not-0 NotSound e = omega (arith, e)
number-not-0 ListTooShort e = omega (arith, e)
number-not-0 Hole e = omega (arith, e)
number-not-0 OtherKindPending e = omega (arith, e)
number-not-0 NoPort e = omega (arith, e)
number-not-0 OtherPort e = omega (arith, e)
number-not-0 NoInput e = omega (arith, e)
number-not-0 Incomplete e = omega (arith, e)
number-not-0 TooLong e = omega (arith, e)
number-not-0 OutputTooShort e = omega (arith, e)
number-not-0 NoRoom e = omega (arith, e)

pub some_number : (r : Option Refusal) → is_some r ≡ true → call_number r ≡ 0 → ⊥
some_number None t = absurd (false≢true t)
some_number (Some r) t = number-not-0 r

pub none-number : (r : Option Refusal) → is_some r ≡ false → call_number r ≡ 0
none-number None f = refl
none-number (Some r) f = absurd (false≢true (sym f))
