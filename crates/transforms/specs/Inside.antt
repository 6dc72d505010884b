-- Inner: what a matrix command makes of one matrix. No call's contract cites this, and a reader need not believe it.
use Rattle.std.specs.Prelude.{List, ℕ, ℤ}
use Rattle.matrix.specs.Matrix.{unit, mul, matrix4x3, matrix3x3}
use Rattle.transforms.specs.declared.MatrixCommand.{MatrixCommand}
use Rattle.transforms.specs.declared.MatrixCommand.TheVariants.{Mode, Identity, Load4x4, Load4x3, Multiply4x4}
use Rattle.transforms.specs.declared.MatrixCommand.TheVariants.{Multiply4x3, Multiply3x3, Scale, Translate}
use Rattle.transforms.specs.Command.{numbers_of, scale_of, translation_of}

-- what a command makes of a current matrix; 10h leaves it
unfoldable pub acted : MatrixCommand → List ℕ → List ℤ → List ℤ
acted Mode p c = c
acted Identity p c = unit
acted Load4x4 p c = numbers_of p
acted Load4x3 p c = matrix4x3 (numbers_of p)
acted Multiply4x4 p c = mul (numbers_of p) c
acted Multiply4x3 p c = mul (matrix4x3 (numbers_of p)) c
acted Multiply3x3 p c = mul (matrix3x3 (numbers_of p)) c
acted Scale p c = mul (scale_of (numbers_of p)) c
acted Translate p c = mul (translation_of (numbers_of p)) c
