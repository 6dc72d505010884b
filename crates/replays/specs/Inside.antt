-- Inner: what the functions promise that put a report behind a text. No contract of another crate cites this, and a
-- reader need not believe it.
use Rattle.std.specs.Prelude.{List, ◌≡◌, ℕ, ◌+◌, ◌≤◌, ℤ}
use Rattle.polygons.specs.Buffers.{Buffered}
use Rattle.listing.specs.declared.Text.{Text}
use Rattle.listing.specs.Buffer.{with_bytes}

-- the report of b was put behind `old`, which gave `text`; what the caller's two buffers hold after
pub record PutsReport (b : Buffered (List ℕ)) (old text : Text) (vertices : List ℤ) (polygons : List ℕ) : Type 0 where
  pub text-is : text ≡ with_bytes old b.part
  pub within : text.length ≤ old.length + 433649
  pub vertices-are : vertices ≡ b.vertices
  pub polygons-are : polygons ≡ b.polygons
