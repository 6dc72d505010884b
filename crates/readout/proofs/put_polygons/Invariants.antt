use Rattle.std.proofs.Common.{◌≡◌, ◌++◌, length, take}
use Rattle.listing.specs.Text.{number_line}
use Rattle.listing.specs.Buffer.{with_bytes}
use Rattle.readout.specs.Readout.{polygon_lines}
use Rattle.readout.proofs.put_polygons.Given as goal

abbrev pub invariant-loop-polygon : goal.invariant-loop-polygon
invariant-loop-polygon l =
    l.text ≡ with_bytes l.fn.text (number_line l.name (length l.polygons) ++ polygon_lines (take l.polygon-index l.polygons))
