use Rattle.std.proofs.Common.{◌≡◌, ◌≤◌, ◌+◌, ◌*◌, ◌++◌, length, take}
use Rattle.listing.specs.Text.{number_line}
use Rattle.listing.specs.Buffer.{with_bytes}
use Rattle.readout.specs.Readout.{vertex_lines}
use Rattle.readout.proofs.put_vertices.Given as goal

abbrev pub invariant-loop-vertex : goal.invariant-loop-vertex
invariant-loop-vertex l =
    record {
      puts : l.text ≡ with_bytes l.fn.text (number_line l.name (length l.vertices) ++ vertex_lines (take l.vertex-index l.vertices));
      within : l.text.length ≤ l.fn.text.length + (length l.name + 11 + 60 * l.vertex-index);
    }
