use Rattle.state.specs.List.{list_of}
use Rattle.state.proofs.GeometryLaws.{geometry-ranges, at_most_3}
use Rattle.polygons.specs.Buffers.{buffered}
use Rattle.polygons.proofs.Keeps.{bounds}
use Rattle.geometry.proofs.run_geometry.Goals as goal

pub vertex_at-requires : goal.vertex_at-requires
vertex_at-requires c =
    let g = c.args.g.now in
    let r = geometry-ranges g c.requires.sound in record {
      bounds = bounds (buffered g c.args.vertices.now c.args.polygons.now) r c.requires.buffers_long;
      count_bound = (at_most_3 (list_of g.waiting.list) g.waiting.count r.waiting.few, r.colour);
    }
