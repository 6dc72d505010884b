use Prim.Native.Nat.{◌≤◌}
use native.Mathlib.Omega.{arith}
use Rattle.listing.proofs.PutLaws.{puts_kept, puts_both}
use Rattle.state.specs.List.{list_of}
use Rattle.state.proofs.GeometryLaws.{at_most_3, geometry-ranges}
use Rattle.polygons.specs.Buffers.{buffered}
use Rattle.polygons.specs.Bounds.{Bounds}
use Rattle.polygons.proofs.Keeps.{bounds}
use Rattle.readout.specs.Readout.{vertices_text, polygons_text, lists_text}
use Rattle.readout.proofs.put_lists.Goals as goal
use Rattle.readout.proofs.put_lists.Goals.{Start}

-- the counts and the buffers
within : (c : Start) → Bounds (buffered c.args.g.now c.args.vertices.now c.args.polygons.now)
within c =
    bounds (buffered c.args.g.now c.args.vertices.now c.args.polygons.now)
    (geometry-ranges c.args.g.now c.requires.sound) c.requires.buffers_long

-- at most three vertices wait
few : (c : Start) → c.args.g.now.waiting.count ≤ 3
few c =
    let w = c.args.g.now.waiting in
    omega (arith, at_most_3 (list_of w.list) w.count (geometry-ranges c.args.g.now c.requires.sound).waiting.few)

pub put_waiting-requires : goal.put_waiting-requires
put_waiting-requires c =
    record { few = few (goal.at.put_waiting-requires c).Start; room = omega (arith, c.requires.room) }

pub first_records-requires : goal.first_records-requires
first_records-requires c =
    let b = within (goal.at.first_records-requires c).Start in
    (omega arith, (omega arith, omega (arith, b.vertices_used, b.vertices-long)))

pub put_vertices-requires : goal.put_vertices-requires
put_vertices-requires c =
    let start = (goal.at.put_vertices-requires c).Start in
    let b = within start in
    record {
      few = omega (arith, c.first_records.ensures.len, b.vertices_used, b.vertex-room);
      room = omega (
        arith,
        c.first_records.ensures.len,
        b.vertices_used,
        b.vertex-room,
        c.put_waiting.ensures.within,
        puts_kept _ _ c.put_waiting.ensures.puts,
      );
    }

pub first_records-requires-2 : goal.first_records-requires-2
first_records-requires-2 c =
    let b = within (goal.at.first_records-requires-2 c).Start in
    (omega arith, (omega arith, omega (arith, b.polygons_used, b.polygons-long)))

pub put_polygons-requires : goal.put_polygons-requires
put_polygons-requires c =
    let start = (goal.at.put_polygons-requires c).Start in
    let b = within start in
    record {
      few = omega (arith, c.first_records-2.ensures.len, b.polygons_used, b.polygon-room);
      room = omega (
        arith,
        c.first_records.ensures.len,
        c.first_records-2.ensures.len,
        b.vertices_used,
        b.vertex-room,
        b.polygons_used,
        b.polygon-room,
        c.put_waiting.ensures.within,
        c.put_vertices.ensures.within,
        puts_kept _ _ c.put_waiting.ensures.puts,
        puts_kept _ _ c.put_vertices.ensures.puts,
      );
    }

pub returns-clause-puts : goal.returns-clause-puts
unfolding lists_text vertices_text polygons_text
returns-clause-puts c =
    puts_both _ _ _
    (puts_both _ _ _
    c.put_waiting.ensures.puts
    (rw (c.first_records.ensures.len, c.first_records.ensures.records) at c.put_vertices.ensures.puts))
    (rw (c.first_records-2.ensures.len, c.first_records-2.ensures.records) at c.put_polygons.ensures.puts)

pub returns-clause-within : goal.returns-clause-within
returns-clause-within c =
    let b = within (goal.at.returns-clause-within c).Start in
    omega (
      arith,
      c.first_records.ensures.len,
      c.first_records-2.ensures.len,
      b.vertices_used,
      b.vertex-room,
      b.polygons_used,
      b.polygon-room,
      c.put_waiting.ensures.within,
      c.put_vertices.ensures.within,
      c.put_polygons.ensures.within,
    )
