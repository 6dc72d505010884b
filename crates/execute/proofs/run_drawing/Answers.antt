use Rattle.execute.proofs.Clips.{at_hand, drawn}
use Rattle.execute.proofs.run_drawing.Goals as goal

pub returns-in_default : goal.returns-in_default
returns-in_default c =
    let a = c.args in
    let got = c.get_or_insert_with-clip in
    let is = at_hand a.clip.now _ got.result.now c.requires.clip_known (λ e. e) got.ensures.cases in
    record {
      ran = drawn a.command a.p.now a.registers.now a.vertices.now a.polygons.now got.result.now _ _ _ is c.run_geometry.ensures;
      clip_known = is;
    }
