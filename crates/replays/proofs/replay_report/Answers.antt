use native.Mathlib.Omega.{arith}
use Rattle.listing.proofs.PutLaws.{reported}
use Rattle.replays.proofs.replay_report.Goals as goal

pub returns-clause-reports : goal.returns-clause-reports
returns-clause-reports c =
    let put = c.put_report.ensures in
    let r = reported _ _ 433649 c.new-report.ensures put.text-is put.within (omega arith) in
    record { count = r.count; text = r.bytes; vertices-are = put.vertices-are; polygons-are = put.polygons-are }
