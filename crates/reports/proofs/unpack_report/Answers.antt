use native.Mathlib.Omega.{arith}
use Rattle.listing.proofs.PutLaws.{reported}
use Rattle.reports.proofs.unpack_report.Goals as goal

pub returns-clause-text_after : goal.returns-clause-text_after
returns-clause-text_after c =
    let put = c.put_report.ensures in
    (reported _ _ 294929 c.new-report.ensures put.puts put.within (omega arith)).bytes
