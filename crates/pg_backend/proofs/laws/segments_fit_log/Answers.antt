use Rattle.pg_backend.proofs.Replying.SegmentsFitLog.{segments_fit_log}
use Rattle.pg_backend.proofs.laws.segments_fit_log.Goals as goal

pub returns : goal.returns
returns c = segments_fit_log
