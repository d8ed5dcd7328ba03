use Rattle.pg_backend.proofs.Replying.SegmentsFitLog.{welcome_is_segment}
use Rattle.pg_backend.proofs.laws.welcome_is_segment.Goals as goal

pub returns : goal.returns
returns c = welcome_is_segment
