use Rattle.std.proofs.Common.{length}
use Rattle.bench_lang.proofs.count_requests.Given as goal

abbrev pub decreases-loop-numbered : goal.decreases-loop-numbered
decreases-loop-numbered l = length l.requests
