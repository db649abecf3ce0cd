-- No more runs differ than were replayed.
use Rattle.std.proofs.Common.{◌≤◌}
use Rattle.corpus_test.proofs.replay_all.Given as goal

abbrev pub invariant-loop-k : goal.invariant-loop-k
invariant-loop-k l = l.differ ≤ l.k
