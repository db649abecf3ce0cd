-- `test_schedules::lists::repeat` meets its contract. The loop's invariant: the words are there so many times.
use Rattle.test_schedules.specs.Lists.{Added, times}
use Rattle.test_schedules.proofs.lists.repeat.Given as goal

abbrev pub invariant-loop : goal.invariant-loop
invariant-loop l = Added l.initial.list l.initial.end (times l.counter l.words) l.end l.list
