-- The states to start from.
use Rattle.std.specs.Prelude.{ℕ}
use Rattle.test_states.specs.declared.Start.{Start}
use Rattle.test_states.specs.declared.Start.TheVariants.{Pipeline, Filter, AllMinted, Logging}

-- the number of its wrapper: 1 the filter, 2 the pipeline, 3 the logging wrapper
abbrev pub wrapper_of : Start → ℕ
wrapper_of Pipeline = 2
wrapper_of Filter = 1
wrapper_of AllMinted = 2
wrapper_of Logging = 3
