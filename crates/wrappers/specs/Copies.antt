-- The channels on which copies leave, by whether there are any.
use Rattle.std.specs.Prelude.{Bool, cond, List, [], ◌∷◌, ℕ}

-- `log`, or none
abbrev pub log_if : Bool → List ℕ
log_if logging = cond logging (3 ∷ []) []
