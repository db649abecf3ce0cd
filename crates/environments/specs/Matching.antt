-- A pattern matched with a value, and the names that it binds, in lent words.
use Rattle.std.specs.Prelude.{◌≡◌, List, [], ◌∷◌, ℕ, ◌+◌, ◌≤◌, length}
use Rattle.std.specs.declared.option.Option.{Option}
use Rattle.std.specs.declared.option.Option.TheVariants.{None, Some}
use Rattle.model.specs.Basics.{Res, refuse, done, or_else}
use Rattle.model.specs.Values.{Fit, at, is_pattern_leaf, binders, matches}
use Rattle.values.specs.declared.Bound as values
use Rattle.values.specs.declared.Value.{Value}
use Rattle.values.specs.Match.{view_bound}
use Rattle.sides.specs.Environments.{bound}

-- the words of the pattern at a place of the pool; none where none stands there
abbrev pub pattern_at : List ℕ → ℕ → List ℕ
pattern_at pool p = or_else (at is_pattern_leaf pool p) []

-- all words of an environment once names and values are bound, one after another, behind its first n names
unfoldable pub bound_all : List ℕ → (n : ℕ) → List ℕ → List (List ℕ) → List ℕ
bound_all e n [] vs = e
bound_all e n (x ∷ ns) [] = e
bound_all e n (x ∷ ns) (v ∷ vs) = bound_all (bound e n x v) (n + 1) ns vs

-- what is asked for the names ns to be bound to parts of the value v behind n names: words for them, and a part for each
pub record Bindable (e : List ℕ) (n : ℕ) (ns v : List ℕ) (b : values.Bound) : Type 0 where
  pub long : length e ≡ 144
  pub room : n + length ns ≤ 8
  pub short : length v ≤ 16
  pub each : length (view_bound v b) ≡ length ns

-- what is asked for a match with the pattern p: words for its names behind n names
pub record Matchable (e : List ℕ) (n : ℕ) (p : List ℕ) (v : Value) : Type 0 where
  pub long : length e ≡ 144
  pub room : n + length (binders p) ≤ 8
  pub short : v.len ≤ 16

-- how many names are in force after a match that was to bind the names ns behind n names; none where the pattern does not take
-- the value
unfoldable pub names_after : Res Fit → (n : ℕ) → List ℕ → Option ℕ
names_after (refuse k) n ns = None
names_after (done m) n ns = Some (n + length ns)

-- all words of the environment then: as they were where the pattern does not take the value
unfoldable pub words_after : Res Fit → List ℕ → (n : ℕ) → List ℕ → List ℕ
words_after (refuse k) e n ns = e
words_after (done m) e n ns = bound_all e n ns m.bound

-- r is the answer for the pattern p and the value v, and e' is e after it
pub record BindingIs (p v e : List ℕ) (n : ℕ) (e' : List ℕ) (r : Option ℕ) : Type 0 where
  pub count : r ≡ names_after (matches p 1 v) n (binders p)
  pub words : e' ≡ words_after (matches p 1 v) e n (binders p)
